-- the files so far are copied
use Rattle.std.proofs.Common.{◌≡◌, take}
use Rattle.carousel_cid.proofs.file_list.copied.Given as goal

abbrev pub invariant-loop-file : goal.invariant-loop-file
invariant-loop-file l = l.out.items ≡ take l.file-index l.files
