-- the lines of the files before this one are added
use Rattle.std.proofs.Common.{◌≡◌, ◌++◌, take}
use Rattle.std.specs.Prelude.{flat_map, string_bytes}
use Rattle.run_receive.specs.Texts.{file_lines}
use Rattle.run_receive.proofs.manifest.push_files.Given as goal

abbrev pub invariant-loop-file : goal.invariant-loop-file
invariant-loop-file l = string_bytes l.text ≡ string_bytes l.fn.text ++ flat_map file_lines (take l.file-index l.files)
