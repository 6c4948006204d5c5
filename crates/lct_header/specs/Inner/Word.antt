-- The first word of a header by computing.
use Rattle.std.specs.Prelude.{◌/◌, ◌%◌, ◌==◌, List, ℕ, slice_index}
use Rattle.lct_header.specs.Word.{FirstWord}

abbrev pub word_in : List ℕ → FirstWord
word_in bytes = record {
  c = slice_index bytes 0 / 4 % 4;
  s = slice_index bytes 1 / 128;
  o = slice_index bytes 1 / 32 % 4;
  h = slice_index bytes 1 / 16 % 2;
  close_session = slice_index bytes 1 / 2 % 2 == 1;
  close_object = slice_index bytes 1 % 2 == 1;
  words = slice_index bytes 2;
  codepoint = slice_index bytes 3;
}
