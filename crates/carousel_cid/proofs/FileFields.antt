-- The fields that the writer gives a file.
use Rattle.std.proofs.Common.{◌≡◌, ℕ, ◌+◌, ◌<◌, ◌≤◌, ◌^◌, List, [], ◌++◌, Option, Some, None, length, length-append, arith}
use Rattle.std.specs.Prelude.{unwrap_or}
use Rattle.std.specs.Fmt.{decimal}
use Rattle.std.proofs.lemmas.Fmt.{length-decimal-le}
use Rattle.meta_text.specs.Fields.{line_of, written}
use Rattle.carousel_cid.specs.KnownFields.{location_name, type_name, length_name}
use Rattle.carousel_cid.specs.File.{file_fields}

pub length_line : (name value : List ℕ) → length (line_of (name, value)) ≡ length name + 2 + length value + 2
length_line name value = simp length-append (omega arith)

-- their text is little longer than location and type
pub file_fields_length : (location : List ℕ) (kind : Option (List ℕ)) (size : ℕ) → size < 2 ^ 64
    → length (written (file_fields location kind size)) ≤ length location + length (unwrap_or kind []) + 100
file_fields_length location None size small =
    let digits = length-decimal-le 20 size (omega arith) (omega arith) small in
    let size_line = line_of (length_name, decimal size) in
    omega (
      arith,
      length_line location_name location,
      length_line length_name (decimal size),
      length-append (line_of (location_name, location)) (size_line ++ []),
      length-append size_line [],
    )
file_fields_length location (Some kind) size small =
    let digits = length-decimal-le 20 size (omega arith) (omega arith) small in
    let size_line = line_of (length_name, decimal size) in
    let type_line = line_of (type_name, kind) in
    omega (
      arith,
      length_line location_name location,
      length_line type_name kind,
      length_line length_name (decimal size),
      length-append (line_of (location_name, location)) (type_line ++ (size_line ++ [])),
      length-append type_line (size_line ++ []),
      length-append size_line [],
    )
