-- Files with names.
use Rattle.std.specs.Prelude.{ℕ, List, [], ◌∷◌, Option, Some, None, String, string_bytes, bytes_eq, Vec, if◌then◌else◌}
use Rattle.std.specs.declared.alloc.Global.{Global}

-- the bytes of the first file with this name
abbrev pub found_in : List (String Global × Vec ℕ Global) → List ℕ → Option (List ℕ)
found_in [] name = None
found_in (f ∷ fs) name = if bytes_eq (string_bytes f.0) name then Some f.1.items else found_in fs name
