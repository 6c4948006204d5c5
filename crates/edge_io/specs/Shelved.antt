-- What a shelf holds.
use Rattle.std.specs.Prelude.{ℕ, List, [], ◌∷◌, ◌++◌, Option, Some, None}
use Rattle.edge_io.specs.Faults.{one_more}

-- an instance that is finished: its number, its files (identifier and bytes) and its manifest
pub record Finished : Type 0 where
  pub number : ℕ
  pub files : List (ℕ × List ℕ)
  pub manifest : List ℕ

-- the finished instance, if there is one, the number and the files of the part since `begin`, and how many calls were accepted;
-- that count stands still at the end of its type
pub record Shelved : Type 0 where
  pub done : Option Finished
  pub number : ℕ
  pub files : List (ℕ × List ℕ)
  pub accepted : ℕ

-- a shelf with nothing on it, of which nothing was asked
abbrev pub bare : Shelved
bare = record { done = None; number = 0; files = []; accepted = 0 }

-- no finished instance, and a part with this number and no file
abbrev pub begun : Shelved → ℕ → Shelved
begun s number = record { done = None; number = number; files = []; accepted = one_more s.accepted }

-- the file stands at the part's end
abbrev pub with_file : Shelved → ℕ → List ℕ → Shelved
with_file s toi body = record { done = s.done; number = s.number; files = s.files ++ (toi, body) ∷ []; accepted = one_more s.accepted }

-- the part, with its manifest, is the finished instance
abbrev pub finished : Shelved → List ℕ → Shelved
finished s manifest = record {
  done = Some (record { number = s.number; files = s.files; manifest = manifest });
  number = s.number;
  files = s.files;
  accepted = one_more s.accepted;
}
