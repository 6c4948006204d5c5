-- The front of a list, and each of it.
use Rattle.std.specs.Prelude.{ℕ, Bool, false, if◌then◌else◌, List, [], ◌∷◌}
pub use Rattle.carousel_cid.specs.Fronts.{first_of, after_first}

-- each of a list
abbrev pub Each : {A : Type 0} → (A → Type 0) → List A → Type 0
Each P [] = Unit {0}
Each P (x ∷ xs) = P x × Each P xs

-- the first of them passes
abbrev pub starts : (ℕ → Bool) → List ℕ → Bool
starts f [] = false
starts f (t ∷ ts) = f t

-- what stands behind those in front that pass
abbrev pub behind : (ℕ → Bool) → List ℕ → List ℕ
behind f [] = []
behind f (t ∷ ts) = if f t then behind f ts else t ∷ ts
