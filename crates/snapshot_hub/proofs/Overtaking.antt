-- Of operations that each overtake all before, the last stands.
use Rattle.std.proofs.Common.{◌≡◌, List, [], ◌∷◌, ◌++◌, refl}
use Rattle.std.specs.Prelude.{fold}

pub last_stands : {A B : Type 0} (f : B → A) (s : A) (xs : List B) (x : B) → fold (λ (_ : A) (y : B). f y) s (xs ++ x ∷ []) ≡ f x
last_stands f s [] x = refl
last_stands f s (y ∷ xs) x = last_stands f (f y) xs x
