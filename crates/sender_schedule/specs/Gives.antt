-- What a call gives of a list of what is left.
use Rattle.std.specs.Prelude.{◌≡◌, List, [], ◌∷◌, Option, Some, None}

-- it gives the first and leaves the rest, or it gives nothing, exactly where nothing is left
abbrev pub Gives : {X : Type 0} → Option X → List X → List X → Type 0
Gives (Some x) old new = old ≡ x ∷ new
Gives None old new = (old ≡ []) × (new ≡ [])
