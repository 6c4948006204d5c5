-- What an audience has been shown.
use Rattle.std.specs.Prelude.{ℕ, List, [], ◌∷◌, ◌++◌, Option, Some, None}
use Rattle.carousel_cid.specs.Instances.{Shown}

-- one more at the end, where there is one
abbrev pub with_option : List Shown → Option Shown → List Shown
with_option shown None = shown
with_option shown (Some i) = shown ++ i ∷ []

-- what is installed, where a settling answers the number of another instance
abbrev pub when_another : Option ℕ → Option Shown → Option Shown
when_another None installed = None
when_another (Some number) installed = installed
