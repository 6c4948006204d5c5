-- Which of two places is connected.
use Rattle.std.specs.Prelude.{◌≡◌, Option, Some, None}
use Rattle.edge_io.specs.declared.place.Place.{Place}
use Rattle.edge_io.specs.declared.place.Place.TheVariants.{Log, Udp}

-- the place is a UDP address
abbrev pub IsUdp : Option Place → Type 0
IsUdp None = ⊥
IsUdp (Some Log) = ⊥
IsUdp (Some (Udp ip port)) = Unit {0}

-- what is connected tells: its log tells, there is no network, and so no address is connected
abbrev pub IsOnLog : {N : Type 0} → Type 0 → Option N → Option Place → Type 0
IsOnLog told net place = told × (net ≡ None) × (IsUdp place → ⊥)
