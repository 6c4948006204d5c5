-- How the proofs tell stores, objects and blocks apart: each is stored as its parts.
use Rattle.std.specs.Prelude.{ℕ, List, refl}
use Rattle.std.specs.Coded.{Coded, code_by, coded×, coded_ℕ, coded_list}
use Rattle.std.specs.Ordering.{nat_cmp}
use Rattle.std.specs.FinMap.{FinMap, code}
use Rattle.oti_blocks.specs.Partition.{ObjectInformation}
use Rattle.held_packets.specs.Held.{Held}
use Rattle.held_packets.specs.Codes.{information_code, held_code}
use Rattle.object_store.specs.Store.{Store}
use Rattle.object_store.specs.Inner.BlockHeld.{BlockHeld}
use Rattle.object_store.specs.Inner.ObjectHeld.{ObjectHeld}

abbrev pub store_code : Coded Store
store_code = code_by (ℕ × (Held × List ℕ)) (coded× coded_ℕ (coded× held_code (coded_list coded_ℕ)))
    (λ s. (s.budget, (s.held, s.ready))) (λ p. record { budget = p.0; held = p.1.0; ready = p.1.1 }) (λ _. refl)

abbrev pub block_code : Coded BlockHeld
block_code = code_by (ℕ × (ℕ × (ℕ × FinMap nat_cmp (List ℕ))))
    (coded× coded_ℕ (coded× coded_ℕ (coded× coded_ℕ (code coded_ℕ (coded_list coded_ℕ))))) (λ h. (h.k, (h.n, (h.size, h.rows))))
    (λ p. record { k = p.0; n = p.1.0; size = p.1.1.0; rows = p.1.1.1 }) (λ _. refl)

abbrev pub object_code : Coded ObjectHeld
object_code = code_by (ObjectInformation × FinMap nat_cmp BlockHeld) (coded× information_code (code coded_ℕ block_code))
    (λ o. (o.oti, o.parts)) (λ p. record { oti = p.0; parts = p.1 }) (λ _. refl)
