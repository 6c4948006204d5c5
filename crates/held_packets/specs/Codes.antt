-- How proofs tell held pairs apart: each is stored as its parts.
use Rattle.std.specs.Prelude.{ℕ, List, refl}
use Rattle.std.specs.Coded.{Coded, code_by, coded×, coded_ℕ, coded_list}
use Rattle.std.specs.Ordering.{nat_cmp}
use Rattle.std.specs.FinMap.{FinMap, code}
use Rattle.oti_blocks.specs.Partition.{ObjectInformation, length_of, symbol_of, max_block_of, max_n_of}
use Rattle.held_packets.specs.Held.{Held, Place, place_cmp}

abbrev pub information_code : Coded ObjectInformation
information_code = code_by (ℕ × (ℕ × (ℕ × ℕ))) (coded× coded_ℕ (coded× coded_ℕ (coded× coded_ℕ coded_ℕ))) (λ o. (length_of o, (symbol_of o, (max_block_of o, max_n_of o))))
    (λ p. record { length = p.0; symbol = p.1.0; max_block = p.1.1.0; max_n = p.1.1.1 }) (λ _. refl)

abbrev pub place_code : Coded Place
place_code = code_by (ℕ × (ℕ × ℕ)) (coded× coded_ℕ (coded× coded_ℕ coded_ℕ))
    (λ q. (q.toi, (q.sbn, q.esi))) (λ p. record { toi = p.0; sbn = p.1.0; esi = p.1.1 }) (λ _. refl)

abbrev pub objects_code : Coded (FinMap nat_cmp ObjectInformation)
objects_code = code coded_ℕ information_code

abbrev pub rows_code : Coded (FinMap place_cmp (List ℕ))
rows_code = code place_code (coded_list coded_ℕ)

abbrev pub held_code : Coded Held
held_code = code_by (FinMap nat_cmp ObjectInformation × FinMap place_cmp (List ℕ))
    (coded× objects_code rows_code) (λ h. (h.objects, h.rows)) (λ p. record { objects = p.0; rows = p.1 }) (λ _. refl)
