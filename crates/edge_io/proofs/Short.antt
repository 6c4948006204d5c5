-- Datagrams of at most 65,535 bytes.
use Rattle.std.proofs.Common.{ℕ, ◌≤◌, List, length, map, drop, All, Vec, vec_len, slice_index_or, arith}
use Rattle.std.proofs.lemmas.List.Elements.{All-map, All-drop}

-- where each Vec is short, so is each of their lists
pub short_lists : {Z : Type 0} (ds : List (Vec ℕ Z)) → All (λ d. vec_len d ≤ 65535) ds → All (λ d. length d ≤ 65535) (map (λ d. d.items) ds)
short_lists {Z} ds s = All-map (λ d. length d ≤ 65535)
    (λ d. d.items) ds (λ k d l. let h : vec_len (slice_index_or ds k d) ≤ 65535 = s k d l in omega (arith, (slice_index_or ds k d).ok))

-- and those of them that are left
pub short_left : {Z : Type 0} (ds : List (Vec ℕ Z)) (at : ℕ) → All (λ d. vec_len d ≤ 65535) ds → All (λ d. length d ≤ 65535) (map (λ d. d.items) (drop at ds))
short_left ds at s = short_lists (drop at ds) (All-drop (λ d. vec_len d ≤ 65535) at ds s)
