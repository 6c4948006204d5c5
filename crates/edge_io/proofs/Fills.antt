-- Filling a buffer read by read.
use Rattle.std.proofs.Common.{◌≡◌, ℕ, ◌+◌, ◌-◌, ◌<◌, ◌≤◌, min, ◌≢◌, get_or, List, ◌++◌, length, take, drop, sym, ◌∙◌, ap, arith, length-drop, nat_eq}
use Rattle.std.proofs.Math.Seq.{take-append-add, take-add}
use Rattle.std.proofs.lemmas.List.{take-append-le, length-take-le, take-take, take_min, drop-drop, get_or-take, get_or_append_left}
use Rattle.std.proofs.lemmas.Bool.{and_from, le-leb, lt-ltb}
use Rattle.std.specs.List.{starts_with}
use Rattle.std.specs.Cmp.Lexicographic.{pointwise}
use Rattle.edge_io.specs.Log.{magic, stated}
use Rattle.edge_io.specs.Stages.{FindsItem}
use Rattle.edge_io.specs.Reads.{Filled}

-- a read after others puts its bytes behind theirs
pub front_more : (got count : ℕ) (out ys post left : List ℕ) → got ≤ length out
    → count ≤ length ys → take got out ≡ take got left → take count ys ≡ take count (drop got left)
    → take (got + count) (take got out ++ (ys ++ post)) ≡ take (got + count) left
front_more got count out ys post left ho hc before now =
    let l : length (take got out) ≡ got = length-take-le got out ho in
    ap (λ k. take (k + count) (take got out ++ (ys ++ post))) (sym l)
    ∙ take-append-add (take got out) (ys ++ post) count
    ∙ ap (λ t. take got out ++ t) (take-append-le count ys post hc ∙ now)
    ∙ ap (λ t. t ++ take count (drop got left)) before
    ∙ sym (take-add got count left)

-- whether the magic stands at the front shows in the first eight bytes
pub magic_read : (n : ℕ) (out post left left' : List ℕ) → length out ≡ 8 → Filled n out left left'
    → starts_with nat_eq (take n (out ++ post)) magic ≡ starts_with nat_eq left magic
magic_read n out post left left' eight f =
    let within : n ≤ length out = omega (arith, f.count) in
    let is : n ≡ min 8 (length left) = f.count ∙ ap (λ k. min k (length left)) eight in
    let front : take n (out ++ post) ≡ take (min 8 (length left)) left = take-append-le n out post within ∙ f.front ∙ ap (λ k. take k left) is in
    ap (λ t. pointwise nat_eq magic (take 8 t)) (front ∙ take_min 8 left) ∙ ap (λ t. pointwise nat_eq magic t) (take-take 8 8 left (omega arith))

-- the two bytes of a length, as they were read
pub record LengthRead (size : ℕ) (left mid : List ℕ) : Type 0 where
  pub two : 2 ≤ length left
  pub high : get_or left 0 0 < 256
  pub low : get_or left 1 0 < 256
  pub size_is : stated left ≡ size
  pub rest : mid ≡ drop 2 left

pub length_read : (n size : ℕ) (out post left mid : List ℕ) → length out ≡ 2 → Filled n out left mid → n ≢ 0 → n ≢ 1
    → size ≡ stated (out ++ post) → get_or (out ++ post) 0 0 < 256 → get_or (out ++ post) 1 0 < 256 → LengthRead size left mid
length_read n size out post left mid l f not0 not1 is_stated ha hb =
    let is : n ≡ 2 = omega (arith, f.count) in
    let two : 2 ≤ length left = omega (arith, f.count) in
    let front : take 2 out ≡ take 2 left = ap (λ k. take k out) (sym is) ∙ f.front ∙ ap (λ k. take k left) is in
    let at0 : get_or left 0 0 ≡ get_or (out ++ post) 0 0 =
    sym (get_or-take 2 left 0 0 (omega arith)) ∙ sym (ap (λ t. get_or t 0 0) front) ∙ get_or-take 2 out 0 0 (omega arith)
    ∙ sym (get_or_append_left out post 0 0 (omega arith)) in
    let at1 : get_or left 1 0 ≡ get_or (out ++ post) 1 0 =
    sym (get_or-take 2 left 1 0 (omega arith)) ∙ sym (ap (λ t. get_or t 1 0) front) ∙ get_or-take 2 out 1 0 (omega arith)
    ∙ sym (get_or_append_left out post 0 1 (omega arith)) in
    record { two = two; high = omega arith; low = omega arith; size_is = omega arith; rest = f.rest ∙ ap (λ k. drop k left) is }

-- as many bytes follow as the length states: a whole item was found
pub whole_read : (size n : ℕ) (out post left mid left' : List ℕ) → LengthRead size left mid
    → length out ≡ size → Filled n out mid left' → size ≤ n → FindsItem size (out ++ post) left left'
whole_read size n out post left mid left' r l f enough =
    let is : n ≡ size = omega (arith, f.count) in
    let later : length mid ≡ length left - 2 = ap length r.rest ∙ length-drop 2 left in
    let room : 2 + stated left ≤ length left = omega (arith, f.count, r.size_is, r.two) in
    record {
      whole = and_from _ _ (le-leb _ _ r.two) (and_from _ _ (lt-ltb _ _ r.high) (and_from _ _ (lt-ltb _ _ r.low) (le-leb _ _ room)));
      datagram = ap (λ k. take k (drop 2 left)) r.size_is ∙ ap (λ t. take size t) (sym r.rest)
          ∙ ap (λ k. take k mid) (sym is) ∙ sym f.front ∙ ap (λ k. take k out) is ∙ sym (take-append-le size out post (omega arith));
      rest = f.rest ∙ ap (λ k. drop k mid) is ∙ ap (λ t. drop size t) r.rest ∙ drop-drop size 2 left ∙ ap (λ k. drop (2 + k) left) (sym r.size_is);
    }
