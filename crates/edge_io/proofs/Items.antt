-- Items at the front of a text.
use Rattle.std.proofs.Common.{◌≡◌, ℕ, zero, suc, ◌+◌, ◌-◌, ◌/◌, ◌%◌, ◌^◌, ◌<◌, ◌≤◌, true, false, cond, List, [], ◌∷◌, ◌++◌}
use Rattle.std.proofs.Common.{flat_map, length, take, drop, get_or, refl, sym, ◌∙◌, ap, subst, inl, inr, arith, append_assoc}
use Rattle.std.proofs.Common.{length-append, length-drop}
use Rattle.std.proofs.lemmas.List.{take-append-drop, drop-drop, take_at, drop_at, length-take-le, nil_from_length}
use Rattle.std.proofs.lemmas.Bool.{ltb-true, leb-true, lt-ltb, le-leb, and_parts, and_from, cases_Bool, false_from_ne_true, both_ways, cond-true, cond-false}
use Rattle.edge_io.specs.Log.{item, AreShort, StartsNoItem, stated, has_item, first_datagram, after_item, items_within, rest_within, items_of, rest_of}

-- what the test of a whole item says
pub record Whole (bytes : List ℕ) : Type 0 where
  pub two : 2 ≤ length bytes
  pub high : get_or bytes 0 0 < 256
  pub low : get_or bytes 1 0 < 256
  pub room : 2 + stated bytes ≤ length bytes

pub whole : (bytes : List ℕ) → has_item bytes ≡ true → Whole bytes
whole bytes h =
    let a = and_parts _ _ h in
    let b = and_parts _ _ a.1 in
    let c = and_parts _ _ b.1 in
    record { two = leb-true _ _ a.0; high = ltb-true _ _ b.0; low = ltb-true _ _ c.0; room = leb-true _ _ c.1 }

-- two bytes stand at the front of a text of two
two_bytes : (bytes : List ℕ) → 2 ≤ length bytes → bytes ≡ get_or bytes 0 0 ∷ get_or bytes 1 0 ∷ drop 2 bytes
two_bytes [] h = absurd (omega arith)
two_bytes (a ∷ []) h = absurd (omega arith)
two_bytes (a ∷ b ∷ more) h = refl

-- the stated length is the datagram's
pub length_first : (bytes : List ℕ) → has_item bytes ≡ true → length (first_datagram bytes) ≡ stated bytes
length_first bytes h = let w = whole bytes h in length-take-le (stated bytes) (drop 2 bytes) (omega (arith, length-drop 2 bytes))

pub short_first : (bytes : List ℕ) → has_item bytes ≡ true → length (first_datagram bytes) < 2 ^ 16
short_first bytes h = let w = whole bytes h in omega (arith, length_first bytes h)

-- a whole item stands there, and the other bytes after it
pub item_first : (bytes : List ℕ) → has_item bytes ≡ true → bytes ≡ item (first_datagram bytes) ++ after_item bytes
item_first bytes h =
    let w = whole bytes h in
    let n = length_first bytes h in
    let high : length (first_datagram bytes) / 256 ≡ get_or bytes 0 0 = omega arith in
    let low : length (first_datagram bytes) % 256 ≡ get_or bytes 1 0 = omega arith in
    let tail : drop 2 bytes ≡ first_datagram bytes ++ after_item bytes =
    sym (ap (λ r. first_datagram bytes ++ r) (sym (drop-drop (stated bytes) 2 bytes)) ∙ take-append-drop (stated bytes) (drop 2 bytes)) in
    cc (two_bytes bytes w.two)

pub stated_item : (d more : List ℕ) → stated (item d ++ more) ≡ length d
stated_item d more = omega arith

-- an item is seen as whole, with its datagram and what follows
pub has_item_item : (d more : List ℕ) → length d < 2 ^ 16 → has_item (item d ++ more) ≡ true
has_item_item d more s =
    let st = stated_item d more in
    let n = length-append d more in
    let two : 2 ≤ length (item d ++ more) = omega arith in
    let high : get_or (item d ++ more) 0 0 < 256 = omega arith in
    let low : get_or (item d ++ more) 1 0 < 256 = omega arith in
    let room : 2 + stated (item d ++ more) ≤ length (item d ++ more) = omega arith in
    and_from _ _ (le-leb _ _ two) (and_from _ _ (lt-ltb _ _ high) (and_from _ _ (lt-ltb _ _ low) (le-leb _ _ room)))

pub first_item : (d more : List ℕ) → first_datagram (item d ++ more) ≡ d
first_item d more = ap (λ k. take k (d ++ more)) (stated_item d more) ∙ take_at d more (length d) refl

pub after_first : (d more : List ℕ) → after_item (item d ++ more) ≡ more
after_first d more =
    let e : 2 + stated (item d ++ more) ≡ suc (suc (length d)) = omega (arith, stated_item d more) in
    ap (λ k. drop k (item d ++ more)) e ∙ drop_at d more (length d) refl

-- a text starts with no whole item where the test says no, and the other way round
pub no_item : (text : List ℕ) → has_item text ≡ false → StartsNoItem text
no_item text h d more s e = both_ways _ h (ap has_item e ∙ has_item_item d more s)

pub has_no_item : (text : List ℕ) → StartsNoItem text → has_item text ≡ false
has_no_item text n = false_from_ne_true _ (λ h. n (first_datagram text) (after_item text) (short_first text h) (item_first text h))

-- what follows an item is shorter
length_after : (bytes : List ℕ) → length (after_item bytes) ≡ length bytes - (2 + stated bytes)
length_after bytes = length-drop (2 + stated bytes) bytes

-- as many items as bytes are enough, and more change nothing
items_enough : (m n : ℕ) (bytes : List ℕ) → length bytes ≤ m → length bytes ≤ n → items_within m bytes ≡ items_within n bytes
unfolding items_within
items_enough zero zero bytes hm hn = refl
items_enough zero (suc n) bytes hm hn = let e : bytes ≡ [] = nil_from_length bytes (omega arith) in rw e refl
items_enough (suc m) zero bytes hm hn = let e : bytes ≡ [] = nil_from_length bytes (omega arith) in rw e refl
items_enough (suc m) (suc n) bytes hm hn =
    ap (λ r. cond (has_item bytes) (first_datagram bytes ∷ r) [])
    (items_enough m n (after_item bytes) (omega (arith, length_after bytes)) (omega (arith, length_after bytes)))

rest_enough : (m n : ℕ) (bytes : List ℕ) → length bytes ≤ m → length bytes ≤ n → rest_within m bytes ≡ rest_within n bytes
unfolding rest_within
rest_enough zero zero bytes hm hn = refl
rest_enough zero (suc n) bytes hm hn = let e : bytes ≡ [] = nil_from_length bytes (omega arith) in rw e refl
rest_enough (suc m) zero bytes hm hn = let e : bytes ≡ [] = nil_from_length bytes (omega arith) in rw e refl
rest_enough (suc m) (suc n) bytes hm hn =
    ap (λ r. cond (has_item bytes) r bytes) (rest_enough m n (after_item bytes) (omega (arith, length_after bytes)) (omega (arith, length_after bytes)))

-- one item more
items_suc : (n : ℕ) (bytes : List ℕ) → length bytes ≤ suc n → items_of bytes ≡ cond (has_item bytes) (first_datagram bytes ∷ items_of (after_item bytes)) []
unfolding items_of items_within
items_suc n bytes h =
    items_enough (length bytes) (suc n) bytes (omega arith) h
    ∙ ap (λ r. cond (has_item bytes) (first_datagram bytes ∷ r) [])
    (items_enough n (length (after_item bytes)) (after_item bytes) (omega (arith, length_after bytes)) (omega arith))

rest_suc : (n : ℕ) (bytes : List ℕ) → length bytes ≤ suc n → rest_of bytes ≡ cond (has_item bytes) (rest_of (after_item bytes)) bytes
unfolding rest_of rest_within
rest_suc n bytes h =
    rest_enough (length bytes) (suc n) bytes (omega arith) h
    ∙ ap (λ r. cond (has_item bytes) r bytes) (rest_enough n (length (after_item bytes)) (after_item bytes) (omega (arith, length_after bytes)) (omega arith))

-- a whole item at the front is the first
pub items_whole : (bytes : List ℕ) → has_item bytes ≡ true → items_of bytes ≡ first_datagram bytes ∷ items_of (after_item bytes)
items_whole bytes h = items_suc (length bytes) bytes (omega arith) ∙ cond-true _ _ _ h

pub rest_whole : (bytes : List ℕ) → has_item bytes ≡ true → rest_of bytes ≡ rest_of (after_item bytes)
rest_whole bytes h = rest_suc (length bytes) bytes (omega arith) ∙ cond-true _ _ _ h

-- no whole item at the front: none at all
pub items_none : (bytes : List ℕ) → has_item bytes ≡ false → items_of bytes ≡ []
items_none bytes h = items_suc (length bytes) bytes (omega arith) ∙ cond-false _ _ _ h

pub rest_none : (bytes : List ℕ) → has_item bytes ≡ false → rest_of bytes ≡ bytes
rest_none bytes h = rest_suc (length bytes) bytes (omega arith) ∙ cond-false _ _ _ h

-- the items at the front are read whatever follows them
pub items_append : (ds : List (List ℕ)) (rest : List ℕ) → AreShort ds → items_of (flat_map item ds ++ rest) ≡ ds ++ items_of rest
items_append [] rest s = refl
items_append (d ∷ ds) rest s =
    let more = flat_map item ds ++ rest in
    let same : flat_map item (d ∷ ds) ++ rest ≡ item d ++ more = append_assoc (item d) (flat_map item ds) rest in
    ap items_of same ∙ items_whole (item d ++ more) (has_item_item d more s.0)
    ∙ ap (λ f. f ∷ items_of (after_item (item d ++ more))) (first_item d more)
    ∙ ap (λ t. d ∷ items_of t) (after_first d more)
    ∙ ap (λ t. d ∷ t) (items_append ds rest s.1)

pub rest_append : (ds : List (List ℕ)) (rest : List ℕ) → AreShort ds → rest_of (flat_map item ds ++ rest) ≡ rest_of rest
rest_append [] rest s = refl
rest_append (d ∷ ds) rest s =
    let more = flat_map item ds ++ rest in
    let same : flat_map item (d ∷ ds) ++ rest ≡ item d ++ more = append_assoc (item d) (flat_map item ds) rest in
    ap rest_of same ∙ rest_whole (item d ++ more) (has_item_item d more s.0)
    ∙ ap rest_of (after_first d more) ∙ rest_append ds rest s.1

-- a text is its items and its rest
pub record Parts (bytes : List ℕ) : Type 0 where
  pub short : AreShort (items_of bytes)
  pub is : bytes ≡ flat_map item (items_of bytes) ++ rest_of bytes
  pub no_more : has_item (rest_of bytes) ≡ false

parts_whole : (bytes : List ℕ) → has_item bytes ≡ true → Parts (after_item bytes) → Parts bytes
parts_whole bytes h p =
    let i = items_whole bytes h in
    let r = rest_whole bytes h in
    record {
      short = subst AreShort (sym i) (short_first bytes h, p.short);
      is = item_first bytes h ∙ ap (λ t. item (first_datagram bytes) ++ t) p.is
          ∙ sym (append_assoc (item (first_datagram bytes)) (flat_map item (items_of (after_item bytes))) (rest_of (after_item bytes)))
          ∙ sym (ap (λ ds. flat_map item ds ++ rest_of (after_item bytes)) i) ∙ sym (ap (λ t. flat_map item (items_of bytes) ++ t) r);
      no_more = ap has_item r ∙ p.no_more;
    }

parts_none : (bytes : List ℕ) → has_item bytes ≡ false → Parts bytes
parts_none bytes h =
    let i = items_none bytes h in
    let r = rest_none bytes h in
    record {
      short = subst AreShort (sym i) tt;
      is = sym r ∙ sym (ap (λ ds. flat_map item ds ++ rest_of bytes) i);
      no_more = ap has_item r ∙ h;
    }

parts_by : (n : ℕ) (bytes : List ℕ) → length bytes ≤ n → Parts bytes
parts_by zero bytes h = parts_none bytes (ap has_item (nil_from_length bytes (omega arith)))
parts_by (suc n) bytes h =
    elim (cases_Bool (has_item bytes)) [
      | inl e ↦ parts_whole bytes e (parts_by n (after_item bytes)
          (let w = whole bytes e in omega (arith, length_after bytes)))
      | inr e ↦ parts_none bytes e
    ]

pub parts : (bytes : List ℕ) → Parts bytes
parts bytes = parts_by (length bytes) bytes (omega arith)
