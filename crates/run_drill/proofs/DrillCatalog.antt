-- The catalog of a drill can be planned: its texts are values, its names are twelve, and its files are short.
use Rattle.std.proofs.Common.{◌≡◌, ℕ, zero, suc, ◌+◌, ◌*◌, ◌%◌, ◌≤◌, ◌<◌, true, List, [], ◌∷◌, ◌++◌, ◌∙◌, refl, sym, ap, subst, arith, length, Some, None}
use Rattle.std.specs.Prelude.{◌≢◌, All, map, nat_le, unwrap_or}
use Rattle.std.specs.List.{range_with_len, list_all}
use Rattle.std.specs.Fmt.{decimal, digits}
use Rattle.std.specs.Str.{bytes_eq, IsAscii}
use Rattle.std.proofs.Math.Nat.{mod-lt}
use Rattle.std.proofs.lemmas.List.Elements.{All-cons, All-nil}
use Rattle.std.proofs.lemmas.List.FromFn.{map-range_with_len_more}
use Rattle.std.proofs.lemmas.List.Sums.{sum_by-le}
use Rattle.std.proofs.lemmas.Fmt.{IsAscii-decimal}
use Rattle.std.proofs.lemmas.Str.{is_utf8-from_IsUtf8, IsUtf8-from_ascii}
use Rattle.std.proofs.lemmas.Slice.Eq.{bytes_eq-Decides}
use Rattle.std.proofs.lemmas.Bool.{leb-true}
use Rattle.wire_bytes.specs.Below.{all_below}
use Rattle.wire_bytes.specs.FirstFault.{first_fault}
use Rattle.wire_bytes.proofs.Public.{passes_below}
use Rattle.meta_text.specs.Text.{is_value_byte, trimmed, IsValue}
use Rattle.sender_plan.specs.CatalogInstance.{CatalogItem, CatalogInstance, IsItem}
use Rattle.sender_plan.specs.declared.fault.PlanFault.{PlanFault}
use Rattle.sender_plan.specs.declared.fault.PlanFault.TheVariants.{NumberNotRising, TooManyFiles, TooLarge, Params, Memory}
use Rattle.sender_plan.specs.Names.{names_of}
use Rattle.sender_plan.specs.Plan.{plan_faults, total_of}
use Rattle.run_drill.specs.Drill.{draw, next_state, body_length, drawn_bytes, body, after_body, bodies, location, item, instance_from, drill_catalog, drill_params}
use Rattle.run_base.proofs.Public.{not_more}

-- ---- the texts

ascii_cons : (b : ℕ) (bs : List ℕ) → b < 128 → IsAscii bs → IsAscii (b ∷ bs)
ascii_cons b bs small rest zero = small
ascii_cons b bs small rest (suc i) = rest i

ascii_location : (file : ℕ) → file < 12 → IsAscii (location file)
ascii_location file less =
    let digits = IsAscii-decimal file (omega (arith, less)) in
    ascii_cons 100 (114 ∷ 105 ∷ 108 ∷ 108 ∷ 47 ∷ decimal file) (omega arith)
    (ascii_cons 114 (105 ∷ 108 ∷ 108 ∷ 47 ∷ decimal file) (omega arith)
    (ascii_cons 105 (108 ∷ 108 ∷ 47 ∷ decimal file) (omega arith)
    (ascii_cons 108 (108 ∷ 47 ∷ decimal file) (omega arith)
    (ascii_cons 108 (47 ∷ decimal file) (omega arith)
    (ascii_cons 47 (decimal file) (omega arith) digits)))))

bytes_checked : all_below 12 (λ f. list_all is_value_byte (location f)) ≡ true
unfolding digits
bytes_checked = refl

ends_checked : all_below 12 (λ f. bytes_eq (trimmed (location f)) (location f)) ≡ true
unfolding digits
ends_checked = refl

short_checked : all_below 12 (λ f. nat_le (length (location f)) 100) ≡ true
unfolding digits
short_checked = refl

is_location : (file : ℕ) → file < 12 → IsValue (location file)
is_location file less = record {
  clean = rw (is_utf8-from_IsUtf8 (location file) (IsUtf8-from_ascii (location file) (ascii_location file less)))
      (passes_below 12 file (λ f. list_all is_value_byte (location f)) bytes_checked less);
  ends = let e = passes_below 12 file (λ f. bytes_eq (trimmed (location f)) (location f)) ends_checked less in
      (bytes_eq-Decides (trimmed (location file)) (location file)).0 e;
}

-- its name doesn't matter
pub is_item : (file : ℕ) (name place : List ℕ) → file < 12 → place ≡ location file → IsItem (record { name = name; location = place; kind = None })
is_item file name place less is = subst (λ (l : List ℕ). IsItem (record { name = name; location = l; kind = None })) (sym is) (record {
  somewhere = omega arith;
  location = is_location file less;
  kind = λ x some. absurd (let e : None ≡ Some x = some in cc);
})

-- one file more
pub items_more : (first n : ℕ) (items items' : List CatalogItem) (i : CatalogItem) → items ≡ map item (range_with_len first n) → i ≡ item (first + n)
    → items' ≡ items ++ i ∷ [] → items' ≡ map item (range_with_len first (n + 1))
items_more first n items items' i before is more =
    more ∙ ap (λ (xs : List CatalogItem). xs ++ i ∷ []) before ∙ ap (λ x. map item (range_with_len first n) ++ x ∷ []) is
    ∙ sym (map-range_with_len_more item first n (first + n) refl)

abbrev pub IsShort : CatalogItem → Type 0
IsShort i = length i.location + length (unwrap_or i.kind []) ≤ 16777216

short_item : (file : ℕ) → file < 12 → IsShort (item file)
short_item file less =
    let e = leb-true (length (location file)) 100 (passes_below 12 file (λ f. nat_le (length (location f)) 100) short_checked less) in omega (arith, e)

short_items : (n first : ℕ) → first + n ≤ 12 → All IsShort (map item (range_with_len first n))
short_items zero first few = All-nil IsShort
short_items (suc n) first few =
    All-cons IsShort (item first) (map item (range_with_len (first + 1) n)) (short_item first (omega (arith, few))) (short_items n (first + 1) (omega (arith, few)))

abbrev pub AreShort : List CatalogInstance → Type 0
AreShort instances = All (λ i. All IsShort i.items) instances

pub texts : AreShort drill_catalog
unfolding drill_catalog
texts =
    All-cons (λ i. All IsShort i.items) (instance_from 1 0) (instance_from 2 2 ∷ instance_from 3 4 ∷ []) (short_items 8 0 (omega arith))
    (All-cons (λ i. All IsShort i.items) (instance_from 2 2) (instance_from 3 4 ∷ []) (short_items 8 2 (omega arith))
    (All-cons (λ i. All IsShort i.items) (instance_from 3 4) [] (short_items 8 4 (omega arith)) (All-nil (λ i. All IsShort i.items))))

-- ---- the files

pub twelve_names : length (names_of drill_catalog) ≡ 12
unfolding drill_catalog digits
twelve_names = refl

length-drawn_bytes : (n x : ℕ) → length (drawn_bytes n x) ≡ n
length-drawn_bytes zero x = refl
length-drawn_bytes (suc n) x = ap suc (length-drawn_bytes n (next_state x))

below : (n : ℕ) → n % 200000 < 200000
below n = mod-lt n (omega arith)

short_body : (x : ℕ) → length (body x) ≤ 200000
unfolding body body_length
short_body x =
    let n = length-drawn_bytes (body_length x) (next_state x) in
    let m = below (draw x) in
    omega (arith, n, m)

pub short_bodies : (n x : ℕ) → All (λ body. length body ≤ 200000) (bodies n x)
short_bodies zero x = All-nil (λ (bs : List ℕ). length bs ≤ 200000)
short_bodies (suc n) x = All-cons (λ bs. length bs ≤ 200000) (body x) (bodies n (after_body x)) (short_body x) (short_bodies n (after_body x))

-- nothing refuses the plan
pub is_planned : (bs : List (List ℕ)) → length bs ≡ 12 → All (λ body. length body ≤ 200000) bs → first_fault (plan_faults drill_catalog bs drill_params) ≡ None
unfolding drill_catalog
is_planned bs many short =
    let total = sum_by-le length 200000 bs short in
    let few : total_of bs ≤ 268435456 = omega (arith, total, ap (λ n. n * 200000) many) in
    rw (not_more 268435456 (total_of bs) few) refl

-- want of memory is the one fault of a plan that nothing refuses
pub only_memory : (fault : PlanFault) → (fault ≢ Memory → None ≡ Some fault) → fault ≡ Memory
only_memory Memory refused = refl
only_memory (NumberNotRising at) refused = absurd (let e : None ≡ Some (NumberNotRising at) = refused (λ is. cc) in cc)
only_memory (TooManyFiles at) refused = absurd (let e : None ≡ Some (TooManyFiles at) = refused (λ is. cc) in cc)
only_memory (TooLarge total) refused = absurd (let e : None ≡ Some (TooLarge total) = refused (λ is. cc) in cc)
only_memory Params refused = absurd (let e : None ≡ Some Params = refused (λ is. cc) in cc)
