-- The datagrams and the torn place of a text, as the format says them.
use Rattle.std.proofs.Common.{◌≡◌, ℕ, ◌+◌, ◌≤◌, true, false, cond, List, [], ◌∷◌, ◌++◌, flat_map, length, drop, Option, Some, None}
use Rattle.std.proofs.Common.{nat_eq, refl, sym, ◌∙◌, ap, subst, arith, inl, inr, append_assoc, length-append}
use Rattle.std.specs.List.{starts_with}
use Rattle.std.proofs.lemmas.Grind.{flat_map-append}
use Rattle.std.proofs.lemmas.List.Prefix.{front_rest}
use Rattle.std.proofs.lemmas.List.{append-nil, nil_from_length}
use Rattle.std.proofs.lemmas.Bool.{cases_Bool, cases_eq, both_ways, false_from_ne_true, cond-true, cond-false, eq-eqb, ne_eqb}
use Rattle.edge_io.specs.Log.{magic, item, log, AreShort, IsLog, StartsNoMagic, IsCut, IsLongestLog, HasNoLog, HasDatagrams}
use Rattle.edge_io.specs.Log.{IsTornBehind, HasTornPlace, items_of, rest_of, torn_from, datagrams_of, torn_at}
use Rattle.edge_io.proofs.Items.{parts, no_item, has_no_item, items_append, rest_append, items_none, rest_none}
use Rattle.edge_io.proofs.Texts.{has_magic, starts_magic, datagrams_with, torn_with, datagrams_without, torn_without, datagrams_short}

-- behind the magic of a log and more stand its items and more
behind : (text : List ℕ) (ds : List (List ℕ)) (more : List ℕ) → text ≡ log ds ++ more → drop 8 text ≡ flat_map item ds ++ more
behind text ds more e = front_rest text magic (flat_map item ds ++ more) (e ∙ append_assoc magic (flat_map item ds) more)

starts : (text : List ℕ) (ds : List (List ℕ)) (more : List ℕ) → text ≡ log ds ++ more → starts_with nat_eq text magic ≡ true
starts text ds more e = ap (λ t. starts_with nat_eq t magic) (e ∙ append_assoc magic (flat_map item ds) more) ∙ starts_magic (flat_map item ds ++ more)

-- a log at the front is read whatever follows it
datagrams_append : (text : List ℕ) (ds : List (List ℕ)) (more : List ℕ) → AreShort ds → text ≡ log ds ++ more → datagrams_of text ≡ ds ++ items_of more
datagrams_append text ds more s e = datagrams_with text (starts text ds more e) ∙ ap items_of (behind text ds more e) ∙ items_append ds more s

-- a text with the magic is the log of its datagrams and a rest
cut_of : (text : List ℕ) → starts_with nat_eq text magic ≡ true → IsCut text (datagrams_of text) (rest_of (drop 8 text))
cut_of text h =
    let p = parts (drop 8 text) in
    let same : items_of (drop 8 text) ≡ datagrams_of text = sym (datagrams_with text h) in
    record {
      short = datagrams_short text;
      is = has_magic text h ∙ ap (λ t. magic ++ t) p.is ∙ sym (append_assoc magic (flat_map item (items_of (drop 8 text))) (rest_of (drop 8 text)))
          ∙ ap (λ ds. log ds ++ rest_of (drop 8 text)) same;
      no_item = no_item (rest_of (drop 8 text)) p.no_more;
    }

pub cut_with_magic : (text more : List ℕ) → text ≡ magic ++ more → IsCut text (datagrams_of text) (rest_of (drop 8 text))
cut_with_magic text more e = cut_of text (ap (λ t. starts_with nat_eq t magic) e ∙ starts_magic more)

-- there is one way to cut a text
pub one_cut : (text : List ℕ) (ds : List (List ℕ)) (rest : List ℕ) → IsCut text ds rest → datagrams_of text ≡ ds
one_cut text ds rest c = datagrams_append text ds rest c.short c.is ∙ ap (λ es. ds ++ es) (items_none rest (has_no_item rest c.no_item)) ∙ append-nil ds

one_rest : (text : List ℕ) (ds : List (List ℕ)) (rest : List ℕ) → IsCut text ds rest → rest_of (drop 8 text) ≡ rest
one_rest text ds rest c = ap rest_of (behind text ds rest c.is) ∙ rest_append ds rest c.short ∙ rest_none rest (has_no_item rest c.no_item)

-- no log at the front is longer than that of the datagrams
longest : (text : List ℕ) (es : List (List ℕ)) (more : List ℕ) → AreShort es → text ≡ log es ++ more → length (log es) ≤ length (log (datagrams_of text))
longest text es more s e =
    let longer = ap (λ ds. length (log ds)) (datagrams_append text es more s e) in
    let split = ap (λ t. length (magic ++ t)) (flat_map-append item es (items_of more)) in
    omega (
      arith,
      longer,
      split,
      length-append magic (flat_map item es),
      length-append magic (flat_map item es ++ flat_map item (items_of more)),
      length-append (flat_map item es) (flat_map item (items_of more)),
    )

no_log : (text : List ℕ) → starts_with nat_eq text magic ≡ false → HasNoLog text
no_log text h es more s e = both_ways _ h (starts text es more e)

pub has_datagrams : (text : List ℕ) → HasDatagrams text (datagrams_of text)
has_datagrams text =
    elim (cases_Bool (starts_with nat_eq text magic)) [
      | inl h ↦ (let c = cut_of text h in inl (record { short = c.short; rest = rest_of (drop 8 text); prefix = c.is; longest = longest text }))
      | inr h ↦ inr (no_log text h, datagrams_without text h)
    ]

-- items without a byte are none
no_bytes : (es : List (List ℕ)) → length (flat_map item es) ≡ 0 → es ≡ []
no_bytes [] e = refl
no_bytes (d ∷ es) e = absurd (omega (arith, length-append (item d) (flat_map item es)))

-- the longest log at the front has all datagrams
all_in_longest : (text : List ℕ) (ds : List (List ℕ)) → IsLongestLog text ds → datagrams_of text ≡ ds
all_in_longest text ds l =
    let all = datagrams_append text ds l.rest l.short l.prefix in
    let c = cut_of text (starts text ds l.rest l.prefix) in
    let no_longer = l.longest (datagrams_of text) (rest_of (drop 8 text)) c.short c.is in
    let longer = ap (λ es. length (log es)) all in
    let split = ap (λ t. length (magic ++ t)) (flat_map-append item ds (items_of l.rest)) in
    let none : length (flat_map item (items_of l.rest)) ≡ 0 =
    omega (
      arith,
      no_longer,
      longer,
      split,
      length-append magic (flat_map item ds),
      length-append magic (flat_map item ds ++ flat_map item (items_of l.rest)),
      length-append (flat_map item ds) (flat_map item (items_of l.rest)),
    ) in
    all ∙ ap (λ es. ds ++ es) (no_bytes (items_of l.rest) none) ∙ append-nil ds

none_without_log : (text : List ℕ) → HasNoLog text → datagrams_of text ≡ []
none_without_log text n =
    datagrams_without text (false_from_ne_true _ (λ h. let c = cut_of text h in n (datagrams_of text) (rest_of (drop 8 text)) c.short c.is))

pub one_list : (text : List ℕ) (ds : List (List ℕ)) → HasDatagrams text ds → datagrams_of text ≡ ds
one_list text ds h = elim h [ inl l ↦ all_in_longest text ds l | inr n ↦ none_without_log text n.0 ∙ sym n.1 ]

-- the torn place by the rest
torn_by : (text : List ℕ) (ds : List (List ℕ)) (rest : List ℕ) → IsCut text ds rest → torn_at text ≡ cond (nat_eq (length rest) 0) None (Some (length (log ds)))
unfolding torn_from
torn_by text ds rest c =
    let with_magic = starts text ds rest c.is in
    torn_with text with_magic
    ∙ ap (λ r. cond (nat_eq (length r) 0) None (Some (8 + length (flat_map item (items_of (drop 8 text)))))) (one_rest text ds rest c)
    ∙ ap (λ es. cond (nat_eq (length rest) 0) None (Some (8 + length (flat_map item es)))) (sym (datagrams_with text with_magic) ∙ one_cut text ds rest c)
    ∙ ap (λ n. cond (nat_eq (length rest) 0) None (Some n)) (sym (length-append magic (flat_map item ds)))

-- a log is cut without a rest
cut_of_log : (text : List ℕ) (ds : List (List ℕ)) → IsLog text ds → IsCut text ds []
cut_of_log text ds l = record { short = l.short; is = l.is ∙ sym (append-nil (log ds)); no_item = no_item [] refl }

-- a whole log is not torn, and has its datagrams
pub whole_log : (text : List ℕ) (ds : List (List ℕ)) → IsLog text ds → torn_at text ≡ None
whole_log text ds l = torn_by text ds [] (cut_of_log text ds l)

pub log_datagrams : (text : List ℕ) (ds : List (List ℕ)) → IsLog text ds → datagrams_of text ≡ ds
log_datagrams text ds l = one_cut text ds [] (cut_of_log text ds l)

torn_behind : (text : List ℕ) (place : ℕ) → IsTornBehind text place → torn_at text ≡ Some place
torn_behind text place t =
    torn_by text t.datagrams t.rest t.cut ∙ cond-false _ _ _ (ne_eqb (length t.rest) 0 (λ e. t.some (nil_from_length t.rest e))) ∙ ap Some (sym t.there)

torn_at_start : (text : List ℕ) → StartsNoMagic text → torn_at text ≡ Some 0
torn_at_start text n = torn_without text (false_from_ne_true _ (λ h. n (drop 8 text) (has_magic text h)))

-- the torn place is the one that the format says
pub one_torn_place : (text : List ℕ) (torn : Option ℕ) → HasTornPlace text torn → torn_at text ≡ torn
one_torn_place text None t = whole_log text t.0 t.1
one_torn_place text (Some place) t =
    elim t [ inl start ↦ torn_at_start text start.0 ∙ ap Some (sym start.1) | inr later ↦ torn_behind text place later ]

torn_of_cut : (text rest : List ℕ) → IsCut text (datagrams_of text) rest → HasTornPlace text (torn_at text)
torn_of_cut text rest c =
    elim (cases_eq (length rest) 0) [
      | inl e ↦ (let none : torn_at text ≡ None = torn_by text _ rest c ∙ cond-true _ _ _ (eq-eqb (length rest) 0 e) in
          let l : IsLog text (datagrams_of text) =
          record { short = c.short; is = c.is ∙ ap (λ r. log (datagrams_of text) ++ r) (nil_from_length rest e) ∙ append-nil (log (datagrams_of text)) } in
          subst (HasTornPlace text) (sym none) (datagrams_of text, l))
      | inr n ↦ (let some : torn_at text ≡ Some (length (log (datagrams_of text))) = torn_by text _ rest c ∙ cond-false _ _ _ (ne_eqb (length rest) 0 n) in
          let t : IsTornBehind text (length (log (datagrams_of text))) =
          record { datagrams = datagrams_of text; rest = rest; cut = c; some = λ e. n (ap length e); there = refl } in
          subst (HasTornPlace text) (sym some) (inr t))
    ]

pub has_torn_place : (text : List ℕ) → HasTornPlace text (torn_at text)
has_torn_place text =
    elim (cases_Bool (starts_with nat_eq text magic)) [
      | inl h ↦ torn_of_cut text (rest_of (drop 8 text)) (cut_of text h)
      | inr h ↦ subst (HasTornPlace text) (sym (torn_without text h)) (inl ((λ more e. both_ways _ h (ap (λ t. starts_with nat_eq t magic) e ∙ starts_magic more)), refl))
    ]
