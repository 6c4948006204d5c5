-- Lists with one set of packets gather the same.
use Rattle.std.proofs.Common.{◌≡◌, ◌≤◌, ℕ, Bool, true, false, ◌&&◌, ◌||◌, ◌==◌, List, [], ◌∷◌, fold, ◌∙◌, refl, sym, ap, subst, arith, Option, Some, None, inl, inr}
use Rattle.std.specs.Prelude.{is_some, if◌then◌else◌}
use Rattle.std.specs.List.{list_any}
use Rattle.std.specs.Cmp.{nat_cmp_total}
use Rattle.std.specs.FinMap.{get, same_map, nat_cmp-IsAntisymmetric}
use Rattle.std.proofs.Math.Bool.{or-true, or-false}
use Rattle.std.proofs.lemmas.Bool.Decides.{nat_tests}
use Rattle.oti_blocks.specs.Partition.{ObjectInformation}
use Rattle.alc_packet.specs.Packet.{SymbolPacket}
use Rattle.held_packets.specs.Held.{Held, Place, nothing_held, place, row_at, joined}
use Rattle.std.proofs.lemmas.List.Elements.{All-head, All-tail, All-cons}
use Rattle.held_packets.specs.Verdict.{verdict, step, is_kept, held_after}
use Rattle.held_packets.specs.Whole.{whole}
use Rattle.held_packets.specs.Session.{Session, Sent, IsSession, IsOf, AreOf}
use Rattle.held_packets.specs.KeptSet.{IsOne, IsIn, AreOneSet, gathered, kept_from, kept, set_count, ready_objects}
use Rattle.held_packets.proofs.Nothing.{nothing_at, nothing_open}
use Rattle.held_packets.proofs.Places.{place_total, place_exact}
use Rattle.held_packets.proofs.Joined.{at_place, with_row, with_object}
use Rattle.held_packets.proofs.Symbols.{same_symbol, one_object}
use Rattle.held_packets.proofs.KeptSets.{Grows, grows_list, nothing_agrees, all_kept}
use Rattle.held_packets.proofs.Sent.{whole_is_sent}

-- ---- what a list gathers, by its packets

or_assoc : (a b c : Bool) → ((a || b) || c) ≡ (a || (b || c))
or_assoc true b c = refl
or_assoc false b c = refl

-- whether a row is held with one packet more
one_row_more : (set : Held) (p : SymbolPacket) (t b j : ℕ) → is_some (row_at (joined set p) (place t b j)) ≡ (is_some (row_at set (place t b j)) || at_place p t b j)
one_row_more set p t b j = with_row set p t b j (λ r. is_some r ≡ (is_some (row_at set (place t b j)) || at_place p t b j))
    (λ test. sym (ap (λ c. is_some (row_at set (place t b j)) || c) test ∙ or-true (is_some (row_at set (place t b j)))))
    (λ test. sym (ap (λ c. is_some (row_at set (place t b j)) || c) test ∙ or-false (is_some (row_at set (place t b j)))))

has_row : (set : Held) (ps : List SymbolPacket) (t b j : ℕ)
    → is_some (row_at (fold joined set ps) (place t b j)) ≡ (is_some (row_at set (place t b j)) || list_any (λ p. at_place p t b j) ps)
has_row set [] t b j = sym (or-false (is_some (row_at set (place t b j))))
has_row set (p ∷ ps) t b j =
    has_row (joined set p) ps t b j
    ∙ ap (λ c. c || list_any (λ p. at_place p t b j) ps) (one_row_more set p t b j)
    ∙ or_assoc (is_some (row_at set (place t b j))) (at_place p t b j) (list_any (λ p. at_place p t b j) ps)

-- whether an object is open
one_object_more : (set : Held) (p : SymbolPacket) (t : ℕ) → is_some (get (joined set p).objects t) ≡ (is_some (get set.objects t) || (p.toi == t))
one_object_more set p t = with_object set p t (λ o. is_some o ≡ (is_some (get set.objects t) || (p.toi == t)))
    (λ at. sym (ap (λ c. is_some (get set.objects t) || c) (equal p.toi t at) ∙ or-true (is_some (get set.objects t))))
    (λ e. sym (ap (λ c. is_some (get set.objects t) || c) e ∙ or-false (is_some (get set.objects t))))
  where
    equal : (x y : ℕ) → x ≡ y → (x == y) ≡ true
    equal x y e = grind (arith, nat_tests)

has_object : (set : Held) (ps : List SymbolPacket) (t : ℕ) → is_some (get (fold joined set ps).objects t) ≡ (is_some (get set.objects t) || list_any (λ p. p.toi == t) ps)
has_object set [] t = sym (or-false (is_some (get set.objects t)))
has_object set (p ∷ ps) t =
    has_object (joined set p) ps t
    ∙ ap (λ c. c || list_any (λ p. p.toi == t) ps) (one_object_more set p t)
    ∙ or_assoc (is_some (get set.objects t)) (p.toi == t) (list_any (λ p. p.toi == t) ps)

-- ---- tests that only look at what makes two packets one

-- the test is the same for packets that are one
abbrev IsSameForOne : (SymbolPacket → Bool) → Type 0
IsSameForOne test = (p q : SymbolPacket) → IsOne p q → test p ≡ test q

one_itself : (p : SymbolPacket) → IsOne p p
one_itself p = record { toi = refl; information = refl; block = refl; place = refl; symbol = refl }

-- where some packet of a list passes, there is one that does
some_passes : (test : SymbolPacket → Bool) (ps : List SymbolPacket) → list_any test ps ≡ true → (p : SymbolPacket) × IsIn p ps × (test p ≡ true)
some_passes test [] any = absurd (let both : false ≡ true = any in cc)
some_passes test (p ∷ ps) any = elim (test p) as (λ b. test p ≡ b → (b || list_any test ps) ≡ true → (q : SymbolPacket) × IsIn q (p ∷ ps) × (test q ≡ true)) [
  | true ↦ λ e h. (p, inl (one_itself p), e)
  | false ↦ λ e h. let rest = some_passes test ps h in (rest.0, inr rest.1, rest.2)
] refl any

passes_in : (test : SymbolPacket → Bool) (qs : List SymbolPacket) (p : SymbolPacket) → IsSameForOne test → IsIn p qs → test p ≡ true → list_any test qs ≡ true
passes_in test [] p same in_ e = absurd in_
passes_in test (q ∷ qs) p same (inl one) e = ap (λ b. b || list_any test qs) (same q p one ∙ e)
passes_in test (q ∷ qs) p same (inr rest) e = ap (λ b. test q || b) (passes_in test qs p same rest e) ∙ or-true (test q)

-- tests that follow from each other are equal
same_answers : (a b : Bool) → (a ≡ true → b ≡ true) → (b ≡ true → a ≡ true) → a ≡ b
same_answers true b onward back = sym (onward refl)
same_answers false true onward back = back refl
same_answers false false onward back = refl

same_any : (test : SymbolPacket → Bool) (ps qs : List SymbolPacket) → IsSameForOne test → AreOneSet ps qs → list_any test ps ≡ list_any test qs
same_any test ps qs same one = same_answers (list_any test ps) (list_any test qs)
    (λ any. let found = some_passes test ps any in passes_in test qs found.0 same (one.there found.0 found.1) found.2)
    (λ any. let found = some_passes test qs any in passes_in test ps found.0 same (one.back found.0 found.1) found.2)

place_for_one : (t b j : ℕ) → IsSameForOne (λ p. at_place p t b j)
place_for_one t b j p q one = λ i. (one.toi i == t) && ((one.block i == b) && (one.place i == j))

toi_for_one : (t : ℕ) → IsSameForOne (λ p. p.toi == t)
toi_for_one t p q one = ap (λ n. n == t) one.toi

-- ---- two lists of one session

-- options that are there alike, and equal where both are, are equal
same_options : {A : Type 0} (x y : Option A) → is_some x ≡ is_some y → ((a b : A) → x ≡ Some a → y ≡ Some b → a ≡ b) → x ≡ y
same_options None None alike equal = refl
same_options None (Some b) alike equal = absurd (let both : false ≡ true = alike in cc)
same_options (Some a) None alike equal = absurd (let both : true ≡ false = alike in cc)
same_options (Some a) (Some b) alike equal = ap (λ v. Some v) (equal a b refl refl)

gathering : (s : Session) (ps : List SymbolPacket) → AreOf s ps → Grows s nothing_held (gathered ps)
gathering s ps are = grows_list s nothing_held nothing_held ps (nothing_agrees s) are

-- whether it is there, by the list alone
there_by_list : (ps : List SymbolPacket) (t b j : ℕ) → is_some (row_at (gathered ps) (place t b j)) ≡ list_any (λ p. at_place p t b j) ps
there_by_list ps t b j = has_row nothing_held ps t b j ∙ ap (λ o. is_some o || list_any (λ p. at_place p t b j) ps) (nothing_at t b j)

open_by_list : (ps : List SymbolPacket) (t : ℕ) → is_some (get (gathered ps).objects t) ≡ list_any (λ p. p.toi == t) ps
open_by_list ps t = has_object nothing_held ps t ∙ ap (λ o. is_some o || list_any (λ p. p.toi == t) ps) (nothing_open t)

same_rows : (s : Session) (ps qs : List SymbolPacket) → AreOf s ps → AreOf s qs → AreOneSet ps qs
    → (t b j : ℕ) → row_at (gathered ps) (place t b j) ≡ row_at (gathered qs) (place t b j)
same_rows s ps qs first second one t b j = same_options (row_at (gathered ps) (place t b j)) (row_at (gathered qs) (place t b j))
    (there_by_list ps t b j ∙ same_any (λ p. at_place p t b j) ps qs (place_for_one t b j) one ∙ sym (there_by_list qs t b j))
    (λ row other is also. same_symbol s t b j row other ((gathering s ps first).agrees.symbols t b j row is) ((gathering s qs second).agrees.symbols t b j other also))

-- the information of an object that is open
information : (s : Session) (ps : List SymbolPacket) (t : ℕ) (o : ObjectInformation)
    → AreOf s ps → get (gathered ps).objects t ≡ Some o → (x : Sent) × (s t ≡ Some x) × (o ≡ x.oti)
information s ps t o are is = let g = gathering s ps are in g.agrees.sent t o (ap (λ m. get m t) (sym g.agrees.objects) ∙ is)

same_objects : (s : Session) (ps qs : List SymbolPacket) → AreOf s ps → AreOf s qs → AreOneSet ps qs → (t : ℕ) → get (gathered ps).objects t ≡ get (gathered qs).objects t
same_objects s ps qs first second one t = same_options (get (gathered ps).objects t) (get (gathered qs).objects t)
    (open_by_list ps t ∙ same_any (λ p. p.toi == t) ps qs (toi_for_one t) one ∙ sym (open_by_list qs t))
    (λ o u is also.
    let a = information s ps t o first is in
    let b = information s qs t u second also in
    a.2 ∙ ap (λ (x : Sent). x.oti) (one_object s t a.0 b.0 a.1 b.1) ∙ sym b.2)

-- one set of packets, whatever their order and repeats, gathers the same
pub one_gathered : (s : Session) (ps qs : List SymbolPacket) → AreOf s ps → AreOf s qs → AreOneSet ps qs → gathered ps ≡ gathered qs
one_gathered s ps qs first second one =
    let objects = same_map nat_cmp_total nat_cmp-IsAntisymmetric (gathered ps).objects (gathered qs).objects (same_objects s ps qs first second one) in
    let rows = same_map place_total place_exact (gathered ps).rows (gathered qs).rows (λ (q : Place). same_rows s ps qs first second one q.toi q.sbn q.esi) in
    λ i. record { objects = objects i; rows = rows i }

-- the kept packets of a list are of its session
pub kept_are_of : (s : Session) (budget : ℕ) (held : Held) (ps : List SymbolPacket) → AreOf s ps → AreOf s (kept_from budget held ps)
kept_are_of s budget held [] are = are
kept_are_of s budget held (p ∷ ps) are =
    let rest = kept_are_of s budget (step budget held p) ps (All-tail (IsOf s) p ps are) in
    elim (is_kept (verdict budget held p)) as (λ b. AreOf s (if b then p ∷ kept_from budget (step budget held p) ps else kept_from budget (step budget held p) ps)) [
      | true ↦ All-cons (IsOf s) p (kept_from budget (step budget held p) ps) (All-head (IsOf s) p ps are) rest
      | false ↦ rest
    ]

-- so lists with one kept set leave the same whole
pub same_whole : (s : Session) (budget : ℕ) (ps qs : List SymbolPacket) → IsSession s → AreOf s ps → AreOf s qs → AreOneSet (kept budget ps) (kept budget qs) → (t : ℕ)
    → whole (held_after budget ps) t ≡ whole (held_after budget qs) t
same_whole s budget ps qs session first second one t =
    whole_is_sent s budget ps t session first
    ∙ ap (λ set. ready_objects s set t) (one_gathered s (kept budget ps) (kept budget qs)
    (kept_are_of s budget nothing_held ps first) (kept_are_of s budget nothing_held qs second) one)
    ∙ sym (whole_is_sent s budget qs t session second)

-- and within the budget any order does, with any repeats
pub any_order : (s : Session) (budget : ℕ) (ps qs : List SymbolPacket) → IsSession s
    → AreOf s ps → AreOf s qs → AreOneSet ps qs → set_count (gathered ps) ≤ budget → (t : ℕ)
    → whole (held_after budget ps) t ≡ whole (held_after budget qs) t
any_order s budget ps qs session first second one room t =
    let also : set_count (gathered qs) ≤ budget = subst (λ set. set_count set ≤ budget) (one_gathered s ps qs first second one) room in
    let all = all_kept s budget ps session first room in
    let too = all_kept s budget qs session second also in
    same_whole s budget ps qs session first second (subst (λ xs. AreOneSet xs (kept budget qs)) (sym all) (subst (AreOneSet ps) (sym too) one)) t
