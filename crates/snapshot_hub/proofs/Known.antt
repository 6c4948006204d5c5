-- What a reader saw or was told of begins all that it sees later.
use Rattle.std.proofs.Common.{◌≡◌, ◌⊎◌, inl, inr, ℕ, zero, suc, ◌<◌, ◌≤◌, ◌==◌, Bool, true, false}
use Rattle.std.proofs.Common.{List, [], ◌∷◌, ◌++◌, length, get_or, nat_lt, refl, ap, sym, subst, arith, Some, if◌then◌else◌}
use Rattle.std.proofs.lemmas.Bool.Decides.{nat_tests}
use Rattle.std.specs.Prelude.{Contains, slice_get, slice_set}
use mathlib.Core.List.{IsPrefix}
use Rattle.carousel_cid.specs.Instances.{Shown}
use Rattle.snapshot_hub.specs.Histories.{IsRising, longer}
use Rattle.snapshot_hub.specs.Machine.{Machine, Step, Publish, Tell, Learn, Look, opened, HasSeen, with_seen, Leads, Runs, IsSound, Knows, MaySee}
use Rattle.snapshot_hub.proofs.Prefixes.{prefix_self, prefix_trans, prefix_shorter}
use Rattle.snapshot_hub.proofs.Rising.{rising_prefix}
use Rattle.snapshot_hub.proofs.Sound.{seen_begins, told_begins, step_keeps_sound, opened_is_sound, runs_keep_sound}

-- in this machine the reader has seen h and maybe more
record SawMore (m : Machine) (r : ℕ) (h : List Shown) : Type 0 where
  seen : List Shown
  is : HasSeen m r seen
  more : IsPrefix h seen

longer_goes_on : (b : Bool) (h t all : List Shown) → nat_lt (length h) (length t) ≡ b → IsPrefix h all → IsPrefix t all
    → IsPrefix h (if b then t else h) × IsPrefix t (if b then t else h)
longer_goes_on true h t all is p q = (prefix_shorter h t all p q (grind (arith, nat_tests)), prefix_self t)
longer_goes_on false h t all is p q = (prefix_self h, prefix_shorter t h all q p (grind (arith, nat_tests)))

-- the longer of two beginnings of one history goes on from both
pub both_begin_longer : (h t all : List Shown) → IsPrefix h all → IsPrefix t all → IsPrefix h (longer h t) × IsPrefix t (longer h t)
both_begin_longer h t all p q = longer_goes_on (nat_lt (length h) (length t)) h t all refl p q

set_here : (lists : List (List Shown)) (r : ℕ) (h s : List Shown) → slice_get lists r ≡ Some h → slice_get (slice_set lists r s) r ≡ Some s
set_here [] r h s has = absurd (cc has)
set_here (l ∷ ls) zero h s has = refl
set_here (l ∷ ls) (suc r) h s has = set_here ls r h s has

set_elsewhere : (lists : List (List Shown)) (r q : ℕ) (h s : List Shown)
    → slice_get lists r ≡ Some h → (r ≡ q → ⊥) → slice_get (slice_set lists q s) r ≡ Some h
set_elsewhere [] r q h s has other = absurd (cc has)
set_elsewhere (l ∷ ls) zero zero h s has other = absurd (other refl)
set_elsewhere (l ∷ ls) zero (suc q) h s has other = has
set_elsewhere (l ∷ ls) (suc r) zero h s has other = has
set_elsewhere (l ∷ ls) (suc r) (suc q) h s has other = set_elsewhere ls r q h s has (λ e. other (ap suc e))

-- after a reader q saw s, which goes on from what q had seen, each reader has seen what it had, and maybe more
with_seen_keeps : (m : Machine) (r q : ℕ) (h g s : List Shown) → HasSeen m r h → HasSeen m q g → IsPrefix g s
    → (b : Bool) → (r == q) ≡ b → SawMore (with_seen m q s) r h
with_seen_keeps m r q h g s has had more true same =
    let e : r ≡ q = grind (arith, nat_tests) in
    let alike : h ≡ g = cc (has, had, ap (slice_get m.seen) e) in
    let here : HasSeen (with_seen m q s) r s = subst (λ k. HasSeen (with_seen m q s) k s) (sym e) (set_here m.seen q g s had) in
    record { seen = s; is = here; more = subst (λ l. IsPrefix l s) (sym alike) more }
with_seen_keeps m r q h g s has had more false same =
    record { seen = h; is = set_elsewhere m.seen r q h s has (λ e. grind (arith, nat_tests)); more = prefix_self h }

step_keeps_seen : (s : Step) (m n : Machine) (r : ℕ) (h : List Shown) → IsSound m → Leads s m n → HasSeen m r h → SawMore n r h
step_keeps_seen (Publish i) m n r h sound to has = record { seen = h; is = subst (λ k. HasSeen k r h) (sym to.1) has; more = prefix_self h }
step_keeps_seen Tell m n r h sound to has = record { seen = h; is = subst (λ k. HasSeen k r h) (sym to) has; more = prefix_self h }
step_keeps_seen (Learn q t) m n r h sound to has =
    let g = to.1.0 in
    let both = both_begin_longer g t m.history (seen_begins m q g sound to.1.1) (told_begins m t sound to.0) in
    subst (λ k. SawMore k r h) (sym to.1.2) (with_seen_keeps m r q h g (longer g t) has to.1.1 both.0 (r == q) refl)
step_keeps_seen (Look q s) m n r h sound to has =
    let g = to.1.0 in
    let more : IsPrefix g s = prefix_shorter g s m.history (seen_begins m q g sound to.1.1) to.0 to.1.2 in
    subst (λ k. SawMore k r h) (sym to.1.3) (with_seen_keeps m r q h g s has to.1.1 more (r == q) refl)

saw_more_again : (m : Machine) (r : ℕ) (h s : List Shown) → IsPrefix h s → SawMore m r s → SawMore m r h
saw_more_again m r h s p saw = record { seen = saw.seen; is = saw.is; more = prefix_trans h s saw.seen p saw.more }

runs_keep_seen : (steps : List Step) (m n : Machine) (r : ℕ) (h : List Shown) → IsSound m → Runs steps m n → HasSeen m r h → SawMore n r h
runs_keep_seen [] m n r h sound run has = record { seen = h; is = subst (λ k. HasSeen k r h) (sym run) has; more = prefix_self h }
runs_keep_seen (s ∷ ss) m n r h sound run has =
    let next = step_keeps_seen s m run.0 r h sound run.1 has in
    saw_more_again n r h next.seen next.more (runs_keep_seen ss run.0 n r next.seen (step_keeps_sound s m run.0 sound run.1) run.2 next.is)

after_look : (m n : Machine) (r : ℕ) (s : List Shown) → Leads (Look r s) m n → HasSeen n r s
after_look m n r s to = subst (λ k. HasSeen k r s) (sym to.1.3) (set_here m.seen r to.1.0 s to.1.1)

after_learn : (m n : Machine) (r : ℕ) (t : List Shown) → IsSound m → Leads (Learn r t) m n → SawMore n r t
after_learn m n r t sound to =
    let h = to.1.0 in
    let both = both_begin_longer h t m.history (seen_begins m r h sound to.1.1) (told_begins m t sound to.0) in
    let here = set_here m.seen r h (longer h t) to.1.1 in
    record { seen = longer h t; is = subst (λ k. HasSeen k r (longer h t)) (sym to.1.2) here; more = both.1 }

among_at : (s x : Step) (ss : List Step) (k : ℕ) → k < length (s ∷ ss) → get_or (s ∷ ss) k x ≡ x → (s ≡ x) ⊎ Contains ss x
among_at s x ss zero in' is = inl is
among_at s x ss (suc k) in' is = inr (k, omega arith, is)

-- the step stands first, or among the others
among : (s x : Step) (ss : List Step) → Contains (s ∷ ss) x → (s ≡ x) ⊎ Contains ss x
among s x ss at = among_at s x ss at.0 at.1 at.2

-- the step lets the reader know this history
abbrev Shows : Step → ℕ → List Shown → Type 0
Shows s r h = (s ≡ Look r h) ⊎ (s ≡ Learn r h)

looked : (s : Step) (ss : List Step) (r : ℕ) (h : List Shown) → (s ≡ Look r h) ⊎ Contains ss (Look r h) → Shows s r h ⊎ Knows ss r h
looked s ss r h (inl is) = inl (inl is)
looked s ss r h (inr at) = inr (inl at)

learned : (s : Step) (ss : List Step) (r : ℕ) (h : List Shown) → (s ≡ Learn r h) ⊎ Contains ss (Learn r h) → Shows s r h ⊎ Knows ss r h
learned s ss r h (inl is) = inl (inr is)
learned s ss r h (inr at) = inr (inr at)

-- what is known is known by the first step or by the others
known_by : (s : Step) (ss : List Step) (r : ℕ) (h : List Shown) → Knows (s ∷ ss) r h → Shows s r h ⊎ Knows ss r h
known_by s ss r h (inl at) = looked s ss r h (among s (Look r h) ss at)
known_by s ss r h (inr at) = learned s ss r h (among s (Learn r h) ss at)

first_step : (s : Step) (m n : Machine) (r : ℕ) (h : List Shown) → IsSound m → Leads s m n → Shows s r h → SawMore n r h
first_step s m n r h sound to (inl is) = record { seen = h; is = after_look m n r h (subst (λ k. Leads k m n) is to); more = prefix_self h }
first_step s m n r h sound to (inr is) = after_learn m n r h sound (subst (λ k. Leads k m n) is to)

seen_by : (s : Step) (ss : List Step) (m k n : Machine) (r : ℕ) (h : List Shown) → IsSound m → Leads s m k → Runs ss k n
    → (Knows ss r h → SawMore n r h) → Shows s r h ⊎ Knows ss r h → SawMore n r h
seen_by s ss m k n r h sound to run others (inl now) =
    let saw = first_step s m k r h sound to now in
    saw_more_again n r h saw.seen saw.more (runs_keep_seen ss k n r saw.seen (step_keeps_sound s m k sound to) run saw.is)
seen_by s ss m k n r h sound to run others (inr later) = others later

-- what a reader saw or was told of begins what it has seen at the end
known_is_seen : (steps : List Step) (m n : Machine) (r : ℕ) (h : List Shown) → IsSound m → Runs steps m n → Knows steps r h → SawMore n r h
known_is_seen [] m n r h sound run (inl at) = absurd (omega (arith, at.1))
known_is_seen [] m n r h sound run (inr at) = absurd (omega (arith, at.1))
known_is_seen (s ∷ ss) m n r h sound run known =
    let others : Knows ss r h → SawMore n r h = λ later. known_is_seen ss run.0 n r h (step_keeps_sound s m run.0 sound run.1) run.2 later in
    seen_by s ss m run.0 n r h sound run.1 run.2 others (known_by s ss r h known)

-- the machine before the last of these steps
record Last (steps : List Step) (s : Step) (m n : Machine) : Type 0 where
  before : Machine
  run : Runs steps m before
  leads : Leads s before n

last_step : (steps : List Step) (s : Step) (m n : Machine) → Runs (steps ++ s ∷ []) m n → Last steps s m n
last_step [] s m n run = record { before = m; run = refl; leads = subst (λ k. Leads s m k) (sym run.2) run.1 }
last_step (t ∷ ts) s m n run =
    let last = last_step ts s run.0 n run.2 in
    record { before = last.before; run = (run.0, run.1, last.run); leads = last.leads }

sound_before : (readers : ℕ) (steps : List Step) (s : Step) (n : Machine) (last : Last steps s (opened readers) n) → IsSound last.before
sound_before readers steps s n last = runs_keep_sound steps (opened readers) last.before (opened_is_sound readers) last.run

pub look_rises : (readers r : ℕ) (steps : List Step) (s : List Shown) → MaySee readers steps r s → IsRising s
look_rises readers r steps s may =
    let last = last_step steps (Look r s) (opened readers) may.0 may.1 in
    let sound = sound_before readers steps (Look r s) may.0 last in
    rising_prefix s last.before.history last.leads.0 sound.rising

pub look_goes_on : (readers r : ℕ) (steps : List Step) (s h : List Shown) → MaySee readers steps r s → Knows steps r h → IsPrefix h s
look_goes_on readers r steps s h may known =
    let last = last_step steps (Look r s) (opened readers) may.0 may.1 in
    let sound = sound_before readers steps (Look r s) may.0 last in
    let saw = known_is_seen steps (opened readers) last.before r h (opened_is_sound readers) last.run known in
    let to = last.leads in
    let same : saw.seen ≡ to.1.0 = cc (saw.is, to.1.1) in
    let begins : IsPrefix saw.seen last.before.history = seen_begins last.before r saw.seen sound saw.is in
    let le : length saw.seen ≤ length s = subst (λ l. length l ≤ length s) (sym same) to.1.2 in
    prefix_trans h saw.seen s saw.more (prefix_shorter saw.seen s last.before.history begins to.0 le)
