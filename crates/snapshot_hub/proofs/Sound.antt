-- Each step keeps the snapshot machine sound.
use Rattle.std.proofs.Common.{ℕ, zero, suc, ◌<◌, Bool, true, false, List, [], ◌∷◌}
use Rattle.std.proofs.Common.{◌++◌, length, get_or, nat_lt, replicate, refl, sym, subst, arith, if◌then◌else◌}
use Rattle.std.specs.Prelude.{All, Contains}
use Rattle.std.proofs.lemmas.Option.{get_or_from_slice_get, slice_get_within}
use Rattle.std.proofs.lemmas.List.{length-replicate}
use Rattle.std.proofs.lemmas.List.Elements.{All-set}
use mathlib.Core.List.{IsPrefix}
use Rattle.carousel_cid.specs.Instances.{Shown}
use Rattle.snapshot_hub.specs.Histories.{longer}
use Rattle.snapshot_hub.specs.Machine.{Machine, Step, Publish, Tell, Learn, Look, opened, HasSeen, with_instance, with_told, with_seen, Leads, Runs, IsSound}
use Rattle.snapshot_hub.proofs.Prefixes.{prefix_self, prefix_more}
use Rattle.snapshot_hub.proofs.Rising.{rising_empty, rising_snoc}

abbrev Begin : List Shown → List (List Shown) → Type 0
Begin h lists = All (λ l. IsPrefix l h) lists

pub seen_begins : (m : Machine) (r : ℕ) (h : List Shown) → IsSound m → HasSeen m r h → IsPrefix h m.history
seen_begins m r h sound has = subst (λ l. IsPrefix l m.history) (get_or_from_slice_get m.seen r h h has) (sound.seen r h (slice_get_within m.seen r h has))

pub told_begins : (m : Machine) (t : List Shown) → IsSound m → Contains m.told t → IsPrefix t m.history
told_begins m t sound told = subst (λ l. IsPrefix l m.history) told.2 (sound.told told.0 t told.1)

begin_more : (h more : List Shown) (lists : List (List Shown)) → Begin h lists → Begin (h ++ more) lists
begin_more h more lists all k d in' = prefix_more (get_or lists k d) h more (all k d in')

begin_snoc : (h l : List Shown) (lists : List (List Shown)) → IsPrefix l h → Begin h lists → Begin h (lists ++ l ∷ [])
begin_snoc h l [] p all zero d in' = p
begin_snoc h l [] p all (suc k) d in' = absurd (omega arith)
begin_snoc h l (x ∷ xs) p all zero d in' = all zero d (omega arith)
begin_snoc h l (x ∷ xs) p all (suc k) d in' = begin_snoc h l xs p (λ j e less. all (suc j) e (omega arith)) k d (omega arith)

longer_begins : (b : Bool) (h t all : List Shown) → IsPrefix h all → IsPrefix t all → IsPrefix (if b then t else h) all
longer_begins true h t all p q = q
longer_begins false h t all p q = p

sound_with_seen : (m : Machine) (r : ℕ) (s : List Shown) → IsSound m → IsPrefix s m.history → IsSound (with_seen m r s)
sound_with_seen m r s sound p = record { seen = All-set (λ l. IsPrefix l m.history) m.seen r s p sound.seen; told = sound.told; rising = sound.rising }

pub step_keeps_sound : (s : Step) (m n : Machine) → IsSound m → Leads s m n → IsSound n
step_keeps_sound (Publish i) m n sound to =
    let next : IsSound (with_instance m i) = record {
      seen = begin_more m.history (i ∷ []) m.seen sound.seen;
      told = begin_more m.history (i ∷ []) m.told sound.told;
      rising = rising_snoc m.history i sound.rising to.0;
    } in
    subst IsSound (sym to.1) next
step_keeps_sound Tell m n sound to =
    let next : IsSound (with_told m m.history) = record {
      seen = sound.seen;
      told = begin_snoc m.history m.history m.told (prefix_self m.history) sound.told;
      rising = sound.rising;
    } in
    subst IsSound (sym to) next
step_keeps_sound (Learn r t) m n sound to =
    let h = to.1.0 in
    let p : IsPrefix (longer h t) m.history =
    longer_begins (nat_lt (length h) (length t)) h t m.history (seen_begins m r h sound to.1.1) (told_begins m t sound to.0) in
    subst IsSound (sym to.1.2) (sound_with_seen m r (longer h t) sound p)
step_keeps_sound (Look r s) m n sound to = subst IsSound (sym to.1.3) (sound_with_seen m r s sound to.0)

empty_begins : (readers k : ℕ) (d : List Shown) → k < readers → IsPrefix (get_or (replicate readers []) k d) []
empty_begins zero k d in' = absurd (omega arith)
empty_begins (suc readers) zero d in' = ([], refl)
empty_begins (suc readers) (suc k) d in' = empty_begins readers k d (omega arith)

pub opened_is_sound : (readers : ℕ) → IsSound (opened readers)
opened_is_sound readers = record {
  seen = λ k d in'. empty_begins readers k d (subst (λ n. k < n) (length-replicate readers []) in');
  told = λ k d in'. absurd (omega (arith, in'));
  rising = rising_empty;
}

pub runs_keep_sound : (steps : List Step) (m n : Machine) → IsSound m → Runs steps m n → IsSound n
runs_keep_sound [] m n sound run = subst IsSound (sym run) sound
runs_keep_sound (s ∷ ss) m n sound run = runs_keep_sound ss run.0 n (step_keeps_sound s m run.0 sound run.1) run.2
