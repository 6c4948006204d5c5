-- What watchers have heard: of no events, and of some events and then more.
use Rattle.std.proofs.Common.{ℕ, List, [], ◌∷◌, ◌++◌, refl, sym, ap, subst, ◌∙◌, arith}
use Rattle.std.proofs.lemmas.List.{append-nil, length-append, append_assoc}
use Rattle.edge_io.specs.Faults.{Rose}
use Rattle.watch_list.specs.Hearing.{Hearing, HasHeard, HasRefused, Heard}
use Rattle.watch_list.specs.declared.event.Event.{Event}
use Rattle.watch_list.proofs.Siftings.{sifted_self, sifted_twice}

-- ---- one watcher

has_heard_nothing : (h : Hearing) → HasHeard [] h h
has_heard_nothing h = record {
  number = omega arith;
  told = λ told. told;
  events = λ told. sym (append-nil h.events);
  faults = refl;
  refuses = λ before event count refuses. refuses;
}

has_heard_more : (xs ys : List Event) (h i j : Hearing) → HasHeard xs h i → HasHeard ys i j → HasHeard (xs ++ ys) h j
has_heard_more xs ys h i j first second = record {
  number = omega (arith, first.number, second.number, length-append xs ys);
  told = λ told. second.told (first.told told);
  events = λ told. second.events (first.told told) ∙ ap (λ t. t ++ ys) (first.events told) ∙ append_assoc h.events xs ys;
  faults = second.faults ∙ first.faults;
  refuses = λ before event count refuses.
      subst (λ t. h.refuses t event count) (sym (append_assoc xs ys before))
      (first.refuses (ys ++ before) event count (second.refuses before event count refuses));
}

-- one event was refused
pub refused_one : (event : Event) (h : Hearing) (count : ℕ) → h.refuses [] event count → Rose h.faults count → HasRefused (event ∷ []) h
refused_one event h count refuses rose = ([], [], event, count, refl, refuses, rose)

-- those that are gone after the first events
refused_before : (xs ys : List Event) (h : Hearing) → HasRefused xs h → HasRefused (xs ++ ys) h
refused_before xs ys h r = (r.0, r.1 ++ ys, r.2, r.3, ap (λ t. t ++ ys) r.4 ∙ append_assoc r.0 (r.2 ∷ r.1) ys, r.5, r.6)

-- those that are gone after more
refused_later : (xs ys : List Event) (h i : Hearing) → HasHeard xs h i → HasRefused ys i → HasRefused (xs ++ ys) h
refused_later xs ys h i heard r = (
  xs ++ r.0,
  r.1,
  r.2,
  r.3,
  ap (λ t. xs ++ t) r.4 ∙ sym (append_assoc xs r.0 (r.2 ∷ r.1)),
  heard.refuses r.0 r.2 r.3 r.5,
  subst (λ n. Rose n r.3) heard.faults r.6,
)

-- ---- a list of watchers

-- the watchers are those that they were, where there was no event
pub heard_nothing : {B : Type 0} (hearing : B → Hearing) (watchers : List B) → Heard hearing [] watchers watchers
heard_nothing hearing watchers =
    sifted_self watchers (λ v w. HasHeard [] (hearing v) (hearing w)) (λ v. HasRefused [] (hearing v)) (λ v. has_heard_nothing (hearing v))

-- some events and then more are all of them
pub heard_more : {B : Type 0} (hearing : B → Hearing) (xs ys : List Event) (us vs ws : List B)
    → Heard hearing xs us vs → Heard hearing ys vs ws → Heard hearing (xs ++ ys) us ws
heard_more hearing xs ys us vs ws first second =
    sifted_twice us vs ws
    (λ v w. HasHeard xs (hearing v) (hearing w)) (λ v w. HasHeard ys (hearing v) (hearing w)) (λ v w. HasHeard (xs ++ ys) (hearing v) (hearing w))
    (λ v. HasRefused xs (hearing v)) (λ v. HasRefused ys (hearing v)) (λ v. HasRefused (xs ++ ys) (hearing v))
    (λ u v w. has_heard_more xs ys (hearing u) (hearing v) (hearing w))
    (λ u. refused_before xs ys (hearing u))
    (λ u v. refused_later xs ys (hearing u) (hearing v))
    first second
