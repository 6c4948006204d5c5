-- What watchers have heard of a list of datagrams, by the events of each datagram.
use Rattle.std.proofs.Common.{◌≡◌, ℕ, ◌+◌, ◌≤◌, List, [], ◌∷◌, ◌++◌, ◌∙◌, refl, sym, ap, subst, take, drop, append_assoc}
use Rattle.std.specs.Prelude.{Result, Ok, Err, IsErrAnd}
use Rattle.std.proofs.lemmas.List.{append-nil, take-append-drop, take-take}
use Rattle.held_packets.specs.Held.{Held, nothing_held}
use Rattle.held_packets.specs.Verdict.{held_after}
use Rattle.receiver_core.specs.Classes.{packets_of}
use Rattle.receiver_core.specs.Receiver.{Receiver}
use Rattle.watch_list.specs.declared.event.Event.{Event}
use Rattle.watch_list.specs.Hearing.{Hearing, Heard}
use Rattle.watch_list.proofs.Public.{heard_nothing, heard_more}
use Rattle.run_base.specs.declared.fault.Fault.{Fault}
use Rattle.run_base.specs.declared.fault.Fault.TheVariants.{Datagrams, Text, Emit, Shelf, Files, Memory}
use Rattle.run_base.specs.Tellings.{HearsPart, HearsFirst, Tells}
use Rattle.run_receive.specs.Events.{events_with, events_from, events_of}
use Rattle.run_base.specs.Answers.{Blames}
use Rattle.run_receive.specs.HasTaken.{HasTaken}
use Rattle.run_receive.proofs.EventLists.{events_further}

-- ---- the events of one datagram more

one_more : (tsi budget i : ℕ) (left : List (List ℕ)) (d : List ℕ) (held : Held) → held ≡ held_after budget (packets_of tsi (take i left))
    → take (i + 1) left ≡ take i left ++ d ∷ []
    → events_of tsi budget (take (i + 1) left) ≡ events_of tsi budget (take i left) ++ events_with tsi budget held d
unfolding events_of
one_more tsi budget i left d held is next =
    ap (events_of tsi budget) next
    ∙ events_further tsi budget nothing_held (take i left) (d ∷ [])
    ∙ ap (λ h. events_of tsi budget (take i left) ++ events_from tsi budget h (d ∷ [])) (sym is)
    ∙ ap (λ es. events_of tsi budget (take i left) ++ es) (append-nil (events_with tsi budget held d))

-- of a receiver that has taken those before it
pub events_more : (tsi budget i : ℕ) (left : List (List ℕ)) (d : List ℕ) (r : Receiver) → r.tsi ≡ tsi → r.budget ≡ budget → HasTaken r (take i left)
    → take (i + 1) left ≡ take i left ++ d ∷ []
    → events_of tsi budget (take (i + 1) left) ≡ events_of tsi budget (take i left) ++ events_with r.tsi r.budget r.held d
events_more tsi budget i left d r of within has next =
    subst (λ t. events_of t budget (take (i + 1) left) ≡ events_of t budget (take i left) ++ events_with r.tsi r.budget r.held d) of
    (subst (λ b. events_of r.tsi b (take (i + 1) left) ≡ events_of r.tsi b (take i left) ++ events_with r.tsi r.budget r.held d) within
    (one_more r.tsi r.budget i left d r.held has.held next))

-- those of the first datagrams are the first events
pub events_behind : (tsi budget i most : ℕ) (left : List (List ℕ)) → i ≤ most
    → (rest : List Event) × (events_of tsi budget (take most left) ≡ events_of tsi budget (take i left) ++ rest)
unfolding events_of
events_behind tsi budget i most left few =
    let ds = take most left in (
      events_from tsi budget (held_after budget (packets_of tsi (take i ds))) (drop i ds),
      ap (events_of tsi budget) (sym (take-append-drop i ds)) ∙ events_further tsi budget nothing_held (take i ds) (drop i ds)
          ∙ ap (λ es. events_of tsi budget es ++ events_from tsi budget (held_after budget (packets_of tsi (take i ds))) (drop i ds)) (take-take i most left few),
    )

-- ---- what was heard of them

pub heard_as : {B : Type 0} (hearing : B → Hearing) (xs ys : List Event) (us ws : List B) → xs ≡ ys → Heard hearing xs us ws → Heard hearing ys us ws
heard_as hearing xs ys us ws is heard = subst (λ es. Heard hearing es us ws) is heard

pub heard_next : {B : Type 0} (hearing : B → Hearing) (xs ys zs : List Event) (us vs ws : List B) → zs ≡ xs ++ ys → Heard hearing xs us vs
    → Heard hearing ys vs ws → Heard hearing zs us ws
heard_next hearing xs ys zs us vs ws is first second =
    heard_as hearing (xs ++ ys) zs us ws (sym is) (heard_more hearing xs ys us vs ws first second)

-- of all datagrams that are taken, where no more than the first i were left
pub heard_all : {B : Type 0} (hearing : B → Hearing) (tsi budget i most : ℕ) (left : List (List ℕ)) (us ws : List B) → take most left ≡ take i left
    → Heard hearing (events_of tsi budget (take i left)) us ws
    → Heard hearing (events_of tsi budget (take most left)) us ws
heard_all hearing tsi budget i most left us ws is heard =
    heard_as hearing (events_of tsi budget (take i left)) (events_of tsi budget (take most left)) us ws
    (sym (ap (events_of tsi budget) is)) heard

-- nothing was told
pub no_event_heard : {B : Type 0} (hearing : B → Hearing) (events : List Event) (ws : List B) → HearsPart events (λ es. Heard hearing es ws ws)
no_event_heard hearing events ws =
    record { front = []; rest = events; is = refl; hears = heard_nothing hearing ws }

pub none_heard : {B : Type 0} (hearing : B → Hearing) (tsi budget : ℕ) (left : List (List ℕ)) (ws : List B) → Heard hearing (events_of tsi budget (take 0 left)) ws ws
unfolding events_of
none_heard hearing tsi budget left ws = heard_nothing hearing ws

pub no_datagram_heard : {B : Type 0} (hearing : B → Hearing) (tsi budget : ℕ) (left : List (List ℕ)) (ws : List B) → HearsFirst (λ n. events_of tsi budget (take n left)) (λ es. Heard hearing es ws ws)
no_datagram_heard hearing tsi budget left ws =
    record { taken = 0; hears = none_heard hearing tsi budget left ws }

-- a part of one datagram's events behind those of the datagrams before it is a part of all
pub part_heard : {B : Type 0} (hearing : B → Hearing) (xs ys rest all : List Event) (us vs ws : List B) → all ≡ xs ++ ys ++ rest → Heard hearing xs us vs
    → HearsPart ys (λ es. Heard hearing es vs ws) → HearsPart all (λ es. Heard hearing es us ws)
part_heard hearing xs ys rest all us vs ws is first part = record {
  front = xs ++ part.front;
  rest = part.rest ++ rest;
  is = is ∙ ap (λ es. xs ++ es ++ rest) part.is ∙ ap (λ es. es ++ rest) (sym (append_assoc xs part.front part.rest))
      ∙ append_assoc (xs ++ part.front) part.rest rest;
  hears = heard_more hearing xs part.front us vs ws first part.hears;
}

-- ---- by the answer of a call

pub whole_is_part : (events : List Event) (Hears : List Event → Type 0) → Hears events → HearsPart events Hears
whole_is_part events Hears heard = record { front = events; rest = []; is = sym (append-nil events); hears = heard }

-- what is done behind the datagrams tells nothing
pub told_before : {A : Type 0} (answer : Result A Fault) (t s : Type 0) (events : List Event) (first : ℕ → List Event) (Hears : List Event → Type 0)
    → Blames answer ⊥ t ⊥ s ⊥ → Hears events → Tells answer events first Hears
told_before (Ok v) t s events first Hears blames heard = heard
told_before (Err Datagrams) t s events first Hears blames heard = absurd blames
told_before (Err Text) t s events first Hears blames heard = heard
told_before (Err Emit) t s events first Hears blames heard = heard
told_before (Err Shelf) t s events first Hears blames heard = heard
told_before (Err Files) t s events first Hears blames heard = heard
told_before (Err Memory) t s events first Hears blames heard = whole_is_part events Hears heard

-- memory is the one fault
pub told_at_memory : {A : Type 0} (answer : Result A Fault) (events : List Event) (first : ℕ → List Event) (Hears : List Event → Type 0)
    → IsErrAnd answer (λ e. e ≡ Memory) → HearsPart events Hears → Tells answer events first Hears
told_at_memory (Ok a) events first Hears is part = absurd is
told_at_memory (Err Datagrams) events first Hears is part = cc
told_at_memory (Err Text) events first Hears is part = cc
told_at_memory (Err Emit) events first Hears is part = cc
told_at_memory (Err Shelf) events first Hears is part = cc
told_at_memory (Err Files) events first Hears is part = cc
told_at_memory (Err Memory) events first Hears is part = part
