-- Which status a list comes to.
use Rattle.std.proofs.Common.{◌≡◌, ℕ, Bool, true, false, List, [], Option, Some, None, refl, sym, ap, arith, ◌∙◌, inl, inr, eqb-true}
use Rattle.std.specs.Prelude.{◌≢◌, ◌⊎◌, ◌==◌, if◌then◌else◌, is_some, Ok}
use Rattle.std.proofs.lemmas.Bool.Decides.{nat_tests}
use Rattle.carousel_cid.specs.Instances.{Shown}
use Rattle.held_packets.specs.KeptSet.{drops}
use Rattle.receiver_core.specs.Receiver.{Receiver}
use Rattle.receiver_core.specs.BestOf.{installed_after}
use Rattle.receiver_core.specs.Classes.{packets_of}
use Rattle.run_base.specs.declared.bound.Bound.{Bound}
use Rattle.run_base.specs.declared.bound.Bound.TheVariants.{Most, Count}
use Rattle.run_base.specs.declared.settings.Settings.{Settings}
use Rattle.run_base.specs.declared.ending.Ending.{Ending}
use Rattle.run_base.specs.declared.ending.Ending.TheVariants.{End, Torn, TooMany}
use Rattle.run_base.specs.declared.status.Status.{Status}
use Rattle.run_base.specs.declared.status.Status.TheVariants as statuses
use Rattle.run_receive.specs.Outcome.{bound_statuses, outcome_of, base_status, calls_of, packets_taken, received}
use Rattle.run_base.specs.Bounds.{ending_of, datagrams_taken, IsCounted}
use Rattle.run_base.specs.Statuses.{is_one_of, leaves_shelf}
use Rattle.run_receive.specs.HasTaken.{HasTaken}

pub not_zero : (n : ℕ) → n ≢ 0 → (n == 0) ≡ false
not_zero n some = grind (arith, nat_tests)

-- where the shelf isn't touched it gets no call
no_calls_of : (b : Bool) → leaves_shelf (Ok (if b then statuses.Done else statuses.OverBudget)) ≡ false
no_calls_of true = refl
no_calls_of false = refl

pub no_calls : (ending : Ending) (n : ℕ) (best : Option Shown) → leaves_shelf (Ok (base_status ending n best)) ≡ true → calls_of ending best ≡ []
no_calls End n None leaves = refl
no_calls End n (Some i) leaves = absurd (let both : true ≡ false = sym leaves ∙ no_calls_of (n == 0) in cc)
no_calls (Torn at) n best leaves = refl
no_calls TooMany n best leaves = refl

-- the statuses of a list that is taken
end_listed : (b c : Bool) (bound : Bound)
    → is_one_of (bound_statuses bound) (if b then (if c then statuses.Done else statuses.NothingInstalled) else statuses.OverBudget) ≡ true
end_listed true true (Most most) = refl
end_listed true false (Most most) = refl
end_listed false c (Most most) = refl
end_listed true true (Count count) = refl
end_listed true false (Count count) = refl
end_listed false c (Count count) = refl

pub base_listed : (bound : Bound) (ending : Ending) (n : ℕ) (best : Option Shown) (s : Status) → (IsCounted bound → ending ≢ TooMany) → s ≡ base_status ending n best
    → is_one_of (bound_statuses bound) s ≡ true
base_listed bound End n best s counted is = ap (is_one_of (bound_statuses bound)) is ∙ end_listed (n == 0) (is_some best) bound
base_listed (Most most) (Torn at) n best s counted is = ap (is_one_of (bound_statuses (Most most))) is
base_listed (Count count) (Torn at) n best s counted is = ap (is_one_of (bound_statuses (Count count))) is
base_listed (Most most) TooMany n best s counted is = ap (is_one_of (bound_statuses (Most most))) is
base_listed (Count count) TooMany n best s counted is = absurd (counted tt refl)

-- that a packet was over the budget is said where one was
over_when : (b c : Bool) → (if b then (if c then statuses.Done else statuses.NothingInstalled) else statuses.OverBudget) ≡ statuses.OverBudget → b ≡ false
over_when true true is = cc
over_when true false is = cc
over_when false c is = refl

over_base : (ending : Ending) (n : ℕ) (best : Option Shown) → base_status ending n best ≡ statuses.OverBudget → n ≢ 0
over_base End n best is = λ none. let over = over_when (n == 0) (is_some best) is in let zero : (n == 0) ≡ true = ap (λ m. m == 0) none in let both : true ≡ false = sym zero ∙ over in cc
over_base (Torn at) n best is = cc
over_base TooMany n best is = cc

pub over_of : (c : Settings) (left : List (List ℕ)) (torn : Option ℕ) → (received c left torn).status ≡ statuses.OverBudget → drops c.budget (packets_taken c left) ≢ 0
unfolding received
over_of c left torn is = over_base (ending_of c.bound left torn) (drops c.budget (packets_taken c left)) (installed_after c.budget (packets_taken c left)) is

none_when : (b c : Bool) (s : Status) → s ≡ (if b then (if c then statuses.Done else statuses.NothingInstalled) else statuses.OverBudget)
    → (s ≡ statuses.Done) ⊎ (s ≡ statuses.NothingInstalled) → b ≡ true
none_when true c s is few = refl
none_when false c s is (inl done) = let both = sym is ∙ done in cc
none_when false c s is (inr nothing) = let both = sym is ∙ nothing in cc

none_base : (ending : Ending) (n : ℕ) (best : Option Shown) (s : Status) → s ≡ base_status ending n best
    → (s ≡ statuses.Done) ⊎ (s ≡ statuses.NothingInstalled) → n ≡ 0
none_base End n best s is few = eqb-true n 0 (none_when (n == 0) (is_some best) s is few)
none_base (Torn at) n best s is (inl e) = let both = sym is ∙ e in cc
none_base (Torn at) n best s is (inr e) = let both = sym is ∙ e in cc
none_base TooMany n best s is (inl e) = let both = sym is ∙ e in cc
none_base TooMany n best s is (inr e) = let both = sym is ∙ e in cc

pub none_over_of : (c : Settings) (left : List (List ℕ)) (torn : Option ℕ)
    → ((received c left torn).status ≡ statuses.Done) ⊎ ((received c left torn).status ≡ statuses.NothingInstalled)
    → drops c.budget (packets_taken c left) ≡ 0
unfolding received
none_over_of c left torn few =
    none_base (ending_of c.bound left torn) (drops c.budget (packets_taken c left)) (installed_after c.budget (packets_taken c left)) _ refl few

-- the outcome of a receiver that has taken the list is the list's
pub outcome_is : (c : Settings) (left : List (List ℕ)) (torn : Option ℕ) (r : Receiver) (ending : Ending) (n : ℕ) (best : Option Shown)
    → r.tsi ≡ c.tsi → r.budget ≡ c.budget → HasTaken r (datagrams_taken c left) → ending ≡ ending_of c.bound left torn
    → n ≡ r.drops → best ≡ r.installed → outcome_of c left ending n best ≡ received c left torn
unfolding received
outcome_is c left torn r ending n best tsi budget has end count shown =
    let ps = packets_of c.tsi (datagrams_taken c left) in
    let dropped : n ≡ drops c.budget ps = count ∙ (has.drops ∙ (ap (λ t. drops r.budget (packets_of t (datagrams_taken c left))) tsi ∙ ap (λ b. drops b ps) budget)) in
    let installed : best ≡ installed_after c.budget ps = shown
    ∙ (has.installed ∙ (ap (λ t. installed_after r.budget (packets_of t (datagrams_taken c left))) tsi ∙ ap (λ b. installed_after b ps) budget)) in
    ap (λ e. outcome_of c left e n best) end
    ∙ (ap (λ m. outcome_of c left (ending_of c.bound left torn) m best) dropped
    ∙ ap (outcome_of c left (ending_of c.bound left torn) (drops c.budget ps)) installed)
