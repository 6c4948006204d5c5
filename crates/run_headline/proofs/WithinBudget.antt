-- Of a session's list within the budget nothing is over it, and the best instance says the status.
use Rattle.std.proofs.Common.{◌≡◌, ℕ, List, Option, Some, None, ◌∙◌, refl, ap, subst, arith, length, inl, inr}
use Rattle.std.specs.Prelude.{◌⊎◌, Ok, Err}
use Rattle.alc_packet.specs.Packet.{SymbolPacket}
use Rattle.carousel_cid.specs.Instances.{Shown}
use Rattle.held_packets.specs.Session.{Session, IsSession, AreOf}
use Rattle.held_packets.specs.KeptSet.{kept, drops, gathered, ready_objects}
use Rattle.held_packets.proofs.Public.{all_kept, kept_or_dropped}
use Rattle.receiver_core.specs.Best.{IsBestOf}
use Rattle.receiver_core.specs.BestOf.{installed_after}
use Rattle.receiver_core.proofs.Public.{one_best}
use Rattle.run_base.specs.Bounds.{datagrams_taken, ending_of}
use Rattle.run_base.specs.Statuses.{number}
use Rattle.run_base.specs.declared.fault.Fault.TheVariants.{Memory}
use Rattle.run_base.specs.declared.ending.Ending.TheVariants.{End}
use Rattle.run_base.specs.declared.settings.Settings.{Settings}
use Rattle.run_receive.specs.Outcome.{base_status, end_status, packets_taken, received}
use Rattle.run_headline.specs.WithinBudget.{IsWithinBudget, status_with}
use Rattle.run_headline.proofs.Headline.{installed_is_best, packets_are}

module _ (s : Session) (c : Settings) (left : List (List ℕ)) (session : IsSession s) (list : IsWithinBudget s c left) where
  abbrev ps : List SymbolPacket
  ps = packets_taken c left

  are : AreOf s ps
  are = packets_are s c.tsi (datagrams_taken c left) list.datagrams

  all : kept c.budget ps ≡ ps
  all = all_kept s c.budget ps session are list.within

  pub none_over : drops c.budget ps ≡ 0
  none_over = omega (arith, kept_or_dropped s c.budget ps session are, ap length all)

  best_is : (best : Option Shown) → IsBestOf (ready_objects s (gathered ps)) best → installed_after c.budget ps ≡ best
  best_is best greatest = one_best (ready_objects s (gathered ps)) (installed_after c.budget ps) best
      (subst (λ (qs : List SymbolPacket). IsBestOf (ready_objects s (gathered qs)) (installed_after c.budget ps)) all
      (installed_is_best s c.budget ps session are)) greatest

  at_end : (best : Option Shown) → end_status 0 best ≡ status_with best
  at_end None = refl
  at_end (Some i) = refl

  pub best_says : (torn : Option ℕ) → ending_of c.bound left torn ≡ End → (best : Option Shown) → IsBestOf (ready_objects s (gathered ps)) best
      → (received c left torn).status ≡ status_with best
  unfolding received
  best_says torn ends best greatest =
      ap (λ e. base_status e (drops c.budget ps) (installed_after c.budget ps)) ends
      ∙ ap (λ n. end_status n (installed_after c.budget ps)) none_over
      ∙ ap (end_status 0) (best_is best greatest) ∙ at_end best

  pub best_answers : (torn : Option ℕ) → ending_of c.bound left torn ≡ End → (best : Option Shown) → IsBestOf (ready_objects s (gathered ps)) best
      → (result : ℕ) → (result ≡ number (Ok (received c left torn).status)) ⊎ (result ≡ number (Err Memory))
      → (result ≡ number (Ok (status_with best))) ⊎ (result ≡ number (Err Memory))
  best_answers torn ends best greatest result (inl is) = inl (is ∙ ap (λ status. number (Ok status)) (best_says torn ends best greatest))
  best_answers torn ends best greatest result (inr memory) = inr memory
