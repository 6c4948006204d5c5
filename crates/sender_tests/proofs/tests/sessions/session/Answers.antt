-- Three objects and these instances are a session.
use Rattle.std.proofs.Common.{◌≡◌, ℕ, zero, suc, ◌≤◌, List, [], ◌∷◌, ◌++◌, true, Some, length, sym, ap, ◌∙◌, subst, arith, rules}
use Rattle.std.specs.Prelude.{All, slice_get}
use Rattle.sender_plan.specs.Session.{Session, SentObject, SentInstance, IsObject, IsInstance, IsSession}
use Rattle.sender_tests.proofs.tests.sessions.session.Goals as goal

three : (a b c : SentObject) (is : List SentInstance) (cycles : ℕ) → IsObject 0 a → IsObject 1 b → IsObject 2 c
    → ((s : Session) → 3 ≤ length s.objects → All (IsInstance s) is) → 1 ≤ cycles
    → IsSession (record { tsi = 1; objects = a ∷ b ∷ c ∷ []; instances = is; cycles = cycles })
three a b c is cycles at_0 at_1 at_2 all some = record {
  tsi = omega arith;
  few = omega arith;
  objects = objects_are;
  instances = all (record { tsi = 1; objects = a ∷ b ∷ c ∷ []; instances = is; cycles = cycles }) (omega arith);
  cycles = some;
} where
  objects_are : (position : ℕ) (o : SentObject) → slice_get (a ∷ b ∷ c ∷ []) position ≡ Some o → IsObject position o
  objects_are zero o found = let same : a ≡ o = cc in subst (IsObject 0) same at_0
  objects_are (suc zero) o found = let same : b ≡ o = cc in subst (IsObject 1) same at_1
  objects_are (suc (suc zero)) o found = let same : c ≡ o = cc in subst (IsObject 2) same at_2
  objects_are (suc (suc (suc n))) o found = absurd cc

pub new-requires : goal.new-requires
new-requires c =
    let items : c.push-3.new.self.items ≡ c.args.one ∷ c.args.two ∷ c.args.three ∷ [] =
    c.in_ok-push-3.ensures.items
    ∙ ap (λ (xs : List SentObject). xs ++ c.args.three ∷ []) (c.in_ok-push-2.ensures.items
    ∙ ap (λ (xs : List SentObject). xs ++ c.args.two ∷ []) (c.in_ok-push.ensures.items
    ∙ ap (λ (xs : List SentObject). xs ++ c.args.one ∷ []) c.new-objects.ensures.items))
    in
    let yes : c.are_instances.result ≡ true = search rules in
    subst (λ (xs : List SentObject). IsSession (record { tsi = 1; objects = xs; instances = c.args.instances.items; cycles = c.args.cycles })) (sym items)
    (three c.args.one c.args.two c.args.three c.args.instances.items c.args.cycles c.requires.one c.requires.two c.requires.three
    (λ s few. subst (λ (xs : List SentInstance). All (IsInstance s) xs) c.as_slice.ensures.value (c.are_instances.ensures yes s few)) c.requires.cycles)
