-- The objects of a session that are sent.
use Rattle.std.proofs.Common.{◌≡◌, ℕ, zero, suc, ◌-◌, List, [], ◌∷◌, ◌++◌, Some, refl, ap, ◌∙◌, arith}
use Rattle.std.specs.Prelude.{All, replicate}
use Rattle.std.specs.List.{flat_map}
use Rattle.std.proofs.lemmas.Grind.{flat_map-append}
use Rattle.std.proofs.lemmas.List.Elements.{All-append, All-nil}
use Rattle.sender_plan.specs.Session.{Session, SentObject, HasObject, IsSession, objects_of, object_of}
use Rattle.sender_schedule.specs.Schedule.{all_cycles, object_datagrams, schedule}
use Rattle.sender_schedule.specs.Inner.Sending.{CanBeSent}

-- the lists of a list of lists of lists, either way
flat_map-flat_map : {A B C : Type 0} (f : B → List C) (g : A → List B) (xs : List A) → flat_map f (flat_map g xs) ≡ flat_map (λ x. flat_map f (g x)) xs
flat_map-flat_map f g [] = refl
flat_map-flat_map f g (x ∷ xs) = flat_map-append f (g x) (flat_map g xs) ∙ ap (λ ys. flat_map f (g x) ++ ys) (flat_map-flat_map f g xs)

-- the schedule object by object
pub schedule_by_objects : (s : Session) → flat_map (object_datagrams s) (flat_map objects_of (all_cycles s.cycles s.instances)) ≡ schedule s
schedule_by_objects s = flat_map-flat_map (object_datagrams s) objects_of (all_cycles s.cycles s.instances)

-- what holds of each member of each list holds of all of them
pub All-flat_map : {A B : Type 0} (P : B → Type 0) (f : A → List B) (xs : List A) → All (λ x. All P (f x)) xs → All P (flat_map f xs)
All-flat_map P f [] all = All-nil P
All-flat_map P f (x ∷ xs) all =
    All-append P (f x) (flat_map f xs) (λ k d less. all 0 x (omega arith) k d less) (All-flat_map P f xs (λ k d less. all (suc k) d (omega arith)))

pub All-replicate : {A : Type 0} (P : A → Type 0) (n : ℕ) (x : A) → P x → All P (replicate n x)
All-replicate P zero x is k d less = absurd (omega arith)
All-replicate P (suc n) x is zero d less = is
All-replicate P (suc n) x is (suc k) d less = All-replicate P n x is k d (omega arith)

-- the objects that are sent are objects of the session
pub all_known : (s : Session) → IsSession s → All (HasObject s) (flat_map objects_of (all_cycles s.cycles s.instances))
all_known s is =
    All-flat_map (HasObject s) objects_of (all_cycles s.cycles s.instances)
    (All-flat_map (λ i. All (HasObject s) (objects_of i)) (replicate s.cycles) s.instances
    (λ k d less. All-replicate (λ i. All (HasObject s) (objects_of i)) s.cycles _ (is.instances k d less).known))

-- an object of the session can be sent
pub can_be_sent : (s : Session) (toi : ℕ) (o : SentObject) → IsSession s → HasObject s toi → object_of s toi ≡ Some o → CanBeSent o
can_be_sent s toi o is has found =
    let object = is.objects (toi - 1) o found in
    record {
      toi = omega (arith, object.toi, has.some, has.within, is.few);
      sent = record { sound = object.sound; bytes = object.bytes; long = object.long };
      symbol = object.symbol;
    }
