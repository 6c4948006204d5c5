use Rattle.std.proofs.Common.{◌≡◌, ◌+◌, ◌++◌, ◌∷◌, [], Bor, Some, List, ℕ, take, sym, ap, ◌∙◌}
use Rattle.std.specs.Prelude.{map, slice_get, option_map}
use Rattle.std.specs.Str.{bytes_eq}
use Rattle.std.proofs.lemmas.List.{take_more}
use Rattle.std.proofs.lemmas.Option.{slice_get-map}
use Rattle.sender_plan.specs.Inner.Sets.{added}
use Rattle.sender_plan.proofs.Sets.{map-added}
use Rattle.sender_plan.proofs.Keys.{equal_bytes}
use Rattle.sender_plan.proofs.Places.{places_more}
use Rattle.sender_plan.proofs.bodies.Bodies.new.Goals as goal

pub loop-body-preserved : goal.loop-body-preserved
loop-body-preserved c =
    let i = c.loop-body.body-index in
    let bodies = c.args.bodies.now in
    let keys = map (λ (k : Bor (List ℕ)). k.now) c.loop-body.distinct.keys in
    let new = map (λ (k : Bor (List ℕ)). k.now) c.insert_full.new.self.keys in
    let body = c.body-item.result in
    let place = c.in_ok-place.place in
    let stored = c.in_ok-place.ensures.stored in
    let made : new ≡ added bytes_eq keys body =
    ap (map (λ (k : Bor (List ℕ)). k.now)) c.in_ok-place.ensures.keys
    ∙ map-added c.loop-body.distinct.keys c.as_slice.result ∙ ap (added bytes_eq keys) c.as_slice.ensures in
    let shown : stored.0.now ≡ body = sym (equal_bytes c.as_slice.result.now stored.0.now stored.2) ∙ c.as_slice.ensures in
    let stands : slice_get new place ≡ Some body =
    slice_get-map (λ (k : Bor (List ℕ)). k.now) c.insert_full.new.self.keys place ∙ ap (option_map (λ (k : Bor (List ℕ)). k.now)) stored.1 ∙ ap (λ b. Some b) shown in
    let front : take (i + 1) bodies ≡ take i bodies ++ body ∷ [] = take_more bodies i body c.loop-body-test.true
    ∙ ap (λ b. take i bodies ++ b ∷ []) (sym c.body-item.is) in
    ap (map (slice_get new)) c.in_ok-push.ensures.items ∙ places_more keys new body place c.loop-body.places.items (take i bodies) c.loop-body.invariant made stands
    ∙ ap (map (λ (b : List ℕ). Some b)) (sym front)
