use Rattle.std.proofs.Common.{◌≡◌, ◌+◌, ◌≤◌, ◌++◌, ◌∷◌, [], ℕ, List, None, length, length-append, take, drop, rules, refl, sym, ap, subst, ◌∙◌, arith}
use Rattle.std.specs.Prelude.{map}
use Rattle.std.specs.List.{AllByRecursion}
use Rattle.std.proofs.lemmas.List.{take_more, take_all, drop_more, take-append-drop, map-append}
use Rattle.carousel_cid.specs.Repeats.{first_places}
use Rattle.sender_plan.specs.CatalogInstance.{CatalogInstance}
use Rattle.sender_plan.specs.Check.{not_rising}
use Rattle.sender_plan.specs.Content.{Content, Descriptor, same, identifier}
use Rattle.sender_plan.specs.Plan.{files_of, contents, content_bytes, listed_of, sent_of, objects_from}
use Rattle.sender_plan.specs.Inner.Sets.{added_all}
use Rattle.sender_plan.specs.Inner.Planning.{Keeps, HasPlaces, place_in, body_at}
use Rattle.sender_plan.proofs.Sets.{added_all-distinct}
use Rattle.sender_plan.proofs.Keeping.{length_kept}
use Rattle.sender_plan.proofs.Identifiers.{each_more, added_all_grows}
use Rattle.sender_plan.proofs.Sessions.{same_transitive, before_next, listed_is, toi_is, has_places, more_places}
use Rattle.sender_plan.proofs.planning.sent_all.Goals as goal

pub loop-instance-init : goal.loop-instance-init
loop-instance-init c =
    let body = body_at c.args.names.now.keys c.args.places.now c.args.planner.now.bodies.now in
    record {
      params = refl;
      bodies = refl;
      ready = c.requires.ready;
      keeps = c.requires.fresh (listed_of (contents body c.args.instances.now) body);
      sent = search rules;
      known = search rules;
    }

pub loop-instance-preserved : goal.loop-instance-preserved
loop-instance-preserved c =
    let i = c.loop-instance.instance-index in
    let instances = c.args.instances.now in
    let names = c.args.names.now.keys in
    let places = c.args.places.now in
    let planner = c.loop-instance.planner in
    let new = c.sent.new.planner in
    let instance = c.instance-item.result in
    let value = c.in_ok-sent.field-0 in
    let before = c.loop-instance.invariant in
    let told = c.in_ok-sent.ensures in
    let body = body_at names places c.args.planner.now.bodies.now in
    let same_body : body_at names places planner.bodies.now ≡ body = ap (body_at names places) before.bodies in
    let front = take i instances in
    let rest = drop (i + 1) instances in
    let all = contents body instances in
    let lists = listed_of all body in
    let cut : instances ≡ front ++ instance ∷ rest =
    sym (take-append-drop i instances)
    ∙ ap (λ xs. front ++ xs) (drop_more instances i instance c.loop-instance-test.true ∙ ap (λ x. x ∷ rest) (sym c.instance-item.is)) in
    let next : take (i + 1) instances ≡ front ++ instance ∷ [] =
    take_more instances i instance c.loop-instance-test.true ∙ ap (λ x. front ++ x ∷ []) (sym c.instance-item.is) in
    let rising = subst (λ (is : List CatalogInstance). not_rising 1 None is ≡ None) cut c.requires.rising in
    let kept = added_all same [] (contents body front) in
    let held = added_all same kept (files_of body instance) in
    let listed = subst (λ (b : List ℕ → List ℕ). (more : List Content)
    → value.listed ≡ first_places (map (place_in (added_all same kept (files_of b instance) ++ more)) (files_of b instance))) same_body
    (told.listed lists kept before.keeps) in
    let toi : value.descriptor_toi ≡ length held + 1 =
    told.toi lists kept before.keeps ∙ ap (λ (b : List ℕ → List ℕ). length (added_all same kept (files_of b instance)) + 1) same_body in
    let is_listed : value.listed ≡ lists instance =
    listed_is body front instance rest value.listed rising listed ∙ ap (λ (is : List CatalogInstance). listed_of (contents body is) body instance) (sym cut) in
    let is_toi : value.descriptor_toi ≡ identifier all (Descriptor instance) =
    toi_is body front instance rest value.descriptor_toi rising toi
    ∙ ap (λ (is : List CatalogInstance). identifier (contents body is) (Descriptor instance)) (sym cut) in
    let is_sent : value ≡ sent_of all body instance = λ j. record { number = told.number j; descriptor_toi = is_toi j; listed = is_listed j } in
    let keeps : Keeps lists (held ++ Descriptor instance ∷ []) new =
    subst (λ (b : List ℕ → List ℕ). Keeps lists (added_all same kept (files_of b instance) ++ Descriptor instance ∷ []) new) same_body
    (told.keeps lists kept before.keeps (sym is_listed)) in
    let count : length new.objects.items ≡ length held + 1 =
    length_kept lists (held ++ Descriptor instance ∷ []) new keeps ∙ length-append held (Descriptor instance ∷ []) in
    let fewer : length planner.objects.items ≤ length new.objects.items =
    omega (arith, count, length_kept lists kept planner before.keeps, added_all_grows same kept (files_of body instance)) in
    record {
      params = told.same.0 ∙ before.params;
      bodies = told.same.1 ∙ before.bodies;
      ready = told.ready;
      keeps = subst (λ (ks : List Content). Keeps lists ks new)
          (sym (ap (λ (is : List CatalogInstance). added_all same [] (contents body is)) next ∙ before_next body front instance rest rising)) keeps;
      sent = c.in_ok-push.ensures.items ∙ (λ j. before.sent j ++ is_sent j ∷ []) ∙ sym (map-append (sent_of all body) front (instance ∷ []))
          ∙ ap (map (sent_of all body)) (sym next);
      known = subst (AllByRecursion (HasPlaces (length new.objects.items))) (sym c.in_ok-push.ensures.items)
          (each_more (HasPlaces (length new.objects.items)) c.loop-instance.out.items value
          (more_places (length planner.objects.items) (length new.objects.items) c.loop-instance.out.items fewer before.known)
          (subst (λ n. HasPlaces n value) (sym count) (has_places body kept instance value (listed []) toi told.different)));
    }

pub returns-clause-objects : goal.returns-clause-objects
returns-clause-objects c =
    let instances = c.args.instances.now in
    let body = body_at c.args.names.now.keys c.args.places.now c.args.planner.now.bodies.now in
    let all = contents body instances in
    let before = c.loop-instance.invariant in
    before.keeps.objects
    ∙ (λ j. objects_from (before.params j) 1 (map (content_bytes (listed_of all body))
    (added_all same [] (contents body (take_all c.loop-instance.instance-index instances c.loop-instance-test.false j)))))
    ∙ ap (λ (ks : List Content). objects_from c.args.planner.now.params 1 (map (content_bytes (listed_of all body)) ks)) (added_all-distinct same same_transitive all)

pub returns-clause-instances : goal.returns-clause-instances
returns-clause-instances c =
    let instances = c.args.instances.now in
    let body = body_at c.args.names.now.keys c.args.places.now c.args.planner.now.bodies.now in
    c.loop-instance.invariant.sent
    ∙ ap (map (sent_of (contents body instances) body)) (take_all c.loop-instance.instance-index instances c.loop-instance-test.false)
