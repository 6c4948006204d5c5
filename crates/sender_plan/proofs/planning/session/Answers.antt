use Rattle.std.proofs.Common.{◌≡◌, ◌<◌, ◌≤◌, ◌+◌, ℕ, List, [], Some, Bor, length, get_or, rules, sym, ap, subst, ◌∙◌, arith}
use Rattle.std.specs.Prelude.{All, map, slice_get, unwrap_or}
use Rattle.std.specs.List.{AllByRecursion}
use Rattle.std.proofs.lemmas.List.{length-map}
use Rattle.sender_plan.specs.CatalogInstance.{CatalogInstance}
use Rattle.sender_plan.specs.Distinct.{distinct}
use Rattle.sender_plan.specs.Names.{names_of}
use Rattle.sender_plan.specs.Content.{same}
use Rattle.sender_plan.specs.Plan.{body_of, contents, content_bytes, listed_of, session_of, planned}
use Rattle.sender_plan.specs.Inner.Planning.{IsSendable, body_at}
use Rattle.sender_plan.proofs.Keeping.{length-objects}
use Rattle.std.proofs.lemmas.List.Elements.{All-from_recursion}
use Rattle.sender_plan.proofs.Planned.{none_refuses, few_files, few_contents, is_object, are_instances}
use Rattle.sender_plan.proofs.Filing.{same_body, places_length, places_within, are_filable}
use Rattle.sender_plan.proofs.planning.session.Goals as goal

pub sent_all-requires-clause-ready : goal.sent_all-requires-clause-ready
sent_all-requires-clause-ready c =
    let none = none_refuses c.args.catalog.now c.args.bodies.now c.args.params.now c.requires.sound in
    record {
      distinct = c.as_slice.ensures.distinct;
      symbol_from = c.requires.symbol_from;
      symbol_to = c.requires.symbol_to;
      some_block = c.requires.block;
      block_within = none.block_within;
      sendable = subst (AllByRecursion IsSendable) (sym c.new-2.ensures.items) tt;
    }

pub sent_all-requires-clause-many : goal.sent_all-requires-clause-many
sent_all-requires-clause-many c =
    let names = c.in_ok-names.names.keys in
    let held = map (λ (k : Bor (List ℕ)). k.now) c.as_slice.result.now in
    let placed : map (slice_get held) c.deref.result.now ≡ map (λ b. Some b) c.args.bodies.now =
    (λ j. map (slice_get (map (λ (k : Bor (List ℕ)). k.now) (c.as_slice.ensures.bodies j))) (c.deref.ensures.value j)) ∙ c.in_ok-bodies.ensures in
    places_length held c.deref.result.now c.args.bodies.now placed ∙ c.requires.many
    ∙ ap (λ (is : List CatalogInstance). length (names_of is)) (sym c.as_slice-instances.ensures.instances) ∙ ap length (sym c.in_ok-names.ensures)
    ∙ length-map names (λ (k : Bor (List ℕ)). k.now)

pub sent_all-requires-clause-within : goal.sent_all-requires-clause-within
sent_all-requires-clause-within c =
    let places = c.deref.result.now in
    let held = map (λ (k : Bor (List ℕ)). k.now) c.as_slice.result.now in
    let placed : map (slice_get held) places ≡ map (λ b. Some b) c.args.bodies.now =
    (λ j. map (slice_get (map (λ (k : Bor (List ℕ)). k.now) (c.as_slice.ensures.bodies j))) (c.deref.ensures.value j)) ∙ c.in_ok-bodies.ensures in
    λ k d within.
    subst (λ n. get_or places k d < n) (length-map c.as_slice.result.now (λ (b : Bor (List ℕ)). b.now))
    (All-from_recursion (λ place. place < length held) places (places_within held places c.args.bodies.now placed) k d within)

pub sent_all-requires-clause-few : goal.sent_all-requires-clause-few
sent_all-requires-clause-few c =
    let none = none_refuses c.args.catalog.now c.args.bodies.now c.args.params.now c.requires.sound in
    subst (λ (is : List CatalogInstance). All (λ i. length i.items ≤ 4096) is) (sym c.as_slice-instances.ensures.instances)
    (All-from_recursion (λ i. length i.items ≤ 4096) c.args.catalog.now (few_files 1 c.args.catalog.now none.few))

pub sent_all-requires-clause-filable : goal.sent_all-requires-clause-filable
sent_all-requires-clause-filable c =
    let places = c.deref.result.now in
    let held = c.as_slice.result.now in
    let placed : map (slice_get (map (λ (k : Bor (List ℕ)). k.now) held)) places ≡ map (λ b. Some b) c.args.bodies.now =
    (λ j. map (slice_get (map (λ (k : Bor (List ℕ)). k.now) (c.as_slice.ensures.bodies j))) (c.deref.ensures.value j)) ∙ c.in_ok-bodies.ensures in
    are_filable c.as_slice-instances.result.now c.args.bodies.now c.in_ok-names.names.keys places held c.in_ok-names.ensures placed c.requires.short
    (subst (λ (is : List CatalogInstance). All (λ i. All (λ item. length item.location + length (unwrap_or item.kind []) ≤ 16777216) i.items) is)
    (sym c.as_slice-instances.ensures.instances) c.requires.texts)

pub new-requires-4 : goal.new-requires-4
new-requires-4 c =
    let params = c.args.params.now in
    let instances = c.as_slice-instances.result.now in
    let planner = c.sent_all.new.planner in
    let told = c.in_ok-sent.ensures in
    let body = body_at c.in_ok-names.names.keys c.deref.result.now c.as_slice.result.now in
    let all = contents body instances in
    let texts = map (content_bytes (listed_of all body)) (distinct same all) in
    let none = none_refuses c.args.catalog.now c.args.bodies.now params c.requires.sound in
    let few = subst (λ (is : List CatalogInstance). AllByRecursion (λ i. length i.items ≤ 4096) is) (sym c.as_slice-instances.ensures.instances)
    (few_files 1 c.args.catalog.now none.few) in
    let less : length instances ≤ 256 = subst (λ (is : List CatalogInstance). length is ≤ 256)
    (sym c.as_slice-instances.ensures.instances) c.as_slice-instances.ensures.few in
    record {
      tsi = search rules;
      few = omega (
        arith,
        ap length told.objects,
        length-objects params 1 texts,
        length-map (distinct same all) (content_bytes (listed_of all body)),
        few_contents body instances few less,
      );
      objects = is_object params texts planner.objects.items told.objects told.ready.sendable;
      instances = are_instances (record { tsi = params.tsi; objects = planner.objects.items; instances = c.in_ok-sent.sent.items; cycles = params.cycles })
          c.in_ok-sent.sent.items told.known;
      cycles = c.requires.cycles;
    }

pub returns-clause-planned : goal.returns-clause-planned
unfolding planned
returns-clause-planned c =
    let params = c.args.params.now in
    let bodies = c.args.bodies.now in
    let instances = c.as_slice-instances.result.now in
    let names = c.in_ok-names.names.keys in
    let places = c.deref.result.now in
    let held = c.as_slice.result.now in
    let told = c.in_ok-sent.ensures in
    let placed : map (slice_get (map (λ (k : Bor (List ℕ)). k.now) held)) places ≡ map (λ b. Some b) bodies =
    (λ j. map (slice_get (map (λ (k : Bor (List ℕ)). k.now) (c.as_slice.ensures.bodies j))) (c.deref.ensures.value j)) ∙ c.in_ok-bodies.ensures in
    let body = body_at names places held in
    c.new-4.ensures.parts
    ∙ (λ j. record { tsi = params.tsi; objects = told.objects j; instances = told.instances j; cycles = params.cycles })
    ∙ ap (λ (b : List ℕ → List ℕ). session_of (contents b instances) b instances params) (same_body instances bodies names places held c.in_ok-names.ensures placed)
    ∙ ap (λ (is : List CatalogInstance). session_of (contents (body_of is bodies) is) (body_of is bodies) is params) c.as_slice-instances.ensures.instances
