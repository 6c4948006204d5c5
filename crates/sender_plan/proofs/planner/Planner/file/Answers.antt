use Rattle.std.proofs.Common.{◌≡◌, ◌+◌, ℕ, List, Bor, Some, None, cond, length, sym, ap, ◌∙◌, arith}
use Rattle.std.specs.Prelude.{map}
use Rattle.std.specs.HashMap.{get}
use Rattle.std.specs.List.{position_or_len}
use Rattle.std.proofs.lemmas.List.{length-map}
use Rattle.sender_plan.specs.Content.{same}
use Rattle.carousel_cid.specs.File.{file_bytes}
use Rattle.sender_plan.specs.Plan.{content_bytes}
use Rattle.sender_plan.specs.Inner.Sets.{added}
use Rattle.sender_plan.specs.Inner.Planning.{shown_kind, key_same, file_at}
use Rattle.sender_plan.proofs.Lengths.{file_length, sound_information}
use Rattle.sender_plan.proofs.Keeping.{length-objects, found_some, found_none, place_at_end, file_itself, body_shown, keeps_file, added_there, added_new}
use Rattle.sender_plan.proofs.planner.Planner.file.Goals as goal

pub returns-in-Some-clause-toi : goal.returns-in-Some-clause-toi
returns-in-Some-clause-toi c = λ listed kept keeps.
    let bodies = map (λ (b : Bor (List ℕ)). b.now) c.args.self.now.bodies.now in
    let content = file_at bodies c.args.key in
    let got : get key_same c.args.self.now.files c.args.key ≡ Some c.in-Some.toi = sym c.get.ensures.value ∙ sym c.copied.ensures ∙ c.in-Some.is in
    let found = found_some kept content c.in-Some.toi (sym (keeps.files c.args.key c.requires.body) ∙ got) in
    found.1 ∙ ap (λ ks. position_or_len (same content) ks + 1) (sym (added_there kept content found.0))

pub returns-clause-ok : goal.returns-clause-ok
returns-clause-ok c = λ listed kept keeps.
    let planner = c.args.self.now in
    let bodies = map (λ (b : Bor (List ℕ)). b.now) planner.bodies.now in
    let content = file_at bodies c.args.key in
    let got : get key_same planner.files c.args.key ≡ None = sym c.get.ensures.value ∙ sym c.copied.ensures ∙ c.in_default.is in
    let none = found_none kept content (sym (keeps.files c.args.key c.requires.body) ∙ got) in
    let made = c.in_ok-bytes.ensures.bytes ∙ ap (file_bytes c.args.key.location.now (shown_kind c.args.key.kind))
    (body_shown planner.bodies.now c.args.key.body _ c.requires.body) in
    let push = c.in_ok-toi.ensures in
    keeps_file listed kept c.args.key planner
    (record { params = c.push.new.self.params; bodies = c.push.new.self.bodies; objects = c.push.new.self.objects; files = c.insert.new.self })
    c.in_ok-toi.toi c.in_ok-bytes.bytes.items keeps c.requires.ready.distinct c.requires.body none push.toi made push.same.0 push.same.1 push.ok
    (λ q. c.in_ok-insert.ensures.updates.0 q ∙ ap (λ files. cond (key_same c.args.key q) (Some c.in_ok-toi.toi) (get key_same files q)) push.same.2)

pub returns-clause-toi : goal.returns-clause-toi
returns-clause-toi c = λ listed kept keeps.
    let planner = c.args.self.now in
    let bodies = map (λ (b : Bor (List ℕ)). b.now) planner.bodies.now in
    let content = file_at bodies c.args.key in
    let got : get key_same planner.files c.args.key ≡ None = sym c.get.ensures.value ∙ sym c.copied.ensures ∙ c.in_default.is in
    let none = found_none kept content (sym (keeps.files c.args.key c.requires.body) ∙ got) in
    let place = place_at_end (same content) kept content none (file_itself bodies c.args.key) in
    let last : position_or_len (same content) (added same kept content) ≡ length kept = ap (position_or_len (same content)) (added_new kept content none) ∙ place in
    omega (
      arith,
      last,
      c.in_ok-toi.ensures.toi,
      ap length keeps.objects,
      length-objects planner.params 1 (map (content_bytes listed) kept),
      length-map kept (content_bytes listed),
    )

pub push-requires-clause-sound : goal.push-requires-clause-sound
push-requires-clause-sound c =
    let planner = c.args.self.now in
    let ready = c.requires.ready in
    let made = c.in_ok-bytes.ensures.bytes ∙ ap (file_bytes c.args.key.location.now (shown_kind c.args.key.kind))
    (body_shown planner.bodies.now c.args.key.body _ c.requires.body) in
    let size = file_length c.args.key.location.now (shown_kind c.args.key.kind) _ c.requires.short c.requires.texts in
    λ fits. sound_information planner.params c.in_ok-bytes.bytes.items ready.symbol_from ready.symbol_to ready.some_block ready.block_within
    fits (rw made size.0) (rw made (omega (arith, size.1)))
