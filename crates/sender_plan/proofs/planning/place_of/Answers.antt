use Rattle.std.proofs.Common.{Bor, List, ℕ, sym, ap, ◌∙◌, arith}
use Rattle.std.specs.Prelude.{slice_get}
use Rattle.std.specs.Str.{bytes_eq}
use Rattle.meta_text.proofs.Public.{found_at, none_at, any_without_place}
use Rattle.sender_plan.proofs.Sets.{any_shown}
use Rattle.sender_plan.proofs.Places.{place_shown, stands_at}
use Rattle.sender_plan.proofs.planning.place_of.Goals as goal

pub returns-in-Some : goal.returns-in-Some
returns-in-Some c =
    let name = c.args.name.now in
    let keys = c.args.names.now.keys in
    let found = found_at (λ (k : Bor (List ℕ)). bytes_eq name k.now) keys c.in-Some.at (sym c.get_index_of.ensures.index ∙ c.in-Some.is) in
    ap (slice_get c.args.places.now) (place_shown (bytes_eq name) keys ∙ found.0) ∙ stands_at c.args.places.now c.in-Some.at (omega (arith, found.1))

pub returns-in-None : goal.returns-in-None
returns-in-None c =
    let name = c.args.name.now in
    let keys = c.args.names.now.keys in
    let none = any_without_place (λ (k : Bor (List ℕ)). bytes_eq name k.now) keys
    (none_at (λ (k : Bor (List ℕ)). bytes_eq name k.now) keys (sym c.get_index_of.ensures.index ∙ c.in-None.is)) in
    let gone = sym (any_shown (bytes_eq name) keys) ∙ none in
    absurd (let known = c.requires.known in cc)
