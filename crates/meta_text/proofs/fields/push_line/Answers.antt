use Rattle.std.proofs.Common.{◌≡◌, ◌++◌, codes, ap, ◌∙◌, append_assoc}
use Rattle.std.proofs.lemmas.Result.{err_from_is_err_and}
use Rattle.meta_text.specs.Fields.{line_of, line_end}
use Rattle.meta_text.specs.Inner.Spans.{name_at, value_at, pair_at}
use Rattle.meta_text.proofs.Fronts.{front_added}
use Rattle.meta_text.proofs.fields.push_line.Goals as goal

pub returns-in_err-extend_from_slice-2-clause-front :
    goal.returns-in_err-extend_from_slice-2-clause-front
returns-in_err-extend_from_slice-2-clause-front c =
    let p = err_from_is_err_and c.from_residual-in_err-extend_from_slice-2.result c.from_residual-in_err-extend_from_slice-2.ensures.1 in
    let name = name_at c.args.text.now c.args.span in
    let value = value_at c.args.text.now c.args.span in
    let out = c.args.out.now.items in
    let added : c.extend_from_slice-2.new.self.items ≡ out ++ name =
    c.in_err-extend_from_slice-2.ensures.items ∙ c.in_ok-extend_from_slice.ensures.items ∙ ap (λ bs. out ++ bs) (c.as_bytes.ensures.value ∙ c.name.ensures) in
    rw p.1 (front_added out name (codes ": " ++ value ++ line_end) _ (line_of (pair_at c.args.text.now c.args.span)) (simp append_assoc) added)

pub returns-in_err-extend_from_slice-3-clause-front :
    goal.returns-in_err-extend_from_slice-3-clause-front
returns-in_err-extend_from_slice-3-clause-front c =
    let p = err_from_is_err_and c.from_residual-in_err-extend_from_slice-3.result c.from_residual-in_err-extend_from_slice-3.ensures.1 in
    let name = name_at c.args.text.now c.args.span in
    let value = value_at c.args.text.now c.args.span in
    let out = c.args.out.now.items in
    let added : c.extend_from_slice-3.new.self.items ≡ out ++ (name ++ codes ": ") =
    c.in_err-extend_from_slice-3.ensures.items ∙ c.in_ok-extend_from_slice-2.ensures.items
    ∙ ap (λ bs. bs ++ codes ": ") (c.in_ok-extend_from_slice.ensures.items ∙ ap (λ bs. out ++ bs) (c.as_bytes.ensures.value ∙ c.name.ensures))
    ∙ append_assoc out name (codes ": ") in
    rw p.1 (front_added out (name ++ codes ": ") (value ++ line_end) _ (line_of (pair_at c.args.text.now c.args.span))
    (simp append_assoc) added)

pub returns-in_err-extend_from_slice-4-clause-front :
    goal.returns-in_err-extend_from_slice-4-clause-front
returns-in_err-extend_from_slice-4-clause-front c =
    let p = err_from_is_err_and c.from_residual-in_err-extend_from_slice-4.result c.from_residual-in_err-extend_from_slice-4.ensures.1 in
    let name = name_at c.args.text.now c.args.span in
    let value = value_at c.args.text.now c.args.span in
    let out = c.args.out.now.items in
    let added : c.extend_from_slice-4.new.self.items ≡ out ++ (name ++ (codes ": " ++ value)) =
    c.in_err-extend_from_slice-4.ensures.items ∙ c.in_ok-extend_from_slice-3.ensures.items
    ∙ ap (λ bs. bs ++ c.as_bytes-2.result.now) (c.in_ok-extend_from_slice-2.ensures.items
    ∙ ap (λ bs. bs ++ codes ": ") (c.in_ok-extend_from_slice.ensures.items ∙ ap (λ bs. out ++ bs) (c.as_bytes.ensures.value ∙ c.name.ensures)))
    ∙ ap (λ bs. ((out ++ name) ++ codes ": ") ++ bs) (c.as_bytes-2.ensures.value ∙ c.value.ensures) ∙ simp append_assoc in
    rw p.1 (front_added out (name ++ (codes ": " ++ value)) line_end _ (line_of (pair_at c.args.text.now c.args.span)) (simp append_assoc) added)
