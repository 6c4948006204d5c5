use Rattle.std.proofs.Common.{◌-◌, ◌≤◌, ◌∙◌, ap, subst, length, slice_get}
use Rattle.std.specs.Prelude.{option_map}
use Rattle.carousel_cid.specs.Instances.{Shown}
use Rattle.snapshot_hub.specs.Histories.{height}
use Rattle.run_readers.proofs.Noted.{last_mapped, not_below}
use Rattle.run_readers.proofs.lines.last_number.Goals as goal

pub lesser-requires : goal.lesser-requires
lesser-requires g c =
    let p = c.args.publisher.now in
    let shown = c.last_glance-glance.result in
    not_below p shown c.copied.result c.number_of.result
    (c.copied.ensures ∙ c.last.ensures.value ∙ ap (λ ns. slice_get ns (length ns - 1)) c.requires ∙ last_mapped p)
    (c.number_of.ensures ∙ ap (option_map (λ (i : Shown). i.number)) c.instance.ensures)
    (subst (λ t. height t ≤ height shown) c.in_ok-tell.ensures c.last_glance-glance.ensures)

pub returns : goal.returns
returns g c =
    c.lesser.ensures ∙ c.copied.ensures ∙ c.last.ensures.value
    ∙ ap (λ ns. slice_get ns (length ns - 1)) c.requires ∙ last_mapped c.args.publisher.now
