use Rattle.std.proofs.Common.{◌∷◌, [], ◌∙◌, map, ap, subst}
use Rattle.std.proofs.lemmas.Result.{err_from_is_err_and, on_ok_weaker, on_err_weaker}
use Rattle.edge_io.specs.Shelved.{Shelved}
use Rattle.edge_io.specs.ShelfCalls.{Begin, Finish, after}
use Rattle.run_receive.specs.Outcome.{put_of}
use Rattle.run_base.specs.Parts.{AcceptsFewer}
use Rattle.run_receive.proofs.Installing.{fewer_later, fewer_last, all_accepted}
use Rattle.run_receive.proofs.shelve.install.Goals as goal

pub returns-in_err-put_all-clause-err : goal.returns-in_err-put_all-clause-err
returns-in_err-put_all-clause-err g c =
    let p = err_from_is_err_and c.from_residual-in_err-put_all.result c.from_residual-in_err-put_all.ensures.1 in
    rw p.1 (λ told. fewer_later (Begin c.args.number) (map put_of c.args.files.now)
    (Finish c.args.manifest.now ∷ []) (g.S.Shelf.holds c.args.shelf.now) (g.S.Shelf.holds c.put_all.new.shelf)
    (subst (λ (s : Shelved). AcceptsFewer (map put_of c.args.files.now) s (g.S.Shelf.holds c.put_all.new.shelf))
    (c.in_ok-begin.ensures.ok told) (c.in_err-put_all.ensures.err (c.in_ok-begin.ensures.told told))))

pub returns-clause-ok : goal.returns-clause-ok
returns-clause-ok g c = on_ok_weaker c.finish.result (λ done told.
    let begun = c.in_ok-begin.ensures.told told in
    all_accepted (Begin c.args.number) (map put_of c.args.files.now) (Finish c.args.manifest.now)
    (g.S.Shelf.holds c.args.shelf.now) (g.S.Shelf.holds c.put_all.new.shelf) (g.S.Shelf.holds c.finish.new.self)
    (c.in_ok-put_all.ensures.ok begun ∙ ap (after (map put_of c.args.files.now)) (c.in_ok-begin.ensures.ok told))
    (done (c.in_ok-put_all.ensures.told begun))) c.finish.ensures.ok

pub returns-clause-err : goal.returns-clause-err
returns-clause-err g c = on_err_weaker c.finish.result (λ left told.
    let begun = c.in_ok-begin.ensures.told told in
    fewer_last (Begin c.args.number) (map put_of c.args.files.now) (Finish c.args.manifest.now) (g.S.Shelf.holds c.args.shelf.now) (g.S.Shelf.holds c.finish.new.self)
    (left (c.in_ok-put_all.ensures.told begun) ∙ (c.in_ok-put_all.ensures.ok begun ∙ ap (after (map put_of c.args.files.now)) (c.in_ok-begin.ensures.ok told))))
    c.finish.ensures.err
