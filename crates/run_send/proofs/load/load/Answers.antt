use Rattle.run_send.proofs.Sends.{loaded}
use Rattle.run_send.proofs.load.load.Goals as goal

pub returns-clause-decides : goal.returns-clause-decides
returns-clause-decides g c = λ told.
    let found = c.in-Ok.ensures in
    loaded (g.F.Files.found c.args.files.now) (g.F.Files.found c.read_file.new.files) c.args.sending.now c.in-Ok.text c.in-Ok-listed.catalog c.session_of.result
    (found.decides told) c.in-Ok-listed.ensures.decides (found.same told) (c.session_of.ensures.decides (found.told told))
