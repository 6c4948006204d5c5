use Rattle.std.proofs.Common.{◌<◌, ◌∙◌, arith}
use Rattle.run_drill.proofs.Drilling.{bodies_more, files_more}
use Rattle.run_drill.proofs.bodies.bodies.Goals as goal

pub loop-file-preserved : goal.loop-file-preserved
loop-file-preserved c =
    let now = c.loop-file in
    let file = c.in_ok-body.ensures in
    let less : c.loop-file._file < c.args.count = omega (arith, c.loop-file-test.true) in
    record {
      bodies = bodies_more now.out.items c.push.new.self.items c.args.count now._file now.generator.state c.body.new.generator.state c.in_ok-body.field-0
          less file.body file.state c.in_ok-push.ensures.items ∙ now.invariant.bodies;
      state = files_more c.args.count now._file now.generator.state c.body.new.generator.state less file.state ∙ now.invariant.state;
    }
