use Rattle.std.proofs.Common.{◌<◌, ◌∙◌, arith}
use Rattle.run_drill.proofs.Drilling.{bytes_more, draws_more}
use Rattle.run_drill.proofs.bodies.bytes.Goals as goal

pub loop-byte-preserved : goal.loop-byte-preserved
loop-byte-preserved c =
    let now = c.loop-byte in
    let less : c.loop-byte._byte < c.args.count = omega (arith, c.loop-byte-test.true) in
    record {
      bytes = bytes_more now.out.items c.push.new.self.items c.args.count now._byte now.generator.state c.draw.new.self.state c.draw.result
          less c.draw.ensures.number c.draw.ensures.state c.in_ok-push.ensures.items ∙ now.invariant.bytes;
      state = draws_more c.args.count now._byte now.generator.state c.draw.new.self.state less c.draw.ensures.state ∙ now.invariant.state;
    }
