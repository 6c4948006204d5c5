use Rattle.std.proofs.Common.{◌≡◌, ◌%◌, refl, arith}
use Rattle.std.proofs.Math.Nat.{mod-eq_of_lt}
use Rattle.oti_blocks.proofs.information.Oti.fti.Goals as goal

pub returns : goal.returns
returns c =
    let block_is : c.self.inside.max_block % 256 ≡ c.self.inside.max_block = mod-eq_of_lt (omega (arith, c.self.invariant.block_within, c.self.invariant.max_n_fits)) in
    let max_n_is : c.self.inside.max_n % 256 ≡ c.self.inside.max_n = mod-eq_of_lt (omega (arith, c.self.invariant.max_n_fits)) in
    rw (c.write_u16.ensures, c.write_uint.ensures, ← c.self.view_is, block_is, max_n_is) refl
