-- Two look-ups lane by lane, each at halves below 16.
use Rattle.gf256.proofs.LookUps.{high_ok, low_ok, products_by_halves}
use Rattle.gf256.proofs.lanes.times.Goals as goal

pub swizzle : goal.swizzle
swizzle c = low_ok c.args.elements c.fits-elements

pub swizzle-2 : goal.swizzle-2
swizzle-2 c = high_ok c.args.elements c.fits-elements

pub returns : goal.returns
returns c by less tables = products_by_halves by c.args.low c.args.high c.args.elements less c.fits-elements tables
