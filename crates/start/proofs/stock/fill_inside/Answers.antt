-- `start::stock::fill_inside` meets its contract. Assumes nothing.
use native.Mathlib.Omega.{arith}
use Rattle.filling.specs.Fill.{fill_region}
use Rattle.start.proofs.WriteLaws.{lent-put}
use Rattle.start.proofs.stock.fill_inside.Goals as goal

pub returns : goal.returns
returns c = lent-put (fill_region c.args.g c.args.vs.now c.args.lens.now c.args.pocket) 5 _ _ _ _ _ c.cells-n.ensures c.inside-a.ensures (omega (arith, c.requires.nx_in_bounds)) c.fill_region.ensures
