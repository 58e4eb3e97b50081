-- `start::stock::clear_abandoned` meets its contract. Assumes nothing.
use native.Mathlib.Omega.{arith}
use Rattle.start.proofs.WriteLaws.{zeroed_is}
use Rattle.start.proofs.stock.clear_abandoned.Goals as goal

pub returns : goal.returns
returns c = zeroed_is 3 _ _ _ _ c.abandoned-a.ensures (omega (arith, c.requires.n_in_bounds)) (c.fill.ensures.after (λ y h. h))
