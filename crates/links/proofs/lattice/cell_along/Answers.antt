-- `links::lattice::cell_along` meets its contract. Assumes nothing.
use mathlib.Core.Path.{refl}
use Rattle.links.proofs.LatticeLaws.{along-first, along-last}
use Rattle.links.proofs.lattice.cell_along.Goals as goal

pub returns-then-i-n : goal.returns-then-i-n
returns-then-i-n c = along-first _ _ _ _ refl c.if-i-n.true

pub returns : goal.returns
returns c = along-last _ c.args.k _ _ refl c.if-i-n.false
