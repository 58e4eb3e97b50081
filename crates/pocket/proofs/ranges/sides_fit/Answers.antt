-- `pocket::ranges::sides_fit` meets its contract. Assumes nothing.
use native.Mathlib.Omega.{arith}
use Rattle.pocket.specs.Ranges.{sides_fit}
use Rattle.pocket.proofs.AskedLaws.{sides_product}
use Rattle.pocket.proofs.ranges.sides_fit.Goals as goal

pub overflow_mul-result : goal.overflow_mul-result
overflow_mul-result c = let s = c.args in
    omega (arith, sides_product s.nx s.ny c.if-nx.true c.if-ny.true)

pub returns-then-ny : goal.returns-then-ny
unfolding sides_fit
returns-then-ny c = rw (c.if-nx.true, c.if-ny.true)

pub returns-else-ny : goal.returns-else-ny
unfolding sides_fit
returns-else-ny c = rw (c.if-nx.true, c.if-ny.false)

pub returns-else-nx : goal.returns-else-nx
unfolding sides_fit
returns-else-nx c = rw c.if-nx.false
