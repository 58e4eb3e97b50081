-- `cutting::listing::greatest` meets its contract. Assumes nothing.
use native.Mathlib.Omega.{arith}
use Rattle.cutting.proofs.RoomLaws.{greatest_none, greatest_more, greatest_end}
use Rattle.cutting.proofs.listing.greatest.Goals as goal

pub loop-k-init : goal.loop-k-init
loop-k-init c = greatest_none _ _ _ _

pub overflow_add-first : goal.overflow_add-first
overflow_add-first c = omega (arith, c.requires, c.well_formed)

pub value-requires : goal.value-requires
value-requires c = omega (arith, c.requires)

pub loop-k-preserved : goal.loop-k-preserved
loop-k-preserved c = greatest_more _ _ _ _ _ _ _ _ c.loop-k.invariant c.loop-k-test.true c.value.ensures c.max-m.ensures

pub returns : goal.returns
returns c = greatest_end _ _ _ _ _ _ c.loop-k.invariant c.loop-k-test.false
