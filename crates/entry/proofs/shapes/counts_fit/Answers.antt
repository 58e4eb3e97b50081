-- `entry::shapes::counts_fit` meets its contract. Assumes nothing.
use native.Mathlib.Omega.{arith}
use Rattle.entry.proofs.ShapeLaws.{counts_few, counts_none, counts_odd, counts_sum}
use Rattle.entry.proofs.shapes.counts_fit.Goals as goal

pub sum-requires : goal.sum-requires
sum-requires c = let s = c.args in
    omega (arith, counts_few s.whole s.lens.now s.regions.now c.most_regions.result c.most_regions.ensures c.if-n-most_regions.true)

pub returns-then-all_from : goal.returns-then-all_from
returns-then-all_from c = let s = c.args in
    counts_sum s.whole s.lens.now s.regions.now c.most_regions.result c.most_regions.ensures c.if-n-most_regions.true _ c.all_from.ensures c.if-all_from.true _ c.sum.ensures

pub returns-else-all_from : goal.returns-else-all_from
returns-else-all_from c = let s = c.args in
    counts_odd s.whole s.lens.now s.regions.now c.most_regions.result c.most_regions.ensures c.if-n-most_regions.true _ c.all_from.ensures c.if-all_from.false

pub returns-else-n-most_regions : goal.returns-else-n-most_regions
returns-else-n-most_regions c = let s = c.args in
    counts_none s.whole s.lens.now s.regions.now c.most_regions.result c.most_regions.ensures c.if-n-most_regions.false
