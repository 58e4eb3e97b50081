-- `cutting::listing::put_links` meets its contract. Assumes nothing.
use native.Mathlib.Omega.{arith}
use Rattle.cutting.proofs.ListingLaws.{linking_none, linking_long, linking_rows_long, linking_more, linking_end}
use Rattle.cutting.proofs.listing.put_links.Goals as goal

pub loop-k-init : goal.loop-k-init
loop-k-init c = linking_none _ _ _ _ _ _

pub vertex-p-requires : goal.vertex-p-requires
vertex-p-requires c = omega (arith, c.requires.n_in_bounds)

pub overflow_add-at : goal.overflow_add-at
overflow_add-at c = omega (arith, c.requires.n_in_bounds_2, c.well_formed)

pub put_triple-requires : goal.put_triple-requires
put_triple-requires c = omega (arith, linking_long _ _ _ _ _ _ _ _ _ c.loop-k.invariant, c.requires.n_in_bounds_2)

pub overflow_add-row : goal.overflow_add-row
overflow_add-row c = omega (arith, c.requires.n_in_bounds_3, c.well_formed)

pub overflow_cast-at : goal.overflow_cast-at
overflow_cast-at c = omega (arith, c.requires.n_in_bounds_2, c.requires.countable.few-triples)

pub put_row-requires : goal.put_row-requires
put_row-requires c = omega (arith, linking_rows_long _ _ _ _ _ _ _ _ _ c.loop-k.invariant, c.requires.n_in_bounds_3)

pub loop-k-preserved : goal.loop-k-preserved
loop-k-preserved c = linking_more _ _ _ _ _ _ _ _ _ c.loop-k.invariant _ _ _ c.loop-k-test.true c.vertex-p.ensures c.put_triple.ensures c.put_row.ensures

pub shape_of-triples : goal.shape_of-triples
shape_of-triples c = linking_long _ _ _ _ _ _ _ _ _ c.loop-k.invariant

pub shape_of-rows : goal.shape_of-rows
shape_of-rows c = linking_rows_long _ _ _ _ _ _ _ _ _ c.loop-k.invariant

pub returns : goal.returns
returns c = let l = linking_end _ _ _ _ _ _ _ _ _ c.loop-k.invariant c.loop-k-test.false in record { triples_after = l.triples; rows_after = l.rows }
