-- `links::path::shorten` meets its contract. The invariant: that many points are kept. Assumes nothing.
use native.Mathlib.Omega.{arith}
use Rattle.links.proofs.ShortenLaws.{shortening_none, shortening_fitted, shortening_end, shortening_lost, shortening_in, shortening_more}
use Rattle.links.proofs.path.shorten.Goals as goal

pub loop-first-init : goal.loop-first-init
loop-first-init c = shortening_none _ _ _ _ _ c.requires.fitted _ _ c.requires.at_le_end c.requires.end_bound _

pub farthest-f-requires : goal.farthest-f-requires
farthest-f-requires c = record { fitted = shortening_fitted _ _ _ _ _ c.requires.fitted _ _ c.requires.at_le_end c.requires.end_bound _ _ _ _ _ c.loop-first.invariant; tiled = c.requires.tiled; first_le_end = c.loop-first.invariant.high; end_bound = c.requires.end_bound }

pub returns-in_default : goal.returns-in_default
returns-in_default c = record { w_after = shortening_lost _ _ _ _ _ c.requires.fitted _ _ c.requires.at_le_end c.requires.end_bound _ _ _ _ _ c.loop-first.invariant c.loop-first-test.true _ c.farthest-f.ensures c.in_default.is; only = c.loop-first.invariant.only }

pub point-here-requires : goal.point-here-requires
point-here-requires c = let F = shortening_fitted _ _ _ _ _ c.requires.fitted _ _ c.requires.at_le_end c.requires.end_bound _ _ _ _ _ c.loop-first.invariant in let i = shortening_in _ _ _ _ _ c.requires.fitted _ _ c.requires.at_le_end c.requires.end_bound _ _ _ _ _ c.loop-first.invariant c.loop-first-test.true _ c.farthest-f.ensures _ c.in-Some.is in record { sides = F.over.sides; s_in_bounds = omega (arith, F.long); k_bound = omega (arith, i.1, c.requires.end_bound) }

pub overflow_add-first : goal.overflow_add-first
overflow_add-first c = let i = shortening_in _ _ _ _ _ c.requires.fitted _ _ c.requires.at_le_end c.requires.end_bound _ _ _ _ _ c.loop-first.invariant c.loop-first-test.true _ c.farthest-f.ensures _ c.in-Some.is in omega (arith, i.1, c.requires.end_bound, c.requires.fitted.over.sides.cells)

pub loop-first-smaller : goal.loop-first-smaller
loop-first-smaller c = let i = shortening_in _ _ _ _ _ c.requires.fitted _ _ c.requires.at_le_end c.requires.end_bound _ _ _ _ _ c.loop-first.invariant c.loop-first-test.true _ c.farthest-f.ensures _ c.in-Some.is in omega (arith, i.0, i.1)

pub loop-first-preserved : goal.loop-first-preserved
loop-first-preserved c = shortening_more _ _ _ _ _ c.requires.fitted _ _ c.requires.at_le_end c.requires.end_bound _ _ _ _ _ c.loop-first.invariant c.loop-first-test.true _ c.farthest-f.ensures _ c.in-Some.is _ c.point-here.ensures _ c.keep.ensures.w_after c.keep.ensures.only

pub returns : goal.returns
returns c = record { w_after = shortening_end _ _ _ _ _ c.requires.fitted _ _ c.requires.at_le_end c.requires.end_bound _ _ _ _ _ c.loop-first.invariant c.loop-first-test.false; only = c.loop-first.invariant.only }
