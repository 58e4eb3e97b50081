-- `start::reach::fill_reach` meets its contract. Assumes nothing.
use mathlib.Core.Path.{◌≡◌, refl, subst}
use Rattle.distance.specs.Nearest.{listed}
use Rattle.distance.specs.declared.limits.Threshold.{Threshold}
use Rattle.setup.specs.Layout.{run, put_run}
use Rattle.start.specs.Steps.{near_at}
use native.Mathlib.Omega.{arith}
use Rattle.distance.proofs.NearestLaws.{transform_long}
use Rattle.setup.proofs.PartLaws.{part_long}
use Rattle.start.proofs.ReachLaws.{reach-is, map-sides, squares-room}
use Rattle.start.proofs.reach.fill_reach.Goals as goal

pub transform-requires : goal.transform-requires
transform-requires c = record { map_sides = map-sides c.args.s.grid c.requires.sides; nx_in_bounds = omega (arith, c.requires.s_in_bounds, c.cells-n.ensures, part_long 1 _ _ _ c.args.b.now c.allowed-a.ensures refl (omega (arith, c.requires.s_in_bounds, c.cells-n.ensures))); nx_in_bounds_2 = squares-room c.args.s.grid c.requires.sides c.args.u.now c.requires.s_in_bounds_2 }

pub mark_near-requires : goal.mark_near-requires
mark_near-requires c = let n = c.cells-n.ensures in record { n_le_most = omega (arith, n, c.requires.sides.cells); n_in_bounds = omega (arith, n, c.requires.s_in_bounds_2, transform_long 1 _ _ _ c.args.u.now _ (squares-room c.args.s.grid c.requires.sides c.args.u.now c.requires.s_in_bounds_2) c.transform.ensures.work_after); n_in_bounds_2 = omega (arith, n, c.requires.s_in_bounds) }

pub returns : goal.returns
returns c = reach-is c.args.s c.args.b.now c.args.u.now _ _ _ c.cells-n.ensures c.allowed-a.ensures c.transform.ensures.work_after _ (subst (λ (t : Threshold). c.mark_near.new.b ≡ put_run 2 c.cells-n.result (listed c.cells-n.result (near_at t (run 0 c.cells-n.result c.args.b.now) c.transform.new.work)) c.args.b.now) c.of.ensures c.mark_near.ensures)
