-- `report::clear::clear` meets its contract. Assumes nothing.
use native.Mathlib.Omega.{arith}
use Rattle.geom.specs.Vec.{f0}
use Rattle.report.proofs.ZeroLaws.{blank-is, cleared-is}
use Rattle.report.proofs.clear.clear.Goals as goal

pub returns : goal.returns
returns c = let r = c.requires in let w = c.clear_workspace.ensures in
    cleared-is _ _ _ _ _ _ _ r.cells_in_bounds r.rows_in_bounds r.triples_in_bounds _ _ _ _ _ _ w.b_after w.u_after w.f_after w.w_after
    (blank-is 0 _ _ (omega arith) _ (c.fill.ensures.after (λ y h. h))) (blank-is f0 _ _ (omega arith) _ (c.fill-2.ensures.after (λ y h. h)))
