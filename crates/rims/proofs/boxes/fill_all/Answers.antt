-- `rims::boxes::fill_all` meets its contract. Assumes nothing.
use native.Mathlib.Omega.{arith}
use Rattle.rims.proofs.FirstLaws.{started-after}
use Rattle.rims.proofs.BoxLaws.{rim-apart, second_rim, all_boxed}
use Rattle.rims.proofs.boxes.fill_all.Goals as goal

pub returns : goal.returns
returns c = let p = c.requires in
    let b = c.fill_boxes.ensures in
    let d = c.fill_boxes-2.ensures in
    all_boxed c.args.n p.n_bound c.args.w.now _ _ c.fill_thresholds.ensures.0 b.0 c.args.g p.sides c.args.r c.args.t _ b.1 d.0 d.1
