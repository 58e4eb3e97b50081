-- `dilation::columns::down` meets its contract. Assumes nothing.
use mathlib.Core.Path.{refl, ◌∙◌}
use Prim.Native.Nat.{ℕ, ◌+◌, ◌*◌, ◌≤◌, ◌<◌}
use native.Mathlib.Omega.{arith}
use lib.ListN.{replicate, get_or-replicate}
use Rattle.loops.proofs.CellLaws.{row_below}
use Rattle.dilation.proofs.DownLaws.{down-none, down-end, down_more, runs_none, runs_more}
use Rattle.dilation.proofs.columns.down.Goals as goal
use Rattle.dilation.proofs.columns.down.Goals.{Start}

pub loop-j-init : goal.loop-j-init
loop-j-init c = (down-none _ _ c.args.w _, runs_none _ _ c.args.w (replicate 4096 4096) (λ k h. get_or-replicate 4096 k 4096 0 h) c.requires.on.columns, refl, refl, omega arith)

pub loop-j-preserved : goal.loop-j-preserved
loop-j-preserved c = let v = c.loop-j.invariant in
    let t = c.loop-j-test.true in
    let u = c.down_row in
    let e = u.ensures in
    (down_more _ _ c.args.w c.requires.on c.loop-j.j v.4 t c.loop-j.run v.1 _ _ v.0 e.wrote_2, runs_more _ _ c.args.w c.requires.on c.loop-j.j v.4 t c.loop-j.run v.1 _ e.wrote, u.auto.work ∙ v.2, u.auto.run ∙ v.3, omega (arith, v.4))

pub returns : goal.returns
returns c = let v = c.loop-j.invariant in (v.2, down-end _ _ c.args.w _ _ _ v.0 c.loop-j-test.false)
