-- `dilation::window::shade_rows` meets its contract. Assumes nothing.
use mathlib.Core.Path.{◌≡◌, refl, ◌∙◌, subst}
use mathlib.Core.Bool.{◌||◌}
use Prim.Native.Nat.{ℕ, ◌+◌, ◌-◌, ◌*◌, ◌%◌, ◌≤◌, ◌<◌}
use lib.Dec.{eqb}
use Rattle.loops.proofs.Cases.{by_cases}
use native.Mathlib.Omega.{arith}
use lib.ListN.{length, replicate, get_or-replicate}
use Rattle.loops.proofs.CellLaws.{row_below}
use Rattle.dilation.specs.Parts.{Shading}
use Rattle.dilation.proofs.ShadeLaws.{shading_none, shading_skip, shading_told, shading_end, wide_then}
use Rattle.dilation.proofs.window.shade_rows.Goals as goal
use Rattle.dilation.proofs.window.shade_rows.Goals.{At-loop-j}

-- as much is lent as at first
long : (l : At-loop-j) → length l.loop-j.work ≡ length l.args.work.now
long l = l.loop-j.invariant.1 ∙ l.down.ensures.0

-- a row of the window lies in what is lent
row : (l : At-loop-j) → l.args.w.lo < l.loop-j.j → (l.loop-j.j - 1) * l.args.nx + l.args.nx ≤ l.args.w.hi * l.args.nx
row l t = row_below (l.loop-j.j - 1) l.args.w.hi l.args.nx (l.args.w.hi * l.args.nx) (omega (arith, l.loop-j.invariant.3)) (omega arith)

-- the rows that are told from the one after it on
told : (l : At-loop-j) → let o = l.args in
    o.w.lo < l.loop-j.j → Shading o.marks.now o.nx o.w o.step o.phase o.b.near o.b.far (l.loop-j.j - 1 + 1) l.loop-j.work l.loop-j.dist
told l t =
    let o = l.args in
    let z : l.loop-j.j ≡ l.loop-j.j - 1 + 1 = omega arith in
    subst (λ (x : ℕ). Shading o.marks.now o.nx o.w o.step o.phase o.b.near o.b.far x l.loop-j.work l.loop-j.dist) z l.loop-j.invariant.0

pub loop-j-init : goal.loop-j-init
loop-j-init c = let e = c.down.ensures in
    (shading_none _ _ c.args.w c.requires.on _ _ _ _ _ (replicate 4096 4096) e.1 (λ k h. get_or-replicate 4096 k 4096 0 h), refl, refl, omega arith)

pub tell_row-requires : goal.tell_row-requires
tell_row-requires c = let p = c.requires in
    let t = c.loop-j-test.true in
    let u = c.up_row in
    let e = u.ensures in record { wide = wide_then _ _ c.args.w p.on (c.loop-j.j - 1) (omega arith) (omega (arith, c.loop-j.invariant.3)) _ _ _ _ _ _ _ (told (goal.at.tell_row-requires c).At-loop-j t) e _ _ p.bounded.0 (u.auto.run ∙ c.loop-j.invariant.2); wide_2 = wide_then _ _ c.args.w p.on (c.loop-j.j - 1) (omega arith) (omega (arith, c.loop-j.invariant.3)) _ _ _ _ _ _ _ (told (goal.at.tell_row-requires c).At-loop-j t) e _ _ p.bounded.1 (u.auto.run ∙ c.loop-j.invariant.2); n_in_bounds = (omega (arith, row (goal.at.tell_row-requires c).At-loop-j t, p.on.wide, p.on.order, p.nx_in_bounds.1, long (goal.at.tell_row-requires c).At-loop-j), p.bounded.0, p.bounded.1) }

pub loop-j-preserved : goal.loop-j-preserved
loop-j-preserved c = let p = c.requires in
    let t = c.loop-j-test.true in
    let u = c.up_row in
    let e = u.ensures in
    let r = c.tell_row in
    let q = r.ensures in
    let near = c.args.b.near in
    let beyond = c.args.b.far in
    let j = c.loop-j.j - 1 in
    let s = told (goal.at.loop-j-preserved c).At-loop-j t in
    let lo : c.args.w.lo ≤ j = omega arith in
    let hi : j < c.args.w.hi = omega (arith, c.loop-j.invariant.3) in (
      by_cases (eqb (j % c.args.step) c.args.phase || eqb (j + 1) c.args.w.hi)
          (λ y. shading_told _ _ c.args.w p.on j lo hi _ _ near beyond _ _ _ s e _ _ _ p.bounded.0 p.bounded.1 (q.row_told y))
          (λ y. shading_skip _ _ c.args.w p.on j lo hi _ _ near beyond _ _ _ s e _ (q.work_unchanged y) y),
      r.auto.work ∙ c.loop-j.invariant.1,
      u.auto.run ∙ c.loop-j.invariant.2,
      omega (arith, c.loop-j.invariant.3),
    )
