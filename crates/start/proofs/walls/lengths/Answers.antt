-- `start::walls::lengths` meets its contract. Assumes nothing.
use mathlib.Core.Path.{◌≡◌, ap, ◌∙◌}
use native.Mathlib.Omega.{arith}
use lib.ListN.{length, set}
use lib.Ieee.{nan, binary64, mul}
use Rattle.loops.proofs.LoopLaws.{going_none, going_more, going_end}
use Rattle.field.proofs.RoundLaws.{written_long, written_all}
use Rattle.start.specs.Steps.{length_at}
use Rattle.start.proofs.walls.lengths.Goals as goal
use Rattle.start.proofs.walls.lengths.Goals.{At-loop-k}

long : (c : At-loop-k) → length c.loop-k.wall ≡ length c.args.wall.now
long c = let s = c.args in ap length c.loop-k.invariant.is ∙ written_long nan (length_at s.cell s.squares.now) c.loop-k.k s.wall.now (omega (arith, c.loop-k.invariant.high))

pub loop-k-init : goal.loop-k-init
loop-k-init c = going_none _ _ _ _

pub offset_bounds-squares-k : goal.offset_bounds-squares-k
offset_bounds-squares-k c = omega (arith, c.requires, c.loop-k-test.true)

pub bounds-squares-k : goal.bounds-squares-k
bounds-squares-k c = omega (arith, c.requires, c.loop-k-test.true)

pub offset_bounds-wall-k : goal.offset_bounds-wall-k
offset_bounds-wall-k c = omega (arith, long (goal.at.offset_bounds-wall-k c).At-loop-k, c.loop-k-test.true)

pub bounds-wall-k : goal.bounds-wall-k
bounds-wall-k c = omega (arith, long (goal.at.bounds-wall-k c).At-loop-k, c.loop-k-test.true)

pub loop-k-preserved : goal.loop-k-preserved
loop-k-preserved c = let l = c.loop-k in
    let s = c.args in
    going_more _ _ _ _ _ _ _ l.invariant c.loop-k-test.true (ap (λ z. set l.wall l.k (mul binary64 z s.cell)) c.distance_of.ensures)

pub shape_of-wall : goal.shape_of-wall
shape_of-wall c = long (goal.at.shape_of-wall c).At-loop-k

pub returns : goal.returns
returns c = let s = c.args in going_end _ _ _ _ _ _ c.loop-k.invariant c.loop-k-test.false ∙ written_all nan (length_at s.cell s.squares.now) s.wall.now
