-- `start::reach::mark_near` meets its contract. Assumes nothing.
use mathlib.Core.Path.{ap}
use Prim.Native.Nat.{◌+◌}
use native.Mathlib.Omega.{arith}
use lib.ListN.{set}
use Rattle.loops.specs.Frame.{Only}
use Rattle.loops.proofs.LoopLaws.{going_none, going_more, going_end}
use Rattle.start.proofs.WriteLaws.{going_only, run_written}
use Rattle.start.proofs.ReachLaws.{near-turn}
use Rattle.start.proofs.reach.mark_near.Goals as goal
use Rattle.start.proofs.reach.mark_near.Goals.{At-loop-k}

-- nothing but the cells that are reached has changed
only : (c : At-loop-k) → let a = c.reach-a.result in Only a (a + c.args.n) c.args.b.now c.loop-k.b
only c = going_only 0 _ _ _ c.args.b.now (omega (arith, c.reach-a.ensures, c.requires.n_in_bounds_2)) c.loop-k.b c.loop-k.k c.loop-k.invariant

pub reach-a-requires : goal.reach-a-requires
reach-a-requires c = c.requires.n_le_most

pub loop-k-init : goal.loop-k-init
loop-k-init c = going_none _ _ _ _

pub bounds-b-k : goal.bounds-b-k
bounds-b-k c = omega (arith, c.loop-k-test.true, c.requires.n_in_bounds_2, (only (goal.at.bounds-b-k c).At-loop-k).long)

pub offset_bounds-squares-k : goal.offset_bounds-squares-k
offset_bounds-squares-k c = omega (arith, c.loop-k-test.true, c.requires.n_in_bounds)

pub bounds-squares-k : goal.bounds-squares-k
bounds-squares-k c = omega (arith, c.loop-k-test.true, c.requires.n_in_bounds)

pub overflow_add-b : goal.overflow_add-b
overflow_add-b c = omega (arith, c.loop-k-test.true, c.reach-a.ensures, c.requires.n_le_most)

pub bounds-b-a : goal.bounds-b-a
bounds-b-a c = omega (arith, c.loop-k-test.true, c.reach-a.ensures, c.requires.n_in_bounds_2, (only (goal.at.bounds-b-a c).At-loop-k).long)

pub overflow_step-k : goal.overflow_step-k
overflow_step-k c = omega (arith, c.loop-k-test.true, c.requires.n_le_most)

pub loop-k-smaller : goal.loop-k-smaller
loop-k-smaller c = omega (arith, c.loop-k-test.true)

pub loop-k-preserved : goal.loop-k-preserved
loop-k-preserved c = let l = c.loop-k in
    let t = c.loop-k-test.true in
    going_more _ _ _ _ _ _ _ l.invariant t
    (ap (set l.b (c.reach-a.result + l.k)) (near-turn c.args.l.threshold c.args.n _ c.args.squares.now c.args.b.now l.b c.requires.n_in_bounds_2 c.reach-a.ensures (only (goal.at.loop-k-preserved c).At-loop-k) l.k _ t c.near_byte.ensures))

pub shape_of-b : goal.shape_of-b
shape_of-b c = (only (goal.at.shape_of-b c).At-loop-k).long

pub returns : goal.returns
returns c = run_written c.args.n 2 _ c.reach-a.ensures c.args.b.now (omega (arith, c.requires.n_in_bounds_2)) 0 _ _ (going_end _ _ _ _ _ _ c.loop-k.invariant c.loop-k-test.false)
