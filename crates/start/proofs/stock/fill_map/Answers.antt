-- `start::stock::fill_map` meets its contract. Assumes nothing.
use Prim.Native.Nat.{◌+◌}
use native.Mathlib.Omega.{arith}
use Rattle.loops.specs.Frame.{Only}
use Rattle.loops.proofs.LoopLaws.{going_none, going_more, going_end}
use Rattle.start.proofs.WriteLaws.{going_only, run_written}
use Rattle.start.proofs.StockLaws.{map-turn}
use Rattle.start.proofs.stock.fill_map.Goals as goal
use Rattle.start.proofs.stock.fill_map.Goals.{At-loop-k}

-- nothing but the map has changed
only : (c : At-loop-k) → Only 0 (0 + c.args.n) c.args.b.now c.loop-k.b
only c = going_only 0 0 c.args.n _ c.args.b.now (omega (arith, c.requires.n_in_bounds)) c.loop-k.b c.loop-k.k c.loop-k.invariant

pub inside-i-requires : goal.inside-i-requires
inside-i-requires c = c.requires.n_le_most

pub abandoned-a-requires : goal.abandoned-a-requires
abandoned-a-requires c = c.requires.n_le_most

pub loop-k-init : goal.loop-k-init
loop-k-init c = going_none _ _ _ _

pub overflow_add-i : goal.overflow_add-i
overflow_add-i c = omega (arith, c.requires.n_le_most, c.inside-i.ensures, c.loop-k-test.true)

pub bounds-b-i : goal.bounds-b-i
bounds-b-i c = omega (arith, c.requires.n_in_bounds, c.inside-i.ensures, c.loop-k-test.true, (only (goal.at.bounds-b-i c).At-loop-k).long)

pub overflow_add-a : goal.overflow_add-a
overflow_add-a c = omega (arith, c.requires.n_le_most, c.abandoned-a.ensures, c.loop-k-test.true)

pub bounds-b-a : goal.bounds-b-a
bounds-b-a c = omega (arith, c.requires.n_in_bounds, c.abandoned-a.ensures, c.loop-k-test.true, (only (goal.at.bounds-b-a c).At-loop-k).long)

pub bounds-b-k : goal.bounds-b-k
bounds-b-k c = omega (arith, c.requires.n_in_bounds, c.loop-k-test.true, (only (goal.at.bounds-b-k c).At-loop-k).long)

pub overflow_step-k : goal.overflow_step-k
overflow_step-k c = omega (arith, c.requires.n_le_most, c.loop-k-test.true)

pub loop-k-smaller : goal.loop-k-smaller
loop-k-smaller c = omega (arith, c.loop-k-test.true)

pub loop-k-preserved : goal.loop-k-preserved
loop-k-preserved c = let l = c.loop-k in
    going_more _ _ _ _ _ _ _ l.invariant c.loop-k-test.true
    (map-turn c.args.whole c.args.n _ _ c.args.b.now l.b c.requires.n_in_bounds c.inside-i.ensures c.abandoned-a.ensures (only (goal.at.loop-k-preserved c).At-loop-k) l.k _ c.loop-k-test.true c.stock_byte.ensures)

pub shape_of-b : goal.shape_of-b
shape_of-b c = (only (goal.at.shape_of-b c).At-loop-k).long

pub returns : goal.returns
returns c = run_written c.args.n 0 0 (omega arith) c.args.b.now (omega (arith, c.requires.n_in_bounds)) 0 _ _ (going_end _ _ _ _ _ _ c.loop-k.invariant c.loop-k-test.false)
