-- `start::allowed::fill_allowed` meets its contract. The invariant: the cells before k are filled, and the block holds for those from k on. Assumes nothing.
use mathlib.Core.Path.{◌≡◌, sym, ap, subst}
use Prim.Native.Nat.{◌+◌}
use native.Mathlib.Omega.{arith}
use lib.ListN.{set, get_or}
use Rattle.loops.specs.Frame.{Only}
use Rattle.loops.proofs.Cases.{never}
use Rattle.loops.proofs.LoopLaws.{going_none, going_more, going_end}
use Rattle.setup.specs.Layout.{run}
use Rattle.start.specs.Blocks.{Told}
use Rattle.start.proofs.WriteLaws.{going_only, read-run}
use Rattle.start.proofs.ReachLaws.{may_is, allowed-is}
use Rattle.start.proofs.BlockLaws.{told-next, known_is}
use Rattle.start.proofs.allowed.fill_allowed.Goals as goal
use Rattle.start.proofs.allowed.fill_allowed.Goals.{At-loop-k, In-loop-k}

-- nothing but the cells where the tool may go has changed
only : (c : At-loop-k) → let a = c.allowed-a.result in Only a (a + c.cells-n.result) c.args.b.now c.loop-k.b
only c = going_only 0 _ _ _ c.args.b.now (omega (arith, c.allowed-a.ensures, c.cells-n.ensures, c.requires.s_in_bounds)) c.loop-k.b c.loop-k.k c.loop-k.invariant.0

-- so that the byte inside is what it was
byte : (c : In-loop-k) → get_or c.loop-k.b (c.inside-i.result + c.loop-k.k) 0 ≡ get_or (run 5 c.cells-n.result c.args.b.now) c.loop-k.k 0
byte c =
    read-run c.cells-n.result 1 _ c.allowed-a.ensures c.args.b.now (omega (arith, c.cells-n.ensures, c.requires.s_in_bounds)) c.loop-k.b ((let told : let a = c.allowed-a.result in Only a (a + c.cells-n.result) c.args.b.now c.loop-k.b = going_only 0 _ _ _ c.args.b.now (omega (arith, c.allowed-a.ensures, c.cells-n.ensures, c.requires.s_in_bounds)) c.loop-k.b c.loop-k.k c.loop-k.invariant.0 in told)) 5 _ (λ z. omega arith) c.inside-i.ensures c.loop-k.k 0 c.loop-k-test.true

pub cells-n-requires : goal.cells-n-requires
cells-n-requires c = c.requires.placed.sides

pub inside-i-requires : goal.inside-i-requires
inside-i-requires c = omega (arith, c.cells-n.ensures, c.requires.placed.sides.cells)

pub allowed-a-requires : goal.allowed-a-requires
allowed-a-requires c = omega (arith, c.cells-n.ensures, c.requires.placed.sides.cells)

pub loop-k-init : goal.loop-k-init
loop-k-init c = (going_none _ _ _ _, record { none = never })

pub cell_at-c-requires : goal.cell_at-c-requires
cell_at-c-requires c = omega (arith, c.loop-k-test.true, c.cells-n.ensures, c.requires.placed.sides.cells)

pub block_of-block-requires : goal.block_of-block-requires
block_of-block-requires c = record { placed = c.requires.placed; plain = c.is_plain-plain.ensures; told = subst (λ z. Told c.args.s c.args.vs.now c.args.lens.now z c.loop-k.block) (sym c.cell_at-c.ensures) c.loop-k.invariant.1 }

pub overflow_add-i : goal.overflow_add-i
overflow_add-i c = omega (arith, c.loop-k-test.true, c.inside-i.ensures, c.cells-n.ensures, c.requires.placed.sides.cells)

pub bounds-b-i : goal.bounds-b-i
bounds-b-i c = omega (arith, c.loop-k-test.true, c.inside-i.ensures, c.cells-n.ensures, c.requires.s_in_bounds, (only (goal.at.bounds-b-i c).At-loop-k).long)

pub offset_bounds-w-k : goal.offset_bounds-w-k
offset_bounds-w-k c = omega (arith, c.loop-k-test.true, c.cells-n.ensures, c.requires.s_in_bounds_2)

pub bounds-w-k : goal.bounds-w-k
bounds-w-k c = omega (arith, c.loop-k-test.true, c.cells-n.ensures, c.requires.s_in_bounds_2)

pub may_be-requires : goal.may_be-requires
may_be-requires c = record { placed = c.requires.placed; known = known_is c.args.s c.args.vs.now c.args.lens.now c.requires.placed.sides c.args.b.now c.requires.b_value _ _ _ _ c.cells-n.ensures c.loop-k-test.true c.cell_at-c.ensures (byte (goal.at.may_be-requires c).In-loop-k) _ c.block_of-block.ensures.0 c.block_of-block.ensures.1 }

pub overflow_add-b : goal.overflow_add-b
overflow_add-b c = omega (arith, c.loop-k-test.true, c.allowed-a.ensures, c.cells-n.ensures, c.requires.placed.sides.cells)

pub bounds-b-a : goal.bounds-b-a
bounds-b-a c = omega (arith, c.loop-k-test.true, c.allowed-a.ensures, c.cells-n.ensures, c.requires.s_in_bounds, (only (goal.at.bounds-b-a c).At-loop-k).long)

pub overflow_step-k : goal.overflow_step-k
overflow_step-k c = omega (arith, c.loop-k-test.true, c.cells-n.ensures, c.requires.placed.sides.cells)

pub loop-k-smaller : goal.loop-k-smaller
loop-k-smaller c = omega (arith, c.loop-k-test.true)

pub loop-k-preserved : goal.loop-k-preserved
loop-k-preserved c = let l = c.loop-k in
    let n = c.cells-n.result in
    let t = c.loop-k-test.true in
    let k = c.cell_at-c.ensures in (
      going_more _ _ _ _ _ _ _ l.invariant.0 t
          (ap (set l.b (c.allowed-a.result + l.k))
          (may_is c.args.s c.args.vs.now c.args.lens.now n c.args.b.now c.args.w.now l.k _ _ _ t k (byte (goal.at.loop-k-preserved c).In-loop-k) c.may_be.ensures)),
      told-next _ _ _ _ _ (subst (λ z. Told c.args.s c.args.vs.now c.args.lens.now z c.block_of-block.result) k c.block_of-block.ensures.0),
    )

pub shape_of-b : goal.shape_of-b
shape_of-b c = (only (goal.at.shape_of-b c).At-loop-k).long

pub returns : goal.returns
returns c = allowed-is c.args.s c.args.vs.now c.args.lens.now c.args.b.now _ c.args.w.now _ _ c.cells-n.ensures c.allowed-a.ensures c.requires.s_in_bounds (going_end _ _ _ _ _ _ c.loop-k.invariant.0 c.loop-k-test.false)
