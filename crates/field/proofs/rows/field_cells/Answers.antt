-- `field::rows::field_cells` meets its contract. The invariant: the cells so far are worked out. Assumes nothing.
use mathlib.Core.Path.{refl, sym, subst}
use Prim.Native.Nat.{◌+◌, ◌*◌}
use native.Mathlib.Omega.{arith}
use lib.ListN.{length}
use Rattle.loops.proofs.LoopLaws.{going_none, going_more, going_end}
use Rattle.field.specs.Field.{sensed}
use Rattle.field.specs.Gauge.{Sensing}
use Rattle.field.proofs.FieldLaws.{Swept, row-run}
use Rattle.field.proofs.GaugeLaws.{known-along}
use Rattle.field.proofs.rows.field_cells.Goals as goal
use Rattle.field.proofs.rows.field_cells.Goals.{At-loop-i}

swept : (c : At-loop-i) → Swept (length c.args.f.now) (c.args.j * c.args.g.setup.grid.nx + c.loop-i.i) (sensed c.loop-i.f c.loop-i.n)
swept c =
    subst (Swept (length c.args.f.now) (c.args.j * c.args.g.setup.grid.nx + c.loop-i.i)) (sym c.loop-i.invariant.is)
    (row-run _ _ _ _ _ _ _ c.args.j _ c.loop-i.i _ c.loop-i.invariant.low (record { long = refl; few = c.requires.j_lt_ny.1 }))

pub loop-i-init : goal.loop-i-init
loop-i-init c = going_none _ _ _ _

pub overflow_sub-i : goal.overflow_sub-i
overflow_sub-i c = omega (arith, c.loop-i.invariant.low, c.requires.from_le_first.0)

pub known_at-known-requires : goal.known_at-known-requires
known_at-known-requires c = c.requires.counts_len.0

pub field_cell-n-requires : goal.field_cell-n-requires
field_cell-n-requires c = let l = c.loop-i in
    let t = c.loop-i-test.true in
    let w = swept (goal.at.field_cell-n-requires c).At-loop-i in record { sensing = subst (Sensing c.args.g.setup c.args.map.now c.args.allowed.now c.args.stock.now c.args.near.now c.args.rim.now) (sym w.long) c.requires.sensing; known_at = known-along _ _ _ _ _ _ c.requires.counts_len.1 _ _ (omega (arith, c.requires.from_le_first.0, l.invariant.low)) c.known_at-known.ensures; i_lt_nx = (omega (arith, t, c.requires.from_le_first.1), c.requires.j_lt_ny.0, w.few) }

pub overflow_step-i : goal.overflow_step-i
overflow_step-i c = omega (arith, c.loop-i-test.true)

pub loop-i-smaller : goal.loop-i-smaller
loop-i-smaller c = omega (arith, c.loop-i-test.true)

pub loop-i-preserved : goal.loop-i-preserved
loop-i-preserved c = going_more _ _ _ _ _ _ _ c.loop-i.invariant c.loop-i-test.true c.field_cell-n.ensures

pub shape_of-f : goal.shape_of-f
shape_of-f c = (swept (goal.at.shape_of-f c).At-loop-i).long

pub returns : goal.returns
returns c = going_end _ _ _ _ _ _ c.loop-i.invariant c.loop-i-test.false
