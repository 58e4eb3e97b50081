-- `field::rows::field_row` meets its contract. Assumes nothing.
use mathlib.Core.Path.{◌≡◌, refl, sym, subst}
use Prim.Native.Nat.{◌+◌, ◌*◌, ◌<◌, max}
use native.Mathlib.Omega.{arith}
use lib.ListN.{length}
use Rattle.loops.proofs.LoopLaws.{going_none, going_end}
use Rattle.field.specs.Field.{sensed}
use Rattle.field.specs.Gauge.{Sensing}
use Rattle.field.proofs.FieldLaws.{Swept, row-run}
use Rattle.field.proofs.SweepLaws.{going_over, row_is}
use Rattle.field.proofs.rows.field_row.Goals as goal
use Rattle.field.proofs.rows.field_row.Goals.{At-loop-i, In-loop-i}

swept : (c : At-loop-i) → Swept (length c.args.f.now) (c.args.j * c.args.g.setup.grid.nx + c.loop-i.i) (sensed c.loop-i.f c.loop-i.n)
swept c =
    subst (Swept (length c.args.f.now) (c.args.j * c.args.g.setup.grid.nx + c.loop-i.i)) (sym c.loop-i.invariant.is)
    (row-run _ _ _ _ _ _ _ c.args.j _ c.loop-i.i _ c.loop-i.invariant.low (record { long = refl; few = omega (arith, c.requires.j_lt_ny.1) }))

-- a run ends in the row
ends : (c : In-loop-i) → c.loop-i.i < c.args.g.setup.grid.nx
ends c = omega (arith, c.loop-i-test.true, c.min-end.ensures)

pub overflow_sub-g : goal.overflow_sub-g
overflow_sub-g c = c.requires.sensing.over.sides.wide

pub loop-i-init : goal.loop-i-init
loop-i-init c = going_none _ _ _ _

pub overflow_add-i : goal.overflow_add-i
overflow_add-i c = omega (arith, ends (goal.at.overflow_add-i c).In-loop-i, c.requires.sensing.over.sides.columns)

pub field_run-n-requires : goal.field_run-n-requires
field_run-n-requires c = let w = swept (goal.at.field_run-n-requires c).At-loop-i in
    let e = c.min-next.ensures in
    let t = c.loop-i-test.true in record { sensing = subst (Sensing c.args.g.setup c.args.map.now c.args.allowed.now c.args.stock.now c.args.near.now c.args.rim.now) (sym w.long) c.requires.sensing; j_lt_ny = (c.requires.j_lt_ny.0, w.few); first_le_end = (omega (arith, e, t), omega (arith, e, t, c.min-end.ensures)) }

pub loop-i-smaller : goal.loop-i-smaller
loop-i-smaller c = omega (arith, c.loop-i-test.true, c.min-next.ensures)

pub loop-i-preserved : goal.loop-i-preserved
loop-i-preserved c = let e = c.min-next.ensures in let t = c.loop-i-test.true in going_over _ _ _ _ _ _ _ _ c.loop-i.invariant (omega (arith, e, t)) (omega (arith, e, t)) c.field_run-n.ensures

pub shape_of-f : goal.shape_of-f
shape_of-f c = (swept (goal.at.shape_of-f c).At-loop-i).long

pub returns : goal.returns
returns c =
    let first : c.max-first.result ≡ max 1 c.args.w.left = omega (arith, c.max-first.ensures) in
    row_is _ _ _ _ _ _ _ _ _ _ _ _ first c.min-end.ensures (going_end _ _ _ _ _ _ c.loop-i.invariant c.loop-i-test.false)
