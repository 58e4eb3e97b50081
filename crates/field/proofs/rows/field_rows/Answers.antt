-- `field::rows::field_rows` meets its contract. Assumes nothing.
use mathlib.Core.Path.{◌≡◌, refl, sym, subst}
use Prim.Native.Nat.{◌*◌, max}
use native.Mathlib.Omega.{arith}
use lib.ListN.{length}
use Rattle.loops.proofs.LoopLaws.{going_none, going_more, going_end}
use Rattle.field.specs.Field.{sensed}
use Rattle.field.specs.Gauge.{Sensing}
use Rattle.field.proofs.FieldLaws.{Swept, window_run}
use Rattle.field.proofs.SweepLaws.{rows_are}
use Rattle.field.proofs.rows.field_rows.Goals as goal
use Rattle.field.proofs.rows.field_rows.Goals.{At-loop-j}

swept : (c : At-loop-j) → Swept (length c.args.f.now) (c.loop-j.j * c.args.g.setup.grid.nx) (sensed c.loop-j.f c.loop-j.n)
swept c =
    subst (Swept (length c.args.f.now) (c.loop-j.j * c.args.g.setup.grid.nx)) (sym c.loop-j.invariant.is)
    (window_run _ _ _ _ _ _ _ _ c.requires.left_le_nx c.requires.sensing.over.sides.wide _ c.loop-j.j _ c.loop-j.invariant.low (record { long = refl; few = omega arith }))

pub overflow_sub-g : goal.overflow_sub-g
overflow_sub-g c = c.requires.sensing.over.sides.high

pub loop-j-init : goal.loop-j-init
loop-j-init c = going_none _ _ _ _

pub field_row-n-requires : goal.field_row-n-requires
field_row-n-requires c = let w = swept (goal.at.field_row-n-requires c).At-loop-j in record { sensing = subst (Sensing c.args.g.setup c.args.map.now c.args.allowed.now c.args.stock.now c.args.near.now c.args.rim.now) (sym w.long) c.requires.sensing; j_lt_ny = (omega (arith, c.loop-j-test.true, c.min-end.ensures), w.few, c.requires.left_le_nx) }

pub loop-j-preserved : goal.loop-j-preserved
loop-j-preserved c = going_more _ _ _ _ _ _ _ c.loop-j.invariant c.loop-j-test.true c.field_row-n.ensures

pub shape_of-f : goal.shape_of-f
shape_of-f c = (swept (goal.at.shape_of-f c).At-loop-j).long

pub returns : goal.returns
returns c =
    let first : c.max-first.result ≡ max 1 c.args.w.lo = omega (arith, c.max-first.ensures) in
    rows_are _ _ _ _ _ _ _ _ _ _ _ first c.min-end.ensures (going_end _ _ _ _ _ _ c.loop-j.invariant c.loop-j-test.false)
