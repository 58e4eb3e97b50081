-- `field::round::ring` meets its contract. Assumes nothing.
use mathlib.Core.Path.{◌≡◌, refl, ap, ◌∙◌}
use native.Mathlib.Omega.{arith}
use lib.ListN.{length}
use lib.Ieee.{nan}
use borrow.Author.Tests.{eq-eqb, ne_eqb}
use Rattle.loops.proofs.LoopLaws.{going_none, going_more, going_end}
use Rattle.field.specs.Field.{ring_at}
use Rattle.field.proofs.RoundLaws.{written_long, written_all}
use Rattle.field.proofs.round.ring.Goals as goal
use Rattle.field.proofs.round.ring.Goals.{else-allowed-k-eq1, then-allowed-k-eq1}
use Rattle.field.proofs.round.ring.Goals.{At-loop-k}

long : (c : At-loop-k) → length c.loop-k.f ≡ length c.args.f.now
long c = ap length c.loop-k.invariant.is ∙ written_long nan (ring_at c.args.allowed.now) c.loop-k.k c.args.f.now (omega (arith, c.loop-k.invariant.high))

pub loop-k-init : goal.loop-k-init
loop-k-init c = going_none _ _ _ _

pub bounds-allowed-k : goal.bounds-allowed-k
bounds-allowed-k c = omega (arith, c.requires, c.loop-k-test.true)

pub loop-k-preserved : goal.loop-k-preserved
loop-k-preserved c = let l = c.loop-k in
    going_more _ _ _ _ _ _ _ l.invariant c.loop-k-test.true
    (elim c.if-allowed-k-eq1.branch [ then-allowed-k-eq1 w ↦ rw (w.cell-is, eq-eqb _ _ w.if-allowed-k-eq1.true) refl | else-allowed-k-eq1 w ↦ rw (w.cell-is, ne_eqb _ _ w.if-allowed-k-eq1.false) refl ])

pub returns : goal.returns
returns c = going_end _ _ _ _ _ _ c.loop-k.invariant c.loop-k-test.false ∙ written_all nan (ring_at c.args.allowed.now) c.args.f.now
