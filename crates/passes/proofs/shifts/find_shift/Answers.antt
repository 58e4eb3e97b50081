-- `passes::shifts::find_shift` meets its contract. The invariant: the tries so far found no shift, and `sh` and `w` are what they leave. Assumes nothing.
use native.Mathlib.Omega.{arith}
use Rattle.loops.proofs.LoopLaws.{going_none, going_on, going_out, going_end}
use Rattle.passes.proofs.ShiftLaws.{search_eased, search_outward, look-far, look-found, look-on, outward-out, outward-on}
use mathlib.Core.Path.{ap}
use mathlib.Core.Bool.{not}
use Rattle.passes.proofs.shifts.find_shift.Goals as goal

pub returns-in-Some : goal.returns-in-Some
returns-in-Some c = search_eased _ _ _ _ _ _ _ _ _ _ c.ease-eased.ensures _ c.in-Some.is

pub loop-try-init : goal.loop-try-init
loop-try-init c = going_none _ _ _ _

pub loop-try-preserved : goal.loop-try-preserved
loop-try-preserved c = going_on _ _ _ _ _ _ _ c.loop-try.invariant (omega arith) (look-on _ _ _ _ _ _ _ _ _ _ (ap not c.if-not-sh-most.false) _ c.try_shift-t.ensures c.in_default-found.is)

pub returns-after-loop-try : goal.returns-after-loop-try
returns-after-loop-try c = search_outward _ _ _ _ _ _ _ _ _ _ c.ease-eased.ensures c.in_default.is _
    (outward-on _ _ _ _ _ _ _ _ _ _ _ (going_end _ _ _ _ _ _ c.loop-try.invariant c.loop-try-test.false))

pub returns-then-not-sh-most : goal.returns-then-not-sh-most
returns-then-not-sh-most c = search_outward _ _ _ _ _ _ _ _ _ _ c.ease-eased.ensures c.in_default.is _
    (outward-out _ _ _ _ _ _ _ _ _ _ (going_out _ _ _ _ _ _ _ c.loop-try.invariant (omega arith) (look-far _ _ _ _ _ _ _ _ _ _ (ap not c.if-not-sh-most.true))))

pub returns-in-Some-found : goal.returns-in-Some-found
returns-in-Some-found c = search_outward _ _ _ _ _ _ _ _ _ _ c.ease-eased.ensures c.in_default.is _
    (outward-out _ _ _ _ _ _ _ _ _ _ (going_out _ _ _ _ _ _ _ c.loop-try.invariant (omega arith)
    (look-found _ _ _ _ _ _ _ _ _ _ (ap not c.if-not-sh-most.false) _ c.try_shift-t.ensures _ c.in-Some-found.is)))
