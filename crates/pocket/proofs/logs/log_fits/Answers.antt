-- `pocket::logs::log_fits` meets its contract. Assumes nothing.
use mathlib.Core.Bool.{false}
use Prim.Native.Nat.{◌-◌}
use native.Mathlib.Omega.{arith}
use borrow.Author.Tests.{le-leb, lt-leb}
use Rattle.loops.proofs.LoopLaws.{going_none, any-on, any_out, any_none}
use Rattle.pocket.proofs.LoggedLaws.{log-short, log-past, log-within}
use Rattle.pocket.proofs.logs.log_fits.Goals as goal

pub returns-then-log-used : goal.returns-then-log-used
returns-then-log-used c = log-short _ _ _ c.if-log-used.true

pub loop-k-init : goal.loop-k-init
loop-k-init c = going_none _ _ _ _

pub overflow_cast-log : goal.overflow_cast-log
overflow_cast-log c = omega (arith, c.shared_slice_known-1.given c.loop-k.k)

pub returns-then-n-log : goal.returns-then-n-log
returns-then-n-log c = let s = c.args in
    log-past s.log.now _ _ c.if-log-used.false (any_out _ _ _ c.loop-k.k c.loop-k.invariant c.loop-k-test.true (le-leb _ _ c.if-n-log.true))

pub loop-k-preserved : goal.loop-k-preserved
loop-k-preserved c = any-on _ _ _ c.loop-k.k c.loop-k.invariant c.loop-k-test.true (lt-leb _ _ c.if-n-log.false)

pub returns : goal.returns
returns c = let s = c.args in
    log-within s.log.now _ _ c.if-log-used.false (any_none _ _ _ c.loop-k.k c.loop-k.invariant c.loop-k-test.false)
