-- `distance::rows::pop` meets its contract. The invariant: those from k on are beaten. Assumes nothing.
use mathlib.Core.Path.{◌≡◌}
use Prim.Native.Nat.{◌+◌, ◌-◌, ◌*◌, ◌≤◌, ◌<◌}
use native.Mathlib.Omega.{arith}
use Rattle.distance.specs.Envelope.{Entry, begins, column}
use Rattle.distance.proofs.NumberLaws.{product}
use Rattle.distance.proofs.EnvelopeLaws.{popped_none, popped_more, popped_end, popped_all}
use Rattle.distance.proofs.rows.pop.Goals as goal
use Rattle.distance.proofs.rows.pop.Goals.{In-loop-k}

-- the top of those left
entry : (c : In-loop-k) → Entry c.args.work.now c.args.s c.args.nx c.args.q (c.loop-k.k - 1)
entry c = c.requires.sound.entry _ (omega arith)

pub returns-then-work-i : goal.returns-then-work-i
returns-then-work-i c = let z : c.loop-k.k - 1 + 1 ≡ c.loop-k.k = omega arith in rw z (popped_end _ _ _ _ _ _ c.loop-k.invariant c.loop-k-test.true (entry (goal.at.returns-then-work-i c).In-loop-k).before c.if-work-i.true)

pub loop-k-preserved : goal.loop-k-preserved
loop-k-preserved c = popped_more _ _ _ _ _ _ c.loop-k.invariant c.loop-k-test.true (entry (goal.at.loop-k-preserved c).In-loop-k).before c.if-work-i.false
