-- `pocket::logs::log_fits` meets its contract. Assumes nothing.
use mathlib.Core.Bool.{false}
use Prim.Native.Nat.{◌-◌}
use Rattle.loops.specs.Loop.{or_at}
use Rattle.loops.proofs.LoopLaws.{Going}
use Rattle.pocket.specs.Refusals.{past}
use Rattle.pocket.proofs.logs.log_fits.Given as goal

abbrev pub invariant-loop-k : goal.invariant-loop-k
invariant-loop-k l = Going (or_at (past l.log l.n)) 0 l.used false false l.k
