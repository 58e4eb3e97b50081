-- `vectors::replay` is safe and ends. The invariant: a line fits its room. Assumes nothing.
use Rattle.std.proofs.Common.{◌≤◌}
use Rattle.vectors.proofs.replay.Given as goal

abbrev pub invariant-loop : goal.invariant-loop
invariant-loop g l = l.at.0 ≤ 128
