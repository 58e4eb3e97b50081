-- `numbers::root::slow_root` meets its contract. The loop's invariant: n lies between the squares of s and of s + 2 ^ i. Assumes nothing.
use Rattle.std.proofs.Common.{◌*◌, ◌^◌}
use Rattle.numbers.proofs.RootLaws.{Bracket}
use Rattle.numbers.proofs.root.slow_root.Given as goal

abbrev pub invariant-loop-i : goal.invariant-loop-i
invariant-loop-i l = Bracket (l.hi * 2 ^ 54) l.s l.i
