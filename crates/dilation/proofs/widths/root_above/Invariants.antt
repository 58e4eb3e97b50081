-- `dilation::widths::root_above` meets its contract. Assumes nothing.
use Prim.Native.Nat.{◌≤◌}
use Rattle.dilation.proofs.widths.root_above.Given as goal

abbrev pub invariant-loop-w : goal.invariant-loop-w
invariant-loop-w l = l.w ≤ 8192
