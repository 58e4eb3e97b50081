-- `rims::thresholds::fill_firsts` meets its contract. The invariant: the first numbers of the cells so far stand in the table, and nothing else has changed. Assumes nothing.
use Prim.Native.Nat.{◌≤◌}
use Rattle.rims.specs.Boxes.{Apart, FirstsTo}
use Rattle.rims.proofs.thresholds.fill_firsts.Given as goal

abbrev pub invariant-loop-m : goal.invariant-loop-m
invariant-loop-m l = Apart 8193 12289 l.initial.w l.w × FirstsTo l.cell l.m l.w × (1 ≤ l.m)
