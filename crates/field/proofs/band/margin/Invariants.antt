-- `field::band::margin` meets its contract. Assumes nothing.
use Prim.Native.Nat.{◌≤◌}
use Rattle.field.proofs.band.margin.Given as goal

abbrev pub invariant-loop-m : goal.invariant-loop-m
invariant-loop-m l = l.m ≤ l.ny
