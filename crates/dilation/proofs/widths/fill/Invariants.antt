-- `dilation::widths::fill` meets its contract. Assumes nothing.
use mathlib.Core.Path.{◌≡◌}
use Prim.Native.Nat.{◌+◌, ◌≤◌}
use lib.ListN.{length}
use Rattle.distance.specs.Least.{square}
use Rattle.dilation.specs.Parts.{WidthsTo}
use Rattle.dilation.proofs.widths.fill.Given as goal

abbrev pub invariant-loop-d : goal.invariant-loop-d
invariant-loop-d l = WidthsTo l.e l.d l.widths × (l.e ≤ square l.w + square l.d) × (l.w ≤ 8192) × (length l.widths ≡ length l.initial.widths) × (l.d ≤ 4096)
