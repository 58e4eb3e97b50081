-- `dilation::cover::from_left` meets its contract. Assumes nothing.
use mathlib.Core.Path.{◌≡◌}
use Prim.Native.Nat.{◌≤◌}
use lib.ListN.{length}
use Rattle.dilation.specs.Parts.{width_at, Reach, CoveredLeft}
use Rattle.dilation.proofs.cover.from_left.Given as goal

abbrev pub invariant-loop-i : goal.invariant-loop-i
invariant-loop-i l = CoveredLeft (width_at l.dist l.widths) l.n l.i l.flags × Reach (width_at l.dist l.widths) l.i l.reach × (length l.flags ≡ length l.initial.flags) × (l.i ≤ l.n)
