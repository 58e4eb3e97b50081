-- `dilation::cover::from_right` meets its contract. Assumes nothing.
use mathlib.Core.Path.{◌≡◌}
use Prim.Native.Nat.{◌-◌, ◌≤◌}
use lib.ListN.{length}
use Rattle.dilation.specs.Parts.{width_at, Reach, CoveredRight}
use Rattle.dilation.proofs.cover.from_right.Given as goal

abbrev pub invariant-loop-t : goal.invariant-loop-t
invariant-loop-t l = CoveredRight (width_at l.dist l.widths) l.n l.t l.flags × Reach (λ k. width_at l.dist l.widths (l.n - 1 - k)) l.t l.reach × (length l.flags ≡ length l.initial.flags) × (l.t ≤ l.n)
