-- `dilation::window::write_row` meets its contract. Assumes nothing.
use mathlib.Core.Path.{◌≡◌}
use Prim.Native.Nat.{◌≤◌}
use lib.ListN.{length, get_or}
use Rattle.distance.specs.Wrote.{Wrote}
use Rattle.dilation.specs.Parts.{word_of}
use Rattle.dilation.proofs.window.write_row.Given as goal

abbrev pub invariant-loop-k : goal.invariant-loop-k
invariant-loop-k l = Wrote (λ j. word_of (get_or l.deep j 0) (get_or l.far j 0) l.e) l.base 0 l.k l.initial.work l.work × (l.k ≤ l.n) × (length l.work ≡ length l.initial.work)
