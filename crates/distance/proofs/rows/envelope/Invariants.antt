-- `distance::rows::envelope` meets its contract. The invariant: the stack is that of the parabolas before q. Assumes nothing.
use mathlib.Core.Path.{◌≡◌}
use mathlib.Core.List.{List}
use Prim.Native.Nat.{ℕ, ◌≤◌}
use lib.ListN.{length}
use Rattle.distance.specs.Envelope.{Stack, Rest, row_keys}
use Rattle.distance.proofs.rows.envelope.Given as goal

pub record Stacking (base s nx : ℕ) (work₀ work : List ℕ) (n q : ℕ) : Type 0 where
  pub high : q ≤ nx
  pub long : length work ≡ length work₀
  pub stack : Stack (row_keys work₀ base) work s nx q n
  pub rest : Rest s nx work₀ work

abbrev pub invariant-loop-q : goal.invariant-loop-q
invariant-loop-q l = Stacking l.base l.s l.nx l.initial.work l.work l.n l.q
