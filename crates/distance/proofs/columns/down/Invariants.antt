-- `distance::columns::down` meets its contract. The invariant: the cells before k are done. Assumes nothing.
use mathlib.Core.Path.{◌≡◌}
use mathlib.Core.List.{List}
use Prim.Native.Nat.{ℕ, ◌≤◌, max}
use lib.ListN.{length}
use Rattle.distance.specs.Column.{Down}
use Rattle.distance.proofs.columns.down.Given as goal

pub record Swept (mark : ℕ) (marks : List ℕ) (nx cells : ℕ) (work₀ work : List ℕ) (k : ℕ) : Type 0 where
  pub high : k ≤ max nx cells
  pub long : length work ≡ length work₀
  pub down : Down mark marks nx k work₀ work
  pub low : nx ≤ k

abbrev pub invariant-loop-k : goal.invariant-loop-k
invariant-loop-k l = Swept l.mark l.marks l.nx l.cells l.initial.work l.work l.k
