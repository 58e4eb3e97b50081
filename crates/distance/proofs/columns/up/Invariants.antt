-- `distance::columns::up` meets its contract. The invariant: the cells from k on hold the rows to the nearest mark. Assumes nothing.
use mathlib.Core.Path.{◌≡◌}
use mathlib.Core.List.{List}
use Prim.Native.Nat.{ℕ, ◌-◌, ◌≤◌}
use lib.ListN.{length}
use Rattle.distance.specs.Column.{Raised}
use Rattle.distance.proofs.columns.up.Given as goal

pub record Swept (nx ny cells : ℕ) (work₀ work : List ℕ) (k : ℕ) : Type 0 where
  pub high : k ≤ cells - nx
  pub long : length work ≡ length work₀
  pub up : Raised nx ny k work₀ work

abbrev pub invariant-loop-k : goal.invariant-loop-k
invariant-loop-k l = Swept l.nx l.ny l.cells l.initial.work l.work l.k
