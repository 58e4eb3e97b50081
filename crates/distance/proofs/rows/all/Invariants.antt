-- `distance::rows::all` meets its contract. The invariant: the rows before j are done. Assumes nothing.
use mathlib.Core.Path.{◌≡◌}
use mathlib.Core.List.{List}
use Prim.Native.Nat.{ℕ, ◌≤◌}
use lib.ListN.{length}
use Rattle.distance.specs.Envelope.{RowsOf}
use Rattle.distance.proofs.rows.all.Given as goal

pub record Done (nx ny s : ℕ) (work₀ work : List ℕ) (j : ℕ) : Type 0 where
  pub high : j ≤ ny
  pub long : length work ≡ length work₀
  pub rows : RowsOf nx ny s j work₀ work

abbrev pub invariant-loop-j : goal.invariant-loop-j
invariant-loop-j l = Done l.nx l.ny l.s l.initial.work l.work l.j
