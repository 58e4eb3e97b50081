-- `distance::rows::fill` meets its contract. The invariant: the regions from k on are written. Assumes nothing.
use mathlib.Core.Path.{◌≡◌}
use mathlib.Core.List.{List}
use Prim.Native.Nat.{ℕ, ◌+◌, ◌≤◌}
use lib.ListN.{length, get_or}
use Rattle.distance.specs.Envelope.{Filled}
use Rattle.distance.proofs.RowLaws.{Edge}
use Rattle.distance.proofs.rows.fill.Given as goal

pub record Filling (base s nx n : ℕ) (work₀ work : List ℕ) (k e : ℕ) : Type 0 where
  pub high : k ≤ n
  pub long : length work ≡ length work₀
  pub edge : Edge work₀ s nx n k e
  pub same : (c : ℕ) → base + nx ≤ c → get_or work c 0 ≡ get_or work₀ c 0
  pub filled : Filled s nx n base e work₀ work

abbrev pub invariant-loop-k : goal.invariant-loop-k
invariant-loop-k l = Filling l.base l.s l.nx l.n l.initial.work l.work l.k l.e
