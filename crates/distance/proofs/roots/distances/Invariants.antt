-- `distance::roots::distances` meets its contract. The invariant: the numbers before k are done. Assumes nothing.
use mathlib.Core.Path.{◌≡◌}
use mathlib.Core.List.{List}
use Prim.Native.Nat.{ℕ, ◌≤◌}
use lib.ListN.{length}
use lib.Ieee.{Float}
use Rattle.distance.proofs.RootedLaws.{Rooted}
use Rattle.distance.proofs.roots.distances.Given as goal

pub record Rooting (n : ℕ) (q : List ℕ) (s t : List Float) (k : ℕ) : Type 0 where
  pub high : k ≤ n
  pub long : length t ≡ length s
  pub done : Rooted k q s t

abbrev pub invariant-loop-k : goal.invariant-loop-k
invariant-loop-k l = Rooting l.n l.squares l.initial.out l.out l.k
