-- `distance::rows::span` meets its contract. The invariant: the places before x are written. Assumes nothing.
use mathlib.Core.Path.{◌≡◌}
use mathlib.Core.List.{List}
use Prim.Native.Nat.{ℕ, ◌≤◌, max}
use lib.ListN.{length}
use Rattle.distance.specs.Wrote.{Wrote}
use Rattle.distance.specs.Envelope.{height_of}
use Rattle.distance.proofs.rows.span.Given as goal

pub record Writing (base p key a e : ℕ) (work₀ work : List ℕ) (x : ℕ) : Type 0 where
  pub low : a ≤ x
  pub high : x ≤ max a e
  pub long : length work ≡ length work₀
  pub wrote : Wrote (height_of p key) base a x work₀ work

abbrev pub invariant-loop-x : goal.invariant-loop-x
invariant-loop-x l = Writing l.base l.p l.key l.a l.e l.initial.work l.work l.x
