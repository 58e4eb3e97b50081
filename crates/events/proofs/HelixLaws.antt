-- A radius that the search for a helix comes to has all its rim points allowed. Assumes nothing.
use mathlib.Core.Path.{◌≡◌, subst}
use mathlib.Core.Bool.{false}
use mathlib.Core.Option.{Option, none, some, some-injective}
use Prim.Native.Nat.{ℕ}
use native.Mathlib.Omega.{arith}
use lib.Ieee.{Float, le}
use borrow.Author.Tests.{not-false}
use Rattle.loops.specs.Loop.{loop, Run, on, out, turn, any}
use Rattle.loops.proofs.Cases.{by_test}
use Rattle.loops.proofs.LoopLaws.{loop_keeps, any-each}
use Rattle.geom.specs.declared.vec2.Vec2.{Vec2}
use Rattle.events.specs.Chunk.{Job}
use Rattle.events.specs.Replay.{HelixGood}
use Rattle.events.specs.Helix.{rim_blocked, shrink, shrunk, radius_of}

module _ (j : Job) (c : Vec2) where
  abbrev Serves : Run Float (Option Float) → Type 0
  Serves (on rad) = Unit
  Serves (out none) = Unit
  Serves (out (some rad)) = HelixGood j c rad

  rim_good : (rad : Float) → any (rim_blocked j c rad) 0 36 ≡ false → HelixGood j c rad
  unfolding rim_blocked
  rim_good rad h = record { rim = λ k l. not-false _ (any-each (rim_blocked j c rad) 0 36 h k (omega arith) l) }

  shrink_serves : (k : ℕ) (r : Run Float (Option Float)) → Serves r → Serves (turn (shrink j c) k r)
  unfolding turn shrink
  shrink_serves k (out o) h = h
  shrink_serves k (on rad) h =
      by_test Serves (le j.entry.least rad) _ _ (λ e. by_test Serves (any (rim_blocked j c rad) 0 36) _ _ (λ b. tt) (rim_good rad)) (λ e. tt)

  shrunk_good : (r : Run Float (Option Float)) → Serves r → (rad : Float) → shrunk j c r ≡ some rad → HelixGood j c rad
  unfolding shrunk
  shrunk_good (on w) h rad e = absurd (let z : ◌≡◌ {A = ℕ} 0 1 = cc in omega arith)
  shrunk_good (out none) h rad e = absurd (let z : ◌≡◌ {A = ℕ} 0 1 = cc in omega arith)
  shrunk_good (out (some w)) h rad e = subst (HelixGood j c) (some-injective w rad e) h

  pub radius_good : (widest rad : Float) → radius_of j c widest ≡ some rad → HelixGood j c rad
  unfolding radius_of
  radius_good widest rad e =
      shrunk_good (loop (turn (shrink j c)) 0 65 (on widest)) (loop_keeps (turn (shrink j c)) 0 Serves 65 (λ i r a b h. shrink_serves i r h) (on widest) tt) rad e
