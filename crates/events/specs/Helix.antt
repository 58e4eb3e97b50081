-- The radius of a helix, as `find_helix` of adaptive.rs has it. Definitions only.
use Rattle.std.specs.Prelude.{ℕ, Bool, cond, not, Float}
use Rattle.std.proofs.Math.Option.{Option, none, some}
use Rattle.std.specs.Float.{binary64}
use Rattle.std.specs.Float.Ieee.{of_bits, mul, le}
use Rattle.loops.specs.Loop.{loop, Run, on, out, turn, any}
use Rattle.geom.specs.declared.vec2.Vec2.{Vec2}
use Rattle.events.specs.Chunk.{Job}
use Rattle.events.specs.Replay.{rim_point}

-- 0.8
abbrev pub c80 : Float
c80 = of_bits binary64 0x3fe9_9999_9999_999a

module _ (j : Job) (c : Vec2) where
  -- rim point k of 36 is not allowed
  unfoldable pub rim_blocked : Float → ℕ → Bool
  rim_blocked rad k = not (j.allowed (rim_point c rad k))

  -- a radius is tried while it is at least the least; where a rim point is not allowed it shrinks
  unfoldable pub shrink : ℕ → Float → Run Float (Option Float)
  shrink k rad = cond (le j.entry.least rad) (cond (any (rim_blocked rad) 0 36) (on (mul binary64 rad c80)) (out (some rad))) (out none)

  -- after 64 shrinks no more is tried
  unfoldable pub shrunk : Run Float (Option Float) → Option Float
  shrunk (on rad) = none
  shrunk (out o) = o

  -- the first radius from `widest` down whose rim points are all allowed
  unfoldable pub radius_of : Float → Option Float
  radius_of widest = shrunk (loop (turn shrink) 0 65 (on widest))
