-- A bound that decides whether a root is below r. Definitions only.
use Rattle.std.specs.Prelude.{◌≡◌, ℕ, ◌+◌, ◌-◌, Bool, true, false, cond, ◌&&◌, T, Option, None, Some, from_bits, is_nan, nat_lt, to_bits, Float}
use Rattle.std.specs.Option.{ForSome}
use Rattle.std.specs.Float.{binary64}
use Rattle.std.specs.Float.Ieee.{fits, mul, lt, le}
use Rattle.loops.specs.Loop.{loop, Run, on, out, turn}
use Rattle.numbers.specs.Root.{root_of}

-- not below 0, or a NaN: as a sum of squares is
pub record Square (x : Float) : Type 0 where
  pub up : is_nan x ≡ false → le (from_bits binary64 0) x ≡ true

-- the root of x is below r exactly where x is below h; neither is a NaN
pub record Decides (r h : Float) : Type 0 where
  pub held : T (fits binary64 h)
  pub numbers : (is_nan r ≡ false) × (is_nan h ≡ false)
  pub is : (x : Float) → T (fits binary64 x) → Square x → lt (root_of x) r ≡ lt x h

-- what was found decides
abbrev pub Bounds : Float → Option Float → Type 0
Bounds r b = ForSome b (λ h. Decides r h)

-- ---- how it is found

-- r lies above the root of the float of pattern k, and not above that of the next one
unfoldable pub separated : Float → ℕ → Bool
separated r k = lt (root_of (from_bits binary64 k)) r && le r (root_of (from_bits binary64 (k + 1)))

-- the pattern behind one that separates ends the search
unfoldable pub look_at : Float → ℕ → ℕ → Option Float → Run (Option Float) (Option Float)
look_at r k i b = cond (separated r (k + i)) (out (Some (from_bits binary64 (k + i + 1)))) (on b)

unfoldable pub looked : Run (Option Float) (Option Float) → Option Float
looked (on b) = b
looked (out b) = b

-- the first of the eight patterns from k on
unfoldable pub bound_from : Float → ℕ → Option Float
bound_from r k = looked (loop (turn (look_at r k)) 0 8 (on None))

-- it is looked for near r * r
unfoldable pub bound_of : Float → Option Float
bound_of r =
    let square = mul binary64 r r in
    let k = to_bits binary64 square in
    cond (lt (from_bits binary64 0) square) (cond (nat_lt k 4) (bound_from r 0) (cond (nat_lt k 0x7fe0_0000_0000_0000) (bound_from r (k - 4)) None)) None
