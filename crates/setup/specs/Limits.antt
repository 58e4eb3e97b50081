-- The limits of a cut, in document 01's order of operations. Definitions only.
use Rattle.std.specs.Prelude.{ℕ, min, max, Float}
use Rattle.std.specs.Float.{binary64}
use Rattle.std.specs.Float.Ieee.{of_bits, sub, mul, div, to_unsigned}
use Rattle.numbers.specs.Order.{min_of, max_of}
use Rattle.numbers.specs.Whole.{ceil_of}
use Rattle.numbers.specs.Circle.{pi}
use Rattle.numbers.specs.Small.{f2, f4, half}

-- 0.95 and 0.85
abbrev pub c95 : Float
c95 = of_bits binary64 0x3fee_6666_6666_6666

abbrev pub c85 : Float
c85 = of_bits binary64 0x3feb_3333_3333_3333

-- max(half the limit, min(0.95 limit, y))
abbrev pub guard_by : Float → Float → Float
guard_by limit y = max_of (mul binary64 limit half) (min_of (mul binary64 c95 limit) y)

-- max(half the limit, min(0.95 limit, limit - 2 cell/r))
unfoldable pub guard_of : Float → Float → Float → Float
guard_of limit cell r = guard_by limit (sub binary64 limit (div binary64 (mul binary64 f2 cell) r))

-- 0.85 guard
unfoldable pub target_of : Float → Float
target_of guard = mul binary64 c85 guard

-- 4 pi r / cell, brought up to a whole number and into 64 to 2,048
unfoldable pub samples_for : Float → Float → ℕ
samples_for r cell = min (max (to_unsigned 64 (ceil_of (div binary64 (mul binary64 (mul binary64 f4 pi) r) cell))) 64) 2048
