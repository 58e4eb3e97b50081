-- Whether a pass is worth cutting, as `cut_piece` of adaptive.rs has it. Definitions only.
use Rattle.std.specs.Prelude.{ℕ, zero, suc, ◌+◌, max, Bool, not, ◌||◌, List, [], ◌∷◌, ◌++◌, length, ltb, Float}
use Rattle.std.specs.Float.{binary64}
use Rattle.std.specs.Float.Ieee.{to_unsigned, mul, div}
use Rattle.numbers.specs.Small.{c05}
use Rattle.geom.specs.declared.vec2.Vec2.{Vec2}
use Rattle.events.specs.Read.{spot_at}
use Rattle.passes.specs.Guide.{path_length}

-- the cells that a pass of a length must clear: ((0.05 * length / cell) as usize).max(4)
unfoldable pub wanted_of : Float → Float → ℕ
wanted_of long cell = max (to_unsigned 64 (div binary64 (mul binary64 c05 long) cell)) 4

-- the places of n triples from number `first` on
unfoldable pub spots_from : List Float → ℕ → ℕ → List Vec2
spots_from ts first zero = []
spots_from ts first (suc n) = spots_from ts first n ++ (spot_at ts (first + n) ∷ [])

-- not undone: removed < wanted || cut.len() < 2
unfoldable pub worth_of : Float → List Vec2 → ℕ → Bool
worth_of cell pts removed = not (ltb removed (wanted_of (path_length pts) cell) || ltb (length pts) 2)
