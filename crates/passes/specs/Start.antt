-- Where a pass starts on a closed piece, as `cut_piece` of adaptive.rs has it. Definitions only.
use Rattle.std.specs.Prelude.{Option, ℕ, ◌+◌, ◌*◌, ◌/◌, ◌%◌, Bool, true, false, cond, List, length, get_or, Float, Some, None}
use Rattle.loops.specs.Least.{least_by}
use Rattle.numbers.specs.Order.{total_of}
use Rattle.std.specs.declared.cmp.Ordering.{Ordering}
use Rattle.std.specs.declared.cmp.Ordering.TheVariants.{Less, Equal, Greater}
use Rattle.geom.specs.Vec.{distance_of}
use Rattle.geom.specs.declared.vec2.Vec2.{Vec2}
use Rattle.passes.specs.Simulate.{nowhere}
use Rattle.passes.specs.declared.start.Near.{Near}

-- where the tool is; at first it is nowhere
abbrev pub Place : Type 0
Place = Option Vec2

unfoldable pub is_greater : Ordering → Bool
is_greater Less = false
is_greater Equal = false
is_greater Greater = true

abbrev pub nr : ℕ → Float → Near
nr k d = record { at = k; far = d }

-- x is nearer than y in the total order: y.total_cmp(&x) is Greater
unfoldable pub is_nearer : Float → Float → Bool
is_nearer x y = is_greater (total_of y x)

-- of two the first, unless the second is nearer
unfoldable pub nearer : Near → ℕ → Float → Near
nearer b k d = cond (is_nearer d b.far) (nr k d) b

abbrev pub point_far : List Vec2 → Vec2 → ℕ → Float
point_far pts p k = distance_of (get_or pts k nowhere) p

-- the point nearest to p, the first on a tie: (0..n).min_by(..)
unfoldable pub nearest_of : List Vec2 → Vec2 → ℕ
nearest_of pts p = least_by is_nearer (point_far pts p) (length pts)

-- pos.map_or(0, ..)
unfoldable pub near_of : List Vec2 → Place → ℕ
near_of pts None = 0
near_of pts (Some p) = nearest_of pts p

-- the kth of four starts round the piece: (near + k * n / 4) % n
unfoldable pub start_of : ℕ → ℕ → ℕ → ℕ
start_of near n k = (near + k * n / 4) % n
