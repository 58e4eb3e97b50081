-- The straight link, as `link_clear` of adaptive.rs has it. Definitions only.
use Rattle.std.specs.Prelude.{ℕ, ◌+◌, Bool, false, not, ◌&&◌, cond, List, eqb, ltb, Float}
use Rattle.std.specs.Float.{binary64}
use Rattle.std.specs.Float.Ieee.{to_unsigned, sub, div, eq}
use Rattle.loops.specs.Loop.{any}
use Rattle.numbers.specs.Whole.{ceil_of}
use Rattle.numbers.specs.Order.{max_of}
use Rattle.numbers.specs.Small.{f1}
use Rattle.geom.specs.Vec.{f0, distance_of, lerp_of}
use Rattle.geom.specs.declared.vec2.Vec2.{Vec2}
use Rattle.numbers.specs.Cast.{float}
use Rattle.raster.specs.Contact.{angle_of}
use Rattle.raster.specs.Stock.{count_disk}
use Rattle.setup.specs.Place.{allowed_at, contact_at}
use Rattle.setup.specs.declared.Setup.{Setup}

-- a step for each cell of the way, at least one
unfoldable pub steps_of : Vec2 → Vec2 → Float → ℕ
steps_of a b cell = to_unsigned 64 (max_of (ceil_of (div binary64 (distance_of a b) cell)) f1)

-- sample k of n
unfoldable pub point_of : Vec2 → Vec2 → ℕ → ℕ → Vec2
point_of a b n k = lerp_of a b (div binary64 (float k) (float n))

-- the tool may be at q, and at radius r it has no contact there
unfoldable pub clear_at : Setup → List Float → List Float → List ℕ → List ℕ → Float → Vec2 → Bool
clear_at s wall vs lens m r q = allowed_at s wall vs lens q && eq (angle_of (contact_at s m q r)) f0

unfoldable pub sample_clear : Setup → List Float → List Float → List ℕ → List ℕ → Float → Vec2 → Vec2 → ℕ → ℕ → Bool
sample_clear s wall vs lens m r a b n k = clear_at s wall vs lens m r (point_of a b n k)

abbrev pub sample_blocked : Setup → List Float → List Float → List ℕ → List ℕ → Float → Vec2 → Vec2 → ℕ → ℕ → Bool
sample_blocked s wall vs lens m r a b n k = not (sample_clear s wall vs lens m r a b n k)

-- none of the samples from 0 to n is blocked
unfoldable pub samples_clear : Setup → List Float → List Float → List ℕ → List ℕ → Float → Vec2 → Vec2 → ℕ → Bool
samples_clear s wall vs lens m r a b n = not (any (sample_blocked s wall vs lens m r a b n) 0 (n + 1))

-- above 200,000 steps it is denied; at radius r - cell the samples are clear, and no stock cell lies in the disk at the end
unfoldable pub link_clear : Setup → List Float → List Float → List ℕ → List ℕ → Vec2 → Vec2 → Bool
link_clear s wall vs lens m a b =
    let n = steps_of a b s.grid.cell in
    let r = sub binary64 s.r s.grid.cell in
    cond (ltb 200000 n) false (samples_clear s wall vs lens m r a b n && eqb (count_disk s.grid b r m) 0)
