-- Contact: how many samples of a tool's rim lie over stock, and the angle that they stand for. Definitions only.
use Rattle.std.specs.Prelude.{ℕ, ◌+◌, ◌*◌, ◌≤◌, ◌<◌, max, ◌≡◌, cond, List, length, get_or, Float}
use Rattle.std.specs.Float.{nan, binary64}
use Rattle.std.specs.Float.Ieee.{add, mul, div}
use Rattle.loops.specs.Loop.{loop}
use Rattle.numbers.specs.Circle.{tau}
use Rattle.numbers.specs.Small.{half}
use Rattle.geom.specs.Points.{put_point}
use Rattle.geom.specs.Vec.{sum, scaled, from_angle}
use Rattle.geom.specs.declared.vec2.Vec2.{Vec2}
use Rattle.raster.specs.Grid.{stock_at}
use Rattle.numbers.specs.Cast.{float}
use Rattle.raster.specs.declared.grid.Grid.{Grid}
use Rattle.raster.specs.declared.contact.Contact.{Contact}

-- at least 8 samples
unfoldable pub samples_of : ℕ → ℕ
samples_of n = max n 8

-- the direction of sample k of n
unfoldable pub direction_at : ℕ → ℕ → Vec2
direction_at n k = from_angle (div binary64 (mul binary64 tau (add binary64 (float k) half)) (float n))

-- a point of the rim of radius r at c
unfoldable pub rim_at : Vec2 → Float → Vec2 → Vec2
rim_at c r u = sum c (scaled u r)

-- sample k is a hit where it is over stock
unfoldable pub hit_at : Grid → List ℕ → Vec2 → Float → ℕ → ℕ → ℕ → ℕ
hit_at g m c r n k h = cond (stock_at g m (rim_at c r (direction_at n k))) (h + 1) h

unfoldable pub hits_of : Grid → List ℕ → Vec2 → Float → ℕ → ℕ
hits_of g m c r n = loop (hit_at g m c r n) 0 n 0

-- points hit and points sampled
unfoldable pub rim_contact : Grid → List ℕ → Vec2 → Float → ℕ → Contact
rim_contact g m c r samples = record { hits = hits_of g m c r (samples_of samples); samples = samples_of samples }

-- the angle of a contact, which `engagement` of raster.rs gives: TAU * hits as f64 / n as f64
unfoldable pub angle_of : Contact → Float
angle_of t = div binary64 (mul binary64 tau (float t.hits)) (float t.samples)

-- w holds the directions of n samples, as cosine and sine
pub record Rim (n : ℕ) (w : List Float) : Type 0 where
  pub long : 2 * n ≤ length w
  pub x : (k : ℕ) → k < n → get_or w (2 * k) nan ≡ (direction_at n k).x
  pub y : (k : ℕ) → k < n → get_or w (2 * k + 1) nan ≡ (direction_at n k).y

-- sample k's direction is written to w
unfoldable pub put_rim : ℕ → ℕ → List Float → List Float
put_rim n k w = put_point k (direction_at n k) w

unfoldable pub rimmed : ℕ → List Float → List Float
rimmed n w = loop (put_rim n) 0 n w
