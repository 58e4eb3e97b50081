-- The engagement field, as `field` of adaptive.rs: at each allowed cell the angle of the tool's whole rim over stock. Distances are squares of whole numbers,
-- and `rooted_of` of one is what the Rust's transform has. Definitions only.
use Rattle.std.specs.Prelude.{ℕ, ◌+◌, ◌-◌, Bool, true, false, cond, ◌&&◌, ◌||◌, List, length, get_or, set, replicate, eqb, Float}
use Rattle.std.specs.Float.{nan, binary32, binary64}
use Rattle.std.specs.Float.Ieee.{of_bits, add, sub, mul, div, lt, le}
use Rattle.loops.specs.Loop.{loop}
use Rattle.loops.specs.Cells.{number}
use Rattle.numbers.specs.Narrow.{narrow_of}
use Rattle.numbers.specs.Small.{f2, f3}
use Rattle.distance.specs.Rooted.{rooted_of}
use Rattle.distance.specs.Nearest.{squares_of}
use Rattle.raster.specs.Contact.{angle_of}
use Rattle.raster.specs.Grid.{center_of}
use Rattle.numbers.specs.Circle.{tau}
use Rattle.setup.specs.Place.{contact_at, bite_of}
use Rattle.setup.specs.declared.Setup.{Setup}
use Rattle.field.specs.declared.gauge.Value.{Value}

-- 1.5
abbrev pub f3h : Float
f3h = of_bits binary64 0x3ff8_0000_0000_0000

-- 0.0f32 and 1.0f32
abbrev pub s0 : Float
s0 = of_bits binary32 0

abbrev pub s1 : Float
s1 = of_bits binary32 0x3f80_0000

-- ---- what a round fixes

-- r - bite - 3.0 * c: nearer to stock than this, the whole rim is over it
unfoldable pub low_of : Setup → Float
low_of s = sub binary64 (sub binary64 s.r (bite_of s)) (mul binary64 f3 s.grid.cell)

-- r + 1.5 * c: beyond it nothing of the rim is
unfoldable pub high_of : Setup → Float
high_of s = add binary64 s.r (mul binary64 f3h s.grid.cell)

-- (r + 2.0 * c) / c: as far as a cell that was cut changes the field
unfoldable pub reach_of : Setup → Float
reach_of s = div binary64 (add binary64 s.r (mul binary64 f2 s.grid.cell)) s.grid.cell

-- ---- one cell

abbrev pub value : Float → Bool → Value
value v sampled = record { v = v; sampled = sampled }

-- the field at the centre of cell (i, j), whose distance to stock is d
unfoldable pub value_of : Setup → List ℕ → Float → ℕ → ℕ → Value
value_of s map d i j =
    cond (lt (high_of s) d) (value s0 false)
    (cond (lt d (low_of s)) (value (narrow_of tau) false)
    (value (narrow_of (angle_of (contact_at s map (center_of s.grid i j) s.r))) true))

unfoldable pub value_at : Setup → List ℕ → List ℕ → ℕ → ℕ → Value
value_at s map stock i j = value_of s map (mul binary64 (rooted_of (get_or stock (number s.grid.nx i j) 0)) s.grid.cell) i j

-- cell k is allowed, and all cells are worked out anew or it is near enough to a cell that was cut
unfoldable pub wanted_at : Setup → Bool → List ℕ → List ℕ → ℕ → Bool
wanted_at s all allowed near k = eqb (get_or allowed k 0) 1 && (all || le (rooted_of (get_or near k 0)) (reach_of s))

-- ---- the field, and how many of its cells were sampled

pub record Sensed : Type 0 where
  pub field : List Float
  pub sampled : ℕ

abbrev pub sensed : List Float → ℕ → Sensed
sensed f n = record { field = f; sampled = n }

unfoldable pub put_value : ℕ → Value → Sensed → Sensed
put_value k v t = sensed (set t.field k v.v) (cond v.sampled (t.sampled + 1) t.sampled)

module _ (s : Setup) (all : Bool) (map allowed stock near : List ℕ) where
  unfoldable pub field_cell : ℕ → ℕ → Sensed → Sensed
  field_cell j i t = cond (wanted_at s all allowed near (number s.grid.nx i j)) (put_value (number s.grid.nx i j) (value_at s map stock i j) t) t

  unfoldable pub field_row : ℕ → Sensed → Sensed
  field_row j t = loop (field_cell j) 1 (s.grid.nx - 1) t

  -- the rim of cells is left out
  unfoldable pub field_rows : Sensed → Sensed
  field_rows t = loop field_row 1 (s.grid.ny - 1) t

-- the field of a round over that of the last one, or over NaN where all cells are worked out anew
unfoldable pub field_of : Setup → Bool → List ℕ → List ℕ → List ℕ → List ℕ → List Float → Sensed
field_of s all map allowed stock dirty f =
    field_rows s all map allowed stock (squares_of 1 dirty s.grid.nx s.grid.ny) (sensed (cond all (replicate (length f) nan) f) 0)

-- ---- the ring along the boundary of where the tool may go

abbrev pub ring_at : List ℕ → ℕ → Float
ring_at allowed k = cond (eqb (get_or allowed k 0) 1) s0 s1
