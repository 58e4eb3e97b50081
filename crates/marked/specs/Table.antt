-- Document 01's "Marked for proof": one table, a sole statement. A row is an equation with the definition that the code's contract cites;
-- a float is given by its bit pattern. Each layer has its rows in a record, and `Table` has them all.
use Rattle.std.specs.Prelude.{◌≡◌, false, List, [], ◌∷◌, ℕ, replicate, take, Float, None, Ok, Some}
use Rattle.std.specs.Float.{nan, inf, binary32, binary64}
use Rattle.std.specs.Float.Ieee.{of_bits}
use Rattle.loops.specs.Cells.{ones}
use Rattle.numbers.specs.Narrow.{narrow_of}
use Rattle.numbers.specs.Root.{root_of}
use Rattle.numbers.specs.Circle.{cos_of, tau}
use Rattle.numbers.specs.Small.{f1, f2, f4}
use Rattle.geom.specs.Vec.{v2, f0}
use Rattle.geom.specs.declared.vec2.Vec2.{Vec2}
use Rattle.geom.specs.declared.region.Region.{Region}
use Rattle.raster.specs.Grid.{new_grid, cell_of}
use Rattle.raster.specs.Stock.{clear_disk}
use Rattle.raster.specs.Log.{Stock, st, clear_after, undone}
use Rattle.raster.specs.Contact.{samples_of, rim_contact, angle_of}
use Rattle.raster.specs.declared.contact.Contact.{Contact}
use Rattle.filling.specs.Fill.{fill_region}
use Rattle.raster.specs.declared.grid.Grid.{Grid}
use Rattle.distance.specs.Nearest.{transform_of}
use Rattle.distance.specs.Rooted.{distances_of}
use Rattle.passes.specs.Worth.{wanted_of}

pub record Numbers : Type 0 where
  -- the cosine of 0 is 1
  pub cosine : cos_of (of_bits binary64 0) ≡ f1
  -- the root of 2.25 is 1.5
  pub root : root_of (of_bits binary64 0x4002_0000_0000_0000) ≡ of_bits binary64 0x3ff8_0000_0000_0000
  -- 1 + 2 ^ -24 narrows to 1
  pub narrow_even : narrow_of (of_bits binary64 0x3ff0_0000_1000_0000) ≡ of_bits binary32 0x3f80_0000
  -- 1 + 3 * 2 ^ -24 narrows to 1 + 2 ^ -22
  pub narrow_odd : narrow_of (of_bits binary64 0x3ff0_0000_3000_0000) ≡ of_bits binary32 0x3f80_0002

-- ---- the map of 5 by 5, origin 0, cell 1, all set

abbrev pub five : Float
five = of_bits binary64 0x4014_0000_0000_0000

abbrev pub grid : Grid
grid = record { origin = v2 f0 f0; cell = f1; nx = 5; ny = 5 }

abbrev pub full : List ℕ
full = replicate 25 1

abbrev pub empty : List ℕ
empty = replicate 25 0

-- (1.5, 2.5) and (2.5, 2.5)
abbrev pub before : Vec2
before = v2 (of_bits binary64 0x3ff8_0000_0000_0000) (of_bits binary64 0x4004_0000_0000_0000)

abbrev pub middle : Vec2
middle = v2 (of_bits binary64 0x4004_0000_0000_0000) (of_bits binary64 0x4004_0000_0000_0000)

-- the crescent from one to the other at radius 1, with a log of its own
abbrev pub cleared : Stock
cleared = clear_after grid before middle f1 (st full empty 0)

pub record Disks : Type 0 where
  -- clear radius 1 at (2.5, 2.5): 5, then again: 0
  pub once : (clear_disk grid middle f1 full).removed ≡ 5
  pub twice : (clear_disk grid middle f1 (clear_disk grid middle f1 full).cells).removed ≡ 0

pub record Crescents : Type 0 where
  -- log 7, 13, 17; standing 22; undone: 25
  pub log : take cleared.count cleared.log ≡ (7 ∷ 13 ∷ 17 ∷ [])
  pub standing : ones cleared.cells ≡ 22
  pub undone-all : ones (undone cleared.log 0 cleared.count cleared.cells) ≡ 25
  -- from a point to itself: 0
  pub to_itself : (clear_after grid middle middle f1 (st full empty 0)).count ≡ 0

-- so many points of a rim hit, of so many sampled
abbrev pub points : ℕ → ℕ → Contact
points hits samples = record { hits = hits; samples = samples }

pub record Contacts : Type 0 where
  -- 4 samples become 8; contact at (2.5, 2.5), radius 1: 8 of 8, TAU; on an empty map 0 of 8, 0
  pub samples : samples_of 4 ≡ 8
  pub all : rim_contact grid full middle f1 4 ≡ points 8 8
  pub all-angle : angle_of (rim_contact grid full middle f1 4) ≡ tau
  pub none : rim_contact grid empty middle f1 4 ≡ points 0 8
  pub none-angle : angle_of (rim_contact grid empty middle f1 4) ≡ f0

pub record Cells : Type 0 where
  -- (5, 2) has no cell; (0, 0) has (0, 0)
  pub off : cell_of grid (v2 five f2) ≡ None
  pub first : cell_of grid (v2 f0 f0) ≡ Some (0, 0)

-- ---- others

-- the square (0, 0) to (4, 4) as lent vertices, and the grid of cell 1 with margin 2 around it
abbrev pub corners : List Float
corners = f0 ∷ f0 ∷ f4 ∷ f0 ∷ f4 ∷ f4 ∷ f0 ∷ f4 ∷ []

abbrev pub square : Region
square = record { at = 0; first = 0; loops = 1 }

abbrev pub nine : Grid
nine = record { origin = v2 (of_bits binary64 0xc000_0000_0000_0000) (of_bits binary64 0xc000_0000_0000_0000); cell = f1; nx = 9; ny = 9 }

pub record Squares : Type 0 where
  -- 9 by 9, 16 set
  pub sides : new_grid (v2 f0 f0) (v2 f4 f4) f1 f2 ≡ Ok nine
  pub set : ones (fill_region nine corners (4 ∷ []) square (replicate 81 0)) ≡ 16

-- what `transform` leaves of 18 places, and `distances` of 9
abbrev pub squares : List ℕ → List ℕ
squares marks = transform_of 1 marks 3 3 (replicate 18 7)

abbrev pub distances : List ℕ → List Float
distances marks = distances_of 9 (squares marks) (replicate 9 nan)

pub record Distances : Type 0 where
  -- one mark mid 3 by 3: squares 2 1 2 / 1 0 1 / 2 1 2
  pub mid : take 9 (squares (0 ∷ 0 ∷ 0 ∷ 0 ∷ 1 ∷ 0 ∷ 0 ∷ 0 ∷ 0 ∷ [])) ≡ 2 ∷ 1 ∷ 2 ∷ 1 ∷ 0 ∷ 1 ∷ 2 ∷ 1 ∷ 2 ∷ []
  -- none: all infinite
  pub none : distances (replicate 9 0) ≡ replicate 9 (inf false)

pub record Passes : Type 0 where
  -- cell 1: length 100 wants 5, length 60 wants 4
  pub long : wanted_of (of_bits binary64 0x4059_0000_0000_0000) f1 ≡ 5
  pub short : wanted_of (of_bits binary64 0x404e_0000_0000_0000) f1 ≡ 4

pub record Table : Type 0 where
  pub numbers : Numbers
  pub disks : Disks
  pub crescents : Crescents
  pub contacts : Contacts
  pub cells : Cells
  pub squares : Squares
  pub distances : Distances
  pub passes : Passes
