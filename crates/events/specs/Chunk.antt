-- The rows of a chunk list, and a job as the replay is told it. Definitions only.
use Rattle.std.specs.Prelude.{ℕ, Bool, List, Float}
use Rattle.std.proofs.Math.Option.{Option}
use Rattle.geom.specs.declared.vec2.Vec2.{Vec2}
use Rattle.raster.specs.declared.contact.Contact.{Contact}
use Rattle.raster.specs.declared.grid.Grid.{Grid}

-- a point of a cut with the angle of contact that is listed for it: 0 for the first point, which is not measured
pub record Point : Type 0 where
  pub at : Vec2
  pub angle : Float

pub data Chunk : Type 0 where
  helix : Vec2 → Float → Chunk  -- centre, radius of the tool centre's path
  plunge : Vec2 → Chunk
  link : Vec2 → Chunk
  cut : List Point → Chunk

-- a place for a helix: its centre, and the radius that is tried first
pub record Spot : Type 0 where
  pub centre : Vec2
  pub widest : Float

-- the judges of a helix's place, which see a map and the cells that are given up
pub record Entry : Type 0 where
  pub place : List ℕ → List ℕ → Option Spot  -- farthest from the walls among the reachable stock that is not given up
  pub abandon : List ℕ → List ℕ → List ℕ  -- the cells given up, and with them the connected reachable stock at that place
  pub least : Float  -- the least radius

-- what the job settles: the raster, the starting stock, the numbers, and the judges of a place, which see a map and nothing else of the planner's
pub record Job : Type 0 where
  pub grid : Grid
  pub start : List ℕ
  pub r : Float
  pub guard : Float
  pub limit : Float
  pub keep_down : Bool  -- the tool is kept down between passes where there is a way
  pub allowed : Vec2 → Bool
  pub free : List ℕ → Vec2 → Bool  -- no stock in the tool's disk
  pub contact : List ℕ → Vec2 → Contact  -- counted at the widened radius
  pub link_clear : List ℕ → Vec2 → Vec2 → Bool  -- the samples of a straight feed
  pub entry : Entry
