-- The replay of a chunk list, and the rule that each row keeps by it. It is fed the job and the rows, nothing else of the planner's. Definitions only.
use Rattle.std.specs.Prelude.{ℕ, ◌-◌, ◌<◌, ◌≡◌, true, List, [], ◌∷◌, map, Float}
use Rattle.std.proofs.Math.Option.{Option, none, some}
use Rattle.std.specs.Float.{binary64}
use Rattle.std.specs.Float.Ieee.{add, mul, div, le, lt}
use Rattle.loops.specs.Cells.{ones}
use Rattle.geom.specs.Vec.{v2, f0, sum, scaled, from_angle}
use Rattle.geom.specs.declared.vec2.Vec2.{Vec2}
use Rattle.numbers.specs.Cast.{float}
use Rattle.raster.specs.Sweep.{over_disk, over_crescent}
use Rattle.raster.specs.Stock.{wipe_cell}
use Rattle.raster.specs.Contact.{angle_of}
use Rattle.numbers.specs.Circle.{tau}
use Rattle.raster.specs.declared.grid.Grid.{Grid}
use Rattle.events.specs.Chunk.{Point, Chunk, helix, plunge, link, cut, Job}

-- ---- clearing, of a map alone

-- the cells of the disk of radius r at c
abbrev pub disk : Grid → Vec2 → Float → List ℕ → List ℕ
disk g c r m = over_disk wipe_cell g c r m

-- those that are not in the disk at prev
abbrev pub crescent : Grid → Vec2 → Vec2 → Float → List ℕ → List ℕ
crescent g prev c r m = over_crescent wipe_cell g prev c r m

-- ---- a pass

-- the crescents to the later points of a pass, the tool being at p
unfoldable pub later : Job → Vec2 → List Point → List ℕ → List ℕ
later j p [] m = m
later j p (q ∷ qs) m = later j q.at qs (crescent j.grid p q.at j.r m)

-- a pass without points clears nothing
unfoldable pub pass : Job → List Point → List ℕ → List ℕ
pass j [] m = m
pass j (p ∷ ps) m = later j p.at ps m

-- how many cells a pass clears
unfoldable pub removed : Job → List Point → List ℕ → ℕ
removed j ps m = ones m - ones (pass j ps m)

-- the last of a list; a where it is empty
abbrev pub last_of : {A : Type 0} → A → List A → A
last_of a [] = a
last_of a (x ∷ l) = last_of x l

abbrev pub spots : List Point → List Vec2
spots ps = map (λ (p : Point). p.at) ps

-- where points gone to one after another leave the tool, which was at `here`
abbrev pub gone_to : Option Vec2 → List Vec2 → Option Vec2
gone_to here ps = last_of here (map some ps)

-- ---- a helix

-- rim point k of 36
unfoldable pub rim_point : Vec2 → Float → ℕ → Vec2
rim_point c rad k = sum c (scaled (from_angle (div binary64 (mul binary64 tau (float k)) (float 36))) rad)

-- where a helix leaves the tool: its point at angle 0, whose y is summed too
unfoldable pub helix_end : Vec2 → Float → Vec2
helix_end c rad = sum c (v2 rad f0)

-- ---- the replay

pub record Replay : Type 0 where
  pub map : List ℕ
  pub position : Option Vec2

abbrev pub rp : List ℕ → Option Vec2 → Replay
rp m p = record { map = m; position = p }

unfoldable pub replay_row : Job → Replay → Chunk → Replay
replay_row j s (helix c rad) = rp (disk j.grid c (add binary64 rad j.r) s.map) (some (helix_end c rad))
replay_row j s (plunge p) = rp s.map (some p)
replay_row j s (link p) = rp s.map (some p)
replay_row j s (cut ps) = rp (pass j ps s.map) (gone_to s.position (spots ps))

unfoldable pub replay_from : Job → Replay → List Chunk → Replay
replay_from j s [] = s
replay_from j s (c ∷ cs) = replay_from j (replay_row j s c) cs

-- the starting stock, and no position
unfoldable pub origin : Job → Replay
origin j = rp j.start none

unfoldable pub replay : Job → List Chunk → Replay
replay j rows = replay_from j (origin j) rows

-- ---- the rules, at the replay just before the row

pub record BeginsGood (j : Job) (m : List ℕ) (p : Point) : Type 0 where
  pub allowed : j.allowed p.at ≡ true
  pub free : j.free m p.at ≡ true
  pub unmeasured : p.angle ≡ f0

-- a later point: it lists the angle of the contact that is counted on the map just before its own crescent
pub record PointGood (j : Job) (m : List ℕ) (q : Point) : Type 0 where
  pub allowed : j.allowed q.at ≡ true
  pub measured : q.angle ≡ angle_of (j.contact m q.at)
  pub guarded : le q.angle j.guard ≡ true
  pub limited : lt q.angle j.limit ≡ true

abbrev pub LaterGood : Job → List ℕ → Vec2 → List Point → Type 0
LaterGood j m p [] = Unit
LaterGood j m p (q ∷ qs) = PointGood j m q × LaterGood j (crescent j.grid p q.at j.r m) q.at qs

-- a pass, perhaps one on trial that has no points
abbrev pub PassGood : Job → List ℕ → List Point → Type 0
PassGood j m [] = Unit
PassGood j m (p ∷ ps) = BeginsGood j m p × LaterGood j m p.at ps

-- a listed cut has points, and its first is where the tool is
abbrev pub CutGood : Job → Replay → List Point → Type 0
CutGood j s [] = ⊥
CutGood j s (p ∷ ps) = (s.position ≡ some p.at) × PassGood j s.map (p ∷ ps)

-- a link's samples, from the position
pub record LinkGood (j : Job) (s : Replay) (p : Vec2) : Type 0 where
  pub from : Vec2
  pub here : s.position ≡ some from
  pub clear : j.link_clear s.map from p ≡ true

pub record PlungeGood (j : Job) (s : Replay) (p : Vec2) : Type 0 where
  pub allowed : j.allowed p ≡ true
  pub free : j.free s.map p ≡ true

-- all 36 rim points
pub record HelixGood (j : Job) (c : Vec2) (rad : Float) : Type 0 where
  pub rim : (k : ℕ) → k < 36 → j.allowed (rim_point c rad k) ≡ true

abbrev pub RowGood : Job → Replay → Chunk → Type 0
RowGood j s (helix c rad) = HelixGood j c rad
RowGood j s (plunge p) = PlungeGood j s p
RowGood j s (link p) = LinkGood j s p
RowGood j s (cut ps) = CutGood j s ps

-- every row of a list is good at the replay of the rows before it
abbrev pub ExplainedFrom : Job → Replay → List Chunk → Type 0
ExplainedFrom j s [] = Unit
ExplainedFrom j s (c ∷ cs) = RowGood j s c × ExplainedFrom j (replay_row j s c) cs

abbrev pub Explained : Job → List Chunk → Type 0
Explained j rows = ExplainedFrom j (origin j) rows
