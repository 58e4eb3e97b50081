-- What the planner does, event by event, and what it has checked before each. Definitions only.
use Rattle.std.specs.Prelude.{ℕ, ◌≤◌, ◌^◌, ◌≡◌, true, false, List, [], ◌∷◌, ◌++◌, length, replicate, Float}
use Rattle.std.proofs.Math.Option.{Option, none, some}
use Rattle.std.specs.Float.{binary64}
use Rattle.std.specs.Float.Ieee.{add, le, lt}
use Rattle.geom.specs.declared.vec2.Vec2.{Vec2}
use Rattle.raster.specs.Contact.{angle_of}
use Rattle.raster.specs.Stock.{clear_disk}
use Rattle.raster.specs.Log.{Stock, st, clear_after, undone, redone, Cut, passes}
use Rattle.events.specs.Chunk.{Point, Chunk, helix, plunge, link, cut, Job}
use Rattle.events.specs.Replay.{spots, gone_to, helix_end, BeginsGood}
use Rattle.events.specs.Helix.{radius_of}

pub data Event : Type 0 where
  tried : List Point → ℕ → Event  -- with its removed count
  withdrawn : Event
  linked : Vec2 → Event  -- one straight feed of the way to the pass on trial
  plunged : Vec2 → Event
  no_way : Vec2 → Event  -- a link refused
  kept : Event
  entered : Vec2 → Float → Event  -- by a helix
  given_up : Vec2 → Event  -- a helix place

-- `stock` is the map with the log of the pass on trial; `position` is where the tool is by the listed rows; `refused` is the point to which the event just
-- before refused a link; `abandoned` marks the cells that are given up
pub record State : Type 0 where
  pub stock : Stock
  pub rows : List Chunk
  pub position : Option Vec2
  pub trial : Option (List Point)
  pub refused : Option Vec2
  pub abandoned : List ℕ

abbrev pub state : Stock → List Chunk → Option Vec2 → Option (List Point) → Option Vec2 → List ℕ → State
state s rows p t r a = record { stock = s; rows = rows; position = p; trial = t; refused = r; abandoned = a }

-- a zero for each cell
abbrev pub zeros : Job → List ℕ
zeros j = replicate (length j.start) 0

-- the starting stock, an empty list, no pass on trial and no cell given up
unfoldable pub begin : Job → State
begin j = state (st j.start (zeros j) 0) [] none none none (zeros j)

-- ---- a pass, cleared with one growing log

-- the crescents to the later points, the tool being at p
unfoldable pub cuts_from : Float → Vec2 → List Point → List Cut
cuts_from r p [] = []
cuts_from r p (q ∷ qs) = record { from = p; to = q.at; radius = r } ∷ cuts_from r q.at qs

unfoldable pub cuts_of : Job → List Point → List Cut
cuts_of j [] = []
cuts_of j (p ∷ ps) = cuts_from j.r p.at ps

abbrev pub pass_logged : Job → List Point → Stock → Stock
pass_logged j ps s = passes j.grid (cuts_of j ps) s

-- the log is empty: what it held counts no more
abbrev pub fresh : Stock → Stock
fresh s = st s.cells s.log 0

-- the logged cells are stock again; they are cleared again. The log stays
abbrev pub put_back_all : Stock → Stock
put_back_all s = st (undone s.log 0 s.count s.cells) s.log s.count

abbrev pub take_again : Stock → Stock
take_again s = st (redone s.log 0 s.count s.cells) s.log s.count

-- ---- a step

-- a row is listed on the map before the pass on trial, which is then cleared again by its log
abbrev pub moved : State → Chunk → Vec2 → State
moved s c p = state (take_again (put_back_all s.stock)) (s.rows ++ (c ∷ [])) (some p) s.trial none s.abandoned

-- the points of the pass on trial become a row's
abbrev pub keep : State → Option (List Point) → State
keep s none = s
keep s (some ps) = state (fresh s.stock) (s.rows ++ (cut ps ∷ [])) (gone_to s.position (spots ps)) none none s.abandoned

-- the disk of a helix is cleared without a log
abbrev pub bored : Job → Vec2 → Float → Stock → Stock
bored j c rad s = st (clear_disk j.grid c (add binary64 rad j.r) s.cells).cells s.log s.count

unfoldable pub step : Job → State → Event → State
step j s (tried ps n) = state (pass_logged j ps (fresh s.stock)) s.rows s.position (some ps) none s.abandoned
step j s withdrawn = state (fresh (put_back_all s.stock)) s.rows s.position none none s.abandoned
step j s (linked p) = moved s (link p) p
step j s (plunged p) = moved s (plunge p) p
step j s (no_way p) = state (take_again (put_back_all s.stock)) s.rows s.position s.trial (some p) s.abandoned
step j s kept = keep s s.trial
step j s (entered c rad) =
    state (bored j c rad s.stock) (s.rows ++ (helix c rad ∷ [])) (some (helix_end c rad)) s.trial none s.abandoned
step j s (given_up c) = state s.stock s.rows s.position s.trial none (j.entry.abandon s.stock.cells s.abandoned)

unfoldable pub steps : Job → State → List Event → State
steps j s [] = s
steps j s (e ∷ es) = steps j (step j s e) es

unfoldable pub after : Job → List Event → State
after j es = steps j (begin j) es

-- ---- what was checked before each event, on the planner's own map

-- `PointGood` without the limit, which the guard is below
pub record PointChecked (j : Job) (m : List ℕ) (q : Point) : Type 0 where
  pub allowed : j.allowed q.at ≡ true
  pub measured : q.angle ≡ angle_of (j.contact m q.at)
  pub guarded : le q.angle j.guard ≡ true

-- each later point was checked on the map as the points before it left it
abbrev pub LaterChecked : Job → Stock → Vec2 → List Point → Type 0
LaterChecked j s p [] = Unit
LaterChecked j s p (q ∷ qs) = PointChecked j s.cells q × LaterChecked j (clear_after j.grid p q.at j.r s) q.at qs

abbrev pub PassChecked : Job → Stock → List Point → Type 0
PassChecked j s [] = Unit
PassChecked j s (p ∷ ps) = BeginsGood j s.cells p × LaterChecked j s p.at ps

-- nothing is on trial, and the count is the log's
pub record TriedChecked (j : Job) (s : State) (ps : List Point) (n : ℕ) : Type 0 where
  pub idle : s.trial ≡ none
  pub points : PassChecked j (fresh s.stock) ps
  pub count : n ≡ (pass_logged j ps (fresh s.stock)).count

-- the way is judged on the map before the pass on trial
pub record LinkChecked (j : Job) (s : State) (p : Vec2) : Type 0 where
  pub from : Vec2
  pub here : s.position ≡ some from
  pub clear : j.link_clear (put_back_all s.stock).cells from p ≡ true

-- a link is asked for from a position, of a tool that is kept down, and refused only where the straight one is not clear
pub record NoWayChecked (j : Job) (s : State) (p : Vec2) : Type 0 where
  pub from : Vec2
  pub here : s.position ≡ some from
  pub down : j.keep_down ≡ true
  pub blocked : j.link_clear (put_back_all s.stock).cells from p ≡ false

-- no link was to be asked for, or the one to this very point was just refused
pub data Unlinked (j : Job) (s : State) (p : Vec2) : Type 0 where
  nowhere : s.position ≡ none → Unlinked j s p
  lifted : j.keep_down ≡ false → Unlinked j s p
  denied : s.refused ≡ some p → Unlinked j s p

pub record PlungeChecked (j : Job) (s : State) (p : Vec2) : Type 0 where
  pub allowed : j.allowed p ≡ true
  pub free : j.free (put_back_all s.stock).cells p ≡ true
  pub unlinked : Unlinked j s p

-- a pass that is kept has points, and the tool has gone to the first
pub record KeepChecked (s : State) : Type 0 where
  pub first : Point
  pub rest : List Point
  pub on : s.trial ≡ some (first ∷ rest)
  pub arrived : s.position ≡ some first.at

pub record OnTrial (s : State) : Type 0 where
  pub points : List Point
  pub on : s.trial ≡ some points

-- nothing is on trial, c is the place that the job finds, and what its radii come to is o
pub record PlaceChecked (j : Job) (s : State) (c : Vec2) (o : Option Float) : Type 0 where
  pub idle : s.trial ≡ none
  pub widest : Float
  pub found : j.entry.place s.stock.cells s.abandoned ≡ some (record { centre = c; widest = widest })
  pub radius : radius_of j c widest ≡ o

abbrev pub Checked : Job → State → Event → Type 0
Checked j s (tried ps n) = TriedChecked j s ps n
Checked j s withdrawn = OnTrial s
Checked j s (linked p) = LinkChecked j s p
Checked j s (plunged p) = PlungeChecked j s p
Checked j s (no_way p) = NoWayChecked j s p
Checked j s kept = KeepChecked s
Checked j s (entered c rad) = PlaceChecked j s c (some rad)
Checked j s (given_up c) = PlaceChecked j s c none

abbrev pub LegalFrom : Job → State → List Event → Type 0
LegalFrom j s [] = Unit
LegalFrom j s (e ∷ es) = Checked j s e × LegalFrom j (step j s e) es

-- a list of events with which a plan may begin
abbrev pub Legal : Job → List Event → Type 0
Legal j es = LegalFrom j (begin j) es

-- the guard is below the set limit, and a cell's number is a u32
pub record Fit (j : Job) : Type 0 where
  pub guard : lt j.guard j.limit ≡ true
  pub small : length j.start ≤ 2 ^ 32
