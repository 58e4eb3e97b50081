-- Demand 3: what holds after every list of events with which a plan begins. Definitions only.
use Rattle.std.specs.Prelude.{ℕ, ◌+◌, ◌≡◌, Bool, true, false, cond, List, [], ◌∷◌, ◌++◌, eqb, Float}
use Rattle.std.proofs.Math.Option.{Option, none, some}
use Rattle.loops.specs.Cells.{ones}
use Rattle.geom.specs.declared.vec2.Vec2.{Vec2}
use Rattle.raster.specs.Log.{undone}
use Rattle.events.specs.Chunk.{Point, Chunk, Job}
use Rattle.events.specs.Replay.{Replay, pass, removed, replay, PassGood, Explained}
use Rattle.events.specs.Helix.{radius_of}
use Rattle.events.specs.Events.{Event, tried, withdrawn, linked, plunged, no_way, kept, entered, given_up, State, after, Unlinked}
use Rattle.events.specs.Lent.{kind_of, decode}

-- the pass on trial, if there is one, after a map
abbrev pub trial_map : Job → Option (List Point) → List ℕ → List ℕ
trial_map j none m = m
trial_map j (some ps) m = pass j ps m

abbrev pub trial_removed : Job → Option (List Point) → List ℕ → ℕ
trial_removed j none m = 0
trial_removed j (some ps) m = removed j ps m

abbrev pub TrialGood : Job → Option (List Point) → List ℕ → Type 0
TrialGood j none m = Unit
TrialGood j (some ps) m = PassGood j m ps

-- a state that its rows explain
pub record Told (j : Job) (s : State) : Type 0 where
  -- the map is the starting stock less what the listed rows and then the pass on trial clear
  pub map : s.stock.cells ≡ trial_map j s.trial (replay j s.rows).map
  -- the log's length, which is a tried pass's removed count, is the replay's
  pub count : s.stock.count ≡ trial_removed j s.trial (replay j s.rows).map
  -- undoing gives the replay's map
  pub back : undone s.stock.log 0 s.stock.count s.stock.cells ≡ (replay j s.rows).map
  pub position : s.position ≡ (replay j s.rows).position
  -- every row keeps its rule, and so does the pass on trial
  pub rows : Explained j s.rows
  pub trial : TrialGood j s.trial (replay j s.rows).map

-- a link that was refused: the straight one from the replay's position is not clear on its map
pub record NoWayTold (j : Job) (s : Replay) (p : Vec2) : Type 0 where
  pub from : Vec2
  pub here : s.position ≡ some from
  pub down : j.keep_down ≡ true
  pub blocked : j.link_clear s.map from p ≡ false

-- a helix's place is the one that the job finds on the replay's map, and what its radii come to is o
pub record PlaceTold (j : Job) (m gone : List ℕ) (c : Vec2) (o : Option Float) : Type 0 where
  pub widest : Float
  pub found : j.entry.place m gone ≡ some (record { centre = c; widest = widest })
  pub radius : radius_of j c widest ≡ o

-- what an event says besides its row, by the replay of the rows before it
abbrev pub EventTold : Job → State → Event → Type 0
EventTold j s (tried ps n) = n ≡ removed j ps (replay j s.rows).map
EventTold j s withdrawn = Unit
EventTold j s (linked p) = Unit
EventTold j s (plunged p) = Unlinked j s p
EventTold j s (no_way p) = NoWayTold j (replay j s.rows) p
EventTold j s kept = Unit
EventTold j s (entered c rad) = PlaceTold j (replay j s.rows).map s.abandoned c (some rad)
EventTold j s (given_up c) = PlaceTold j (replay j s.rows).map s.abandoned c none

-- the single claim over a whole list of events
pub record Demand3 (j : Job) (es : List Event) : Type 0 where
  pub each : (fore rest : List Event) → fore ++ rest ≡ es → Told j (after j fore)
  -- the removed count of every tried pass, withdrawn ones too; the reason of every refused event
  pub events : (fore : List Event) (e : Event) (rest : List Event) → fore ++ (e ∷ rest) ≡ es → EventTold j (after j fore) e

-- ---- a finished plan

-- how many of a list pass the test
unfoldable pub how_many : {A : Type 0} → (A → Bool) → List A → ℕ
how_many f [] = 0
how_many f (x ∷ l) = cond (f x) 1 0 + how_many f l

-- the kind of the row that an event lists; 5 for a place given up, 0 where there is none
abbrev pub kind_by : Event → ℕ
kind_by (tried ps n) = 0
kind_by withdrawn = 0
kind_by (linked p) = 3
kind_by (plunged p) = 2
kind_by (no_way p) = 0
kind_by kept = 4
kind_by (entered c rad) = 1
kind_by (given_up c) = 5

-- how many events, and how many chunks, are of kind k
abbrev pub events_of : ℕ → List Event → ℕ
events_of k es = how_many (λ (e : Event). eqb (kind_by e) k) es

abbrev pub chunks_of : ℕ → List Chunk → ℕ
chunks_of k cs = how_many (λ (c : Chunk). eqb (kind_of c) k) cs

-- the numbers of a report that the events settle
pub record Report : Type 0 where
  pub starting : ℕ
  pub standing : ℕ
  pub entries : ℕ
  pub plunges : ℕ
  pub links : ℕ
  pub passes : ℕ
  pub given_up : ℕ

-- the stock counted in the starting map and in the map m that is handed back, and the events of each kind
pub record Counted (j : Job) (es : List Event) (m : List ℕ) (r : Report) : Type 0 where
  pub starting : r.starting ≡ ones j.start
  pub standing : r.standing ≡ ones m
  pub entries : r.entries ≡ events_of 1 es
  pub plunges : r.plunges ≡ events_of 2 es
  pub links : r.links ≡ events_of 3 es
  pub passes : r.passes ≡ events_of 4 es
  pub given_up : r.given_up ≡ events_of 5 es

-- a plan that ends with the events es, the report r, the map m and n rows in the lent slices
pub record Finished (j : Job) (es : List Event) (r : Report) (m : List ℕ) (n : ℕ) (rows : List ℕ) (triples : List Float) : Type 0 where
  pub claim : Demand3 j es
  pub settled : (after j es).trial ≡ none
  pub listed : decode n rows triples ≡ some (after j es).rows
  -- the map handed back is the replay's of the list that the slices hold
  pub map : m ≡ (replay j (after j es).rows).map
  pub counted : Counted j es m r
