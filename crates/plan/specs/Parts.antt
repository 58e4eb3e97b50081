-- A round of `plan` of adaptive.rs in three parts: the curves of the field cut, the ring cut once per clean-up, an entry by a helix. Definitions only.
use Rattle.std.specs.Prelude.{ℕ, ◌+◌, ◌≡◌, Bool, true, false, cond, List, [], ◌++◌, length, replicate, Option, Some, None, Result, Ok, Err, Float}
use Rattle.setup.specs.Layout.{run, map_in, allowed_in, dirty_in, log_in}
use Rattle.setup.specs.Place.{cells_of}
use Rattle.setup.specs.declared.Setup.{Setup}
use Rattle.links.specs.Path.{wall_in}
use Rattle.events.specs.Events.{Event}
use Rattle.cutting.specs.Piece.{spending, Listed}
use Rattle.cutting.specs.declared.listing.Full.{Full}
use Rattle.cutting.specs.declared.piece.State.{State}
use Rattle.workspace.specs.Standing.{reach_in, abandoned_in, CellsKept, WallsKept}
use Rattle.tracing.specs.Round.{sensed_of, curves_of, work_of}
use Rattle.tracing.specs.Ring.{ring_of}
use Rattle.field.specs.Field.{Sensed}
use Rattle.rounds.specs.Round.{Cuts, CutsWithEvents, cut_pieces_of, cut_ring_of}
use Rattle.helix.specs.Enter.{Entered, helix_of}
use Rattle.helix.specs.Enter.{WithEvents as HelixDone}
use Rattle.plan.specs.declared.parts.Progress.{Progress}
use Rattle.plan.specs.declared.parts.Step.{Step}
use Rattle.plan.specs.declared.parts.Step.TheVariants.{Next, Again, Done}

-- ---- what a plan is about

-- what is fixed: the set-up, the region's loops, wall distances, where the tool may go, what it can reach, and the radius of a helix that is tried first
pub record Ground : Type 0 where
  pub setup : Setup
  pub wall : List Float
  pub vs : List Float
  pub lens : List ℕ
  pub allowed : List ℕ
  pub reach : List ℕ
  pub pref : Float

-- what moves in the lent slices: the stock map, the cells cut since the last field, those given up, the pass's log, the field, rows and triples
pub record Slices : Type 0 where
  pub map : List ℕ
  pub dirty : List ℕ
  pub gone : List ℕ
  pub log : List ℕ
  pub field : List Float
  pub rows : List ℕ
  pub out : List Float

abbrev pub slices : List ℕ → List ℕ → List ℕ → List ℕ → List Float → List ℕ → List Float → Slices
slices m d g l f r o = record { map = m; dirty = d; gone = g; log = l; field = f; rows = r; out = o }

-- what is held by value: the state of the cuts, whether the whole field is to be worked out anew, how many places were given up, and whether the ring was cut
-- since the last pass
abbrev pub progress : State → Bool → ℕ → Bool → Progress
progress t all given cleanup = record { state = t; all = all; given = given; cleanup = cleanup }

-- how a part leaves the round, or what is full
abbrev pub Answer : Type 0
Answer = Result Step Full

-- what a part leaves, with its answer
pub record Left : Type 0 where
  pub slices : Slices
  pub answer : Answer

abbrev pub lf : Slices → Answer → Left
lf h a = record { slices = h; answer = a }

-- the same with the events that led there
pub record WithEvents : Type 0 where
  pub left : Left
  pub events : List Event

abbrev pub with_events : Slices → Answer → List Event → WithEvents
with_events h a es = record { left = lf h a; events = es }

-- ---- the parts

-- a pass was kept: the next round, and the ring is due again; none: the round goes on
unfoldable pub pieces_step : Progress → State → Bool → Step
pieces_step p t any = cond any (Again (progress t false p.given false)) (Next (progress t false p.given p.cleanup))

unfoldable pub after_pieces : Progress → Cuts → Answer
after_pieces p (Ok (t, any)) = Ok (pieces_step p t any)
after_pieces p (Err f) = Err f

unfoldable pub ring_step : Progress → State → Bool → Step
ring_step p t any = cond any (Again (progress t p.all p.given true)) (Next (progress t p.all p.given true))

unfoldable pub after_ring : Progress → Cuts → Answer
after_ring p (Ok (t, any)) = Ok (ring_step p t any)
after_ring p (Err f) = Err f

-- how many places were given up on the way to an answer
unfoldable pub places_of : Entered → ℕ
places_of (Ok (t, n)) = n
places_of (Err f) = 0

-- after an entry the whole field is due, and the ring again; where there is none the plan is done
unfoldable pub helix_step : Progress → Option State → ℕ → Step
helix_step p (Some t) n = Again (progress t true (p.given + n) false)
helix_step p None n = Done (progress p.state p.all (p.given + n) p.cleanup)

unfoldable pub after_helix : Progress → Entered → Answer
after_helix p (Ok (t, n)) = Ok (helix_step p t n)
after_helix p (Err f) = Err f

module _ (g : Ground) (p : Progress) (h : Slices) where
  abbrev s : Setup
  s = g.setup

  abbrev pub field_now : Sensed
  field_now = sensed_of s p.all h.map g.allowed h.dirty h.field

  abbrev pub pieces_cut : CutsWithEvents
  pieces_cut =
      cut_pieces_of s g.wall g.vs g.lens g.allowed (curves_of s field_now.field) (spending (work_of s field_now.sampled) p.state) h.map (replicate (cells_of s) 0) h.rows h.log h.out

  -- the distance to stock, the field, its curves, and these cut
  unfoldable pub pieces_part : WithEvents
  pieces_part =
      let c = pieces_cut in
      let l = c.left in
      with_events (slices l.map l.dirty h.gone l.log field_now.field l.rows l.out) (after_pieces p l.answer) c.events

  abbrev pub ring_cut : CutsWithEvents
  ring_cut = cut_ring_of s g.wall g.vs g.lens g.allowed (ring_of s g.wall g.vs g.lens g.allowed) p.state h.map h.dirty h.rows h.log h.out

  -- if !cleanup
  unfoldable pub ring_part : WithEvents
  ring_part =
      let c = ring_cut in
      let l = c.left in
      cond p.cleanup (with_events h (Ok (Next p)) []) (with_events (slices l.map l.dirty h.gone l.log h.field l.rows l.out) (after_ring p l.answer) c.events)

  abbrev pub helix_entered : HelixDone
  helix_entered = helix_of s g.wall g.vs g.lens g.allowed g.reach g.pref p.state h.map h.gone h.rows h.out

  -- if let Some((c, radius)) = self.find_helix()
  unfoldable pub helix_part : WithEvents
  helix_part =
      let c = helix_entered in
      let l = c.left in
      with_events (slices l.map h.dirty l.gone h.log h.field l.rows l.out) (after_helix p l.answer) c.events

-- ---- a round

-- the next part where the round goes on
unfoldable pub onward : (Progress → Slices → WithEvents) → Slices → Answer → List Event → WithEvents
onward part h (Ok (Next p)) es = let q = part p h in with_events q.left.slices q.left.answer (es ++ q.events)
onward part h (Ok (Again p)) es = with_events h (Ok (Again p)) es
onward part h (Ok (Done p)) es = with_events h (Ok (Done p)) es
onward part h (Err f) es = with_events h (Err f) es

abbrev pub then_do : (Progress → Slices → WithEvents) → WithEvents → WithEvents
then_do part q = onward part q.left.slices q.left.answer q.events

-- the ring, then the helix
unfoldable pub rest_of : Ground → Progress → Slices → WithEvents
rest_of g p h = then_do (helix_part g) (ring_part g p h)

unfoldable pub round_of : Ground → Progress → Slices → WithEvents
round_of g p h = then_do (rest_of g) (pieces_part g p h)

-- ---- in the workspace of n cells

abbrev pub slices_in : ℕ → List ℕ → List ℕ → List Float → List ℕ → List Float → Slices
slices_in n b u f r o = slices (map_in n b) (dirty_in n b) (abandoned_in n b) (log_in n u) (run 0 n f) r o

-- what is fixed, by what stands there
abbrev pub ground_in : Setup → List Float → List ℕ → Float → List ℕ → List Float → Ground
ground_in s vs lens pref b w = record {
  setup = s;
  wall = wall_in s w;
  vs = vs;
  lens = lens;
  allowed = allowed_in (cells_of s) b;
  reach = reach_in (cells_of s) b;
  pref = pref;
}

-- what callers find again
abbrev pub ListedAfter : List ℕ → List Float → Answer → Type 0
ListedAfter rows o (Ok (Next p)) = Listed rows o p.state 0
ListedAfter rows o (Ok (Again p)) = Listed rows o p.state 0
ListedAfter rows o (Ok (Done p)) = Listed rows o p.state 0
ListedAfter rows o (Err f) = Unit {0}

pub record Kept (n : ℕ) (b u rows : List ℕ) (f w o : List Float) (b' u' rows' : List ℕ) (f' w' o' : List Float) (a : Answer) : Type 0 where
  pub cells : CellsKept n b b'
  pub words_long : length u' ≡ length u
  pub singles-long : length f' ≡ length f
  pub walls : WallsKept n w w'
  pub rows_long : length rows' ≡ length rows
  pub out-long : length o' ≡ length o
  pub listed : ListedAfter rows' o' a
