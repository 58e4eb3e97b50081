-- The rounds of `plan` of adaptive.rs: at most 10,000, and none begins with work above 2,000,000,000. Definitions only.
use Rattle.std.specs.Prelude.{ℕ, ◌≡◌, Bool, true, false, cond, List, [], ◌++◌, ltb, length, Result, Ok, Err, Float, None}
use Rattle.loops.specs.Loop.{loop, Run, on, out, turn}
use Rattle.geom.specs.Vec.{f0}
use Rattle.events.specs.Events.{Event}
use Rattle.cutting.specs.Piece.{sta, Listed}
use Rattle.cutting.specs.declared.listing.Full.{Full}
use Rattle.workspace.specs.Standing.{CellsKept, WallsKept}
use Rattle.plan.specs.Parts.{Ground, Slices, Answer, progress, round_of}
use Rattle.plan.specs.declared.parts.Progress.{Progress}
use Rattle.plan.specs.declared.parts.Step.TheVariants.{Next, Again, Done}

abbrev pub most_rounds : ℕ
most_rounds = 10000

abbrev pub most_work : ℕ
most_work = 2000000000

-- between two rounds
pub record Turn : Type 0 where
  pub progress : Progress
  pub slices : Slices
  pub events : List Event

abbrev pub tn : Progress → Slices → List Event → Turn
tn p h es = record { progress = p; slices = h; events = es }

-- what a plan came to, and whether its budget was spent; or what is full
abbrev pub Ended : Type 0
Ended = Result (Progress × Bool) Full

-- at the end
pub record EndLeft : Type 0 where
  pub slices : Slices
  pub answer : Ended

pub record End : Type 0 where
  pub left : EndLeft
  pub events : List Event

abbrev pub el : Slices → Ended → EndLeft
el h a = record { slices = h; answer = a }

abbrev pub ended : Slices → Ended → List Event → End
ended h a es = record { left = el h a; events = es }

-- a round ends with a pass or an entry, and another begins; or the plan ends. The first case is not met (`round-over`): a round's last part is the helix
unfoldable pub after_round : Slices → Answer → List Event → Run Turn End
after_round h (Ok (Next p)) es = out (ended h (Ok (p, false)) es)
after_round h (Ok (Again p)) es = on (tn p h es)
after_round h (Ok (Done p)) es = out (ended h (Ok (p, false)) es)
after_round h (Err f) es = out (ended h (Err f) es)

unfoldable pub turn_of : Ground → ℕ → Turn → Run Turn End
turn_of g k q =
    let p = q.progress in
    let r = round_of g p q.slices in
    cond (ltb most_work p.state.work) (out (ended q.slices (Ok (p, true)) q.events)) (after_round r.left.slices r.left.answer (q.events ++ r.events))

-- rounds used up do not set the budget's flag
unfoldable pub end_of : Run Turn End → End
end_of (on q) = ended q.slices (Ok (q.progress, false)) q.events
end_of (out e) = e

-- the tool is nowhere, nothing is listed
unfoldable pub first_progress : Progress
first_progress = progress (sta None 0 0 f0 0) true 0 false

unfoldable pub rounds_from : Ground → Progress → Slices → End
rounds_from g p h = end_of (loop (turn (turn_of g)) 0 most_rounds (on (tn p h [])))

unfoldable pub plan_of : Ground → Slices → End
plan_of g h = rounds_from g first_progress h

-- ---- in the workspace

abbrev pub ListedEnd : List ℕ → List Float → Ended → Type 0
ListedEnd rows o (Ok (p, spent)) = Listed rows o p.state 0
ListedEnd rows o (Err f) = Unit {0}

-- what callers find again
pub record EndKept (n : ℕ) (b u rows : List ℕ) (f w o : List Float) (b' u' rows' : List ℕ) (f' w' o' : List Float) (a : Ended) : Type 0 where
  pub cells : CellsKept n b b'
  pub words_long : length u' ≡ length u
  pub singles-long : length f' ≡ length f
  pub walls : WallsKept n w w'
  pub rows_long : length rows' ≡ length rows
  pub out-long : length o' ≡ length o
  pub listed : ListedEnd rows' o' a
