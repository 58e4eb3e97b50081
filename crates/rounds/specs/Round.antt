-- The pieces of a round cut one after another, as `plan` of adaptive.rs has it: the nearest to the tool first, and along the ring in order. A refusal ends it.
-- Definitions only.
use Rattle.std.specs.Prelude.{ℕ, ◌*◌, ◌≤◌, ◌≡◌, Bool, true, false, List, [], ◌++◌, length, get_or, Result, Ok, Err, Float}
use Rattle.passes.specs.Start.{Place}
use Rattle.loops.specs.Loop.{loop, Run, on, out, turn}
use Rattle.setup.specs.Layout.{map_in, dirty_in}
use Rattle.setup.specs.declared.Setup.{Setup}
use Rattle.pieces.specs.Piece.{Piece, end_of}
use Rattle.pieces.specs.declared.row.Row.{Row}
use Rattle.events.specs.Events.{Event}
use Rattle.cutting.specs.Piece.{cut_piece_of, Listed}
use Rattle.cutting.specs.declared.piece.State.{State}
use Rattle.cutting.specs.declared.piece.Cut.{Cut}
use Rattle.cutting.specs.declared.piece.Cut.TheVariants.{Nothing, Kept}
use Rattle.cutting.specs.declared.listing.Full.{Full}
use Rattle.rounds.specs.Next.{here_of, no_piece, next_of, swap_remove}

-- the state after the pieces, and whether a pass was kept; or what is full
abbrev pub Cuts : Type 0
Cuts = Result (State × Bool) Full

-- what is left of map, dirty cells, log, rows and triples, and the answer
pub record CutsLeft : Type 0 where
  pub map : List ℕ
  pub dirty : List ℕ
  pub log : List ℕ
  pub rows : List ℕ
  pub out : List Float
  pub answer : Cuts

abbrev pub cl : List ℕ → List ℕ → List ℕ → List ℕ → List Float → Cuts → CutsLeft
cl m d l r o a = record { map = m; dirty = d; log = l; rows = r; out = o; answer = a }

-- of n cells, map and dirty cells in the bytes b
abbrev pub cuts_in : ℕ → List ℕ → List ℕ → List ℕ → List Float → Cuts → CutsLeft
cuts_in n b l r o a = cl (map_in n b) (dirty_in n b) l r o a

-- the same with the events that led there
pub record CutsWithEvents : Type 0 where
  pub left : CutsLeft
  pub events : List Event

abbrev pub cuts_with : CutsLeft → List Event → CutsWithEvents
cuts_with l es = record { left = l; events = es }

-- between two pieces: those to come, and what the ones before them left; `any` says whether a pass was kept
pub record Between : Type 0 where
  pub pieces : List Piece
  pub state : State
  pub any : Bool
  pub map : List ℕ
  pub dirty : List ℕ
  pub log : List ℕ
  pub rows : List ℕ
  pub out : List Float
  pub events : List Event

abbrev pub bt : List Piece → State → Bool → List ℕ → List ℕ → List ℕ → List ℕ → List Float → List Event → Between
bt p t any m d l r o es = record { pieces = p; state = t; any = any; map = m; dirty = d; log = l; rows = r; out = o; events = es }

-- ---- one piece

-- if self.cut_piece(&piece) { any = true }
unfoldable pub after_cut : Bool → Cut → State × Bool
after_cut any (Nothing t) = (t, any)
after_cut any (Kept t) = (t, true)

unfoldable pub answer_after : Bool → Result Cut Full → Cuts
answer_after any (Ok c) = Ok (after_cut any c)
answer_after any (Err f) = Err f

-- the pieces l are to come, unless it was refused
unfoldable pub go_on : List Piece → List Event → CutsWithEvents → Cuts → Run Between CutsWithEvents
go_on l es c (Ok (t, any)) = let k = c.left in on (bt l t any k.map k.dirty k.log k.rows k.out (es ++ c.events))
go_on l es c (Err f) = out (cuts_with c.left (es ++ c.events))

unfoldable pub ended_of : Run Between CutsWithEvents → CutsWithEvents
ended_of (on q) = cuts_with (cl q.map q.dirty q.log q.rows q.out (Ok (q.state, q.any))) q.events
ended_of (out c) = c

module _ (s : Setup) (wall vs : List Float) (lens allowed : List ℕ) where
  unfoldable pub cut_next_of : Piece → State → Bool → List ℕ → List ℕ → List ℕ → List ℕ → List Float → CutsWithEvents
  cut_next_of p t any m d rows log o =
      let c = cut_piece_of s wall vs lens allowed p.points p.closed t m d rows log o in
      let l = c.left in
      cuts_with (cl l.map l.dirty l.log l.rows l.out (answer_after any l.answer)) c.events

  -- ---- all of them: `which` is the next one's number in the list, and `rest` what is left of the list without it

  module _ (which : ℕ → List Piece → Place → ℕ) (rest : ℕ → List Piece → List Piece) where
    unfoldable pub step_of : ℕ → Between → Run Between CutsWithEvents
    step_of i q =
        let k = which i q.pieces q.state.pos in
        let c = cut_next_of (get_or q.pieces k no_piece) q.state q.any q.map q.dirty q.rows q.log q.out in
        go_on (rest k q.pieces) q.events c c.left.answer

    unfoldable pub cut_all_of : List Piece → State → List ℕ → List ℕ → List ℕ → List ℕ → List Float → CutsWithEvents
    cut_all_of l t m d rows log o = ended_of (loop (turn step_of) 0 (length l) (on (bt l t false m d log rows o [])))

-- the nearest to the tool
abbrev pub nearest_first : ℕ → List Piece → Place → ℕ
nearest_first i l pos = next_of l (here_of pos)

-- while !pieces.is_empty(): each turn takes one out
unfoldable pub cut_pieces_of : Setup → List Float → List Float → List ℕ → List ℕ → List Piece → State → List ℕ → List ℕ → List ℕ → List ℕ → List Float → CutsWithEvents
cut_pieces_of s wall vs lens allowed pieces t m d rows log o = cut_all_of s wall vs lens allowed nearest_first swap_remove pieces t m d rows log o

-- one after another
abbrev pub in_order : ℕ → List Piece → Place → ℕ
in_order i l pos = i

abbrev pub all_stay : ℕ → List Piece → List Piece
all_stay k l = l

-- for p in &pieces
unfoldable pub cut_ring_of : Setup → List Float → List Float → List ℕ → List ℕ → List Piece → State → List ℕ → List ℕ → List ℕ → List ℕ → List Float → CutsWithEvents
cut_ring_of s wall vs lens allowed pieces t m d rows log o = cut_all_of s wall vs lens allowed in_order all_stay pieces t m d rows log o

-- ---- what callers keep

-- a row of a piece of a point or more, among the traced points of n cells
pub record Traced (n : ℕ) (r : Row) : Type 0 where
  pub some : 1 ≤ r.points
  pub inside : end_of r ≤ 2 * n

-- ---- what callers find again

-- a refusal ends the plan
abbrev pub ListedAfter : List ℕ → List Float → Cuts → Type 0
ListedAfter rows o (Ok (t, any)) = Listed rows o t 0
ListedAfter rows o (Err f) = Unit {0}

-- rows and triples are as long as before, and what is listed lies in them
pub record Lists (rows rows' : List ℕ) (o o' : List Float) (r : Cuts) : Type 0 where
  pub rows_long : length rows' ≡ length rows
  pub out-long : length o' ≡ length o
  pub listed : ListedAfter rows' o' r
