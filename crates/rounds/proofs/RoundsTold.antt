-- Demand 3 over a round's pieces, whichever is next: what holds before them holds after them. Assumes nothing.
use Rattle.passes.specs.Start.{Place}
use mathlib.Core.Path.{◌≡◌, refl, sym, ap, ◌∙◌, subst}
use mathlib.Core.Bool.{Bool}
use mathlib.Core.List.{List, [], ◌++◌, append_assoc, append-nil}
use Prim.Native.Nat.{ℕ}
use lib.ListN.{length, get_or}
use lib.Ieee.{Float}
use Rattle.loops.specs.Loop.{Run, on, out, turn}
use Rattle.loops.proofs.LoopLaws.{loop_keeps}
use Rattle.raster.specs.Grid.{Sides}
use Rattle.setup.specs.Made.{Measured}
use Rattle.setup.specs.declared.Setup.{Setup}
use Rattle.pieces.specs.Piece.{Piece}
use Rattle.events.specs.Chunk.{Entry, Job}
use Rattle.events.specs.Events.{Event, State, after, Fit}
use Rattle.events.specs.Told.{events_of, Demand3}
use Rattle.events.proofs.Demand.{demand3}
use Rattle.passes.specs.Tried.{job_at}
use Rattle.cutting.specs.Piece.{Left, WithEvents, cut_piece_of}
use Rattle.cutting.specs.declared.piece.State.{State as Plan}
use Rattle.std.specs.Prelude.{Result, Ok, Err}
use Rattle.cutting.specs.declared.listing.Full.{Full}
use Rattle.cutting.specs.declared.piece.Cut.{Cut}
use Rattle.cutting.specs.declared.piece.Cut.TheVariants.{Nothing, Kept}
use Rattle.cutting.proofs.CutTold.{Planned, Agrees, Answers, CutTold, cut-told}
use Rattle.rounds.specs.Next.{no_piece, swap_remove}
use Rattle.rounds.specs.Round.{Cuts, after_cut, cl, CutsWithEvents, cuts_with, Between, bt, answer_after, go_on, ended_of, cut_next_of, step_of, cut_all_of, nearest_first, cut_pieces_of, in_order, all_stay, cut_ring_of}

-- ---- the claim

-- a refusal ends the plan
abbrev pub AnswersAll : State → Cuts → Type 0
AnswersAll e (Ok (t, any)) = Agrees e t
AnswersAll e (Err f) = Unit {0}

-- q came of the map m, the log's slice l, rows and triples after the events es
pub record RoundTold (j : Job) (es : List Event) (m gone l rows : List ℕ) (o : List Float) (q : CutsWithEvents) : Type 0 where
  pub planned : Planned j (es ++ q.events) q.left.map gone q.left.log q.left.rows q.left.out
  pub claim : Demand3 j (es ++ q.events)
  -- no place of a helix is given up by it
  pub places : events_of 5 (es ++ q.events) ≡ events_of 5 es
  pub answers : AnswersAll (after j (es ++ q.events)) q.left.answer
  pub map-long : length q.left.map ≡ length m
  pub log-long : length q.left.log ≡ length l
  pub rows_long : length q.left.rows ≡ length rows
  pub out-long : length q.left.out ≡ length o

-- ---- one piece more

answers_all : (e : State) (any : Bool) (a : Result Cut Full) → Answers e a → AnswersAll e (answer_after any a)
unfolding answer_after after_cut
answers_all e any (Ok (Nothing t)) h = h
answers_all e any (Ok (Kept t)) h = h
answers_all e any (Err f) h = tt

-- what is left after the piece c behind the events es, however it goes on
ended_goes : (l : List Piece) (es : List Event) (c : CutsWithEvents) (x : Cuts) → c.left.answer ≡ x → cuts_with c.left (es ++ c.events) ≡ ended_of (go_on l es c x)
unfolding go_on ended_of
ended_goes l es c (Ok (t, any)) e = ap (λ (x : Cuts). cuts_with (cl c.left.map c.left.dirty c.left.log c.left.rows c.left.out x) (es ++ c.events)) e
ended_goes l es c (Err f) e = refl

module _ (s : Setup) (wall vs : List Float) (lens start : List ℕ) (limit : Float) (entry : Entry) (S : Sides s.grid) (M : Measured s) where
  abbrev job : Job
  job = job_at s wall vs lens start limit entry

  module _ (F : Fit job) (es : List Event) (m gone l rows : List ℕ) (o : List Float) where
    abbrev Told : CutsWithEvents → Type 0
    Told q = RoundTold job es m gone l rows o q

    -- a piece's claim behind the events of the pieces before it
    told_more : (allowed : List ℕ) (q : Between) → Told (ended_of (on q)) → (p : Piece)
        → let c = cut_next_of s wall vs lens allowed p q.state q.any q.map q.dirty q.rows q.log q.out in Told (cuts_with c.left (q.events ++ c.events))
    unfolding ended_of cut_next_of
    told_more allowed q h p =
        let c : WithEvents = cut_piece_of s wall vs lens allowed p.points p.closed q.state q.map q.dirty q.rows q.log q.out in
        let x : CutTold job (es ++ q.events) q.map gone q.log q.rows q.out c =
        cut-told s wall vs lens start limit entry S M F (es ++ q.events) q.map gone q.log q.rows q.out h.planned q.state h.answers allowed p.points p.closed q.dirty in
        let a : es ++ q.events ++ c.events ≡ es ++ (q.events ++ c.events) = append_assoc es q.events c.events in
        let k : Left = c.left in
        record {
          planned = subst (λ (z : List Event). Planned job z k.map gone k.log k.rows k.out) a x.planned;
          claim = subst (Demand3 job) a x.claim;
          places = ap (events_of 5) (sym a) ∙ x.places ∙ h.places;
          answers = answers_all _ q.any k.answer (subst (λ (z : List Event). Answers (after job z) k.answer) a x.answers);
          map-long = x.map-long ∙ h.map-long;
          log-long = x.log-long ∙ h.log-long;
          rows_long = x.rows_long ∙ h.rows_long;
          out-long = x.out-long ∙ h.out-long;
        }

    -- ---- the fold

    module _ (P : Planned job es m gone l rows o) (t : Plan) (A : Agrees (after job es) t) (allowed : List ℕ) (which : ℕ → List Piece → Place → ℕ) (rest : ℕ → List Piece → List Piece) where
      step-told : (i : ℕ) (r : Run Between CutsWithEvents) → Told (ended_of r) → Told (ended_of (turn (step_of s wall vs lens allowed which rest) i r))
      unfolding turn step_of
      step-told i (on q) h =
          let p : Piece = get_or q.pieces (which i q.pieces q.state.pos) no_piece in
          subst Told (ended_goes (rest (which i q.pieces q.state.pos) q.pieces) q.events _ _ refl) (told_more allowed q h p)
      step-told i (out c) h = h

      -- no piece yet
      none_told : (ps : List Piece) (any : Bool) (d : List ℕ) → Told (ended_of (on (bt ps t any m d l rows o [])))
      unfolding ended_of
      none_told ps any d =
          let a : es ≡ es ++ [] = sym (append-nil es) in
          record {
            planned = subst (λ (z : List Event). Planned job z m gone l rows o) a P;
            claim = subst (Demand3 job) a (demand3 job F es P.legal);
            places = ap (events_of 5) (sym a);
            answers = subst (λ (z : List Event). Agrees (after job z) t) a A;
            map-long = refl;
            log-long = refl;
            rows_long = refl;
            out-long = refl;
          }

      pub all_told : (ps : List Piece) (d : List ℕ) → Told (cut_all_of s wall vs lens allowed which rest ps t m d rows l o)
      unfolding cut_all_of
      all_told ps d =
          loop_keeps (turn (step_of s wall vs lens allowed which rest)) 0 (λ (r : Run Between CutsWithEvents). Told (ended_of r)) (length ps) (λ i r a b h. step-told i r h) _ (none_told ps _ d)

    -- ---- both orders

    module _ (P : Planned job es m gone l rows o) (t : Plan) (A : Agrees (after job es) t) (allowed : List ℕ) (ps : List Piece) (d : List ℕ) where
      pub pieces-told : Told (cut_pieces_of s wall vs lens allowed ps t m d rows l o)
      unfolding cut_pieces_of
      pieces-told = all_told P t A allowed nearest_first swap_remove ps d

      pub ring_told : Told (cut_ring_of s wall vs lens allowed ps t m d rows l o)
      unfolding cut_ring_of
      ring_told = all_told P t A allowed in_order all_stay ps d
