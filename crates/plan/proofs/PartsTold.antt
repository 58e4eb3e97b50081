-- Demand 3 over the parts of a round: behind the plan so far the events of each are legal and told by their rows, and what is held agrees. Assumes nothing.
use mathlib.Core.Path.{◌≡◌, refl, sym, ap, ◌∙◌, subst}
use mathlib.Core.Bool.{true, false}
use mathlib.Core.List.{List, ◌++◌, append_assoc, append-nil}
use Prim.Native.Nat.{ℕ, ◌+◌}
use lib.ListN.{length, replicate}
use lib.Ieee.{Float}
use Rattle.loops.proofs.Cases.{by_test}
use Rattle.raster.specs.Grid.{Sides}
use Rattle.setup.specs.Made.{Measured}
use Rattle.setup.specs.Place.{cells_of}
use Rattle.setup.specs.declared.Setup.{Setup}
use Rattle.events.specs.Chunk.{Entry, Job}
use Rattle.events.specs.Events.{Event, State, after, Fit}
use Rattle.events.specs.Told.{events_of}
use Rattle.cutting.specs.Piece.{spending}
use Rattle.cutting.specs.declared.piece.State.{State as Plan}
use Rattle.cutting.proofs.CutTold.{Planned, Agrees}
use Rattle.tracing.specs.Round.{curves_of, work_of}
use Rattle.tracing.specs.Ring.{ring_of}
use Rattle.std.specs.Prelude.{Some, None}
use Rattle.std.specs.Prelude.{Ok, Err}
use Rattle.rounds.specs.Round.{Cuts}
use Rattle.rounds.proofs.RoundsTold.{AnswersAll, RoundTold, pieces-told, ring_told}
use Rattle.helix.specs.Search.{entry_of}
use Rattle.helix.specs.Enter.{Entered}
use Rattle.helix.proofs.HelixTold.{Answers, HelixTold, helix-told}
use Rattle.plan.specs.Parts.{Ground, Slices, Answer, WithEvents, pieces_step, after_pieces, ring_step, after_ring, helix_step, after_helix, field_now, pieces_cut, pieces_part, ring_cut, ring_part, helix_entered, helix_part, onward, rest_of, round_of}
use Rattle.plan.specs.Job.{job_in}
use Rattle.plan.specs.declared.parts.Progress.{Progress}
use Rattle.plan.specs.declared.parts.Step.TheVariants.{Next, Again, Done}

-- ---- the claim

-- the events so far are a plan so far in the slices h
abbrev pub PlannedIn : Job → List Event → Slices → Type 0
PlannedIn j es h = Planned j es h.map h.gone h.log h.rows h.out

-- between parts: they lead to what h holds, and to what p says
pub record PlanTold (j : Job) (es : List Event) (h : Slices) (p : Progress) : Type 0 where
  pub planned : PlannedIn j es h
  pub agrees : Agrees (after j es) p.state
  -- the places of a helix that were given up
  pub given : events_of 5 es ≡ p.given

-- a refusal ends the plan: what is listed is told till then
abbrev pub StepTold : Job → List Event → Slices → Answer → Type 0
StepTold j es h (Ok (Next p)) = PlanTold j es h p
StepTold j es h (Ok (Again p)) = PlanTold j es h p
StepTold j es h (Ok (Done p)) = PlanTold j es h p
StepTold j es h (Err e) = PlannedIn j es h

-- the slices k are as long as h
pub record AsLong (h k : Slices) : Type 0 where
  pub map-long : length k.map ≡ length h.map
  pub gone_long : length k.gone ≡ length h.gone
  pub log-long : length k.log ≡ length h.log
  pub rows_long : length k.rows ≡ length h.rows
  pub out-long : length k.out ≡ length h.out

-- q came of the slices h after the events es
pub record PartTold (j : Job) (es : List Event) (h : Slices) (q : WithEvents) : Type 0 where
  pub told : StepTold j (es ++ q.events) q.left.slices q.left.answer
  pub long : AsLong h q.left.slices

pub as_long_same : (h : Slices) → AsLong h h
as_long_same h = record { map-long = refl; gone_long = refl; log-long = refl; rows_long = refl; out-long = refl }

pub as_long_then : (h k l : Slices) → AsLong h k → AsLong k l → AsLong h l
as_long_then h k l a b = record {
  map-long = b.map-long ∙ a.map-long;
  gone_long = b.gone_long ∙ a.gone_long;
  log-long = b.log-long ∙ a.log-long;
  rows_long = b.rows_long ∙ a.rows_long;
  out-long = b.out-long ∙ a.out-long;
}

-- ---- the answers

module _ (j : Job) (es : List Event) (h : Slices) (P : PlannedIn j es h) (p : Progress) where
  after-pieces-told : events_of 5 es ≡ p.given → (a : Cuts) → AnswersAll (after j es) a → StepTold j es h (after_pieces p a)
  unfolding after_pieces pieces_step
  after-pieces-told n (Ok (t, true)) x = record { planned = P; agrees = x; given = n }
  after-pieces-told n (Ok (t, false)) x = record { planned = P; agrees = x; given = n }
  after-pieces-told n (Err f) x = P

  after_ring-told : events_of 5 es ≡ p.given → (a : Cuts) → AnswersAll (after j es) a → StepTold j es h (after_ring p a)
  unfolding after_ring ring_step
  after_ring-told n (Ok (t, true)) x = record { planned = P; agrees = x; given = n }
  after_ring-told n (Ok (t, false)) x = record { planned = P; agrees = x; given = n }
  after_ring-told n (Err f) x = P

  -- those given up on the way to an entry are counted
  after-helix-told : (before : ℕ) → before ≡ p.given → (a : Entered) → Answers (after j es) p.state before (events_of 5 es) a → StepTold j es h (after_helix p a)
  unfolding after_helix helix_step
  after-helix-told before n (Ok (Some t, k)) x = record { planned = P; agrees = x.0; given = x.1 ∙ ap (λ (i : ℕ). i + k) n }
  after-helix-told before n (Ok (None, k)) x = record { planned = P; agrees = x.0; given = x.1 ∙ ap (λ (i : ℕ). i + k) n }
  after-helix-told before n (Err f) x = P

-- ---- one part after another

-- what every part that keeps the claim does behind one that kept it
module _ (j : Job) (part : Progress → Slices → WithEvents) (keeps : (es : List Event) (h : Slices) (p : Progress) → PlanTold j es h p → PartTold j es h (part p h)) where
  onward-told : (es : List Event) (h : Slices) (fs : List Event) (k : Slices) (a : Answer) → StepTold j (es ++ fs) k a → AsLong h k → PartTold j es h (onward part k a fs)
  unfolding onward
  onward-told es h fs k (Ok (Next p)) x l =
      let q : WithEvents = part p k in
      let y : PartTold j (es ++ fs) k q = keeps (es ++ fs) k p x in
      record {
        told = subst (λ (z : List Event). StepTold j z q.left.slices q.left.answer) (append_assoc es fs q.events) y.told;
        long = as_long_then h k q.left.slices l y.long;
      }
  onward-told es h fs k (Ok (Again p)) x l = record { told = x; long = l }
  onward-told es h fs k (Ok (Done p)) x l = record { told = x; long = l }
  onward-told es h fs k (Err e) x l = record { told = x; long = l }

-- ---- the parts

-- work is no part of it
agrees_spending : (e : State) (t : Plan) (w : ℕ) → Agrees e t → Agrees e (spending w t)
agrees_spending e t w a = record { position = a.position; rows = a.rows; triples = a.triples }

module _ (g : Ground) (start : List ℕ) (limit : Float) (S : Sides g.setup.grid) (M : Measured g.setup) (F : Fit (job_in g start limit)) where
  abbrev job : Job
  job = job_in g start limit

  abbrev s : Setup
  s = g.setup

  abbrev entry : Entry
  entry = entry_of s g.wall g.allowed g.reach g.pref

  pub pieces_part-told : (es : List Event) (h : Slices) (p : Progress) → PlanTold job es h p → PartTold job es h (pieces_part g p h)
  unfolding pieces_part
  pieces_part-told es h p x =
      let c = pieces_cut g p h in
      let w : ℕ = work_of s (field_now g p h).sampled in
      let y : RoundTold job es h.map h.gone h.log h.rows h.out c =
      pieces-told s g.wall g.vs g.lens start limit entry S M F es h.map h.gone h.log h.rows h.out x.planned
      (spending w p.state) (agrees_spending (after job es) p.state w x.agrees) g.allowed (curves_of s (field_now g p h).field) (replicate (cells_of s) 0) in
      record {
        told = after-pieces-told job (es ++ c.events) _ y.planned p (y.places ∙ x.given) c.left.answer y.answers;
        long = record { map-long = y.map-long; gone_long = refl; log-long = y.log-long; rows_long = y.rows_long; out-long = y.out-long };
      }

  pub ring_part-told : (es : List Event) (h : Slices) (p : Progress) → PlanTold job es h p → PartTold job es h (ring_part g p h)
  unfolding ring_part
  ring_part-told es h p x =
      let c = ring_cut g p h in
      by_test (PartTold job es h) p.cleanup _ _
      (λ z. record { told = subst (λ (fs : List Event). PlanTold job fs h p) (sym (append-nil es)) x; long = as_long_same h })
      (λ z. let y : RoundTold job es h.map h.gone h.log h.rows h.out c =
      ring_told s g.wall g.vs g.lens start limit entry S M F es h.map h.gone h.log h.rows h.out x.planned
      p.state x.agrees g.allowed (ring_of s g.wall g.vs g.lens g.allowed) h.dirty in
      record {
        told = after_ring-told job (es ++ c.events) _ y.planned p (y.places ∙ x.given) c.left.answer y.answers;
        long = record { map-long = y.map-long; gone_long = refl; log-long = y.log-long; rows_long = y.rows_long; out-long = y.out-long };
      })

  pub helix_part-told : (es : List Event) (h : Slices) (p : Progress) → PlanTold job es h p → PartTold job es h (helix_part g p h)
  unfolding helix_part
  helix_part-told es h p x =
      let c = helix_entered g p h in
      let y : HelixTold job es h.map h.gone h.log h.rows h.out p.state c =
      helix-told s g.wall g.vs g.lens start g.allowed g.reach limit g.pref F es h.map h.gone h.log h.rows h.out x.planned p.state x.agrees in
      record {
        told = after-helix-told job (es ++ c.events) _ y.planned p (events_of 5 es) x.given c.left.answer y.answers;
        long = record { map-long = y.map-long; gone_long = y.gone_long; log-long = refl; rows_long = y.rows_long; out-long = y.out-long };
      }

  -- ---- a round

  pub rest-told : (es : List Event) (h : Slices) (p : Progress) → PlanTold job es h p → PartTold job es h (rest_of g p h)
  unfolding rest_of
  rest-told es h p x =
      let q : WithEvents = ring_part g p h in
      let y : PartTold job es h q = ring_part-told es h p x in
      onward-told job (helix_part g) helix_part-told es h q.events q.left.slices q.left.answer y.told y.long

  pub round-told : (es : List Event) (h : Slices) (p : Progress) → PlanTold job es h p → PartTold job es h (round_of g p h)
  unfolding round_of
  round-told es h p x =
      let q : WithEvents = pieces_part g p h in
      let y : PartTold job es h q = pieces_part-told es h p x in
      onward-told job (rest_of g) rest-told es h q.events q.left.slices q.left.answer y.told y.long
