-- Demand 3 over a plan: from the starting stock to its end the events are legal and told by their rows, and what is handed back agrees. Assumes nothing.
use mathlib.Core.Path.{◌≡◌, refl, sym, subst}
use mathlib.Core.Bool.{Bool}
use mathlib.Core.List.{List, [], ◌++◌}
use mathlib.Core.Option.{none}
use Prim.Native.Nat.{ℕ}
use lib.ListN.{length}
use lib.Dec.{ltb}
use lib.Ieee.{Float}
use Rattle.loops.specs.Loop.{Run, on, out, turn}
use Rattle.loops.proofs.Cases.{by_test}
use Rattle.loops.proofs.LoopLaws.{loop_keeps}
use Rattle.raster.specs.Grid.{Sides}
use Rattle.setup.specs.Made.{Measured}
use Rattle.events.specs.Chunk.{Job}
use Rattle.events.specs.Followed.{Followed}
use Rattle.events.specs.Lent.{all_triples}
use Rattle.events.specs.Events.{Event, zeros, begin, steps, after, Fit}
use Rattle.events.specs.Told.{how_many, events_of, Demand3, Report, Counted, Finished as FinishedPlan}
use Rattle.events.proofs.Demand.{demand3}
use Rattle.cutting.proofs.WayLegal.{position_of}
use Rattle.cutting.proofs.CutTold.{Planned, planned_begin, planned_finished}
use Rattle.plan.specs.Parts.{Ground, Slices, Answer, WithEvents, round_of}
use Rattle.plan.specs.Rounds.{Ended, Turn, tn, End, most_work, most_rounds, after_round, turn_of, end_of, first_progress, rounds_from, plan_of}
use Rattle.plan.specs.Job.{job_in}
use Rattle.plan.specs.declared.parts.Progress.{Progress}
use Rattle.plan.specs.declared.parts.Step.TheVariants.{Next, Again, Done}
use Rattle.std.specs.Prelude.{Ok, Err}
use Rattle.plan.proofs.PartsTold.{PlannedIn, PlanTold, StepTold, AsLong, PartTold, as_long_same, as_long_then, round-told}

-- ---- the claim

abbrev pub EndedTold : Job → List Event → Slices → Ended → Type 0
EndedTold j es h (Ok (p, spent)) = PlanTold j es h p
EndedTold j es h (Err f) = PlannedIn j es h

-- e came of the slices h
pub record EndTold (j : Job) (h : Slices) (e : End) : Type 0 where
  pub told : EndedTold j e.events e.left.slices e.left.answer
  pub long : AsLong h e.left.slices

-- ---- round after round

-- however it goes on
after-round-told : (j : Job) (h k : Slices) (a : Answer) (es : List Event) → StepTold j es k a → AsLong h k → EndTold j h (end_of (after_round k a es))
unfolding after_round end_of
after-round-told j h k (Ok (Next p)) es x l = record { told = x; long = l }
after-round-told j h k (Ok (Again p)) es x l = record { told = x; long = l }
after-round-told j h k (Ok (Done p)) es x l = record { told = x; long = l }
after-round-told j h k (Err f) es x l = record { told = x; long = l }

module _ (g : Ground) (start : List ℕ) (limit : Float) (S : Sides g.setup.grid) (M : Measured g.setup) (F : Fit (job_in g start limit)) where
  abbrev job : Job
  job = job_in g start limit

  module _ (h : Slices) where
    abbrev Told : Run Turn End → Type 0
    Told r = EndTold job h (end_of r)

    turn-told : (i : ℕ) (r : Run Turn End) → Told r → Told (turn (turn_of g) i r)
    unfolding turn turn_of end_of
    turn-told i (on q) x =
        let r : WithEvents = round_of g q.progress q.slices in
        let y : PartTold job q.events q.slices r = round-told g start limit S M F q.events q.slices q.progress x.told in
        by_test Told (ltb most_work q.progress.state.work) _ _
        (λ z. record { told = x.told; long = x.long })
        (λ z. after-round-told job h r.left.slices r.left.answer (q.events ++ r.events) y.told (as_long_then h q.slices r.left.slices x.long y.long))
    turn-told i (out e) x = x

    first-turn : (p : Progress) → PlanTold job [] h p → Told (on (tn p h []))
    unfolding end_of
    first-turn p x = record { told = x; long = as_long_same h }

    pub rounds_told : (p : Progress) → PlanTold job [] h p → EndTold job h (rounds_from g p h)
    unfolding rounds_from
    rounds_told p x = loop_keeps (turn (turn_of g)) 0 Told most_rounds (λ i r a b y. turn-told i r y) (on (tn p h [])) (first-turn p x)

    -- ---- the theorem

    -- a plan begins with the starting stock, no cell given up and an empty log
    module _ (standing : h.map ≡ start) (none-gone : h.gone ≡ zeros job) (empty : h.log ≡ zeros job) where
      planned_first : PlannedIn job [] h
      planned_first =
          subst (λ (m : List ℕ). Planned job [] m h.gone h.log h.rows h.out) (sym standing)
          (subst (λ (n : List ℕ). Planned job [] start n h.log h.rows h.out) (sym none-gone)
          (subst (λ (l : List ℕ). Planned job [] start (zeros job) l h.rows h.out) (sym empty) (planned_begin job h.rows h.out)))

      first-told : PlanTold job [] h first_progress
      unfolding first_progress after steps begin all_triples how_many
      first-told = record {
        planned = planned_first;
        agrees = record { position = refl; rows = refl; triples = refl };
        given = refl;
      }

      pub plan_told : EndTold job h (plan_of g h)
      unfolding plan_of
      plan_told = rounds_told first_progress first-told

-- ---- for callers

-- the events es of a plan that ends with p, and with the slices h
pub record PlanMade (j : Job) (es : List Event) (h : Slices) (p : Progress) : Type 0 where
  pub planned : PlannedIn j es h
  pub claim : Demand3 j es
  pub settled : (after j es).trial ≡ none
  pub position : (after j es).position ≡ position_of p.state.pos
  pub rows : length (after j es).rows ≡ p.state.rows
  pub triples : length (all_triples (after j es).rows) ≡ p.state.triples
  pub given : events_of 5 es ≡ p.given
  -- the list never ends in a link or a plunge
  pub followed : Followed (after j es).rows

module _ (j : Job) (F : Fit j) (es : List Event) (h : Slices) where
  ended-claim : (a : Ended) → EndedTold j es h a → Demand3 j es
  ended-claim (Ok (p, spent)) x = demand3 j F es x.planned.legal
  ended-claim (Err f) x = demand3 j F es x.legal

  plan_made : (p : Progress) → PlanTold j es h p → PlanMade j es h p
  plan_made p x = record {
    planned = x.planned;
    claim = demand3 j F es x.planned.legal;
    settled = x.planned.idle.trial;
    position = x.agrees.position;
    rows = x.agrees.rows;
    triples = x.agrees.triples;
    given = x.given;
    followed = x.planned.followed;
  }

  -- with a report that counts its events it is finished
  pub made_finished : (p : Progress) → PlanMade j es h p → (r : Report) → Counted j es h.map r → FinishedPlan j es r h.map p.state.rows h.rows h.out
  made_finished p x r c =
      subst (λ (n : ℕ). FinishedPlan j es r h.map n h.rows h.out) x.rows (planned_finished j F es h.map h.gone h.log h.rows h.out x.planned r c)

module _ (g : Ground) (start : List ℕ) (limit : Float) (S : Sides g.setup.grid) (M : Measured g.setup) (F : Fit (job_in g start limit))
    (h : Slices) (standing : h.map ≡ start) (none-gone : h.gone ≡ zeros (job_in g start limit)) (empty : h.log ≡ zeros (job_in g start limit)) where
  abbrev the_job : Job
  the_job = job_in g start limit

  abbrev end : End
  end = plan_of g h

  ends : EndTold the_job h end
  ends = plan_told g start limit S M F h standing none-gone empty

  pub plan_finished : (p : Progress) (spent : Bool) → end.left.answer ≡ Ok (p, spent) → PlanMade the_job end.events end.left.slices p
  plan_finished p spent e = plan_made the_job F end.events end.left.slices p (subst (EndedTold the_job end.events end.left.slices) e ends.told)

  -- however it ends, by a refusal too
  pub plan_claim : Demand3 the_job end.events
  plan_claim = ended-claim the_job F end.events end.left.slices end.left.answer ends.told

  pub plan_long : AsLong h end.left.slices
  plan_long = ends.long
