-- Term 3 of every accepted plan: its events, its report and what is handed back make a finished plan. Assumes nothing.
use mathlib.Core.Path.{◌≡◌, refl, sym, ap, subst, ◌∙◌}
use mathlib.Core.Bool.{Bool}
use mathlib.Core.List.{List, [], ◌∷◌, ◌++◌}
use mathlib.Core.Option.{some}
use Prim.Native.Nat.{ℕ, ◌-◌, ◌*◌, ◌≤◌}
use native.Mathlib.Omega.{arith}
use lib.ListN.{length, take, replicate, length-take}
use lib.Seq.{take_at, take_all, length-take-le}
use lib.Ieee.{Float}
use Rattle.loops.specs.Cells.{ones}
use Rattle.loops.proofs.Cases.{by_test}
use Rattle.geom.specs.Vec.{f0}
use Rattle.raster.specs.Grid.{Sides}
use Rattle.raster.specs.Log.{Stock}
use Rattle.raster.specs.declared.grid.Grid.{Grid}
use Rattle.setup.specs.Made.{Measured}
use Rattle.setup.specs.Place.{cells_of}
use Rattle.events.specs.Chunk.{Chunk, Job as EventJob}
use Rattle.events.specs.Events.{Event, zeros, after, Fit}
use Rattle.events.specs.Lent.{Triple, all_triples, flat_triples, decode, Holds}
use Rattle.events.specs.Told.{Counted, Finished as FinishedPlan}
use Rattle.events.proofs.LentLaws.{holds-decode, holds-long}
use Rattle.events.proofs.Finish.{finished}
use Rattle.entry.specs.Admitted.{Admitted}
use Rattle.entry.specs.Questions.{judged_of}
use Rattle.entry.specs.declared.params.AdaptiveParams.{AdaptiveParams}
use Rattle.std.specs.Prelude.{Result, Ok, Err}
use Rattle.entry.specs.declared.questions.Question.{Question}
use Rattle.entry.proofs.JudgedLaws.{judged_fit}
use Rattle.report.specs.Report.{report_of, told_of}
use Rattle.report.specs.Zero.{Lent, headed, cleared_to}
use Rattle.report.specs.declared.report.AdaptiveReport.{AdaptiveReport}
use Rattle.report.proofs.CountedLaws.{report_counted}
use Rattle.plan.specs.Job.{job_in}
use Rattle.plan.specs.Parts.{Ground, Slices}
use Rattle.std.specs.Prelude.{Ok, Err}
use Rattle.cutting.specs.Listing.{number_of}
use Rattle.cutting.specs.declared.listing.Full.{Full}
use Rattle.plan.specs.Rounds.{Ended, plan_of}
use Rattle.plan.specs.declared.parts.Progress.{Progress}
use Rattle.plan.proofs.PlanTold.{PlanMade, plan_finished, plan_long}
use Rattle.planner.specs.Planner.{Job, Answer, setup_for, limit_of, start_of, ground_of, slices_of, plan_for, finish, unentered, answer_by, used_of, planned_by, threes, planned_of, lengths_of, outcome_by, outcome_of}
use Rattle.planner.specs.Answered.{event_job, plan_in, AnswerTold}
use Rattle.planner.specs.declared.outcome.Refusal.TheVariants.{Unentered}
use Rattle.planner.proofs.JobLaws.{start-long, job-zeros, admitted_sides, admitted_measured, admitted_fit}

-- ---- lists at the head of a slice

pub headed-first : {A : Type 0} (v : A) (n k m : ℕ) (l : List A) → m ≡ k → k ≤ length l → take k (headed v n (take m l)) ≡ take k l
unfolding headed
headed-first v n k m l e h = ap (λ (q : ℕ). take k (take q l ++ replicate (n - length (take q l)) v)) e ∙ take_at (take k l) (replicate (n - length (take k l)) v) k (length-take-le k l h)

flat-long : (ts : List Triple) → length (flat_triples ts) ≡ length ts * 3
unfolding flat_triples
flat-long [] = refl
flat-long (t ∷ ts) = let i = flat-long ts in omega arith

-- the first rows and triples of slices that hold a list, at the head of others, hold it too
module _ (rows : List ℕ) (triples : List Float) (cs : List Chunk) (h : Holds rows triples cs) where
  triples-long : length (all_triples cs) * 3 ≤ length triples
  triples-long = omega (arith, length-take (length (all_triples cs) * 3) triples, ap length h.triples, flat-long (all_triples cs))

  pub headed-holds : (n k r t : ℕ) → length cs ≡ r → length (all_triples cs) ≡ t → Holds (headed 0 n (take (3 * r) rows)) (headed f0 k (take (3 * t) triples)) cs
  headed-holds n k r t R T = record {
    rows = headed-first 0 n (length cs * 3) (3 * r) rows (omega arith) (holds-long rows triples cs h) ∙ h.rows;
    triples = headed-first f0 k (length (all_triples cs) * 3) (3 * t) triples (omega arith) triples-long ∙ h.triples;
  }

-- ---- a plan over a ground

-- of the events es, on n cells, with what is handed back, o, after the end e
abbrev pub OutTold : EventJob → List Event → ℕ → Ended → Lent → Answer → Type 0
OutTold j es n e o (Err x) = Unit {0}
OutTold j es n e o (Ok r) = FinishedPlan j es (told_of r) (take n o.bytes) (used_of n e (Ok r)).rows o.rows o.triples

module _ (g : Ground) (start : List ℕ) (limit : Float) (S : Sides g.setup.grid) (M : Measured g.setup) (F : Fit (job_in g start limit))
    (h : Slices) (standing : h.map ≡ start) (none-gone : h.gone ≡ zeros (job_in g start limit)) (empty : h.log ≡ zeros (job_in g start limit))
    (long : length start ≡ cells_of g.setup) (p : AdaptiveParams) (l : Lent) where
  abbrev ev : EventJob
  ev = job_in g start limit

  abbrev n : ℕ
  n = cells_of g.setup

  abbrev es : List Event
  es = (plan_of g h).events

  abbrev k : Slices
  k = (plan_of g h).left.slices

  map-long : length k.map ≡ n
  map-long = (plan_long g start limit S M F h standing none-gone empty).map-long ∙ ap length standing ∙ long

  abbrev answer : Ended → Answer
  answer e = answer_by p g.setup.grid.cell (ones h.map) g.reach k.map k.rows k.out e

  abbrev cleared : Ended → Answer → Lent
  cleared e a = cleared_to (used_of n e a) k.map k.rows k.out l

  module _ (q : Progress) (spent : Bool) (E : (plan_of g h).left.answer ≡ Ok (q, spent)) where
    made : PlanMade ev es k q
    made = plan_finished g start limit S M F h standing none-gone empty q spent E

    abbrev report : AdaptiveReport
    report = report_of g.setup.grid.cell (finish p (ones h.map) q.given spent) q.state k.map g.reach k.rows k.out

    counted : Counted ev es k.map (told_of report)
    counted =
        let x = made.planned.held in
        report_counted g.setup.grid.cell (finish p (ones h.map) q.given spent) q.state k.map g.reach k.rows k.out ev es made.planned.legal
        (omega (arith, made.rows, holds-long k.rows k.out (after ev es).rows x))
        (subst (λ (m : ℕ). decode m k.rows k.out ≡ some (after ev es).rows) made.rows (holds-decode k.rows k.out (after ev es).rows x))
        (ap ones standing)
        (sym made.given)

    back : take n (headed 0 (length l.bytes) (take n k.map)) ≡ k.map
    back = headed-first 0 (length l.bytes) n n k.map refl (omega (arith, map-long)) ∙ take_all n k.map (omega (arith, map-long))

    accepted_told : OutTold ev es n (Ok (q, spent)) (cleared (Ok (q, spent)) (Ok report)) (Ok report)
    unfolding used_of cleared_to
    accepted_told =
        let rows = headed 0 (length l.rows) (take (3 * q.state.rows) k.rows) in
        let triples = headed f0 (length l.triples) (take (3 * q.state.triples) k.out) in
        let x : FinishedPlan ev es (told_of report) k.map (length (after ev es).rows) rows triples =
        finished ev es made.planned.legal F made.settled rows triples
        (headed-holds k.rows k.out (after ev es).rows made.planned.held (length l.rows) (length l.triples) q.state.rows q.state.triples made.rows made.triples)
        k.map (sym (ap (λ (z : Stock). z.cells) made.planned.idle.stock)) (told_of report) counted in
        subst (λ (m : List ℕ). FinishedPlan ev es (told_of report) m q.state.rows rows triples) (sym back)
        (subst (λ (m : ℕ). FinishedPlan ev es (told_of report) k.map m rows triples) made.rows x)

  end-told : (e : Ended) → (plan_of g h).left.answer ≡ e → OutTold ev es n e (cleared e (answer e)) (answer e)
  unfolding answer_by
  end-told (Ok (q, spent)) E =
      by_test (λ (a : Answer). OutTold ev es n (Ok (q, spent)) (cleared (Ok (q, spent)) a) a) (unentered q.state.rows (ones h.map))
      (Err Unentered) (Ok (report q spent E)) (λ z. tt) (λ z. accepted_told q spent E)
  end-told (Err x) E = tt

  pub planned_told : OutTold ev es n (plan_of g h).left.answer (planned_by p g h l).lent (planned_by p g h l).answer
  unfolding planned_by
  planned_told = end-told (plan_of g h).left.answer refl

-- ---- a job

module _ (j : Job) (l : Lent) where
  abbrev rows-lent : ℕ
  rows-lent = threes (length l.rows)

  abbrev triples-lent : ℕ
  triples-lent = threes (length l.triples)

  out-answer : (o : Lent) (a : Answer) → OutTold (event_job j) (plan_in j l).events (cells_of (setup_for j)) (plan_in j l).left.answer o a → AnswerTold j l o a
  out-answer o (Err x) t = tt
  out-answer o (Ok r) t = t

  fit_told : (g : Grid) → Admitted j.params j.whole j.vs j.lens j.regions (lengths_of l) g → AnswerTold j l (planned_of j l).lent (planned_of j l).answer
  unfolding planned_of plan_for ground_of slices_of
  fit_told g A =
      let none = sym (job-zeros j.params j.whole j.vs j.lens j.regions) in
      out-answer (planned_of j l).lent (planned_of j l).answer
      (planned_told (ground_of j) (start_of j) (limit_of j)
      (admitted_sides j.params j.whole j.vs j.lens j.regions (lengths_of l) g A)
      (admitted_measured j.params j.whole j.vs j.lens j.regions (lengths_of l) g A)
      (admitted_fit j.params j.whole j.vs j.lens j.regions (lengths_of l) g A)
      (slices_of j rows-lent triples-lent) refl none none (start-long j.params j.whole j.vs j.lens j.regions) j.params l)

  judged-told : (a : Result Grid Question) → judged_of j.params j.whole j.vs j.lens j.regions (lengths_of l) ≡ a → AnswerTold j l (outcome_by j l a).lent (outcome_by j l a).answer
  unfolding outcome_by
  judged-told (Err x) E = tt
  judged-told (Ok g) E = fit_told g (judged_fit j.params j.whole j.vs j.lens j.regions (lengths_of l) g E)

-- the theorem: whatever is asked and lent
pub answer-told : (j : Job) (l : Lent) → AnswerTold j l (outcome_of j l).lent (outcome_of j l).answer
unfolding outcome_of
answer-told j l = judged-told j l (judged_of j.params j.whole j.vs j.lens j.regions (lengths_of l)) refl
