-- The answer of a plan, and what stays of it, by how it ended. Assumes nothing.
use mathlib.Core.Path.{◌≡◌, refl, sym, ap, ◌∙◌, subst}
use mathlib.Core.Bool.{Bool, true, false}
use mathlib.Core.List.{List}
use Prim.Native.Nat.{ℕ, ◌*◌, ◌≤◌}
use lib.ListN.{length}
use lib.Ieee.{Float}
use Rattle.entry.specs.declared.params.AdaptiveParams.{AdaptiveParams}
use Rattle.report.specs.Zero.{used}
use Rattle.report.specs.Report.{report_of}
use Rattle.report.specs.declared.clear.Used.{Used}
use Rattle.report.specs.declared.report.AdaptiveReport.{AdaptiveReport}
use Rattle.std.specs.Prelude.{Ok, Err}
use Rattle.cutting.specs.declared.listing.Full.{Full}
use Rattle.plan.specs.Rounds.{Ended, ListedEnd}
use Rattle.plan.specs.declared.parts.Progress.{Progress}
use Rattle.planner.specs.Planner.{Answer, unentered, finish, answer_by, used_of}
use Rattle.planner.specs.declared.outcome.Refusal.{Refusal}
use Rattle.planner.specs.declared.outcome.Refusal.TheVariants.{NoRoom, Unentered}

-- ---- what stays

module _ (n : ℕ) (e : Ended) (a : Answer) (c : Used) where
  pub used-none : (k : Refusal) → a ≡ Err k → c ≡ used 0 0 0 → c ≡ used_of n e a
  unfolding used_of
  used-none k A C = C ∙ ap (used_of n e) (sym A)

  module _ (r : AdaptiveReport) (A : a ≡ Ok r) where
    pub used_stopped : (k : Full) → e ≡ Err k → c ≡ used 0 0 0 → c ≡ used_of n e a
    unfolding used_of
    used_stopped k E C = C ∙ ap (λ (x : Ended). used_of n x (Ok r)) (sym E) ∙ ap (used_of n e) (sym A)

    pub used_finished : (q : Progress) (spent : Bool) → e ≡ Ok (q, spent) → c ≡ used n q.state.rows q.state.triples → c ≡ used_of n e a
    unfolding used_of
    used_finished q spent E C = C ∙ ap (λ (x : Ended). used_of n x (Ok r)) (sym E) ∙ ap (used_of n e) (sym A)

-- ---- the answer

module _ (p : AdaptiveParams) (cell : Float) (starting : ℕ) (reach m rows : List ℕ) (triples : List Float) (e : Ended) where
  abbrev answer : Ended → Answer
  answer x = answer_by p cell starting reach m rows triples x

  pub answer_stopped : (k : Full) → e ≡ Err k → Err (NoRoom k) ≡ answer e
  unfolding answer_by
  answer_stopped k E = ap answer (sym E)

  module _ (q : Progress) (spent : Bool) (E : e ≡ Ok (q, spent)) where
    pub answer-unentered : unentered q.state.rows starting ≡ true → Err Unentered ≡ answer e
    unfolding answer_by
    answer-unentered u = rw (E, u) refl

    pub answer_accepted : unentered q.state.rows starting ≡ false → (r : AdaptiveReport) → r ≡ report_of cell (finish p starting q.given spent) q.state m reach rows triples → Ok r ≡ answer e
    unfolding answer_by
    answer_accepted u r R = rw (E, u) (ap Ok R)

-- ---- what is listed lies in the rows

pub listed-rows : (rows : List ℕ) (o : List Float) (e : Ended) (q : Progress) (spent : Bool) → e ≡ Ok (q, spent) → ListedEnd rows o e → q.state.rows * 3 ≤ length rows
listed-rows rows o e q spent E h = let x : ListedEnd rows o (Ok (q, spent)) = subst (ListedEnd rows o) E h in x.fit_rows
