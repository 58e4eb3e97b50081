-- What comes back over C is the planner's outcome. Assumes nothing.
use mathlib.Core.Path.{◌≡◌, refl, sym, subst}
use mathlib.Core.Bool.{Bool}
use mathlib.Core.List.{List}
use Prim.Native.Nat.{ℕ}
use lib.Ieee.{Float}
use Rattle.entry.specs.declared.params.AdaptiveParams.{AdaptiveParams}
use Rattle.report.specs.Zero.{Lent}
use Rattle.planner.specs.Planner.{Job, job, Answer, refusal_number, Outcome, outcome, outcome_of}
use Rattle.planner.specs.Answered.{AnswerTold}
use Rattle.planner.specs.declared.outcome.Refusal.{Refusal}
use Rattle.std.specs.Prelude.{Ok, Err}
use Rattle.report.specs.declared.report.AdaptiveReport.{AdaptiveReport}
use Rattle.pocket.specs.Plan.{no_report, answered, of_answer, told, told_of}
use Rattle.pocket.specs.declared.adaptive.PocketAnswer.{PocketAnswer}

pub accepted_is : (a : Answer) (r : AdaptiveReport) → a ≡ Ok r → answered 0 r ≡ of_answer a
unfolding of_answer
accepted_is a r e = subst (λ (x : Answer). answered 0 r ≡ of_answer x) (sym e) refl

pub refused-is : (a : Answer) (k : Refusal) (n : ℕ) (r : AdaptiveReport) → a ≡ Err k → n ≡ refusal_number k → r ≡ no_report → answered n r ≡ of_answer a
unfolding of_answer
refused-is a k n r e N f = rw (e, N, f) refl

-- the parameters q are those that were made of C's, p
module _ (q p : AdaptiveParams) (Q : q ≡ p) (whole : Bool) (vs : List Float) (lens regions : List ℕ) (was left : Lent) (a : Answer) where
  abbrev of : AdaptiveParams → Job
  of x = job x whole vs lens regions

  module _ (e : outcome left a ≡ outcome_of (of q) was) where
    same : outcome left a ≡ outcome_of (of p) was
    same = subst (λ (x : AdaptiveParams). outcome left a ≡ outcome_of (of x) was) Q e

    pub plan_told : (r : PocketAnswer) → r ≡ of_answer a → told left r ≡ told_of (outcome_of (of p) was)
    plan_told r f = subst (λ (o : Outcome). told left r ≡ told_of o) same (subst (λ (x : PocketAnswer). told left x ≡ told left (of_answer a)) (sym f) refl)

    pub plan_answered : AnswerTold (of q) was left a → AnswerTold (of p) was left (outcome_of (of p) was).answer
    plan_answered t =
        subst (λ (o : Outcome). AnswerTold (of p) was left o.answer) same (subst (λ (x : AdaptiveParams). AnswerTold (of x) was left a) Q t)
