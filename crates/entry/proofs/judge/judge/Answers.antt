-- `entry::judge::judge` meets its contract. Assumes nothing.
use mathlib.Core.Path.{◌≡◌, sym, ap, ◌∙◌}
use Rattle.std.specs.Prelude.{Option, None}
use Rattle.entry.specs.Questions.{first_twelve, last_three, job_grid, first_no, judged_by, refusal_of, judged_of}
use Rattle.entry.specs.declared.questions.Question.{Question}
use Rattle.entry.proofs.FirstLaws.{first-all, first-append, first-found, none-told, some-told, passed}
use Rattle.entry.proofs.judge.judge.Goals as goal
use Rattle.entry.proofs.judge.judge.Goals.{In_ok-ask_of}

none : (c : In_ok-ask_of) → first_no (first_twelve c.args.p) ≡ None
none c = none-told tt _ _ (sym c.ask_of.ensures ∙ c.in_ok-ask_of.was)

pub returns-in_err-ask_of : goal.returns-in_err-ask_of
unfolding judged_of refusal_of judged_by
returns-in_err-ask_of c = let s = c.args in
    let found = first-found (first_twelve s.p) (last_three s.p s.whole s.vs.now s.lens.now s.regions.now s.l) _ (some-told tt _ _ (sym c.ask_of.ensures ∙ c.in_err-ask_of.was)) in
    passed _ _ c.from_residual.ensures.1 ∙ sym (ap (λ (n : Option Question). judged_by n (job_grid s.p s.vs.now s.lens.now s.regions.now)) found)

pub judge_shapes-requires : goal.judge_shapes-requires
judge_shapes-requires c = let yes = first-all (first_twelve c.args.p) (none (goal.at.judge_shapes-requires c).In_ok-ask_of) in
    record { p_value = yes.1.1.1.1.1.1.1.1.1.1.0; p_value_2 = yes.1.1.1.1.1.1.1.1.1.1.1.0 }

pub returns : goal.returns
unfolding judged_of refusal_of
returns c = let s = c.args in
    c.judge_shapes.ensures
    ∙ sym (ap (λ (n : Option Question). judged_by n (job_grid s.p s.vs.now s.lens.now s.regions.now))
    (first-append (first_twelve s.p) (last_three s.p s.whole s.vs.now s.lens.now s.regions.now s.l) (none (goal.at.returns c).In_ok-ask_of)))
