-- `entry::questions::ask_of` meets its contract. Assumes nothing.
use mathlib.Core.Path.{sym, ap, ◌∙◌}
use Rattle.std.specs.Prelude.{Err}
use Rattle.entry.specs.Questions.{asked, first_no, judged_by}
use Rattle.entry.specs.declared.questions.Question.TheVariants.{Ranges}
use Rattle.entry.proofs.FirstLaws.{asked-yes, asked-no, asked-last, passed}
use Rattle.entry.proofs.questions.ask_of.Goals as goal

pub returns-in_err-ask : goal.returns-in_err-ask
unfolding first_no judged_by
returns-in_err-ask c =
    let n = asked-no _ _ _ c.ask.ensures _ c.in_err-ask.was in
    passed _ _ c.from_residual.ensures.1 ∙ rw (sym c.diameter_fits.ensures ∙ n.0) (ap Err (sym n.1))

pub returns-in_err-ask-2 : goal.returns-in_err-ask-2
unfolding first_no judged_by
returns-in_err-ask-2 c =
    let y1 = sym c.diameter_fits.ensures ∙ asked-yes _ _ _ c.ask.ensures _ c.in_ok-ask.was in
    let n = asked-no _ _ _ c.ask-2.ensures _ c.in_err-ask-2.was in
    passed _ _ c.from_residual-in_err-ask-2.ensures.1 ∙ rw (y1, sym c.engagement_fits.ensures ∙ n.0) (ap Err (sym n.1))

pub returns-in_err-ask-3 : goal.returns-in_err-ask-3
unfolding first_no judged_by
returns-in_err-ask-3 c =
    let y1 = sym c.diameter_fits.ensures ∙ asked-yes _ _ _ c.ask.ensures _ c.in_ok-ask.was in
    let y2 = sym c.engagement_fits.ensures ∙ asked-yes _ _ _ c.ask-2.ensures _ c.in_ok-ask-2.was in
    let n = asked-no _ _ _ c.ask-3.ensures _ c.in_err-ask-3.was in
    passed _ _ c.from_residual-in_err-ask-3.ensures.1 ∙ rw (y1, y2, sym c.step_down_fits.ensures ∙ n.0) (ap Err (sym n.1))

pub returns-in_err-ask-4 : goal.returns-in_err-ask-4
unfolding first_no judged_by
returns-in_err-ask-4 c =
    let y1 = sym c.diameter_fits.ensures ∙ asked-yes _ _ _ c.ask.ensures _ c.in_ok-ask.was in
    let y2 = sym c.engagement_fits.ensures ∙ asked-yes _ _ _ c.ask-2.ensures _ c.in_ok-ask-2.was in
    let y3 = sym c.step_down_fits.ensures ∙ asked-yes _ _ _ c.ask-3.ensures _ c.in_ok-ask-3.was in
    let n = asked-no _ _ _ c.ask-4.ensures _ c.in_err-ask-4.was in
    passed _ _ c.from_residual-in_err-ask-4.ensures.1 ∙ rw (y1, y2, y3, sym c.depth_fits.ensures ∙ n.0) (ap Err (sym n.1))

pub returns-in_err-ask-5 : goal.returns-in_err-ask-5
unfolding first_no judged_by
returns-in_err-ask-5 c =
    let y1 = sym c.diameter_fits.ensures ∙ asked-yes _ _ _ c.ask.ensures _ c.in_ok-ask.was in
    let y2 = sym c.engagement_fits.ensures ∙ asked-yes _ _ _ c.ask-2.ensures _ c.in_ok-ask-2.was in
    let y3 = sym c.step_down_fits.ensures ∙ asked-yes _ _ _ c.ask-3.ensures _ c.in_ok-ask-3.was in
    let y4 = sym c.depth_fits.ensures ∙ asked-yes _ _ _ c.ask-4.ensures _ c.in_ok-ask-4.was in
    let n = asked-no _ _ _ c.ask-5.ensures _ c.in_err-ask-5.was in
    passed _ _ c.from_residual-in_err-ask-5.ensures.1 ∙ rw (y1, y2, y3, y4, sym c.leave_fits.ensures ∙ n.0) (ap Err (sym n.1))

pub returns-in_err-ask-6 : goal.returns-in_err-ask-6
unfolding first_no judged_by
returns-in_err-ask-6 c =
    let y1 = sym c.diameter_fits.ensures ∙ asked-yes _ _ _ c.ask.ensures _ c.in_ok-ask.was in
    let y2 = sym c.engagement_fits.ensures ∙ asked-yes _ _ _ c.ask-2.ensures _ c.in_ok-ask-2.was in
    let y3 = sym c.step_down_fits.ensures ∙ asked-yes _ _ _ c.ask-3.ensures _ c.in_ok-ask-3.was in
    let y4 = sym c.depth_fits.ensures ∙ asked-yes _ _ _ c.ask-4.ensures _ c.in_ok-ask-4.was in
    let y5 = sym c.leave_fits.ensures ∙ asked-yes _ _ _ c.ask-5.ensures _ c.in_ok-ask-5.was in
    let n = asked-no _ _ _ c.ask-6.ensures _ c.in_err-ask-6.was in
    passed _ _ c.from_residual-in_err-ask-6.ensures.1 ∙ rw (y1, y2, y3, y4, y5, sym c.safe_fits.ensures ∙ n.0) (ap Err (sym n.1))

pub returns-in_err-ask-7 : goal.returns-in_err-ask-7
unfolding first_no judged_by
returns-in_err-ask-7 c =
    let y1 = sym c.diameter_fits.ensures ∙ asked-yes _ _ _ c.ask.ensures _ c.in_ok-ask.was in
    let y2 = sym c.engagement_fits.ensures ∙ asked-yes _ _ _ c.ask-2.ensures _ c.in_ok-ask-2.was in
    let y3 = sym c.step_down_fits.ensures ∙ asked-yes _ _ _ c.ask-3.ensures _ c.in_ok-ask-3.was in
    let y4 = sym c.depth_fits.ensures ∙ asked-yes _ _ _ c.ask-4.ensures _ c.in_ok-ask-4.was in
    let y5 = sym c.leave_fits.ensures ∙ asked-yes _ _ _ c.ask-5.ensures _ c.in_ok-ask-5.was in
    let y6 = sym c.safe_fits.ensures ∙ asked-yes _ _ _ c.ask-6.ensures _ c.in_ok-ask-6.was in
    let n = asked-no _ _ _ c.ask-7.ensures _ c.in_err-ask-7.was in
    passed _ _ c.from_residual-in_err-ask-7.ensures.1 ∙ rw (y1, y2, y3, y4, y5, y6, sym c.feeds_fit.ensures ∙ n.0) (ap Err (sym n.1))

pub returns-in_err-ask-8 : goal.returns-in_err-ask-8
unfolding first_no judged_by
returns-in_err-ask-8 c =
    let y1 = sym c.diameter_fits.ensures ∙ asked-yes _ _ _ c.ask.ensures _ c.in_ok-ask.was in
    let y2 = sym c.engagement_fits.ensures ∙ asked-yes _ _ _ c.ask-2.ensures _ c.in_ok-ask-2.was in
    let y3 = sym c.step_down_fits.ensures ∙ asked-yes _ _ _ c.ask-3.ensures _ c.in_ok-ask-3.was in
    let y4 = sym c.depth_fits.ensures ∙ asked-yes _ _ _ c.ask-4.ensures _ c.in_ok-ask-4.was in
    let y5 = sym c.leave_fits.ensures ∙ asked-yes _ _ _ c.ask-5.ensures _ c.in_ok-ask-5.was in
    let y6 = sym c.safe_fits.ensures ∙ asked-yes _ _ _ c.ask-6.ensures _ c.in_ok-ask-6.was in
    let y7 = sym c.feeds_fit.ensures ∙ asked-yes _ _ _ c.ask-7.ensures _ c.in_ok-ask-7.was in
    let n = asked-no _ _ _ c.ask-8.ensures _ c.in_err-ask-8.was in
    passed _ _ c.from_residual-in_err-ask-8.ensures.1 ∙ rw (y1, y2, y3, y4, y5, y6, y7, sym c.ramp_fits.ensures ∙ n.0) (ap Err (sym n.1))

pub returns-in_err-ask-9 : goal.returns-in_err-ask-9
unfolding first_no judged_by
returns-in_err-ask-9 c =
    let y1 = sym c.diameter_fits.ensures ∙ asked-yes _ _ _ c.ask.ensures _ c.in_ok-ask.was in
    let y2 = sym c.engagement_fits.ensures ∙ asked-yes _ _ _ c.ask-2.ensures _ c.in_ok-ask-2.was in
    let y3 = sym c.step_down_fits.ensures ∙ asked-yes _ _ _ c.ask-3.ensures _ c.in_ok-ask-3.was in
    let y4 = sym c.depth_fits.ensures ∙ asked-yes _ _ _ c.ask-4.ensures _ c.in_ok-ask-4.was in
    let y5 = sym c.leave_fits.ensures ∙ asked-yes _ _ _ c.ask-5.ensures _ c.in_ok-ask-5.was in
    let y6 = sym c.safe_fits.ensures ∙ asked-yes _ _ _ c.ask-6.ensures _ c.in_ok-ask-6.was in
    let y7 = sym c.feeds_fit.ensures ∙ asked-yes _ _ _ c.ask-7.ensures _ c.in_ok-ask-7.was in
    let y8 = sym c.ramp_fits.ensures ∙ asked-yes _ _ _ c.ask-8.ensures _ c.in_ok-ask-8.was in
    let n = asked-no _ _ _ c.ask-9.ensures _ c.in_err-ask-9.was in
    passed _ _ c.from_residual-in_err-ask-9.ensures.1 ∙ rw (y1, y2, y3, y4, y5, y6, y7, y8, sym c.helix_fits.ensures ∙ n.0) (ap Err (sym n.1))

pub returns-in_err-ask-10 : goal.returns-in_err-ask-10
unfolding first_no judged_by
returns-in_err-ask-10 c =
    let y1 = sym c.diameter_fits.ensures ∙ asked-yes _ _ _ c.ask.ensures _ c.in_ok-ask.was in
    let y2 = sym c.engagement_fits.ensures ∙ asked-yes _ _ _ c.ask-2.ensures _ c.in_ok-ask-2.was in
    let y3 = sym c.step_down_fits.ensures ∙ asked-yes _ _ _ c.ask-3.ensures _ c.in_ok-ask-3.was in
    let y4 = sym c.depth_fits.ensures ∙ asked-yes _ _ _ c.ask-4.ensures _ c.in_ok-ask-4.was in
    let y5 = sym c.leave_fits.ensures ∙ asked-yes _ _ _ c.ask-5.ensures _ c.in_ok-ask-5.was in
    let y6 = sym c.safe_fits.ensures ∙ asked-yes _ _ _ c.ask-6.ensures _ c.in_ok-ask-6.was in
    let y7 = sym c.feeds_fit.ensures ∙ asked-yes _ _ _ c.ask-7.ensures _ c.in_ok-ask-7.was in
    let y8 = sym c.ramp_fits.ensures ∙ asked-yes _ _ _ c.ask-8.ensures _ c.in_ok-ask-8.was in
    let y9 = sym c.helix_fits.ensures ∙ asked-yes _ _ _ c.ask-9.ensures _ c.in_ok-ask-9.was in
    let n = asked-no _ _ _ c.ask-10.ensures _ c.in_err-ask-10.was in
    passed _ _ c.from_residual-in_err-ask-10.ensures.1 ∙ rw (y1, y2, y3, y4, y5, y6, y7, y8, y9, sym c.thinning_fits.ensures ∙ n.0) (ap Err (sym n.1))

pub returns-in_err-ask-11 : goal.returns-in_err-ask-11
unfolding first_no judged_by
returns-in_err-ask-11 c =
    let y1 = sym c.diameter_fits.ensures ∙ asked-yes _ _ _ c.ask.ensures _ c.in_ok-ask.was in
    let y2 = sym c.engagement_fits.ensures ∙ asked-yes _ _ _ c.ask-2.ensures _ c.in_ok-ask-2.was in
    let y3 = sym c.step_down_fits.ensures ∙ asked-yes _ _ _ c.ask-3.ensures _ c.in_ok-ask-3.was in
    let y4 = sym c.depth_fits.ensures ∙ asked-yes _ _ _ c.ask-4.ensures _ c.in_ok-ask-4.was in
    let y5 = sym c.leave_fits.ensures ∙ asked-yes _ _ _ c.ask-5.ensures _ c.in_ok-ask-5.was in
    let y6 = sym c.safe_fits.ensures ∙ asked-yes _ _ _ c.ask-6.ensures _ c.in_ok-ask-6.was in
    let y7 = sym c.feeds_fit.ensures ∙ asked-yes _ _ _ c.ask-7.ensures _ c.in_ok-ask-7.was in
    let y8 = sym c.ramp_fits.ensures ∙ asked-yes _ _ _ c.ask-8.ensures _ c.in_ok-ask-8.was in
    let y9 = sym c.helix_fits.ensures ∙ asked-yes _ _ _ c.ask-9.ensures _ c.in_ok-ask-9.was in
    let y10 = sym c.thinning_fits.ensures ∙ asked-yes _ _ _ c.ask-10.ensures _ c.in_ok-ask-10.was in
    let n = asked-no _ _ _ c.ask-11.ensures _ c.in_err-ask-11.was in
    passed _ _ c.from_residual-in_err-ask-11.ensures.1 ∙ rw (y1, y2, y3, y4, y5, y6, y7, y8, y9, y10, sym c.resolution_fits.ensures ∙ n.0) (ap Err (sym n.1))

pub returns : goal.returns
unfolding first_no judged_by
returns c =
    let y1 = sym c.diameter_fits.ensures ∙ asked-yes _ _ _ c.ask.ensures _ c.in_ok-ask.was in
    let y2 = sym c.engagement_fits.ensures ∙ asked-yes _ _ _ c.ask-2.ensures _ c.in_ok-ask-2.was in
    let y3 = sym c.step_down_fits.ensures ∙ asked-yes _ _ _ c.ask-3.ensures _ c.in_ok-ask-3.was in
    let y4 = sym c.depth_fits.ensures ∙ asked-yes _ _ _ c.ask-4.ensures _ c.in_ok-ask-4.was in
    let y5 = sym c.leave_fits.ensures ∙ asked-yes _ _ _ c.ask-5.ensures _ c.in_ok-ask-5.was in
    let y6 = sym c.safe_fits.ensures ∙ asked-yes _ _ _ c.ask-6.ensures _ c.in_ok-ask-6.was in
    let y7 = sym c.feeds_fit.ensures ∙ asked-yes _ _ _ c.ask-7.ensures _ c.in_ok-ask-7.was in
    let y8 = sym c.ramp_fits.ensures ∙ asked-yes _ _ _ c.ask-8.ensures _ c.in_ok-ask-8.was in
    let y9 = sym c.helix_fits.ensures ∙ asked-yes _ _ _ c.ask-9.ensures _ c.in_ok-ask-9.was in
    let y10 = sym c.thinning_fits.ensures ∙ asked-yes _ _ _ c.ask-10.ensures _ c.in_ok-ask-10.was in
    let y11 = sym c.resolution_fits.ensures ∙ asked-yes _ _ _ c.ask-11.ensures _ c.in_ok-ask-11.was in
    c.ask-12.ensures ∙ ap (asked Ranges) c.ranges_fit.ensures ∙ rw (y1, y2, y3, y4, y5, y6, y7, y8, y9, y10, y11) (asked-last Ranges _)
