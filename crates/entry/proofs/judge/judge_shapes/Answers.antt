-- `entry::judge::judge_shapes` meets its contract. Assumes nothing.
use mathlib.Core.Path.{◌≡◌, sym, ap, ◌∙◌}
use mathlib.Core.Bool.{true, false}
use Rattle.std.specs.Prelude.{Ok, Err}
use Rattle.raster.specs.declared.grid.Grid.{Grid}
use Rattle.entry.specs.Questions.{lent_fit, shapes_fit, job_grid, first_no, judged_by}
use Rattle.entry.proofs.FirstLaws.{asked-yes, asked-no, passed}
use Rattle.entry.proofs.FitLaws.{job_fit}
use Rattle.entry.proofs.RasterLaws.{raster_sides, raster_grid, raster_yes, raster_no}
use Rattle.entry.proofs.ShapeLaws.{shapes_held}
use Rattle.entry.proofs.judge.judge_shapes.Goals as goal
use Rattle.entry.proofs.judge.judge_shapes.Goals.{In_ok-ask}

shapes : (c : In_ok-ask) → shapes_fit c.args.whole c.args.vs.now c.args.lens.now c.args.regions.now ≡ true
shapes c = sym c.shapes_fit.ensures ∙ asked-yes _ _ _ c.ask.ensures _ c.in_ok-ask.was

pub returns-in_err-ask : goal.returns-in_err-ask
unfolding first_no judged_by
returns-in_err-ask c = let n = asked-no _ _ _ c.ask.ensures _ c.in_err-ask.was in
    passed _ _ c.from_residual.ensures.1 ∙ rw (sym c.shapes_fit.ensures ∙ n.0) (ap Err (sym n.1))

pub raster_of-requires : goal.raster_of-requires
raster_of-requires c = let s = c.args in
    let h = shapes_held s.whole s.vs.now s.lens.now s.regions.now (shapes (goal.at.raster_of-requires c).In_ok-ask) in record { regions_nonzero = h.some; held = h.held 0 h.some }

pub lent_fits-requires : goal.lent_fits-requires
lent_fits-requires c = let s = c.args in
    raster_sides s.p s.vs.now s.lens.now s.regions.now _ (sym c.raster_of.ensures ∙ c.in-Ok.is)

pub returns-in_err-ask-in-Ok : goal.returns-in_err-ask-in-Ok
unfolding first_no judged_by
returns-in_err-ask-in-Ok c = let s = c.args in
    let e = sym c.raster_of.ensures ∙ c.in-Ok.is in
    let n = asked-no _ _ _ c.ask-in-Ok.ensures _ c.in_err-ask-in-Ok.was in
    let lent : lent_fit (job_grid s.p s.vs.now s.lens.now s.regions.now) s.l ≡ false =
    ap (λ (g : Grid). lent_fit g s.l) (sym (raster_grid s.p s.vs.now s.lens.now s.regions.now _ e)) ∙ sym c.lent_fits.ensures ∙ n.0 in
    passed _ _ c.from_residual-in_err-ask-in-Ok.ensures.1
    ∙ rw (shapes (goal.at.returns-in_err-ask-in-Ok c).In_ok-ask, raster_yes s.p s.vs.now s.lens.now s.regions.now _ e, lent) (ap Err (sym n.1))

pub returns-in_ok-ask-in-Ok : goal.returns-in_ok-ask-in-Ok
unfolding first_no judged_by
returns-in_ok-ask-in-Ok c = let s = c.args in
    let e = sym c.raster_of.ensures ∙ c.in-Ok.is in
    let is = raster_grid s.p s.vs.now s.lens.now s.regions.now _ e in
    let lent : lent_fit (job_grid s.p s.vs.now s.lens.now s.regions.now) s.l ≡ true =
    ap (λ (g : Grid). lent_fit g s.l) (sym is) ∙ sym c.lent_fits.ensures ∙ asked-yes _ _ _ c.ask-in-Ok.ensures _ c.in_ok-ask-in-Ok.was in
    rw (shapes (goal.at.returns-in_ok-ask-in-Ok c).In_ok-ask, raster_yes s.p s.vs.now s.lens.now s.regions.now _ e, lent) (ap Ok is)

pub returns-in-Err : goal.returns-in-Err
unfolding first_no judged_by
returns-in-Err c = let s = c.args in
    let yes = shapes (goal.at.returns-in-Err c).In_ok-ask in
    rw (yes, raster_no s.p s.vs.now s.lens.now s.regions.now _ (sym c.raster_of.ensures ∙ c.in-Err.is) (job_fit s.p s.whole s.vs.now s.lens.now s.regions.now c.requires.p_value c.requires.p_value_2 yes))
