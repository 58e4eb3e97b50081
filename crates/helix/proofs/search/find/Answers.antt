-- `helix::search::find` meets its contract. Assumes nothing.
use mathlib.Core.Path.{refl, ◌∙◌}
use native.Mathlib.Omega.{arith}
use Rattle.helix.proofs.SearchLaws.{tried-none, tried-long, found_none, found-one, tried_more, found-end}
use Rattle.helix.proofs.search.find.Goals as goal

pub loop-k-init : goal.loop-k-init
loop-k-init c = (refl, tried-none c.args.s c.args.wall.now c.args.vs.now c.args.lens.now c.args.pref c.args.b.now c.requires.s_in_bounds)

pub try_place-a-requires : goal.try_place-a-requires
try_place-a-requires c = record { walls = c.requires.walls; s_in_bounds = omega (arith, tried-long c.args.s c.args.wall.now c.args.vs.now c.args.lens.now c.args.pref c.args.b.now c.requires.s_in_bounds c.loop-k.b _ c.loop-k.invariant.1, c.requires.s_in_bounds); s_in_bounds_2 = omega (arith, c.loop-k.invariant.0, c.requires.s_in_bounds_2) }

pub shape_of-b-in-Nothing : goal.shape_of-b-in-Nothing
shape_of-b-in-Nothing c = c.b-1.given ∙ tried-long c.args.s c.args.wall.now c.args.vs.now c.args.lens.now c.args.pref c.args.b.now c.requires.s_in_bounds c.loop-k.b _ c.loop-k.invariant.1

pub returns-in-Nothing : goal.returns-in-Nothing
returns-in-Nothing c =
    let r = found_none c.args.s c.args.wall.now c.args.vs.now c.args.lens.now c.args.pref c.args.b.now c.requires.s_in_bounds c.loop-k.b _ c.loop-k.invariant.1 _ c.try_place-a.ensures.value _ c.try_place-a.ensures.b_after c.loop-k-test.true c.in-Nothing.is in
    record { value = r.0; b_after = r.1 }

pub shape_of-b-in-Fits : goal.shape_of-b-in-Fits
shape_of-b-in-Fits c = c.b-1.given ∙ tried-long c.args.s c.args.wall.now c.args.vs.now c.args.lens.now c.args.pref c.args.b.now c.requires.s_in_bounds c.loop-k.b _ c.loop-k.invariant.1

pub returns-in-Fits : goal.returns-in-Fits
returns-in-Fits c =
    let r = found-one c.args.s c.args.wall.now c.args.vs.now c.args.lens.now c.args.pref c.args.b.now c.requires.s_in_bounds c.loop-k.b _ c.loop-k.invariant.1 _ c.try_place-a.ensures.value _ c.try_place-a.ensures.b_after c.loop-k-test.true _ _ c.in-Fits.is in
    record { value = r.0; b_after = r.1 }

pub overflow_step-k : goal.overflow_step-k
overflow_step-k c = omega (arith, c.loop-k-test.true)

pub loop-k-smaller : goal.loop-k-smaller
loop-k-smaller c = omega (arith, c.loop-k-test.true)

pub loop-k-preserved : goal.loop-k-preserved
loop-k-preserved c = (c.stack-1.given ∙ c.loop-k.invariant.0, tried_more c.args.s c.args.wall.now c.args.vs.now c.args.lens.now c.args.pref c.args.b.now c.requires.s_in_bounds c.loop-k.b _ c.loop-k.invariant.1 _ c.try_place-a.ensures.value _ c.try_place-a.ensures.b_after c.loop-k-test.true _ c.in-GivenUp.is)

pub shape_of-b : goal.shape_of-b
shape_of-b c = tried-long c.args.s c.args.wall.now c.args.vs.now c.args.lens.now c.args.pref c.args.b.now c.requires.s_in_bounds c.loop-k.b _ c.loop-k.invariant.1

pub shape_of-stack : goal.shape_of-stack
shape_of-stack c = c.loop-k.invariant.0

pub returns : goal.returns
returns c =
    let r = found-end c.args.s c.args.wall.now c.args.vs.now c.args.lens.now c.args.pref c.args.b.now c.requires.s_in_bounds c.loop-k.b _ c.loop-k.invariant.1 c.loop-k-test.false in
    record { value = r.0; b_after = r.1 }
