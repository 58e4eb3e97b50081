-- `smoothing::smooth::resample` meets its contract. Assumes nothing.
use native.Mathlib.Omega.{arith}
use Rattle.smoothing.proofs.SmoothLaws.{kept-some, resample_closed, resample_same, resample_room, resample_more}
use Rattle.smoothing.proofs.smooth.resample.Goals as goal

pub returns-then-closed : goal.returns-then-closed
returns-then-closed c = resample_closed _ _ _ _ _ _ c.requires.lt_n c.requires.n_in_bounds c.keep-kept.ensures c.if-closed.true

pub overflow_sub-kept : goal.overflow_sub-kept
overflow_sub-kept c = kept-some c.args.closed _ _ _ _ _ c.requires.lt_n c.requires.n_in_bounds c.keep-kept.ensures

pub returns-then-same : goal.returns-then-same
returns-then-same c = resample_same _ _ _ _ _ _ c.requires.lt_n c.requires.n_in_bounds c.keep-kept.ensures c.if-closed.false _ _ _ c.vertex-last.ensures c.vertex-end.ensures c.same.ensures c.if-same.true

pub put-requires : goal.put-requires
put-requires c = let room = resample_room _ _ _ _ _ _ c.requires.lt_n c.requires.n_in_bounds c.keep-kept.ensures c.if-closed.false _ _ _ c.vertex-last.ensures c.vertex-end.ensures c.same.ensures c.if-same.false in
    omega (arith, room, c.requires.n_in_bounds, c.keep-kept.ensures.long)

pub returns : goal.returns
returns c = resample_more _ _ _ _ _ _ c.requires.lt_n c.requires.n_in_bounds c.keep-kept.ensures c.if-closed.false _ _ _ c.vertex-last.ensures c.vertex-end.ensures c.same.ensures c.if-same.false _ c.put.ensures
