-- `vectors_maps::fill::vertices` meets its contract. The invariant: the floats so far are written. Assumes nothing.
use Rattle.std.proofs.Common.{◌≡◌, length, set, ap, ◌∙◌, arith}
use Rattle.loops.proofs.LoopLaws.{going_none, going_more, going_end}
use Rattle.vectors_maps.specs.Answers.{vertices_of}
use Rattle.vectors_maps.proofs.AnswerLaws.{vertices-long}
use Rattle.vectors_maps.proofs.fill.vertices.Goals as goal
use Rattle.vectors_maps.proofs.fill.vertices.Goals.{At-loop-k}

long : (c : At-loop-k) → length c.loop-k.vs ≡ 48
long c = ap length c.loop-k.invariant.is ∙ vertices-long c.args.s.now c.loop-k.k c.args.vs.now ∙ c.told-vs

pub loop-k-init : goal.loop-k-init
loop-k-init c = going_none _ _ _ _

pub bounds-s-k : goal.bounds-s-k
bounds-s-k c = omega (arith, long (goal.at.bounds-s-k c).At-loop-k, c.loop-k-test.true, c.told-s)

pub loop-k-preserved : goal.loop-k-preserved
loop-k-preserved c = going_more _ _ _ _ _ _ _ c.loop-k.invariant (omega (arith, long (goal.at.loop-k-preserved c).At-loop-k, c.loop-k-test.true)) (ap (set c.loop-k.vs c.loop-k.k) c.float.ensures)

pub returns : goal.returns
unfolding vertices_of
returns c = going_end _ _ _ _ _ _ c.loop-k.invariant (omega (arith, long (goal.at.returns c).At-loop-k, c.loop-k-test.false))
