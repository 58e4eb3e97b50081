-- `links::straight::Ground::samples_clear` meets its contract. The invariant: no sample before k is blocked. Assumes nothing.
use mathlib.Core.Path.{◌≡◌, ap, ◌∙◌}
use mathlib.Core.Bool.{not}
use Rattle.loops.proofs.LoopLaws.{going_none, any-on, any_out, any_none}
use Rattle.setup.specs.Tables.{less_of}
use Rattle.links.specs.Straight.{sample_blocked, samples_clear}
use Rattle.links.proofs.StraightLaws.{blocked-is}
use Rattle.links.proofs.straight.Ground.samples_clear.Goals as goal
use Rattle.links.proofs.straight.Ground.samples_clear.Goals.{After-clear_at}

-- what the call answered
answer : (c : After-clear_at) → let s = c.args.self.now in sample_blocked s.setup s.wall.now s.vs.now s.lens.now s.map.now (less_of s.setup) c.args.a c.args.b c.args.n c.loop-k.k ≡ not c.clear_at.result
answer c = blocked-is _ _ _ _ _ _ _ _ _ c.loop-k.k _ _ c.point_of-q.ensures c.clear_at.ensures

pub loop-k-init : goal.loop-k-init
loop-k-init c = going_none _ _ _ _

pub returns-then-not-clear_at : goal.returns-then-not-clear_at
unfolding samples_clear
returns-then-not-clear_at c = let l = c.loop-k in
    ap not (any_out _ _ _ l.k l.invariant c.loop-k-test.true (answer (goal.at.returns-then-not-clear_at c).After-clear_at ∙ (ap not c.if-not-clear_at.true)))

pub loop-k-preserved : goal.loop-k-preserved
loop-k-preserved c = let l = c.loop-k in
    any-on _ _ _ l.k l.invariant c.loop-k-test.true (answer (goal.at.loop-k-preserved c).After-clear_at ∙ (ap not c.if-not-clear_at.false))

pub returns : goal.returns
unfolding samples_clear
returns c = ap not (any_none _ _ _ c.loop-k.k c.loop-k.invariant c.loop-k-test.false)
