-- `passes::trial::simulate` meets its contract. The invariants: the pass is what the legs so far, and in the leg the samples so far, leave (`Going`), and lengths, room and where no stock is are kept (`Safe`). Each `break 'outer` goes by `leaves`. Assumes nothing.
use Rattle.loops.specs.Loop.{on, turn}
use Rattle.loops.proofs.LoopLaws.{Going}
use Rattle.geom.specs.Points.{points}
use Rattle.setup.specs.Place.{allowed_at}
use Rattle.passes.specs.Simulate.{ps, sample_step, leg_step}
use Rattle.passes.proofs.SimulateLaws.{Safe}
use Rattle.passes.proofs.trial.simulate.Given as goal

abbrev pub invariant-loop-k : goal.invariant-loop-k
invariant-loop-k l = Going (turn (sample_step l.s (allowed_at l.s l.wall l.vs l.lens) l.kept l.leg)) 0 l.n (on (ps l.initial.map l.initial.log l.initial.triples l.initial.t)) (on (ps l.map l.log l.triples l.t)) l.k × Safe l.kept (ps l.initial.map l.initial.log l.initial.triples l.initial.t) (ps l.map l.log l.triples l.t)

abbrev pub invariant-outer : goal.invariant-outer
invariant-outer l = Going (turn (leg_step l.s (allowed_at l.s l.wall l.vs l.lens) l.kept (points 0 l.m l.guide))) 1 l.m (on (ps l.initial.map l.initial.log l.initial.triples l.initial.t)) (on (ps l.map l.log l.triples l.t)) l.seg × Safe l.kept (ps l.initial.map l.initial.log l.initial.triples l.initial.t) (ps l.map l.log l.triples l.t)
