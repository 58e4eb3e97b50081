-- `passes::shifts::find_shift` meets its contract. The invariant: the tries so far found no shift, and `sh` and `w` are what they leave. Assumes nothing.
use Rattle.loops.specs.Loop.{on, turn}
use Rattle.loops.proofs.LoopLaws.{Going}
use Rattle.setup.specs.Place.{allowed_at}
use Rattle.passes.specs.Shifts.{sk, look}
use Rattle.passes.proofs.shifts.find_shift.Given as goal

abbrev pub invariant-loop-try : goal.invariant-loop-try
invariant-loop-try l = Going (turn (look l.ground.setup (allowed_at l.ground.setup l.ground.wall.now l.ground.vs.now l.ground.lens.now) l.ground.map.now l.g l.left l.step l.most)) 0 8193 (on (sk l.shift l.initial.w)) (on (sk l.sh l.w)) l._try
