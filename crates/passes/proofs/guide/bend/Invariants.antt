-- `passes::guide::bend` meets its contract. The invariant: the points before k are bent, and those from k on are as they were. Assumes nothing.
use Rattle.passes.proofs.GuideLaws.{Bending}
use Rattle.passes.proofs.guide.bend.Given as goal

abbrev pub invariant-loop-k : goal.invariant-loop-k
invariant-loop-k l = Bending l.len l.far l.initial.guide l.n l.guide l.s l.b l.k
