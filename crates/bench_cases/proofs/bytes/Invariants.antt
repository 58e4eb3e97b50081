-- `bench_cases::bytes` meets its contract. The invariant: the bench is fit for its next line. Assumes nothing.
use Rattle.bench_lines.specs.Obey.{Fit}
use Rattle.bench_cases.proofs.bytes.Given as goal

abbrev pub invariant-loop-b : goal.invariant-loop-b
invariant-loop-b g l = Fit l.c.talk.bench l.map l.log
