-- `bench_cases::listen` meets its contract. The invariant: the bench is fit for its next line. Assumes nothing.
use Rattle.bench_lines.specs.Obey.{Fit}
use Rattle.bench_cases.proofs.listen.Given as goal

abbrev pub invariant-loop : goal.invariant-loop
invariant-loop g l = Fit l.c.talk.bench l.map l.log
