-- `bench::listen` meets its contract. The invariant: the bench is fit for its next line. Assumes nothing.
use Rattle.bench_lines.specs.Obey.{Fit}
use Rattle.bench.proofs.listen.Given as goal

abbrev pub invariant-loop : goal.invariant-loop
invariant-loop g l = Fit l.t.bench l.map l.log
