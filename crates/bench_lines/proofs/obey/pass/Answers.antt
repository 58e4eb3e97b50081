-- `bench_lines::obey::pass` meets its contract. Assumes nothing.
use Rattle.bench_lines.proofs.ObeyLaws.{ready_lent}
use Rattle.bench_lines.proofs.obey.pass.Goals as goal

pub clear_disk_after_logged-removed-requires-clause-ready : goal.clear_disk_after_logged-removed-requires-clause-ready
clear_disk_after_logged-removed-requires-clause-ready c = ready_lent _ _ c.requires.lent
