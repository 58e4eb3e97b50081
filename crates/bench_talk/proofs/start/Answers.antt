-- `bench_talk::start` meets its contract. Assumes nothing.
use Rattle.bench_talk.proofs.HearLaws.{hears_start}
use Rattle.bench_talk.proofs.start.Goals as goal

pub returns-clause-by_index : goal.returns-clause-by_index
returns-clause-by_index c = hears_start _ _ c.start.ensures c.begin.ensures
