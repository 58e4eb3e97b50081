-- `bench_lines::obey::fill` meets its contract. Assumes nothing.
use Rattle.bench_lines.proofs.ObeyLaws.{both_filled}
use Rattle.bench_lines.proofs.obey.fill.Goals as goal

pub returns : goal.returns
returns c = both_filled _ _ _ _ c.requires (c.fill.ensures.after (λ y h. h)) (c.fill-2.ensures.after (λ y h. h))
