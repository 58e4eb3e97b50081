-- `bench_lines::reader::line_end` meets its contract. Assumes nothing.
use Rattle.bench_lines.proofs.LineLaws.{sound}
use Rattle.bench_lines.proofs.ObeyLaws.{fit_next}
use Rattle.bench_lines.proofs.reader.line_end.Goals as goal

pub obey-requires-clause-sound : goal.obey-requires-clause-sound
obey-requires-clause-sound c = sound _ _ c.finish.ensures

pub returns-clause-fit : goal.returns-clause-fit
returns-clause-fit c = fit_next _ _ _ _ _ c.requires (sound _ _ c.finish.ensures) c.obey.ensures
