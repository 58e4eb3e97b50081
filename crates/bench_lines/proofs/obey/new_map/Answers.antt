-- `bench_lines::obey::new_map` meets its contract. Assumes nothing.
use native.Mathlib.Omega.{arith}
use Rattle.bench_lines.proofs.ObeyLaws.{few}
use Rattle.bench_lines.proofs.obey.new_map.Goals as goal

pub fill-requires : goal.fill-requires
fill-requires c = omega (arith, few _ c.requires.sides, c.requires.long)
