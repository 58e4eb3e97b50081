-- `filling::region::fill_rows` meets its contract. The invariant: the map is what the rows so far leave, and no byte of the scratch is 1. Assumes nothing.
use mathlib.Core.Path.{◌≡◌}
use lib.ListN.{length}
use Rattle.loops.proofs.LoopLaws.{Going}
use Rattle.filling.specs.Fill.{fill_row}
use Rattle.filling.specs.Columns.{Blank}
use Rattle.filling.proofs.region.fill_rows.Given as goal

abbrev pub invariant-loop-j : goal.invariant-loop-j
invariant-loop-j l = Going (fill_row l.g l.vs l.lens l.region) 0 l.g.ny l.initial.map l.map l.j × Blank l.g.nx l.row × Blank l.g.nx l.cover × (length l.row ≡ 4096) × (length l.cover ≡ 4096)
