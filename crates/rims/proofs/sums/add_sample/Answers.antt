-- `rims::sums::add_sample` meets its contract. Assumes nothing.
use mathlib.Core.Path.{refl}
use Prim.Native.Nat.{◌+◌, ◌-◌, ◌*◌, ◌≤◌}
use native.Mathlib.Omega.{arith}
use Rattle.rims.specs.Offsets.{entry_at}
use Rattle.rims.proofs.SumLaws.{summed_few, summed_more, cells-inside}
use Rattle.rims.proofs.sums.add_sample.Goals as goal
use Rattle.rims.proofs.sums.add_sample.Goals.{Start}

-- the cells are the map's
inside : (s : Start) → (s.args.j - s.args.s) * s.args.g.nx + (s.args.i - s.args.s) + (entry_at s.args.w.now s.args.k - 1) + 32 ≤ s.args.g.ny * s.args.g.nx
inside s =
    cells-inside s.args.g _ _ _ s.requires.roomy.0 s.requires.roomy.1 s.args.map.now _ _ s.args.w.now s.requires.rims s.requires.s_value s.args.k _ _ s.requires.k_lt_n.0 refl s.requires.k_lt_n.1 refl

pub overflow_add-base-2 : goal.overflow_add-base-2
overflow_add-base-2 c = omega (arith, inside (goal.at.overflow_add-base-2 c).Start, c.requires.over.sides.cells)

pub add_cells-requires : goal.add_cells-requires
add_cells-requires c = record { a_in_bounds = omega (arith, inside (goal.at.add_cells-requires c).Start, c.requires.over.long); countable = summed_few c.args.g _ _ _ _ _ _ _ (omega (arith, c.requires.k_lt_n.0, c.requires.rims.entered.few)) c.requires.summed }

pub returns : goal.returns
returns c = summed_more c.args.g _ _ _ c.requires.roomy.0 c.requires.roomy.1 _ _ _ c.args.w.now c.requires.rims c.requires.s_value _ _ _ c.requires.k_lt_n.0 refl c.requires.k_lt_n.1 refl _ _ c.requires.summed c.add_cells.ensures
