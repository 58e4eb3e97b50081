-- `field::rows::count_run` meets its contract. Assumes nothing.
use mathlib.Core.Path.{sym, subst}
use Prim.Native.Nat.{ℕ, ◌+◌, ◌*◌, ◌≤◌}
use native.Mathlib.Omega.{arith}
use Rattle.loops.proofs.Cases.{never}
use Rattle.loops.proofs.CellLaws.{row_below}
use Rattle.raster.specs.Contact.{samples_of}
use Rattle.rims.specs.Offsets.{Rims}
use Rattle.rims.specs.Sums.{HitsAlong}
use Rattle.rims.proofs.SumLaws.{zeros-long}
use Rattle.field.proofs.rows.count_run.Goals as goal
use Rattle.field.proofs.rows.count_run.Goals.{Start}

-- the row is one of n cells
low : (s : Start) (n : ℕ) → s.args.g.setup.grid.ny * s.args.g.setup.grid.nx ≤ n → s.args.j * s.args.g.setup.grid.nx + s.args.g.setup.grid.nx ≤ n
low s n h = row_below s.args.j s.args.g.setup.grid.ny s.args.g.setup.grid.nx n s.requires.j_lt_ny.0 h

pub overflow_mul-row : goal.overflow_mul-row
overflow_mul-row c = let p = c.requires.j_lt_ny in omega (arith, low (goal.at.overflow_mul-row c).Start _ c.requires.sensing.over.sides.cells, p.1, p.2)

pub overflow_add-row : goal.overflow_add-row
overflow_add-row c = let p = c.requires.j_lt_ny in omega (arith, low (goal.at.overflow_add-row c).Start _ c.requires.sensing.over.sides.cells, p.1, p.2)

pub overflow_add-row-2 : goal.overflow_add-row-2
overflow_add-row-2 c = let p = c.requires.j_lt_ny in omega (arith, low (goal.at.overflow_add-row-2 c).Start _ c.requires.sensing.over.sides.cells, p.1, p.2)

pub is_dense-requires : goal.is_dense-requires
is_dense-requires c = let S = c.requires.sensing in
    let p = c.requires.j_lt_ny in record { end_in_bounds = (omega (arith, low (goal.at.is_dense-requires c).Start _ S.allowed-long, p.2), omega (arith, low (goal.at.is_dense-requires c).Start _ S.near-long, p.2), omega (arith, low (goal.at.is_dense-requires c).Start _ S.stock-long, p.2)); first_le_end = (omega (arith, p.1), omega (arith, low (goal.at.is_dense-requires c).Start _ S.over.sides.cells, p.2)) }

pub hits_along-requires : goal.hits_along-requires
unfolding samples_of
hits_along-requires c = let S = c.requires.sensing in
    let n = c.samples_of-n.ensures in record { over = S.over; rims = subst (λ (n : ℕ). Rims c.args.g.setup.grid c.args.g.setup.r n c.args.rim.now) (sym n) S.tables.rims; n_nonzero = omega (arith, n); counts_value = c.requires.counts_value }

pub returns-then-is_dense : goal.returns-then-is_dense
returns-then-is_dense c = let e = c.hits_along.ensures in
    (e.0, λ t. subst (λ (n : ℕ). HitsAlong c.args.g.setup.grid c.args.map.now c.args.g.setup.r n c.args.from c.args.j c.hits_along.new.counts) c.samples_of-n.ensures (e.1 t))

pub returns : goal.returns
returns c = (zeros-long _ c.requires.counts_value, λ t. never t)
