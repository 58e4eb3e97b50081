-- `field::rows::field_cell` meets its contract. Assumes nothing.
use Prim.Native.Nat.{ℕ, ◌+◌, ◌*◌, ◌≤◌, ◌<◌}
use native.Mathlib.Omega.{arith}
use Rattle.raster.proofs.GridLaws.{number-below}
use Rattle.field.proofs.GaugeLaws.{cell-left, cell-sampled, cell-told}
use Rattle.field.proofs.rows.field_cell.Goals as goal
use Rattle.field.proofs.rows.field_cell.Goals.{Start}

-- the cell is one of n
low : (s : Start) (n : ℕ) → s.args.g.setup.grid.ny * s.args.g.setup.grid.nx ≤ n → s.args.j * s.args.g.setup.grid.nx + s.args.i < n
low s n h = number-below s.args.g.setup.grid.nx s.args.g.setup.grid.ny s.args.i s.args.j n s.requires.i_lt_nx.0 s.requires.i_lt_nx.1 h

pub overflow_mul-k : goal.overflow_mul-k
overflow_mul-k c = omega (arith, low (goal.at.overflow_mul-k c).Start _ c.requires.sensing.over.sides.cells)

pub overflow_add-k : goal.overflow_add-k
overflow_add-k c = omega (arith, low (goal.at.overflow_add-k c).Start _ c.requires.sensing.over.sides.cells)

pub wanted-requires : goal.wanted-requires
wanted-requires c = let p = c.requires.sensing in record { k_in_bounds = (low (goal.at.wanted-requires c).Start _ p.allowed-long, low (goal.at.wanted-requires c).Start _ p.near-long) }

pub value_at-v-requires : goal.value_at-v-requires
value_at-v-requires c = let p = c.requires.sensing in record { over = p.over; nx_in_bounds = p.stock-long; tables = p.tables; known_at = c.requires.known_at; i_lt_nx = (c.requires.i_lt_nx.0, c.requires.i_lt_nx.1) }

pub offset_bounds-f-k : goal.offset_bounds-f-k
offset_bounds-f-k c = omega (arith, low (goal.at.offset_bounds-f-k c).Start _ c.requires.sensing.over.sides.cells)

pub bounds-f-k : goal.bounds-f-k
bounds-f-k c = low (goal.at.bounds-f-k c).Start _ c.requires.sensing.field-long

pub overflow_add-result : goal.overflow_add-result
overflow_add-result c = omega (arith, low (goal.at.overflow_add-result c).Start _ c.requires.sensing.over.sides.cells, c.requires.i_lt_nx.2)

pub returns-then-v : goal.returns-then-v
returns-then-v c = cell-sampled _ _ _ _ _ _ _ _ _ _ _ c.wanted.ensures c.if-wanted.true _ c.value_at-v.ensures c.if-v.true

pub returns-else-v : goal.returns-else-v
returns-else-v c = cell-told _ _ _ _ _ _ _ _ _ _ _ c.wanted.ensures c.if-wanted.true _ c.value_at-v.ensures c.if-v.false

pub returns-else-wanted : goal.returns-else-wanted
returns-else-wanted c = cell-left _ _ _ _ _ _ _ _ _ _ _ c.wanted.ensures c.if-wanted.false
