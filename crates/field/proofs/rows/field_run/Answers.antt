-- `field::rows::field_run` meets its contract. Assumes nothing.
use mathlib.Core.Path.{refl}
use native.Mathlib.Omega.{arith}
use Rattle.field.proofs.rows.field_run.Goals as goal

pub count_run-told-requires : goal.count_run-told-requires
count_run-told-requires c = let s = c.requires.sensing in record { sensing = record { over = s.over; allowed-long = s.allowed-long; stock-long = s.stock-long; near-long = s.near-long; field-long = omega arith; tables = s.tables }; j_lt_ny = (c.requires.j_lt_ny.0, c.requires.first_le_end.0, c.requires.first_le_end.1); counts_value = refl }

pub field_cells-requires : goal.field_cells-requires
field_cells-requires c = record { sensing = c.requires.sensing; counts_len = c.count_run-told.ensures; j_lt_ny = c.requires.j_lt_ny; from_le_first = (c.start_of-from.ensures, c.requires.first_le_end.1) }
