-- `dilation::window::shade_row` meets its contract. Assumes nothing.
use native.Mathlib.Omega.{arith}
use Rattle.dilation.proofs.ShadeLaws.{blank_covered}
use Rattle.dilation.proofs.window.shade_row.Goals as goal

pub cover_within-requires : goal.cover_within-requires
cover_within-requires c = let p = c.requires in record { wide = p.wide; n_in_bounds = omega (arith, p.wide.places); covered = blank_covered _ _ _ _ p.wide p.n_in_bounds.1 }

pub cover_within-requires-2 : goal.cover_within-requires-2
cover_within-requires-2 c = let p = c.requires in record { wide = p.wide_2; n_in_bounds = omega (arith, p.wide.places); covered = blank_covered _ _ _ _ p.wide_2 p.n_in_bounds.2 }
