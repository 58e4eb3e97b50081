-- `field::squares::near_words` meets its contract. Assumes nothing.
use Rattle.field.proofs.BandLaws.{cut-rows}
use Rattle.field.proofs.SquareLaws.{neared_rows}
use Rattle.field.proofs.squares.near_words.Goals as goal

pub shade_near-requires : goal.shade_near-requires
shade_near-requires c = record { sides = c.requires.sides; wanted_in = c.requires.wanted_in.0; setup_in_bounds = c.requires.setup_in_bounds; takes = c.in-Some.ensures }

pub near_squares-requires : goal.near_squares-requires
near_squares-requires c = record { sides = c.requires.sides; lo_lt_hi = c.requires.wanted_in.1; nx_in_bounds = c.requires.setup_in_bounds.0; nx_in_bounds_2 = c.requires.setup_in_bounds.1; marked_rows = cut-rows _ _ _ c.requires.wanted_in.0 }

pub returns : goal.returns
returns c = neared_rows _ _ _ _ _ c.requires.wanted_in.0.columns c.near_squares.ensures
