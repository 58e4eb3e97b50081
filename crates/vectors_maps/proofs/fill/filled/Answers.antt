-- `vectors_maps::fill::filled` meets its contract. Assumes nothing.
use Rattle.std.proofs.Common.{refl}
use Rattle.vectors_maps.proofs.AnswerLaws.{held_three, filled_is}
use Rattle.vectors_maps.proofs.fill.filled.Goals as goal

pub fill_region-requires : goal.fill_region-requires
fill_region-requires c = record { over = c.requires.over; held = held_three _ _ _ _ _ _ c.requires.c_bound c.vertices.ensures refl; nx_in_bounds = c.requires.over.sides.columns }

pub returns : goal.returns
returns c = filled_is _ _ _ _ _ _ _ c.vertices.ensures c.fill_region.ensures
