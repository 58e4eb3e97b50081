-- `pocket::far::pocket_distance_map` meets its contract. Assumes nothing.
use Rattle.pocket.specs.Answers.{of_done}
use Rattle.pocket.proofs.LeafLaws.{told-far}
use Rattle.pocket.proofs.FarLaws.{far_finished}
use Rattle.pocket.proofs.far.pocket_distance_map.Goals as goal

pub returns : goal.returns
returns c = let s = c.args in
    let d = c.distance_map in record { distances_after = told-far of_done _ _ c.of_done.ensures _ _ _ d.ensures.distances_after; transformed = far_finished _ _ _ d.ensures.transformed c.of_done.ensures }
