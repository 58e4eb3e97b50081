-- `geom::segment::seg_distance` meets its contract. Assumes nothing.
use mathlib.Core.Path.{ap, ◌∙◌}
use Rattle.numbers.specs.Root.{root_of}
use Rattle.geom.specs.Segment.{seg_distance}
use Rattle.geom.proofs.segment.seg_distance.Goals as goal

pub returns : goal.returns
unfolding seg_distance
returns c = c.sqrt.ensures ∙ ap root_of c.seg_square.ensures
