-- `links::path::point` meets its contract. Assumes nothing.
use mathlib.Core.Path.{ap, ◌∙◌}
use mathlib.Core.List.{List}
use lib.Ieee.{Float}
use Rattle.geom.specs.Region.{vertex_of}
use Rattle.links.proofs.ShortenLaws.{path-at}
use Rattle.links.proofs.path.point.Goals as goal

pub returns : goal.returns
returns c = c.vertex.ensures ∙ ap (λ (q : List Float). vertex_of q c.args.k) (path-at c.args.s c.args.w.now _ c.cells-n.ensures _ c.path-from.ensures)
