-- `rims::hits::is_hit` meets its contract. Assumes nothing.
use mathlib.Core.Path.{ap, ◌∙◌}
use Rattle.raster.specs.Grid.{stock_at}
use Rattle.raster.proofs.ContactLaws.{rim-point}
use Rattle.rims.proofs.hits.is_hit.Goals as goal

pub returns : goal.returns
returns c = c.at.ensures
    ∙ ap (stock_at c.args.g c.args.map.now)
    (rim-point c.args.c c.args.r c.args.n c.args.k _ _ _ _ (c.requires.rim.x c.args.k c.requires.k_lt_n) (c.requires.rim.y c.args.k c.requires.k_lt_n) c.scale.ensures
    c.add.ensures)
