-- What a tool meets. Definitions only.
use Rattle.setup.specs.Place.{Walls}
use Rattle.setup.specs.Tables.{Tables}
use Rattle.links.specs.declared.straight.Ground.{Ground}

-- the wall distances are those to the boundary, and the tables the tool's
pub record Equipped (g : Ground) : Type 0 where
  pub walls : Walls g.setup g.wall.now g.vs.now g.lens.now
  pub tables : Tables g.setup g.rim.now
