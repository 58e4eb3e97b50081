-- `abi::of_geom::geom_normalized` meets its contract. Assumes nothing.
use mathlib.Core.Path.{ap, ◌∙◌}
use Rattle.geom.specs.declared.vec2.Vec2.{Vec2}
use Rattle.abi.specs.Geom.{put2}
use Rattle.abi.proofs.of_geom.geom_normalized.Goals as goal

pub returns : goal.returns
returns c = c.put.ensures ∙ ap (λ (v : Vec2). put2 v c.args.out.now) c.normalized.ensures
