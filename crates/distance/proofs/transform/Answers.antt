-- `distance::transform` meets its contract. Assumes nothing.
use mathlib.Core.Path.{refl, ◌∙◌}
use native.Mathlib.Omega.{arith}
use Rattle.distance.proofs.NumberLaws.{one-row}
use Rattle.distance.proofs.RowLaws.{down_self, transformed}
use Rattle.distance.proofs.NearestLaws.{work-is}
use Rattle.distance.proofs.transform.Goals as goal

pub returns : goal.returns
returns c = let t = transformed (one-row c.args.nx c.args.ny c.requires.map_sides.row) c.first.ensures c.down.ensures (c.up.ensures _ _ (down_self c.down.ensures)) c.all.ensures c.put.ensures in record { transformed = t; work_after = work-is _ _ _ _ _ _ c.requires.map_sides c.requires.nx_in_bounds_2 (c.put.auto.work ∙ c.all.auto.work ∙ c.up.auto.work ∙ c.down.auto.work ∙ c.first.auto.work) t }
