-- `abi::of_raster::raster_new` meets its contract. Assumes nothing.
use Rattle.std.specs.Prelude.{Result}
use Rattle.raster.specs.declared.grid.Grid.{Grid}
use Rattle.raster.specs.declared.grid.Refusal.{Refusal}
use mathlib.Core.Path.{sym, ap, ◌∙◌}
use Rattle.raster.proofs.GridLaws.{new_sides}
use Rattle.abi.specs.Raster.{packed_grid, corner_put}
use Rattle.abi.proofs.of_raster.raster_new.Goals as goal

pub sides-requires : goal.sides-requires
sides-requires c = let s = new_sides _ _ _ _ _ (sym c.new.ensures ∙ c.in-Ok.is) in record { nx_bound = s.columns; ny_bound = s.rows }

pub returns-in-Ok : goal.returns-in-Ok
unfolding packed_grid corner_put
returns-in-Ok c = let is = sym c.in-Ok.is ∙ c.new.ensures in record { value = c.sides.ensures ∙ ap packed_grid is; out_after = c.put.ensures ∙ ap (λ (r : Result Grid Refusal). corner_put r c.args.out.now) is }

pub returns-in-Err : goal.returns-in-Err
unfolding packed_grid corner_put
returns-in-Err c = let is = sym c.in-Err.is ∙ c.new.ensures in record { value = c.from-in-Err.ensures ∙ c.from.ensures ∙ ap packed_grid is; out_after = ap (λ (r : Result Grid Refusal). corner_put r c.args.out.now) is }
