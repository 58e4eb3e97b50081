-- `abi::of_setup::links_link_clear` meets its contract. Assumes nothing.
use mathlib.Core.Path.{sym, ◌∙◌}
use native.Mathlib.Omega.{arith}
use Rattle.rims.proofs.TileLaws.{tiles_long}
use Rattle.abi.proofs.SetupLaws.{walls_of_lem, over-grid, tables_made, link-plain}
use Rattle.abi.proofs.of_setup.links_link_clear.Goals as goal

pub slice_bounds-fill-end : goal.slice_bounds-fill-end
slice_bounds-fill-end c = sym tiles_long

pub fill-requires : goal.fill-requires
fill-requires c = record { over = over-grid _ _ _ _ _ _ c.made-s.ensures.0 c.made-s.ensures.1 _ c.requires.over_2; in_bounds = omega (arith, tiles_long) }

pub slice_bounds-ground-end : goal.slice_bounds-ground-end
slice_bounds-ground-end c = sym (c.fill.auto.tiles ∙ tiles_long)

pub link_clear-requires : goal.link_clear-requires
link_clear-requires c = let m = c.made-s in record { walls = walls_of_lem _ _ _ _ _ _ m.ensures.0 m.ensures.1 _ _ _ c.requires.over c.requires.held; tables = tables_made _ _ _ _ _ _ m.ensures.0 m.ensures.1 _ c.requires.tables }

pub invariant_of-ground : goal.invariant_of-ground
invariant_of-ground c = record { over = over-grid _ _ _ _ _ _ c.made-s.ensures.0 c.made-s.ensures.1 _ c.requires.over_2; tiled = c.fill.ensures }

pub returns : goal.returns
returns c = c.link_clear.ensures ∙ link-plain _ _ _ _ _ _ c.made-s.ensures.0 c.made-s.ensures.1 _ _ _ _ _ _
