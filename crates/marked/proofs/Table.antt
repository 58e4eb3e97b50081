-- The marked table holds: each row is computed. Assumes nothing.
use mathlib.Core.Path.{refl}
use lib.Ieee.{round, of_bits, to_bits, of_int, to_unsigned, neg, add, sub, mul, div, lt, le, eq, is_nan}
use Rattle.loops.specs.Loop.{turns, loop, any}
use Rattle.loops.specs.Cells.{ones}
use Rattle.numbers.specs.Narrow.{narrow_of}
use Rattle.numbers.specs.Root.{root_of}
use Rattle.numbers.specs.Circle.{cos_of, sin_of, cos_series, sin_series}
use Rattle.numbers.specs.Whole.{floor_of, ceil_of}
use Rattle.numbers.specs.Order.{max_of, is_finite, rank_of, total_of}
use Rattle.geom.specs.Vec.{sum, difference, scaled, from_angle}
use Rattle.geom.specs.Region.{vertex_of, straddles_of, crossing_of, turned, point_in_loop, start_of, inside_loop, in_island, contains_of}
use Rattle.raster.specs.Grid.{reach_of, spans_of, fit_of, grid_of, sized_of, new_grid, center_of, on_grid, cell_of, stock_at}
use Rattle.raster.specs.Disk.{row_y, cell_at, first_from, cols_of, chord_of, disk_row, last_row, rows_of, left_of, right_of, less, crescent_row}
use Rattle.raster.specs.Sweep.{over_span, disk_at, over_disk, crescent_at, over_crescent}
use Rattle.raster.specs.Stock.{drop_cell, clear_disk}
use Rattle.raster.specs.Log.{clear_cell, clear_after, undone}
use Rattle.raster.specs.Contact.{samples_of, direction_at, rim_at, hit_at, hits_of, rim_contact, angle_of}
use Rattle.filling.specs.Fill.{fill_cell, fill_row, fill_region}
use Rattle.distance.specs.Nearest.{nearest_in_row, nearest, listed, squares_of, transform_of}
use Rattle.distance.specs.Rooted.{rooted_of, distances_of}
use Rattle.passes.specs.Worth.{wanted_of}
use Rattle.marked.specs.Table.{Table}

pub table : Table
unfolding of_bits to_bits round narrow_of root_of cos_of sin_of cos_series sin_series of_int to_unsigned neg add sub mul div lt le eq is_nan turns loop any ones
    floor_of ceil_of max_of is_finite rank_of total_of sum difference scaled from_angle vertex_of straddles_of crossing_of turned point_in_loop start_of inside_loop in_island
    contains_of reach_of spans_of fit_of grid_of sized_of new_grid center_of on_grid cell_of stock_at row_y cell_at first_from cols_of chord_of disk_row last_row rows_of left_of right_of less crescent_row
    over_span disk_at over_disk crescent_at over_crescent drop_cell clear_disk clear_cell clear_after undone samples_of direction_at rim_at hit_at hits_of angle_of
    rim_contact fill_cell fill_row fill_region nearest_in_row nearest listed
    squares_of transform_of rooted_of distances_of wanted_of
table = record {
  numbers = record { cosine = refl; root = refl; narrow_even = refl; narrow_odd = refl };
  disks = record { once = refl; twice = refl };
  crescents = record { log = refl; standing = refl; undone-all = refl; to_itself = refl };
  contacts = record { samples = refl; all = refl; all-angle = refl; none = refl; none-angle = refl };
  cells = record { off = refl; first = refl };
  squares = record { sides = refl; set = refl };
  distances = record { mid = refl; none = refl };
  passes = record { long = refl; short = refl };
}
