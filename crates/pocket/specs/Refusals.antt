-- The first of document 01's questions to a leaf called alone that is answered no: 12, 13, 14, 15, in that order. Definitions only.
use Rattle.std.specs.Prelude.{ℕ, ◌+◌, ◌*◌, Bool, cond, not, ◌&&◌, List, length, take, get_or, leb, Result, Ok, Err, Float}
use Rattle.loops.specs.Loop.{any}
use Rattle.loops.specs.Cells.{ones}
use Rattle.geom.specs.declared.vec2.Vec2.{Vec2}
use Rattle.raster.specs.declared.grid.Grid.{Grid}
use Rattle.entry.specs.Questions.{vertices_fit}
use Rattle.pocket.specs.declared.refusals.Refusal.{Refusal}
use Rattle.pocket.specs.declared.refusals.Refusal.TheVariants.{OutOfRange, NoRegion, NoRaster, TooShort}
use Rattle.pocket.specs.Ranges.{point_fit, coordinates_fit, samples_fit, grid_fit, disk_fit, sides_fit}

-- document 01's number of a refusal
abbrev pub number_of : Refusal → ℕ
number_of OutOfRange = 12
number_of NoRegion = 13
number_of NoRaster = 14
number_of TooShort = 15

-- what the questions come to
abbrev pub Asked : Type 0
Asked = Result Unit Refusal

-- a question whose answer is b; where that is yes, the rest
abbrev pub ask : Refusal → Bool → Asked → Asked
ask why b rest = cond b rest (Err why)

-- 14 and 15: the sides, and a map of so many bytes
unfoldable pub size_asked : ℕ → ℕ → ℕ → Asked
size_asked nx ny long = ask NoRaster (sides_fit nx ny) (ask TooShort (leb (ny * nx) long) (Ok tt))

-- 12 before them: whether all numbers are in range
unfoldable pub map_asked : Bool → ℕ → ℕ → ℕ → Asked
map_asked numbers nx ny long = ask OutOfRange numbers (size_asked nx ny long)

abbrev pub disk_asked : Grid → Vec2 → Float → ℕ → Asked
disk_asked g c r long = map_asked (grid_fit g && disk_fit c r) g.nx g.ny long

abbrev pub contact_asked : Grid → Vec2 → Float → ℕ → ℕ → Asked
contact_asked g c r samples long = map_asked (grid_fit g && (disk_fit c r && samples_fit samples)) g.nx g.ny long

-- there is no map to ask for
unfoldable pub cell_asked : Grid → Vec2 → Asked
cell_asked g p = ask OutOfRange (grid_fit g && point_fit p) (ask NoRaster (sides_fit g.nx g.ny) (Ok tt))

-- a log of so many places has n, and behind its used part room for all stock among the first n cells
unfoldable pub room_fit : ℕ → List ℕ → ℕ → ℕ → Bool
room_fit n m long used = leb n long && leb (used + ones (take n m)) long

unfoldable pub crescent_asked : Grid → Vec2 → Vec2 → Float → List ℕ → ℕ → ℕ → Asked
crescent_asked g prev c r m long used =
    let n = g.ny * g.nx in
    ask OutOfRange (grid_fit g && (point_fit prev && disk_fit c r)) (ask NoRaster (sides_fit g.nx g.ny) (ask TooShort (leb n (length m) && room_fit n m long used) (Ok tt)))

-- entry k of a log is no cell below n
abbrev pub past : List ℕ → ℕ → ℕ → Bool
past log n k = leb n (get_or log k 0)

-- the log has its used part, and each cell there is below n
unfoldable pub log_fit : List ℕ → ℕ → ℕ → Bool
log_fit log used n = leb used (length log) && not (any (past log n) 0 used)

unfoldable pub log_asked : ℕ → ℕ → ℕ → List ℕ → ℕ → Asked
log_asked nx ny long log used = ask NoRaster (sides_fit nx ny && log_fit log used (ny * nx)) (ask TooShort (leb (ny * nx) long) (Ok tt))

-- 13: 1 to 65 loops, each of 3 or more vertices, 4,096 in all, as many as are lent
unfoldable pub shape_fit : List Float → List ℕ → Bool
shape_fit vs lens = (leb 1 (length lens) && leb (length lens) 65) && vertices_fit vs lens

unfoldable pub fill_asked : Grid → List Float → List ℕ → ℕ → Asked
fill_asked g vs lens long = ask OutOfRange (grid_fit g && coordinates_fit vs) (ask NoRegion (shape_fit vs lens) (size_asked g.nx g.ny long))

-- the lengths of marks, squares and distances
unfoldable pub far_asked : ℕ → ℕ → ℕ → ℕ → ℕ → Asked
far_asked nx ny marks squares distances =
    let n = ny * nx in
    ask NoRaster (sides_fit nx ny) (ask TooShort (leb n marks && (leb (n + 3 * nx) squares && leb n distances)) (Ok tt))
