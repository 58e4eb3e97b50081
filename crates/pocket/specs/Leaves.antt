-- The public leaves called alone: the answer, and what each lent slice then holds. A refusal leaves it as it was. Definitions only.
use Rattle.std.specs.Prelude.{ℕ, ◌*◌, ◌≡◌, cond, ◌&&◌, List, ◌++◌, length, take, drop, Option, Result, Ok, Err, Float}
use Rattle.loops.specs.Cells.{ones}
use Rattle.numbers.specs.Order.{is_finite}
use Rattle.numbers.specs.Root.{root_of}
use Rattle.numbers.specs.Narrow.{narrow_of}
use Rattle.numbers.specs.Circle.{sin_of, cos_of}
use Rattle.geom.specs.declared.vec2.Vec2.{Vec2}
use Rattle.geom.specs.declared.region.Region.{Region}
use Rattle.distance.specs.Nearest.{transform_of}
use Rattle.distance.specs.Rooted.{distance_transform}
use Rattle.raster.specs.Grid.{cell_of}
use Rattle.raster.specs.Stock.{clear_disk, count_disk}
use Rattle.raster.specs.Log.{st, clear_after, undone, redone}
use Rattle.raster.specs.Contact.{rim_contact, angle_of}
use Rattle.filling.specs.Fill.{fill_region}
use Rattle.raster.specs.declared.grid.Grid.{Grid}
use Rattle.passes.specs.Worth.{wanted_of}
use Rattle.raster.specs.declared.contact.Contact.{Contact}
use Rattle.pocket.specs.declared.refusals.Refusal.{Refusal}
use Rattle.pocket.specs.declared.refusals.Refusal.TheVariants.{OutOfRange}
use Rattle.pocket.specs.Ranges.{contact_fit, cell_fit, angle_fit, root_fit}
use Rattle.pocket.specs.Refusals.{Asked, size_asked, disk_asked, contact_asked, cell_asked, crescent_asked, log_asked, fill_asked, far_asked}

-- where no question was answered no, the answer; else its refusal
abbrev pub unless : {A : Type 0} → Asked → (Refusal → A) → A → A
unless (Ok u) refused answer = answer
unless (Err why) refused answer = refused why

-- ---- the map

-- an answer, and what the lent map then holds
pub record OnMap (A : Type 0) : Type 0 where
  pub answer : A
  pub map : List ℕ

abbrev pub on_map : {A : Type 0} → A → List ℕ → OnMap A
on_map a m = record { answer = a; map = m }

-- the answer in another form
abbrev pub told_map : {A B : Type 0} → (A → B) → OnMap A → OnMap B
told_map f o = on_map (f o.answer) o.map

unfoldable pub clear_disk_of : Grid → Vec2 → Float → List ℕ → OnMap (Result ℕ Refusal)
clear_disk_of g c r m =
    let d = clear_disk g c r m in
    unless (disk_asked g c r (length m)) (λ why. on_map (Err why) m) (on_map (Ok d.removed) d.cells)

unfoldable pub count_disk_of : Grid → Vec2 → Float → List ℕ → Result ℕ Refusal
count_disk_of g c r m = unless (disk_asked g c r (length m)) Err (Ok (count_disk g c r m))

-- the stock among the map's cells
unfoldable pub standing_of : ℕ → ℕ → List ℕ → Result ℕ Refusal
standing_of nx ny m = unless (size_asked nx ny (length m)) Err (Ok (ones (take (ny * nx) m)))

-- points of a rim hit, and sampled
unfoldable pub contact_of : Grid → List ℕ → Vec2 → Float → ℕ → Result Contact Refusal
contact_of g m c r samples = unless (contact_asked g c r samples (length m)) Err (Ok (rim_contact g m c r samples))

-- the angle that they stand for
unfoldable pub contact_angle_of : ℕ → ℕ → Result Float Refusal
contact_angle_of hits samples = cond (contact_fit hits samples) (Ok (angle_of (record { hits = hits; samples = samples }))) (Err OutOfRange)

-- a contact that was counted has its angle
abbrev pub Angled : Result Contact Refusal → Type 0
Angled (Err why) = Unit
Angled (Ok t) = contact_angle_of t.hits t.samples ≡ Ok (angle_of t)

-- ---- the log

-- an answer, and what map and log then hold
pub record OnLog (A : Type 0) : Type 0 where
  pub answer : A
  pub map : List ℕ
  pub log : List ℕ

abbrev pub on_log : {A : Type 0} → A → List ℕ → List ℕ → OnLog A
on_log a m l = record { answer = a; map = m; log = l }

abbrev pub told_log : {A B : Type 0} → (A → B) → OnLog A → OnLog B
told_log f o = on_log (f o.answer) o.map o.log

-- the crescent is cleared from the map's cells; what lies behind them stays
unfoldable pub clear_crescent_of : Grid → Vec2 → Vec2 → Float → ℕ → List ℕ → List ℕ → OnLog (Result ℕ Refusal)
clear_crescent_of g prev c r used m l =
    let n = g.ny * g.nx in
    let s = clear_after g prev c r (st (take n m) l used) in
    unless (crescent_asked g prev c r m (length l) used) (λ why. on_log (Err why) m l) (on_log (Ok s.count) (s.cells ++ drop n m) s.log)

unfoldable pub undo_of : ℕ → ℕ → List ℕ → ℕ → List ℕ → OnMap (Result Unit Refusal)
undo_of nx ny log used m = unless (log_asked nx ny (length m) log used) (λ why. on_map (Err why) m) (on_map (Ok tt) (undone log 0 used m))

unfoldable pub clear_again_of : ℕ → ℕ → List ℕ → ℕ → List ℕ → OnMap (Result Unit Refusal)
clear_again_of nx ny log used m = unless (log_asked nx ny (length m) log used) (λ why. on_map (Err why) m) (on_map (Ok tt) (redone log 0 used m))

-- ---- places

-- the cell at a point of the grid
unfoldable pub cell_at_of : Grid → Vec2 → Result (Option (ℕ × ℕ)) Refusal
cell_at_of g p = unless (cell_asked g p) Err (Ok (cell_of g p))

-- all lent loops are one region
abbrev pub one_region : List ℕ → Region
one_region lens = record { at = 0; first = 0; loops = length lens }

unfoldable pub fill_of : Grid → List Float → List ℕ → List ℕ → OnMap (Result Unit Refusal)
fill_of g vs lens m =
    unless (fill_asked g vs lens (length m)) (λ why. on_map (Err why) m) (on_map (Ok tt) (fill_region g vs lens (one_region lens) m))

-- ---- distances

-- an answer, and what squares and distances then hold
pub record OnFar (A : Type 0) : Type 0 where
  pub answer : A
  pub squares : List ℕ
  pub distances : List Float

abbrev pub on_far : {A : Type 0} → A → List ℕ → List Float → OnFar A
on_far a q d = record { answer = a; squares = q; distances = d }

abbrev pub told_far : {A B : Type 0} → (A → B) → OnFar A → OnFar B
told_far f o = on_far (f o.answer) o.squares o.distances

unfoldable pub distance_map_of : ℕ → ℕ → List ℕ → ℕ → List ℕ → List Float → OnFar (Result Unit Refusal)
distance_map_of nx ny m mark q d =
    unless (far_asked nx ny (length m) (length q) (length d)) (λ why. on_far (Err why) q d)
    (on_far (Ok tt) (transform_of mark m nx ny q) (distance_transform mark m nx ny ++ drop (ny * nx) d))

-- ---- numbers

unfoldable pub sqrt_of : Float → Result Float Refusal
sqrt_of x = cond (root_fit x) (Ok (root_of x)) (Err OutOfRange)

unfoldable pub narrowed_of : Float → Result Float Refusal
narrowed_of x = cond (is_finite x) (Ok (narrow_of x)) (Err OutOfRange)

unfoldable pub sine_of : Float → Result Float Refusal
sine_of a = cond (angle_fit a) (Ok (sin_of a)) (Err OutOfRange)

unfoldable pub cosine_of : Float → Result Float Refusal
cosine_of a = cond (angle_fit a) (Ok (cos_of a)) (Err OutOfRange)

-- of a length that is a number, and a cell
unfoldable pub wanted_cells_of : Float → Float → Result ℕ Refusal
wanted_cells_of long x = cond (is_finite long && cell_fit x) (Ok (wanted_of long x)) (Err OutOfRange)
