-- The questions of document 01 on a job, 1 to 15, in its words and order; the first no is the answer. Definitions only.
use Rattle.raster.specs.declared.grid.Refusal.{Refusal}
use Rattle.std.specs.Prelude.{ℕ, ◌+◌, ◌*◌, Bool, true, cond, not, ◌&&◌, ◌||◌, List, [], ◌∷◌, ◌++◌, length, get_or, eqb, ltb, leb, Float, Option, None, Some, Result, Ok, Err}
use Rattle.std.specs.Float.{nan, binary64}
use Rattle.std.specs.Float.Ieee.{of_bits, add, sub, mul, div, lt, le}
use Rattle.loops.specs.Loop.{any}
use Rattle.numbers.specs.Order.{is_finite, abs_of}
use Rattle.numbers.specs.Small.{f1, f2, f180, f1000, c01, tiny}
use Rattle.geom.specs.Vec.{f0}
use Rattle.geom.specs.Region.{bounds_of}
use Rattle.geom.specs.declared.region.Corners.{Corners}
use Rattle.raster.specs.Grid.{grid_of, new_grid}
use Rattle.raster.specs.declared.grid.Grid.{Grid}
use Rattle.entry.specs.Regions.{sum_of, pocket_of}
use Rattle.entry.specs.declared.params.AdaptiveParams.{AdaptiveParams}
use Rattle.entry.specs.declared.judge.Lengths.{Lengths}
use Rattle.entry.specs.declared.questions.Question.{Question}
use Rattle.entry.specs.declared.questions.Question.TheVariants.{Diameter, Engagement, StepDown, Depth, Leave, Safe, Feeds, Ramp, Helix, Thinning, Resolution, Ranges, Shapes, Raster, Lent}

-- ---- numbers

-- 0.3, 45.0, 60.0, 80.0, 100.0, 10000.0
abbrev pub c03 : Float
c03 = of_bits binary64 0x3fd3_3333_3333_3333

abbrev pub f45 : Float
f45 = of_bits binary64 0x4046_8000_0000_0000

abbrev pub f60 : Float
f60 = of_bits binary64 0x404e_0000_0000_0000

abbrev pub f80 : Float
f80 = of_bits binary64 0x4054_0000_0000_0000

abbrev pub f100 : Float
f100 = of_bits binary64 0x4059_0000_0000_0000

abbrev pub f10000 : Float
f10000 = of_bits binary64 0x40c3_8800_0000_0000

-- finite and above 0
unfoldable pub above_zero : Float → Bool
above_zero x = is_finite x && lt f0 x

-- absent, or passing the test
unfoldable pub absent_or : (Float → Bool) → Option Float → Bool
absent_or test None = true
absent_or test (Some x) = test x

unfoldable pub given_or : Float → Option Float → Float
given_or d None = d
given_or d (Some x) = x

-- the cell: resolution, else diameter/80; the helix radius that is tried first: as given, else 0.3 * diameter
unfoldable pub cell_of : AdaptiveParams → Float
cell_of p = given_or (div binary64 p.tool_diameter f80) p.resolution

unfoldable pub helix_of : AdaptiveParams → Float
helix_of p = given_or (mul binary64 c03 p.tool_diameter) p.helix_radius

-- ---- the parameters

-- 1. Tool diameter finite and above 0?
unfoldable pub diameter_fit : AdaptiveParams → Bool
diameter_fit p = above_zero p.tool_diameter

-- 2. Max engagement finite, at least 1, below 180?
unfoldable pub engagement_fit : AdaptiveParams → Bool
engagement_fit p = let e = p.max_engagement_deg in is_finite e && (le f1 e && lt e f180)

-- 3. Step-down finite and above 0?
unfoldable pub step_down_fit : AdaptiveParams → Bool
step_down_fit p = above_zero p.step_down

-- 4. Top and bottom finite, bottom below top?
unfoldable pub depth_fit : AdaptiveParams → Bool
depth_fit p = is_finite p.top && (is_finite p.bottom && lt p.bottom p.top)

-- 5. Stock to leave finite, 0 or more?
unfoldable pub leave_fit : AdaptiveParams → Bool
leave_fit p = is_finite p.stock_to_leave && le f0 p.stock_to_leave

-- 6. Safe Z finite, above top?
unfoldable pub safe_fit : AdaptiveParams → Bool
safe_fit p = is_finite p.safe_z && lt p.top p.safe_z

-- 7. Feed, plunge feed, link feed finite and above 0?
unfoldable pub feeds_fit : AdaptiveParams → Bool
feeds_fit p = above_zero p.feed && (above_zero p.plunge_feed && above_zero p.link_feed)

-- 8. Helix ramp finite, above 0, at most 45?
unfoldable pub ramp_fit : AdaptiveParams → Bool
ramp_fit p = above_zero p.helix_ramp_deg && le p.helix_ramp_deg f45

-- 9. Helix radius absent, or finite and above 0?
unfoldable pub helix_fit : AdaptiveParams → Bool
helix_fit p = absent_or above_zero p.helix_radius

-- 10. Chip thinning limit absent, or finite and 1 or more?
unfoldable pub one_or_more : Float → Bool
one_or_more x = is_finite x && le f1 x

unfoldable pub thinning_fit : AdaptiveParams → Bool
thinning_fit p = absent_or one_or_more p.chip_thinning_max

-- 11. Resolution absent, or finite, above 0, at most diameter/60 + 1e-12?
unfoldable pub fine_for : Float → Float → Bool
fine_for d x = above_zero x && le x (add binary64 (div binary64 d f60) tiny)

unfoldable pub resolution_fit : AdaptiveParams → Bool
resolution_fit p = absent_or (fine_for p.tool_diameter) p.resolution

-- 12. Diameter 0.1 to 100; cell at least diameter/1000; stock to leave at most 100; helix radius, if given, at most 1,000; (top - bottom)/step-down at most 10,000?
unfoldable pub at_most1000 : Float → Bool
at_most1000 x = le x f1000

unfoldable pub ranges_fit : AdaptiveParams → Bool
ranges_fit p =
    let d = p.tool_diameter in
    (le c01 d && le d f100)
    && (le (div binary64 d f1000) (cell_of p)
    && (le p.stock_to_leave f100
    && (absent_or at_most1000 p.helix_radius
    && le (div binary64 (sub binary64 p.top p.bottom) p.step_down) f10000)))

-- ---- the regions

-- each number of the list is from a to e
abbrev pub outside : ℕ → ℕ → List ℕ → ℕ → Bool
outside a e l k = ltb (get_or l k 0) a || ltb e (get_or l k 0)

unfoldable pub all_from : ℕ → ℕ → List ℕ → Bool
all_from a e l = not (any (outside a e l) 0 (length l))

-- each coordinate is finite and within ±10,000
unfoldable pub placed : Float → Bool
placed x = is_finite x && le (abs_of x) f10000

abbrev pub astray : List Float → ℕ → Bool
astray vs k = not (placed (get_or vs k nan))

unfoldable pub all_placed : List Float → Bool
all_placed vs = not (any (astray vs) 0 (length vs))

-- 13. Each loop 3 or more vertices, at most 64 islands a region, 16 stock regions, 4,096 vertices in all, loop lengths that add up exactly to the vertices
-- lent, coordinates finite and within ±10,000? Without a stock list there is the pocket alone. (A loop of more than 4,096 vertices is too many by itself.)
unfoldable pub most_regions : Bool → ℕ
most_regions whole = cond whole 1 17

unfoldable pub counts_fit : Bool → List ℕ → List ℕ → Bool
counts_fit whole lens regions =
    (leb 1 (length regions) && leb (length regions) (most_regions whole)) && (all_from 1 65 regions && eqb (sum_of regions) (length lens))

unfoldable pub vertices_fit : List Float → List ℕ → Bool
vertices_fit vs lens = all_from 3 4096 lens && (leb (sum_of lens) 4096 && eqb (2 * sum_of lens) (length vs))

unfoldable pub shapes_fit : Bool → List Float → List ℕ → List ℕ → Bool
shapes_fit whole vs lens regions = counts_fit whole lens regions && (vertices_fit vs lens && all_placed vs)

-- ---- the raster

-- Grid::new(lo, hi, cell, 2.0 * cell) over the pocket's bounds
abbrev pub corners_of : List Float → List ℕ → List ℕ → Corners
corners_of vs lens regions = bounds_of vs lens (pocket_of lens regions)

unfoldable pub job_grid : AdaptiveParams → List Float → List ℕ → List ℕ → Grid
job_grid p vs lens regions = let c = corners_of vs lens regions in grid_of c.lo c.hi (cell_of p) (mul binary64 f2 (cell_of p))

-- 14. Raster sides at most 4,096, cells N at most 1,048,576?
abbrev pub small : Grid → Bool
small g = leb g.nx 4096 && (leb g.ny 4096 && leb (g.ny * g.nx) 1048576)

unfoldable pub raster_fit : AdaptiveParams → List Float → List ℕ → List ℕ → Bool
raster_fit p vs lens regions = small (job_grid p vs lens regions)

-- what `Grid::new` answers: the raster, or that it is too large; its other refusals are never met after 1 to 13 (proofs/FitLaws.antt)
unfoldable pub raster_of : AdaptiveParams → List Float → List ℕ → List ℕ → Result Grid Refusal
raster_of p vs lens regions = let c = corners_of vs lens regions in new_grid c.lo c.hi (cell_of p) (mul binary64 f2 (cell_of p))

-- ---- what is lent

-- 15. Every lent slice at least as long as the closing list says?
unfoldable pub lent_fit : Grid → Lengths → Bool
lent_fit g l =
    let n = g.ny * g.nx in
    (leb (8 * n) l.bytes && leb (32 * n + 8192) l.words) && (leb (2 * n) l.singles && leb (32 * n + 8192) l.doubles)

-- ---- the first no

-- the number of a question
unfoldable pub number_of : Question → ℕ
number_of Diameter = 1
number_of Engagement = 2
number_of StepDown = 3
number_of Depth = 4
number_of Leave = 5
number_of Safe = 6
number_of Feeds = 7
number_of Ramp = 8
number_of Helix = 9
number_of Thinning = 10
number_of Resolution = 11
number_of Ranges = 12
number_of Shapes = 13
number_of Raster = 14
number_of Lent = 15

-- a question with its answer
pub record Answer : Type 0 where
  pub question : Question
  pub fit : Bool

abbrev pub to : Question → Bool → Answer
to question fit = record { question = question; fit = fit }

-- the first that is a no
unfoldable pub first_no : List Answer → Option Question
first_no [] = None
first_no (a ∷ rest) = cond a.fit (first_no rest) (Some a.question)

-- of a single one
abbrev pub asked : Question → Bool → Result Unit Question
asked question fit = cond fit (Ok tt) (Err question)

-- 1 to 12, 13 to 15
abbrev pub first_twelve : AdaptiveParams → List Answer
first_twelve p =
    to Diameter (diameter_fit p) ∷ to Engagement (engagement_fit p) ∷ to StepDown (step_down_fit p) ∷ to Depth (depth_fit p)
    ∷ to Leave (leave_fit p) ∷ to Safe (safe_fit p) ∷ to Feeds (feeds_fit p) ∷ to Ramp (ramp_fit p)
    ∷ to Helix (helix_fit p) ∷ to Thinning (thinning_fit p) ∷ to Resolution (resolution_fit p) ∷ to Ranges (ranges_fit p) ∷ []

abbrev pub last_three : AdaptiveParams → Bool → List Float → List ℕ → List ℕ → Lengths → List Answer
last_three p whole vs lens regions l =
    to Shapes (shapes_fit whole vs lens regions) ∷ to Raster (raster_fit p vs lens regions) ∷ to Lent (lent_fit (job_grid p vs lens regions) l) ∷ []

unfoldable pub refusal_of : AdaptiveParams → Bool → List Float → List ℕ → List ℕ → Lengths → Option Question
refusal_of p whole vs lens regions l = first_no (first_twelve p ++ last_three p whole vs lens regions l)

-- what is asked for, where no answer was no
unfoldable pub judged_by : {A : Type 0} → Option Question → A → Result A Question
judged_by None a = Ok a
judged_by (Some q) a = Err q

-- the raster of the job
unfoldable pub judged_of : AdaptiveParams → Bool → List Float → List ℕ → List ℕ → Lengths → Result Grid Question
judged_of p whole vs lens regions l = judged_by (refusal_of p whole vs lens regions l) (job_grid p vs lens regions)
