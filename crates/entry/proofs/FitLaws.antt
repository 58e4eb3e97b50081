-- After questions 1 to 13 a raster can be laid: the cell is a number above 0, the corners of the pocket are numbers, and neither is beyond the other. Assumes nothing.
use mathlib.Core.Path.{◌≡◌, refl, sym, ap, ◌∙◌, subst}
use mathlib.Core.Bool.{Bool, true, false, cond}
use mathlib.Core.List.{List}
use Prim.Native.Nat.{ℕ, ◌+◌, ◌*◌, ◌≤◌, ◌<◌}
use native.Mathlib.Omega.{arith}
use lib.ListN.{length, get_or}
use lib.Dec.{T}
use lib.Ieee.{Float, nan, inf, fin, binary64, of_bits, round, div, lt, le, is_nan}
use lib.Ieee.Scale.{finite}
use borrow.Author.Tests.{not-true, not-false}
use Rattle.numbers.specs.Small.{c01}
use Rattle.loops.specs.Loop.{loop, any}
use Rattle.loops.proofs.LoopLaws.{loop-none, loop_more, loop_split, loop_keeps, any-each}
use Rattle.loops.proofs.Cases.{both, by_test, never}
use Rattle.floats.proofs.OrderLaws.{le_lt, lt_le, le_le, le_refl, le_not_lt, not_lt_le}
use Rattle.floats.proofs.NumberLaws.{div_number}
use Rattle.floats.proofs.DivMono.{div_mono}
use Rattle.numbers.specs.Order.{is_finite, min_of, max_of}
use Rattle.numbers.proofs.OrderLaws.{finite_is}
use Rattle.numbers.proofs.MaxLaws.{max_ge_right}
use Rattle.geom.specs.Vec.{v2, f0}
use Rattle.geom.specs.Region.{Held, vertex_of, widened, corners, loop_bounds, bounds_of, start_of, size_of}
use Rattle.geom.specs.declared.vec2.Vec2.{Vec2}
use Rattle.geom.specs.declared.region.Region.{Region}
use Rattle.geom.specs.declared.region.Corners.{Corners}
use Rattle.geom.proofs.RegionLaws.{loop-held}
use Rattle.raster.specs.Grid.{spans_of, fit_of}
use Rattle.entry.specs.Regions.{pocket_of}
use Rattle.entry.specs.Questions.{f80, f100, above_zero, absent_or, given_or, fine_for, cell_of, placed, astray, all_placed, corners_of, resolution_fit, ranges_fit, shapes_fit}
use Rattle.entry.specs.declared.params.AdaptiveParams.{AdaptiveParams}
use Rattle.std.specs.Prelude.{Option, None, Some}
use Rattle.entry.proofs.RangeLaws.{diameter_is}
use Rattle.entry.proofs.ShapeLaws.{shapes_held, shapes_all, outer-some}

-- ---- fits numbers

finite_number : (x : Float) → is_finite x ≡ true → (is_nan x ≡ false) × T (finite x)
unfolding is_finite is_nan
finite_number nan h = never h
finite_number (inf s) h = never h
finite_number (fin s m e) h = (refl, tt)

-- what lies between two finite numbers is finite
pub between : (a x b : Float) → is_finite a ≡ true → is_finite b ≡ true → le a x ≡ true → le x b ≡ true → is_finite x ≡ true
between a x b A B h k =
    let l = (both (lt (inf true) a) (lt a (inf false)) (finite_is a ∙ A)).0 in
    let r = (both (lt (inf true) b) (lt b (inf false)) (finite_is b ∙ B)).1 in
    sym (finite_is x) ∙ rw (lt_le (inf true) a x l h, le_lt x b (inf false) k r)

min_le_right : (a b : Float) → is_nan b ≡ false → le (min_of a b) b ≡ true
unfolding min_of
min_le_right a b n =
    by_test (λ (z : Float). le z b ≡ true) (lt b a) b (cond (is_nan a) b a) (λ e. le_refl b n)
    (λ e. by_test (λ (z : Float). le z b ≡ true) (is_nan a) b a (λ g. le_refl b n) (λ g. not_lt_le a b g n e))

min_finite : (a b : Float) → is_finite a ≡ true → is_finite b ≡ true → is_finite (min_of a b) ≡ true
unfolding min_of
min_finite a b A B =
    by_test (λ (z : Float). is_finite z ≡ true) (lt b a) b (cond (is_nan a) b a) (λ e. B) (λ e. by_test (λ (z : Float). is_finite z ≡ true) (is_nan a) b a (λ g. B) (λ g. A))

max_finite : (a b : Float) → is_finite a ≡ true → is_finite b ≡ true → is_finite (max_of a b) ≡ true
unfolding max_of
max_finite a b A B =
    by_test (λ (z : Float). is_finite z ≡ true) (lt a b) b (cond (is_nan a) b a) (λ e. B) (λ e. by_test (λ (z : Float). is_finite z ≡ true) (is_nan a) b a (λ g. B) (λ g. A))

-- ---- the cell

eightieth_low : lt f0 (div binary64 c01 f80) ≡ true
unfolding of_bits div round lt
eightieth_low = refl

eightieths : (is_finite (div binary64 c01 f80) ≡ true) × (is_finite (div binary64 f100 f80) ≡ true)
unfolding of_bits div round is_finite
eightieths = (refl, refl)

known : (is_finite c01 ≡ true) × (is_finite f100 ≡ true)
unfolding of_bits is_finite
known = (refl, refl)

-- an eightieth of it is a number
over_80 : (d : Float) → is_finite d ≡ true → is_nan (div binary64 d f80) ≡ false
unfolding of_bits
over_80 d h = div_number binary64 d f80 (finite_number d h).1 tt

mono_80 : (x y : Float) → is_finite x ≡ true → is_finite y ≡ true → le x y ≡ true → le (div binary64 x f80) (div binary64 y f80) ≡ true
unfolding of_bits
mono_80 x y X Y h = div_mono binary64 x y f80 tt h (over_80 x X) (over_80 y Y)

share_fit : (d : Float) → le c01 d ≡ true → le d f100 ≡ true → above_zero (div binary64 d f80) ≡ true
unfolding above_zero
share_fit d h k =
    let D = between c01 d f100 known.0 known.1 h k in
    let l = mono_80 c01 d known.0 D h in
    let r = mono_80 d f100 D known.1 k in
    rw (between (div binary64 c01 f80) (div binary64 d f80) (div binary64 f100 f80) eightieths.0 eightieths.1 l r, lt_le f0 (div binary64 c01 f80) (div binary64 d f80) eightieth_low l)

setting_fit : (d x : Float) (s : Option Float) → above_zero x ≡ true → absent_or (fine_for d) s ≡ true → above_zero (given_or x s) ≡ true
unfolding absent_or given_or fine_for
setting_fit d x None a h = a
setting_fit d x (Some y) a h = (both (above_zero y) _ h).0

pub cell_fit_lem : (p : AdaptiveParams) → resolution_fit p ≡ true → ranges_fit p ≡ true → above_zero (cell_of p) ≡ true
unfolding resolution_fit cell_of
cell_fit_lem p r a =
    let d = diameter_is p a in
    setting_fit p.tool_diameter (div binary64 p.tool_diameter f80) p.resolution (share_fit p.tool_diameter d.0 d.1) r

-- ---- the corners

pub record Spanned (lo hi : Float) : Type 0 where
  pub low : is_finite lo ≡ true
  pub high : is_finite hi ≡ true
  pub order : le lo hi ≡ true

first_span : (x : Float) → is_finite x ≡ true → Spanned (min_of (inf false) x) (max_of (inf true) x)
unfolding is_finite min_of max_of lt is_nan
first_span nan h = never h
first_span (inf s) h = never h
first_span (fin s m e) h = record { low = refl; high = refl; order = le_refl (fin s m e) refl }

more_span : (lo hi x : Float) → Spanned lo hi → is_finite x ≡ true → Spanned (min_of lo x) (max_of hi x)
more_span lo hi x h X =
    let n = (finite_number x X).0 in
    record {
      low = min_finite lo x h.low X;
      high = max_finite hi x h.high X;
      order = le_le (min_of lo x) x (max_of hi x) (min_le_right lo x n) (max_ge_right hi x n);
    }

span_is : (lo hi : Float) → Spanned lo hi → spans_of lo hi ≡ true
unfolding spans_of
span_is lo hi h = rw (h.low, h.high, le_not_lt lo hi h.order)

pub record Boxed (c : Corners) : Type 0 where
  pub across : Spanned c.lo.x c.hi.x
  pub along : Spanned c.lo.y c.hi.y

abbrev Sound : Vec2 → Type 0
Sound p = (is_finite p.x ≡ true) × (is_finite p.y ≡ true)

abbrev empty : Corners
empty = corners (v2 (inf false) (inf false)) (v2 (inf true) (inf true))

first_box : (p : Vec2) → Sound p → Boxed (widened p empty)
unfolding widened
first_box p h = record { across = first_span p.x h.0; along = first_span p.y h.1 }

more_box : (p : Vec2) (c : Corners) → Sound p → Boxed c → Boxed (widened p c)
unfolding widened
more_box p c h b = record { across = more_span c.lo.x c.hi.x p.x b.across h.0; along = more_span c.lo.y c.hi.y p.y b.along h.1 }

loop_box : (vs : List Float) (at n : ℕ) → 0 < n → ((i : ℕ) → i < n → Sound (vertex_of vs (at + i))) → Boxed (loop_bounds vs at n)
unfolding loop_bounds
loop_box vs at n b h =
    let f : ℕ → Corners → Corners = λ i c. widened (vertex_of vs (at + i)) c in
    let one : f 0 empty ≡ loop f 0 1 empty = ap (f 0) (loop-none f 0 empty) ∙ loop_more f 0 0 empty (omega arith) in
    subst Boxed (sym (loop_split f 0 1 n empty (omega arith) b))
    (loop_keeps f 1 Boxed n (λ i c l k q. more_box (vertex_of vs (at + i)) c (h i k) q) (loop f 0 1 empty) (subst Boxed one (first_box (vertex_of vs (at + 0)) (h 0 b))))

-- every coordinate is a number
all_finite : (vs : List Float) → all_placed vs ≡ true → (k : ℕ) → k < length vs → is_finite (get_or vs k nan) ≡ true
unfolding all_placed placed
all_finite vs h k b =
    let z = any-each (astray vs) 0 (length vs) (not-true (any (astray vs) 0 (length vs)) h) k (omega arith) b in
    (both (is_finite (get_or vs k nan)) _ (not-false (placed (get_or vs k nan)) z)).0

-- a region whose outer loop has a vertex
bounds_box : (vs : List Float) (lens : List ℕ) (g : Region) → Held vs lens g → 0 < size_of lens g 0 → all_placed vs ≡ true → Boxed (bounds_of vs lens g)
unfolding bounds_of vertex_of
bounds_box vs lens g h some a =
    let n = size_of lens g 0 in
    let at = start_of lens g 0 in
    let long : 2 * (at + n) ≤ length vs = loop-held lens g vs h 0 h.some in
    loop_box vs at n some (λ i b. (all_finite vs a (2 * (at + i)) (omega arith), all_finite vs a (2 * (at + i) + 1) (omega arith)))

-- ---- both

pub job_fit : (p : AdaptiveParams) (whole : Bool) (vs : List Float) (lens regions : List ℕ) → resolution_fit p ≡ true → ranges_fit p ≡ true → shapes_fit whole vs lens regions ≡ true
    → let c = corners_of vs lens regions in fit_of c.lo c.hi (cell_of p) ≡ true
unfolding above_zero fit_of
job_fit p whole vs lens regions r a s =
    let h = shapes_held whole vs lens regions s in
    let g = pocket_of lens regions in
    let c = bounds_box vs lens g (h.held 0 h.some) (outer-some whole vs lens regions s) (shapes_all whole vs lens regions s) in
    let cell = both (is_finite (cell_of p)) (lt f0 (cell_of p)) (cell_fit_lem p r a) in
    let k = bounds_of vs lens g in
    rw (cell.0, cell.1, span_is k.lo.x k.hi.x c.across, span_is k.lo.y k.hi.y c.along)
