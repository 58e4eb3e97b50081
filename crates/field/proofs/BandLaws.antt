-- The rows that a round goes through: margins by a limit, the rows that have marks, and that no cell beyond both is wanted. Assumes nothing.
use mathlib.Core.Path.{◌≡◌, refl, sym, ap, ◌∙◌, subst}
use mathlib.Core.Bool.{Bool, true, false, not, ◌&&◌, true≢false}
use mathlib.Core.List.{List}
use Prim.Native.Nat.{ℕ, ◌+◌, ◌-◌, ◌*◌, ◌/◌, ◌≤◌, ◌<◌, min}
use native.Mathlib.Omega.{arith}
use native.Mathlib.Nat.{add-mul, mul-le-mul, div-lt_iff_lt-mul, le-div_iff_mul-le}
use lib.ListN.{length, get_or, take, drop}
use lib.Seq.{get_or-take, get_or-drop}
use lib.Dec.{eqb, ltb}
use lib.Ieee.{binary64, mul, lt, le}
use borrow.Author.Tests.{ltb-true, ltb-false, lt-ltb, le-ltb, le-leb, eqb-true, eq-eqb}
use Rattle.loops.specs.Cells.{number}
use Rattle.loops.proofs.Cases.{by_cases, never}
use Rattle.dilation.specs.declared.window.Window.{Window}
use Rattle.distance.specs.Least.{far, at, gap, apart}
use Rattle.std.specs.Prelude.{Option, Some}
use Rattle.distance.specs.Limits.{scaled_of, passes_of}
use Rattle.distance.specs.Nearest.{nearest}
use Rattle.distance.specs.Rooted.{rooted_of}
use Rattle.distance.specs.declared.limits.Threshold.{Threshold}
use Rattle.distance.proofs.LimitLaws.{beyond-is}
use Rattle.distance.proofs.NearLaws.{nearest-far, nearest-over, square_of_lem}
use Rattle.raster.specs.declared.grid.Grid.{Grid}
use Rattle.raster.proofs.GridLaws.{number-below}
use Rattle.rims.specs.Tiles.{RowsGathered}
use Rattle.setup.specs.Layout.{run}
use Rattle.setup.specs.declared.Setup.{Setup}
use Rattle.setup.proofs.PartLaws.{part_is}
use Rattle.field.specs.Bands.{between, Inside, RowsOf, widened, Margin, Unmarked, MarkedRows, MarkedColumns, rows_of, window_of, Around, WantedIn}
use Rattle.field.specs.Field.{high_of, reach_of, wanted_at}
use Rattle.field.specs.declared.band.Band.{Band}
use Rattle.field.specs.declared.gauge.Gauge.{Gauge}

-- ---- margins

module _ (below : Option ℕ) (ny : ℕ) where
  pub margin_all : ((e : ℕ) → below ≡ Some e → e ≤ far) → Margin below ny ny
  margin_all h = record { few = omega arith; fits = h; beyond = λ k a b. absurd (let z : ⊥ = omega arith in z) }

  pub margin_at : (m n : ℕ) → below ≡ Some n → n ≤ far → m < ny → n ≤ (m + 1) * (m + 1) → Margin below ny m
  margin_at m n t h b e = record {
    few = omega arith;
    fits = λ u k. let z : u ≡ n = cc in omega arith;
    beyond = λ k a _. (n, t, (let c : m + 1 ≤ k = omega arith in omega (arith, mul-le-mul c c)));
  }

pub widened_is : (ny m : ℕ) (band : Band) (lo hi : ℕ) → lo ≡ band.lo - m → hi ≡ min (band.hi + m) ny → between lo hi ≡ widened ny m band
unfolding widened
widened_is ny m band lo hi p q = λ t. record { lo = p t; hi = q t }

-- ---- a band with a margin

module _ (ny m : ℕ) (band wide : Band) (W : wide ≡ widened ny m band) where
  wide-lo : wide.lo ≡ band.lo - m
  unfolding widened
  wide-lo = ap (λ (q : Band). q.lo) W

  wide-hi : wide.hi ≡ min (band.hi + m) ny
  unfolding widened
  wide-hi = ap (λ (q : Band). q.hi) W

  module _ (O : band.lo ≤ band.hi) (H : band.hi ≤ ny) where
    pub wide_rows : RowsOf ny wide
    wide_rows = record { order = omega (arith, wide-lo, wide-hi); high = omega (arith, wide-hi) }

    pub wide-some : band.lo < band.hi → wide.lo < wide.hi
    wide-some h = omega (arith, wide-lo, wide-hi)

    pub wide-inside : (j : ℕ) → Inside band j → Inside wide j
    wide-inside j I = record { low = omega (arith, wide-lo, I.low); high = omega (arith, wide-hi, I.high) }

    -- beyond it, a row is more than the margin from each row of the band
    pub wide-gap : (j k : ℕ) → Inside band k → (Inside wide j → ⊥) → j < ny → m < gap j k
    wide-gap j k I o h =
        by_cases (ltb j wide.lo)
        (λ s. omega (arith, ltb-true j wide.lo s, wide-lo, I.low))
        (λ s. by_cases (ltb j wide.hi)
        (λ r. absurd (o (record { low = ltb-false j wide.lo s; high = ltb-true j wide.hi r })))
        (λ r. omega (arith, ltb-false j wide.hi r, wide-hi, I.high)))

-- ---- marks

module _ (m : List ℕ) where
  pub unmarked_none : (k : ℕ) → Unmarked m k k
  unmarked_none k = record { none = λ x a b. absurd (let z : ⊥ = omega arith in z) }

  -- a part of them
  pub unmarked_part : (a e c d : ℕ) → Unmarked m a e → a ≤ c → d ≤ e → Unmarked m c d
  unmarked_part a e c d u p q = record { none = λ x h k. u.none x (omega arith) (omega arith) }

  -- one more, at either end
  pub unmarked_up : (a e : ℕ) → Unmarked m a e → eqb (get_or m e 0) 1 ≡ false → Unmarked m a (e + 1)
  unmarked_up a e u h = record {
    none = λ x p q. by_cases (ltb x e)
        (λ t. u.none x p (ltb-true x e t))
        (λ t. ap (λ (k : ℕ). eqb (get_or m k 0) 1) (let z : x ≡ e = omega (arith, ltb-false x e t) in z) ∙ h);
  }

  pub unmarked_down : (a e : ℕ) → Unmarked m (a + 1) e → eqb (get_or m a 0) 1 ≡ false → Unmarked m a e
  unmarked_down a e u h = record {
    none = λ x p q. by_cases (ltb a x)
        (λ t. u.none x (omega (arith, ltb-true a x t)) q)
        (λ t. ap (λ (k : ℕ). eqb (get_or m k 0) 1) (let z : x ≡ a = omega (arith, ltb-false a x t) in z) ∙ h);
  }

  module _ (first end : ℕ) (F : Unmarked m 0 first) (E : Unmarked m end (length m)) where
    from_first : (k : ℕ) → eqb (get_or m k 0) 1 ≡ true → first ≤ k
    from_first k e = by_cases (ltb k first) (λ t. absurd (true≢false (sym e ∙ F.none k (omega arith) (ltb-true k first t)))) (ltb-false k first)

    before-end : (k : ℕ) → k < length m → eqb (get_or m k 0) 1 ≡ true → k < end
    before-end k h e = by_cases (ltb k end) (ltb-true k end) (λ t. absurd (true≢false (sym e ∙ E.none k (ltb-false k end t) h)))

    module _ (nx ny : ℕ) (L : length m ≡ ny * nx) where
      marks-none : (i j : ℕ) → i < nx → j < ny → end ≤ first → eqb (get_or m (number nx i j) 0) 1 ≡ true → ⊥
      marks-none i j h k b e =
          let z = number-below nx ny i j (length m) h k (omega arith) in
          let p = from_first (number nx i j) e in
          let q = before-end (number nx i j) z e in
          omega arith

      pub marked-none : end ≤ first → MarkedRows m nx ny (between 0 0)
      marked-none b = record {
        rows = record { order = omega arith; high = omega arith };
        marked = λ i j h k e. absurd (marks-none i j h k b e);
      }

      pub marked-some : 0 < nx → end ≤ length m → first < end → MarkedRows m nx ny (between (first / nx) ((end - 1) / nx + 1))
      marked-some w b o =
          let below : (end - 1) / nx < ny = (div-lt_iff_lt-mul w).1 (let z : end - 1 < ny * nx = omega arith in z) in
          let order : (x y : ℕ) → x ≤ y → x / nx ≤ y / nx =
          λ x y l.
          let z : x / nx ≤ y / nx = (le-div_iff_mul-le w).1 (let q : x / nx * nx ≤ x = (le-div_iff_mul-le w).0 (let r : x / nx ≤ x / nx = omega arith in r) in omega arith) in
          z in
          record {
            rows = record { order = let z = order first (end - 1) (omega arith) in omega arith; high = omega arith };
            marked = λ i j h k e.
                let p = from_first (number nx i j) e in
                let q = before-end (number nx i j) (number-below nx ny i j (length m) h k (omega arith)) e in
                let t : (j + 1) * nx ≡ j * nx + 1 * nx = add-mul j 1 nx in
                record {
                  low = let z : first / nx < j + 1 = (div-lt_iff_lt-mul w).1 (let r : first < (j + 1) * nx = omega arith in r) in omega arith;
                  high = let z : j ≤ (end - 1) / nx = (le-div_iff_mul-le w).1 (let r : j * nx ≤ end - 1 = omega arith in r) in omega arith;
                };
          }

-- the dirty cells, as the part that is lent
pub dirty_part : (nx ny n a e : ℕ) (b : List ℕ) (w : Window) → n ≡ ny * nx → a ≡ 4 * n → Around (take (a + n - a) (drop a b)) nx ny e w → Around (run 4 (ny * nx) b) nx ny e w
dirty_part nx ny n a e b w N A M = subst (λ (q : List ℕ). Around q nx ny e w) (part_is 4 n a (a + n) b A refl ∙ ap (λ (k : ℕ). run 4 k b) N) M

-- ---- squares at or above a limit

module _ (g : Gauge) (d : ℕ) (b : d ≤ far) where
  near-out : (e : ℕ) → g.near.below ≡ Some e → e ≤ d → le (rooted_of d) (reach_of g.setup) ≡ false
  unfolding passes_of scaled_of
  near-out e t l = sym (ap (λ (q : Threshold). passes_of q d) g.gauged.near) ∙ (g.near.told e t).squares d b ∙ le-ltb d e l

  pub far-out : (e : ℕ) → g.far.below ≡ Some e → e ≤ d → lt (high_of g.setup) (mul binary64 (rooted_of d) g.setup.grid.cell) ≡ true
  unfolding scaled_of
  far-out e t l =
      sym (ap (λ (q : Threshold). lt q.x (scaled_of q.scale d)) g.gauged.far)
      ∙ sym (beyond-is g.far.threshold e d (g.far.told e t) (ap (λ (q : Threshold). q.strict) g.gauged.far) b)
      ∙ le-leb e d l

-- ---- the rows in which a cell may be wanted

both_true : {a b : Bool} → a ≡ true → b ≡ true → a && b ≡ true
both_true p q = rw (p, q) refl

and-false : (a b : Bool) → b ≡ false → a && b ≡ false
and-false true b e = e
and-false false b e = refl

pub not-true : (b : Bool) → not b ≡ true → b ≡ false
not-true true e = never e
not-true false e = refl

-- the whole map
pub wanted-whole : (s : Setup) (all : Bool) (dirty : List ℕ) → WantedIn s all dirty (window_of (between 0 s.grid.ny) (between 0 s.grid.nx))
wanted-whole s all dirty = record {
  rows = record { order = omega arith; high = omega arith };
  columns = record { order = omega arith; high = omega arith };
  cut = λ _ i j h k e. record { low = omega arith; high = k; left = omega arith; right = h };
  outside = λ allowed i j h k o. absurd (o (record { low = omega arith; high = k; left = omega arith; right = h }));
}

-- the window around the cells that were cut
pub wanted_around : (g : Gauge) → g.all ≡ false → (e : ℕ) → g.near.below ≡ Some e → (dirty : List ℕ) (w : Window) → Around dirty g.setup.grid.nx g.setup.grid.ny e w
    → WantedIn g.setup g.all dirty w
unfolding wanted_at
wanted_around g A n t dirty w R =
    let nx = g.setup.grid.nx in
    let ny = g.setup.grid.ny in
    record {
      rows = R.rows;
      columns = R.columns;
      cut = λ _. R.marked;
      outside = λ allowed i j p q o.
          let above : n ≤ nearest 1 dirty nx (at i j) ny = nearest-over dirty nx (at i j) n R.fits ny (λ x k a b e. R.beyond i j x k p q o a b (eq-eqb _ _ e)) in
          rw (A, square_of_lem dirty nx ny i j p q)
          (and-false (eqb (get_or allowed (number nx i j) 0) 1) (le (rooted_of (nearest 1 dirty nx (at i j) ny)) (reach_of g.setup))
          (near-out g (nearest 1 dirty nx (at i j) ny) (nearest-far dirty nx (at i j) ny) n t above));
    }

-- the cells that were cut are in its rows
pub cut-rows : (s : Setup) (dirty : List ℕ) (w : Window) → WantedIn s false dirty w → MarkedRows dirty s.grid.nx s.grid.ny (rows_of w)
cut-rows s dirty w W = record { rows = W.rows; marked = λ i j p q e. let I = W.cut refl i j p q e in record { low = I.low; high = I.high } }

-- ---- the columns that have marks

-- the columns of the marks, as the part that is lent, are a map of one column
pub columns_are : (g : Grid) (m : List ℕ) (rows band : Band) (t : List ℕ) → RowsOf g.ny rows → RowsGathered g m rows.lo rows.hi t → MarkedRows (take (g.nx - 0) (drop 0 t)) 1 g.nx band
    → MarkedColumns m g.nx rows band
columns_are g m rows band t R h M = record {
  columns = M.rows;
  marked = λ i k a I e.
      let one : i * 1 + 0 ≡ i = omega arith in
      M.marked 0 i (omega arith) a
      (ap (λ (x : ℕ). eqb (get_or (take (g.nx - 0) (drop 0 t)) x 0) 1) one
      ∙ ap (λ (x : ℕ). eqb x 1) (get_or-take (g.nx - 0) (drop 0 t) i 0 (omega arith) ∙ get_or-drop 0 t i 0 ∙ ap (λ (x : ℕ). get_or t x 0) (let z : 0 + i ≡ i = omega arith in z))
      ∙ eq-eqb _ _ (h.at i k a (omega (arith, I.high, R.high)) I.low I.high (eqb-true _ _ e)));
}

-- ---- around the marks

module _ (m : List ℕ) (nx ny n : ℕ) (rows cols : Band) (R : MarkedRows m nx ny rows) (C : MarkedColumns m nx rows cols) where
  marked_in : (i j : ℕ) → i < nx → j < ny → eqb (get_or m (number nx i j) 0) 1 ≡ true → Inside rows j × Inside cols i
  marked_in i j p q e = let r = R.marked i j p q e in (r, C.marked i j p r e)

  -- there is none
  pub around_none : (k : ℕ) → Margin (Some n) ny k → ltb rows.lo rows.hi && ltb cols.lo cols.hi ≡ false → Around m nx ny n (window_of (between 0 0) (between 0 0))
  around_none k F h =
      let no : (i j : ℕ) → i < nx → j < ny → eqb (get_or m (number nx i j) 0) 1 ≡ true → ⊥ =
      λ i j p q e.
      let r = marked_in i j p q e in
      let a = lt-ltb rows.lo rows.hi (omega (arith, r.0.low, r.0.high)) in
      let b = lt-ltb cols.lo cols.hi (omega (arith, r.1.low, r.1.high)) in
      true≢false (sym (both_true a b) ∙ h) in
      record {
        rows = record { order = omega arith; high = omega arith };
        columns = record { order = omega arith; high = omega arith };
        marked = λ i j p q e. absurd (no i j p q e);
        fits = F.fits n refl;
        beyond = λ i j x y p q o a b e. absurd (no x y a b e);
      }

  pub around_some : (k l : ℕ) → Margin (Some n) ny k → Margin (Some n) nx l → (r c : Band) → r ≡ widened ny k rows → c ≡ widened nx l cols → Around m nx ny n (window_of r c)
  around_some k l F G r c P Q =
      let ro = R.rows.order in
      let rh = R.rows.high in
      let co = C.columns.order in
      let ch = C.columns.high in
      record {
        rows = wide_rows ny k rows r P ro rh;
        columns = wide_rows nx l cols c Q co ch;
        marked = λ i j p q e.
            let x = marked_in i j p q e in
            let a = wide-inside ny k rows r P ro rh j x.0 in
            let b = wide-inside nx l cols c Q co ch i x.1 in
            record { low = a.low; high = a.high; left = b.low; right = b.high };
        fits = F.fits n refl;
        beyond = λ i j x y p q o a b e.
            let z = marked_in x y a b e in
            by_cases (ltb j r.lo)
            (λ s. row-far i j x y q b a e (λ I. let u = I.low in let v = ltb-true j r.lo s in omega arith))
            (λ s. by_cases (ltb j r.hi)
            (λ w.
            let v = G.beyond (gap i x) (wide-gap nx l cols c Q co ch i x z.1 (λ I. o (record { low = ltb-false j r.lo s; high = ltb-true j r.hi w; left = I.low; right = I.high })) p) (omega arith) in
            (let z : n ≡ v.0 = cc v.1 in omega (arith, z, v.2)))
            (λ w. row-far i j x y q b a e (λ I. let u = I.high in let v = ltb-false j r.hi w in omega arith)));
      }
    where
      row-far : (i j x y : ℕ) → j < ny → y < ny → (x < nx) → eqb (get_or m (number nx x y) 0) 1 ≡ true → (Inside r j → ⊥) → n ≤ apart (at i j) (at x y)
      row-far i j x y q b a e o =
          let v = F.beyond (gap j y) (wide-gap ny k rows r P R.rows.order R.rows.high j y (R.marked x y a b e) o q) (omega arith) in
          (let z : n ≡ v.0 = cc v.1 in omega (arith, z, v.2))
