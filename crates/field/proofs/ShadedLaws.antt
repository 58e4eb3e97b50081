-- Words that stand for squares say of a window's cells what the squares of the whole map say. Assumes nothing.
use mathlib.Core.Path.{◌≡◌, refl, sym, ap, ◌∙◌, subst}
use mathlib.Core.Bool.{true, false}
use mathlib.Core.List.{List}
use mathlib.Core.Logic.{◌⊎◌, inl, inr, ⊎_elim}
use Prim.Native.Nat.{ℕ, ◌+◌, ◌-◌, ◌*◌, ◌%◌, ◌≤◌, ◌<◌}
use native.Mathlib.Omega.{arith}
use lib.ListN.{length, get_or, take, drop}
use lib.Dec.{eqb, ltb}
use lib.Ieee.{binary64, mul, lt, le}
use borrow.Author.Tests.{ltb-true, ltb-false, lt-ltb, le-ltb, lt-leb, eq-eqb}
use borrow.Rule.Slice.PartMut.{put_mid}
use Rattle.loops.specs.Cells.{number}
use Rattle.loops.specs.Regions.{Fits}
use Rattle.loops.specs.Frame.{Only}
use Rattle.loops.proofs.Cases.{by_cases}
use Rattle.loops.proofs.FrameLaws.{back-only, only_wider}
use Rattle.dilation.specs.Window.{Takes, In, On, Near, Clear, Shade, Told, Shaded}
use Rattle.dilation.specs.declared.window.Window.{Window}
use Rattle.distance.specs.Least.{far, at, gap, apart}
use Rattle.std.specs.Prelude.{Some}
use Rattle.distance.specs.Limits.{scaled_of, passes_of}
use Rattle.distance.specs.Nearest.{nearest, squares_of}
use Rattle.distance.specs.Rooted.{rooted_of}
use Rattle.distance.specs.declared.limits.Threshold.{Threshold}
use Rattle.distance.proofs.LimitLaws.{beyond-is}
use Rattle.distance.proofs.NearLaws.{nearest-far, nearest-at, nearest-over, square_of_lem}
use Rattle.raster.specs.Grid.{Sides}
use Rattle.setup.specs.Layout.{run}
use Rattle.setup.specs.Place.{cells_of}
use Rattle.setup.proofs.LayoutLaws.{run-put}
use Rattle.setup.proofs.PartLaws.{part_is, part_long, back_is}
use Rattle.field.specs.Bands.{Inside, RowsOf, widened, Margin, rows_of, columns_of, window_of, WantedIn}
use Rattle.field.specs.Field.{high_of, low_of, reach_of, value_of, value_at}
use Rattle.field.specs.Squares.{Stocked, Neared}
use Rattle.field.specs.declared.band.Band.{Band}
use Rattle.field.specs.declared.gauge.Gauge.{Gauge}
use Rattle.field.proofs.BandLaws.{wide_rows, wide-inside, wide-gap, far-out}

-- a cell is one of a window's, or not
in_or_not : (w : Window) (x k : ℕ) → (In w x k) ⊎ (In w x k → ⊥)
in_or_not w x k =
    by_cases (ltb k w.lo)
    (λ a. inr (λ I. let p = I.low in let q = ltb-true k w.lo a in omega arith))
    (λ a. by_cases (ltb k w.hi)
    (λ b. by_cases (ltb x w.left)
    (λ c. inr (λ I. let p = I.left in let q = ltb-true x w.left c in omega arith))
    (λ c. by_cases (ltb x w.right)
    (λ d. inl (record { low = ltb-false k w.lo a; high = ltb-true k w.hi b; left = ltb-false x w.left c; right = ltb-true x w.right d }))
    (λ d. inr (λ I. let p = I.right in let q = ltb-false x w.right d in omega arith))))
    (λ b. inr (λ I. let p = I.high in let q = ltb-false k w.hi b in omega arith)))

-- ---- a word beside the square

module _ (m : List ℕ) (nx ny : ℕ) (w : Window) (C : w.right ≤ nx) (R : w.hi ≤ ny) (i j near beyond o : ℕ) (B : beyond ≤ far) (S : Shade m nx w near beyond i j o)
    (out : (x k : ℕ) → x < nx → k < ny → (In w x k → ⊥) → eqb (get_or m (number nx x k) 0) 1 ≡ true → beyond ≤ apart (at i j) (at x k)) where
  abbrev sq : ℕ
  sq = nearest 1 m nx (at i j) ny

  below : (e : ℕ) → Near m nx w i j e → sq < e
  below e n =
      let I = n.inside in
      let a = I.right in
      let b = I.high in
      omega (arith, n.less, nearest-at m nx (at i j) ny n.column n.row (omega arith) (omega arith) n.set)

  above : (e : ℕ) → e ≤ beyond → Clear m nx w i j e → e ≤ sq
  above e h c =
      nearest-over m nx (at i j) e (omega arith) ny (λ x k a b t. ⊎_elim (λ I. c.least x k I t) (λ n. let z = out x k a b n (eq-eqb _ _ t) in omega arith) (in_or_not w x k))

  pub in_both : o < beyond → sq < beyond
  in_both h = below beyond (S.within h)

  pub out_both : beyond ≤ o → beyond ≤ sq
  out_both h = above beyond (omega arith) (S.beyond h)

  pub deep_both : o < beyond → ltb o near ≡ ltb sq near
  deep_both h = by_cases (ltb o near)
      (λ t. t ∙ sym (lt-ltb sq near (below near (S.deep h (ltb-true o near t)))))
      (λ t. let z = ltb-false o near t in t ∙ sym (le-ltb sq near (above near (omega arith) (S.shallow h z))))

-- ---- the tests of a round, by squares

module _ (g : Gauge) (d : ℕ) (b : d ≤ far) where
  far_in : (e : ℕ) → g.far.below ≡ Some e → d < e → lt (high_of g.setup) (mul binary64 (rooted_of d) g.setup.grid.cell) ≡ false
  unfolding scaled_of
  far_in e t l =
      sym (ap (λ (q : Threshold). lt q.x (scaled_of q.scale d)) g.gauged.far)
      ∙ sym (beyond-is g.far.threshold e d (g.far.told e t) (ap (λ (q : Threshold). q.strict) g.gauged.far) b)
      ∙ lt-leb e d l

  deep_is : (e : ℕ) → g.deep.below ≡ Some e → lt (mul binary64 (rooted_of d) g.setup.grid.cell) (low_of g.setup) ≡ ltb d e
  unfolding passes_of scaled_of
  deep_is e t = sym (ap (λ (q : Threshold). passes_of q d) g.gauged.deep) ∙ (g.deep.told e t).squares d b

  near-is : (e : ℕ) → g.near.below ≡ Some e → le (rooted_of d) (reach_of g.setup) ≡ ltb d e
  unfolding passes_of scaled_of
  near-is e t = sym (ap (λ (q : Threshold). passes_of q d) g.gauged.near) ∙ (g.near.told e t).squares d b

-- ---- to stock

module _ (g : Gauge) (fe de : ℕ) (FT : g.far.below ≡ Some fe) (DT : g.deep.below ≡ Some de) (map l k : List ℕ) (i j : ℕ) where
  abbrev p : ℕ
  p = get_or l (number g.setup.grid.nx i j) 0

  abbrev q : ℕ
  q = get_or k (number g.setup.grid.nx i j) 0

  value_out : p ≤ far → q ≤ far → fe ≤ p → fe ≤ q → value_at g.setup map l i j ≡ value_at g.setup map k i j
  unfolding value_at value_of
  value_out a b c d = rw (far-out g p a fe FT c, far-out g q b fe FT d) refl

  value_in : p ≤ far → q ≤ far → p < fe → q < fe → ltb p de ≡ ltb q de → value_at g.setup map l i j ≡ value_at g.setup map k i j
  unfolding value_at value_of
  value_in a b c d e = rw (far_in g p a fe FT c, far_in g q b fe FT d, deep_is g p a de DT, deep_is g q b de DT, e) refl

-- the whole of a part that is lent from its first place on
module _ (k n a e : ℕ) (u t : List ℕ) (A : a ≡ k * n) (E : e ≡ a + n) (L : k * n + n ≤ length u) (T : length t ≡ n) where
  part_run : run k n (put_mid a (e - a) u t) ≡ t
  part_run = ap (run k n) (back_is k n a e u t A E L) ∙ run-put n u t T k L

  part_only : (b d : ℕ) → b ≤ a → e ≤ d → d ≤ length u → Only b d u (put_mid a (e - a) u t)
  part_only b d o f l =
      let fits : Fits a e u = record { start = omega arith; end = omega arith } in
      only_wider a e u (put_mid a (e - a) u t) fits (back-only a e u fits t (T ∙ sym (part_long k n a e u A E L))) b d o f l

told-all : (w : Window) (j : ℕ) → Told 1 0 w j
told-all w j = rw (eq-eqb (j % 1) 0 (let z : j % 1 ≡ 0 = omega arith in z)) refl

module _ (g : Gauge) (w : Window) (R : RowsOf g.setup.grid.ny (rows_of w)) (C : RowsOf g.setup.grid.nx (columns_of w)) (b u : List ℕ) (U : 5 * cells_of g.setup ≤ length u)
    (fe de : ℕ) (far-takes : Takes g.far fe) (deep-takes : Takes g.deep de)
    (m k : ℕ) (M : Margin g.far.below g.setup.grid.ny m) (K : Margin g.far.below g.setup.grid.nx k)
    (rows cols : Band) (P : rows ≡ widened g.setup.grid.ny m (rows_of w)) (Q : cols ≡ widened g.setup.grid.nx k (columns_of w)) where
  abbrev nx : ℕ
  nx = g.setup.grid.nx

  abbrev ny : ℕ
  ny = g.setup.grid.ny

  rows_on : RowsOf ny rows
  rows_on = wide_rows ny m (rows_of w) rows P R.order R.high

  cols_on : RowsOf nx cols
  cols_on = wide_rows nx k (columns_of w) cols Q C.order C.high

  pub wide-on : Sides g.setup.grid → On nx (window_of rows cols)
  wide-on S = record { wide = cols_on.high; order = cols_on.order; columns = omega (arith, cols_on.high, S.columns); rows = omega (arith, rows_on.high, S.rows) }

  wide_in : (i j : ℕ) → In w i j → In (window_of rows cols) i j
  wide_in i j I =
      let a = wide-inside ny m (rows_of w) rows P R.order R.high j (record { low = I.low; high = I.high }) in
      let c = wide-inside nx k (columns_of w) cols Q C.order C.high i (record { low = I.left; high = I.right }) in
      record { low = a.low; high = a.high; left = c.low; right = c.high }

  -- a mark outside the wide window is beyond the far bound
  outside : (i j : ℕ) → In w i j → (x y : ℕ) → x < nx → y < ny → (In (window_of rows cols) x y → ⊥) → fe ≤ apart (at i j) (at x y)
  outside i j I x y X Y o =
      let jn : j < ny = omega (arith, I.high, R.high) in
      let in' : i < nx = omega (arith, I.right, C.high) in
      by_cases (ltb y rows.lo)
      (λ s. row_out jn (λ J. let a = J.low in let z = ltb-true y rows.lo s in omega arith))
      (λ s. by_cases (ltb y rows.hi)
      (λ r.
      let v = K.beyond (gap x i) (wide-gap nx k (columns_of w) cols Q C.order C.high x i (record { low = I.left; high = I.right })
      (λ J. o (record { low = ltb-false y rows.lo s; high = ltb-true y rows.hi r; left = J.low; right = J.high })) X) (omega arith) in
      let e : gap i x ≡ gap x i = omega arith in
      subst (λ (z : ℕ). fe ≤ z * z + gap j y * gap j y) (sym e) (let z : fe ≡ v.0 = cc (far-takes.told, v.1) in omega (arith, z, v.2)))
      (λ r. row_out jn (λ J. let a = J.high in let z = ltb-false y rows.hi r in omega arith)))
    where
      row_out : j < ny → (Inside rows y → ⊥) → fe ≤ apart (at i j) (at x y)
      row_out jn n =
          let v = M.beyond (gap y j) (wide-gap ny m (rows_of w) rows P R.order R.high y j (record { low = I.low; high = I.high }) n Y) (omega arith) in
          let e : gap j y ≡ gap y j = omega arith in
          subst (λ (z : ℕ). fe ≤ gap i x * gap i x + z * z) (sym e) (let z : fe ≡ v.0 = cc (far-takes.told, v.1) in omega (arith, z, v.2))

  module _ (n : ℕ) (N : n ≡ cells_of g.setup) (t : List ℕ)
      (T : Shaded (take (n - 0) (drop 0 b)) nx (window_of rows cols) 1 0 de fe (take (n - 0) (drop 0 u)) t) where
    long : length t ≡ n
    long = T.long ∙ part_long 0 n 0 n u (omega arith) (omega arith) (omega arith)

    marks_are : take (n - 0) (drop 0 b) ≡ run 0 (cells_of g.setup) b
    marks_are = part_is 0 n 0 n b (omega arith) (omega arith) ∙ ap (λ (z : ℕ). run 0 z b) N

    words_are : run 0 (cells_of g.setup) (put_mid 0 (n - 0) u t) ≡ t
    words_are = ap (λ (z : ℕ). run 0 z (put_mid 0 (n - 0) u t)) (sym N) ∙ part_run 0 n 0 n u t (omega arith) (omega arith) (omega arith) long

    pub stock_shaded : Stocked g.setup w b u (put_mid 0 (n - 0) u t)
    stock_shaded = record {
      words = part_only 0 n 0 n u t (omega arith) (omega arith) (omega arith) long (0 * cells_of g.setup) (5 * cells_of g.setup) (omega arith) (omega arith) (omega arith);
      value = λ i j I.
          let c = cells_of g.setup in
          let map = run 0 c b in
          let I2 : i < nx = omega (arith, I.right, C.high) in
          let J2 : j < ny = omega (arith, I.high, R.high) in
          let o = get_or t (number nx i j) 0 in
          let sq = nearest 1 map nx (at i j) ny in
          let S : Shade map nx (window_of rows cols) de fe i j o =
          subst (λ (z : List ℕ). Shade z nx (window_of rows cols) de fe i j o) marks_are (T.cell i j (wide_in i j I) (told-all (window_of rows cols) j)) in
          let out : (x y : ℕ) → x < nx → y < ny → (In (window_of rows cols) x y → ⊥) → eqb (get_or map (number nx x y) 0) 1 ≡ true → fe ≤ apart (at i j) (at x y) = λ x y X Y n e. outside i j I x y X Y n in
          let bound : fe ≤ far = omega arith in
          let sqf : sq ≤ far = nearest-far map nx (at i j) ny in
          let whole = square_of_lem map nx ny i j I2 J2 in
          ap (λ (z : List ℕ). value_at g.setup map z i j) words_are
          ∙ by_cases (ltb o fe)
          (λ y.
          let z = ltb-true o fe y in
          value_in g fe de far-takes.told deep-takes.told map t (squares_of 1 map nx ny) i j S.fits (rw whole sqf) z (rw whole (in_both map nx ny (window_of rows cols) cols_on.high rows_on.high i j _ _ o bound S out z))
          (rw whole (deep_both map nx ny (window_of rows cols) cols_on.high rows_on.high i j _ _ o bound S out z)))
          (λ y.
          let z = ltb-false o fe y in
          value_out g fe de far-takes.told deep-takes.told map t (squares_of 1 map nx ny) i j S.fits (rw whole sqf) z (rw whole (out_both map nx ny (window_of rows cols) cols_on.high rows_on.high i j _ _ o bound S out z)));
    }

-- ---- to cells that were cut

module _ (g : Gauge) (w : Window) (b u : List ℕ) (W : WantedIn g.setup false (run 4 (cells_of g.setup) b) w) (U : 5 * cells_of g.setup ≤ length u)
    (e : ℕ) (near-takes : Takes g.near e) (n a c : ℕ) (N : n ≡ cells_of g.setup) (A : a ≡ 4 * n) (C : c ≡ 1 * n) (t : List ℕ)
    (T : Shaded (take (a + n - a) (drop a b)) g.setup.grid.nx w 1 0 0 e (take (c + n - c) (drop c u)) t) where
  near-long : length t ≡ n
  near-long = T.long ∙ part_long 1 n c (c + n) u C refl (omega arith)

  dirty_are : take (a + n - a) (drop a b) ≡ run 4 (cells_of g.setup) b
  dirty_are = part_is 4 n a (a + n) b A refl ∙ ap (λ (z : ℕ). run 4 z b) N

  near-words_are : run 1 (cells_of g.setup) (put_mid c (c + n - c) u t) ≡ t
  near-words_are = ap (λ (z : ℕ). run 1 z (put_mid c (c + n - c) u t)) (sym N) ∙ part_run 1 n c (c + n) u t C refl (omega arith) near-long

  pub near_shaded : Neared g.setup w b u (put_mid c (c + n - c) u t)
  near_shaded = record {
    words = part_only 1 n c (c + n) u t C refl (omega arith) near-long (1 * cells_of g.setup) (5 * cells_of g.setup) (omega arith) (omega arith) (omega arith);
    near = λ i j I.
        let nx = g.setup.grid.nx in
        let ny = g.setup.grid.ny in
        let dirty = run 4 (cells_of g.setup) b in
        let I2 : i < nx = omega (arith, I.right, W.columns.high) in
        let J2 : j < ny = omega (arith, I.high, W.rows.high) in
        let o = get_or t (number nx i j) 0 in
        let sq = nearest 1 dirty nx (at i j) ny in
        let S : Shade dirty nx w 0 e i j o = subst (λ (z : List ℕ). Shade z nx w 0 e i j o) dirty_are (T.cell i j I (told-all w j)) in
        let out : (x k : ℕ) → x < nx → k < ny → (In w x k → ⊥) → eqb (get_or dirty (number nx x k) 0) 1 ≡ true → e ≤ apart (at i j) (at x k) = λ x k X Y n m. absurd (n (W.cut refl x k X Y m)) in
        let bound : e ≤ far = omega arith in
        let whole = square_of_lem dirty nx ny i j I2 J2 in
        let same : ltb o e ≡ ltb sq e =
        by_cases (ltb o e)
        (λ y. y ∙ sym (lt-ltb sq e (in_both dirty nx ny w W.columns.high W.rows.high i j 0 e o bound S out (ltb-true o e y))))
        (λ y. y ∙ sym (le-ltb sq e (out_both dirty nx ny w W.columns.high W.rows.high i j 0 e o bound S out (ltb-false o e y)))) in
        ap (λ (z : List ℕ). le (rooted_of (get_or z (number nx i j) 0)) (reach_of g.setup)) near-words_are
        ∙ near-is g o S.fits e near-takes.told
        ∙ same
        ∙ sym (near-is g sq (nearest-far dirty nx (at i j) ny) e near-takes.told)
        ∙ ap (λ (z : ℕ). le (rooted_of z) (reach_of g.setup)) (sym whole);
  }
