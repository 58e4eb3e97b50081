-- The squares of a round in the workspace: what stands where, and that by them a band's cells are wanted and have the values that the whole maps give them. Assumes nothing.
use mathlib.Core.Path.{◌≡◌, refl, sym, ap, ◌∙◌, subst}
use mathlib.Core.Bool.{Bool, true, false}
use mathlib.Core.List.{List, ◌++◌}
use mathlib.Core.Logic.{◌⊎◌, inl, inr, ⊎_elim}
use Prim.Native.Nat.{ℕ, ◌+◌, ◌-◌, ◌*◌, ◌≤◌, ◌<◌}
use native.Mathlib.Omega.{arith}
use native.Mathlib.Nat.{add-mul, mul-le-mul_right}
use lib.ListN.{length, get_or, take, drop, get_or-append}
use lib.Seq.{get_or-take, get_or-drop, get_or-append-add, length-take-le}
use lib.Ieee.{binary64, mul, lt, le}
use borrow.Author.Tests.{eqb-true, eq-eqb}
use borrow.Rule.Slice.PartMut.{put_mid}
use Rattle.std.specs.Prelude.{Option, Some, None}
use Rattle.loops.specs.Cells.{number}
use Rattle.loops.specs.Regions.{Fits, within, put}
use Rattle.loops.specs.Frame.{Only}
use Rattle.loops.proofs.RegionLaws.{region-long, put_is}
use Rattle.loops.proofs.FrameLaws.{put_only, only_same, only_more, only-before, only_wider}
use Rattle.dilation.specs.Window.{In}
use Rattle.dilation.specs.declared.window.Window.{Window}
use Rattle.distance.specs.Least.{far, at, gap, square, MapSides}
use Rattle.distance.specs.Nearest.{nearest, squares_of, transform_of}
use Rattle.distance.specs.Rooted.{rooted_of}
use Rattle.distance.proofs.NearestLaws.{squares-long, transform_long}
use Rattle.distance.proofs.NearLaws.{nearest-far, square_of_lem}
use Rattle.raster.specs.Grid.{Sides}
use Rattle.raster.specs.declared.grid.Grid.{Grid}
use Rattle.raster.proofs.GridLaws.{number-below}
use Rattle.setup.specs.Layout.{run}
use Rattle.setup.specs.Place.{cells_of}
use Rattle.setup.specs.declared.Setup.{Setup}
use Rattle.field.specs.Bands.{Inside, RowsOf, widened, Margin, MarkedRows, rows_of, columns_of}
use Rattle.field.specs.Field.{high_of, reach_of, value_of, value_at, wanted_at}
use Rattle.field.specs.Squares.{squares_put, StockedRows, NearedRows, Stocked, Neared, Measured}
use Rattle.field.specs.declared.band.Band.{Band}
use Rattle.field.specs.declared.gauge.Gauge.{Gauge}
use Rattle.field.proofs.SplitLaws.{band_square}
use Rattle.field.proofs.BandLaws.{wide_rows, wide-some, wide-inside, wide-gap, far-out}
use Rattle.field.proofs.RoundLaws.{wide-cells}

-- ---- a place of a region

within-at : (a e : ℕ) (w : List ℕ) (x : ℕ) → x < e - a → get_or (within a e w) x 0 ≡ get_or w (a + x) 0
unfolding within
within-at a e w x h = get_or-take (e - a) (drop a w) x 0 h ∙ get_or-drop a w x 0

put-at : (a e : ℕ) (w r : List ℕ) → Fits a e w → (x : ℕ) → x < length r → get_or (put a e r w) (a + x) 0 ≡ get_or r x 0
unfolding put
put-at a e w r f x h =
    ap (λ (k : ℕ). get_or (take a w ++ (r ++ drop e w)) (k + x) 0) (sym (length-take-le a w (omega (arith, f.start, f.end))))
    ∙ get_or-append-add (take a w) (r ++ drop e w) x 0
    ∙ get_or-append r (drop e w) 0 x h

-- ---- the squares of a band that were written

module _ (nx ny : ℕ) (band : Band) (a c : ℕ) (b u : List ℕ) (O : band.lo < band.hi) (H : band.hi ≤ ny) (L : c + (ny * nx + 3 * nx) ≤ length u) where
  cells-high : band.hi * nx ≤ ny * nx
  cells-high = mul-le-mul_right nx H

  cells_are : band.hi * nx ≡ band.lo * nx + (band.hi - band.lo) * nx
  cells_are = ap (λ (k : ℕ). k * nx) (let z : band.hi ≡ band.lo + (band.hi - band.lo) = omega arith in z) ∙ add-mul band.lo (band.hi - band.lo) nx

  squares_fit : Fits (c + band.lo * nx) (c + (band.hi * nx + 3 * nx)) u
  squares_fit = record { start = omega (arith, cells_are); end = omega (arith, cells-high) }

  abbrev part : List ℕ
  part = within (a + band.lo * nx) (a + band.hi * nx) b

  abbrev left : List ℕ
  left = transform_of 1 part nx (band.hi - band.lo) (within (c + band.lo * nx) (c + (band.hi * nx + 3 * nx)) u)

  left-long : length left ≡ c + (band.hi * nx + 3 * nx) - (c + band.lo * nx)
  unfolding within
  left-long =
      let l = region-long (c + band.lo * nx) (c + (band.hi * nx + 3 * nx)) u squares_fit in
      transform_long 1 part nx (band.hi - band.lo) (within (c + band.lo * nx) (c + (band.hi * nx + 3 * nx)) u) _ (omega (arith, l, cells_are)) refl ∙ l

  -- nothing else changed
  squares-only : Only (c + band.lo * nx) (c + (band.hi * nx + 3 * nx)) u (squares_put nx band a c b u)
  unfolding squares_put
  squares-only = put_only (c + band.lo * nx) (c + (band.hi * nx + 3 * nx)) u squares_fit left left-long

  -- the squares, by cell
  squares-at : (i j : ℕ) → i < nx → Inside band j → get_or (within c (c + ny * nx) (squares_put nx band a c b u)) (number nx i j) 0 ≡ nearest 1 part nx (at i (j - band.lo)) (band.hi - band.lo)
  unfolding squares_put transform_of
  squares-at i j h I =
      let low = I.low in
      let high = I.high in
      let d = band.hi - band.lo in
      let k = (j - band.lo) * nx + i in
      let here : k < d * nx = number-below nx d i (j - band.lo) (d * nx) h (omega arith) (omega arith) in
      let there : j * nx + i < ny * nx = number-below nx ny i j (ny * nx) h (omega arith) (omega arith) in
      let row : j * nx ≡ band.lo * nx + (j - band.lo) * nx = ap (λ (x : ℕ). x * nx) (let z : j ≡ band.lo + (j - band.lo) = omega arith in z) ∙ add-mul band.lo (j - band.lo) nx in
      let long : length (squares_of 1 part nx d) ≡ d * nx = squares-long 1 part nx d in
      within-at c (c + ny * nx) (put (c + band.lo * nx) (c + (band.hi * nx + 3 * nx)) left u) (j * nx + i) (omega arith)
      ∙ ap (λ (x : ℕ). get_or (put (c + band.lo * nx) (c + (band.hi * nx + 3 * nx)) left u) x 0) (let z : c + (j * nx + i) ≡ c + band.lo * nx + k = omega arith in z)
      ∙ put-at (c + band.lo * nx) (c + (band.hi * nx + 3 * nx)) u left squares_fit k (omega (arith, left-long, cells_are))
      ∙ get_or-append (squares_of 1 part nx d) _ 0 k (omega arith)
      ∙ square_of_lem part nx d i (j - band.lo) h (omega arith)

  -- the band's map is part of the whole one
  part_at : (x : ℕ) → x < (band.hi - band.lo) * nx → get_or part x 0 ≡ get_or (within a (a + ny * nx) b) (band.lo * nx + x) 0
  part_at x h =
      within-at (a + band.lo * nx) (a + band.hi * nx) b x (omega (arith, cells_are))
      ∙ ap (λ (k : ℕ). get_or b k 0) (let z : a + band.lo * nx + x ≡ a + (band.lo * nx + x) = omega arith in z)
      ∙ sym (within-at a (a + ny * nx) b (band.lo * nx + x) (omega (arith, cells_are, cells-high)))

  -- the square of one of its cells is that of the whole map, or neither is below e, if that holds of each mark beyond the band
  pub squares_are : (i j e : ℕ) → i < nx → Inside band j → e ≤ far
      → ((x k : ℕ) → x < nx → k < ny → (Inside band k → ⊥) → get_or (within a (a + ny * nx) b) (number nx x k) 0 ≡ 1 → e ≤ square (gap j k))
      → (get_or (within c (c + ny * nx) (squares_put nx band a c b u)) (number nx i j) 0 ≡ get_or (squares_of 1 (within a (a + ny * nx) b) nx ny) (number nx i j) 0)
      ⊎ ((e ≤ get_or (within c (c + ny * nx) (squares_put nx band a c b u)) (number nx i j) 0) × (e ≤ get_or (squares_of 1 (within a (a + ny * nx) b) nx ny) (number nx i j) 0))
  squares_are i j e h I E f =
      let low = I.low in
      let high = I.high in
      let whole = square_of_lem (within a (a + ny * nx) b) nx ny i j h (omega arith) in
      rw (squares-at i j h I, whole)
      (band_square (within a (a + ny * nx) b) part nx band.lo (band.hi - band.lo) part_at i j low ny e (omega arith) E
      (λ x k X K o t. f x k X K (λ n. let p = n.low in let q = n.high in ⊎_elim (λ z. omega arith) (λ z. omega arith) o) (eqb-true _ _ t)))

-- ---- to cells that were cut

-- no two squares are farther than far
same-far : (p q : ℕ) → p ≤ far → q ≤ far → (p ≡ q) ⊎ ((far ≤ p) × (far ≤ q)) → p ≡ q
same-far p q h k e = ⊎_elim (λ z. z) (λ z. let a = z.0 in let b = z.1 in omega arith) e

module _ (nx ny : ℕ) (m : List ℕ) (i j : ℕ) (h : i < nx) (k : j < ny) where
  whole-far : get_or (squares_of 1 m nx ny) (number nx i j) 0 ≤ far
  whole-far = rw (square_of_lem m nx ny i j h k) (nearest-far m nx (at i j) ny)

module _ (g : Grid) (S : Sides g) (band : Band) (b u : List ℕ) (O : band.lo < band.hi) (l : 5 * (g.ny * g.nx) ≤ length u)
    (M : MarkedRows (run 4 (g.ny * g.nx) b) g.nx g.ny band) where
  near_fits : 1 * (g.ny * g.nx) + (g.ny * g.nx + 3 * g.nx) ≤ length u
  near_fits = omega (arith, wide-cells g S)

  near-put : NearedRows g band b u (squares_put g.nx band (4 * (g.ny * g.nx)) (1 * (g.ny * g.nx)) b u)
  near-put =
      let n = g.ny * g.nx in
      let nx = g.nx in
      let ny = g.ny in
      let H = M.rows.high in
      let t = cells-high nx ny band (4 * n) (1 * n) b u O H near_fits in
      let w = wide-cells g S in
      record {
        words =
            only_wider (1 * n + band.lo * nx) (1 * n + (band.hi * nx + 3 * nx)) u _ (squares_fit nx ny band (4 * n) (1 * n) b u O H near_fits) (squares-only nx ny band (4 * n) (1 * n) b u O H near_fits)
            (1 * n) (5 * n) (omega arith) (omega arith) l;
        near = λ i j h I.
            let low = I.low in
            let high = I.high in
            same-far _ _
            (subst (λ (q : ℕ). q ≤ far) (sym (squares-at nx ny band (4 * n) (1 * n) b u O H near_fits i j h I)) (nearest-far _ nx (at i (j - band.lo)) (band.hi - band.lo)))
            (whole-far nx ny (run 4 n b) i j h (omega arith))
            (squares_are nx ny band (4 * n) (1 * n) b u O H near_fits i j far h I (omega arith) (λ x k X K o e. absurd (o (M.marked x k X K (eq-eqb _ _ e)))));
      }

  pub near-is : (n a c : ℕ) (v : List ℕ) → n ≡ g.ny * g.nx → a ≡ 4 * n → c ≡ 1 * n → v ≡ squares_put g.nx band a c b u → NearedRows g band b u v
  near-is n a c v N A C e =
      subst (NearedRows g band b u)
      (sym (e ∙ ap (λ (z : ℕ). squares_put g.nx band z c b u) (A ∙ ap (λ (z : ℕ). 4 * z) N) ∙ ap (λ (z : ℕ). squares_put g.nx band (4 * (g.ny * g.nx)) z b u) (C ∙ ap (λ (z : ℕ). 1 * z) N)))
      near-put

-- ---- to stock

-- no stock is near at either distance, or they are one
abbrev Alike : Setup → ℕ → ℕ → Type 0
Alike s p q = (p ≡ q) ⊎ ((lt (high_of s) (mul binary64 (rooted_of p) s.grid.cell) ≡ true) × (lt (high_of s) (mul binary64 (rooted_of q) s.grid.cell) ≡ true))

value_alike : (s : Setup) (map l k : List ℕ) (i j : ℕ) → Alike s (get_or l (number s.grid.nx i j) 0) (get_or k (number s.grid.nx i j) 0) → value_at s map l i j ≡ value_at s map k i j
unfolding value_at value_of
value_alike s map l k i j e = ⊎_elim (λ z. ap (λ (d : ℕ). value_of s map (mul binary64 (rooted_of d) s.grid.cell) i j) z) (λ z. rw (z.0, z.1) refl) e

by_option : {C : Type 0} (o : Option ℕ) → ((e : ℕ) → o ≡ Some e → C) → (o ≡ None → C) → C
by_option (Some e) f g = f e refl
by_option None f g = g refl

module _ (g : Gauge) (S : Sides g.setup.grid) (band : Band) (b u : List ℕ) (O : band.lo < band.hi) (H : band.hi ≤ g.setup.grid.ny) (l : 5 * cells_of g.setup ≤ length u)
    (m : ℕ) (M : Margin g.far.below g.setup.grid.ny m) (wide : Band) (W : wide ≡ widened g.setup.grid.ny m band) where
  some : wide.lo < wide.hi
  some = wide-some g.setup.grid.ny m band wide W (omega arith) H O

  high : wide.hi ≤ g.setup.grid.ny
  high = (wide_rows g.setup.grid.ny m band wide W (omega arith) H).high

  gap-over : (j k : ℕ) → Inside band j → (Inside wide k → ⊥) → k < g.setup.grid.ny → m < gap j k
  gap-over j k I o K = omega (arith, wide-gap g.setup.grid.ny m band wide W (omega arith) H k j I o K)

  stock-fits : 0 * cells_of g.setup + (g.setup.grid.ny * g.setup.grid.nx + 3 * g.setup.grid.nx) ≤ length u
  stock-fits = omega (arith, wide-cells g.setup.grid S)

  abbrev stock_words : List ℕ
  stock_words = squares_put g.setup.grid.nx wide (0 * cells_of g.setup) (0 * cells_of g.setup) b u

  stock_alike : (i j : ℕ) → i < g.setup.grid.nx → Inside band j
      → Alike g.setup (get_or (run 0 (cells_of g.setup) stock_words) (number g.setup.grid.nx i j) 0)
      (get_or (squares_of 1 (run 0 (cells_of g.setup) b) g.setup.grid.nx g.setup.grid.ny) (number g.setup.grid.nx i j) 0)
  stock_alike i j p I =
      let n = cells_of g.setup in
      let nx = g.setup.grid.nx in
      let ny = g.setup.grid.ny in
      let below = I.high in
      let J : Inside wide j = wide-inside g.setup.grid.ny m band wide W (omega arith) H j I in
      let here : get_or (run 0 n stock_words) (number nx i j) 0 ≤ far =
      subst (λ (q : ℕ). q ≤ far) (sym (squares-at nx ny wide (0 * n) (0 * n) b u some high stock-fits i j p J)) (nearest-far _ nx (at i (j - wide.lo)) (wide.hi - wide.lo)) in
      let there : get_or (squares_of 1 (run 0 n b) nx ny) (number nx i j) 0 ≤ far = whole-far nx ny (run 0 n b) i j p (omega arith) in
      by_option g.far.below
      (λ e t. ⊎_elim inl (λ z. inr (far-out g _ here e t z.0, far-out g _ there e t z.1))
      (squares_are nx ny wide (0 * n) (0 * n) b u some high stock-fits i j e p J (M.fits e t)
      (λ x k X K o _. let v = M.beyond (gap j k) (gap-over j k I o K) (omega arith) in let z : e ≡ v.0 = cc (t, v.1) in omega (arith, z, v.2))))
      (λ t. inl (same-far _ _ here there
      (squares_are nx ny wide (0 * n) (0 * n) b u some high stock-fits i j far p J (omega arith)
      (λ x k X K o e. let v = M.beyond (gap j k) (gap-over j k I o K) (omega arith) in cc (t, v.1)))))

  stock-put : StockedRows g.setup band b u stock_words
  stock-put =
      let n = cells_of g.setup in
      let nx = g.setup.grid.nx in
      let ny = g.setup.grid.ny in
      let t = cells-high nx ny wide (0 * n) (0 * n) b u some high stock-fits in
      let w = wide-cells g.setup.grid S in
      record {
        words =
            only_wider (0 * n + wide.lo * nx) (0 * n + (wide.hi * nx + 3 * nx)) u _ (squares_fit nx ny wide (0 * n) (0 * n) b u some high stock-fits)
            (squares-only nx ny wide (0 * n) (0 * n) b u some high stock-fits) (0 * n) (5 * n) (omega arith) (omega arith) l;
        value = λ i j p I. value_alike g.setup (run 0 n b) (run 0 n stock_words) (squares_of 1 (run 0 n b) nx ny) i j (stock_alike i j p I);
      }

  pub stock-is : (v : List ℕ) → v ≡ squares_put g.setup.grid.nx wide 0 0 b u → StockedRows g.setup band b u v
  stock-is v e =
      let z : 0 ≡ 0 * cells_of g.setup = omega arith in
      subst (StockedRows g.setup band b u) (sym (e ∙ ap (λ (k : ℕ). squares_put g.setup.grid.nx wide k k b u) z)) stock-put

-- ---- both

module _ (s : Setup) (all : Bool) (w : Window) (b u : List ℕ) (l : 5 * cells_of s ≤ length u) where
  words_fit : Fits (0 * cells_of s) (5 * cells_of s) u
  words_fit = record { start = omega arith; end = l }

  -- no row is gone through
  pub measured-none : w.hi ≤ w.lo → Measured s all w b u u
  measured-none e =
      let none : (i j : ℕ) → In w i j → ⊥ = λ i j I. let p = I.low in let q = I.high in omega arith in
      record { words = only_same (0 * cells_of s) (5 * cells_of s) u words_fit; value = λ i j I. absurd (none i j I); wanted = λ i j I. absurd (none i j I) }

  module _ (u₁ : List ℕ) (X : Stocked s w b u u₁) where
    pub measured-all : all ≡ true → Measured s all w b u u₁
    unfolding wanted_at
    measured-all e = record { words = X.words; value = X.value; wanted = λ i j I. rw e refl }

    pub measured_both : all ≡ false → (u₂ : List ℕ) → Neared s w b u₁ u₂ → Measured s all w b u u₂
    unfolding wanted_at
    measured_both e u₂ Y =
        let n = cells_of s in
        let k : 5 * n ≤ length u₁ = omega (arith, X.words.long) in
        let f : Fits (1 * n) (5 * n) u₁ = record { start = omega arith; end = k } in
        let same : run 0 n u₂ ≡ run 0 n u₁ = only-before (1 * n) (5 * n) u₁ f u₂ Y.words (0 * n) (0 * n + n) (omega arith) (omega arith) in
        record {
          words = only_more (0 * n) (5 * n) u words_fit u₁ X.words u₂ (only_wider (1 * n) (5 * n) u₁ u₂ f Y.words (0 * n) (5 * n) (omega arith) (omega arith) k);
          value = λ i j I. ap (λ (q : List ℕ). value_at s (run 0 n b) q i j) same ∙ X.value i j I;
          wanted = λ i j I. rw (Y.near i j I) refl;
        }

-- ---- a window, by the squares of its rows

module _ (s : Setup) (w : Window) (b u v : List ℕ) (C : RowsOf s.grid.nx (columns_of w)) where
  inside-rows : (i j : ℕ) → In w i j → (i < s.grid.nx) × Inside (rows_of w) j
  inside-rows i j I = let r = I.right in let h = C.high in (omega arith, record { low = I.low; high = I.high })

  pub stocked_rows : StockedRows s (rows_of w) b u v → Stocked s w b u v
  stocked_rows X = record { words = X.words; value = λ i j I. let z = inside-rows i j I in X.value i j z.0 z.1 }

  pub neared_rows : NearedRows s.grid (rows_of w) b u v → Neared s w b u v
  neared_rows X = record { words = X.words; near = λ i j I. let z = inside-rows i j I in ap (λ (q : ℕ). le (rooted_of q) (reach_of s)) (X.near i j z.0 z.1) }

-- ---- the parts that are lent, and come back

module _ (g : Grid) (S : Sides g) (band : Band) (a c : ℕ) (b u : List ℕ) (O : band.lo < band.hi) (H : band.hi ≤ g.ny) (B : a + g.ny * g.nx ≤ length b) (L : c + (g.ny * g.nx + 3 * g.nx) ≤ length u) where
  -- what the transform asks for
  pub squares-ask : MapSides g.nx (band.hi - band.lo) × (((band.hi - band.lo) * g.nx ≤ length (take (a + band.hi * g.nx - (a + band.lo * g.nx)) (drop (a + band.lo * g.nx) b)))
      × ((band.hi - band.lo) * g.nx + 3 * g.nx ≤ length (take (c + (band.hi * g.nx + 3 * g.nx) - (c + band.lo * g.nx)) (drop (c + band.lo * g.nx) u))))
  squares-ask =
      let e = cells_are g.nx g.ny band a c b u O H L in
      let t = cells-high g.nx g.ny band a c b u O H L in (
        record { column = S.wide; wide = S.columns; row = omega arith; high = omega (arith, S.rows) },
        (
          omega (arith, region-long (a + band.lo * g.nx) (a + band.hi * g.nx) b (record { start = omega arith; end = omega arith })),
          omega (arith, region-long (c + band.lo * g.nx) (c + (band.hi * g.nx + 3 * g.nx)) u (squares_fit g.nx g.ny band a c b u O H L)),
        ),
      )

  pub squares-is : (t : List ℕ)
      → t ≡ transform_of 1 (take (a + band.hi * g.nx - (a + band.lo * g.nx)) (drop (a + band.lo * g.nx) b)) g.nx (band.hi - band.lo) (take (c + (band.hi * g.nx + 3 * g.nx) - (c + band.lo * g.nx)) (drop (c + band.lo * g.nx) u))
      → put_mid (c + band.lo * g.nx) (c + (band.hi * g.nx + 3 * g.nx) - (c + band.lo * g.nx)) u t ≡ squares_put g.nx band a c b u
  unfolding squares_put within
  squares-is t T = put_is (c + band.lo * g.nx) (c + (band.hi * g.nx + 3 * g.nx)) u (squares_fit g.nx g.ny band a c b u O H L) t _ T
