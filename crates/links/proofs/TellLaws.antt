-- What tells the nodes of a lattice: the squares of the distance to stock, and the words of a dilation. Assumes nothing.
use mathlib.Core.Path.{◌≡◌, refl, sym, ap, ◌∙◌}
use mathlib.Core.List.{List}
use Prim.Native.Nat.{ℕ, ◌+◌, ◌-◌, ◌*◌, ◌/◌, ◌%◌, ◌≤◌, ◌<◌}
use native.Mathlib.Omega.{arith}
use native.Mathlib.Nat.{mul-add-mod_self_right, mod-eq_of_lt}
use lib.Dec.{eqb, ltb, leb}
use lib.ListN.{length, get_or}
use lib.Ieee.{lt}
use borrow.Author.Tests.{eq-eqb, ltb-true, ltb-false, leb-true, leb-false, le-leb, lt-leb}
use Rattle.loops.proofs.Cases.{by_cases, or_left, or_right}
use Rattle.distance.specs.Least.{far, at, MapSides}
use Rattle.distance.specs.Nearest.{nearest, squares_of, transform_of}
use Rattle.distance.specs.Rooted.{rooted_of}
use Rattle.distance.specs.Limits.{scaled_of}
use Rattle.distance.specs.declared.limits.Limit.{Limit}
use Rattle.distance.specs.declared.limits.Threshold.{Threshold}
use Rattle.distance.proofs.NearestLaws.{room, listed_at, transform_at, transform_long}
use Rattle.distance.proofs.NearLaws.{square_of_lem, nearest-far, nearest-at, nearest-over}
use Rattle.distance.proofs.LimitLaws.{beyond-is}
use Rattle.dilation.specs.Window.{Takes, Shade, Told, Shaded}
use Rattle.dilation.specs.declared.window.Window.{Window}
use Rattle.raster.specs.Grid.{numbered}
use Rattle.links.specs.declared.lattice.Lattice.{Lattice}
use Rattle.links.specs.Lattice.{along, column_of, row_of, cell_of_node, Laid, bound_of, Telling}
use Rattle.links.specs.Search.{cells}
use Rattle.links.proofs.LatticeLaws.{along-first, along-last, along-below, cell_below}

module _ (l : Lattice) (L : Laid l) (m : List ℕ) where
  abbrev nx : ℕ
  nx = l.grid.nx

  abbrev ny : ℕ
  ny = l.grid.ny

  -- ---- the squares

  sides : MapSides nx ny
  sides = let s = L.sides in record { column = s.wide; wide = s.columns; row = s.high; high = s.rows }

  module _ (s : List ℕ) (R : 5 * cells l ≤ length s) where
    room_there : ny * nx + 3 * nx ≤ length s
    room_there = room nx ny (length s) sides (omega arith)

    pub transform_asks : cells l ≤ length m → MapSides nx ny × ((ny * nx ≤ length m) × (ny * nx + 3 * nx ≤ length s))
    transform_asks M = (sides, (M, room_there))

    pub squares_tell : (t : List ℕ) → t ≡ transform_of 1 m nx ny s → Telling l (squares_of 1 m nx ny) t × (length t ≡ length s)
    unfolding squares_of
    squares_tell t T = (
      record {
        node = λ v h.
            let k = (cell_of_node l v).0 in
            ap (λ (d : ℕ). lt l.margin (rooted_of d))
            (ap (λ (w : List ℕ). get_or w k 0) T ∙ transform_at 1 m nx ny s k (cell_below l L v h) ∙ sym (listed_at _ 0 (ny * nx) k (cell_below l L v h)));
      },
      transform_long 1 m nx ny s t room_there T,
    )

  -- ---- a dilation of the whole map

  abbrev whole : Window
  whole = record { lo = 0; hi = ny; left = 0; right = nx }

  -- a node's row is told
  row_told : (a : ℕ) → Told l.k (l.k / 2) whole (along a l.k ny)
  row_told a =
      let k = l.k in
      let s = L.step in
      let h = L.sides.high in
      by_cases (ltb (a * k + k / 2) (ny - 1))
      (λ e.
      let i = along-first a k ny (a * k + k / 2) refl (ltb-true (a * k + k / 2) (ny - 1) e) in
      let z : k / 2 < k = omega arith in
      or_left _ _ (eq-eqb _ _ (ap (λ (n : ℕ). n % k) (sym i) ∙ mul-add-mod_self_right a k (k / 2) ∙ mod-eq_of_lt z)))
      (λ e. let i = along-last a k ny (a * k + k / 2) refl (ltb-false (a * k + k / 2) (ny - 1) e) in or_right (eqb (along a k ny % k) (k / 2)) _ (eq-eqb (along a k ny + 1) ny (omega (arith, i))))

  module _ (limit : Limit) (Q : limit.threshold ≡ bound_of l.margin) (b : ℕ) (K : Takes limit b) where
    -- two squares on the same side of the limit
    side_same : (o d : ℕ) → o ≤ far → d ≤ far → (o < b → d < b) → (b ≤ o → b ≤ d) → lt l.margin (rooted_of o) ≡ lt l.margin (rooted_of d)
    unfolding scaled_of
    side_same o d O D f g =
        sym (judged o O)
        ∙ by_cases (leb b o) (λ e. e ∙ sym (le-leb b d (g (leb-true b o e)))) (λ e. e ∙ sym (lt-leb b d (f (leb-false b o e))))
        ∙ judged d D
      where
        judged : (q : ℕ) → q ≤ far → leb b q ≡ lt l.margin (rooted_of q)
        judged q A = beyond-is limit.threshold b q (limit.told b K.told) (ap (λ (t : Threshold). t.strict) Q) A ∙ ap (λ (t : Threshold). lt t.x (scaled_of t.scale q)) Q

    -- a word and the square of its cell
    shade_tells : (i j o : ℕ) → Shade m nx whole 0 b i j o → lt l.margin (rooted_of o) ≡ lt l.margin (rooted_of (nearest 1 m nx (at i j) ny))
    shade_tells i j o S = side_same o _ S.fits (nearest-far m nx (at i j) ny)
        (λ h. let z = S.within h in omega (arith, z.less, nearest-at m nx (at i j) ny z.column z.row z.inside.right z.inside.high z.set))
        (λ h. nearest-over m nx (at i j) b (omega arith) ny (λ x k p q e. (S.beyond h).least x k (record { low = omega arith; high = q; left = omega arith; right = p }) e))

    pub shaded_tell : (s t : List ℕ) → Shaded m nx whole l.k (l.k / 2) 0 b s t → Telling l (squares_of 1 m nx ny) t × (length t ≡ length s)
    unfolding cell_of_node numbered
    shaded_tell s t S = (
      record {
        node = λ v h.
            let i = column_of l v in
            let j = row_of l v in
            let I : i < nx = along-below _ _ _ L.sides.wide in
            let J : j < ny = along-below _ _ _ L.sides.high in
            shade_tells i j _ (S.cell i j (record { low = omega arith; high = J; left = omega arith; right = I }) (row_told _))
            ∙ ap (λ (d : ℕ). lt l.margin (rooted_of d)) (sym (square_of_lem m nx ny i j I J));
      },
      S.long,
    )
