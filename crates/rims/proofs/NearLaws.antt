-- A sample judged by the table is judged as by its definition. Assumes nothing.
use Rattle.std.specs.Prelude.{Some}
use mathlib.Core.Path.{◌≡◌, refl, sym, ◌∙◌, ap, subst}
use mathlib.Core.Bool.{Bool, true, false, cond}
use mathlib.Core.List.{List}
use Prim.Native.Nat.{ℕ, ◌+◌, ◌-◌, ◌*◌, ◌/◌, ◌%◌, ◌^◌, ◌≤◌, ◌<◌, zero-le}
use native.Mathlib.Omega.{arith}
use lib.ListN.{get_or}
use lib.Dec.{T, eqb, lit≤, lit<}
use lib.Ieee.{Float, nan, binary64, prec, fits, of_bits, of_int, to_unsigned, add, sub, mul, div, le}
use lib.Ieee.Fits.{sub-fits}
use Rattle.loops.proofs.Cases.{by_test}
use Rattle.floats.proofs.IndexLaws.{index_lt, index_not_le, cut_mono, cut-whole, whole_mono}
use Rattle.floats.proofs.OrderLaws.{le_le, le_numbers}
use Rattle.floats.proofs.RoundMono.{round_zero}
use Rattle.numbers.specs.Cast.{float}
use Rattle.geom.specs.Vec.{f0, sum, scaled}
use Rattle.geom.specs.declared.vec2.Vec2.{Vec2}
use Rattle.raster.specs.Grid.{Sides, cell_of, column_at, row_at, stock_at}
use Rattle.raster.specs.Contact.{direction_at, rim_at}
use Rattle.raster.specs.declared.grid.Grid.{Grid}
use Rattle.raster.proofs.GridLaws.{found_at, number-below, stock-some}
use Rattle.rims.specs.Offsets.{Roomy}
use Rattle.spans.specs.Spans.{word}
use Rattle.rims.specs.Boxes.{First, Two, Near, Inside, block_at, Around, BlockOn}
use Rattle.rims.specs.Tiles.{tile_at, Tiled, BareBlock}

-- ---- along one axis

zero_is : float 0 ≡ f0
unfolding of_int of_bits
zero_is = round_zero binary64 false 1 (lit< tt)

module _ (cell q x : Float) (n k : ℕ) (N : n ≤ 4096) (Q : T (fits binary64 q)) (t : Two n k (div binary64 q cell)) (F : First cell (k + 1) x) where
  abbrev f : Float
  f = div binary64 q cell

  two-low : le f0 f ≡ true
  two-low = subst (λ (z : Float). le z f ≡ true) zero_is (le_le (float 0) (float k) f (whole_mono binary64 0 k zero-le) t.low)

  two-place : cond (le x q) (k + 1) k ≡ to_unsigned 64 f
  two-place =
      let on = t.on in
      let l : 4098 ≤ 2 ^ prec binary64 = lit≤ tt in
      by_test (λ (z : ℕ). z ≡ to_unsigned 64 f) (le x q) (k + 1) k
      (λ h.
      let a : to_unsigned 64 (float (k + 1)) ≤ to_unsigned 64 f = cut_mono 64 (float (k + 1)) f (sym (F.at q Q) ∙ h) in
      let b : to_unsigned 64 (float (k + 1)) ≡ k + 1 = cut-whole binary64 64 (k + 1) (omega arith) (omega arith) in
      let c : to_unsigned 64 f < k + 2 = index_lt binary64 64 (k + 2) f (omega arith) (omega arith) t.high in
      omega arith)
      (λ h.
      let a : to_unsigned 64 (float k) ≤ to_unsigned 64 f = cut_mono 64 (float k) f t.low in
      let b : to_unsigned 64 (float k) ≡ k = cut-whole binary64 64 k (omega arith) (omega arith) in
      let c : to_unsigned 64 f < k + 1 = index_not_le binary64 64 (k + 1) f (omega arith) (omega arith) (le_numbers (float k) f t.low).1 (sym (F.at q Q) ∙ h) in
      omega arith)

  two-on : cond (le x q) (k + 1) k < n
  two-on = let on = t.on in by_test (λ (z : ℕ). z < n) (le x q) (k + 1) k (λ h. omega arith) (λ h. omega arith)

next_or_not : (b : Bool) (k : ℕ) → (k ≤ cond b (k + 1) k) × (cond b (k + 1) k ≤ k + 1)
next_or_not true k = (omega arith, omega arith)
next_or_not false k = (omega arith, omega arith)

-- ---- the cell of a sample

module _ (g : Grid) (S : Sides g) (p : Vec2) (r : Float) (w : List Float) (n at i j : ℕ) (A : Around g p r w n at i j) (k e : ℕ) (K : k < n) (here : word w (at + 1 + k) ≡ e + 1) where
  abbrev point : Vec2
  point = rim_at p r (direction_at n k)

  near : Near g r A.room (direction_at n k) (e % 4096) (e / 4096)
  near = (A.entries.entry k K).near e here

  across : Two g.nx (i + e % 4096) (column_at g point)
  across = subst (λ (z : ℕ). Two g.nx (z + e % 4096) (column_at g point)) (let z : i + A.room - A.room ≡ i = omega arith in z) (near.column p (i + A.room) (j + A.room) A.cell A.roomy)

  along : Two g.ny (j + e / 4096) (row_at g point)
  along = subst (λ (z : ℕ). Two g.ny (z + e / 4096) (row_at g point)) (let z : j + A.room - A.room ≡ j = omega arith in z) (near.row p (i + A.room) (j + A.room) A.cell A.roomy)

  -- both columns are on the grid
  columns-on : i + e % 4096 + 1 < g.nx
  columns-on = across.on

  -- both rows are
  pub rows_on : j + e / 4096 + 1 < g.ny
  rows_on = along.on

  abbrev qx : Float
  qx = sub binary64 (add binary64 p.x (mul binary64 (get_or w (2 * k) nan) r)) g.origin.x

  abbrev qy : Float
  qy = sub binary64 (add binary64 p.y (mul binary64 (get_or w (2 * k + 1) nan) r)) g.origin.y

  same-x : qx ≡ sub binary64 point.x g.origin.x
  unfolding rim_at sum scaled
  same-x = ap (λ (z : Float). sub binary64 (add binary64 p.x (mul binary64 z r)) g.origin.x) (A.rim.x k K)

  same-y : qy ≡ sub binary64 point.y g.origin.y
  unfolding rim_at sum scaled
  same-y = ap (λ (z : Float). sub binary64 (add binary64 p.y (mul binary64 z r)) g.origin.y) (A.rim.y k K)

  two-x : Two g.nx (i + e % 4096) (div binary64 qx g.cell)
  two-x = subst (λ (z : Float). Two g.nx (i + e % 4096) (div binary64 z g.cell)) (sym same-x) across

  two-y : Two g.ny (j + e / 4096) (div binary64 qy g.cell)
  two-y = subst (λ (z : Float). Two g.ny (j + e / 4096) (div binary64 z g.cell)) (sym same-y) along

  first-x : First g.cell (i + e % 4096 + 1) (get_or w (8194 + (i + e % 4096)) nan)
  first-x =
      let o = across.on in
      subst (λ (z : ℕ). First g.cell (i + e % 4096 + 1) (get_or w z nan)) (let z : 8193 + (i + e % 4096 + 1) ≡ 8194 + (i + e % 4096) = omega arith in z) (A.columns.at (i + e % 4096 + 1) (omega arith) o)

  first-y : First g.cell (j + e / 4096 + 1) (get_or w (8194 + (j + e / 4096)) nan)
  first-y =
      let o = along.on in
      subst (λ (z : ℕ). First g.cell (j + e / 4096 + 1) (get_or w z nan)) (let z : 8193 + (j + e / 4096 + 1) ≡ 8194 + (j + e / 4096) = omega arith in z) (A.rows.at (j + e / 4096 + 1) (omega arith) o)

  module _ (x y : ℕ) (cx : x ≡ cond (le (get_or w (8194 + (i + e % 4096)) nan) qx) (i + e % 4096 + 1) (i + e % 4096)) (cy : y ≡ cond (le (get_or w (8194 + (j + e / 4096)) nan) qy) (j + e / 4096 + 1) (j + e / 4096)) where
    column-on : x < g.nx
    column-on = subst (λ (z : ℕ). z < g.nx) (sym cx) (two-on g.cell qx _ g.nx _ S.columns (sub-fits binary64 _ _) two-x first-x)

    row_on : y < g.ny
    row_on = subst (λ (z : ℕ). z < g.ny) (sym cy) (two-on g.cell qy _ g.ny _ S.rows (sub-fits binary64 _ _) two-y first-y)

    pub cell-inside : y * g.nx + x < g.ny * g.nx
    cell-inside = number-below g.nx g.ny x y (g.ny * g.nx) column-on row_on (omega arith)

    cell-is : Some (x, y) ≡ cell_of g point
    cell-is =
        let a = S.columns in
        let b = S.rows in
        found_at g point (omega arith) (omega arith)
        (subst (λ (z : Float). le f0 (div binary64 z g.cell) ≡ true) same-x (two-low g.cell qx _ g.nx _ a (sub-fits binary64 _ _) two-x first-x))
        (subst (λ (z : Float). le f0 (div binary64 z g.cell) ≡ true) same-y (two-low g.cell qy _ g.ny _ b (sub-fits binary64 _ _) two-y first-y)) x y
        (cx ∙ two-place g.cell qx _ g.nx _ a (sub-fits binary64 _ _) two-x first-x ∙ ap (λ (z : Float). to_unsigned 64 (div binary64 z g.cell)) same-x) column-on
        (cy ∙ two-place g.cell qy _ g.ny _ b (sub-fits binary64 _ _) two-y first-y ∙ ap (λ (z : Float). to_unsigned 64 (div binary64 z g.cell)) same-y) row_on

    pub cell-stock : (m : List ℕ) → eqb (get_or m (y * g.nx + x) 0) 1 ≡ stock_at g m point
    cell-stock m = stock-some g m point (Some (x, y)) x y (y * g.nx + x) cell-is refl refl

  -- where a tile tells that no stock is near, the sample is not over stock
  near-bare : (m tiles : List ℕ) → Tiled g m tiles → (u v : ℕ) → u ≤ i + e % 4096 → i + e % 4096 ≤ u + 7 → v ≤ j + e / 4096 → j + e / 4096 ≤ v + 7 → get_or tiles (tile_at g u v) 0 ≡ 0 → stock_at g m point ≡ false
  near-bare m tiles B u v a b c d o =
      let f = le (get_or w (8194 + (i + e % 4096)) nan) qx in
      let h = le (get_or w (8194 + (j + e / 4096)) nan) qy in
      let x = cond f (i + e % 4096 + 1) (i + e % 4096) in
      let y = cond h (j + e / 4096 + 1) (j + e / 4096) in
      let one = next_or_not f (i + e % 4096) in
      let two = next_or_not h (j + e / 4096) in
      sym (cell-stock x y refl refl m) ∙ B.bare u v x y (omega (arith, one.0)) (omega (arith, one.1)) (column-on x y refl refl) (omega (arith, two.0)) (omega (arith, two.1)) (row_on x y refl refl) o

-- ---- a block

module _ (g : Grid) (S : Sides g) (p : Vec2) (r : Float) (w : List Float) (n at i j : ℕ) (A : Around g p r w n at i j) (b : ℕ) where
  -- what its word tells of its sample k
  block-at : b < 255 → 0 < block_at w at b → (k : ℕ) → 8 * b ≤ k → k < 8 * b + 8 → k < n
      → Inside ((block_at w at b - 1) % 4096) ((block_at w at b - 1) % 4096 + 7) ((block_at w at b - 1) / 4096) ((block_at w at b - 1) / 4096 + 7) (word w (at + 1 + k))
  block-at h o k l u d = (A.blocks.block b h).inside (block_at w at b - 1) (omega arith) (at + 1 + k) (omega arith) (omega arith)

  pub block_on : 8 * b < n → BlockOn g w at i j b
  block_on d = record {
    number = λ h. A.blocks.number b h;
    column = λ h o.
        let t = block-at h o (8 * b) (omega arith) (omega arith) d in
        let z = columns-on g S p r w n at i j A (8 * b) (word w (at + 1 + 8 * b) - 1) d (omega (arith, t.some)) in
        omega (arith, t.left);
    row = λ h o.
        let t = block-at h o (8 * b) (omega arith) (omega arith) d in
        let z = rows_on g S p r w n at i j A (8 * b) (word w (at + 1 + 8 * b) - 1) d (omega (arith, t.some)) in
        omega (arith, t.below);
  }

  -- none of its samples is over stock
  pub block-bare : (m tiles : List ℕ) → Tiled g m tiles → BareBlock g tiles w at i j b → (k : ℕ) → 8 * b ≤ k → k < 8 * b + 8 → k < n → stock_at g m (rim_at p r (direction_at n k)) ≡ false
  block-bare m tiles B C k l u d =
      let t = block-at C.one C.some k l u d in
      near-bare g S p r w n at i j A k (word w (at + 1 + k) - 1) d (omega (arith, t.some)) m tiles B _ _ (omega (arith, t.left)) (omega (arith, t.right)) (omega (arith, t.below)) (omega (arith, t.above)) C.bare

-- a cell with room, counted from the cell s columns and rows before it
pub shifted : (g : Grid) (p : Vec2) (s i j : ℕ) → cell_of g p ≡ Some (i, j) → Roomy g s i j → (cell_of g p ≡ Some (i - s + s, j - s + s)) × Roomy g s (i - s + s) (j - s + s)
shifted g p s i j e R =
    let x : i ≡ i - s + s = omega (arith, R.left) in
    let y : j ≡ j - s + s = omega (arith, R.below) in
    subst (λ (z : ℕ). (cell_of g p ≡ Some (i - s + s, z)) × Roomy g s (i - s + s) z) y (subst (λ (z : ℕ). (cell_of g p ≡ Some (z, j)) × Roomy g s z j) x (e, R))
