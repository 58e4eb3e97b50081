-- The cell at a point, by the tests that the code makes; a cell's number gives its column and row back. Assumes nothing.
use Rattle.std.specs.Prelude.{Err, None, Ok, Option, Result, Some}
use Rattle.raster.specs.declared.grid.Refusal.{Refusal}
use Rattle.raster.specs.declared.grid.Refusal.TheVariants.{Unfit, TooLarge}
use mathlib.Core.Path.{◌≡◌, refl, sym, ap, ◌∙◌, subst}
use mathlib.Core.Bool.{Bool, true, false, cond, not, ◌&&◌, ◌||◌}
use mathlib.Core.List.{List}
use mathlib.Core.Logic.{◌⊎◌, inl, inr, ⊎_elim}
use Prim.Native.Nat.{ℕ, ◌+◌, ◌*◌, ◌%◌, ◌^◌, ◌≤◌, ◌<◌, min}
use native.Mathlib.Omega.{arith}
use lib.ListN.{get_or}
use native.Mathlib.Nat.{mul-le-mul_right, mul-add-mod_self_right, mod-eq_of_lt}
use lib.Dec.{eqb, ltb, leb}
use borrow.Author.Tests.{lt-ltb, le-ltb, ltb-true, le-leb, lt-leb, leb-true}
use lib.Ieee.{Float, nan, inf, fin, lt, le, eq, is_nan, of_bits, to_unsigned}
use Rattle.numbers.specs.Order.{is_finite}
use Rattle.geom.specs.Vec.{v2, f0, difference}
use Rattle.geom.specs.declared.vec2.Vec2.{Vec2}
use Rattle.loops.proofs.Cases.{by_test, never, both}
use Rattle.loops.proofs.CellLaws.{row_below}
use Rattle.floats.proofs.OrderLaws.{le_not_lt, not_le_lt}
use Rattle.raster.specs.Grid.{Sides, reach_of, fit_of, grid_of, sized_of, new_grid, column_at, row_at, astray, on_grid, cell_of, stock_at}
use Rattle.raster.specs.declared.grid.Grid.{Grid}

-- ---- floats that an index comes from

-- a cast to u32 is that to u64, up to u32's end
u32_cut : (x : Float) → to_unsigned 32 x ≡ min (to_unsigned 64 x) 4294967295
unfolding to_unsigned
u32_cut nan = refl
u32_cut (inf true) = refl
u32_cut (inf false) = refl
u32_cut (fin true m e) = refl
u32_cut (fin false m e) = omega arith

pub low_index : (x : Float) (i n : ℕ) → n ≤ 4096 → i ≡ to_unsigned 32 x → i < n → i ≡ to_unsigned 64 x
low_index x i n b e h = let c = e ∙ u32_cut x in omega arith

pub high_index : (x : Float) (i n : ℕ) → i ≡ to_unsigned 32 x → n ≤ i → n ≤ to_unsigned 64 x
high_index x i n e h = let c = e ∙ u32_cut x in omega arith

below_zero : (x : Float) → le f0 x ≡ false → (lt x f0 ≡ true) ⊎ (is_finite x ≡ false)
unfolding is_finite is_nan of_bits le lt eq
below_zero nan h = inr refl
below_zero (inf s) h = inr refl
below_zero (fin s m e) h = inl (not_le_lt (fin s m e) f0 refl refl h)

-- only an infinity and a NaN are not finite, and no index is as far as an infinity's
finite_below : (x : Float) (n : ℕ) → le f0 x ≡ true → n < 2 ^ 64 → to_unsigned 64 x < n → is_finite x ≡ true
unfolding is_finite of_bits le lt eq to_unsigned
finite_below nan n h k l = never h
finite_below (inf true) n h k l = never h
finite_below (inf false) n h k l = absurd (let z : ⊥ = omega arith in z)
finite_below (fin s m e) n h k l = refl

-- ---- the cell at a point

or_second : (a b c : Bool) → b ≡ true → a || (b || c) ≡ true
or_second true b c e = refl
or_second false b c e = rw e

or_third : (a b c d : Bool) → c ≡ true → a || (b || (c || d)) ≡ true
or_third true b c d e = refl
or_third false true c d e = refl
or_third false false c d e = rw e

or_fourth : (a b c d : Bool) → d ≡ true → a || (b || (c || d)) ≡ true
or_fourth true b c d e = refl
or_fourth false true c d e = refl
or_fourth false false true d e = refl
or_fourth false false false d e = e

first : {A : Type 0} (b : Bool) (x y : A) → b ≡ true → x ≡ cond b x y
first b x y e = rw e

either_way : {A : Type 0} (b : Bool) (x y : A) → y ≡ x → x ≡ cond b x y
either_way true x y e = refl
either_way false x y e = sym e

module _ (g : Grid) (p : Vec2) where
  pub none-column : le f0 (column_at g p) ≡ false → None ≡ cell_of g p
  unfolding cell_of
  none-column h =
      ⊎_elim (λ t. rw t) (λ t. first _ _ _ (or_third (lt (column_at g p) f0) (lt (row_at g p) f0) _ (not (is_finite (row_at g p))) (ap not t))) (below_zero (column_at g p) h)

  pub none_row : le f0 (row_at g p) ≡ false → None ≡ cell_of g p
  unfolding cell_of
  none_row h =
      ⊎_elim (λ t. first _ _ _ (or_second (lt (column_at g p) f0) _ (not (is_finite (column_at g p)) || not (is_finite (row_at g p))) t))
      (λ t. first _ _ _ (or_fourth (lt (column_at g p) f0) (lt (row_at g p) f0) (not (is_finite (column_at g p))) _ (ap not t))) (below_zero (row_at g p) h)

  off-grid : on_grid g (to_unsigned 64 (column_at g p)) (to_unsigned 64 (row_at g p)) ≡ None → None ≡ cell_of g p
  unfolding cell_of
  off-grid h = either_way (astray (column_at g p) (row_at g p)) None (on_grid g (to_unsigned 64 (column_at g p)) (to_unsigned 64 (row_at g p))) h

  pub past-column : (i : ℕ) → i ≡ to_unsigned 64 (column_at g p) → g.nx ≤ i → None ≡ cell_of g p
  unfolding on_grid
  past-column i e h = off-grid (rw (le-ltb (to_unsigned 64 (column_at g p)) g.nx (subst (λ (k : ℕ). g.nx ≤ k) e h)))

  pub past_row : (i j : ℕ) → i ≡ to_unsigned 64 (column_at g p) → i < g.nx → j ≡ to_unsigned 64 (row_at g p) → g.ny ≤ j → None ≡ cell_of g p
  unfolding on_grid
  past_row i j e h d k =
      off-grid (rw (lt-ltb (to_unsigned 64 (column_at g p)) g.nx (subst (λ (k : ℕ). k < g.nx) e h), le-ltb (to_unsigned 64 (row_at g p)) g.ny (subst (λ (k : ℕ). g.ny ≤ k) d k)))

  pub found_at : g.nx < 2 ^ 64 → g.ny < 2 ^ 64 → le f0 (column_at g p) ≡ true → le f0 (row_at g p) ≡ true
      → (i j : ℕ) → i ≡ to_unsigned 64 (column_at g p) → i < g.nx → j ≡ to_unsigned 64 (row_at g p) → j < g.ny → Some (i, j) ≡ cell_of g p
  unfolding cell_of on_grid
  found_at wx wy a b i j e h d k =
      let h' : to_unsigned 64 (column_at g p) < g.nx = subst (λ (q : ℕ). q < g.nx) e h in
      let k' : to_unsigned 64 (row_at g p) < g.ny = subst (λ (q : ℕ). q < g.ny) d k in
      rw (
        le_not_lt f0 (column_at g p) a,
        le_not_lt f0 (row_at g p) b,
        finite_below (column_at g p) g.nx a wx h',
        finite_below (row_at g p) g.ny b wy k',
        lt-ltb (to_unsigned 64 (column_at g p)) g.nx h',
        lt-ltb (to_unsigned 64 (row_at g p)) g.ny k',
        ← e,
        ← d,
      )

-- a cell that is found is one of the grid's
abbrev pub OnGrid : Grid → Option (ℕ × ℕ) → Type 0
OnGrid g None = Unit
OnGrid g (Some (i, j)) = (i < g.nx) × (j < g.ny)

on_both : (g : Grid) (i j : ℕ) → ltb i g.nx && ltb j g.ny ≡ true → (i < g.nx) × (j < g.ny)
on_both g i j u = (ltb-true i g.nx (both (ltb i g.nx) (ltb j g.ny) u).0, ltb-true j g.ny (both (ltb i g.nx) (ltb j g.ny) u).1)

on-grid : (g : Grid) (i j : ℕ) → OnGrid g (on_grid g i j)
unfolding on_grid
on-grid g i j = by_test (OnGrid g) (ltb i g.nx && ltb j g.ny) (Some (i, j)) None (on_both g i j) (λ u. tt)

pub cell-on-grid : (g : Grid) (p : Vec2) → OnGrid g (cell_of g p)
unfolding cell_of
cell-on-grid g p =
    by_test (OnGrid g) (astray (column_at g p) (row_at g p)) None (on_grid g (to_unsigned 64 (column_at g p)) (to_unsigned 64 (row_at g p))) (λ t. tt)
    (λ t. on-grid g (to_unsigned 64 (column_at g p)) (to_unsigned 64 (row_at g p)))

pub on-grid-at : (g : Grid) (p : Vec2) (f : Option (ℕ × ℕ)) (i j : ℕ) → f ≡ cell_of g p → f ≡ Some (i, j) → (i < g.nx) × (j < g.ny)
on-grid-at g p f i j e d = subst (OnGrid g) (sym e ∙ d) (cell-on-grid g p)

-- ---- stock at a point

pub stock-none : (g : Grid) (m : List ℕ) (p : Vec2) (f : Option (ℕ × ℕ)) → f ≡ cell_of g p → f ≡ None → false ≡ stock_at g m p
unfolding stock_at
stock-none g m p f e d = rw (← e, d)

pub stock-some : (g : Grid) (m : List ℕ) (p : Vec2) (f : Option (ℕ × ℕ)) (i j k : ℕ) → f ≡ cell_of g p → f ≡ Some (i, j) → k ≡ j * g.nx + i → eqb (get_or m k 0) 1 ≡ stock_at g m p
unfolding stock_at
stock-some g m p f i j k e d h = rw (← e, d, h)

-- ---- numbers of cells

-- a cell of the grid is one of its cells by number too
pub number-below : (nx ny i j n : ℕ) → i < nx → j < ny → ny * nx ≤ n → j * nx + i < n
number-below nx ny i j n h k b = omega (arith, row_below j ny nx n k b)

-- a number gives its column and its row back
pub column-back : (nx i j : ℕ) → i < nx → (j * nx + i) % nx ≡ i
column-back nx i j h = mul-add-mod_self_right j nx i ∙ mod-eq_of_lt h

-- ---- a grid over bounds

-- sides that are not too large make a product that fits
pub few-cells : (a b : ℕ) → a ≤ 4096 → b ≤ 4096 → a * b ≤ 16777216
few-cells a b h k = let z : a * b ≤ 4096 * b = mul-le-mul_right b h in omega arith

module _ (lo hi : Vec2) (cell margin : Float) (w h : ℕ) (e : w ≡ reach_of lo.x hi.x cell margin) where
  pub sized-wide : 4096 ≤ w → Err TooLarge ≡ sized_of (grid_of lo hi cell margin)
  unfolding sized_of grid_of
  sized-wide a = rw (← e, lt-leb (w + 1) 4096 (let z : 4096 < w + 1 = omega arith in z))

  module _ (d : h ≡ reach_of lo.y hi.y cell margin) (a : w < 4096) where
    pub sized-high : 4096 ≤ h → Err TooLarge ≡ sized_of (grid_of lo hi cell margin)
    unfolding sized_of grid_of
    sized-high b = rw (← e, ← d, le-leb (w + 1) 4096 (let z : w + 1 ≤ 4096 = omega arith in z), lt-leb (h + 1) 4096 (let z : 4096 < h + 1 = omega arith in z))

    module _ (b : h < 4096) where
      pub sized_many : 1048576 < (h + 1) * (w + 1) → Err TooLarge ≡ sized_of (grid_of lo hi cell margin)
      unfolding sized_of grid_of
      sized_many f =
          rw (← e, ← d, le-leb (w + 1) 4096 (let z : w + 1 ≤ 4096 = omega arith in z), le-leb (h + 1) 4096 (let z : h + 1 ≤ 4096 = omega arith in z), lt-leb ((h + 1) * (w + 1)) 1048576 f)

      pub sized-is : (h + 1) * (w + 1) ≤ 1048576 → (o : Vec2) → o ≡ difference lo (v2 margin margin) → Ok (record { origin = o; cell = cell; nx = w + 1; ny = h + 1 }) ≡ sized_of (grid_of lo hi cell margin)
      unfolding sized_of grid_of
      sized-is f o c =
          rw (← e, ← d, le-leb (w + 1) 4096 (let z : w + 1 ≤ 4096 = omega arith in z), le-leb (h + 1) 4096 (let z : h + 1 ≤ 4096 = omega arith in z), le-leb ((h + 1) * (w + 1)) 1048576 f, ← c)

abbrev Allowed : Result Grid Refusal → Type 0
Allowed (Err r) = Unit
Allowed (Ok g) = Sides g

sized-allowed : (g : Grid) → 0 < g.nx → 0 < g.ny → Allowed (sized_of g)
unfolding sized_of
sized-allowed g a b =
    by_test Allowed (leb g.nx 4096 && (leb g.ny 4096 && leb (g.ny * g.nx) 1048576)) (Ok g) (Err TooLarge)
    (λ t.
    let p = both (leb g.nx 4096) (leb g.ny 4096 && leb (g.ny * g.nx) 1048576) t in
    let q = both (leb g.ny 4096) (leb (g.ny * g.nx) 1048576) p.1 in
    record { wide = a; high = b; columns = leb-true g.nx 4096 p.0; rows = leb-true g.ny 4096 q.0; cells = leb-true (g.ny * g.nx) 1048576 q.1 })
    (λ t. tt)

-- a grid that is made has sides that every function of this crate takes
pub new_sides : (lo hi : Vec2) (cell margin : Float) (g : Grid) → new_grid lo hi cell margin ≡ Ok g → Sides g
unfolding new_grid grid_of
new_sides lo hi cell margin g e =
    subst Allowed e (by_test Allowed (fit_of lo hi cell) (sized_of (grid_of lo hi cell margin)) (Err Unfit) (λ t. sized-allowed (grid_of lo hi cell margin) (omega arith) (omega arith)) (λ t. tt))
