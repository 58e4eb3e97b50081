-- The lattice: how many nodes it has, and where they lie. Assumes nothing.
use mathlib.Core.Path.{◌≡◌, refl, sym, ap, ◌∙◌, subst}
use mathlib.Core.Bool.{Bool, true, false, ◌&&◌, ◌||◌}
use mathlib.Core.List.{List, [], ◌∷◌}
use Prim.Native.Nat.{ℕ, zero, suc, ◌+◌, ◌-◌, ◌*◌, ◌/◌, ◌%◌, ◌≤◌, ◌<◌, min}
use native.Mathlib.Omega.{arith}
use native.Mathlib.Nat.{mod-lt, add-div_right, le-div_iff_mul-le, div-lt_iff_lt-mul, div-le_self, div-mul-le_self, mul-le-mul_right, mul-le-mul_left, le_trans}
use lib.Dec.{T, ltb, leb, lit<}
use lib.ListN.{get_or}
use lib.Ieee.{Float, nan, inf, fin, binary64, of_bits, up, down, sub, div, lt, le, is_nan, to_unsigned}
use lib.Ieee.Fits.{down_pos}
use lib.Ieee.Positive.{le→cross, above_of_le}
use borrow.Author.Tests.{lt-ltb, le-ltb, ltb-false, leb-true, ne_eqb}
use Rattle.loops.proofs.Cases.{by_test, both, never, neither}
use Rattle.numbers.specs.Whole.{above, round_of}
use Rattle.numbers.specs.Order.{max_of}
use Rattle.numbers.proofs.MaxLaws.{max_ge_right}
use Rattle.numbers.specs.Small.{f1, f16}
use Rattle.geom.specs.declared.vec2.Vec2.{Vec2}
use Rattle.distance.specs.Limits.{scaled_of}
use Rattle.distance.specs.declared.limits.Threshold.{Threshold}
use Rattle.raster.specs.Grid.{Sides, numbered, center_of}
use Rattle.raster.specs.declared.grid.Grid.{Grid}
use Rattle.raster.specs.declared.grid.CellNo.{CellNo}
use Rattle.raster.proofs.GridLaws.{number-below}
use Rattle.setup.specs.declared.Setup.{Setup}
use Rattle.links.specs.declared.NodeNo.{NodeNo}
use Rattle.links.specs.declared.lattice.Lattice.{Lattice}
use Rattle.std.specs.Prelude.{Option, Some, None}
use Rattle.links.specs.Lattice.{spacing_of, along, centre_at, node_at, lattice_of, nodes, column_of, row_of, cell_of_node, node_free, beside_x, beside_y, on_lattice, beside_of, IsNode, Laid, bound_of}

-- ---- places k apart

-- a float of one or more is a whole number of one or more
pub unit_whole : (x : Float) → le f1 x ≡ true → 0 < to_unsigned 64 x
unfolding of_bits le to_unsigned
unit_whole nan a = never a
unit_whole (inf true) a = never a
unit_whole (inf false) a = lit< tt
unit_whole (fin true m e) a = absurd (above_of_le f1 (fin true m e) tt (subst T (sym a) tt))
unit_whole (fin false m e) a =
    let x = fin false m e in
    let t : T (le f1 x) = subst T (sym a) tt in
    go (m * up e) (down e) (down_pos e) (le→cross f1 x tt (above_of_le f1 x tt t) t)
  where
    go : (n d : ℕ) → 0 < d → 1 * d ≤ n * 1 → 0 < min (n / d) 18446744073709551615
    go n d p h = let z : 1 ≤ n / d = (le-div_iff_mul-le p).1 (let y : 1 * d ≤ n = omega arith in y) in omega arith

pub spacing_pos : (r cell : Float) → 0 < spacing_of r cell
unfolding spacing_of of_bits is_nan
spacing_pos r cell = unit_whole _ (max_ge_right _ f1 unit)
  where
    unit : is_nan f1 ≡ false
    unit = refl

pub spaced : (r cell : Float) (k : ℕ) → k ≡ spacing_of r cell → 0 < k
spaced r cell k e = subst (λ (n : ℕ). 0 < n) (sym e) (spacing_pos r cell)

pub spacing_is : (r cell u m : Float) (k : ℕ) → u ≡ round_of (div binary64 (div binary64 r f16) cell) → m ≡ max_of u f1 → k ≡ to_unsigned 64 m → k ≡ spacing_of r cell
unfolding spacing_of
spacing_is r cell u m k U M K = rw (← U, ← M) K

module _ (n k : ℕ) (p : 0 < n) (q : 0 < k) where
  pub above-is : (n - 1) / k + 1 ≡ above n k
  above-is = sym (ap (λ (m : ℕ). m / k) (let e : n + (k - 1) ≡ n - 1 + k = omega arith in e) ∙ add-div_right (n - 1) q)

  pub above_le : above n k ≤ n
  above_le = omega (arith, above-is, div-le_self (n - 1) k)

  pub above_pos : 0 < above n k
  above_pos = omega (arith, above-is)

  -- each begins before the end
  pub above-cell : (a : ℕ) → a < above n k → a * k < n
  above-cell a h = let z : a * k ≤ n - 1 = (le-div_iff_mul-le q).0 (let y : a ≤ (n - 1) / k = omega (arith, above-is) in y) in omega arith

  -- and every cell is in one
  pub above_place : (i : ℕ) → i < n → i / k < above n k
  above_place i h = let z : i / k ≤ (n - 1) / k = (le-div_iff_mul-le q).1 (let y : i / k * k ≤ n - 1 = omega (arith, div-mul-le_self i k) in y) in omega (arith, above-is)

-- the place of a cell begins before the end
pub place_in : (i k n : ℕ) → i < n → i / k * k < n
place_in i k n h = omega (arith, div-mul-le_self i k)

-- a place's number is small
pub place-fits : (g : Grid) → Sides g → (i j k gx : ℕ) → i < g.nx → j < g.ny → 0 < k → gx ≡ above g.nx k → (i / k ≤ 4096) × (j / k * gx ≤ 1048576)
place-fits g S i j k gx h l q e =
    let x : gx ≤ g.nx = subst (λ (n : ℕ). n ≤ g.nx) (sym e) (above_le g.nx k S.wide q) in
    let y : j / k ≤ g.ny = omega (arith, div-le_self j k) in
    let z : j / k * gx ≤ g.ny * g.nx = le_trans (mul-le-mul_left (j / k) x) (mul-le-mul_right g.nx y) in
    (omega (arith, div-le_self i k, S.columns), omega (arith, S.cells))

-- the cell of a place
pub along-first : (a k n i : ℕ) → i ≡ a * k + k / 2 → i < n - 1 → i ≡ along a k n
unfolding along
along-first a k n i e h = omega arith

pub along-last : (a k n i : ℕ) → i ≡ a * k + k / 2 → n - 1 ≤ i → n - 1 ≡ along a k n
unfolding along
along-last a k n i e h = omega arith

pub along-below : (a k n : ℕ) → 0 < n → along a k n < n
unfolding along
along-below a k n h = omega arith

pub centre-is : (g : Grid) (k gi gj i j : ℕ) (p : Vec2) → i ≡ along gi k g.nx → j ≡ along gj k g.ny → p ≡ center_of g i j → p ≡ centre_at g k gi gj
unfolding centre_at
centre-is g k gi gj i j p I J P = rw (← I, ← J) P

-- ---- the lattice

module _ (s : Setup) (i j p q : ℕ) where
  pub lattice_is : (k gx gy : ℕ) (a z : NodeNo) (e : Vec2) → k ≡ spacing_of s.r s.grid.cell → gx ≡ above s.grid.nx k → gy ≡ above s.grid.ny k
      → a ≡ node_at gx (i / k) (j / k) → z ≡ node_at gx (p / k) (q / k) → e ≡ centre_at s.grid k (p / k) (q / k)
      → record { grid = s.grid; k = k; gx = gx; gy = gy; start = a; goal = z; end = e; margin = div binary64 (sub binary64 s.r s.grid.cell) s.grid.cell } ≡ lattice_of s i j p q
  unfolding lattice_of
  lattice_is k gx gy a z e K X Y A Z E = rw (A, Z, E, X, Y, K)

  module _ (S : Sides s.grid) (a : i < s.grid.nx) (b : j < s.grid.ny) (c : p < s.grid.nx) (d : q < s.grid.ny) where
    pub laid : Laid (lattice_of s i j p q)
    unfolding lattice_of
    laid =
        let k = spacing_of s.r s.grid.cell in
        let K = spacing_pos s.r s.grid.cell in
        let at : (x y : ℕ) → x < s.grid.nx → y < s.grid.ny → y / k * above s.grid.nx k + x / k < above s.grid.ny k * above s.grid.nx k =
        λ x y h l. number-below _ _ _ _ _ (above_place s.grid.nx k S.wide K x h) (above_place s.grid.ny k S.high K y l) (omega arith) in
        record { sides = S; step = K; columns = refl; rows = refl; first = at i j a b; last = at p q c d }

module _ (l : Lattice) (L : Laid l) where
  pub gx_pos : 0 < l.gx
  gx_pos = subst (λ (n : ℕ). 0 < n) (sym L.columns) (above_pos l.grid.nx l.k L.sides.wide L.step)

  pub gx_le : l.gx ≤ l.grid.nx
  gx_le = subst (λ (n : ℕ). n ≤ l.grid.nx) (sym L.columns) (above_le l.grid.nx l.k L.sides.wide L.step)

  pub gy_le : l.gy ≤ l.grid.ny
  gy_le = subst (λ (n : ℕ). n ≤ l.grid.ny) (sym L.rows) (above_le l.grid.ny l.k L.sides.high L.step)

  -- no more nodes than cells
  pub nodes-few : nodes l ≤ l.grid.ny * l.grid.nx
  nodes-few = le_trans (mul-le-mul_left l.gy gx_le) (mul-le-mul_right l.grid.nx gy_le)

  pub nodes_pos : 0 < nodes l
  nodes_pos = omega (arith, L.first)

  pub nodes-most : nodes l ≤ 1048576
  nodes-most = omega (arith, nodes-few, L.sides.cells)

  module _ (v : NodeNo) (h : IsNode l v) where
    pub column-low : v.0 % l.gx < l.gx
    column-low = mod-lt v.0 gx_pos

    pub row_low : v.0 / l.gx < l.gy
    row_low = (div-lt_iff_lt-mul gx_pos).1 h

    pub column_in : v.0 % l.gx * l.k < l.grid.nx
    column_in = above-cell l.grid.nx l.k L.sides.wide L.step (v.0 % l.gx) (subst (λ (n : ℕ). v.0 % l.gx < n) L.columns column-low)

    pub row_in : v.0 / l.gx * l.k < l.grid.ny
    row_in = above-cell l.grid.ny l.k L.sides.high L.step (v.0 / l.gx) (subst (λ (n : ℕ). v.0 / l.gx < n) L.rows row_low)

    pub column-small : v.0 % l.gx ≤ 4096
    column-small = omega (arith, column-low, gx_le, L.sides.columns)

    pub row_small : v.0 / l.gx ≤ 4096
    row_small = omega (arith, row_low, gy_le, L.sides.rows)

    pub cell-low : (i j : ℕ) → i ≡ column_of l v → j ≡ row_of l v → Sides l.grid × ((i < l.grid.nx) × (j < l.grid.ny))
    cell-low i j I J = (L.sides, (subst (λ (n : ℕ). n < l.grid.nx) (sym I) (along-below _ _ _ L.sides.wide), subst (λ (n : ℕ). n < l.grid.ny) (sym J) (along-below _ _ _ L.sides.high)))

    pub cell_below : (cell_of_node l v).0 < l.grid.ny * l.grid.nx
    unfolding cell_of_node numbered
    cell_below = number-below _ _ _ _ _ (along-below _ _ _ L.sides.wide) (along-below _ _ _ L.sides.high) (omega arith)

pub cell-is : (l : Lattice) (v : NodeNo) (i j : ℕ) (c : CellNo) → i ≡ column_of l v → j ≡ row_of l v → c ≡ numbered l.grid i j → c ≡ cell_of_node l v
unfolding cell_of_node
cell-is l v i j c I J C = rw (← I, ← J) C

-- ---- free nodes

module _ (l : Lattice) (allowed squares : List ℕ) (v : NodeNo) (k : ℕ) (K : k ≡ (cell_of_node l v).0) where
  pub free_not : (get_or allowed k 0 ≡ 1 → ⊥) → false ≡ node_free l allowed squares v
  unfolding node_free
  free_not h = rw (← K, ne_eqb (get_or allowed k 0) 1 h)

  pub free-judged : get_or allowed k 0 ≡ 1 → (b : Threshold) → b ≡ bound_of l.margin → (t : Bool) → t ≡ lt b.x (scaled_of b.scale (get_or squares k 0)) → t ≡ node_free l allowed squares v
  unfolding node_free scaled_of
  free-judged h b d t e = rw (← K, h) (e ∙ ap (λ (c : Threshold). lt c.x (scaled_of c.scale (get_or squares k 0))) d)

-- ---- neighbours

module _ (l : Lattice) (a b : ℕ) where
  pub off-left : a < 1 → None ≡ on_lattice l a b
  unfolding on_lattice
  off-left h = rw (lt-ltb a 1 h)

  pub off-below : 1 ≤ a → b < 1 → None ≡ on_lattice l a b
  unfolding on_lattice
  off-below p h = rw (le-ltb a 1 p, lt-ltb b 1 h)

  pub off-right : 1 ≤ a → 1 ≤ b → l.gx < a → None ≡ on_lattice l a b
  unfolding on_lattice
  off-right p q h = rw (le-ltb a 1 p, le-ltb b 1 q, lt-ltb l.gx a h)

  pub off-above : 1 ≤ a → 1 ≤ b → a ≤ l.gx → l.gy < b → None ≡ on_lattice l a b
  unfolding on_lattice
  off-above p q r h = rw (le-ltb a 1 p, le-ltb b 1 q, le-ltb l.gx a r, lt-ltb l.gy b h)

  pub on_fits : Laid l → a ≤ l.gx → b ≤ l.gy → (a - 1 ≤ 4096) × ((b - 1) * l.gx ≤ 1048576)
  on_fits L p q =
      let z : (b - 1) * l.gx ≤ l.gy * l.gx = mul-le-mul_right l.gx (let y : b - 1 ≤ l.gy = omega arith in y) in
      (omega (arith, gx_le l L, L.sides.columns), omega (arith, nodes-most l L))

  pub on_there : 1 ≤ a → 1 ≤ b → a ≤ l.gx → b ≤ l.gy → (v : NodeNo) → v ≡ node_at l.gx (a - 1) (b - 1) → Some v ≡ on_lattice l a b
  unfolding on_lattice
  on_there p q r h v e = rw (le-ltb a 1 p, le-ltb b 1 q, le-ltb l.gx a r, le-ltb l.gy b h) (ap (λ (n : NodeNo). Some n) e)

small : List ℕ → Bool
small [] = true
small (x ∷ xs) = leb x 2 && small xs

small_at : (t : List ℕ) → small t ≡ true → (d : ℕ) → get_or t d 0 ≤ 2
unfolding small
small_at [] e d = omega arith
small_at (x ∷ xs) e zero = leb-true x 2 (both (leb x 2) (small xs) e).0
small_at (x ∷ xs) e (suc d) = small_at xs (both (leb x 2) (small xs) e).1 d

pub x-small : (d : ℕ) → get_or beside_x d 0 ≤ 2
unfolding small
x-small d = small_at beside_x refl d

pub y-small : (d : ℕ) → get_or beside_y d 0 ≤ 2
unfolding small
y-small d = small_at beside_y refl d

pub beside_is : (l : Lattice) (v : NodeNo) (d x y : ℕ) (r : Option NodeNo) → x ≡ get_or beside_x d 0 → y ≡ get_or beside_y d 0 → r ≡ on_lattice l (v.0 % l.gx + x) (v.0 / l.gx + y) → r ≡ beside_of l v d
unfolding beside_of
beside_is l v d x y r X Y R = rw (← X, ← Y) R

-- a neighbour is a node
IsAt : Lattice → Option NodeNo → Type 0
IsAt l None = Unit {0}
IsAt l (Some v) = IsNode l v

on-node : (l : Lattice) (a b : ℕ) → IsAt l (on_lattice l a b)
unfolding on_lattice IsAt
on-node l a b =
    by_test (IsAt l) (ltb a 1 || (ltb b 1 || (ltb l.gx a || ltb l.gy b))) None (Some (node_at l.gx (a - 1) (b - 1))) (λ _. tt)
    (λ e. let p = neither _ _ e in
    let q = neither _ _ p.1 in
    let r = neither _ _ q.1 in
    let i : a - 1 < l.gx = omega (arith, ltb-false a 1 p.0, ltb-false l.gx a r.0) in
    let j : b - 1 < l.gy = omega (arith, ltb-false b 1 q.0, ltb-false l.gy b r.1) in
    number-below _ _ _ _ _ i j (omega arith))

pub beside_node : (l : Lattice) (v w : NodeNo) (d : ℕ) (r : Option NodeNo) → r ≡ beside_of l v d → r ≡ Some w → IsNode l w
unfolding beside_of IsAt
beside_node l v w d r R W = subst (IsAt l) (sym R ∙ W) (on-node l _ _)
