-- Tiles fit where they are kept, and a tile's number is one of theirs; what is marked for stock tells of all stock near; a map that is cleared keeps its tiles. Assumes nothing.
use mathlib.Core.Path.{◌≡◌, refl, sym, ◌∙◌, subst}
use mathlib.Core.Bool.{true, false}
use mathlib.Core.List.{List}
use Prim.Native.Nat.{ℕ, ◌+◌, ◌-◌, ◌*◌, ◌/◌, ◌≤◌, ◌<◌}
use native.Mathlib.Nat.{mul-le-mul, mul-le-mul_right, add-mul, mul-add, mul_comm, mul_assoc}
use native.Mathlib.Omega.{arith}
use lib.ListN.{length, get_or, set, replicate, length-set, length-replicate}
use lib.Seq.{get_or-set_same, get_or-set_other}
use lib.Dec.{eqb, ltb}
use borrow.Author.Tests.{ltb-true, ltb-false, eqb-true, eqb-false}
use Rattle.loops.specs.Cells.{number}
use Rattle.loops.specs.Loop.{any}
use Rattle.loops.proofs.Cases.{never, by_cases}
use Rattle.loops.proofs.CellLaws.{row_below}
use Rattle.loops.proofs.LoopLaws.{any-each}
use Rattle.loops.proofs.SetLaws.{set_either}
use Rattle.raster.specs.Grid.{Sides}
use Rattle.raster.specs.declared.grid.Grid.{Grid}
use Rattle.spans.specs.Ends.{is_stock}
use Rattle.rims.specs.Tiles.{tiles_of, tile_at, Tiled, Keeps, Gathered, RowsGathered, Marked, ColumnsMarked, StockMarked}

-- (m + 7)(n + 7)
spread : (m n : ℕ) → (m + 7) * (n + 7) ≡ m * n + 7 * m + 7 * n + 49
spread m n = omega (arith, add-mul m 7 (n + 7), mul-add m n 7, mul_comm m 7)

-- 8 a 8 b
eights : (a b : ℕ) → 8 * a * (8 * b) ≡ 64 * (a * b)
eights a b = omega (arith, mul_assoc 8 a (8 * b), sym (mul_assoc a 8 b), mul_comm a 8, mul_assoc 8 a b)

tiles_fit : (g : Grid) → Sides g → tiles_of g.ny * tiles_of g.nx ≤ 20480
unfolding tiles_of
tiles_fit g s =
    let a = (g.ny + 7) / 8 in
    let b = (g.nx + 7) / 8 in
    let u : 8 * a ≤ g.ny + 7 = omega arith in
    let v : 8 * b ≤ g.nx + 7 = omega arith in
    omega (arith, mul-le-mul u v, eights a b, spread g.ny g.nx, s.cells, s.columns, s.rows)

-- a row of tiles is one of those that are kept
pub tiles_row : (g : Grid) → Sides g → (y : ℕ) → y < tiles_of g.ny → y * tiles_of g.nx + tiles_of g.nx ≤ 20480
tiles_row g s y h = row_below y (tiles_of g.ny) (tiles_of g.nx) 20480 h (tiles_fit g s)

module _ (g : Grid) (p q n : ℕ) (N : n ≡ tiles_of g.nx) where
  pub tile_number : q / 8 * n + p / 8 ≡ tile_at g p q
  unfolding tile_at
  tile_number = rw N

  pub tile_below : p < g.nx → q < g.ny → q / 8 * n + p / 8 < tiles_of g.ny * tiles_of g.nx
  unfolding tiles_of
  tile_below a b =
      let u : p / 8 < n = omega arith in
      let k : ((g.ny + 7) / 8) * n ≡ ((g.ny + 7) / 8) * ((g.nx + 7) / 8) = rw N in
      omega (arith, row_below (q / 8) ((g.ny + 7) / 8) n (((g.ny + 7) / 8) * n) (omega arith) (omega arith))

pub few_tiles : (n : ℕ) → n ≤ 4096 → tiles_of n ≤ 512
unfolding tiles_of
few_tiles n h = omega arith

-- ---- marks

keeps_none : (w : List ℕ) → Keeps w w
keeps_none w = record { long = refl; kept = λ k h. h }

keeps_more : (w v u : List ℕ) → Keeps w v → Keeps v u → Keeps w u
keeps_more w v u A B = record { long = B.long ∙ A.long; kept = λ k h. B.kept k (A.kept k h) }

keeps_set : (w : List ℕ) (k : ℕ) → Keeps w (set w k 1)
keeps_set w k = record { long = length-set w k 1; kept = λ i h. set_either (λ (x : ℕ). x ≡ 1) w k i 1 0 refl h }

marked-kept : (n x y : ℕ) (w v : List ℕ) → Keeps w v → Marked n x y w → Marked n x y v
marked-kept n x y w v K M = record { at = λ p q a b d e. K.kept (number n p q) (M.at p q a b d e) }

-- the row below does not lie after the row
pub mark-low : (n y v : ℕ) → v ≡ y - 1 → v * n ≤ y * n
mark-low n y v e = mul-le-mul_right n (let z : v ≤ y = omega arith in z)

module _ (n x y u v : ℕ) (t : List ℕ) (X : x < n) (L : y * n + n ≤ length t) (left : u ≡ x - 1) (below : v ≡ y - 1) where
  abbrev one : List ℕ
  one = set t (y * n + x) 1

  abbrev two : List ℕ
  two = set one (y * n + u) 1

  abbrev three : List ℕ
  three = set two (v * n + x) 1

  abbrev four : List ℕ
  four = set three (v * n + u) 1

  pub mark-is : Keeps t four × Marked n x y four
  mark-is =
      let o = mark-low n y v below in
      let a : length one ≡ length t = length-set t (y * n + x) 1 in
      let b : length two ≡ length one = length-set one (y * n + u) 1 in
      let c : length three ≡ length two = length-set two (v * n + x) 1 in
      let k = keeps_set three (v * n + u) in
      let l = keeps_more two three four (keeps_set two (v * n + x)) k in
      let m = keeps_more one two four (keeps_set one (y * n + u)) l in (
        keeps_more t one four (keeps_set t (y * n + x)) m,
        record {
          at = λ p q d e f h. by_cases (eqb q y)
              (λ s.
              subst (λ (j : ℕ). get_or four (number n p j) 0 ≡ 1) (sym (eqb-true q y s))
              (by_cases (eqb p x)
              (λ r. subst (λ (i : ℕ). get_or four (number n i y) 0 ≡ 1) (sym (eqb-true p x r)) (m.kept (y * n + x) (get_or-set_same t (y * n + x) 1 0 (omega arith))))
              (λ r. subst (λ (i : ℕ). get_or four (number n i y) 0 ≡ 1) (let z : u ≡ p = omega (arith, eqb-false p x r) in z) (l.kept (y * n + u) (get_or-set_same one (y * n + u) 1 0 (omega arith))))))
              (λ s.
              subst (λ (j : ℕ). get_or four (number n p j) 0 ≡ 1) (let z : v ≡ q = omega (arith, eqb-false q y s) in z)
              (by_cases (eqb p x)
              (λ r. subst (λ (i : ℕ). get_or four (number n i v) 0 ≡ 1) (sym (eqb-true p x r)) (k.kept (v * n + x) (get_or-set_same two (v * n + x) 1 0 (omega arith))))
              (λ r. subst (λ (i : ℕ). get_or four (number n i v) 0 ≡ 1) (let z : u ≡ p = omega (arith, eqb-false p x r) in z) (get_or-set_same three (v * n + u) 1 0 (omega arith)))));
        },
      )

-- ---- columns

module _ (map : List ℕ) (a : ℕ) where
  pub gathered_none : (w : List ℕ) → Keeps w w × Gathered map a 0 w
  gathered_none w = (keeps_none w, record { at = λ i b. absurd (let z : ⊥ = omega arith in z) })

  -- one more column: what is written is 1 where its cell is stock or it was 1
  pub gathered_more : (k : ℕ) (w₀ w : List ℕ) (x : ℕ) → k < length w → (get_or map (a + k) 0 ≡ 1 → x ≡ 1) → (get_or w k 0 ≡ 1 → x ≡ 1) → Keeps w₀ w × Gathered map a k w
      → Keeps w₀ (set w k x) × Gathered map a (k + 1) (set w k x)
  gathered_more k w₀ w x l new old G =
      let same = get_or-set_same w k x 0 l in
      let kept : Keeps w (set w k x) = record {
        long = length-set w k x;
        kept = λ i h. by_cases (eqb i k)
            (λ t. let z = eqb-true i k t in subst (λ (j : ℕ). get_or (set w k x) j 0 ≡ 1) (sym z) (same ∙ old (subst (λ (j : ℕ). get_or w j 0 ≡ 1) z h)))
            (λ t. get_or-set_other w k i x 0 (eqb-false i k t) ∙ h);
      } in (
        keeps_more w₀ w (set w k x) G.0 kept,
        record {
          at = λ i b h. by_cases (ltb i k) (λ t. kept.kept i (G.1.at i (ltb-true i k t) h))
              (λ t.
              let z : k ≡ i = omega (arith, ltb-false i k t) in
              subst (λ (j : ℕ). get_or (set w k x) j 0 ≡ 1) z (same ∙ new (subst (λ (j : ℕ). get_or map (a + j) 0 ≡ 1) (sym z) h)));
        },
      )

  pub gathered_end : (n k : ℕ) (w : List ℕ) → n ≤ k → Gathered map a k w → Gathered map a n w
  gathered_end n k w h G = record { at = λ i b. G.at i (omega arith) }

module _ (g : Grid) (map : List ℕ) (a : ℕ) where
  pub rows_none : (w : List ℕ) → Keeps w w × RowsGathered g map a a w
  rows_none w = (keeps_none w, record { at = λ i j b d e f. absurd (let z : ⊥ = omega arith in z) })

  pub rows_more : (k : ℕ) (w₀ w v : List ℕ) → Keeps w v × Gathered map (k * g.nx) g.nx v → Keeps w₀ w × RowsGathered g map a k w → Keeps w₀ v × RowsGathered g map a (k + 1) v
  rows_more k w₀ w v G R = (
    keeps_more w₀ w v R.0 G.0,
    record {
      at = λ i j b d e f h. by_cases (ltb j k) (λ t. G.0.kept i (R.1.at i j b d e (ltb-true j k t) h))
          (λ t. let z : j ≡ k = omega (arith, ltb-false j k t) in G.1.at i b (subst (λ (q : ℕ). get_or map (number g.nx i q) 0 ≡ 1) z h));
    },
  )

  pub rows_end : (e k : ℕ) (w : List ℕ) → ((j : ℕ) → j < e → j < g.ny → j < k) → RowsGathered g map a k w → RowsGathered g map a e w
  rows_end e k w h R = record { at = λ i j b d f o. R.at i j b d f (h j o d) }

-- ---- a row of tiles

module _ (n y : ℕ) (cols : List ℕ) where
  pub columns-none : (w : List ℕ) → Keeps w w × ColumnsMarked n y cols 0 w
  columns-none w = (keeps_none w, record { at = λ i b. absurd (let z : ⊥ = omega arith in z) })

  -- one more tile: it is marked, or none of its columns is
  columns-next : (x : ℕ) (w₀ w v : List ℕ) → Keeps w v → ((i : ℕ) → i / 8 ≡ x → get_or cols i 0 ≡ 1 → Marked n x y v) → Keeps w₀ w × ColumnsMarked n y cols x w → Keeps w₀ v × ColumnsMarked n y cols (x + 1) v
  columns-next x w₀ w v K M C = (
    keeps_more w₀ w v C.0 K,
    record {
      at = λ i b h. by_cases (ltb (i / 8) x) (λ t. marked-kept n (i / 8) y w v K (C.1.at i (ltb-true (i / 8) x t) h))
          (λ t. let z : i / 8 ≡ x = omega (arith, ltb-false (i / 8) x t) in subst (λ (p : ℕ). Marked n p y v) (sym z) (M i z h));
    },
  )

  pub columns-yes : (x : ℕ) (w₀ w v : List ℕ) → Keeps w v × Marked n x y v → Keeps w₀ w × ColumnsMarked n y cols x w → Keeps w₀ v × ColumnsMarked n y cols (x + 1) v
  columns-yes x w₀ w v M = columns-next x w₀ w v M.0 (λ i e h. M.1)

  pub columns-no : (x : ℕ) (w₀ w : List ℕ) → any (is_stock cols) (8 * x) (8 * x + 8) ≡ false → Keeps w₀ w × ColumnsMarked n y cols x w → Keeps w₀ w × ColumnsMarked n y cols (x + 1) w
  columns-no x w₀ w f = columns-next x w₀ w w (keeps_none w) (λ i e h. absurd (eqb-false (get_or cols i 0) 1 (any-each (is_stock cols) (8 * x) (8 * x + 8) f i (omega arith) (omega arith)) h))

  pub columns-end : (k : ℕ) (w : List ℕ) → n ≤ k → ColumnsMarked n y cols k w → ColumnsMarked n y cols n w
  columns-end k w h C = record { at = λ i b. C.at i (omega arith) }

-- ---- all rows

module _ (g : Grid) (map : List ℕ) where
  pub stock-row : (y n : ℕ) (cols w : List ℕ) → n ≡ tiles_of g.nx → RowsGathered g map (8 * y) (8 * y + 8) cols → ColumnsMarked n y cols n w → StockMarked g map (8 * y) (8 * y + 8) w
  unfolding tiles_of
  stock-row y n cols w N R C = record {
    at = λ i j b d e f h.
        let z : y ≡ j / 8 = omega arith in
        subst (λ (q : ℕ). Marked ((g.nx + 7) / 8) (i / 8) q w) z (subst (λ (m : ℕ). Marked m (i / 8) y w) N (C.at i (omega arith) (R.at i j b d e f h)));
  }

  pub stock-none : (w : List ℕ) → Keeps w w × StockMarked g map 0 0 w
  stock-none w = (keeps_none w, record { at = λ i j b d e f. absurd (let z : ⊥ = omega arith in z) })

  pub stock_more : (y : ℕ) (w₀ w v : List ℕ) → Keeps w v × StockMarked g map (8 * y) (8 * y + 8) v → Keeps w₀ w × StockMarked g map 0 (8 * y) w → Keeps w₀ v × StockMarked g map 0 (8 * (y + 1)) v
  stock_more y w₀ w v M S = (
    keeps_more w₀ w v S.0 M.0,
    record {
      at = λ i j b d e f h. by_cases (ltb j (8 * y)) (λ t. marked-kept (tiles_of g.nx) (i / 8) (j / 8) w v M.0 (S.1.at i j b d e (ltb-true j (8 * y) t) h))
          (λ t. M.1.at i j b d (omega (arith, ltb-false j (8 * y) t)) (omega arith) h);
    },
  )

  -- what is marked for the stock of all rows tells where none is
  pub tiled_is : Sides g → (k : ℕ) (w₀ w : List ℕ) → 20480 ≤ length w₀ → tiles_of g.ny ≤ k → Keeps w₀ w × StockMarked g map 0 (8 * k) w → Tiled g map w
  unfolding tiles_of tile_at
  tiled_is s k w₀ w l h S = record {
    long = omega (arith, tiles_fit g s, S.0.long);
    bare = λ p q i j a b d e f o z. by_cases (eqb (get_or map (number g.nx i j) 0) 1)
        (λ t. absurd (let v : ⊥ = omega (arith, (S.1.at i j d o (omega arith) (omega arith) (eqb-true (get_or map (number g.nx i j) 0) 1 t)).at (p / 8) (q / 8) (omega arith) (omega arith) (omega arith) (omega arith)) in v))
        (λ t. t);
  }

-- new tiles
pub tiles_long : length (replicate {A = ℕ} 20480 0) ≡ 20480
tiles_long = length-replicate {A = ℕ} 20480 0

-- what is stock of n is stock of m
abbrev pub Fewer : List ℕ → List ℕ → Type 0
Fewer m n = (k : ℕ) → eqb (get_or n k 0) 1 ≡ true → eqb (get_or m k 0) 1 ≡ true

pub tiled_fewer : (g : Grid) (m n tiles : List ℕ) → Fewer m n → Tiled g m tiles → Tiled g n tiles
tiled_fewer g m n tiles f t = record {
  long = t.long;
  bare = λ p q i j a b c d e h z. by_cases (eqb (get_or n (number g.nx i j) 0) 1) (λ s. never (sym (t.bare p q i j a b c d e h z) ∙ f _ s)) (λ s. s);
}
