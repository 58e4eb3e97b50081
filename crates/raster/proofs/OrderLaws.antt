-- Cells are visited in the order of their numbers, each once: so a crescent's log ascends, and a disk counts the stock cells that clearing it removes.
-- Assumes nothing.
use Rattle.std.specs.Prelude.{None, Some}
use mathlib.Core.Path.{◌≡◌, refl, sym, ap, ◌∙◌}
use mathlib.Core.Bool.{Bool, true, false, ◌&&◌, ◌||◌}
use mathlib.Core.List.{List}
use Prim.Native.Nat.{ℕ, zero, suc, ◌+◌, ◌-◌, ◌*◌, ◌≤◌, ◌<◌, min}
use native.Mathlib.Nat.{mul-le-mul_right}
use native.Mathlib.Omega.{arith}
use lib.ListN.{get_or}
use lib.Seq.{get_or-set_same, get_or-set_other}
use lib.Dec.{eqb, ltb, leb}
use lib.Ieee.{Float, binary64, sub, add, mul, lt, le, is_nan, to_unsigned}
use borrow.Author.Tests.{eqb-true, eqb-false, ltb-true, ltb-false}
use Rattle.loops.specs.Loop.{turns, loop}
use Rattle.loops.specs.Cells.{bit, ones}
use Rattle.loops.proofs.Cases.{by_cases, by_test, never}
use Rattle.geom.specs.declared.vec2.Vec2.{Vec2}
use Rattle.numbers.specs.Whole.{floor_of}
use Rattle.numbers.specs.Root.{root_of}
use Rattle.geom.specs.Vec.{f0}
use Rattle.floats.proofs.OrderLaws.{not_lt_le}
use Rattle.floats.proofs.IndexLaws.{cut_mono}
use Rattle.raster.specs.Grid.{Sides}
use Rattle.numbers.specs.Cast.{float}
use Rattle.raster.specs.Disk.{Span, row_y, cell_at, first_from, cols_of, chord_of, disk_row, crescent_row, rows_of, left_of, right_of, less, two}
use Rattle.raster.specs.Sweep.{over_span, disk_at, over_disk, crescent_at, over_crescent}
use Rattle.raster.specs.Stock.{Cleared, cl, drop_cell, clear_disk, tally, count_disk}
use Rattle.raster.specs.Log.{Stock, Ready, taken, clear_cell, clear_after}
use Rattle.raster.specs.declared.grid.Grid.{Grid}
use Rattle.raster.specs.declared.disk.Crescent.{Crescent}
use Rattle.raster.proofs.RowLaws.{InRow, first-number, first_below, or_last, next_base, disk_in, crescent_in}
use Rattle.raster.proofs.SweepLaws.{disk_image}
use Rattle.raster.proofs.StockLaws.{bit-one, bit-none, clear-disk-removed}
use Rattle.raster.proofs.LogLaws.{cell_cases, Kept, kept-none, kept-taken, room-left}

-- ---- what holds of the cells below k

module _ {S : Type 0} (f : ℕ → S → S) (P : ℕ → S → Type 0) (mono : (k l : ℕ) (s : S) → k ≤ l → P k s → P l s) (each : (k : ℕ) (s : S) → P k s → P (k + 1) (f k s)) where
  turns-rise : (a m : ℕ) (s : S) → P a s → P (a + m) (turns f a m s)
  unfolding turns
  turns-rise a zero s p = mono a (a + zero) s (omega arith) p
  turns-rise a (suc m) s p = mono (a + m + 1) (a + suc m) (f (a + m) (turns f a m s)) (omega arith) (each (a + m) (turns f a m s) (turns-rise a m s p))

  -- a loop goes through numbers from a on, all below n
  pub loop-rise : (a e n : ℕ) (s : S) → a ≤ n → e ≤ n → P a s → P n (loop f a e s)
  unfolding loop
  loop-rise a e n s h k p = mono (a + (e - a)) n (turns f a (e - a) s) (omega arith) (turns-rise a (e - a) s p)

module _ {S : Type 0} (f : ℕ → S → S) (P : ℕ → S → Type 0) (mono : (k l : ℕ) (s : S) → k ≤ l → P k s → P l s) (each : (k : ℕ) (s : S) → P k s → P (k + 1) (f k s)) where
  span_rise : (base nx : ℕ) (p : Span) (s : S) → InRow nx p → P base s → P (base + nx) (over_span f base p s)
  unfolding over_span
  span_rise base nx None s r h = mono base (base + nx) s (omega arith) h
  span_rise base nx (Some (a, b)) s r h =
      loop-rise f P mono each (base + a) (base + b + 1) (base + nx) s (omega (arith, r.0)) (omega (arith, r.1)) (mono base (base + a) s (omega arith) h)

  row_mono : (nx k l : ℕ) (s : S) → k ≤ l → P (k * nx) s → P (l * nx) s
  row_mono nx k l s h p = mono (k * nx) (l * nx) s (mul-le-mul_right nx h) p

  next_row : (nx j : ℕ) (s : S) → P (j * nx + nx) s → P ((j + 1) * nx) s
  next_row nx j s p = mono (j * nx + nx) ((j + 1) * nx) s (omega (arith, next_base j nx (j * nx) refl)) p

  module _ (g : Grid) (sides : Sides g) where
    pub disk-rise : (c : Vec2) (r : Float) (n : ℕ) (s : S) → (rows_of g c r).0 ≤ n → (rows_of g c r).1 + 1 ≤ n → P ((rows_of g c r).0 * g.nx) s → P (n * g.nx) (over_disk f g c r s)
    unfolding over_disk disk_at
    disk-rise c r n s a b p =
        loop-rise (disk_at f g c r) (λ j t. P (j * g.nx) t) (row_mono g.nx)
        (λ j t q. next_row g.nx j (disk_at f g c r j t) (span_rise (j * g.nx) g.nx (disk_row g c r j) t (disk_in g c r j sides) q))
        (rows_of g c r).0 ((rows_of g c r).1 + 1) n s a b p

-- ---- a disk counts what clearing it removes

record Pair : Type 0 where
  disk : Cleared
  count : ℕ

abbrev both : List ℕ → ℕ → Pair → Pair
both m k s = record { disk = drop_cell k s.disk; count = tally m k s.count }

-- the counts are one, and the cells from k on are as they were
record Alike (m : List ℕ) (k : ℕ) (s : Pair) : Type 0 where
  same : s.disk.removed ≡ s.count
  rest : (i : ℕ) → k ≤ i → get_or s.disk.cells i 0 ≡ get_or m i 0

alike_mono : (m : List ℕ) (k l : ℕ) (s : Pair) → k ≤ l → Alike m k s → Alike m l s
alike_mono m k l s h a = record { same = a.same; rest = λ i b. a.rest i (omega arith) }

alike_each : (m : List ℕ) (k : ℕ) (s : Pair) → Alike m k s → Alike m (k + 1) (both m k s)
unfolding drop_cell tally
alike_each m k s a =
    by_cases (eqb (get_or s.disk.cells k 0) 1)
    (λ e.
    let one : bit (get_or m k 0) ≡ 1 = bit-one (get_or m k 0) (sym (a.rest k (omega arith)) ∙ eqb-true (get_or s.disk.cells k 0) 1 e) in
    rw e (record {
      same = omega (arith, a.same);
      rest = λ i b. get_or-set_other s.disk.cells k i 0 0 (omega arith) ∙ a.rest i (omega arith);
    }))
    (λ e.
    let none : bit (get_or m k 0) ≡ 0 = bit-none (get_or m k 0) (λ d. eqb-false (get_or s.disk.cells k 0) 1 e (a.rest k (omega arith) ∙ d)) in
    rw e (record { same = omega (arith, a.same); rest = λ i b. a.rest i (omega arith) }))

pub count-is-removed : (g : Grid) → Sides g → (c : Vec2) (r : Float) (m : List ℕ) → count_disk g c r m ≡ (clear_disk g c r m).removed
unfolding count_disk clear_disk
count-is-removed g sides c r m =
    let s : Pair = record { disk = cl m 0; count = 0 } in
    let n = (rows_of g c r).0 + ((rows_of g c r).1 + 1) in
    let t = disk-rise (both m) (Alike m) (alike_mono m) (alike_each m) g sides c r n s (omega arith) (omega arith) (record { same = refl; rest = λ i b. refl }) in
    sym (disk_image (λ (q : Pair). q.count) (both m) (tally m) (λ i q. refl) g c r s)
    ∙ sym t.same
    ∙ ap (λ (q : Cleared). q.removed) (disk_image (λ (q : Pair). q.disk) (both m) drop_cell (λ i q. refl) g c r s)

-- so it counts the stock cells of the map that the disk has
pub count-disk-is : (g : Grid) → Sides g → (c : Vec2) (r : Float) (m : List ℕ) → count_disk g c r m ≡ ones m - ones (clear_disk g c r m).cells
count-disk-is g sides c r m = count-is-removed g sides c r m ∙ clear-disk-removed g c r m

-- ---- a crescent's log ascends

-- the span's first column is not after its last
abbrev pub Straight : Span → Type 0
Straight None = Unit
Straight (Some (a, b)) = a ≤ b

or_middle : (a b c : Bool) → a || (b || c) ≡ false → b ≡ false
or_middle true b c e = never (sym e)
or_middle false true c e = never (sym e)
or_middle false false c e = refl

cols_straight : (i0 i1 : Float) (nx : ℕ) → 0 < nx → nx ≤ 4096 → is_nan i0 ≡ false → is_nan i1 ≡ false → Straight (cols_of i0 i1 nx)
unfolding cols_of
cols_straight i0 i1 nx w h p q =
    by_test Straight (lt i1 f0 || (lt i1 i0 || le (float nx) i0)) None (Some (to_unsigned 64 i0, min (to_unsigned 64 i1) (nx - 1))) (λ t. tt)
    (λ t.
    let up : to_unsigned 64 i0 ≤ to_unsigned 64 i1 = cut_mono 64 i0 i1 (not_lt_le i0 i1 p q (or_middle (lt i1 f0) (lt i1 i0) (le (float nx) i0) t)) in
    let below : to_unsigned 64 i0 < nx = first_below nx i0 w h p (or_last (lt i1 f0) (lt i1 i0) (le (float nx) i0) t) in
    omega arith)

-- a disk's span is, wherever its end is a number
pub disk_straight : (g : Grid) (c : Vec2) (r : Float) (j : ℕ) → Sides g
    → is_nan (floor_of (cell_at (add binary64 c.x (root_of (sub binary64 (mul binary64 r r) (mul binary64 (sub binary64 (row_y g j) c.y) (sub binary64 (row_y g j) c.y))))) g.origin.x g.cell)) ≡ false
    → Straight (disk_row g c r j)
unfolding disk_row chord_of
disk_straight g c r j s q =
    let dy = sub binary64 (row_y g j) c.y in
    let h2 = sub binary64 (mul binary64 r r) (mul binary64 dy dy) in
    let u = cell_at (sub binary64 c.x (root_of h2)) g.origin.x g.cell in
    let i1 = floor_of (cell_at (add binary64 c.x (root_of h2)) g.origin.x g.cell) in
    by_test Straight (lt h2 f0) None (cols_of (first_from u) i1 g.nx) (λ t. tt) (λ t. cols_straight (first_from u) i1 g.nx s.wide s.columns (first-number u) q)

-- one span ends before the other begins
abbrev Before : Span → Span → Type 0
Before None q = Unit
Before (Some (a, b)) None = Unit
Before (Some (a, b)) (Some (c, d)) = (a ≤ b) × (b < c)

abbrev Apart : Crescent → Type 0
Apart p = Before p.left p.right

before-empty : (s : Span) → Before s None
before-empty None = tt
before-empty (Some (a, b)) = tt

less-apart : (s q : Span) → Straight q → Apart (less s q)
unfolding less left_of right_of
less-apart None q h = tt
less-apart (Some (i0, i1)) None h = tt
less-apart (Some (i0, i1)) (Some (p0, p1)) h =
    by_test Apart (leb p0 i1 && leb i0 p1) (two (left_of i0 p0) (right_of p1 i1)) (two (Some (i0, i1)) None)
    (λ t. by_test (λ (l : Span). Before l (right_of p1 i1)) (ltb i0 p0) (Some (i0, p0 - 1)) None
    (λ u. by_test (Before (Some (i0, p0 - 1))) (ltb p1 i1) (Some (p1 + 1, i1)) None (λ w. omega (arith, ltb-true i0 p0 u)) (λ w. tt))
    (λ u. tt))
    (λ t. tt)

module _ {S : Type 0} (f : ℕ → S → S) (P : ℕ → S → Type 0) (mono : (k l : ℕ) (s : S) → k ≤ l → P k s → P l s) (each : (k : ℕ) (s : S) → P k s → P (k + 1) (f k s)) where
  spans-rise : (base nx : ℕ) (p q : Span) (s : S) → InRow nx p → InRow nx q → Before p q → P base s → P (base + nx) (over_span f base q (over_span f base p s))
  unfolding over_span
  spans-rise base nx None q s a b w h = span_rise f P mono each base nx q s b h
  spans-rise base nx (Some (a, b)) None s r t w h = span_rise f P mono each base nx (Some (a, b)) s r h
  spans-rise base nx (Some (a, b)) (Some (c, d)) s r t w h =
      loop-rise f P mono each (base + c) (base + d + 1) (base + nx) _ (omega (arith, t.0)) (omega (arith, t.1))
      (mono (base + b + 1) (base + c) _ (omega (arith, w.1))
      (loop-rise f P mono each (base + a) (base + b + 1) (base + b + 1) s (omega (arith, w.0)) (omega arith) (mono base (base + a) s (omega arith) h)))

  crescent-rise : (g : Grid) → Sides g → (prev c : Vec2) (r : Float) → ((j : ℕ) → Straight (disk_row g prev r j)) → (n : ℕ) (s : S) → (rows_of g c r).0 ≤ n → (rows_of g c r).1 + 1 ≤ n
      → P ((rows_of g c r).0 * g.nx) s → P (n * g.nx) (over_crescent f g prev c r s)
  unfolding over_crescent crescent_at crescent_row
  crescent-rise g sides prev c r str n s a b p =
      loop-rise (crescent_at f g prev c r) (λ j t. P (j * g.nx) t) (row_mono f P mono each g.nx)
      (λ j t q. next_row f P mono each g.nx j (crescent_at f g prev c r j t)
      (spans-rise (j * g.nx) g.nx (crescent_row g prev c r j).left (crescent_row g prev c r j).right t (crescent_in g prev c r j sides).0 (crescent_in g prev c r j sides).1
      (less-apart (disk_row g c r j) (disk_row g prev r j) (str j)) q))
      (rows_of g c r).0 ((rows_of g c r).1 + 1) n s a b p

-- the new entries ascend, and are below k
record Rising (s : Stock) (k : ℕ) (t : Stock) : Type 0 where
  kept : Kept s t
  below : (i : ℕ) → s.count ≤ i → i < t.count → get_or t.log i 0 < k
  up : (i j : ℕ) → s.count ≤ i → i < j → j < t.count → get_or t.log i 0 < get_or t.log j 0

rising_mono : (s : Stock) (k l : ℕ) (t : Stock) → k ≤ l → Rising s k t → Rising s l t
rising_mono s k l t h a = record { kept = a.kept; below = λ i b c. let z = a.below i b c in omega arith; up = a.up }

module _ (s : Stock) (r : Ready s) (k : ℕ) (t : Stock) (a : Rising s k t) (e : get_or t.cells k 0 ≡ 1) where
  old : (i : ℕ) → i < t.count → get_or (taken k t).log i 0 ≡ get_or t.log i 0
  old i b = get_or-set_other t.log t.count i k 0 (omega arith)

  new_at : (i : ℕ) → i < t.count + 1 → t.count ≤ i → get_or (taken k t).log i 0 ≡ k
  new_at i b c =
      let z : i ≡ t.count = omega arith in
      ap (λ (j : ℕ). get_or (taken k t).log j 0) z ∙ get_or-set_same t.log t.count k 0 (room-left s t r a.kept k e)

  rising-taken : Rising s (k + 1) (taken k t)
  rising-taken = record {
    kept = kept-taken s t r a.kept k e;
    below = λ i b c. by_cases (ltb i t.count)
        (λ u. let z = a.below i b (ltb-true i t.count u) in omega (arith, old i (ltb-true i t.count u)))
        (λ u. omega (arith, new_at i c (ltb-false i t.count u)));
    up = λ i j b c d. by_cases (ltb j t.count)
        (λ u.
        let z = a.up i j b c (ltb-true j t.count u) in
        let j-old = old j (ltb-true j t.count u) in
        omega (arith, old i (omega (arith, ltb-true j t.count u))))
        (λ u.
        let y : i < t.count = omega arith in
        let z = a.below i b y in
        let j-new = new_at j d (ltb-false j t.count u) in
        omega (arith, old i y));
  }

rising-each : (s : Stock) → Ready s → (k : ℕ) (t : Stock) → Rising s k t → Rising s (k + 1) (clear_cell k t)
rising-each s r k t a = cell_cases (Rising s (k + 1)) k t (rising-taken s r k t a) (rising_mono s k (k + 1) t (omega arith) a)

-- the numbers that a crescent logs ascend
pub log_ascends : (g : Grid) → Sides g → (prev c : Vec2) (r : Float) → ((j : ℕ) → Straight (disk_row g prev r j)) → (s : Stock) → Ready s
    → (i j : ℕ) → s.count ≤ i → i < j → j < (clear_after g prev c r s).count → get_or (clear_after g prev c r s).log i 0 < get_or (clear_after g prev c r s).log j 0
unfolding clear_after
log_ascends g sides prev c r str s ready =
    (crescent-rise clear_cell (Rising s) (rising_mono s) (rising-each s ready) g sides prev c r str ((rows_of g c r).0 + ((rows_of g c r).1 + 1)) s (omega arith) (omega arith)
    (record { kept = kept-none s; below = λ i b d. absurd (let z : ⊥ = omega arith in z); up = λ i j b d w. absurd (let z : ⊥ = omega arith in z) })).up
