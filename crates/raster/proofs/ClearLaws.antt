-- Which cells a disk and a crescent clear: the stock cells whose centres lie in the disk, and for a crescent not in the disk at the point before, by
-- disk_row's arithmetic; every other cell is as it was. Proved of the map alone (`wipe_cell`); clearing with a count or a log has the same map. Assumes nothing.
use Rattle.std.specs.Prelude.{None, Some}
use mathlib.Core.Path.{◌≡◌, refl, sym, ap, ◌∙◌, subst}
use mathlib.Core.Bool.{Bool, true, false, cond, ◌||◌, ◌&&◌}
use mathlib.Core.List.{List}
use mathlib.Core.Logic.{◌⊎◌, inl, inr, ⊎_elim}
use Prim.Native.Nat.{ℕ, suc, ◌+◌, ◌-◌, ◌*◌, ◌≤◌, ◌<◌}
use native.Mathlib.Omega.{arith}
use lib.ListN.{get_or}
use lib.Seq.{get_or-set_same, get_or-set_other}
use lib.Dec.{eqb, ltb, leb}
use lib.Ieee.{Float}
use borrow.Author.Tests.{eqb-true, eqb-false, ltb-true, ltb-false, leb-true, leb-false}
use Rattle.loops.specs.Loop.{any}
use Rattle.loops.proofs.Cases.{by_cases, by_test, both, or_left, or_right, or_false}
use Rattle.loops.proofs.CellLaws.{below_length}
use Rattle.geom.specs.declared.vec2.Vec2.{Vec2}
use Rattle.raster.specs.Grid.{Sides}
use Rattle.raster.specs.Disk.{Span, disk_row, crescent_row, rows_of, left_of, right_of, less, two}
use Rattle.raster.specs.Sweep.{over_span, disk_at, over_disk, crescent_at, over_crescent}
use Rattle.raster.specs.Stock.{wipe_cell, Cleared, cl, drop_cell, clear_disk}
use Rattle.raster.specs.Log.{Stock, clear_cell, clear_after}
use Rattle.raster.specs.declared.grid.Grid.{Grid}
use Rattle.raster.specs.declared.disk.Crescent.{Crescent}
use Rattle.raster.proofs.RowLaws.{InRow, disk_in, crescent_in, rows-below}
use Rattle.raster.proofs.SweepLaws.{disk_image, crescent_image}
use Rattle.raster.proofs.PaintLaws.{or_none, any_at, any_none, in_span, Has, span_has, span_lacks, span_beyond, pick, Changes, changes_then, changes_loop, changes_span}

-- ---- one map for all ways of clearing

drop_cells : (k : ℕ) (s : Cleared) → (drop_cell k s).cells ≡ wipe_cell k s.cells
unfolding drop_cell wipe_cell
drop_cells k s = by_cases (eqb (get_or s.cells k 0) 1) (λ e. rw e) (λ e. rw e)

clear-cells : (k : ℕ) (s : Stock) → (clear_cell k s).cells ≡ wipe_cell k s.cells
unfolding clear_cell wipe_cell
clear-cells k s = by_cases (eqb (get_or s.cells k 0) 1) (λ e. rw e) (λ e. rw e)

pub disk-cells : (g : Grid) (c : Vec2) (r : Float) (m : List ℕ) → (clear_disk g c r m).cells ≡ over_disk wipe_cell g c r m
unfolding clear_disk
disk-cells g c r m = disk_image (λ (s : Cleared). s.cells) drop_cell wipe_cell drop_cells g c r (cl m 0)

pub after-cells : (g : Grid) (prev c : Vec2) (r : Float) (s : Stock) → (clear_after g prev c r s).cells ≡ over_crescent wipe_cell g prev c r s.cells
unfolding clear_after
after-cells g prev c r s = crescent_image (λ (s : Stock). s.cells) clear_cell wipe_cell clear-cells g prev c r s

-- ---- which cells are cleared, by number

-- a cell that is cleared: stock becomes 0, and what is no stock stays
abbrev pub off : ℕ → ℕ
off x = cond (eqb x 1) 0 x

off-off : (x : ℕ) → off (off x) ≡ off x
off-off x = by_cases (eqb x 1) (λ e. simp e) (λ e. simp e)

-- any map will do
abbrev Map : List ℕ → Type 0
Map m = Unit

module _ (n : ℕ) where
  clears_cell : (i : ℕ) (s : List ℕ) → Map s → Changes off n (λ k. eqb k i) s (wipe_cell i s)
  unfolding Changes wipe_cell
  clears_cell i s q k h =
      by_cases (eqb (get_or s i 0) 1)
      (λ e. rw e (by_cases (eqb k i)
      (λ d. rw (d, eqb-true k i d, e) (get_or-set_same s i 0 0 (below_length s i (eqb-true _ _ e))))
      (λ d. rw d (get_or-set_other s i k 0 0 (eqb-false k i d)))))
      (λ e. rw e (by_cases (eqb k i) (λ d. rw (d, eqb-true k i d, e)) (λ d. rw d)))

  clears_span : (base : ℕ) (p : Span) (s : List ℕ) → Changes off n (in_span base p) s (over_span wipe_cell base p s)
  clears_span base p s = changes_span off off-off n Map wipe_cell (λ i s q. tt) clears_cell base p s tt

-- a row of one span or of two
abbrev in_row : Grid → Crescent → ℕ → ℕ → Bool
in_row g p j k = in_span (j * g.nx) p.left k || in_span (j * g.nx) p.right k

module _ (n : ℕ) (g : Grid) where
  clears_disk_at : (c : Vec2) (r : Float) (j : ℕ) (s : List ℕ) → Map s → Changes off n (in_row g (two (disk_row g c r j) None) j) s (disk_at wipe_cell g c r j s)
  unfolding disk_at Changes
  clears_disk_at c r j s q k h =
      unfold Changes in (clears_span n (j * g.nx) (disk_row g c r j) s k h)
      ∙ ap (λ (b : Bool). pick off b (get_or s k 0)) (sym (or_false (in_span (j * g.nx) (disk_row g c r j) k)))

  clears_crescent_at : (prev c : Vec2) (r : Float) (j : ℕ) (s : List ℕ) → Map s → Changes off n (in_row g (crescent_row g prev c r j) j) s (crescent_at wipe_cell g prev c r j s)
  unfolding crescent_at
  clears_crescent_at prev c r j s q =
      changes_then off off-off n (in_span (j * g.nx) (crescent_row g prev c r j).left) (in_span (j * g.nx) (crescent_row g prev c r j).right) s _ _
      (clears_span n (j * g.nx) (crescent_row g prev c r j).left s) (clears_span n (j * g.nx) (crescent_row g prev c r j).right _)

-- the rows from first to last, row j with the parts `part j`
abbrev in_rows : Grid → (ℕ → Crescent) → ℕ → ℕ → ℕ → Bool
in_rows g part first last k = any (λ j. in_row g (part j) j k) first (last + 1)

clears_disk : (g : Grid) (c : Vec2) (r : Float) (s : List ℕ) (k : ℕ)
    → get_or (over_disk wipe_cell g c r s) k 0 ≡ pick off (in_rows g (λ j. two (disk_row g c r j) None) (rows_of g c r).0 (rows_of g c r).1 k) (get_or s k 0)
unfolding over_disk Changes
clears_disk g c r s k =
    changes_loop off off-off (suc k) Map (disk_at wipe_cell g c r) (λ i s q. tt) (λ j. in_row g (two (disk_row g c r j) None) j) (clears_disk_at (suc k) g c r)
    (rows_of g c r).0 ((rows_of g c r).1 + 1) s tt k (omega arith)

clears_crescent : (g : Grid) (prev c : Vec2) (r : Float) (s : List ℕ) (k : ℕ)
    → get_or (over_crescent wipe_cell g prev c r s) k 0 ≡ pick off (in_rows g (crescent_row g prev c r) (rows_of g c r).0 (rows_of g c r).1 k) (get_or s k 0)
unfolding over_crescent Changes
clears_crescent g prev c r s k =
    changes_loop off off-off (suc k) Map (crescent_at wipe_cell g prev c r) (λ i s q. tt) (λ j. in_row g (crescent_row g prev c r j) j) (clears_crescent_at (suc k) g prev c r)
    (rows_of g c r).0 ((rows_of g c r).1 + 1) s tt k (omega arith)

-- ---- the same by column and row: cell (i, j) has the number j * nx + i

module _ (g : Grid) (part : ℕ → Crescent) (first last : ℕ) (parts : (j : ℕ) → InRow g.nx (part j).left × InRow g.nx (part j).right) where
  rows-beyond : last < g.ny → (k : ℕ) → g.ny * g.nx ≤ k → in_rows g part first last k ≡ false
  rows-beyond w k l =
      any_none (λ q. in_row g (part q) q k) first (last + 1)
      (λ q a b. or_none (in_span (q * g.nx) (part q).left k) (in_span (q * g.nx) (part q).right k)
      (span_beyond g.nx g.ny q k (part q).left (parts q).0 (omega arith) l)
      (span_beyond g.nx g.ny q k (part q).right (parts q).1 (omega arith) l))

  module _ (i j : ℕ) (h : i < g.nx) where
    rows-has : first ≤ j → j ≤ last → Has i (part j).left ⊎ Has i (part j).right → in_rows g part first last (j * g.nx + i) ≡ true
    rows-has a b n =
        any_at (λ q. in_row g (part q) q (j * g.nx + i)) first (last + 1) j a (omega arith)
        (⊎_elim
        (λ w. or_left (in_span (j * g.nx) (part j).left (j * g.nx + i)) (in_span (j * g.nx) (part j).right (j * g.nx + i)) (span_has (j * g.nx) i (part j).left w))
        (λ w. or_right (in_span (j * g.nx) (part j).left (j * g.nx + i)) (in_span (j * g.nx) (part j).right (j * g.nx + i)) (span_has (j * g.nx) i (part j).right w))
        n)

    rows_lack : (first ≤ j → j ≤ last → Has i (part j).left ⊎ Has i (part j).right → ⊥) → in_rows g part first last (j * g.nx + i) ≡ false
    rows_lack f =
        any_none (λ q. in_row g (part q) q (j * g.nx + i)) first (last + 1)
        (λ q l m. or_none (in_span (q * g.nx) (part q).left (j * g.nx + i)) (in_span (q * g.nx) (part q).right (j * g.nx + i))
        (span_lacks g.nx j q i (part q).left (parts q).0 h
        (λ e w. f (omega (arith, e, l)) (omega (arith, e, l, m)) (inl (subst (λ (y : ℕ). Has i (part y).left) (sym e) w))))
        (span_lacks g.nx j q i (part q).right (parts q).1 h
        (λ e w. f (omega (arith, e, l)) (omega (arith, e, l, m)) (inr (subst (λ (y : ℕ). Has i (part y).right) (sym e) w)))))

-- ---- the columns of a crescent's row are those of the disk there and not of the disk before

left-has : (i i0 p0 : ℕ) → Has i (left_of i0 p0) → (i0 ≤ i) × (i < p0)
unfolding left_of
left-has i i0 p0 = by_test (λ (s : Span). Has i s → (i0 ≤ i) × (i < p0)) (ltb i0 p0) (Some (i0, p0 - 1)) None (λ t h. omega (arith, ltb-true i0 p0 t, h.0, h.1)) (λ t h. absurd h)

has_left : (i i0 p0 : ℕ) → i0 ≤ i → i < p0 → Has i (left_of i0 p0)
unfolding left_of
has_left i i0 p0 a b =
    by_test (Has i) (ltb i0 p0) (Some (i0, p0 - 1)) None (λ t. omega arith) (λ t. absurd (let z : ⊥ = omega (arith, ltb-false i0 p0 t) in z))

right-has : (i p1 i1 : ℕ) → Has i (right_of p1 i1) → (p1 < i) × (i ≤ i1)
unfolding right_of
right-has i p1 i1 = by_test (λ (s : Span). Has i s → (p1 < i) × (i ≤ i1)) (ltb p1 i1) (Some (p1 + 1, i1)) None (λ t h. omega (arith, h.0, h.1)) (λ t h. absurd h)

has_right : (i p1 i1 : ℕ) → p1 < i → i ≤ i1 → Has i (right_of p1 i1)
unfolding right_of
has_right i p1 i1 a b =
    by_test (Has i) (ltb p1 i1) (Some (p1 + 1, i1)) None (λ t. omega arith) (λ t. absurd (let z : ⊥ = omega (arith, ltb-false p1 i1 t) in z))

abbrev Parts : ℕ → Crescent → Type 0
Parts i k = Has i k.left ⊎ Has i k.right

not_both : (a b : Bool) → a && b ≡ false → (a ≡ false) ⊎ (b ≡ false)
not_both true b e = inr e
not_both false b e = inl refl

pub less-has : (i : ℕ) (s q : Span) → Parts i (less s q) → Has i s × (Has i q → ⊥)
unfolding less
less-has i None q h = ⊎_elim (λ w. absurd w) (λ w. absurd w) h
less-has i (Some (i0, i1)) None h = ⊎_elim (λ w. (w, λ v. v)) (λ w. absurd w) h
less-has i (Some (i0, i1)) (Some (p0, p1)) h' =
    by_test (λ (k : Crescent). Parts i k → Has i (Some (i0, i1)) × (Has i (Some (p0, p1)) → ⊥)) (leb p0 i1 && leb i0 p1) (two (left_of i0 p0) (right_of p1 i1)) (two (Some (i0, i1)) None)
    (λ t h.
    let a = leb-true p0 i1 (both (leb p0 i1) (leb i0 p1) t).0 in
    let b = leb-true i0 p1 (both (leb p0 i1) (leb i0 p1) t).1 in
    ⊎_elim
    (λ w. let v = left-has i i0 p0 w in ((omega (arith, v.0), omega (arith, v.1)), λ u. let z : ⊥ = omega (arith, u.0, v.1) in z))
    (λ w. let v = right-has i p1 i1 w in ((omega (arith, v.0), omega (arith, v.1)), λ u. let z : ⊥ = omega (arith, u.1, v.0) in z))
    h)
    (λ t h. ⊎_elim
    (λ w. (
      w,
      λ u. ⊎_elim
          (λ a. let z : ⊥ = omega (arith, leb-false p0 i1 a, w.1, u.0) in z)
          (λ b. let z : ⊥ = omega (arith, leb-false i0 p1 b, w.0, u.1) in z)
          (not_both (leb p0 i1) (leb i0 p1) t),
    ))
    (λ w. absurd w)
    h)
    h'

pub has-less : (i : ℕ) (s q : Span) → Has i s → (Has i q → ⊥) → Parts i (less s q)
unfolding less
has-less i None q h f = absurd h
has-less i (Some (i0, i1)) None h f = inl h
has-less i (Some (i0, i1)) (Some (p0, p1)) h f =
    by_test (Parts i) (leb p0 i1 && leb i0 p1) (two (left_of i0 p0) (right_of p1 i1)) (two (Some (i0, i1)) None)
    (λ t. by_cases (ltb i p0)
    (λ a. inl (has_left i i0 p0 h.0 (ltb-true i p0 a)))
    (λ a. by_cases (ltb p1 i)
    (λ b. inr (has_right i p1 i1 (ltb-true p1 i b) h.1))
    (λ b. absurd (f (ltb-false i p0 a, ltb-false p1 i b)))))
    (λ t. inl h)

-- ---- the laws

-- cell (i, j) is in the disk of radius r at c: its row is one that the disk can reach, and its column one of the row's span
pub record InDisk (g : Grid) (c : Vec2) (r : Float) (i j : ℕ) : Type 0 where
  pub first : (rows_of g c r).0 ≤ j
  pub last : j ≤ (rows_of g c r).1
  pub column : Has i (disk_row g c r j)

-- and not in the disk at the point before
pub record InCrescent (g : Grid) (prev c : Vec2) (r : Float) (i j : ℕ) : Type 0 where
  pub here : InDisk g c r i j
  pub there : Has i (disk_row g prev r j) → ⊥

module _ (g : Grid) (sides : Sides g) where
  disk_parts : (c : Vec2) (r : Float) (j : ℕ) → InRow g.nx (disk_row g c r j) × InRow g.nx None
  disk_parts c r j = (disk_in g c r j sides, tt)

  module _ (c : Vec2) (r : Float) (m : List ℕ) where
    -- a cell of the disk is cleared
    pub disk_clears : (i j : ℕ) → i < g.nx → InDisk g c r i j → get_or (over_disk wipe_cell g c r m) (j * g.nx + i) 0 ≡ off (get_or m (j * g.nx + i) 0)
    disk_clears i j h n =
        clears_disk g c r m (j * g.nx + i)
        ∙ ap (λ (b : Bool). pick off b (get_or m (j * g.nx + i) 0))
        (rows-has g (λ j. two (disk_row g c r j) None) (rows_of g c r).0 (rows_of g c r).1 (disk_parts c r) i j h n.first n.last (inl n.column))

    -- any other is as it was
    pub disk_keeps : (i j : ℕ) → i < g.nx → (InDisk g c r i j → ⊥) → get_or (over_disk wipe_cell g c r m) (j * g.nx + i) 0 ≡ get_or m (j * g.nx + i) 0
    disk_keeps i j h f =
        clears_disk g c r m (j * g.nx + i)
        ∙ ap (λ (b : Bool). pick off b (get_or m (j * g.nx + i) 0))
        (rows_lack g (λ j. two (disk_row g c r j) None) (rows_of g c r).0 (rows_of g c r).1 (disk_parts c r) i j h
        (λ a b n. ⊎_elim (λ w. f (record { first = a; last = b; column = w })) (λ w. absurd w) n))

    -- so is all beyond the grid
    pub disk-beyond : (k : ℕ) → g.ny * g.nx ≤ k → get_or (over_disk wipe_cell g c r m) k 0 ≡ get_or m k 0
    disk-beyond k l =
        clears_disk g c r m k
        ∙ ap (λ (b : Bool). pick off b (get_or m k 0))
        (rows-beyond g (λ j. two (disk_row g c r j) None) (rows_of g c r).0 (rows_of g c r).1 (disk_parts c r) (rows-below g c r sides.high) k l)

    module _ (prev : Vec2) where
      pub crescent_clears : (i j : ℕ) → i < g.nx → InCrescent g prev c r i j → get_or (over_crescent wipe_cell g prev c r m) (j * g.nx + i) 0 ≡ off (get_or m (j * g.nx + i) 0)
      unfolding crescent_row
      crescent_clears i j h n =
          clears_crescent g prev c r m (j * g.nx + i)
          ∙ ap (λ (b : Bool). pick off b (get_or m (j * g.nx + i) 0))
          (rows-has g (crescent_row g prev c r) (rows_of g c r).0 (rows_of g c r).1 (λ j. crescent_in g prev c r j sides) i j h n.here.first n.here.last
          (has-less i (disk_row g c r j) (disk_row g prev r j) n.here.column n.there))

      pub crescent_keeps : (i j : ℕ) → i < g.nx → (InCrescent g prev c r i j → ⊥) → get_or (over_crescent wipe_cell g prev c r m) (j * g.nx + i) 0 ≡ get_or m (j * g.nx + i) 0
      unfolding crescent_row
      crescent_keeps i j h f =
          clears_crescent g prev c r m (j * g.nx + i)
          ∙ ap (λ (b : Bool). pick off b (get_or m (j * g.nx + i) 0))
          (rows_lack g (crescent_row g prev c r) (rows_of g c r).0 (rows_of g c r).1 (λ j. crescent_in g prev c r j sides) i j h
          (λ a b n. let w = less-has i (disk_row g c r j) (disk_row g prev r j) n in f (record { here = record { first = a; last = b; column = w.0 }; there = w.1 })))

      pub crescent-beyond : (k : ℕ) → g.ny * g.nx ≤ k → get_or (over_crescent wipe_cell g prev c r m) k 0 ≡ get_or m k 0
      crescent-beyond k l =
          clears_crescent g prev c r m k
          ∙ ap (λ (b : Bool). pick off b (get_or m k 0))
          (rows-beyond g (crescent_row g prev c r) (rows_of g c r).0 (rows_of g c r).1 (λ j. crescent_in g prev c r j sides) (rows-below g c r sides.high) k l)
