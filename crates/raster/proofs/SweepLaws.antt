-- Turns over the cells of a span, a disk and a crescent: what each turn keeps, they keep, and what each shows of the state, they show. Assumes nothing.
use Rattle.std.specs.Prelude.{None, Some}
use mathlib.Core.Path.{◌≡◌, refl, sym, ap, ◌∙◌, subst}
use Prim.Native.Nat.{ℕ, zero, suc, ◌+◌, ◌-◌, ◌*◌, ◌≤◌, ◌<◌}
use native.Mathlib.Numerals.{add-one}
use native.Mathlib.Omega.{arith}
use lib.Ieee.{Float, binary64, mul}
use Rattle.loops.specs.Loop.{turns, loop}
use borrow.Author.Tests.{le-leb, lt-leb, leb-true}
use Rattle.std.proofs.lemmas.Bool.{leb-false}
use lib.Dec.{leb}
use Rattle.loops.proofs.Cases.{by_test}
use Rattle.loops.proofs.LoopLaws.{loop_more, loop_keeps}
use Rattle.geom.specs.declared.vec2.Vec2.{Vec2}
use Rattle.raster.specs.Disk.{Span, chord_of, disk_row, less, crescent_row, rows_of}
use Rattle.raster.specs.Sweep.{over_span, disk_at, over_disk, crescent_at, over_crescent, Inside, cells_of}
use Rattle.raster.specs.declared.grid.Grid.{Grid}
use Rattle.raster.specs.declared.disk.Crescent.{Crescent}
use Rattle.raster.specs.declared.disk.Rows.{Rows}

-- one more turn of a loop from 0
pub loop_suc : {S : Type 0} (f : ℕ → S → S) (e : ℕ) (s : S) → f e (loop f 0 e s) ≡ loop f 0 (suc e) s
loop_suc f e s = loop_more f 0 e s (omega arith) ∙ ap (λ (i : ℕ). loop f 0 i s) (add-one e)

-- ---- what each turn keeps

module _ {S : Type 0} (f : ℕ → S → S) (P : S → Type 0) (each : (k : ℕ) (t : S) → P t → P (f k t)) where
  pub keep_run : (a e : ℕ) (t : S) → P t → P (loop f a e t)
  keep_run a e t h = loop_keeps f a P e (λ i u b c. each i u) t h

  pub keep_span : (base : ℕ) (p : Span) (t : S) → P t → P (over_span f base p t)
  unfolding over_span
  keep_span base None t h = h
  keep_span base (Some (a, b)) t h = keep_run (base + a) (base + b + 1) t h

  pub keep-disk-at : (g : Grid) (c : Vec2) (r : Float) (j : ℕ) (t : S) → P t → P (disk_at f g c r j t)
  unfolding disk_at
  keep-disk-at g c r j t h = keep_span (j * g.nx) (disk_row g c r j) t h

  pub keep-disk-rows : (g : Grid) (c : Vec2) (r : Float) (a e : ℕ) (t : S) → P t → P (loop (disk_at f g c r) a e t)
  keep-disk-rows g c r a e t h = loop_keeps (disk_at f g c r) a P e (λ i u b d. keep-disk-at g c r i u) t h

  pub keep-disk : (g : Grid) (c : Vec2) (r : Float) (t : S) → P t → P (over_disk f g c r t)
  unfolding over_disk
  keep-disk g c r t h = keep-disk-rows g c r (rows_of g c r).0 ((rows_of g c r).1 + 1) t h

  pub keep-crescent-at : (g : Grid) (prev c : Vec2) (r : Float) (j : ℕ) (t : S) → P t → P (crescent_at f g prev c r j t)
  unfolding crescent_at
  keep-crescent-at g prev c r j t h =
      keep_span (j * g.nx) (crescent_row g prev c r j).right _ (keep_span (j * g.nx) (crescent_row g prev c r j).left t h)

  pub keep-crescent-rows : (g : Grid) (prev c : Vec2) (r : Float) (a e : ℕ) (t : S) → P t → P (loop (crescent_at f g prev c r) a e t)
  keep-crescent-rows g prev c r a e t h = loop_keeps (crescent_at f g prev c r) a P e (λ i u b d. keep-crescent-at g prev c r i u) t h

  pub keep-crescent : (g : Grid) (prev c : Vec2) (r : Float) (t : S) → P t → P (over_crescent f g prev c r t)
  unfolding over_crescent
  keep-crescent g prev c r t h = keep-crescent-rows g prev c r (rows_of g c r).0 ((rows_of g c r).1 + 1) t h

-- ---- what each turn shows of the state

module _ {S T : Type 0} (h : S → T) (f : ℕ → S → S) (f' : ℕ → T → T) (each : (i : ℕ) (s : S) → h (f i s) ≡ f' i (h s)) where
  turns_image : (a n : ℕ) (s : S) → h (turns f a n s) ≡ turns f' a n (h s)
  unfolding turns
  turns_image a zero s = refl
  turns_image a (suc n) s = each (a + n) (turns f a n s) ∙ ap (f' (a + n)) (turns_image a n s)

  pub loop_image : (a e : ℕ) (s : S) → h (loop f a e s) ≡ loop f' a e (h s)
  unfolding loop
  loop_image a e s = turns_image a (e - a) s

module _ {S T : Type 0} (h : S → T) (f : ℕ → S → S) (f' : ℕ → T → T) (each : (i : ℕ) (s : S) → h (f i s) ≡ f' i (h s)) where
  pub span_image : (base : ℕ) (p : Span) (s : S) → h (over_span f base p s) ≡ over_span f' base p (h s)
  unfolding over_span
  span_image base None s = refl
  span_image base (Some (a, b)) s = loop_image h f f' each (base + a) (base + b + 1) s

  disk-at_image : (g : Grid) (c : Vec2) (r : Float) (j : ℕ) (s : S) → h (disk_at f g c r j s) ≡ disk_at f' g c r j (h s)
  unfolding disk_at
  disk-at_image g c r j s = span_image (j * g.nx) (disk_row g c r j) s

  pub disk_image : (g : Grid) (c : Vec2) (r : Float) (s : S) → h (over_disk f g c r s) ≡ over_disk f' g c r (h s)
  unfolding over_disk
  disk_image g c r s = loop_image h (disk_at f g c r) (disk_at f' g c r) (disk-at_image g c r) (rows_of g c r).0 ((rows_of g c r).1 + 1) s

  crescent-at_image : (g : Grid) (prev c : Vec2) (r : Float) (j : ℕ) (s : S) → h (crescent_at f g prev c r j s) ≡ crescent_at f' g prev c r j (h s)
  unfolding crescent_at
  crescent-at_image g prev c r j s =
      span_image (j * g.nx) (crescent_row g prev c r j).right (over_span f (j * g.nx) (crescent_row g prev c r j).left s)
      ∙ ap (over_span f' (j * g.nx) (crescent_row g prev c r j).right) (span_image (j * g.nx) (crescent_row g prev c r j).left s)

  pub crescent_image : (g : Grid) (prev c : Vec2) (r : Float) (s : S) → h (over_crescent f g prev c r s) ≡ over_crescent f' g prev c r (h s)
  unfolding over_crescent
  crescent_image g prev c r s =
      loop_image h (crescent_at f g prev c r) (crescent_at f' g prev c r) (crescent-at_image g prev c r) (rows_of g c r).0 ((rows_of g c r).1 + 1) s

-- ---- for the proofs of the code

pub inside_cols : (base n : ℕ) (p : Span) (a b : ℕ) → p ≡ Some (a, b) → Inside base n p → (base + a < n) × (base + b < n)
inside_cols base n p a b e h = subst (Inside base n) e h

pub inside_mono : (base n n' : ℕ) (p : Span) → n ≤ n' → Inside base n p → Inside base n' p
inside_mono base n n' None k h = tt
inside_mono base n n' (Some (a, b)) k h = (omega (arith, h.0), omega (arith, h.1))

-- some of n cells, in their order
abbrev Lie : ℕ → ℕ × ℕ → Type 0
Lie n s = (s.0 ≤ s.1) × (s.1 ≤ n)

lie : (base n : ℕ) (p : Span) → Inside base n p → Lie n (cells_of base p)
unfolding cells_of
lie base n None h = (omega arith, omega arith)
lie base n (Some (a, b)) h = by_test (Lie n) (leb a b) (base + a, base + b + 1) (0, 0) (λ t. (omega (arith, leb-true a b t), omega (arith, h.1))) (λ t. (omega arith, omega arith))

pub cells-lie : (base n : ℕ) (p : Span) (s : ℕ × ℕ) → s ≡ cells_of base p → Inside base n p → (s.0 ≤ s.1) × (s.1 ≤ n)
cells-lie base n p s e h = subst (Lie n) (sym e) (lie base n p h)

pub cells-none : (base : ℕ) (p : Span) → p ≡ None → (0, 0) ≡ cells_of base p
unfolding cells_of
cells-none base p e = rw e

module _ (base : ℕ) (p : Span) (a b : ℕ) (e : p ≡ Some (a, b)) where
  pub cells-some : a ≤ b → (base + a, base + b + 1) ≡ cells_of base p
  unfolding cells_of
  cells-some h = rw (e, le-leb a b h)

  pub cells-crossed : b < a → (0, 0) ≡ cells_of base p
  unfolding cells_of
  cells-crossed h = rw (e, lt-leb a b h)

module _ {S : Type 0} (f : ℕ → S → S) where
  -- the turns over a span are those over its cells
  pub span-cells : (base : ℕ) (p : Span) (s : ℕ × ℕ) (t u : S) → s ≡ cells_of base p → u ≡ loop f s.0 s.1 t → u ≡ over_span f base p t
  unfolding over_span cells_of loop turns
  span-cells base p s t u e h = h ∙ ap (λ (q : ℕ × ℕ). loop f q.0 q.1 t) e ∙ go p
    where
      go : (p : Span) → loop f (cells_of base p).0 (cells_of base p).1 t ≡ over_span f base p t
      go None = refl
      go (Some (a, b)) =
          by_test (λ (q : ℕ × ℕ). loop f q.0 q.1 t ≡ loop f (base + a) (base + b + 1) t) (leb a b) (base + a, base + b + 1) (0, 0) (λ x. refl)
          (λ x. ap (λ (k : ℕ). turns f (base + a) k t) (let y = leb-false a b x in let z : 0 ≡ base + b + 1 - (base + a) = omega arith in z))

  pub span_none : (base : ℕ) (p : Span) (s : S) → p ≡ None → s ≡ over_span f base p s
  unfolding over_span
  span_none base p s e = rw e

  pub span_cols : (base : ℕ) (p : Span) (a b : ℕ) (s t : S) → p ≡ Some (a, b) → t ≡ loop f (base + a) (base + b + 1) s → t ≡ over_span f base p s
  unfolding over_span
  span_cols base p a b s t e h = rw e h

  -- A row by the radius squared and by the number of its first cell, which the code carries from row to row, is the row of the definitions, which work out
  -- both anew.
  pub disk-row-is : (g : Grid) (c : Vec2) (r : Float) (j base : ℕ) (p : Span) (s t : S) → base ≡ j * g.nx → p ≡ chord_of g c (mul binary64 r r) j
      → t ≡ over_span f base p s → t ≡ disk_at f g c r j s
  unfolding disk_at disk_row
  disk-row-is g c r j base p s t b e h = rw (← b, ← e) h

  pub disk-is : (g : Grid) (c : Vec2) (r : Float) (rows : Rows) (s t : S) → rows ≡ rows_of g c r → t ≡ loop (disk_at f g c r) rows.0 (rows.1 + 1) s → t ≡ over_disk f g c r s
  unfolding over_disk
  disk-is g c r rows s t e h = rw (← e) h

  pub crescent-row-is : (g : Grid) (prev c : Vec2) (r : Float) (j base : ℕ) (p : Crescent) (s t u : S) → base ≡ j * g.nx
      → p ≡ less (chord_of g c (mul binary64 r r) j) (chord_of g prev (mul binary64 r r) j) → t ≡ over_span f base p.left s → u ≡ over_span f base p.right t
      → u ≡ crescent_at f g prev c r j s
  unfolding crescent_at crescent_row disk_row
  crescent-row-is g prev c r j base p s t u d e a b = rw (← d, ← e, ← a) b

  pub crescent-is : (g : Grid) (prev c : Vec2) (r : Float) (rows : Rows) (s t : S) → rows ≡ rows_of g c r
      → t ≡ loop (crescent_at f g prev c r) rows.0 (rows.1 + 1) s → t ≡ over_crescent f g prev c r s
  unfolding over_crescent
  crescent-is g prev c r rows s t e h = rw (← e) h
