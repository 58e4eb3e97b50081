-- A row of a crescent that has no stock changes nothing; the columns to look at are those that the disk may have and the disk before may lack. Assumes nothing.
use Rattle.std.specs.Prelude.{None, Some, Option}
use mathlib.Core.Path.{◌≡◌, refl, sym, ap, ◌∙◌, subst}
use mathlib.Core.Bool.{true, false, not, ◌&&◌, ◌||◌}
use mathlib.Core.List.{List}
use Prim.Native.Nat.{ℕ, ◌+◌, ◌-◌, ◌*◌, ◌/◌, ◌%◌, ◌≤◌, ◌<◌, min, max}
use native.Mathlib.Omega.{arith}
use borrow.Author.Tests.{ltb-true, ltb-false, leb-true, leb-false, le-leb}
use lib.ListN.{length, get_or}
use lib.Dec.{T, ltb, leb}
use lib.Ieee.{Float, nan, is_nan}
use Rattle.loops.specs.Loop.{any}
use Rattle.loops.proofs.Cases.{by_cases, by_test, both, neither, never}
use Rattle.loops.proofs.LoopLaws.{loop_keeps, any-each}
use Rattle.geom.specs.declared.vec2.Vec2.{Vec2}
use Rattle.raster.specs.Grid.{Sides}
use Rattle.raster.specs.Disk.{Span, disk_row, crescent_row, left_of, right_of, less, two}
use Rattle.raster.specs.Sweep.{over_span, crescent_at}
use Rattle.raster.specs.Log.{Stock, st, clear_cell, clear_after}
use Rattle.raster.specs.declared.grid.Grid.{Grid}
use Rattle.raster.specs.declared.disk.Crescent.{Crescent}
use Rattle.raster.proofs.RowLaws.{InRow, disk_in}
use Rattle.spans.specs.Spans.{word, Placed, LiesIn, Covers, Spanning}
use Rattle.spans.specs.Ends.{is_stock, LiesAt, CoversAt, Bare, Idle, PlacedAt}
use Rattle.spans.specs.declared.runs.Limits.{Limits}
use Rattle.spans.specs.declared.crescent.Spot.{Spot}

-- ---- spans without stock

abbrev In : ℕ → Span → Type 0
In k None = ⊥
In k (Some (a, b)) = (a ≤ k) × (k ≤ b)

-- no cell of a span of the row from base on is stock
abbrev Quiet : List ℕ → ℕ → Span → Type 0
Quiet m base None = Unit
Quiet m base (Some (a, b)) = (k : ℕ) → a ≤ k → k ≤ b → is_stock m (base + k) ≡ false

cell-idle : (k : ℕ) (m log : List ℕ) (n : ℕ) → is_stock m k ≡ false → clear_cell k (st m log n) ≡ st m log n
unfolding clear_cell
cell-idle k m log n h = rw h

span_idle : (m log : List ℕ) (n base : ℕ) (p : Span) → Quiet m base p → over_span clear_cell base p (st m log n) ≡ st m log n
unfolding over_span
span_idle m log n base None h = refl
span_idle m log n base (Some (a, b)) h =
    loop_keeps clear_cell (base + a) (λ (s : Stock). s ≡ st m log n) (base + b + 1)
    (λ i s l u e.
    ap (clear_cell i) e ∙ cell-idle i m log n (subst (λ (k : ℕ). is_stock m k ≡ false) (let z : base + (i - base) ≡ i = omega arith in z) (h (i - base) (omega arith) (omega arith))))
    (st m log n) refl

abbrev BothQuiet : List ℕ → ℕ → Crescent → Type 0
BothQuiet m base c = Quiet m base c.left × Quiet m base c.right

-- of two spans: where no column of the first that is none of the second is stock
quiet_less : (m : List ℕ) (base : ℕ) (s q : Span) → ((k : ℕ) → In k s → (In k q → ⊥) → is_stock m (base + k) ≡ false) → BothQuiet m base (less s q)
unfolding less left_of right_of
quiet_less m base None q h = (tt, tt)
quiet_less m base (Some (i0, i1)) None h = (λ k a b. h k (a, b) (λ z. z), tt)
quiet_less m base (Some (i0, i1)) (Some (p0, p1)) h =
    by_test (BothQuiet m base) (leb p0 i1 && leb i0 p1) (two (left_of i0 p0) (right_of p1 i1)) (two (Some (i0, i1)) None)
    (λ t.
    let u : p0 ≤ i1 = leb-true p0 i1 (both (leb p0 i1) (leb i0 p1) t).0 in
    let v : i0 ≤ p1 = leb-true i0 p1 (both (leb p0 i1) (leb i0 p1) t).1 in (
      by_test (Quiet m base) (ltb i0 p0) (Some (i0, p0 - 1)) None (λ w k a b. let z = ltb-true i0 p0 w in h k (a, omega arith) (λ d. let e = d.0 in let y : ⊥ = omega arith in y)) (λ w. tt),
      by_test (Quiet m base) (ltb p1 i1) (Some (p1 + 1, i1)) None (λ w k a b. h k (omega arith, b) (λ d. let e = d.1 in let y : ⊥ = omega arith in y)) (λ w. tt),
    ))
    (λ t. (λ k a b. h k (a, b) (λ d. let u = d.0 in let v = d.1 in apart t (omega arith) (omega arith)), tt))
  where
    apart : leb p0 i1 && leb i0 p1 ≡ false → p0 ≤ i1 → i0 ≤ p1 → ⊥
    apart t u v = never (sym t ∙ meet)
      where
        meet : leb p0 i1 && leb i0 p1 ≡ true
        meet = rw (le-leb p0 i1 u, le-leb i0 p1 v)

-- ---- the columns that are looked at

lies_in : (o : Limits) (s : Span) (k : ℕ) → LiesAt o s → In k s → (o.first ≤ k) × (k ≤ o.last)
lies_in o None k h i = absurd i
lies_in o (Some (a, b)) k h i = let u = h.0 in let v = h.1 in let a = i.0 in let b = i.1 in (omega arith, omega arith)

covers_in : (n : Limits) (q : Span) (k : ℕ) → CoversAt n q → n.first ≤ k → k ≤ n.last → In k q
covers_in n None k h a b = let z : ⊥ = omega (arith, h) in z
covers_in n (Some (p0, p1)) k h a b = let u = h (omega arith) in let v = u.0 in let w = u.1 in (omega arith, omega arith)

row_in : (nx : ℕ) (s : Span) (k : ℕ) → InRow nx s → In k s → k < nx
row_in nx None k h i = absurd i
row_in nx (Some (a, b)) k h i = let u = h.1 in let v = i.1 in omega arith

pub idle-is : (g : Grid) (prev c : Vec2) (r : Float) (y base : ℕ) (m : List ℕ) (o n : Limits) → Sides g → base ≡ y * g.nx → LiesAt o (disk_row g c r y) → CoversAt n (disk_row g prev r y)
    → Bare m base g.nx o n → Idle g prev c r y m
unfolding crescent_at crescent_row
idle-is g prev c r y base m o n sides e lies covers bare =
    let s = disk_row g c r y in
    let q = disk_row g prev r y in
    let quiet : BothQuiet m (y * g.nx) (less s q) =
    quiet_less m (y * g.nx) s q
    (λ k i u.
    let w = lies_in o s k lies i in
    subst (λ (b : ℕ). is_stock m (b + k) ≡ false) e (bare.at k w.0 w.1 (row_in g.nx s k (disk_in g c r y sides) i) (λ a b. u (covers_in n q k covers a b)))) in
    record {
      at = λ log n. ap (over_span clear_cell (y * g.nx) (less s q).right) (span_idle m log n (y * g.nx) (less s q).left quiet.0) ∙ span_idle m log n (y * g.nx) (less s q).right quiet.1;
    }

pub bare-is : (m : List ℕ) (base nx : ℕ) (o n : Limits) (e a k b f : ℕ) → e ≡ min (o.last + 1) nx → a ≡ min o.first e → k ≡ min n.first e → f ≡ min (n.last + 1) e → b ≡ max a f
    → any (is_stock m) (base + a) (base + k) ≡ false → any (is_stock m) (base + b) (base + e) ≡ false → Bare m base nx o n
bare-is m base nx o n e a k b f p₁ p₂ p₃ p₄ p₅ h l = record {
  at = λ i u v w x.
      by_cases (ltb i n.first)
      (λ t. let z = ltb-true i n.first t in any-each (is_stock m) (base + a) (base + k) h (base + i) (omega arith) (omega arith))
      (λ t.
      let z = ltb-false i n.first t in
      let y : n.last < i = by_cases (leb i n.last) (λ d. absurd (x z (leb-true i n.last d))) (λ d. leb-false i n.last d) in
      any-each (is_stock m) (base + b) (base + e) l (base + i) (omega arith) (omega arith));
}

-- ---- for the lookups

outer_told : (s i w : ℕ) (l : Limits) → l.first + s ≡ i + w / 65536 → l.last + s ≡ i + w % 65536 → (p : Span) → LiesIn s i (w / 65536) (w % 65536) p → LiesAt l p
outer_told s i w l a b None h = tt
outer_told s i w l a b (Some (k, m)) h = let u = h.0 in let v = h.1 in (omega arith, omega arith)

inner-told : (s i w : ℕ) (l : Limits) → l.first + s ≡ i + w / 65536 → l.last + s ≡ i + w % 65536 → (p : Span) → Covers s i (w / 65536) (w % 65536) p → CoversAt l p
inner-told s i w l a b None h = omega (arith, h)
inner-told s i w l a b (Some (k, m)) h = λ z. let u = h (omega arith) in let v = u.0 in let w = u.1 in (omega arith, omega arith)

module _ (g : Grid) (r : Float) (t : List Float) (s : ℕ) (table : Spanning g r t) (first : word t 0 ≡ s + 1) where
  pub outer-read : (k : ℕ) → k ≤ 2 * s → (2 * k + 1 < length t) × T (not (is_nan (get_or t (2 * k + 1) nan)))
  outer-read k h = let l = table.long s first in (omega arith, (table.row s k first h).outer-number)

  pub inner-read : (k : ℕ) → k ≤ 2 * s → (2 * k + 2 < length t) × T (not (is_nan (get_or t (2 * k + 2) nan)))
  inner-read k h = let l = table.long s first in (omega arith, (table.row s k first h).inner-number)

  module _ (p : Vec2) (i j y : ℕ) (placed : Placed g s p i j) (low : j ≤ y + s) (high : y + s - j ≤ 2 * s) (w : ℕ) (l : Limits) (a : l.first + s ≡ i + w / 65536) (b : l.last + s ≡ i + w % 65536) where
    pub outer-is : w ≡ word t (2 * (y + s - j) + 1) → LiesAt l (disk_row g p r y)
    outer-is e =
        outer_told s i w l a b (disk_row g p r y)
        (subst (λ (v : ℕ). LiesIn s i (v / 65536) (v % 65536) (disk_row g p r y)) (sym e) ((table.row s (y + s - j) first high).told.outer p i j y placed (omega arith)))

    pub inner-is : w ≡ word t (2 * (y + s - j) + 2) → CoversAt l (disk_row g p r y)
    inner-is e =
        inner-told s i w l a b (disk_row g p r y)
        (subst (λ (v : ℕ). Covers s i (v / 65536) (v % 65536) (disk_row g p r y)) (sym e) ((table.row s (y + s - j) first high).told.inner p i j y placed (omega arith)))

pub in_reach : (k j s : ℕ) → ltb k j || ltb (j + 2 * s) k ≡ false → (j ≤ k) × (k - j ≤ 2 * s)
in_reach k j s h =
    let p = neither (ltb k j) (ltb (j + 2 * s) k) h in
    let a = ltb-false k j p.0 in
    let b = ltb-false (j + 2 * s) k p.1 in
    (a, omega arith)

-- all columns, and none
all_in : (nx : ℕ) (p : Span) → InRow nx p → LiesAt (record { first = 0; last = nx }) p
all_in nx None h = tt
all_in nx (Some (k, m)) h = let u = h.1 in (omega arith, omega arith)

none_of : (p : Span) → CoversAt (record { first = 1; last = 0 }) p
none_of None = omega arith
none_of (Some (k, m)) = λ z. let y : ⊥ = omega arith in absurd y

pub outer-all : (g : Grid) (p : Vec2) (r : Float) (y : ℕ) → Sides g → LiesAt (record { first = 0; last = g.nx }) (disk_row g p r y)
outer-all g p r y s = all_in g.nx (disk_row g p r y) (disk_in g p r y s)

pub inner-none : (g : Grid) (p : Vec2) (r : Float) (y : ℕ) → CoversAt (record { first = 1; last = 0 }) (disk_row g p r y)
inner-none g p r y = none_of (disk_row g p r y)

-- ---- the two points with their cells

pub placed_on : (g : Grid) (s : ℕ) (p : Vec2) (f : Option Spot) (o : Spot) → PlacedAt g s p f → f ≡ Some o → (o.p ≡ p) × Placed g s o.p o.i o.j
placed_on g s p f o h e = subst (PlacedAt g s p) e h

pub after_is : (g : Grid) (a b prev c : Vec2) (r : Float) (s t : Stock) → a ≡ prev → b ≡ c → t ≡ clear_after g a b r s → t ≡ clear_after g prev c r s
after_is g a b prev c r s t d e h = rw (← d, ← e) h
