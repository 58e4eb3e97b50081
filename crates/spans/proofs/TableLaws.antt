-- The words of a row from its heights and columns, and the table from its rows. Assumes nothing.
use mathlib.Core.Path.{◌≡◌, refl, sym, ap, ◌∙◌, subst}
use mathlib.Core.Bool.{true, not}
use mathlib.Core.List.{List}
use Prim.Native.Nat.{ℕ, ◌+◌, ◌-◌, ◌*◌, ◌/◌, ◌%◌, ◌^◌, ◌≤◌, ◌<◌}
use native.Mathlib.Omega.{arith}
use borrow.Author.Tests.{eqb-true, eqb-false}
use lib.ListN.{length, get_or, set, length-set}
use lib.Seq.{get_or-set_same, get_or-set_other}
use lib.Dec.{T, eqb}
use lib.Ieee.{Float, nan, binary64, of_bits, to_bits, mul, le, is_nan}
use Rattle.loops.proofs.Cases.{by_cases}
use Rattle.numbers.proofs.BoundLaws.{bits_number, bits_back}
use Rattle.geom.specs.declared.vec2.Vec2.{Vec2}
use Rattle.raster.specs.Grid.{Sides}
use Rattle.raster.specs.Disk.{row_y, chord_of, disk_row}
use Rattle.raster.specs.declared.grid.Grid.{Grid}
use Rattle.spans.specs.Spans.{word, Placed, LiesIn, Covers, Told, Entry, Spanning}
use Rattle.spans.specs.Ends.{Tame, height_of, HighTo, span_of, about_of, Outer, Inner, RowTold, Entries}
use Rattle.spans.specs.declared.columns.Bounds.{Bounds}
use Rattle.spans.specs.declared.heights.Heights.{Heights}
use Rattle.spans.specs.declared.table.Pair.{Pair}
use Rattle.spans.proofs.EdgeLaws.{column-between, row-between}

-- ---- a row

-- the row of a disk, by its height
row_is : (g : Grid) (c : Vec2) (r : Float) (y : ℕ) → about_of g c.x (height_of (mul binary64 r r) (row_y g y) c.y) ≡ disk_row g c r y
unfolding disk_row chord_of about_of span_of height_of
row_is g c r y = refl

first_of : (w f l : ℕ) → w ≡ f * 65536 + l → l < 65536 → w / 65536 ≡ f
first_of w f l e h = omega arith

last_of : (w f l : ℕ) → w ≡ f * 65536 + l → l < 65536 → w % 65536 ≡ l
last_of w f l e h = omega arith

module _ (g : Grid) (r : Float) (s q : ℕ) (sides : Sides g) (t : Tame g) (S : 0 < s) (h : Heights) (H : HighTo g (mul binary64 r r) s q (g.ny - s) h) where
  heights : (c : Vec2) (i j y : ℕ) → Placed g s c i j → y + s ≡ j + q
      → (le h.least (height_of (mul binary64 r r) (row_y g y) c.y) ≡ true) × (le (height_of (mul binary64 r r) (row_y g y) c.y) h.most ≡ true)
  heights c i j y p e =
      let b = row-between g sides t s S c i j p in
      let u = p.above in
      subst (λ (n : ℕ). (le h.least (height_of (mul binary64 r r) (row_y g n) c.y) ≡ true) × (le (height_of (mul binary64 r r) (row_y g n) c.y) h.most ≡ true))
      (let z : j + q - s ≡ y = omega arith in z) (H.at j c.y p.below (omega arith) b.0 b.1)

  module _ (b : Bounds) (B : b.last < 65536) (w : ℕ) (W : w ≡ b.first * 65536 + b.last) where
    outer-word : Outer g s h.most b → (c : Vec2) (i j y : ℕ) → Placed g s c i j → y + s ≡ j + q → LiesIn s i (w / 65536) (w % 65536) (disk_row g c r y)
    outer-word o c i j y p e =
        let k = column-between g sides t s S c i j p in
        rw (first_of w b.first b.last W B, last_of w b.first b.last W B)
        (subst (LiesIn s i b.first b.last) (row_is g c r y) (o.at t S i c.x (height_of (mul binary64 r r) (row_y g y) c.y) p.left p.right k.0 k.1 (heights c i j y p e).1))

    inner-word : Inner g s h.least b → (c : Vec2) (i j y : ℕ) → Placed g s c i j → y + s ≡ j + q → Covers s i (w / 65536) (w % 65536) (disk_row g c r y)
    inner-word o c i j y p e =
        let k = column-between g sides t s S c i j p in
        rw (first_of w b.first b.last W B, last_of w b.first b.last W B)
        (subst (Covers s i b.first b.last) (row_is g c r y) (o.at t S i c.x (height_of (mul binary64 r r) (row_y g y) c.y) p.left p.right k.0 k.1 (heights c i j y p e).0))

  pub row_told : (o n : Bounds) → Outer g s h.most o → Inner g s h.least n → (o.first < 65536) × (o.last < 65536) → (n.first < 65536) × (n.last < 65536)
      → (p : Pair) → p.outer ≡ o.first * 65536 + o.last → p.inner ≡ n.first * 65536 + n.last → RowTold g r s q p
  row_told o n O N x y p w v =
      let a = x.0 in
      let b = x.1 in
      let c = y.0 in
      let d = y.1 in
      record { outer = omega arith; inner = omega arith; told = record { outer = outer-word o x.1 p.outer w O; inner = inner-word n y.1 p.inner v N } }

-- ---- the rows of a table

pub words_long : (t : List Float) (i j : ℕ) (a b : Float) → length (set (set t i a) j b) ≡ length t
words_long t i j a b = length-set (set t i a) j b ∙ length-set t i a

module _ (g : Grid) (r : Float) (s : ℕ) where
  entry_of : (q : ℕ) (t : List Float) (a b : Float) → get_or t (2 * q + 1) nan ≡ a → get_or t (2 * q + 2) nan ≡ b → T (not (is_nan a)) → T (not (is_nan b)) → Told g r s q (to_bits binary64 a) (to_bits binary64 b) → Entry g r s q t
  entry_of q t a b d e x y k = record { outer-number = rw d x; inner-number = rw e y; told = rw (d, e) k }

  pub entries_none : (t : List Float) → Entries g r s 0 t
  entries_none t = record { at = λ q h. absurd (let z : ⊥ = omega arith in z) }

  pub entries_more : (q : ℕ) (t : List Float) (p : Pair) → 2 * q + 2 < length t → Entries g r s q t → RowTold g r s q p
      → Entries g r s (q + 1) (set (set t (2 * q + 1) (of_bits binary64 p.outer)) (2 * q + 2) (of_bits binary64 p.inner))
  entries_more q t p l h k = record {
    at = λ n u.
        by_cases (eqb n q)
        (λ e. subst (λ (m : ℕ). Entry g r s m after) (sym (eqb-true n q e)) new)
        (λ e.
        let d = eqb-false n q e in
        let o = h.at n (omega arith) in
        entry_of n after (get_or t (2 * n + 1) nan) (get_or t (2 * n + 2) nan) (same (2 * n + 1) (omega arith) (omega arith)) (same (2 * n + 2) (omega arith) (omega arith))
        o.outer-number o.inner-number o.told);
  }
    where
      w : Float
      w = of_bits binary64 p.outer

      v : Float
      v = of_bits binary64 p.inner

      after : List Float
      after = set (set t (2 * q + 1) w) (2 * q + 2) v

      same : (i : ℕ) → (2 * q + 1 ≡ i → ⊥) → (2 * q + 2 ≡ i → ⊥) → get_or after i nan ≡ get_or t i nan
      same i a b = get_or-set_other (set t (2 * q + 1) w) (2 * q + 2) i v nan (omega arith) ∙ get_or-set_other t (2 * q + 1) i w nan (omega arith)

      first : get_or after (2 * q + 1) nan ≡ w
      first = get_or-set_other (set t (2 * q + 1) w) (2 * q + 2) (2 * q + 1) v nan (omega arith) ∙ get_or-set_same t (2 * q + 1) w nan (omega arith)

      second : get_or after (2 * q + 2) nan ≡ v
      second = get_or-set_same (set t (2 * q + 1) w) (2 * q + 2) v nan (omega (arith, length-set t (2 * q + 1) w))

      new : Entry g r s q after
      new =
          let a = k.outer in
          let b = k.inner in
          entry_of q after w v first second (bits_number p.outer (omega arith)) (bits_number p.inner (omega arith))
          (rw (bits_back p.outer (omega arith), bits_back p.inner (omega arith)) k.told)

  pub entries-end : (n m : ℕ) (t : List Float) → n ≤ m → Entries g r s m t → Entries g r s n t
  entries-end n m t l h = record { at = λ q u. h.at q (omega arith) }

-- ---- the table

module _ (g : Grid) (r : Float) (t : List Float) (k : ℕ) (K : k < 2047 * 2 ^ 52) (L : 1 ≤ length t) where
  abbrev headed : List Float
  headed = set t 0 (of_bits binary64 k)

  head_is : get_or headed 0 nan ≡ of_bits binary64 k
  head_is = get_or-set_same t 0 (of_bits binary64 k) nan (omega arith)

  head_word : word headed 0 ≡ k
  head_word = ap (to_bits binary64) head_is ∙ bits_back k K

  head_number : T (not (is_nan (get_or headed 0 nan)))
  head_number = subst (λ (x : Float). T (not (is_nan x))) (sym head_is) (bits_number k K)

  behind : (s q : ℕ) → Entry g r s q t → Entry g r s q headed
  behind s q e =
      entry_of g r s q headed (get_or t (2 * q + 1) nan) (get_or t (2 * q + 2) nan) (get_or-set_other t 0 (2 * q + 1) (of_bits binary64 k) nan (omega arith))
      (get_or-set_other t 0 (2 * q + 2) (of_bits binary64 k) nan (omega arith)) e.outer-number e.inner-number e.told

  spanning : ((s : ℕ) → k ≡ s + 1 → (4 * s + 3 ≤ length t) × Entries g r s (2 * s + 1) t) → Spanning g r headed
  spanning h =
      let l = length-set t 0 (of_bits binary64 k) in
      record {
        some = omega arith;
        number = head_number;
        long = λ s e. let m = (h s (sym head_word ∙ e)).0 in omega arith;
        row = λ s q e u. behind s q ((h s (sym head_word ∙ e)).1.at q (omega arith));
      }

pub head_long : (t : List Float) (i : ℕ) (a : Float) (n : ℕ) → length t ≡ n → length (set t i a) ≡ n
head_long t i a n e = length-set t i a ∙ e

pub spanning_some : (g : Grid) (r : Float) (t : List Float) (s : ℕ) → s ≤ 65536 → 4 * s + 3 ≤ length t → Entries g r s (2 * s + 1) t → Spanning g r (set t 0 (of_bits binary64 (s + 1)))
spanning_some g r t s b l h =
    spanning g r t (s + 1) (omega arith) (omega arith)
    (λ n e. subst (λ (m : ℕ). (4 * m + 3 ≤ length t) × Entries g r m (2 * m + 1) t) (let z : s ≡ n = omega arith in z) (l, h))

pub spanning_none : (g : Grid) (r : Float) (t : List Float) → 1 ≤ length t → Spanning g r (set t 0 (of_bits binary64 0))
spanning_none g r t l = spanning g r t 0 (omega arith) l (λ n e. absurd (let z : ⊥ = omega arith in z))
