-- The row pass around the envelope: keys, heights, a row's cells; and the law that composes the two passes. Assumes nothing.
use mathlib.Core.Path.{◌≡◌, refl, sym, ap, ◌∙◌, subst}
use mathlib.Core.Logic.{⊎_elim}
use mathlib.Core.List.{List}
use Prim.Native.Nat.{ℕ, suc, ◌+◌, ◌*◌, ◌≤◌, ◌<◌}
use native.Mathlib.Nat.{suc-mul}
use native.Mathlib.Omega.{arith}
use lib.ListN.{get_or}
use borrow.Author.Tests.{lt-ltb, le-ltb}
use Rattle.distance.specs.Least.{Least, some, none, far, gap, square, Cell, at, apart, Mark, Transformed}
use Rattle.distance.specs.Wrote.{Wrote}
use Rattle.distance.specs.Column.{lost, InColumn, Columns, Down, Up}
use Rattle.distance.specs.Envelope.{key_of, row_keys, KeysOf, Real, Lowest, Keyed, height_of, height, column, key_at, begins, Stack, Entry, Sound, Rest, Row, Filled, RowOf, RowsOf}
use Rattle.distance.proofs.NumberLaws.{lt_or_le, product, gap-square, square_le, row_in}

-- ---- keys

pub key-lost : (p d : ℕ) → lost ≤ d → key_of p d ≡ far
key-lost p d e = rw (le-ltb d lost e)

pub key-near : (p d : ℕ) → d < lost → key_of p d ≡ d * d + p * p
key-near p d e = rw (lt-ltb d lost e)

pub row-keys : (s : List ℕ) (base nx : ℕ) → KeysOf s base nx (row_keys s base)
row-keys s base nx = record { key = λ p a. refl }

module _ (s : List ℕ) (base nx : ℕ) (h : ℕ → ℕ) (wide : nx ≤ 4096) (k : KeysOf s base nx h) where
  -- a parabola's column has a mark
  near-real : (p : ℕ) → Real h nx p → (get_or s (base + p) 0 < lost) × (h p ≡ get_or s (base + p) 0 * get_or s (base + p) 0 + p * p)
  near-real p r = ⊎_elim
      (λ a. (a, k.key p r.one ∙ key-near p _ a))
      (λ a. absurd (let z = k.key p r.one ∙ key-lost p _ a in let y = r.key in let x : ⊥ = omega arith in x))
      (lt_or_le (get_or s (base + p) 0) lost)

  pub keyed : Keyed h nx
  keyed = record {
    wide = wide;
    small = λ p r. let n = near-real p r in let b : p < 4096 = omega (arith, r.one) in omega (arith, n.1, product n.0 n.0, product b b);
    root = λ p r. omega (arith, (near-real p r).1);
  }

-- ---- heights

product_root : (h : ℕ → ℕ) (nx x p : ℕ) → Keyed h nx → Real h nx p → 2 * (x * p) ≤ h p + x * x
product_root h nx x p k r = omega (arith, gap-square x p, k.root p r)

lowest_height : (h : ℕ → ℕ) (nx x p : ℕ) → Keyed h nx → Lowest h nx x p → Least far (Real h nx) (height h x) (height h x p)
lowest_height h nx x p k l =
    some p l.real refl (λ y r. omega (arith, l.least y r, product_root h nx x p k l.real, product_root h nx x y k r))

-- ---- the cells of a row, from the last region to the first

-- where region k begins, and the row's end after the last
pub record Edge (w : List ℕ) (s nx n k e : ℕ) : Type 0 where
  pub inside : k < n → e ≡ begins w s k
  pub outside : n ≤ k → e ≡ nx

pub edge_same : {w : List ℕ} {s nx n k l e : ℕ} → k ≡ l → Edge w s nx n k e → Edge w s nx n l e
edge_same {w} {s} {nx} {n} {k} {l} {e} z g = subst (λ (i : ℕ). Edge w s nx n i e) z g

pub filled_none : (s nx n base : ℕ) (w : List ℕ) → Filled s nx n base nx w w
filled_none s nx n base w h k v = record { cell = λ x a b. absurd (let z : ⊥ = omega arith in z); left = λ c a. refl; right = λ c a. refl }

-- the stack's numbers, once more cells of the row are written
pub entry-same : (w t : List ℕ) (s nx q k : ℕ) → column t s k ≡ column w s k → key_at t s k ≡ key_at w s k → begins t s k ≡ begins w s k → Entry w s nx q k → Entry t s nx q k
entry-same w t s nx q k a b c e = record {
  before = omega (arith, e.before);
  small = omega (arith, e.small);
  root = let z : column t s k * column t s k ≡ column w s k * column w s k = ap (λ (n : ℕ). n * n) a in omega (arith, e.root);
  inside = omega (arith, e.inside);
}

pub edge_le : (w : List ℕ) (s nx n k e : ℕ) → Sound w s nx nx n → Edge w s nx n k e → e ≤ nx
edge_le w s nx n k e d g = ⊎_elim (λ c. omega (arith, g.inside c, (d.entry k c).inside)) (λ c. omega (arith, g.outside c)) (lt_or_le k n)

-- region k is written
pub filled_more : (s nx n base k e : ℕ) (w t u : List ℕ) → Filled s nx n base e w t → k < n → Edge w s nx n (k + 1) e
    → (p key a : ℕ) → p ≡ column w s k → key ≡ key_at w s k → a ≡ begins w s k → Wrote (height_of p key) base a e t u → Filled s nx n base a w u
filled_more s nx n base k e w t u f in_stack edge p key a ep ek ea wr h d v = record {
  cell = λ x b c. ⊎_elim
      (λ g. subst (Least far (Real h nx) (height h x)) (sym (wr.cell x b g)) (lowest x (omega arith) g c))
      (λ g. subst (Least far (Real h nx) (height h x)) (sym (wr.right (base + x) (omega arith) (omega arith))) (r.cell x g c))
      (lt_or_le x e);
  left = λ c b. wr.left c (omega arith) ∙ r.left c b;
  right = λ c b. wr.right c (omega (arith, ends)) (omega (arith, v.env.inside k in_stack)) ∙ r.right c b;
}
  where
    r : Row h nx base e w t
    r = f h d v

    ends : e ≤ nx
    ends = ⊎_elim (λ c. omega (arith, edge.inside c, v.env.inside (k + 1) c)) (λ c. omega (arith, edge.outside c)) (lt_or_le (k + 1) n)

    tall : (x : ℕ) → height h x (column w s k) ≡ height_of p key x
    tall x = ap (λ (y : ℕ). height_of (column w s k) y x) (sym (v.keys k in_stack) ∙ sym ek) ∙ ap (λ (y : ℕ). height_of y key x) (sym ep)

    lowest : (x : ℕ) → begins w s k ≤ x → x < e → x < nx → Least far (Real h nx) (height h x) (height_of p key x)
    lowest x b c g =
        subst (Least far (Real h nx) (height h x)) (tall x)
        (lowest_height h nx x (column w s k) d (v.env.low k x (record { one = in_stack; begin = b; end = λ i. omega (arith, edge.inside i) }) g))

-- the first region begins at 0
pub filled-all : (s nx n base e : ℕ) (w t : List ℕ) → 0 < n → Edge w s nx n 0 e → Filled s nx n base e w t → Filled s nx n base 0 w t
filled-all s nx n base e w t some_left edge f h d v = subst (λ (i : ℕ). Row h nx base i w t) (edge.inside some_left ∙ v.env.first some_left) (f h d v)

-- ---- a row

module _ (nx base s : ℕ) (w t u : List ℕ) (wide : nx ≤ 4096) (before : base + nx ≤ s) (r : Rest s nx w t) where
  pub row-filled : (n : ℕ) → Stack (row_keys w base) t s nx nx n → Filled s nx n base 0 t u → RowOf nx base s w u
  row-filled n v f =
      let d = f (row_keys w base) (keyed w base nx (row_keys w base) wide (row-keys w base nx)) v in
      record {
        cell = λ x a. d.cell x (omega arith) a;
        left = λ c a. d.left c a ∙ r.left c (omega arith);
        mid = λ c a b. d.right c a ∙ r.left c b;
        right = λ c a. d.right c (omega arith) ∙ r.right c a;
      }

  -- no column has a mark
  pub row-blank : (n : ℕ) → n ≡ 0 → Stack (row_keys w base) t s nx nx n → Wrote (λ _. far) base 0 nx t u → RowOf nx base s w u
  row-blank n z v f = record {
    cell = λ x a. none (v.env.empty z) (f.cell x (omega arith) a);
    left = λ c a. f.left c (omega arith) ∙ r.left c (omega arith);
    mid = λ c a b. f.right c a (omega arith) ∙ r.left c b;
    right = λ c a. f.right c (omega arith) (omega arith) ∙ r.right c a;
  }

-- ---- the two passes together

module _ (mark : ℕ) (m : List ℕ) (nx ny i j : ℕ) (s : List ℕ) (h : ℕ → ℕ) (wide : nx ≤ 4096) (high : ny ≤ 4096) (cols : Columns mark m nx ny s) (row : j < ny) (k : KeysOf s (j * nx) nx h) where
  -- the height of a column's parabola
  tall : (p : ℕ) → Real h nx p → height h i p ≡ square (gap i p) + square (get_or s (j * nx + p) 0)
  tall p r = omega (arith, gap-square i p, (near-real s (j * nx) nx h wide k p r).1)

  -- a column with a mark has a parabola, no higher than the mark is far
  real : (c : Cell) → Mark mark m nx ny c → Real h nx c.i
  real c q = record { one = q.col; key = go (cols c.i j q.col row) }
    where
      go : Least lost (InColumn mark m nx ny c.i) (λ b. gap j b) (get_or s (j * nx + c.i) 0) → h c.i < far
      go (some b r e l) =
          let d : get_or s (j * nx + c.i) 0 < 4096 = omega (arith, r.row) in
          let p : c.i < 4096 = omega (arith, q.col) in
          omega (arith, k.key c.i q.col ∙ key-near c.i (get_or s (j * nx + c.i) 0) d, product d d, product p p)
      go (none f e) = absurd (f c.j (record { row = q.row; set = q.set }))

  below : (c : Cell) → Mark mark m nx ny c → get_or s (j * nx + c.i) 0 ≤ gap j c.j
  below c q = go (cols c.i j q.col row)
    where
      go : Least lost (InColumn mark m nx ny c.i) (λ b. gap j b) (get_or s (j * nx + c.i) 0) → get_or s (j * nx + c.i) 0 ≤ gap j c.j
      go (some b r e l) = l c.j (record { row = q.row; set = q.set })
      go (none f e) = absurd (f c.j (record { row = q.row; set = q.set }))

  -- the least over the row's columns of the least over a column's marks is the least over the marks
  compose : (d : ℕ) → Least far (Real h nx) (height h i) d → Least far (Mark mark m nx ny) (apart (at i j)) d
  compose d (none f e) = none (λ c q. f c.i (real c q)) e
  compose d (some p r e l) = go (cols p j r.one row)
    where
      least : (c : Cell) → Mark mark m nx ny c → d ≤ apart (at i j) c
      least c q = omega (arith, l c.i (real c q), tall c.i (real c q), square_le (below c q))

      go : Least lost (InColumn mark m nx ny p) (λ b. gap j b) (get_or s (j * nx + p) 0) → Least far (Mark mark m nx ny) (apart (at i j)) d
      go (some b q z y) = some (at p b) (record { col = r.one; row = q.row; set = q.set }) (e ∙ tall p r ∙ ap (λ (n : ℕ). square (gap i p) + square n) z) least
      go (none g z) = absurd (let y = (near-real s (j * nx) nx h wide k p r).0 in let x : ⊥ = omega arith in x)

-- ---- the rows of the map

pub rows_none : (nx ny s : ℕ) (w : List ℕ) → RowsOf nx ny s 0 w w
rows_none nx ny s w = record { cell = λ mark m cols i j a b. absurd (let z : ⊥ = omega arith in z); mid = λ c a b. refl; right = λ c a. refl }

pub rows_more : (nx ny s j : ℕ) (w t u : List ℕ) → RowsOf nx ny s j w t → j < ny → nx ≤ 4096 → ny ≤ 4096 → ny * nx ≤ s → RowOf nx (j * nx) s t u → RowsOf nx ny s (j + 1) w u
rows_more nx ny s j w t u r row wide high before d = record {
  cell = λ mark m cols i l a b. ⊎_elim
      (λ c. subst (Least far (Mark mark m nx ny) (apart (at i l))) (sym (d.left (l * nx + i) (row_in i l nx j a c))) (r.cell mark m cols i l a c))
      (λ c. let z : j ≡ l = omega arith in subst (λ (l : ℕ). Least far (Mark mark m nx ny) (apart (at i l)) (get_or u (l * nx + i) 0)) z
      (compose mark m nx ny i j w (row_keys t (j * nx)) wide high cols row keys _ (d.cell i a)))
      (lt_or_le l j);
  mid = λ c a b. let y = later c a in d.mid c y b ∙ r.mid c (omega arith) b;
  right = λ c a. d.right c a ∙ r.right c a;
}
  where
    -- row j is as it was
    keys : KeysOf w (j * nx) nx (row_keys t (j * nx))
    keys = record { key = λ p a. ap (key_of p) (r.mid (j * nx + p) (omega arith) (omega (arith, row_in p j nx ny a row))) }

    later : (c : ℕ) → (j + 1) * nx ≤ c → j * nx + nx ≤ c
    later c a = let z : j + 1 ≡ suc j = omega arith in let y : suc j * nx ≤ c = subst (λ (n : ℕ). n * nx ≤ c) z a in omega (arith, suc-mul j nx)

pub rows_same : {nx ny s n l : ℕ} {w t : List ℕ} → n ≡ l → RowsOf nx ny s n w t → RowsOf nx ny s l w t
rows_same {nx} {ny} {s} {n} {l} {w} {t} e d = subst (λ (i : ℕ). RowsOf nx ny s i w t) e d

-- ---- the whole transform

pub down_self : {mark : ℕ} {m : List ℕ} {nx k : ℕ} {s t : List ℕ} → Down mark m nx k s t → Down mark m nx k t t
down_self d = record { cell = d.cell; rest = λ c a. refl }

pub transformed : {mark : ℕ} {m : List ℕ} {nx ny : ℕ} {s t u v w x : List ℕ} → nx ≤ ny * nx → Down mark m nx nx s t → Down mark m nx (ny * nx) t u → Up mark m nx ny 0 u v
    → RowsOf nx ny (ny * nx) ny v w → Wrote (λ _. 0) (ny * nx) 0 (3 * nx) w x → Transformed mark m nx ny s x
transformed {mark} {m} {nx} {ny} {s} {t} {u} {v} {w} {x} one f d p r z = record {
  cell = λ i j a b. subst (Least far (Mark mark m nx ny) (apart (at i j))) (sym (z.left (j * nx + i) (let y = row_in i j nx ny a b in omega arith))) (r.cell mark m (λ i j a b. p.cell i j a b (omega arith)) i j a b);
  scratch = λ k a. z.cell k (omega arith) a;
  rest = λ c a. z.right c a (omega arith) ∙ r.right c a ∙ p.rest c (omega arith) ∙ d.rest c (omega arith) ∙ f.rest c (omega arith);
}
