-- The two sweeps of a column: down, then up. Assumes nothing.
use mathlib.Core.Path.{◌≡◌, refl, sym, ap, ◌∙◌, subst}
use mathlib.Core.Logic.{⊎_elim}
use mathlib.Core.List.{List}
use Prim.Native.Nat.{ℕ, zero, suc, ◌+◌, ◌-◌, ◌*◌, ◌≤◌, ◌<◌}
use native.Mathlib.Nat.{suc-mul, mul-le-mul_right}
use native.Mathlib.Omega.{arith}
use lib.ListN.{length, get_or, set}
use lib.Seq.{get_or-set_other}
use lib.Dec.{eqb, ltb}
use borrow.Author.Tests.{ltb-true, ltb-false, eqb-true, eqb-false}
use Rattle.loops.proofs.Cases.{by_test}
use Rattle.distance.specs.Least.{Least, some, none, gap}
use Rattle.distance.specs.Column.{lost, from_above, from_below, Above, InColumn, Down, Raised}
use Rattle.distance.proofs.NumberLaws.{lt_or_le, at_set, row_in}

-- ---- down

-- the least over the marks of column i at or above row j
abbrev LeastAbove : ℕ → List ℕ → ℕ → ℕ → ℕ → ℕ → Type 0
LeastAbove mark m nx i j d = Least lost (Above mark m nx i j) (λ b. j - b) d

module _ (mark : ℕ) (m : List ℕ) (nx i : ℕ) where
  down-marked : (j : ℕ) → get_or m (j * nx + i) 0 ≡ mark → LeastAbove mark m nx i j 0
  down-marked j a = some j (record { row = omega arith; set = a }) (omega arith) (λ y p. omega arith)

  down-first : (get_or m (0 * nx + i) 0 ≡ mark → ⊥) → LeastAbove mark m nx i 0 lost
  down-first a = none (λ y p. let z : y ≡ 0 = omega (arith, p.row) in a (subst (λ (b : ℕ). get_or m (b * nx + i) 0 ≡ mark) z p.set)) refl

  module _ (j : ℕ) (a : get_or m (suc j * nx + i) 0 ≡ mark → ⊥) where
    lower : (b : ℕ) → Above mark m nx i (suc j) b → Above mark m nx i j b
    lower b p = ⊎_elim
        (λ c. record { row = omega arith; set = p.set })
        (λ c. let z : b ≡ suc j = omega (arith, p.row) in absurd (a (subst (λ (b : ℕ). get_or m (b * nx + i) 0 ≡ mark) z p.set)))
        (lt_or_le b (suc j))

    down-next : (d : ℕ) → d < lost → LeastAbove mark m nx i j d → LeastAbove mark m nx i (suc j) (d + 1)
    down-next d h (some x p e l) = some x (record { row = omega (arith, p.row); set = p.set }) (omega (arith, p.row)) (λ y q. omega (arith, l y (lower y q), (lower y q).row))
    down-next d h (none f e) = absurd (let z : ⊥ = omega arith in z)

    down-lost : (d : ℕ) → lost ≤ d → j < lost → LeastAbove mark m nx i j d → LeastAbove mark m nx i (suc j) lost
    down-lost d h k (some x p e l) = absurd (let z : ⊥ = omega arith in z)
    down-lost d h k (none f e) = none (λ y q. f y (lower y q)) refl

-- the row of a cell of the map is one of the map's
row_of : (i j nx ny k : ℕ) → j * nx + i < k → k ≤ ny * nx → j < ny
row_of i j nx ny k a b = ⊎_elim (λ c. c) (λ c. absurd (let z : ⊥ = omega (arith, mul-le-mul_right nx c) in z)) (lt_or_le j ny)

pub down-none : (mark : ℕ) (m : List ℕ) (nx : ℕ) (s : List ℕ) → Down mark m nx 0 s s
down-none mark m nx s = record { cell = λ i j a b. absurd (let z : ⊥ = omega arith in z); rest = λ c a. refl }

module _ (mark : ℕ) (m : List ℕ) (nx k : ℕ) (s t : List ℕ) (d : Down mark m nx k s t) (long : k < length t) where
  -- cell k is given the value v
  down-cell : (v : ℕ) → ((i j : ℕ) → i < nx → j * nx + i ≡ k → LeastAbove mark m nx i j v) → Down mark m nx (k + 1) s (set t k v)
  down-cell v f = record {
    cell = λ i j a b. at_set (λ c w. LeastAbove mark m nx i j w) t k v long (j * nx + i) (λ e. f i j a e)
        (λ e. d.cell i j a (⊎_elim (λ c. c) (λ c. absurd (e (omega arith))) (lt_or_le (j * nx + i) k)));
    rest = λ c a. get_or-set_other t k c v 0 (λ e. omega arith) ∙ d.rest c (omega arith);
  }

  -- a cell is marked, or its value is that of v
  by_mark : (v : ℕ) → ((i j : ℕ) → i < nx → j * nx + i ≡ k → (get_or m (j * nx + i) 0 ≡ mark → ⊥) → LeastAbove mark m nx i j (from_above 1 0 v)) → Down mark m nx (k + 1) s (set t k (from_above (get_or m k 0) mark v))
  by_mark v f = down-cell _ (λ i j b e. by_test (LeastAbove mark m nx i j) (eqb (get_or m k 0) mark) 0 (from_above 1 0 v)
      (λ q. down-marked mark m nx i j (ap (λ (c : ℕ). get_or m c 0) e ∙ eqb-true _ _ q))
      (λ q. f i j b e (λ z. eqb-false _ _ q (ap (λ (c : ℕ). get_or m c 0) (sym e) ∙ z))))

  -- a cell of the first row
  pub step-first : k < nx → Down mark m nx (k + 1) s (set t k (from_above (get_or m k 0) mark lost))
  step-first b = by_mark lost go
    where
      go : (i j : ℕ) → i < nx → j * nx + i ≡ k → (get_or m (j * nx + i) 0 ≡ mark → ⊥) → LeastAbove mark m nx i j lost
      go i zero c e a = down-first mark m nx i a
      go i (suc j) c e a = absurd (let z : ⊥ = omega (arith, suc-mul j nx) in z)

  -- a cell below another
  pub step_down : (ny : ℕ) → k < ny * nx → ny ≤ 4096 → nx ≤ k → Down mark m nx (k + 1) s (set t k (from_above (get_or m k 0) mark (get_or t (k - nx) 0)))
  step_down ny in_map high b = by_mark (get_or t (k - nx) 0) go
    where
      go : (i j : ℕ) → i < nx → j * nx + i ≡ k → (get_or m (j * nx + i) 0 ≡ mark → ⊥) → LeastAbove mark m nx i j (from_above 1 0 (get_or t (k - nx) 0))
      go i zero c e a = absurd (let z : ⊥ = omega arith in z)
      go i (suc j) c e a = by_test (LeastAbove mark m nx i (suc j)) (ltb (get_or t (k - nx) 0) lost) (get_or t (k - nx) 0 + 1) lost
          (λ q. down-next mark m nx i j a _ (ltb-true _ _ q) prior)
          (λ q. down-lost mark m nx i j a _ (ltb-false _ _ q) (let z = row_of i (suc j) nx ny (k + 1) (omega arith) (omega arith) in omega arith) prior)
        where
          prior : LeastAbove mark m nx i j (get_or t (k - nx) 0)
          prior = subst (λ (c : ℕ). LeastAbove mark m nx i j (get_or t c 0)) (let z : j * nx + i ≡ k - nx = omega (arith, suc-mul j nx) in z) (d.cell i j c (omega (arith, suc-mul j nx)))

-- ---- up

-- the least over the marks of column i, from row j
abbrev LeastIn : ℕ → List ℕ → ℕ → ℕ → ℕ → ℕ → ℕ → Type 0
LeastIn mark m nx ny i j d = Least lost (InColumn mark m nx ny i) (λ b. gap j b) d

module _ (mark : ℕ) (m : List ℕ) (nx ny i j : ℕ) (high : ny ≤ 4096) where
  -- the last row
  up-last : (u : ℕ) → ny ≤ suc j → j < ny → LeastAbove mark m nx i j u → LeastIn mark m nx ny i j u
  up-last u a b (some x p e l) =
      some x (record { row = omega (arith, p.row); set = p.set }) (omega (arith, p.row))
      (λ y q. omega (arith, l y (record { row = omega (arith, q.row); set = q.set })))
  up-last u a b (none f e) = none (λ y q. f y (record { row = omega (arith, q.row); set = q.set })) e

  up-below : (u b : ℕ) → suc j < ny → b < u → LeastAbove mark m nx i j u → LeastIn mark m nx ny i (suc j) b → LeastIn mark m nx ny i j (b + 1)
  up-below u b h k a (none f e) = absurd (bad a)
    where
      bad : LeastAbove mark m nx i j u → ⊥
      bad (some x p z l) = omega arith
      bad (none g z) = omega arith
  up-below u b h k a (some x p e l) = some x p (omega (arith, far_side x p e)) least
    where
      above : (y : ℕ) → InColumn mark m nx ny i y → y ≤ j → u ≤ j - y
      above y q c = go a
        where
          go : LeastAbove mark m nx i j u → u ≤ j - y
          go (some x p z l) = l y (record { row = c; set = q.set })
          go (none g z) = absurd (g y (record { row = c; set = q.set }))

      far_side : (x : ℕ) → InColumn mark m nx ny i x → b ≡ gap (suc j) x → j < x
      far_side x p e = ⊎_elim (λ c. c) (λ c. absurd (let z : ⊥ = omega (arith, above x p c) in z)) (lt_or_le j x)

      least : (y : ℕ) → InColumn mark m nx ny i y → b + 1 ≤ gap j y
      least y q = ⊎_elim (λ c. omega (arith, l y q)) (λ c. omega (arith, above y q c)) (lt_or_le j y)

  up_above : (u b : ℕ) → suc j < ny → u ≤ b → LeastAbove mark m nx i j u → LeastIn mark m nx ny i (suc j) b → LeastIn mark m nx ny i j u
  up_above u b h k (some x p e l) a = some x (record { row = omega (arith, p.row); set = p.set }) (omega (arith, p.row)) least
    where
      under : (y : ℕ) → InColumn mark m nx ny i y → b ≤ gap (suc j) y
      under y q = go a
        where
          go : LeastIn mark m nx ny i (suc j) b → b ≤ gap (suc j) y
          go (some w p z l) = l y q
          go (none g z) = absurd (g y q)

      least : (y : ℕ) → InColumn mark m nx ny i y → u ≤ gap j y
      least y q = ⊎_elim (λ c. omega (arith, under y q)) (λ c. omega (arith, l y (record { row = c; set = q.set }))) (lt_or_le j y)
  up_above u b h k (none f e) (some x p z l) = absurd (let w : ⊥ = omega (arith, p.row) in w)
  up_above u b h k (none f e) (none g z) = none g e

-- the last row is done
pub up_none : (nx ny : ℕ) (s : List ℕ) → ny ≤ 4096 → Raised nx ny (ny * nx - nx) s s
up_none nx ny s high mark m d = record {
  cell = λ i j a b c. up-last mark m nx ny i j high _
      (⊎_elim (λ f. absurd (let z : ⊥ = omega (arith, row_in i (suc j) nx ny a f, suc-mul j nx) in z)) (λ f. f) (lt_or_le (suc j) ny))
      b (d.cell i j a (row_in i j nx ny a b));
  front = λ c a. refl;
  rest = λ c a. refl;
}

module _ (nx ny k : ℕ) (s t : List ℕ) (u : Raised nx ny (k + 1) s t) (long : k < length t) (inner : k + nx < ny * nx) (high : ny ≤ 4096) where
  here : (mark : ℕ) (m : List ℕ) → Down mark m nx (ny * nx) s s → (i j : ℕ) → i < nx → j * nx + i ≡ k → LeastAbove mark m nx i j (get_or t k 0)
  here mark m d i j a e =
      subst (LeastAbove mark m nx i j) (ap (λ (c : ℕ). get_or s c 0) e ∙ sym ((u mark m d).front k (omega arith))) (d.cell i j a (omega arith))

  below : (i j : ℕ) → j * nx + i ≡ k → suc j < ny
  below i j e = row_of i (suc j) nx ny (ny * nx) (omega (arith, suc-mul j nx)) (omega arith)

  next : (mark : ℕ) (m : List ℕ) → Down mark m nx (ny * nx) s s → (i j : ℕ) → i < nx → j * nx + i ≡ k → LeastIn mark m nx ny i (suc j) (get_or t (k + nx) 0)
  next mark m d i j b e =
      subst (λ (c : ℕ). LeastIn mark m nx ny i (suc j) (get_or t c 0)) (let z : suc j * nx + i ≡ k + nx = omega (arith, suc-mul j nx) in z)
      ((u mark m d).cell i (suc j) b (below i j e) (omega (arith, suc-mul j nx)))

  -- cell k is given its value
  pub step-up : Raised nx ny k s (set t k (from_below (get_or t k 0) (get_or t (k + nx) 0)))
  step-up mark m d = record {
    cell = λ i j a b c. at_set (λ c w. LeastIn mark m nx ny i j w) t k _ long (j * nx + i)
        (λ e. by_test (LeastIn mark m nx ny i j) (ltb (get_or t (k + nx) 0) (get_or t k 0)) _ _
        (λ q. up-below mark m nx ny i j high _ _ (below i j e) (ltb-true _ _ q) (here mark m d i j a e) (next mark m d i j a e))
        (λ q. up_above mark m nx ny i j high _ _ (below i j e) (ltb-false _ _ q) (here mark m d i j a e) (next mark m d i j a e)))
        (λ e. (u mark m d).cell i j a b (⊎_elim (λ f. omega arith) (λ f. absurd (e (omega arith))) (lt_or_le k (j * nx + i))));
    front = λ c a. get_or-set_other t k c _ 0 (λ e. omega arith) ∙ (u mark m d).front c (omega arith);
    rest = λ c a. get_or-set_other t k c _ 0 (λ e. omega arith) ∙ (u mark m d).rest c a;
  }

-- ---- for the proofs of the code: the same cell by another name

pub down-same : {mark : ℕ} {m : List ℕ} {nx k l : ℕ} {s t : List ℕ} → k ≡ l → Down mark m nx k s t → Down mark m nx l s t
down-same {mark} {m} {nx} {k} {l} {s} {t} e d = subst (λ (i : ℕ). Down mark m nx i s t) e d

pub raised_same : {nx ny k l : ℕ} {s t : List ℕ} → k ≡ l → Raised nx ny k s t → Raised nx ny l s t
raised_same {nx} {ny} {k} {l} {s} {t} e d = subst (λ (i : ℕ). Raised nx ny i s t) e d
