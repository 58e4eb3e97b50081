-- The definition pins the number down: what `transform` promises, as equations. Assumes nothing.
use mathlib.Core.Path.{◌≡◌, refl, sym, ap, ◌∙◌, subst}
use mathlib.Core.Bool.{Bool, true, false, cond}
use mathlib.Core.Logic.{◌⊎◌, inl, inr, ⊎_elim}
use mathlib.Core.List.{List, [], ◌∷◌, ◌++◌}
use Prim.Native.Nat.{ℕ, zero, suc, ◌+◌, ◌-◌, ◌*◌, ◌/◌, ◌%◌, ◌≤◌, ◌<◌, min}
use native.Mathlib.Nat.{mod-lt, div-add-mod', div-lt_iff_lt-mul}
use native.Mathlib.Omega.{arith}
use lib.ListN.{length, get_or, take, drop, replicate, length-append, length-take, length-drop, length-replicate, get_or-append, get_or-replicate}
use lib.Seq.{ext_get_or, get_or-append-add, get_or-take, get_or-drop}
use lib.Dec.{eqb}
use borrow.Author.Tests.{eqb-true, eqb-false}
use Rattle.distance.specs.Least.{Least, some, none, far, Cell, at, gap, apart, Mark, Transformed, MapSides}
use Rattle.distance.specs.Nearest.{nearest_in_row, nearest, listed, squares_of, transform_of}
use Rattle.distance.proofs.NumberLaws.{lt_or_le, product, one-row}

-- at most one number is least
pub least-one : {A : Type 0} {top : ℕ} {P : A → Type 0} {f : A → ℕ} {d e : ℕ} → Least top P f d → Least top P f e → d ≡ e
least-one (some x p a l) (some y q b m) = omega (arith, l y q, m x p)
least-one (some x p a l) (none g b) = absurd (g x p)
least-one (none g a) (some y q b m) = absurd (g y q)
least-one (none g a) (none h b) = a ∙ sym b

-- ---- the definition as a function

-- the least over two sets is the lesser of the two
least_join : {A : Type 0} {top : ℕ} {P Q R : A → Type 0} {f : A → ℕ} {d e : ℕ} → ((x : A) → P x → R x) → ((x : A) → Q x → R x) → ((x : A) → R x → P x ⊎ Q x) → ((x : A) → R x → f x ≤ top)
    → Least top P f d → Least top Q f e → Least top R f (min d e)
least_join {d = d} {e = e} u v w b (some x p g l) (some y q h m) = ⊎_elim
    (λ a. some x (u x p) (omega arith) (λ z r. ⊎_elim (λ s. omega (arith, l z s)) (λ s. omega (arith, m z s)) (w z r)))
    (λ a. some y (v y q) (omega arith) (λ z r. ⊎_elim (λ s. omega (arith, l z s)) (λ s. omega (arith, m z s)) (w z r)))
    (lt_or_le d e)
least_join u v w b (some x p g l) (none k h) = some x (u x p) (omega (arith, b x (u x p))) (λ z r. ⊎_elim (λ s. omega (arith, l z s)) (λ s. absurd (k z s)) (w z r))
least_join u v w b (none k h) (some x p g l) = some x (v x p) (omega (arith, b x (v x p))) (λ z r. ⊎_elim (λ s. absurd (k z s)) (λ s. omega (arith, l z s)) (w z r))
least_join u v w b (none k g) (none l h) = none (λ z r. ⊎_elim (λ s. k z s) (λ s. l z s) (w z r)) (omega arith)

-- a mark of row j before column n; the mark of column n; a mark before row n
record InRow (mark : ℕ) (m : List ℕ) (nx j n : ℕ) (c : Cell) : Type 0 where
  col : c.i < n
  row : c.j ≡ j
  set : get_or m (c.j * nx + c.i) 0 ≡ mark

record Here (mark : ℕ) (m : List ℕ) (nx j n : ℕ) (c : Cell) : Type 0 where
  is : c ≡ at n j
  set : get_or m (j * nx + n) 0 ≡ mark

module _ (mark : ℕ) (m : List ℕ) (nx ny : ℕ) (wide : nx ≤ 4096) (high : ny ≤ 4096) (c : Cell) (col : c.i < nx) (row : c.j < ny) where
  small : (k : Cell) → k.i < nx → k.j < ny → apart c k ≤ far
  small k a b =
      let u : gap c.i k.i < 4096 = omega arith in
      let v : gap c.j k.j < 4096 = omega arith in
      omega (arith, product u u, product v v)

  here : (j n : ℕ) → Least far (Here mark m nx j n) (apart c) (cond (eqb (get_or m (j * nx + n) 0) mark) (apart c (at n j)) far)
  here j n = go (eqb (get_or m (j * nx + n) 0) mark) refl
    where
      go : (b : Bool) → eqb (get_or m (j * nx + n) 0) mark ≡ b → Least far (Here mark m nx j n) (apart c) (cond b (apart c (at n j)) far)
      go true e = some (at n j) (record { is = refl; set = eqb-true _ _ e }) refl (λ k q. let z = ap (apart c) q.is in omega arith)
      go false e = none (λ k q. eqb-false _ _ e q.set) refl

  in_row : (j n : ℕ) → j < ny → n ≤ nx → Least far (InRow mark m nx j n) (apart c) (nearest_in_row mark m nx c j n)
  unfolding nearest_in_row
  in_row j zero a b = none (λ k q. let y = q.col in omega arith) refl
  in_row j (suc n) a b = least_join
      (λ k q. record { col = omega (arith, q.col); row = q.row; set = q.set })
      (λ k q. record { col = subst (λ (k : Cell). k.i < suc n) (sym q.is) (omega arith); row = ap (λ (k : Cell). k.j) q.is; set = subst (λ (k : Cell). get_or m (k.j * nx + k.i) 0 ≡ mark) (sym q.is) q.set })
      (λ k q. ⊎_elim
      (λ d. inl (record { col = d; row = q.row; set = q.set }))
      (λ d.
      let e : k.i ≡ n = omega (arith, q.col) in
      let f : k ≡ at n j = λ t. record { i = e t; j = q.row t } in
      inr (record { is = f; set = subst (λ (k : Cell). get_or m (k.j * nx + k.i) 0 ≡ mark) f q.set }))
      (lt_or_le k.i n))
      (λ k q. small k (omega (arith, q.col)) (omega (arith, q.row)))
      (in_row j n a (omega arith))
      (here j n)

  in_rows_lem : (n : ℕ) → n ≤ ny → Least far (Mark mark m nx n) (apart c) (nearest mark m nx c n)
  unfolding nearest
  in_rows_lem zero b = none (λ k q. let y = q.row in omega arith) refl
  in_rows_lem (suc n) b = least_join
      (λ k q. record { col = q.col; row = omega (arith, q.row); set = q.set })
      (λ k q. record { col = q.col; row = omega (arith, q.row); set = q.set })
      (λ k q. ⊎_elim
      (λ d. inl (record { col = q.col; row = d; set = q.set }))
      (λ d. inr (record { col = q.col; row = omega (arith, q.row); set = q.set }))
      (lt_or_le k.j n))
      (λ k q. small k q.col (omega (arith, q.row)))
      (in_rows_lem n (omega arith))
      (in_row n nx (omega arith) (omega arith))

-- what `transform` promises of a cell, as an equation
pub transformed_is : (mark : ℕ) (m : List ℕ) (nx ny : ℕ) (s t : List ℕ) → MapSides nx ny → Transformed mark m nx ny s t → (i j : ℕ) → i < nx → j < ny → get_or t (j * nx + i) 0 ≡ nearest mark m nx (at i j) ny
transformed_is mark m nx ny s t z r i j a b = least-one (r.cell i j a b) (in_rows_lem mark m nx ny z.wide z.high (at i j) a b ny (omega arith))

module _ {A : Type 0} (f : ℕ → A) (d : A) where
  pub listed-long : (n : ℕ) → length (listed n f) ≡ n
  unfolding listed
  listed-long zero = refl
  listed-long (suc n) = simp length-append (omega (arith, listed-long n))

  pub listed_at : (n k : ℕ) → k < n → get_or (listed n f) k d ≡ f k
  unfolding listed
  listed_at zero k h = absurd (let z : ⊥ = omega arith in z)
  listed_at (suc n) k h = ⊎_elim
      (λ a. get_or-append (listed n f) (f n ∷ []) d k (omega (arith, listed-long n)) ∙ listed_at n k a)
      (λ a.
      let e : k ≡ length (listed n f) + 0 = omega (arith, listed-long n) in
      let z : n ≡ k = omega arith in
      ap (λ (i : ℕ). get_or (listed n f ++ (f n ∷ [])) i d) e ∙ get_or-append-add (listed n f) (f n ∷ []) 0 d ∙ ap f z)
      (lt_or_le k n)

-- a square by its cell number
pub square-at : (mark : ℕ) (m : List ℕ) (nx ny : ℕ) (s t : List ℕ) → MapSides nx ny → Transformed mark m nx ny s t → (k : ℕ) → k < ny * nx → get_or t k 0 ≡ nearest mark m nx (at (k % nx) (k / nx)) ny
square-at mark m nx ny s t z r k h =
    ap (λ (i : ℕ). get_or t i 0) (sym (div-add-mod' k nx))
    ∙ transformed_is mark m nx ny s t z r (k % nx) (k / nx) (mod-lt k z.column) ((div-lt_iff_lt-mul z.column).1 h)

-- the squares as a list
pub squares_are : (mark : ℕ) (m : List ℕ) (nx ny : ℕ) (s t : List ℕ) → MapSides nx ny → ny * nx ≤ length t → Transformed mark m nx ny s t → take (ny * nx) t ≡ squares_of mark m nx ny
unfolding squares_of
squares_are mark m nx ny s t z long r = ext_get_or 0 _ _ (whole ∙ sym (listed-long _ 0 (ny * nx)))
    (λ k h. let b : k < ny * nx = omega (arith, whole) in rw get_or-take (square-at mark m nx ny s t z r k b ∙ sym (listed_at _ 0 (ny * nx) k b)))
  where
    whole : length (take (ny * nx) t) ≡ ny * nx
    whole = simp length-take (omega arith)

-- a list by its two parts
pub two_parts : {A : Type 0} (d : A) (t xs ys : List A) → length t ≡ length xs + length ys → ((k : ℕ) → k < length xs → get_or t k d ≡ get_or xs k d) → ((k : ℕ) → k < length ys → get_or t (length xs + k) d ≡ get_or ys k d) → t ≡ xs ++ ys
two_parts d t xs ys long f g = ext_get_or d t (xs ++ ys) (simp length-append long) (λ k h. ⊎_elim
    (λ a. f k a ∙ sym (get_or-append xs ys d k a))
    (λ a.
    let e : k ≡ length xs + (k - length xs) = omega arith in
    ap (λ (i : ℕ). get_or t i d) e ∙ g (k - length xs) (omega arith) ∙ sym (get_or-append-add xs ys (k - length xs) d) ∙ ap (λ (i : ℕ). get_or (xs ++ ys) i d) (sym e))
    (lt_or_le k (length xs)))

abbrev zeros : ℕ → List ℕ
zeros n = replicate n 0

-- the lent slice as a whole
pub work-is : (mark : ℕ) (m : List ℕ) (nx ny : ℕ) (s t : List ℕ) → MapSides nx ny → ny * nx + 3 * nx ≤ length s → length t ≡ length s → Transformed mark m nx ny s t → t ≡ transform_of mark m nx ny s
unfolding transform_of
work-is mark m nx ny s t z long same r = two_parts 0 t (squares_of mark m nx ny) (replicate (3 * nx) 0 ++ drop (ny * nx + 3 * nx) s)
    (simp (length-append, length-replicate, length-drop) (omega (arith, size)))
    (λ k h. let b : k < ny * nx = omega (arith, size) in sym (get_or-take (ny * nx) t k 0 b) ∙ ap (λ (l : List ℕ). get_or l k 0) (squares_are mark m nx ny s t z (omega arith) r))
    (λ k h. rw size (rest k))
  where
    size : length (squares_of mark m nx ny) ≡ ny * nx
    size = ap length (sym (squares_are mark m nx ny s t z (omega arith) r)) ∙ simp length-take (omega arith)

    beyond : (k : ℕ) → 3 * nx ≤ k → get_or t (ny * nx + k) 0 ≡ get_or (zeros (3 * nx) ++ drop (ny * nx + 3 * nx) s) k 0
    beyond k a =
        let n : length (zeros (3 * nx)) ≡ 3 * nx = length-replicate (3 * nx) 0 in
        let e : k ≡ length (zeros (3 * nx)) + (k - 3 * nx) = omega arith in
        let i : ny * nx + k ≡ ny * nx + 3 * nx + (k - 3 * nx) = omega arith in
        r.rest (ny * nx + k) (omega arith)
        ∙ ap (λ (j : ℕ). get_or s j 0) i
        ∙ sym (ap (λ (j : ℕ). get_or (zeros (3 * nx) ++ drop (ny * nx + 3 * nx) s) j 0) e ∙ get_or-append-add (zeros (3 * nx)) (drop (ny * nx + 3 * nx) s) (k - 3 * nx) 0 ∙ get_or-drop (ny * nx + 3 * nx) s (k - 3 * nx) 0)

    rest : (k : ℕ) → get_or t (ny * nx + k) 0 ≡ get_or (zeros (3 * nx) ++ drop (ny * nx + 3 * nx) s) k 0
    rest k = ⊎_elim
        (λ a. r.scratch k a ∙ sym (get_or-append (zeros (3 * nx)) _ 0 k (simp length-replicate a) ∙ get_or-replicate (3 * nx) k 0 0 a))
        (beyond k)
        (lt_or_le k (3 * nx))

-- ---- for callers

-- the room that `transform` wants, in a region of four maps
pub room : (nx ny n : ℕ) → MapSides nx ny → 4 * (ny * nx) ≤ n → ny * nx + 3 * nx ≤ n
room nx ny n z h = omega (arith, one-row nx ny z.row)

-- a square that `transform` leaves
pub transform_at : (mark : ℕ) (m : List ℕ) (nx ny : ℕ) (s : List ℕ) (k : ℕ) → k < ny * nx → get_or (transform_of mark m nx ny s) k 0 ≡ nearest mark m nx (at (k % nx) (k / nx)) ny
unfolding transform_of squares_of
transform_at mark m nx ny s k h = get_or-append (squares_of mark m nx ny) _ 0 k (omega (arith, listed-long (λ k. nearest mark m nx (at (k % nx) (k / nx)) ny) 0 (ny * nx))) ∙ listed_at _ 0 (ny * nx) k h

-- ---- lengths

pub squares-long : (mark : ℕ) (m : List ℕ) (nx ny : ℕ) → length (squares_of mark m nx ny) ≡ ny * nx
unfolding squares_of
squares-long mark m nx ny = listed-long _ 0 (ny * nx)

pub transform_long : (mark : ℕ) (m : List ℕ) (nx ny : ℕ) (s t : List ℕ) → ny * nx + 3 * nx ≤ length s → t ≡ transform_of mark m nx ny s → length t ≡ length s
unfolding transform_of
transform_long mark m nx ny s t h e =
    ap length e ∙ length-append (squares_of mark m nx ny) (replicate (3 * nx) 0 ++ drop (ny * nx + 3 * nx) s)
    ∙ (let a = length-append {A = ℕ} (replicate (3 * nx) 0) (drop (ny * nx + 3 * nx) s) in
    let b = length-replicate {A = ℕ} (3 * nx) 0 in
    let c = length-drop (ny * nx + 3 * nx) s in
    let d = squares-long mark m nx ny in
    omega (arith, a, b, c, d))
