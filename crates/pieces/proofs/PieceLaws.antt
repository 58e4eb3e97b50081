-- A row that is put is read back, and no other changes; a row more is the list with its piece at the end. Assumes nothing.
use mathlib.Core.Path.{◌≡◌, refl, sym, ap, ◌∙◌, subst}
use mathlib.Core.Bool.{Bool, true, false, cond}
use Prim.Native.Nat.{ℕ, zero, suc, ◌+◌, ◌*◌, ◌≤◌, ◌<◌}
use native.Mathlib.Omega.{arith}
use mathlib.Core.List.{List, [], ◌∷◌, ◌++◌}
use lib.ListN.{length, get_or, set, length-set, length-append, get_or-append}
use lib.Seq.{get_or-set_same, get_or-set_other, get_or-append_seam}
use lib.Dec.{eqb, ltb}
use lib.Ieee.{Float}
use borrow.Author.Tests.{ltb-true, ltb-false}
use Rattle.loops.specs.Each.{Each}
use Rattle.loops.specs.Regions.{within}
use Rattle.loops.proofs.Cases.{by_cases}
use Rattle.loops.proofs.EachLaws.{each-less}
use Rattle.geom.specs.Points.{points}
use Rattle.pieces.specs.Piece.{Piece, row, row_at, put_row, piece_of, pieces_at, end_of}
use Rattle.pieces.specs.declared.row.Row.{Row}
use Rattle.pieces.proofs.PartLaws.{inner-points}

pub row-length : (k : ℕ) (r : Row) (rows : List ℕ) → length (put_row k r rows) ≡ length rows
unfolding put_row
row-length k r rows =
    let u = set rows (3 * k) r.first in
    length-set (set u (3 * k + 1) r.points) (3 * k + 2) (cond r.closed 1 0) ∙ length-set u (3 * k + 1) r.points ∙ length-set rows (3 * k) r.first

-- a flag is read back
flag-back : (b : Bool) → eqb (cond b 1 0) 1 ≡ b
flag-back true = refl
flag-back false = refl

row_is : (a b d f : ℕ) (c e : Bool) → a ≡ d → b ≡ f → c ≡ e → row a b c ≡ row d f e
row_is a b d f c e p q r = ap (λ (n : ℕ). row n b c) p ∙ ap (λ (n : ℕ). row d n c) q ∙ ap (row d f) r

pub row_here : (k : ℕ) (r : Row) (rows : List ℕ) → 3 * k + 2 < length rows → row_at (put_row k r rows) k ≡ r
unfolding put_row row_at
row_here k r rows h =
    let u = set rows (3 * k) r.first in
    let v = set u (3 * k + 1) r.points in
    let w = set v (3 * k + 2) (cond r.closed 1 0) in
    let lu = length-set rows (3 * k) r.first in
    let lv = length-set u (3 * k + 1) r.points in
    row_is _ _ _ _ _ _
    (get_or-set_other v (3 * k + 2) (3 * k) _ 0 (λ e. omega arith) ∙ get_or-set_other u (3 * k + 1) (3 * k) _ 0 (λ e. omega arith) ∙ get_or-set_same rows (3 * k) r.first 0 (omega arith))
    (get_or-set_other v (3 * k + 2) (3 * k + 1) _ 0 (λ e. omega arith) ∙ get_or-set_same u (3 * k + 1) r.points 0 (omega (arith, lu)))
    (ap (λ (n : ℕ). eqb n 1) (get_or-set_same v (3 * k + 2) _ 0 (omega (arith, lu, lv))) ∙ flag-back r.closed)

-- any other number is as it was
put_other : (k : ℕ) (r : Row) (rows : List ℕ) (i : ℕ) → (i ≡ 3 * k → ⊥) → (i ≡ 3 * k + 1 → ⊥) → (i ≡ 3 * k + 2 → ⊥) → get_or (put_row k r rows) i 0 ≡ get_or rows i 0
unfolding put_row
put_other k r rows i a b c =
    let u = set rows (3 * k) r.first in
    get_or-set_other (set u (3 * k + 1) r.points) (3 * k + 2) i (cond r.closed 1 0) 0 c
    ∙ get_or-set_other u (3 * k + 1) i r.points 0 b
    ∙ get_or-set_other rows (3 * k) i r.first 0 a

pub row_there : (k : ℕ) (r : Row) (rows : List ℕ) (j : ℕ) → (j ≡ k → ⊥) → row_at (put_row k r rows) j ≡ row_at rows j
unfolding row_at
row_there k r rows j h =
    row_is _ _ _ _ _ _
    (put_other k r rows (3 * j) (λ e. h (omega arith)) (λ e. omega arith) (λ e. omega arith))
    (put_other k r rows (3 * j + 1) (λ e. omega arith) (λ e. h (omega arith)) (λ e. omega arith))
    (ap (λ (n : ℕ). eqb n 1) (put_other k r rows (3 * j + 2) (λ e. omega arith) (λ e. omega arith) (λ e. h (omega arith))))

-- ---- lists of pieces

pub pieces-length : (m : ℕ) (rows : List ℕ) (pts : List Float) → length (pieces_at m rows pts) ≡ m
unfolding pieces_at
pieces-length zero rows pts = refl
pieces-length (suc m) rows pts = let i = pieces-length m rows pts in omega (arith, length-append (pieces_at m rows pts) (piece_of (row_at rows m) pts ∷ []))

-- slices whose rows stand for the same pieces have the same list
pub pieces-same : (m : ℕ) (rows rows' : List ℕ) (pts pts' : List Float) → ((k : ℕ) → k < m → piece_of (row_at rows k) pts ≡ piece_of (row_at rows' k) pts')
    → pieces_at m rows pts ≡ pieces_at m rows' pts'
unfolding pieces_at
pieces-same zero rows rows' pts pts' h = refl
pieces-same (suc m) rows rows' pts pts' h =
    ap (λ (l : List Piece). l ++ (piece_of (row_at rows m) pts ∷ [])) (pieces-same m rows rows' pts pts' (λ k b. h k (omega arith)))
    ∙ ap (λ (p : Piece). pieces_at m rows' pts' ++ (p ∷ [])) (h m (omega arith))

-- the next row is put
pub pieces_more : (m : ℕ) (r : Row) (rows : List ℕ) (pts : List Float) → 3 * m + 2 < length rows → pieces_at (suc m) (put_row m r rows) pts ≡ pieces_at m rows pts ++ (piece_of r pts ∷ [])
unfolding pieces_at
pieces_more m r rows pts h =
    ap (λ (l : List Piece). l ++ (piece_of (row_at (put_row m r rows) m) pts ∷ []))
    (pieces-same m (put_row m r rows) rows pts pts (λ k b. ap (λ (q : Row). piece_of q pts) (row_there m r rows k (λ e. omega arith))))
    ∙ ap (λ (q : Row). pieces_at m rows pts ++ (piece_of q pts ∷ [])) (row_here m r rows h)

-- what holds of each piece holds of each row's
pub each_piece : (P : Piece → Type 0) (m : ℕ) (rows : List ℕ) (pts : List Float) → Each P (pieces_at m rows pts) → (k : ℕ) → k < m → P (piece_of (row_at rows k) pts)
unfolding pieces_at
each_piece P zero rows pts e k h = absurd (let z : ⊥ = omega arith in z)
each_piece P (suc m) rows pts e k h =
    let r = each-less P (pieces_at m rows pts) (piece_of (row_at rows m) pts) e in
    by_cases (ltb k m)
    (λ t. each_piece P m rows pts r.0 k (ltb-true k m t))
    (λ t. let d : m ≡ k = omega (arith, ltb-false k m t) in subst (λ (i : ℕ). P (piece_of (row_at rows i) pts)) d r.1)

-- piece k of the list is that of row k
pub piece_get : (m k : ℕ) (rows : List ℕ) (pts : List Float) (d : Piece) → k < m → get_or (pieces_at m rows pts) k d ≡ piece_of (row_at rows k) pts
unfolding pieces_at
piece_get zero k rows pts d h = absurd (let z : ⊥ = omega arith in z)
piece_get (suc m) k rows pts d h =
    let l = pieces_at m rows pts in
    let p = piece_of (row_at rows m) pts in
    by_cases (ltb k m)
    (λ t. get_or-append l (p ∷ []) d k (omega (arith, ltb-true k m t, pieces-length m rows pts)) ∙ piece_get m k rows pts d (ltb-true k m t))
    (λ t. let z : m ≡ k = omega (arith, ltb-false k m t) in
    subst (λ (i : ℕ). get_or (l ++ (p ∷ [])) i d ≡ piece_of (row_at rows i) pts) z
    (ap (λ (i : ℕ). get_or (l ++ (p ∷ [])) i d) (sym (pieces-length m rows pts)) ∙ get_or-append_seam l p [] d))

-- ---- the points of row k, where what is lent stands from a to e of a longer slice

module _ (m k : ℕ) (rows : List ℕ) (a e : ℕ) (w : List Float) (l : List Piece) (d : Piece) (is : pieces_at m rows (within a e w) ≡ l) (h : k < m) where
  row_piece : piece_of (row_at rows k) (within a e w) ≡ get_or l k d
  row_piece = sym (piece_get m k rows (within a e w) d h) ∙ ap (λ (q : List Piece). get_or q k d) is

  -- read there, they are those of piece k of the list
  pub row-points : a + 2 * end_of (row_at rows k) ≤ e
      → points 0 (row_at rows k).points (within (a + 2 * (row_at rows k).first) (a + 2 * (row_at rows k).first + 2 * (row_at rows k).points) w) ≡ (get_or l k d).points
  unfolding piece_of
  row-points b = inner-points a e (row_at rows k).first (row_at rows k).points w (omega (arith, b)) ∙ ap (λ (p : Piece). p.points) row_piece

  pub row-closed : (row_at rows k).closed ≡ (get_or l k d).closed
  unfolding piece_of
  row-closed = ap (λ (p : Piece). p.closed) row_piece
