-- Segments in a lent slice: what is put is read back, and one more is the list with it at the end. Assumes nothing.
use Rattle.std.proofs.Common.{◌≡◌, ℕ, zero, suc, ◌+◌, ◌*◌, ◌<◌, ltb, List, [], ◌∷◌, ◌++◌, length, get_or, set, refl, ap, ◌∙◌, subst, add-one, arith, length-append, length-set, get_or-set_other, get_or-set_same, ltb-false, ltb-true}
use Rattle.loops.specs.Each.{Each}
use Rattle.loops.proofs.EachLaws.{each-less}
use Rattle.loops.proofs.Cases.{by_cases}
use Rattle.contours.specs.Square.{segment}
use Rattle.contours.specs.March.{segment_at, segments_of, put_segment}
use Rattle.contours.specs.declared.square.Segment.{Segment}

pub put-length : (k : ℕ) (s : Segment) (w : List ℕ) → length (put_segment k s w) ≡ length w
unfolding put_segment
put-length k s w = length-set (set w (2 * k) s.from.0) (2 * k + 1) s.to.0 ∙ length-set w (2 * k) s.from.0

abbrev numbers : ℕ → ℕ → Segment
numbers a b = segment (record { 0 = a }) (record { 0 = b })

pub put-here : (k : ℕ) (s : Segment) (w : List ℕ) → 2 * k + 1 < length w → segment_at (put_segment k s w) k ≡ s
unfolding put_segment segment_at
put-here k s w h =
    let u = set w (2 * k) s.from.0 in
    let a : get_or (set u (2 * k + 1) s.to.0) (2 * k) 0 ≡ s.from.0 =
    get_or-set_other u (2 * k + 1) (2 * k) s.to.0 0 (λ e. omega arith) ∙ get_or-set_same w (2 * k) s.from.0 0 (omega arith) in
    let b : get_or (set u (2 * k + 1) s.to.0) (2 * k + 1) 0 ≡ s.to.0 =
    get_or-set_same u (2 * k + 1) s.to.0 0 (omega (arith, length-set w (2 * k) s.from.0)) in
    ap (λ (x : ℕ). numbers x (get_or (set u (2 * k + 1) s.to.0) (2 * k + 1) 0)) a ∙ ap (λ (y : ℕ). numbers s.from.0 y) b

put_other : (k : ℕ) (s : Segment) (w : List ℕ) (i : ℕ) → (i ≡ 2 * k → ⊥) → (i ≡ 2 * k + 1 → ⊥) → get_or (put_segment k s w) i 0 ≡ get_or w i 0
unfolding put_segment
put_other k s w i a b = get_or-set_other (set w (2 * k) s.from.0) (2 * k + 1) i s.to.0 0 b ∙ get_or-set_other w (2 * k) i s.from.0 0 a

pub put_there : (k : ℕ) (s : Segment) (w : List ℕ) (j : ℕ) → (j ≡ k → ⊥) → segment_at (put_segment k s w) j ≡ segment_at w j
unfolding segment_at
put_there k s w j h =
    ap (λ (x : ℕ). numbers x (get_or (put_segment k s w) (2 * j + 1) 0)) (put_other k s w (2 * j) (λ e. h (omega arith)) (λ e. omega arith))
    ∙ ap (λ (y : ℕ). numbers (get_or w (2 * j) 0) y) (put_other k s w (2 * j + 1) (λ e. omega arith) (λ e. h (omega arith)))

-- ---- lists of segments

pub segments_length : (n : ℕ) (w : List ℕ) → length (segments_of n w) ≡ n
unfolding segments_of
segments_length zero w = refl
segments_length (suc n) w = let i = segments_length n w in omega (arith, length-append (segments_of n w) (segment_at w n ∷ []))

-- slices that agree on the segments have the same list
pub segments_same : (n : ℕ) (w t : List ℕ) → ((k : ℕ) → k < n → segment_at w k ≡ segment_at t k) → segments_of n w ≡ segments_of n t
unfolding segments_of
segments_same zero w t h = refl
segments_same (suc n) w t h =
    ap (λ (l : List Segment). l ++ (segment_at w n ∷ [])) (segments_same n w t (λ k b. h k (omega arith)))
    ∙ ap (λ (s : Segment). segments_of n t ++ (s ∷ [])) (h n (omega arith))

-- the next segment is put
pub segments_more : (n : ℕ) (s : Segment) (w : List ℕ) → 2 * n + 1 < length w → segments_of (n + 1) (put_segment n s w) ≡ segments_of n w ++ (s ∷ [])
unfolding segments_of
segments_more n s w h =
    rw (add-one n)
    (ap (λ (l : List Segment). l ++ (segment_at (put_segment n s w) n ∷ [])) (segments_same n (put_segment n s w) w (λ k b. put_there n s w k (λ e. omega arith)))
    ∙ ap (λ (t : Segment). segments_of n w ++ (t ∷ [])) (put-here n s w h))

-- ---- what holds of every one of a list

-- it holds of each segment in the slice
pub each-segment : (P : Segment → Type 0) (n : ℕ) (w : List ℕ) → Each P (segments_of n w) → (k : ℕ) → k < n → P (segment_at w k)
unfolding segments_of
each-segment P zero w e k h = absurd (let z : ⊥ = omega arith in z)
each-segment P (suc n) w e k h =
    let r = each-less P (segments_of n w) (segment_at w n) e in
    by_cases (ltb k n)
    (λ t. each-segment P n w r.0 k (ltb-true k n t))
    (λ t. let d : n ≡ k = omega (arith, ltb-false k n t) in subst (λ (i : ℕ). P (segment_at w i)) d r.1)
