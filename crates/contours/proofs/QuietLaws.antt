-- A run of squares whose corners lack a sign has no segment, and is as if it were marched. Assumes nothing.
use Rattle.std.proofs.Common.{◌≡◌, ℕ, ◌+◌, ◌*◌, ◌<◌, ◌≤◌, Bool, true, false, not, ◌||◌, eqb, List, get_or, sym, refl, ap, ◌∙◌, add-mul, arith}
use lib.Ieee.{Float, nan, lt, le, is_nan}
use borrow.Author.Tests.{not-true}
use Rattle.loops.specs.Loop.{any}
use Rattle.loops.proofs.Cases.{by_cases, never, either, neither}
use Rattle.loops.proofs.CellLaws.{row_below}
use Rattle.loops.proofs.LoopLaws.{loop_keeps, any-each}
use Rattle.floats.proofs.OrderLaws.{lt_numbers, not_le_lt}
use Rattle.raster.specs.Grid.{Over}
use Rattle.raster.specs.declared.grid.Grid.{Grid}
use Rattle.contours.specs.Square.{square_at, has_nan, weight_of, code_of}
use Rattle.contours.specs.March.{march_code, march_square}
use Rattle.contours.specs.Quiet.{InRow, march_run, signs_of, Quiet}
use Rattle.contours.specs.declared.quiet.Signs.{Signs}
use Rattle.contours.specs.declared.square.Square.{Square}
use Rattle.contours.specs.declared.square.Segment.{Segment}

-- the corners of a run have values
pub run-below : (g : Grid) (n a e j : ℕ) → Over g n → InRow g a e j → j * g.nx + e + 1 + g.nx ≤ n
run-below g n a e j o h = omega (arith, row_below (j + 1) g.ny g.nx n h.row o.long, h.column, add-mul j 1 g.nx)

-- ---- one square

numbers : (q : Square) → has_nan q ≡ false → (is_nan q.v0 ≡ false) × (is_nan q.v1 ≡ false) × (is_nan q.v2 ≡ false) × (is_nan q.v3 ≡ false)
unfolding has_nan
numbers q h =
    let r = neither _ _ h in
    let s = neither _ _ r.1 in
    let t = neither _ _ s.1 in
    (r.0, s.0, t.0, t.1)

-- a number that is not at the level or below is above it, unless the level is NaN
above-is : (v level : Float) → is_nan v ≡ false → le v level ≡ false → lt level v ≡ not (is_nan level)
above-is v level n h = by_cases (is_nan level)
    (λ t. rw t (by_cases (lt level v) (λ u. never (sym (lt_numbers level v u).0 ∙ t)) (λ u. u)))
    (λ t. rw t (not_le_lt level v t n h))

-- corners of one sign give no segment
one_sign : (q : Square) (level : Float) (b : Bool) → lt level q.v0 ≡ b → lt level q.v1 ≡ b → lt level q.v2 ≡ b → lt level q.v3 ≡ b → eqb (code_of q level) 0 || eqb (code_of q level) 15 ≡ true
unfolding code_of weight_of
one_sign q level true s t u v = rw (s, t, u, v)
one_sign q level false s t u v = rw (s, t, u, v)

passed : (g : Grid) (f : List Float) (level : Float) (i j : ℕ) (l : List Segment) → (has_nan (square_at g f i j) ≡ false → eqb (code_of (square_at g f i j) level) 0 || eqb (code_of (square_at g f i j) level) 15 ≡ true)
    → march_square g f level i j l ≡ l
unfolding march_square march_code
passed g f level i j l h = by_cases (has_nan (square_at g f i j)) (λ t. rw t) (λ t. rw (t, h t))

-- ---- a run

module _ (g : Grid) (f : List Float) (level : Float) (a e j : ℕ) where
  -- what none of the corners of a run is, none of its squares' is
  corners : (p : Float → Bool) → any (λ k. p (get_or f k nan)) (j * g.nx + a) (j * g.nx + e + 1) ≡ false → any (λ k. p (get_or f k nan)) (j * g.nx + a + g.nx) (j * g.nx + e + 1 + g.nx) ≡ false
      → (i : ℕ) → a ≤ i → i < e → (p (square_at g f i j).v0 ≡ false) × (p (square_at g f i j).v1 ≡ false) × (p (square_at g f i j).v2 ≡ false) × (p (square_at g f i j).v3 ≡ false)
  unfolding square_at
  corners p L U i h k =
      let c = j * g.nx + i in
      let lower = any-each (λ k. p (get_or f k nan)) (j * g.nx + a) (j * g.nx + e + 1) L in
      let upper = any-each (λ k. p (get_or f k nan)) (j * g.nx + a + g.nx) (j * g.nx + e + 1 + g.nx) U in
      (lower c (omega arith) (omega arith), lower (c + 1) (omega arith) (omega arith), upper (c + 1 + g.nx) (omega arith) (omega arith), upper (c + g.nx) (omega arith) (omega arith))

  pub lacks_sign : (lower upper : Signs) → lower ≡ signs_of f level (j * g.nx + a) (j * g.nx + e + 1) → upper ≡ signs_of f level (j * g.nx + a + g.nx) (j * g.nx + e + 1 + g.nx)
      → not (lower.above || upper.above) || not (lower.below || upper.below) ≡ true → Quiet g f level a e j
  unfolding signs_of
  lacks_sign lower upper L U h = either _ _ h
      (λ t. let n = neither _ _ (not-true _ t) in
      let z = corners (λ v. lt level v) (ap (λ (s : Signs). s.above) (sym L) ∙ n.0) (ap (λ (s : Signs). s.above) (sym U) ∙ n.1) in
      record { none = λ i b c l. passed g f level i j l (λ _. let w = z i b c in one_sign (square_at g f i j) level false w.0 w.1 w.2 w.3) })
      (λ t. let n = neither _ _ (not-true _ t) in
      let z = corners (λ v. le v level) (ap (λ (s : Signs). s.below) (sym L) ∙ n.0) (ap (λ (s : Signs). s.below) (sym U) ∙ n.1) in
      record {
        none = λ i b c l. passed g f level i j l (λ d. let w = z i b c in let m = numbers (square_at g f i j) d in
            one_sign (square_at g f i j) level (not (is_nan level)) (above-is _ level m.0 w.0) (above-is _ level m.1 w.1) (above-is _ level m.2 w.2) (above-is _ level m.3 w.3));
      })

  pub quiet_passed : Quiet g f level a e j → (l : List Segment) → march_run g f level a e j l ≡ l
  quiet_passed h l = loop_keeps (λ i. march_square g f level i j) a (λ (s : List Segment). s ≡ l) e (λ i s b c p. h.none i b c s ∙ p) l refl
