-- Slices that are set to one value from a place on. Assumes nothing.
use mathlib.Core.Path.{◌≡◌, sym, ap, ◌∙◌}
use mathlib.Core.List.{List, ◌++◌, append-nil}
use Prim.Native.Nat.{ℕ, ◌-◌, ◌*◌, ◌≤◌}
use native.Mathlib.Omega.{arith}
use lib.ListN.{length, take, drop, replicate, length-append, length-take, length-replicate, drop_of_length-le}
use lib.Seq.{length-take-le}
use lib.Ieee.{Float}
use borrow.Rule.Slice.PartMut.{put_mid, Post-is, mid_len}
use Rattle.geom.specs.Vec.{f0}
use Rattle.field.specs.Field.{s0}
use Rattle.report.specs.Zero.{blank_from, lent, headed, cleared_to}
use Rattle.report.specs.declared.clear.Used.{Used}

module _ {A : Type 0} (v : A) (k : ℕ) (l : List A) (h : k ≤ length l) where
  pub blank-long : length (blank_from v k l) ≡ length l
  unfolding blank_from
  blank-long = omega (arith, length-append (take k l) (replicate (length l - k) v), length-take k l, length-replicate (length l - k) v)

  -- the part from k on was lent, and came back filled
  pub blank-is : (r : List A) → r ≡ replicate (length (take (length l - k) (drop k l))) v → put_mid k (length l - k) l r ≡ blank_from v k l
  unfolding blank_from
  blank-is r R =
      ap (λ (q : List A). take k l ++ (r ++ q)) (Post-is k (length l) l h ∙ drop_of_length-le l (let z : length l ≤ length l = omega arith in z))
      ∙ ap (λ (q : List A). take k l ++ q) (append-nil r ∙ R ∙ ap (λ (n : ℕ). replicate n v) (mid_len k (length l) l (omega arith)))

  -- said by the whole slice's length
  pub blank-headed : blank_from v k l ≡ headed v (length l) (take k l)
  unfolding blank_from headed
  blank-headed = ap (λ (n : ℕ). take k l ++ replicate (length l - n) v) (sym (length-take-le k l h))

-- ---- all that is lent

module _ (c : Used) (b u : List ℕ) (f w : List Float) (rows : List ℕ) (triples : List Float) (B : c.cells ≤ length b) (R : c.rows * 3 ≤ length rows) (T : c.triples * 3 ≤ length triples) where
  pub cleared-is : (b' u' : List ℕ) (f' w' : List Float) (rows' : List ℕ) (triples' : List Float) → b' ≡ blank_from 0 c.cells b → u' ≡ replicate (length u) 0 → f' ≡ replicate (length f) s0
      → w' ≡ replicate (length w) f0 → rows' ≡ blank_from 0 (3 * c.rows) rows → triples' ≡ blank_from f0 (3 * c.triples) triples
      → lent b' u' f' w' rows' triples' ≡ cleared_to c b rows triples (lent b u f w rows triples)
  unfolding cleared_to
  cleared-is b' u' f' w' rows' triples' P U F W Q S =
      let x = P ∙ blank-headed 0 c.cells b B in
      let y = Q ∙ blank-headed 0 (3 * c.rows) rows (omega arith) in
      let z = S ∙ blank-headed f0 (3 * c.triples) triples (omega arith) in
      λ t. record { bytes = x t; words = U t; singles = F t; doubles = W t; rows = y t; triples = z t }
