-- A product and a sum are the same with the operands the other way round, for every float. Assumes nothing.
use mathlib.Core.Path.{◌≡◌, refl, ap, ◌∙◌}
use mathlib.Core.Bool.{Bool, true, false, ◌&&◌, cond}
use Prim.Native.Nat.{ℕ, ◌-◌, ◌*◌}
use native.Mathlib.Nat.{mul_comm, add_comm}
use native.Mathlib.Omega.{arith}
use lib.Dec.{ltb, eqb}
use lib.Ieee.{Float, nan, inf, fin, Format, up, down, unlike, round, sum, add, mul}
use borrow.Author.Tests.{ltb-true, ltb-false, le-ltb}
use Rattle.loops.proofs.Cases.{by_cases}

unlike_swap : (s t : Bool) → unlike s t ≡ unlike t s
unlike_swap true true = refl
unlike_swap true false = refl
unlike_swap false true = refl
unlike_swap false false = refl

pub mul_swap : (f : Format) (x y : Float) → mul f x y ≡ mul f y x
unfolding mul
mul_swap f nan nan = refl
mul_swap f nan (inf t) = refl
mul_swap f nan (fin t n d) = refl
mul_swap f (inf s) nan = refl
mul_swap f (inf s) (inf t) = ap inf (unlike_swap s t)
mul_swap f (inf s) (fin t n d) = ap (λ (b : Bool). cond (eqb n 0) nan (inf b)) (unlike_swap s t)
mul_swap f (fin s m e) nan = refl
mul_swap f (fin s m e) (inf t) = ap (λ (b : Bool). cond (eqb m 0) nan (inf b)) (unlike_swap s t)
mul_swap f (fin s m e) (fin t n d) =
    ap (λ (b : Bool). round f b (m * up e * (n * up d)) (down e * down d)) (unlike_swap s t)
    ∙ ap (λ (z : ℕ). round f (unlike t s) z (down e * down d)) (mul_comm (m * up e) (n * up d))
    ∙ ap (λ (z : ℕ). round f (unlike t s) (n * up d * (m * up e)) z) (mul_comm (down e) (down d))

module _ (f : Format) (a b c : ℕ) where
  mixed : (s t : Bool) → cond (ltb a b) (round f t (b - a) c) (round f (s && ltb b a) (a - b) c) ≡ cond (ltb b a) (round f s (a - b) c) (round f (t && ltb a b) (b - a) c)
  mixed s t =
      by_cases (ltb a b) (λ e. let h = ltb-true a b e in rw (e, le-ltb b a (omega arith), all t))
      (λ e. rw e (by_cases (ltb b a) (λ k. rw (k, all s)) (λ k. rw (k, none s, none t)
      (let x = ltb-false a b e in let y = ltb-false b a k in ap (λ (z : ℕ). round f false z c) (omega arith)))))
    where
      all : (s : Bool) → s && true ≡ s
      all true = refl
      all false = refl

      none : (s : Bool) → s && false ≡ false
      none true = refl
      none false = refl

  sum_swap : (s t : Bool) → sum f s a t b c ≡ sum f t b s a c
  unfolding sum
  sum_swap true true = ap (λ (z : ℕ). round f true z c) (add_comm a b)
  sum_swap true false = mixed true false
  sum_swap false true = mixed false true
  sum_swap false false = ap (λ (z : ℕ). round f false z c) (add_comm a b)

pub add_swap : (f : Format) (x y : Float) → add f x y ≡ add f y x
unfolding add
add_swap f nan nan = refl
add_swap f nan (inf t) = refl
add_swap f nan (fin t n d) = refl
add_swap f (inf s) nan = refl
add_swap f (inf true) (inf true) = refl
add_swap f (inf true) (inf false) = refl
add_swap f (inf false) (inf true) = refl
add_swap f (inf false) (inf false) = refl
add_swap f (inf s) (fin t n d) = refl
add_swap f (fin s m e) nan = refl
add_swap f (fin s m e) (inf t) = refl
add_swap f (fin s m e) (fin t n d) =
    sum_swap f (m * up e * down d) (n * up d * down e) (down e * down d) s t
    ∙ ap (λ (z : ℕ). sum f t (n * up d * down e) s (m * up e * down d) z) (mul_comm (down e) (down d))
