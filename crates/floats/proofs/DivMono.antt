-- A quotient grows with its first operand where the second has its sign clear: for all floats, infinities, a divisor 0 and overflow included, as far as the results are no NaN.
-- Assumes nothing.
use mathlib.Core.Path.{◌≡◌, sym, ap, subst}
use mathlib.Core.Bool.{Bool, true, false}
use Prim.Native.Nat.{ℕ, zero, suc, ◌*◌, ◌<◌}
use native.Mathlib.Nat.{zero-lt-suc, mul_comm, mul-pos}
use lib.IntN.{ℤ}
use lib.Dec.{T, eqb-suc-zero}
use lib.Ieee.{Float, nan, inf, fin, Format, up, down, unlike, round, div, lt, eq, le, is_nan}
use lib.Ieee.Fits.{up_pos, down_pos}
use Rattle.loops.proofs.Cases.{never}
use Rattle.floats.proofs.OrderLaws.{Le}
use Rattle.floats.proofs.SignLaws.{unsigned, no_nan, under_top, over_bottom}
use Rattle.floats.proofs.RoundMono.{round_le}
use Rattle.floats.proofs.MulMono.{wider, fin_le, clear, poles, zeros}

over_inf : (f : Format) (s : Bool) (z : Float) → T (unsigned z) → is_nan (div f (inf s) z) ≡ false → div f (inf s) z ≡ inf s
unfolding div
over_inf f s nan Z p = absurd Z
over_inf f s (inf t) Z p = no_nan p
over_inf f s (fin true n d) Z p = absurd Z
over_inf f s (fin false n d) Z p = ap inf (clear s)

div_is : (f : Format) (s : Bool) (m : ℕ) (e : ℤ) (n : ℕ) (d : ℤ) → div f (fin s m e) (fin false (suc n) d) ≡ round f s (m * up e * down d) (suc n * up d * down e)
unfolding div
div_is f s m e n d = rw (eqb-suc-zero n, clear s)

of_finite : (f : Format) (s : Bool) (m : ℕ) (e : ℤ) (s' : Bool) (m' : ℕ) (e' : ℤ) (z : Float) → T (unsigned z) → le (fin s m e) (fin s' m' e') ≡ true
    → is_nan (div f (fin s m e) z) ≡ false → is_nan (div f (fin s' m' e') z) ≡ false → le (div f (fin s m e) z) (div f (fin s' m' e') z) ≡ true
unfolding div
of_finite f s m e s' m' e' nan Z h p q = absurd Z
of_finite f s m e s' m' e' (inf t) Z h p q = zeros (unlike s t) (unlike s' t)
of_finite f s m e s' m' e' (fin true n d) Z h p q = absurd Z
of_finite f s m e s' m' e' (fin false zero d) Z h p q = poles s m e s' m' e' h p q
of_finite f s m e s' m' e' (fin false (suc n) d) Z h p q =
    let z = suc n * up d in
    subst (λ (v : Float). le v (div f (fin s' m' e') (fin false (suc n) d)) ≡ true) (sym (div_is f s m e n d))
    (subst (λ (v : Float). le (round f s (m * up e * down d) (z * down e)) v ≡ true) (sym (div_is f s' m' e' n d))
    (round_le f s (m * up e * down d) (z * down e) s' (m' * up e' * down d) (z * down e') (mul-pos (above n d) (down_pos e)) (mul-pos (above n d) (down_pos e'))
    (subst (λ (v : ℕ). Le s (m * up e * down d * v) s' (m' * up e' * down d * (z * down e))) (mul_comm (down e') z)
    (subst (λ (v : ℕ). Le s (m * up e * down d * (down e' * z)) s' (m' * up e' * down d * v)) (mul_comm (down e) z)
    (wider (m * up e) (down e) (m' * up e') (down e') (down d) z s s' (fin_le s m e s' m' e' h))))))
  where
    above : (n : ℕ) (d : ℤ) → 0 < suc n * up d
    above n d = mul-pos (zero-lt-suc n) (up_pos d)

pub div_mono : (f : Format) (x y z : Float) → T (unsigned z) → le x y ≡ true → is_nan (div f x z) ≡ false → is_nan (div f y z) ≡ false → le (div f x z) (div f y z) ≡ true
unfolding le lt eq
div_mono f nan y z Z h p q = never h
div_mono f (inf s) nan z Z h p q = never h
div_mono f (inf s) (inf s') z Z h p q = subst (λ (v : Float). le v (div f (inf s') z) ≡ true) (sym (over_inf f s z Z p)) (subst (λ (v : Float). le (inf s) v ≡ true) (sym (over_inf f s' z Z q)) h)
div_mono f (inf true) (fin s' m' e') z Z h p q = subst (λ (v : Float). le v (div f (fin s' m' e') z) ≡ true) (sym (over_inf f true z Z p)) (over_bottom (div f (fin s' m' e') z) q)
div_mono f (inf false) (fin s' m' e') z Z h p q = never h
div_mono f (fin s m e) nan z Z h p q = never h
div_mono f (fin s m e) (inf true) z Z h p q = never h
div_mono f (fin s m e) (inf false) z Z h p q = subst (λ (v : Float). le (div f (fin s m e) z) v ≡ true) (sym (over_inf f false z Z q)) (under_top (div f (fin s m e) z) p)
div_mono f (fin s m e) (fin s' m' e') z Z h p q = of_finite f s m e s' m' e' z Z h p q
