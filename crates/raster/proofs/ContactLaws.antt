-- The table of directions holds each sample's, and hits by the table are hits by the definition. Assumes nothing.
use mathlib.Core.Path.{◌≡◌, refl, sym, ap, ◌∙◌, subst}
use mathlib.Core.Bool.{true, false}
use mathlib.Core.List.{List}
use Prim.Native.Nat.{ℕ, zero, suc, ◌+◌, ◌*◌, ◌≤◌, ◌<◌}
use native.Mathlib.Omega.{arith}
use lib.ListN.{length, get_or, set, length-set}
use lib.Seq.{get_or-set_same, get_or-set_other}
use lib.Dec.{ltb}
use lib.Ieee.{Float, nan}
use borrow.Author.Tests.{ltb-true, ltb-false}
use Rattle.loops.specs.Loop.{loop}
use Rattle.loops.proofs.Cases.{by_cases, by_test}
use Rattle.loops.proofs.LoopLaws.{loop_keeps, loop-none}
use Rattle.geom.specs.Vec.{v2, sum, scaled}
use Rattle.geom.specs.declared.vec2.Vec2.{Vec2}
use Rattle.raster.specs.Grid.{stock_at}
use Rattle.geom.specs.Points.{put_point}
use Rattle.raster.specs.Contact.{samples_of, direction_at, rim_at, hit_at, hits_of, rim_contact, Rim, put_rim, rimmed}
use Rattle.raster.specs.declared.grid.Grid.{Grid}
use Rattle.raster.proofs.SweepLaws.{loop_suc}

-- ---- the table

put-long : (n k : ℕ) (w : List Float) → length (put_rim n k w) ≡ length w
unfolding put_rim put_point
put-long n k w = length-set (set w (2 * k) (direction_at n k).x) (2 * k + 1) (direction_at n k).y ∙ length-set w (2 * k) (direction_at n k).x

pub rim-long : (n a e : ℕ) (w : List Float) → length (loop (put_rim n) a e w) ≡ length w
rim-long n a e w = loop_keeps (put_rim n) a (λ (v : List Float). length v ≡ length w) e (λ i v b c h. put-long n i v ∙ h) w refl

put-x : (n k : ℕ) (w : List Float) → 2 * k + 1 < length w → get_or (put_rim n k w) (2 * k) nan ≡ (direction_at n k).x
unfolding put_rim put_point
put-x n k w h =
    get_or-set_other (set w (2 * k) (direction_at n k).x) (2 * k + 1) (2 * k) (direction_at n k).y nan (omega arith)
    ∙ get_or-set_same w (2 * k) (direction_at n k).x nan (omega arith)

put-y : (n k : ℕ) (w : List Float) → 2 * k + 1 < length w → get_or (put_rim n k w) (2 * k + 1) nan ≡ (direction_at n k).y
unfolding put_rim put_point
put-y n k w h =
    get_or-set_same (set w (2 * k) (direction_at n k).x) (2 * k + 1) (direction_at n k).y nan
    (subst (λ (l : ℕ). 2 * k + 1 < l) (sym (length-set w (2 * k) (direction_at n k).x)) h)

-- an earlier entry stays
put_other : (n k i : ℕ) (w : List Float) → i < 2 * k → get_or (put_rim n k w) i nan ≡ get_or w i nan
unfolding put_rim put_point
put_other n k i w h =
    get_or-set_other (set w (2 * k) (direction_at n k).x) (2 * k + 1) i (direction_at n k).y nan (omega arith)
    ∙ get_or-set_other w (2 * k) i (direction_at n k).x nan (omega arith)

-- the first e samples are in the table
record Filled (n e : ℕ) (w : List Float) : Type 0 where
  x : (k : ℕ) → k < e → get_or w (2 * k) nan ≡ (direction_at n k).x
  y : (k : ℕ) → k < e → get_or w (2 * k + 1) nan ≡ (direction_at n k).y

filled_more : (n e : ℕ) (w : List Float) → 2 * e + 1 < length w → Filled n e w → Filled n (suc e) (put_rim n e w)
filled_more n e w h f = record {
  x = λ k b. by_cases (ltb k e)
      (λ t. put_other n e (2 * k) w (omega (arith, ltb-true k e t)) ∙ f.x k (ltb-true k e t))
      (λ t. let z : k ≡ e = omega (arith, ltb-false k e t) in subst (λ (i : ℕ). get_or (put_rim n e w) (2 * i) nan ≡ (direction_at n i).x) (sym z) (put-x n e w h));
  y = λ k b. by_cases (ltb k e)
      (λ t. put_other n e (2 * k + 1) w (omega (arith, ltb-true k e t)) ∙ f.y k (ltb-true k e t))
      (λ t. let z : k ≡ e = omega (arith, ltb-false k e t) in subst (λ (i : ℕ). get_or (put_rim n e w) (2 * i + 1) nan ≡ (direction_at n i).y) (sym z) (put-y n e w h));
}

filled : (n e : ℕ) (w : List Float) → 2 * e ≤ length w → Filled n e (loop (put_rim n) 0 e w)
filled n zero w h = record { x = λ k b. absurd (let z : ⊥ = omega arith in z); y = λ k b. absurd (let z : ⊥ = omega arith in z) }
filled n (suc e) w h =
    subst (Filled n (suc e)) (loop_suc (put_rim n) e w) (filled_more n e (loop (put_rim n) 0 e w) (omega (arith, rim-long n 0 e w)) (filled n e w (omega arith)))

pub rim-is : (n : ℕ) (w v : List Float) → 2 * n ≤ length w → v ≡ rimmed n w → Rim n v
unfolding rimmed
rim-is n w v h e =
    subst (Rim n) (sym e) (record { long = omega (arith, rim-long n 0 n w); x = (filled n n w h).x; y = (filled n n w h).y })

-- the table of as many samples
pub rim-same : {n k : ℕ} {w : List Float} → n ≡ k → Rim n w → Rim k w
rim-same {w = w} e h = subst (λ (i : ℕ). Rim i w) e h

pub put_is : (n k : ℕ) (w : List Float) (u : Vec2) → u ≡ direction_at n k → set (set w (2 * k) u.x) (2 * k + 1) u.y ≡ put_rim n k w
unfolding put_rim put_point
put_is n k w u e = ap (λ (d : Vec2). set (set w (2 * k) d.x) (2 * k + 1) d.y) e

-- ---- hits

pub vec_eq : (x y : Float) (u : Vec2) → x ≡ u.x → y ≡ u.y → v2 x y ≡ u
vec_eq x y u p q = λ i. record { x = p i; y = q i }

pub rim-point : (c : Vec2) (r : Float) (n k : ℕ) (x y : Float) (s p : Vec2) → x ≡ (direction_at n k).x → y ≡ (direction_at n k).y → s ≡ scaled (v2 x y) r → p ≡ sum c s
    → p ≡ rim_at c r (direction_at n k)
unfolding rim_at
rim-point c r n k x y s p a b d e = e ∙ ap (sum c) (d ∙ ap (λ (u : Vec2). scaled u r) (vec_eq x y (direction_at n k) a b))

module _ (g : Grid) (m : List ℕ) (c : Vec2) (r : Float) (n k h : ℕ) where
  pub hit_yes : stock_at g m (rim_at c r (direction_at n k)) ≡ true → h + 1 ≡ hit_at g m c r n k h
  unfolding hit_at
  hit_yes t = rw t

  pub hit_no : stock_at g m (rim_at c r (direction_at n k)) ≡ false → h ≡ hit_at g m c r n k h
  unfolding hit_at
  hit_no t = rw t

hit_more : (g : Grid) (m : List ℕ) (c : Vec2) (r : Float) (n k h : ℕ) → hit_at g m c r n k h ≤ suc h
unfolding hit_at
hit_more g m c r n k h = by_test (λ (i : ℕ). i ≤ suc h) (stock_at g m (rim_at c r (direction_at n k))) (h + 1) h (λ t. omega arith) (λ t. omega arith)

-- no more hits than samples
pub hits-most : (g : Grid) (m : List ℕ) (c : Vec2) (r : Float) (n e : ℕ) → loop (hit_at g m c r n) 0 e 0 ≤ e
hits-most g m c r n zero = subst (λ (h : ℕ). h ≤ 0) (loop-none (hit_at g m c r n) 0 0) (omega arith)
hits-most g m c r n (suc e) =
    subst (λ (h : ℕ). h ≤ suc e) (loop_suc (hit_at g m c r n) e 0)
    (let z = hit_more g m c r n e (loop (hit_at g m c r n) 0 e 0) in omega (arith, hits-most g m c r n e))

pub contact-is : (g : Grid) (m : List ℕ) (c : Vec2) (r : Float) (s n h : ℕ) → n ≡ samples_of s → h ≡ hits_of g m c r n → record { hits = h; samples = n } ≡ rim_contact g m c r s
unfolding rim_contact
contact-is g m c r s n h d e = rw (← d, ← e)

-- of a contact that is measured
pub contact-most : (g : Grid) (m : List ℕ) (c : Vec2) (r : Float) (s : ℕ) → (rim_contact g m c r s).hits ≤ (rim_contact g m c r s).samples
unfolding rim_contact hits_of
contact-most g m c r s = hits-most g m c r (samples_of s) (samples_of s)

pub contact-least : (g : Grid) (m : List ℕ) (c : Vec2) (r : Float) (s : ℕ) → 8 ≤ (rim_contact g m c r s).samples
unfolding rim_contact samples_of
contact-least g m c r s = omega arith
