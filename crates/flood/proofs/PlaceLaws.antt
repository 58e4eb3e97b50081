-- Cells read where the bytes have them, and the farthest open cell. Assumes nothing.
use mathlib.Core.Path.{◌≡◌, refl, sym, ap, ◌∙◌, subst}
use mathlib.Core.Bool.{Bool, true, false, cond, not, ◌&&◌}
use mathlib.Core.List.{List}
use Prim.Native.Nat.{ℕ, ◌+◌, ◌-◌, ◌*◌, ◌<◌}
use native.Mathlib.Omega.{arith}
use lib.ListN.{get_or}
use lib.Seq.{get_or-take, get_or-drop}
use lib.Dec.{eqb}
use lib.Ieee.{Float, nan, lt}
use Rattle.loops.specs.Regions.{within}
use Rattle.loops.proofs.Cases.{by_test}
use Rattle.loops.proofs.LoopLaws.{loop_keeps}
use Rattle.setup.specs.Layout.{run, map_in, allowed_in}
use Rattle.workspace.specs.Standing.{reach_in, abandoned_in}
use Rattle.raster.specs.declared.grid.CellNo.{CellNo}
use Rattle.flood.specs.Place.{open_at, better_of, farther_of, farthest_of}
use Rattle.flood.specs.declared.place.Far.{Far}
use Rattle.std.specs.Prelude.{Option, Some, None}

-- ---- fits setup: a number of a run

pub run_get : {A : Type 0} (d : A) (j n k : ℕ) (w : List A) → k < n → get_or (run j n w) k d ≡ get_or w (j * n + k) d
unfolding within
run_get d j n k w h = get_or-take (j * n + n - j * n) _ _ _ (omega arith) ∙ get_or-drop (j * n) w k d

module _ (b : List ℕ) (n k : ℕ) (h : k < n) where
  -- the byte of cell k in run j, which begins at a
  pub byte_of : (j a : ℕ) → a ≡ j * n → get_or b (a + k) 0 ≡ get_or (run j n b) k 0
  byte_of j a e = ap (λ (i : ℕ). get_or b (i + k) 0) e ∙ sym (run_get 0 j n k b h)

  pub open_is : (reach abandoned : ℕ) → reach ≡ 2 * n → abandoned ≡ 3 * n
      → eqb (get_or b k 0) 1 && (eqb (get_or b (reach + k) 0) 1 && not (eqb (get_or b (abandoned + k) 0) 1)) ≡ open_at (map_in n b) (reach_in n b) (abandoned_in n b) k
  unfolding open_at
  open_is reach abandoned p q =
      ap (λ (x : ℕ). eqb x 1 && (eqb (get_or b (reach + k) 0) 1 && not (eqb (get_or b (abandoned + k) 0) 1))) (ap (λ (i : ℕ). get_or b i 0) (let z : k ≡ 0 + k = omega arith in z) ∙ byte_of 0 0 (omega arith))
      ∙ ap (λ (x : ℕ). eqb (get_or (map_in n b) k 0) 1 && (eqb x 1 && not (eqb (get_or b (abandoned + k) 0) 1))) (byte_of 2 reach p)
      ∙ ap (λ (x : ℕ). eqb (get_or (map_in n b) k 0) 1 && (eqb (get_or (reach_in n b) k 0) 1 && not (eqb x 1))) (byte_of 3 abandoned q)

-- ---- one cell more

pub better_first : (best : Option Far) (f : Far) → best ≡ None → f ≡ better_of f best
unfolding better_of
better_first best f e = rw e refl

pub better_new : (best : Option Far) (f b : Far) → best ≡ Some b → lt b.distance f.distance ≡ true → f ≡ better_of f best
unfolding better_of
better_new best f b p t = rw (p, t) refl

pub better_old : (best : Option Far) (f b : Far) → best ≡ Some b → lt b.distance f.distance ≡ false → b ≡ better_of f best
unfolding better_of
better_old best f b p t = rw (p, t) refl

module _ (b : List ℕ) (wall : List Float) (n k : ℕ) (h : k < n) (a : ℕ) (A : a ≡ 1 * n) (free : Bool) (O : free ≡ open_at (map_in n b) (reach_in n b) (abandoned_in n b) k) (best : Option Far) where
  abbrev now : Option Far
  now = farther_of (map_in n b) (allowed_in n b) (reach_in n b) (abandoned_in n b) wall k best

  abbrev next : ℕ → Far
  next i = record { cell = record { 0 = i }; distance = get_or wall k nan }

  test_is : free && eqb (get_or b (a + k) 0) 1 ≡ open_at (map_in n b) (reach_in n b) (abandoned_in n b) k && eqb (get_or (allowed_in n b) k 0) 1
  test_is = ap (λ (o : Bool). o && eqb (get_or b (a + k) 0) 1) O ∙ ap (λ (x : ℕ). open_at (map_in n b) (reach_in n b) (abandoned_in n b) k && eqb x 1) (byte_of b n k h 1 a A)

  pub farther_new : free && eqb (get_or b (a + k) 0) 1 ≡ true → (c : CellNo) → c.0 ≡ k → (r : Far) → r ≡ better_of (record { cell = c; distance = get_or wall k nan }) best → Some r ≡ now
  unfolding farther_of
  farther_new t c e r q =
      ap Some q ∙ ap (λ (i : ℕ). Some (better_of (next i) best)) e
      ∙ sym (ap (λ (o : Bool). cond o (Some (better_of (next k) best)) best) (sym test_is ∙ t))

  pub farther_old : free && eqb (get_or b (a + k) 0) 1 ≡ false → best ≡ now
  unfolding farther_of
  farther_old t = sym (ap (λ (o : Bool). cond o (Some (better_of (next k) best)) best) (sym test_is ∙ t))

-- ---- the cell that is found is one of the n

abbrev Below : ℕ → Option Far → Type 0
Below n None = Unit
Below n (Some f) = f.cell.0 < n

better_below : (n : ℕ) (f : Far) (best : Option Far) → f.cell.0 < n → Below n best → Below n (Some (better_of f best))
unfolding better_of
better_below n f None h g = h
better_below n f (Some b) h g = by_test (λ (r : Far). r.cell.0 < n) (lt b.distance f.distance) _ _ (λ t. h) (λ t. g)

module _ (map allowed reach gone : List ℕ) (wall : List Float) (n : ℕ) where
  pub farthest_below : (f : Far) → farthest_of map allowed reach gone wall n ≡ Some f → f.cell.0 < n
  unfolding farthest_of farther_of
  farthest_below f e =
      subst (Below n) e
      (loop_keeps (farther_of map allowed reach gone wall) 0 (Below n) n
      (λ k best a h g. by_test (Below n) (open_at map reach gone k && eqb (get_or allowed k 0) 1) _ _ (λ t. better_below n (record { cell = record { 0 = k }; distance = get_or wall k nan }) best h g) (λ t. g)) None tt)
