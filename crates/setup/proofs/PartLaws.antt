-- A run of n places that is lent as a part, and put back. Assumes nothing.
use mathlib.Core.Path.{◌≡◌, refl, sym, ap, ◌∙◌}
use mathlib.Core.List.{List}
use Prim.Native.Nat.{ℕ, ◌+◌, ◌-◌, ◌*◌, ◌≤◌}
use native.Mathlib.Omega.{arith}
use lib.ListN.{length, take, drop}
use borrow.Rule.Slice.PartMut.{put_mid, put_same}
use Rattle.loops.specs.Regions.{within, put}
use Rattle.loops.proofs.RegionLaws.{region-long, put_is, put-length}
use Rattle.setup.specs.Layout.{run, put_run}

module _ {A : Type 0} where
  pub part_is : (k n a e : ℕ) (w : List A) → a ≡ k * n → e ≡ a + n → take (e - a) (drop a w) ≡ run k n w
  unfolding within
  part_is k n a e w p q = ap (λ (z : ℕ). take (z - a) (drop a w)) q ∙ ap (λ (z : ℕ). take (z + n - z) (drop z w)) p

  pub part_long : (k n a e : ℕ) (w : List A) → a ≡ k * n → e ≡ a + n → k * n + n ≤ length w → length (take (e - a) (drop a w)) ≡ n
  part_long k n a e w p q h = region-long a e w (record { start = omega arith; end = omega arith }) ∙ (let z : e - a ≡ n = omega arith in z)

  pub run_long : (k n : ℕ) (w : List A) → k * n + n ≤ length w → length (run k n w) ≡ n
  unfolding within
  run_long k n w h = part_long k n (k * n) (k * n + n) w refl refl h

  pub back_is : (k n a e : ℕ) (w r : List A) → a ≡ k * n → e ≡ a + n → k * n + n ≤ length w → put_mid a (e - a) w r ≡ put_run k n r w
  back_is k n a e w r p q h =
      put_is a e w (record { start = omega arith; end = omega arith }) r r refl
      ∙ ap (λ (z : ℕ). put a z r w) q ∙ ap (λ (z : ℕ). put z (z + n) r w) p

  pub put-run-long : (k n : ℕ) (w r : List A) → k * n + n ≤ length w → length r ≡ n → length (put_run k n r w) ≡ length w
  put-run-long k n w r h e = put-length (k * n) (k * n + n) w r (record { start = omega arith; end = h }) (omega arith)

  -- a run put where it stands
  pub run-same : (k n : ℕ) (w : List A) → k * n + n ≤ length w → put_run k n (run k n w) w ≡ w
  unfolding within
  run-same k n w h = sym (put_is (k * n) (k * n + n) w (record { start = omega arith; end = h }) _ _ refl) ∙ put_same (k * n) (k * n + n - k * n) w
