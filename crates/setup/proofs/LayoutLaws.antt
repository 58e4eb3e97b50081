-- No two regions of the workspace share a place, and each lies within what is lent. What is written to one run of n places is there, and every other run is as it was.
-- Assumes nothing.
use mathlib.Core.Path.{◌≡◌}
use mathlib.Core.List.{List, [], ◌∷◌}
use Prim.Native.Nat.{ℕ, zero, suc, ◌+◌, ◌*◌, ◌≤◌, ◌<◌}
use native.Mathlib.Omega.{arith}
use native.Mathlib.Nat.{mul-le-mul_right, suc-mul}
use lib.ListN.{length, get_or}
use lib.Dec.{ltb}
use borrow.Author.Tests.{ltb-true, ltb-false}
use Rattle.loops.specs.Regions.{Fits}
use Rattle.loops.proofs.RegionLaws.{put_back, put-before, put-after}
use Rattle.loops.proofs.Cases.{by_cases}
use Rattle.setup.specs.Layout.{Region, at, Apart, bytes, words, singles, doubles, run, put_run}

pub bytes_apart : (n : ℕ) → Apart 0 (bytes n) (8 * n)
unfolding bytes
bytes_apart n = (omega arith, (omega arith, (omega arith, (omega arith, (omega arith, (omega arith, (omega arith, omega arith)))))))

pub words-apart : (n : ℕ) → Apart 0 (words n) (32 * n + 8192)
unfolding words
words-apart n = (omega arith, (omega arith, (omega arith, (omega arith, (omega arith, (omega arith, (omega arith, (omega arith, omega arith))))))))

pub singles-apart : (n : ℕ) → Apart 0 (singles n) (2 * n)
unfolding singles
singles-apart n = (omega arith, (omega arith, omega arith))

pub doubles-apart : (n : ℕ) → Apart 0 (doubles n) (32 * n + 8192)
unfolding doubles
doubles-apart n = (omega arith, (omega arith, (omega arith, (omega arith, (omega arith, (omega arith, (omega arith, (omega arith, omega arith))))))))

abbrev nowhere : Region
nowhere = at 0 0

-- ---- of regions that are apart

apart_low : (from : ℕ) (rs : List Region) (size i : ℕ) → Apart from rs size → i < length rs → from ≤ (get_or rs i nowhere).start
apart_low from [] size i h b = absurd (let z : ⊥ = omega arith in z)
apart_low from (r ∷ rs) size zero h b = h.0
apart_low from (r ∷ rs) size (suc i) h b = let d = apart_low (r.start + r.long) rs size i h.1 (omega arith) in let f = h.0 in omega arith

-- an earlier one ends before a later one begins
pub apart-order : (from : ℕ) (rs : List Region) (size i j : ℕ) → Apart from rs size → i < j → j < length rs → (get_or rs i nowhere).start + (get_or rs i nowhere).long ≤ (get_or rs j nowhere).start
apart-order from [] size i j h o b = absurd (let z : ⊥ = omega arith in z)
apart-order from (r ∷ rs) size zero zero h o b = absurd (let z : ⊥ = omega arith in z)
apart-order from (r ∷ rs) size zero (suc j) h o b = apart_low (r.start + r.long) rs size j h.1 (omega arith)
apart-order from (r ∷ rs) size (suc i) zero h o b = absurd (let z : ⊥ = omega arith in z)
apart-order from (r ∷ rs) size (suc i) (suc j) h o b = apart-order (r.start + r.long) rs size i j h.1 (omega arith) (omega arith)

apart_size : (from : ℕ) (rs : List Region) (size : ℕ) → Apart from rs size → from ≤ size
apart_size from [] size h = h
apart_size from (r ∷ rs) size h = let d = apart_size (r.start + r.long) rs size h.1 in let f = h.0 in omega arith

-- each one fits
pub apart_fits : (from : ℕ) (rs : List Region) (size i : ℕ) → Apart from rs size → i < length rs → (get_or rs i nowhere).start + (get_or rs i nowhere).long ≤ size
apart_fits from [] size i h b = absurd (let z : ⊥ = omega arith in z)
apart_fits from (r ∷ rs) size zero h b = apart_size (r.start + r.long) rs size h.1
apart_fits from (r ∷ rs) size (suc i) h b = apart_fits (r.start + r.long) rs size i h.1 (omega arith)

-- ---- of runs of n places

module _ {A : Type 0} (n : ℕ) (w r : List A) (l : length r ≡ n) where
  run_fits : (k : ℕ) → k * n + n ≤ length w → Fits (k * n) (k * n + n) w
  run_fits k h = record { start = omega arith; end = h }

  pub run-put : (k : ℕ) → k * n + n ≤ length w → run k n (put_run k n r w) ≡ r
  run-put k h = put_back (k * n) (k * n + n) w r (run_fits k h) (omega arith)

  pub run_other : (k j : ℕ) → k * n + n ≤ length w → (j ≡ k → ⊥) → run j n (put_run k n r w) ≡ run j n w
  run_other k j h d = by_cases (ltb j k)
      (λ b. put-before (k * n) (k * n + n) w r (run_fits k h) (omega arith) (j * n) (j * n + n) (omega arith)
      (omega (arith, mul-le-mul_right n (ltb-true j k b), suc-mul j n)))
      (λ b. put-after (k * n) (k * n + n) w r (run_fits k h) (omega arith) (j * n) (j * n + n)
      (let o : k < j = by_cases (ltb k j) (ltb-true k j) (λ c. absurd (d (omega (arith, ltb-false j k b, ltb-false k j c)))) in
      omega (arith, mul-le-mul_right n o, suc-mul k n)))
