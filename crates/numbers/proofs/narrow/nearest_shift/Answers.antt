-- `numbers::narrow::nearest_shift` meets its contract: `1 << (d - 1)` is half of 2 ^ d. Assumes nothing.
use Rattle.std.proofs.Common.{◌≡◌, ℕ, suc, ◌+◌, ◌-◌, ◌*◌, ◌/◌, ◌%◌, ◌^◌, ◌<◌, ◌≤◌, sym, ap, ◌∙◌, subst, arith, pow_pos, pow_mono}
use native.Mathlib.Nat.{pow-succ'}
use lib.Ieee.Nearest.{closest}
use Rattle.numbers.proofs.PartLaws.{one_shl}
use Rattle.numbers.proofs.ShiftLaws.{by_sum}
use Rattle.numbers.proofs.narrow.nearest_shift.Goals as goal

-- what stands in the code for the half
abbrev shifted : ℕ → ℕ
shifted d = 1 * 2 ^ (d - 1) % 2 ^ 64

module _ (d : ℕ) (lo : 0 < d) (hi : d < 64) where
  half : shifted d ≡ 2 ^ (d - 1)
  half = one_shl (d - 1) (let h : d - 1 < 64 = omega arith in h)

  some : 0 < shifted d
  some = subst (λ (k : ℕ). 0 < k) (sym half) (pow_pos (d - 1))

  few : shifted d ≤ 2 ^ 62
  few = subst (λ (k : ℕ). k ≤ 2 ^ 62) (sym half) (pow_mono (at_most d hi))
    where
      at_most : (d : ℕ) → d < 64 → d - 1 ≤ 62
      at_most d h = omega arith

  whole : 2 ^ d ≡ shifted d + shifted d
  whole = ap (λ (k : ℕ). 2 ^ k) (back d lo) ∙ pow-succ' 2 (d - 1) ∙ twice (2 ^ (d - 1)) ∙ ap (λ (k : ℕ). k + k) (sym half)
    where
      back : (d : ℕ) → 0 < d → d ≡ suc (d - 1)
      back d h = omega arith

      twice : (p : ℕ) → 2 * p ≡ p + p
      twice p = omega arith

pub returns : goal.returns
returns c = let m = c.args.m in
    let d = c.args.d in
    let h = shifted d in
    let w : 2 ^ d ≡ h + h = whole d c.requires.d_nonzero c.requires.d_bound in
    subst (λ (u : ℕ). (m + (h - 1) + m / u % 2) / u ≡ closest m u) (sym w) (by_sum m h (some d c.requires.d_nonzero c.requires.d_bound))
