-- The boxes of a block lie together; the words of all blocks tell so. Assumes nothing.
use mathlib.Core.Path.{◌≡◌, sym, ◌∙◌, subst}
use mathlib.Core.Bool.{not}
use mathlib.Core.List.{List}
use Prim.Native.Nat.{ℕ, ◌+◌, ◌-◌, ◌*◌, ◌/◌, ◌%◌, ◌^◌, ◌≤◌, ◌<◌, min, max, zero-le}
use native.Mathlib.Omega.{arith}
use lib.ListN.{length, get_or, set, take, drop}
use lib.Seq.{get_or-set_other, get_or-take, get_or-drop}
use lib.Dec.{T, ltb}
use lib.Ieee.{Float, nan, binary64, is_nan, of_bits, to_bits}
use borrow.Author.Tests.{ltb-true, ltb-false}
use borrow.Rule.Slice.PartMut.{mid_len}
use Rattle.loops.proofs.Cases.{by_cases}
use Rattle.numbers.proofs.BoundLaws.{bits_number, bits_back}
use Rattle.spans.specs.Spans.{word}
use Rattle.rims.proofs.FirstLaws.{with-last}
use Rattle.rims.specs.Boxes.{Apart, Numbers, Inside, InsideTo, Block, BlocksTo}

-- ---- one block

pub inside-none : (w : List Float) (a b c d : ℕ) → InsideTo w a b c d 0
inside-none w a b c d = record { at = λ i h. absurd (let z : ⊥ = omega arith in z) }

inside-next : (w : List Float) (a b c d k x p q r s : ℕ) → x ≡ word w k → (x ≡ 0 → ⊥) → (p ≤ a) × (p ≤ (x - 1) % 4096) → (b ≤ q) × ((x - 1) % 4096 ≤ q) → (r ≤ c) × (r ≤ (x - 1) / 4096) → (d ≤ s) × ((x - 1) / 4096 ≤ s)
    → InsideTo w a b c d k → InsideTo w p q r s (k + 1)
inside-next w a b c d k x p q r s X some P Q R S H = record {
  at = λ i h. by_cases (ltb i k)
      (λ t.
      let o = H.at i (ltb-true i k t) in
      record { some = o.some; left = omega (arith, o.left, P.0); right = omega (arith, o.right, Q.0); below = omega (arith, o.below, R.0); above = omega (arith, o.above, S.0) })
      (λ t.
      let z : k ≡ i = omega (arith, ltb-false i k t) in
      subst (λ (j : ℕ). Inside p q r s (word w j)) z (subst (Inside p q r s) X (record { some = omega arith; left = P.1; right = Q.1; below = R.1; above = S.1 })));
}

under : (a x p : ℕ) → p ≡ min a x → (p ≤ a) × (p ≤ x)
under a x p e = (omega arith, omega arith)

over : (a x p : ℕ) → p ≡ max a x → (a ≤ p) × (x ≤ p)
over a x p e = (omega arith, omega arith)

-- one more entry: the least and the greatest of all
pub inside_more : (w : List Float) (a b c d k x p q r s : ℕ) → x ≡ word w k → (x ≡ 0 → ⊥) → p ≡ min a ((x - 1) % 4096) → q ≡ max b ((x - 1) % 4096) → r ≡ min c ((x - 1) / 4096) → s ≡ max d ((x - 1) / 4096)
    → InsideTo w a b c d k → InsideTo w p q r s (k + 1)
inside_more w a b c d k x p q r s X some P Q R S H = inside-next w a b c d k x p q r s X some (under _ _ p P) (over _ _ q Q) (under _ _ r R) (over _ _ s S) H

pub block_none : (w : List Float) (a e : ℕ) → (0 < 2 ^ 32) × Block w a e 0
block_none w a e = (omega arith, record { inside = λ d z. absurd (let y : ⊥ = omega arith in y) })

pub block-is : (w : List Float) (a b c d n k : ℕ) → a ≤ 4096 → c ≤ 4096 → b < a + 8 → d < c + 8 → n ≤ k → InsideTo w a b c d k → (c * 4096 + a + 1 < 2 ^ 32) × Block w 0 n (c * 4096 + a + 1)
block-is w a b c d n k A C B D N H = (
  omega arith,
  record {
    inside = λ e z i l h.
        let o = H.at i (omega arith) in
        let u : a ≤ (word w i - 1) % 4096 = o.left in
        record { some = o.some; left = omega arith; right = omega (arith, o.right); below = omega (arith, o.below); above = omega (arith, o.above) };
  },
)

-- ---- a part of the table

module _ (w : List Float) (p q : ℕ) (h : q ≤ length w) where
  abbrev part : List Float
  part = take (q - p) (drop p w)

  part_at : (k : ℕ) → k < length part → get_or part k nan ≡ get_or w (p + k) nan
  part_at k l = get_or-take (q - p) (drop p w) k nan (omega (arith, mid_len p q w h)) ∙ get_or-drop p w k nan

  pub numbers_part : (a e : ℕ) → a ≤ p → q ≤ e → Numbers a e w → Numbers 0 (length part) part
  numbers_part a e b d N = record { at = λ k l o. subst (λ (z : Float). T (not (is_nan z))) (sym (part_at k o)) (N.at (p + k) (omega arith) (omega (arith, mid_len p q w h))) }

  pub block_part : (x : ℕ) → Block part 0 (length part) x → Block w p q x
  block_part x B = record {
    inside = λ d z k l o.
        let i : k - p < length part = omega (arith, mid_len p q w h) in
        let e : p + (k - p) ≡ k = omega arith in
        subst (λ (y : ℕ). Inside (d % 4096) (d % 4096 + 7) (d / 4096) (d / 4096 + 7) (word w y)) e
        (subst (λ (y : Float). Inside (d % 4096) (d % 4096 + 7) (d / 4096) (d / 4096 + 7) (to_bits binary64 y)) (part_at (k - p) i) (B.inside d z (k - p) zero-le i));
  }

-- the places counted otherwise
pub block-at : (w : List Float) (c x p q a e : ℕ) → a ≡ p → e ≡ q → Block w (c + a) (c + e) x → Block w (c + p) (c + q) x
block-at w c x p q a e P Q B = subst (λ (i : ℕ). Block w (c + p) (c + i) x) Q (subst (λ (i : ℕ). Block w (c + i) (c + e) x) P B)

-- ---- all blocks

block_same : (w v : List Float) (a e x : ℕ) → ((k : ℕ) → a ≤ k → k < e → get_or v k nan ≡ get_or w k nan) → Block w a e x → Block v a e x
block_same w v a e x same B = record {
  inside = λ d z k l h. subst (λ (y : Float). Inside (d % 4096) (d % 4096 + 7) (d / 4096) (d / 4096 + 7) (to_bits binary64 y)) (sym (same k l h)) (B.inside d z k l h);
}

module _ (n at : ℕ) (few : n ≤ 2048) where
  pub blocks-none : (w : List Float) → BlocksTo n at 0 w
  blocks-none w = record { number = λ b h. absurd (let z : ⊥ = omega arith in z); block = λ b h. absurd (let z : ⊥ = omega arith in z) }

  pub blocks_end : (m k : ℕ) (w : List Float) → m ≤ k → BlocksTo n at k w → BlocksTo n at m w
  blocks_end m k w h B = record { number = λ b d. B.number b (omega arith); block = λ b d. B.block b (omega arith) }

  -- what is written elsewhere does not matter
  pub blocks-same : (k : ℕ) (w v : List Float) → k ≤ 255 → ((i : ℕ) → at < i → i < at + 2304 → get_or v i nan ≡ get_or w i nan) → BlocksTo n at k w → BlocksTo n at k v
  blocks-same k w v K same B = record {
    number = λ b h. subst (λ (z : Float). T (not (is_nan z))) (sym (same (at + 2049 + b) (omega arith) (omega arith))) (B.number b h);
    block = λ b h.
        subst (λ (z : Float). Block v (at + 1 + 8 * b) (at + 1 + min (8 * b + 8) n) (to_bits binary64 z)) (sym (same (at + 2049 + b) (omega arith) (omega arith)))
        (block_same w v _ _ _ (λ i l o. same i (omega arith) (omega arith)) (B.block b h));
  }

  module _ (k : ℕ) (w : List Float) (x : ℕ) (l : at + 2049 + k < length w) (X : x < 2 ^ 32) where
    abbrev more : List Float
    more = set w (at + 2049 + k) (of_bits binary64 x)

    other : (i : ℕ) → i < at + 2049 + k → get_or more i nan ≡ get_or w i nan
    other i h = get_or-set_other w (at + 2049 + k) i (of_bits binary64 x) nan (omega arith)

    pub blocks_more : Block w (at + 1 + min (8 * k) n) (at + 1 + min (8 * k + 8) n) x → BlocksTo n at k w → BlocksTo n at (k + 1) more
    blocks_more E B = record {
      number = with-last (at + 2049) k w (of_bits binary64 x) l (λ (b : ℕ) (v : Float). T (not (is_nan v))) B.number (bits_number x (omega arith));
      block = with-last (at + 2049) k w (of_bits binary64 x) l (λ (b : ℕ) (v : Float). Block more (at + 1 + 8 * b) (at + 1 + min (8 * b + 8) n) (to_bits binary64 v))
          (λ b h. block_same w more _ _ _ (λ i o u. other i (omega arith)) (B.block b h))
          (subst (Block more (at + 1 + 8 * k) (at + 1 + min (8 * k + 8) n)) (sym (bits_back x (omega arith)))
          (record { inside = λ d z i o u. (block_same w more _ _ _ (λ i o u. other i (omega arith)) E).inside d z i (omega arith) u }));
    }

pub numbers-before : (a e b f : ℕ) (w v : List Float) → e ≤ b → Apart b f w v → Numbers a e w → Numbers a e v
numbers-before a e b f w v h A N = record { at = λ k l o. subst (λ (z : Float). T (not (is_nan z))) (sym (A.before k (omega arith))) (N.at k l o) }
