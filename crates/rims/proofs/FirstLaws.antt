-- The first number of a cell tells whether another is of the cells from it on; a table that was written keeps the rest of its slice. Assumes nothing.
use mathlib.Core.Path.{◌≡◌, refl, sym, ◌∙◌, ap, subst}
use mathlib.Core.Bool.{true, false, not}
use mathlib.Core.List.{List}
use Prim.Native.Nat.{ℕ, ◌+◌, ◌-◌, ◌*◌, ◌^◌, ◌≤◌, ◌<◌}
use native.Mathlib.Omega.{arith}
use lib.ListN.{length, get_or, set, length-set}
use lib.Seq.{get_or-set_same, get_or-set_other}
use lib.Dec.{T, ltb}
use lib.Ieee.{Float, nan, inf, fin, binary64, is_nan, of_bits, to_bits, div, lt, eq, le}
use lib.Ieee.Bits.{of_bits-fits}
use borrow.Author.Tests.{ltb-true, ltb-false}
use Rattle.loops.proofs.Cases.{by_cases, never}
use Rattle.floats.proofs.DivMono as DivMono
use Rattle.floats.proofs.NextLaws.{none_between}
use Rattle.floats.proofs.OrderLaws.{le_le, le_lt, le_numbers, lt_not_le, not_le_lt}
use Rattle.floats.proofs.SignLaws.{number}
use Rattle.numbers.specs.Cast.{float}
use Rattle.numbers.proofs.BoundLaws.{bits_number, bits_back, bits_unsigned}
use Rattle.raster.specs.Grid.{Sides}
use Rattle.raster.specs.declared.grid.Grid.{Grid}
use Rattle.spans.proofs.MonoLaws.{Size, size_unsigned, over_size}
use Rattle.spans.specs.Spans.{word}
use Rattle.rims.specs.Boxes.{Apart, First, FirstsTo, Started}

-- ---- the first number of a cell

no_share : (f q cell : Float) → is_nan q ≡ true → le f (div binary64 q cell) ≡ false
unfolding is_nan div le lt eq
no_share nan nan cell h = refl
no_share (inf s) nan cell h = refl
no_share (fin s m e) nan cell h = refl
no_share f (inf s) cell h = never h
no_share f (fin s m e) cell h = never h

module _ (cell : Float) (S : Size cell) where
  size_mono : (x y : Float) → le x y ≡ true → le (div binary64 x cell) (div binary64 y cell) ≡ true
  size_mono x y h =
      let n = le_numbers x y h in
      DivMono.div_mono binary64 x y cell (size_unsigned cell S) h (over_size x cell S n.0) (over_size y cell S n.1)

  module _ (m b : ℕ) (some : 0 < b) (few : b < 2047 * 2 ^ 52) (f : Float) (is : f ≡ float m) where
    abbrev here : Float
    here = of_bits binary64 b

    abbrev before : Float
    before = of_bits binary64 (b - 1)

    follows : to_bits binary64 here ≡ to_bits binary64 before + 1
    follows = let p = bits_back b few in let q = bits_back (b - 1) (omega arith) in omega arith

    pub first-is : lt (div binary64 before cell) f ≡ true → le f (div binary64 here cell) ≡ true → First cell m here
    first-is low high = record {
      at = λ q Q. subst (λ (z : Float). le here q ≡ le z (div binary64 q cell)) is
          (by_cases (le here q)
          (λ t. t ∙ sym (le_le f (div binary64 here cell) (div binary64 q cell) high (size_mono here q t)))
          (λ t. by_cases (is_nan q) (λ n. t ∙ sym (no_share f q cell n))
          (λ n.
          let k : lt q here ≡ true = not_le_lt q here n (number here (bits_unsigned b few)) t in
          let l : le q before ≡ true =
          none_between binary64 before here q (of_bits-fits binary64 (b - 1)) (of_bits-fits binary64 b) Q (bits_unsigned (b - 1) (omega arith)) follows k in
          t ∙ sym (lt_not_le (div binary64 q cell) f (le_lt (div binary64 q cell) (div binary64 before cell) f (size_mono q before l) low)))));
    }

-- ---- the rest of a slice

module _ (a e : ℕ) where
  pub apart_none : (w : List Float) → Apart a e w w
  apart_none w = record { long = refl; before = λ k h. refl; after = λ k h. refl }

  pub apart-set : (w v : List Float) (k : ℕ) (x : Float) → a ≤ k → k < e → Apart a e w v → Apart a e w (set v k x)
  apart-set w v k x h l A = record {
    long = length-set v k x ∙ A.long;
    before = λ i b. get_or-set_other v k i x nan (omega arith) ∙ A.before i b;
    after = λ i b. get_or-set_other v k i x nan (omega arith) ∙ A.after i b;
  }

  pub apart_more : (w v u : List Float) → Apart a e w v → Apart a e v u → Apart a e w u
  apart_more w v u A B = record {
    long = B.long ∙ A.long;
    before = λ i b. B.before i b ∙ A.before i b;
    after = λ i b. B.after i b ∙ A.after i b;
  }

  pub apart-wider : (b f : ℕ) (w v : List Float) → b ≤ a → e ≤ f → Apart a e w v → Apart b f w v
  apart-wider b f w v h k A = record { long = A.long; before = λ i l. A.before i (omega arith); after = λ i l. A.after i (omega arith) }

-- what holds of the k numbers from place p on and of the one that is set behind them holds of all
pub with-last : (p k : ℕ) (w : List Float) (x : Float) → p + k < length w → (P : ℕ → Float → Type 0) → ((i : ℕ) → i < k → P i (get_or w (p + i) nan)) → P k x → (i : ℕ) → i < k + 1 → P i (get_or (set w (p + k) x) (p + i) nan)
with-last p k w x l P h q i d = by_cases (ltb i k)
    (λ t. subst (P i) (sym (get_or-set_other w (p + k) (p + i) x nan (omega (arith, ltb-true i k t)))) (h i (ltb-true i k t)))
    (λ t.
    let z : k ≡ i = omega (arith, ltb-false i k t) in
    subst (λ (j : ℕ). P j (get_or (set w (p + k) x) (p + j) nan)) z (subst (P k) (sym (get_or-set_same w (p + k) x nan l)) q))

-- ---- the first numbers of all cells

module _ (cell : Float) where
  pub firsts-none : (w : List Float) → FirstsTo cell 1 w
  firsts-none w = record { at = λ m a b. absurd (let z : ⊥ = omega arith in z) }

  pub firsts_more : (n : ℕ) (w : List Float) (x : Float) → 8193 + n < length w → First cell n x → FirstsTo cell n w → FirstsTo cell (n + 1) (set w (8193 + n) x)
  firsts_more n w x l F H = record { at = λ m a b. with-last 8193 n w x l (λ (i : ℕ) (v : Float). 0 < i → First cell i v) (λ i h o. H.at i o h) (λ o. F) m b a }

  pub firsts-end : (n k : ℕ) (w : List Float) → n ≤ k → FirstsTo cell k w → FirstsTo cell n w
  firsts-end n k w h H = record { at = λ m a b. H.at m a (omega arith) }

  -- what is written elsewhere does not matter
  pub firsts_same : (n : ℕ) (w v : List Float) → n ≤ 4096 → ((k : ℕ) → 8193 ≤ k → k < 12289 → get_or v k nan ≡ get_or w k nan) → FirstsTo cell n w → FirstsTo cell n v
  firsts_same n w v h same H = record { at = λ m b d. subst (First cell m) (sym (same (8193 + m) (omega arith) (omega arith))) (H.at m b d) }

  pub firsts_after : (n a e : ℕ) (w v : List Float) → n ≤ 4096 → 12289 ≤ a → Apart a e w v → FirstsTo cell n w → FirstsTo cell n v
  firsts_after n a e w v h k A = firsts_same n w v h (λ i b d. A.before i (omega arith))

  firsts-flag : (n : ℕ) (w : List Float) (x : Float) → FirstsTo cell n w → FirstsTo cell n (set w 8192 x)
  firsts-flag n w x H = record { at = λ m b d. subst (First cell m) (sym (get_or-set_other w 8192 (8193 + m) x nan (omega arith))) (H.at m b d) }

-- ---- the table of first numbers

abbrev nought : Float
nought = of_bits binary64 0

module _ (g : Grid) (w : List Float) where
  -- a slice that is too short for tables
  pub started-short : length w < 17152 → Apart 8192 12289 w w × Started g w
  started-short h = (apart_none 8192 12289 w, record { told = λ l. absurd (let z : ⊥ = omega arith in z) })

  module _ (v : List Float) (l : 17152 ≤ length w) (A : Apart 8193 12289 (set w 8192 nought) v) where
    pub started-long : length v ≡ length w
    started-long = A.long ∙ length-set w 8192 nought

    started-apart : Apart 8192 12289 w v
    started-apart = apart_more 8192 12289 w (set w 8192 nought) v (apart-set 8192 12289 w w 8192 nought (omega arith) (omega arith) (apart_none 8192 12289 w)) (apart-wider 8193 12289 8192 12289 (set w 8192 nought) v (omega arith) (omega arith) A)

    flag-none : get_or v 8192 nan ≡ nought
    flag-none = A.before 8192 (omega arith) ∙ get_or-set_same w 8192 nought nan (omega arith)

    pub started-no : Apart 8192 12289 w v × Started g v
    started-no = (
      started-apart,
      record {
        told = λ h. record {
          number = subst (λ (z : Float). T (not (is_nan z))) (sym flag-none) (bits_number 0 (omega arith));
          columns = λ h. absurd (let e = ap (to_bits binary64) flag-none ∙ bits_back 0 (omega arith) in let z : ⊥ = omega arith in z);
          rows = λ h. absurd (let e = ap (to_bits binary64) flag-none ∙ bits_back 0 (omega arith) in let z : ⊥ = omega arith in z);
        };
      },
    )

    pub started-yes : (n : ℕ) → g.nx ≤ n → g.ny ≤ n → FirstsTo g.cell n v → Apart 8192 12289 w (set v 8192 (of_bits binary64 1)) × Started g (set v 8192 (of_bits binary64 1))
    started-yes n X Y F = (
      apart-set 8192 12289 w v 8192 (of_bits binary64 1) (omega arith) (omega arith) started-apart,
      record {
        told = λ h. record {
          number = subst (λ (z : Float). T (not (is_nan z))) (sym (get_or-set_same v 8192 (of_bits binary64 1) nan (omega (arith, started-long)))) (bits_number 1 (omega arith));
          columns = λ h. firsts-flag g.cell g.nx v (of_bits binary64 1) (firsts-end g.cell g.nx n v X F);
          rows = λ h. firsts-flag g.cell g.ny v (of_bits binary64 1) (firsts-end g.cell g.ny n v Y F);
        };
      },
    )

-- what is written behind the first numbers does not matter
pub started-after : (g : Grid) (S : Sides g) (a e : ℕ) (w v : List Float) → 12289 ≤ a → Apart a e w v → Started g w → Started g v
started-after g S a e w v h A s = record {
  told = λ l.
      let t = s.told (omega (arith, A.long)) in
      let flag : get_or w 8192 nan ≡ get_or v 8192 nan = sym (A.before 8192 (omega arith)) in
      let same : word w 8192 ≡ word v 8192 = ap (to_bits binary64) flag in
      record {
        number = subst (λ (z : Float). T (not (is_nan z))) flag t.number;
        columns = λ k. firsts_after g.cell g.nx a e w v S.columns h A (t.columns (omega arith));
        rows = λ k. firsts_after g.cell g.ny a e w v S.rows h A (t.rows (omega arith));
      };
}
