-- What the proofs of centres.rt cite: columns in order. Assumes nothing.
use mathlib.Core.Path.{◌≡◌, refl, sym, ◌∙◌, subst}
use mathlib.Core.Bool.{true, false, true≢false}
use mathlib.Core.List.{List}
use Prim.Native.Nat.{ℕ, zero, suc, ◌+◌, ◌-◌, ◌≤◌, ◌<◌}
use native.Mathlib.Omega.{arith}
use lib.ListN.{length, get_or, set, length-set}
use lib.Seq.{get_or-set_same, get_or-set_other}
use lib.Dec.{ltb}
use lib.Ieee.{Float, nan, lt, le}
use borrow.Author.Tests.{ltb-true, ltb-false}
use Rattle.loops.proofs.Cases.{by_cases}
use Rattle.floats.proofs.OrderLaws.{le_lt}
use Rattle.raster.specs.declared.grid.Grid.{Grid}
use Rattle.filling.specs.Columns.{Skipped, column_x, Centred, Rising, Past, Before}

-- ---- the centres of the columns below k are there

pub record Centring (g : Grid) (n : ℕ) (xs : List Float) (k : ℕ) : Type 0 where
  pub long : length xs ≡ n
  pub high : k ≤ n
  pub at : (i : ℕ) → i < k → get_or xs i nan ≡ column_x g i

pub centring_none : (g : Grid) (xs : List Float) → Centring g (length xs) xs 0
centring_none g xs = record { long = refl; high = omega arith; at = λ i h. absurd (let z : ⊥ = omega arith in z) }

pub centring_more : (g : Grid) (n : ℕ) (xs : List Float) (k : ℕ) (v : Float) → Centring g n xs k → k < n → v ≡ column_x g k → Centring g n (set xs k v) (k + 1)
centring_more g n xs k v c h e = record {
  long = length-set xs k v ∙ c.long;
  high = omega arith;
  at = λ i b. by_cases (ltb i k)
      (λ u. let l = ltb-true i k u in get_or-set_other xs k i v nan (λ z. omega arith) ∙ c.at i l)
      (λ u. let z : i ≡ k = omega (arith, ltb-false i k u) in rw z (get_or-set_same xs k v nan (omega (arith, c.long)) ∙ e));
}

pub centring_end : (g : Grid) (n : ℕ) (xs : List Float) (k : ℕ) → Centring g n xs k → n ≡ g.nx → n ≤ k → Centred g xs
centring_end g n xs k c e h = record { long = c.long ∙ e; at = λ i l. c.at i (omega arith) }

-- ---- no column is left of the one before it

module _ (xs : List Float) (steps : (k : ℕ) → k + 1 < length xs → le (get_or xs k nan) (get_or xs (k + 1) nan) ≡ true) where
  climb : (d k : ℕ) (x : Float) → k + d < length xs → lt (get_or xs (k + d) nan) x ≡ true → lt (get_or xs k nan) x ≡ true
  climb zero k x h e = subst (λ (j : ℕ). lt (get_or xs j nan) x ≡ true) (let z : k + zero ≡ k = omega arith in z) e
  climb (suc d) k x h e =
      climb d k x (omega arith)
      (le_lt (get_or xs (k + d) nan) (get_or xs (k + d + 1) nan) x (steps (k + d) (omega arith))
      (subst (λ (j : ℕ). lt (get_or xs j nan) x ≡ true) (let z : k + suc d ≡ k + d + 1 = omega arith in z) e))

  pub rising-steps : Rising xs
  rising-steps = record {
    at = λ k m x h b e. climb (m - k) k x (omega arith) (subst (λ (j : ℕ). lt (get_or xs j nan) x ≡ true) (let z : m ≡ k + (m - k) = omega arith in z) e);
  }

module _ (xs : List Float) (x : Float) (k : ℕ) where
  pub past-at : k < length xs → lt (get_or xs k nan) x ≡ false → Past xs x k
  past-at h e = record { most = omega arith; past = λ l. e }

  pub past_all : k ≤ length xs → length xs ≤ k → Past xs x k
  past_all h l = record { most = h; past = λ b. absurd (let z : ⊥ = omega arith in z) }

  -- column k is not left of x, and the one before it is
  pub before_of_lem : Rising xs → Past xs x k → (0 < k → lt (get_or xs (k - 1) nan) x ≡ true) → Before xs x k
  before_of_lem r p last = record {
    most = p.most;
    at = λ i h. by_cases (ltb i k)
        (λ u. let l = ltb-true i k u in let m = p.most in r.at i (k - 1) x (omega arith) (omega arith) (last (omega arith)) ∙ sym u)
        (λ u.
        let l = ltb-false i k u in
        by_cases (lt (get_or xs i nan) x)
        (λ e. absurd (true≢false (sym (r.at k i x l h e) ∙ p.past (omega arith))))
        (λ e. e ∙ sym u));
  }

-- ---- columns that are left of x so far

module _ (xs : List Float) (x : Float) (a : ℕ) where
  pub skipped-none : Skipped xs x a a
  skipped-none = record { at = λ i h k. absurd (let z : ⊥ = omega arith in z) }

  pub skipped-more : (e : ℕ) → Skipped xs x a e → lt (get_or xs e nan) x ≡ true → Skipped xs x a (e + 1)
  skipped-more e s l = record {
    at = λ i h k. by_cases (ltb i e)
        (λ u. s.at i h (ltb-true i e u))
        (λ u. let z : i ≡ e = omega (arith, ltb-false i e u) in rw z l);
  }

  pub skipped-to : (e f : ℕ) → Skipped xs x a e → f ≤ e → Skipped xs x a f
  skipped-to e f s h = record { at = λ i g k. s.at i g (omega arith) }
