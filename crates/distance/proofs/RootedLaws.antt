-- The roots of a list of squares. Assumes nothing.
use mathlib.Core.Path.{◌≡◌, refl, sym, ◌∙◌, subst}
use mathlib.Core.Logic.{⊎_elim}
use mathlib.Core.List.{List}
use Prim.Native.Nat.{ℕ, ◌+◌, ◌≤◌, ◌<◌}
use native.Mathlib.Omega.{arith}
use lib.ListN.{length, get_or, set, drop, length-drop}
use lib.Seq.{get_or-set_same, get_or-set_other, get_or-drop}
use lib.Ieee.{Float, nan}
use Rattle.distance.specs.Rooted.{rooted_of, distances_of}
use Rattle.distance.specs.Nearest.{listed}
use Rattle.distance.proofs.NumberLaws.{lt_or_le}
use Rattle.distance.proofs.NearestLaws.{listed-long, listed_at, two_parts}

-- the first n numbers of t are the distances of the squares of q, and the rest of s is kept
pub record Rooted (n : ℕ) (q : List ℕ) (s t : List Float) : Type 0 where
  pub root : (k : ℕ) → k < n → get_or t k nan ≡ rooted_of (get_or q k 0)
  pub rest : (k : ℕ) → n ≤ k → get_or t k nan ≡ get_or s k nan

pub rooted_none : (q : List ℕ) (s : List Float) → Rooted 0 q s s
rooted_none q s = record { root = λ k a. absurd (let z : ⊥ = omega arith in z); rest = λ k a. refl }

pub rooted_more : (n : ℕ) (q : List ℕ) (s t : List Float) (v : Float) → Rooted n q s t → n < length t → v ≡ rooted_of (get_or q n 0) → Rooted (n + 1) q s (set t n v)
rooted_more n q s t v r l e = record {
  root = λ k a. ⊎_elim
      (λ b. get_or-set_other t n k v nan (λ z. omega arith) ∙ r.root k b)
      (λ b. let z : n ≡ k = omega arith in subst (λ (i : ℕ). get_or (set t n v) i nan ≡ rooted_of (get_or q i 0)) z (get_or-set_same t n v nan l ∙ e))
      (lt_or_le k n);
  rest = λ k a. get_or-set_other t n k v nan (λ z. omega arith) ∙ r.rest k (omega arith);
}

pub rooted-same : {n l : ℕ} {q : List ℕ} {s t : List Float} → n ≡ l → Rooted n q s t → Rooted l q s t
rooted-same {n} {l} {q} {s} {t} e r = subst (λ (i : ℕ). Rooted i q s t) e r

-- the lent slice as a whole
pub distances_are : (n : ℕ) (q : List ℕ) (s t : List Float) → n ≤ length s → length t ≡ length s → Rooted n q s t → t ≡ distances_of n q s
unfolding distances_of
distances_are n q s t long same r = two_parts nan t (listed n (λ k. rooted_of (get_or q k 0))) (drop n s)
    (simp length-drop (omega (arith, listed-long (λ k. rooted_of (get_or q k 0)) nan n)))
    (λ k h. let b : k < n = omega (arith, listed-long (λ k. rooted_of (get_or q k 0)) nan n) in r.root k b ∙ sym (listed_at (λ k. rooted_of (get_or q k 0)) nan n k b))
    (λ k h. rw (listed-long (λ k. rooted_of (get_or q k 0)) nan n) (r.rest (n + k) (omega arith) ∙ sym (get_or-drop n s k nan)))
