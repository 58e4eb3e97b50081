-- The hole's way through the heap, a step up or down at a time, and what the heap holds once the entry is put in. Assumes nothing.
use mathlib.Core.Path.{◌≡◌, refl, sym, ap, ◌∙◌, subst}
use mathlib.Core.Bool.{Bool, true, false}
use mathlib.Core.List.{List}
use Prim.Native.Nat.{ℕ, zero, suc, ◌+◌, ◌*◌, ◌≤◌, ◌<◌}
use native.Mathlib.Omega.{arith}
use lib.ListN.{length, set, length-set}
use lib.Seq.{get_or-set_same, get_or-set_other}
use lib.Ieee.{Float, nan}
use Rattle.links.specs.declared.heap.Entry.{Entry}
use Rattle.links.specs.Heap.{before_of, one, count_to, parent, Ordered, entry_at, SameLong}
use Rattle.links.specs.Sift.{Rising, Sinking, Lesser}
use Rattle.links.proofs.OrderLaws.{before_same, before-once, not_before}
use Rattle.links.proofs.OpenLaws.{which, Put, to-put, to_more}

-- a pair of stores puts an entry
pub stores : (ests : List Float) (nodes : List ℕ) (k : ℕ) (e : Entry) → k < length ests → k < length nodes → Put (entry_at ests nodes) (entry_at (set ests k e.est) (set nodes k e.node.0)) k e
unfolding entry_at
stores ests nodes k e h l = record {
  here = rw (get_or-set_same ests k e.est nan h, get_or-set_same nodes k e.node.0 0 l);
  there = λ i d. rw (get_or-set_other ests k i e.est nan d, get_or-set_other nodes k i e.node.0 0 d);
}

module _ (ests : List Float) (nodes : List ℕ) where
  pub kept-none : SameLong ests nodes ests nodes
  kept-none = record { ests_long = refl; nodes-long = refl }

  pub kept_more : (ests' : List Float) (nodes' : List ℕ) (k : ℕ) (x : Float) (v : ℕ) → SameLong ests nodes ests' nodes' → SameLong ests nodes (set ests' k x) (set nodes' k v)
  kept_more ests' nodes' k x v h = record { ests_long = length-set ests' k x ∙ h.ests_long; nodes-long = length-set nodes' k v ∙ h.nodes-long }

-- an entry that was written: what holds after the stores holds then
pub written : (P : List Float → List ℕ → Type 0) (ests : List Float) (nodes : List ℕ) (k : ℕ) (e : Entry) (ests' : List Float) (nodes' : List ℕ)
    → (ests' ≡ set ests k e.est) × (nodes' ≡ set nodes k e.node.0) → P (set ests k e.est) (set nodes k e.node.0) → P ests' nodes'
written P ests nodes k e ests' nodes' w p = subst (λ (x : List Float). P x nodes') (sym w.0) (subst (P (set ests k e.est)) (sym w.1) p)

-- that x does not come before y, said of entries equal to them
same-no : {x x' y y' : Entry} → x' ≡ x → y' ≡ y → before_of x y ≡ false → before_of x' y' ≡ false
same-no {x} {x'} {y} {y'} p q h = rw (p, q) h

-- ---- up

module _ (f₀ : ℕ → Entry) (n : ℕ) (e : Entry) where
  pub rising_none : Ordered f₀ n → Rising f₀ f₀ n e n
  rising_none o = record {
    high = omega arith;
    all = λ p. omega (arith, to_more p f₀ n);
    order = λ i h l m. o.order i h (omega arith);
    under = λ i h l m. absurd (let z : ⊥ = omega arith in z);
  }

  module _ (f g : ℕ → Entry) (k : ℕ) (r : Rising f₀ f n e k) where
    -- e comes before k's parent, which moves down to k
    pub rising_more : 0 < k → before_of e (f (parent k)) ≡ true → Put f g k (f (parent k)) → Rising f₀ g n e (parent k)
    rising_more low b w =
        let h = r.high in
        let up : g (parent k) ≡ f (parent k) = w.there (parent k) (λ d. omega arith) in
        record {
          high = omega arith;
          all = λ p. omega (arith, to-put p f g k (f (parent k)) w (n + 1) (omega arith), r.all p, ap (one p) up);
          order = λ i a l m. which i k
              (λ d. same-no (ap g d ∙ w.here) (ap (λ (j : ℕ). g (parent j)) d ∙ up) (before_same (f (parent k))))
              (λ d. which (parent i) k
              (λ q. same-no (w.there i d) (ap g q ∙ w.here)
              (not_before (f (parent k)) (f k) (f i) (r.order k low h (omega arith)) (subst (λ (j : ℕ). before_of (f i) (f j) ≡ false) q (r.order i a l (omega arith)))))
              (λ q. same-no (w.there i d) (w.there (parent i) q) (r.order i a l (omega arith))));
          under = λ i a l q. which i k
              (λ d. same-no (ap g d ∙ w.here) refl (before-once e (f (parent k)) b))
              (λ d. same-no (w.there i d) refl
              (not_before e (f (parent k)) (f i) (before-once e (f (parent k)) b) (subst (λ (j : ℕ). before_of (f i) (f j) ≡ false) q (r.order i a l (omega arith)))));
        }

    -- e stays at k
    pub rising-end : (0 < k → before_of e (f (parent k)) ≡ false) → Put f g k e → Ordered g (n + 1)
    rising-end s w = record {
      order = λ i a l. which i k
          (λ d. same-no (ap g d ∙ w.here) (w.there (parent i) (λ q. omega arith) ∙ ap (λ (j : ℕ). f (parent j)) d) (s (omega arith)))
          (λ d. which (parent i) k
          (λ q. same-no (w.there i d) (ap g q ∙ w.here) (r.under i a (omega arith) q))
          (λ q. same-no (w.there i d) (w.there (parent i) q) (r.order i a (omega arith) (omega (arith, r.high)))));
    }

    pub rising-all : Put f g k e → (p : Entry → Bool) → count_to p g (n + 1) ≡ count_to p f₀ n + one p e
    rising-all w p = omega (arith, to-put p f g k e w (n + 1) (omega (arith, r.high)), r.all p)

-- a turn of `rise`: f, read at k's parent, is written at k
module _ (ests₀ : List Float) (nodes₀ : List ℕ) (n : ℕ) (e : Entry) (ests : List Float) (nodes : List ℕ) (k : ℕ) (s : SameLong ests₀ nodes₀ ests nodes)
    (r : Rising (entry_at ests₀ nodes₀) (entry_at ests nodes) n e k) (f : Entry) (F : f ≡ entry_at ests nodes (parent k)) (b : Bool) (B : b ≡ before_of e f) where
  pub rise_stop : b ≡ false → before_of e (entry_at ests nodes (parent k)) ≡ false
  rise_stop h = subst (λ (x : Entry). before_of e x ≡ false) F (sym B ∙ h)

  pub rise-on : b ≡ true → 0 < k → k < length ests → k < length nodes → (ests' : List Float) (nodes' : List ℕ) → (ests' ≡ set ests k f.est) × (nodes' ≡ set nodes k f.node.0)
      → SameLong ests₀ nodes₀ ests' nodes' × Rising (entry_at ests₀ nodes₀) (entry_at ests' nodes') n e (parent k)
  rise-on h low i j ests' nodes' w =
      written (λ (x : List Float) (y : List ℕ). SameLong ests₀ nodes₀ x y × Rising (entry_at ests₀ nodes₀) (entry_at x y) n e (parent k)) ests nodes k f ests' nodes' w (
        kept_more ests₀ nodes₀ ests nodes k f.est f.node.0 s,
        rising_more (entry_at ests₀ nodes₀) n e (entry_at ests nodes) _ k r low (subst (λ (x : Entry). before_of e x ≡ true) F (sym B ∙ h)) (subst (Put (entry_at ests nodes) _ k) F (stores ests nodes k f i j)),
      )

-- ---- down

-- where the lesser child does not come before e, no child does
pub sinking_stop : (f : ℕ → Entry) (n : ℕ) (e : Entry) (k c : ℕ) → Lesser f n k c → before_of (f c) e ≡ false → (i : ℕ) → 0 < i → i < n → parent i ≡ k → before_of (f i) e ≡ false
sinking_stop f n e k c s h i a l d = not_before e (f c) (f i) h (s.least i a l d)

-- the two children of k, and what tells which is the lesser
module _ (f : ℕ → Entry) (n k : ℕ) where
  pub lesser-left : 2 * k + 1 < n → (2 * k + 1 + 1 < n → before_of (f (2 * k + 1 + 1)) (f (2 * k + 1)) ≡ false) → Lesser f n k (2 * k + 1)
  lesser-left h b = record {
    low = omega arith;
    high = h;
    child = omega arith;
    least = λ i a l d. which i (2 * k + 1)
        (λ q. same-no (ap f q) refl (before_same (f (2 * k + 1))))
        (λ q. let r : i ≡ 2 * k + 1 + 1 = omega (arith, q) in same-no (ap f r) refl (b (omega arith)));
  }

  pub lesser-right : 2 * k + 1 + 1 < n → before_of (f (2 * k + 1 + 1)) (f (2 * k + 1)) ≡ true → Lesser f n k (2 * k + 1 + 1)
  lesser-right h b = record {
    low = omega arith;
    high = h;
    child = omega arith;
    least = λ i a l d. which i (2 * k + 1 + 1)
        (λ q. same-no (ap f q) refl (before_same (f (2 * k + 1 + 1))))
        (λ q. let r : i ≡ 2 * k + 1 = omega (arith, q) in same-no (ap f r) refl (before-once (f (2 * k + 1 + 1)) (f (2 * k + 1)) b));
  }

module _ (f₀ : ℕ → Entry) (n : ℕ) (e : Entry) where
  pub sinking-none : e ≡ f₀ n → Ordered f₀ (n + 1) → Sinking f₀ f₀ n e 0
  sinking-none d o = record {
    high = omega arith;
    all = λ p. omega (arith, to_more p f₀ n, ap (one p) d);
    ordered = record { order = λ i h l. o.order i h (omega arith) };
    over = λ h. absurd (let z : ⊥ = omega arith in z);
  }

  module _ (f g : ℕ → Entry) (k : ℕ) (r : Sinking f₀ f n e k) where
    -- k's lesser child c comes before e and moves up to k
    pub sinking_more : (c : ℕ) → Lesser f n k c → before_of (f c) e ≡ true → Put f g k (f c) → Sinking f₀ g n e c
    sinking_more c s b w =
        let m = s.child in
        let h = s.high in
        let l = s.low in
        let down : g c ≡ f c = w.there c (λ d. omega arith) in
        record {
          high = omega arith;
          all = λ p. omega (arith, to-put p f g k (f c) w n (omega arith), r.all p, ap (one p) down);
          ordered = record {
            order = λ i a j. which i k
                (λ d. same-no (ap g d ∙ w.here) (w.there (parent i) (λ q. omega arith))
                (not_before (f (parent i)) (f k) (f c)
                (subst (λ (x : ℕ). before_of (f x) (f (parent i)) ≡ false) d (r.ordered.order i a j))
                (subst (λ (x : ℕ). before_of (f c) (f x) ≡ false) m (r.ordered.order c l h))))
                (λ d. which (parent i) k
                (λ q. same-no (w.there i d) (ap g q ∙ w.here) (s.least i a j q))
                (λ q. same-no (w.there i d) (w.there (parent i) q) (r.ordered.order i a j)));
          };
          over = λ _. same-no refl (ap g m ∙ w.here) (before-once (f c) e b);
        }

    -- e stays at k
    pub sinking-end : ((i : ℕ) → 0 < i → i < n → parent i ≡ k → before_of (f i) e ≡ false) → Put f g k e → Ordered g n
    sinking-end s w = record {
      order = λ i a l. which i k
          (λ d. same-no (ap g d ∙ w.here) (w.there (parent i) (λ q. omega arith) ∙ ap (λ (j : ℕ). f (parent j)) d) (r.over (omega arith)))
          (λ d. which (parent i) k
          (λ q. same-no (w.there i d) (ap g q ∙ w.here) (s i a l q))
          (λ q. same-no (w.there i d) (w.there (parent i) q) (r.ordered.order i a l)));
    }

    pub sinking-all : Put f g k e → (p : Entry → Bool) → count_to p g n + one p (f₀ 0) ≡ count_to p f₀ (n + 1)
    unfolding count_to
    sinking-all w p =
        which n 0
        (λ d. go d)
        (λ d. omega (arith, to-put p f g k e w n (omega (arith, r.high)), r.all p))
      where
        go : n ≡ 0 → count_to p g n + one p (f₀ 0) ≡ count_to p f₀ (n + 1)
        go d = omega (arith, ap (count_to p g) d, ap (count_to p f₀) d, to_more p f₀ n, ap (λ (x : ℕ). one p (f₀ x)) d)

-- a turn of `sink`: f, read at k's lesser child c, is written at k
module _ (ests₀ : List Float) (nodes₀ : List ℕ) (n : ℕ) (e : Entry) (ests : List Float) (nodes : List ℕ) (k : ℕ) (s : SameLong ests₀ nodes₀ ests nodes)
    (r : Sinking (entry_at ests₀ nodes₀) (entry_at ests nodes) n e k) (c : ℕ) (C : Lesser (entry_at ests nodes) n k c) (f : Entry) (F : f ≡ entry_at ests nodes c) (b : Bool) (B : b ≡ before_of f e) where
  pub sink_stop : b ≡ false → (i : ℕ) → 0 < i → i < n → parent i ≡ k → before_of (entry_at ests nodes i) e ≡ false
  sink_stop h = sinking_stop (entry_at ests nodes) n e k c C (subst (λ (x : Entry). before_of x e ≡ false) F (sym B ∙ h))

  pub sink_on : b ≡ true → k < length ests → k < length nodes → (ests' : List Float) (nodes' : List ℕ) → (ests' ≡ set ests k f.est) × (nodes' ≡ set nodes k f.node.0)
      → SameLong ests₀ nodes₀ ests' nodes' × Sinking (entry_at ests₀ nodes₀) (entry_at ests' nodes') n e c
  sink_on h i j ests' nodes' w =
      written (λ (x : List Float) (y : List ℕ). SameLong ests₀ nodes₀ x y × Sinking (entry_at ests₀ nodes₀) (entry_at x y) n e c) ests nodes k f ests' nodes' w (
        kept_more ests₀ nodes₀ ests nodes k f.est f.node.0 s,
        sinking_more (entry_at ests₀ nodes₀) n e (entry_at ests nodes) _ k r c C (subst (λ (x : Entry). before_of x e ≡ true) F (sym B ∙ h)) (subst (Put (entry_at ests nodes) _ k) F (stores ests nodes k f i j)),
      )

-- none of a heap comes before its root
pub root-least : (f : ℕ → Entry) (n : ℕ) → Ordered f n → (i j : ℕ) → i ≤ j → i < n → before_of (f i) (f 0) ≡ false
root-least f n o i zero h l = same-no (ap f (let d : i ≡ 0 = omega arith in d)) refl (before_same (f 0))
root-least f n o i (suc j) h l =
    which i 0
    (λ d. same-no (ap f d) refl (before_same (f 0)))
    (λ d. not_before (f 0) (f (parent i)) (f i) (root-least f n o (parent i) j (omega arith) (omega arith)) (o.order i (omega arith) l))
