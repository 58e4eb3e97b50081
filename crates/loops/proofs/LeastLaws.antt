-- The loop that finds the least: its invariant, and that nothing comes before what is found. Assumes nothing.
use mathlib.Core.Path.{◌≡◌, refl, sym, ◌∙◌, subst}
use mathlib.Core.Bool.{Bool, true, false, true≢false}
use Prim.Native.Nat.{ℕ, ◌+◌, ◌<◌, ◌≤◌}
use native.Mathlib.Omega.{arith}
use lib.Dec.{ltb}
use borrow.Author.Tests.{ltb-true, ltb-false, le-ltb}
use Rattle.loops.specs.Least.{then_by, least_step, least_by}
use Rattle.loops.proofs.Cases.{by_cases, by_test, never}
use Rattle.loops.proofs.LoopLaws.{Going, going_none, going_more, going_end, loop_both}

-- ---- the loop

module _ {K : Type 0} (before : K → K → Bool) (key : ℕ → K) (n : ℕ) where
  -- `at` is the least of those before k, and c what it stands for
  pub record Leads (at : ℕ) (c : K) (k : ℕ) : Type 0 where
    pub going : Going (least_step before key) 1 n 0 at k
    pub is : c ≡ key at

  pub leads-first : (c : K) → c ≡ key 0 → Leads 0 c 1
  leads-first c e = record { going = going_none (least_step before key) 1 n 0; is = e }

  module _ (at : ℕ) (c : K) (k : ℕ) (l : Leads at c k) (h : k < n) (d : K) (D : d ≡ key k) where
    -- number k takes its place
    pub leads_new : before d c ≡ true → Leads k d (k + 1)
    unfolding least_step
    leads_new e = record { going = going_more (least_step before key) 1 n 0 at k k l.going h (rw (← D, ← l.is, e)); is = D }

    -- or does not
    pub leads-on : before d c ≡ false → Leads at c (k + 1)
    unfolding least_step
    leads-on e = record { going = going_more (least_step before key) 1 n 0 at at k l.going h (rw (← D, ← l.is, e)); is = l.is }

  pub leads-end : (at : ℕ) (c : K) (k : ℕ) → Leads at c k → n ≤ k → at ≡ least_by before key n
  unfolding least_by
  leads-end at c k l h = going_end (least_step before key) 1 n 0 at k l.going h

-- ---- what it finds

-- a strict order, in which some may stand equal
pub record Ordered {K : Type 0} (before : K → K → Bool) : Type 0 where
  -- of two at most one comes before the other
  pub one_way : (x y : K) → before x y ≡ true → before y x ≡ false
  -- what does not come before y does not come before z either, unless y does
  pub passed_on : (x y z : K) → before x y ≡ false → before y z ≡ false → before x z ≡ false

sure : (b : Bool) → (b ≡ false → ⊥) → b ≡ true
sure true f = refl
sure false f = absurd (f refl)

module _ {K : Type 0} where
  pub itself : (before : K → K → Bool) → Ordered before → (x : K) → before x x ≡ false
  itself before o x = by_cases (before x x) (o.one_way x x) (λ e. e)

  -- by a number, the lower first
  pub lower_ordered : (f : K → ℕ) → Ordered (λ (x y : K). ltb (f x) (f y))
  lower_ordered f = record {
    one_way = λ x y e. le-ltb (f y) (f x) (omega (arith, ltb-true (f x) (f y) e));
    passed_on = λ x y z d e. le-ltb (f x) (f z) (omega (arith, ltb-false (f x) (f y) d, ltb-false (f y) (f z) e));
  }

  -- the other way round
  pub turned-ordered : (before : K → K → Bool) → Ordered before → Ordered (λ (x y : K). before y x)
  turned-ordered before o = record { one_way = λ x y e. o.one_way y x e; passed_on = λ x y z d e. o.passed_on z y x e d }

  module _ (first second : K → K → Bool) (o : Ordered first) (p : Ordered second) where
    -- what a no says
    then_no : {A : Type 0} (x y : K) → then_by first second x y ≡ false → (first y x ≡ true → A) → (first x y ≡ false → second x y ≡ false → A) → A
    unfolding then_by
    then_no x y e f g =
        by_cases (first x y)
        (λ a. never (sym (let z = rw a at e in z)))
        (λ a. by_cases (first y x) f (λ b. g a (let z = rw (a, b) at e in z)))

    then_after : (x y : K) → first y x ≡ true → then_by first second x y ≡ false
    unfolding then_by
    then_after x y e = rw (o.one_way y x e, e)

    then_level : (x y : K) → first x y ≡ false → second x y ≡ false → then_by first second x y ≡ false
    unfolding then_by
    then_level x y d e = by_cases (first y x) (λ b. rw (d, b)) (λ b. rw (d, b, e))

    then_once : (x y : K) → then_by first second x y ≡ true → then_by first second y x ≡ false
    unfolding then_by
    then_once x y e =
        by_cases (first x y)
        (λ a. rw (o.one_way x y a, a))
        (λ a. by_cases (first y x) (λ b. never (let z = rw (a, b) at e in z)) (λ b. rw (a, b, p.one_way x y (let z = rw (a, b) at e in z))))

    -- what passes on by the first is refused otherwise
    apart : (x y z : K) → first x y ≡ false → first y z ≡ false → first x z ≡ true → ⊥
    apart x y z d e f = true≢false (sym f ∙ o.passed_on x y z d e)

    pub then_ordered : Ordered (then_by first second)
    then_ordered = record {
      one_way = then_once;
      passed_on = λ x y z d e.
          then_no x y d
          (λ f. then_after x z (sure (first z x) (λ a. apart y z x (then_no y z e (λ g. o.one_way z y g) (λ l s. l)) a f)))
          (λ l s. then_no y z e
          (λ g. then_after x z (sure (first z x) (λ a. apart z x y a l g)))
          (λ m t. then_level x z (o.passed_on x y z l m) (p.passed_on x y z s t)));
    }

    -- neither comes before the other
    pub then_equal : {A : Type 0} (x y : K) → then_by first second x y ≡ false → then_by first second y x ≡ false → (first x y ≡ false → first y x ≡ false → second x y ≡ false → second y x ≡ false → A) → A
    unfolding then_by
    then_equal x y d e f =
        by_cases (first x y)
        (λ a. never (sym (let z = rw a at d in z)))
        (λ a. by_cases (first y x) (λ b. never (sym (let z = rw b at e in z))) (λ b. f a b (let z = rw (a, b) at d in z) (let z = rw (b, a) at e in z)))

-- what holds of each number below k, and of k
with-last : (k j : ℕ) (P : ℕ → Type 0) → ((i : ℕ) → i < k → P i) → P k → j < k + 1 → P j
with-last k j P f g h = by_cases (ltb j k) (λ b. f j (ltb-true j k b)) (λ b. subst P (let l = ltb-false j k b in let z : k ≡ j = omega arith in z) g)

module _ {K : Type 0} (before : K → K → Bool) (key : ℕ → K) where
  -- after those before k: b is one of them
  below_step : (k b : ℕ) → b < k → least_step before key k b < k + 1
  unfolding least_step
  below_step k b h = by_test (λ (i : ℕ). i < k + 1) (before (key k) (key b)) k b (λ e. omega arith) (λ e. omega arith)

  pub least-below : (n : ℕ) → 0 < n → least_by before key n < n
  unfolding least_by
  least-below n h = loop_both (least_step before key) (least_step before key) (λ k b c. b < k) 1 n h (λ i b c l u p. below_step i b p) 0 0 (omega arith)

  module _ (o : Ordered before) where
    -- none of those before k comes before b
    abbrev First : ℕ → ℕ → Type 0
    First k b = (j : ℕ) → j < k → before (key j) (key b) ≡ false

    first_step : (k b : ℕ) → First k b → First (k + 1) (least_step before key k b)
    unfolding least_step
    first_step k b f =
        by_test (First (k + 1)) (before (key k) (key b)) k b
        (λ e j h. with-last k j (λ (i : ℕ). before (key i) (key k) ≡ false) (λ i l. o.passed_on (key i) (key b) (key k) (f i l) (o.one_way (key k) (key b) e)) (itself before o (key k)) h)
        (λ e j h. with-last k j (λ (i : ℕ). before (key i) (key b) ≡ false) f e h)

    -- nothing comes before what is found
    pub least_first : (n : ℕ) → 0 < n → (j : ℕ) → j < n → before (key j) (key (least_by before key n)) ≡ false
    unfolding least_by
    least_first n h = loop_both (least_step before key) (least_step before key) (λ k b c. First k b) 1 n h (λ i b c l u p. first_step i b p) 0 0
        (λ j l. subst (λ (i : ℕ). before (key i) (key 0) ≡ false) (let z : 0 ≡ j = omega arith in z) (itself before o (key 0)))
