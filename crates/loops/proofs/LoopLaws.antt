-- The laws of `loop`, which stand for the induction that each proof of a loop would do. Assumes nothing.
use mathlib.Core.Path.{◌≡◌, refl, sym, ap, ◌∙◌, subst}
use mathlib.Core.Bool.{Bool, true, false, ◌||◌}
use Prim.Native.Nat.{ℕ, zero, suc, ◌+◌, ◌-◌, ◌*◌, ◌≤◌, ◌<◌, max}
use native.Mathlib.Omega.{arith}
use native.Mathlib.Nat.{suc-mul}
use lib.Dec.{eqb}
use borrow.Author.Tests.{eqb-true, eqb-false}
use Rattle.loops.specs.Loop.{turns, loop, Run, on, out, turn, or_at, any}
use Rattle.loops.proofs.Cases.{by_cases, neither}

module _ {S : Type 0} (f : ℕ → S → S) (a : ℕ) where
  -- no turn yet
  pub loop-none : (s : S) → s ≡ loop f a a s
  unfolding loop turns
  loop-none s = ap (λ (n : ℕ). turns f a n s) (let e : 0 ≡ a - a = omega arith in e)

  -- one more turn
  pub loop_more : (i : ℕ) (s : S) → a ≤ i → f i (loop f a i s) ≡ loop f a (i + 1) s
  unfolding loop turns
  loop_more i s h =
      let e : i + 1 - a ≡ suc (i - a) = omega arith in
      let k : a + (i - a) ≡ i = omega arith in
      sym (ap (λ (n : ℕ). turns f a n s) e ∙ ap (λ (n : ℕ). f n (turns f a (i - a) s)) k)

  -- where the code's counter stops is where the loop ends, also where the range is empty
  pub loop-end : (i e : ℕ) (s : S) → a ≤ i → e ≤ i → i ≤ max a e → loop f a i s ≡ loop f a e s
  unfolding loop
  loop-end i e s h k l = ap (λ (n : ℕ). turns f a n s) (let d : i - a ≡ e - a = omega arith in d)

  turns-keep : (P : S → Type 0) (n : ℕ) → ((i : ℕ) (s : S) → a ≤ i → i < a + n → P s → P (f i s)) → (s : S) → P s → P (turns f a n s)
  unfolding turns
  turns-keep P zero h s p = p
  turns-keep P (suc n) h s p =
      h (a + n) (turns f a n s) (omega arith) (omega arith) (turns-keep P n (λ i s b c q. h i s b (omega arith) q) s p)

  -- what each turn keeps, the loop keeps
  pub loop_keeps : (P : S → Type 0) (e : ℕ) → ((i : ℕ) (s : S) → a ≤ i → i < e → P s → P (f i s)) → (s : S) → P s → P (loop f a e s)
  unfolding loop
  loop_keeps P e h s p = turns-keep P (e - a) (λ i s b c q. h i s b (omega arith) q) s p

module _ {S : Type 0} (f : ℕ → S → S) where
  turns_split : (a n m : ℕ) (s : S) → turns f a (n + m) s ≡ turns f (a + n) m (turns f a n s)
  unfolding turns
  turns_split a n zero s = ap (λ (k : ℕ). turns f a k s) (let e : n + zero ≡ n = omega arith in e)
  turns_split a n (suc m) s =
      ap (λ (k : ℕ). turns f a k s) (let e : n + suc m ≡ suc (n + m) = omega arith in e)
      ∙ ap (λ (k : ℕ). f k (turns f a (n + m) s)) (let e : a + (n + m) ≡ a + n + m = omega arith in e)
      ∙ ap (f (a + n + m)) (turns_split a n m s)

  -- a loop in two parts
  pub loop_split : (a k e : ℕ) (s : S) → a ≤ k → k ≤ e → loop f a e s ≡ loop f k e (loop f a k s)
  unfolding loop
  loop_split a k e s h l =
      ap (λ (n : ℕ). turns f a n s) (let z : e - a ≡ (k - a) + (e - k) = omega arith in z)
      ∙ turns_split a (k - a) (e - k) s
      ∙ ap (λ (b : ℕ). turns f b (e - k) (turns f a (k - a) s)) (let z : a + (k - a) ≡ k = omega arith in z)

-- The invariant of a counting loop `for k in a..e`: the state `t` at the counter k is what k - a turns leave of `s`.
pub record Going {S : Type 0} (f : ℕ → S → S) (a e : ℕ) (s t : S) (k : ℕ) : Type 0 where
  pub low : a ≤ k
  pub high : k ≤ max a e
  pub is : t ≡ loop f a k s

module _ {S : Type 0} (f : ℕ → S → S) (a e : ℕ) (s : S) where
  -- answers `loop-holds`
  pub going_none : Going f a e s s a
  going_none = record { low = omega arith; high = omega arith; is = loop-none f a s }

  -- answers `loop-again`: t' is the state after the turn
  pub going_more : (t t' : S) (k : ℕ) → Going f a e s t k → k < e → t' ≡ f k t → Going f a e s t' (k + 1)
  going_more t t' k g h d = record {
    low = omega (arith, g.low);
    high = omega arith;
    is = d ∙ ap (f k) g.is ∙ loop_more f a k s g.low;
  }

  -- answers `returns`
  pub going_end : (t : S) (k : ℕ) → Going f a e s t k → e ≤ k → t ≡ loop f a e s
  going_end t k g h = g.is ∙ loop-end f a k e s g.low h g.high

-- ---- two loops in step

module _ {S U : Type 0} (f : ℕ → S → S) (g : ℕ → U → U) (R : ℕ → S → U → Type 0) (a : ℕ) where
  turns_both : (n : ℕ) → ((i : ℕ) (s : S) (u : U) → a ≤ i → i < a + n → R i s u → R (i + 1) (f i s) (g i u)) → (s : S) (u : U) → R a s u → R (a + n) (turns f a n s) (turns g a n u)
  unfolding turns
  turns_both zero h s u r = subst (λ (k : ℕ). R k s u) (let z : a ≡ a + zero = omega arith in z) r
  turns_both (suc n) h s u r =
      subst (λ (k : ℕ). R k (f (a + n) (turns f a n s)) (g (a + n) (turns g a n u))) (let z : a + n + 1 ≡ a + suc n = omega arith in z)
      (h (a + n) (turns f a n s) (turns g a n u) (omega arith) (omega arith) (turns_both n (λ i s u b c q. h i s u b (omega arith) q) s u r))

  -- what relates the states of two loops turn by turn relates what they leave
  pub loop_both : (e : ℕ) → a ≤ e → ((i : ℕ) (s : S) (u : U) → a ≤ i → i < e → R i s u → R (i + 1) (f i s) (g i u)) → (s : S) (u : U) → R a s u → R e (loop f a e s) (loop g a e u)
  unfolding loop
  loop_both e l h s u r =
      subst (λ (k : ℕ). R k (turns f a (e - a) s) (turns g a (e - a) u)) (let z : a + (e - a) ≡ e = omega arith in z)
      (turns_both (e - a) (λ i s u b c q. h i s u b (omega arith) q) s u r)

-- ---- a loop that grows

module _ {S : Type 0} (f : ℕ → S → S) (size : S → ℕ) (a c : ℕ) where
  turns-few : (n : ℕ) → ((i : ℕ) (s : S) → size (f i s) ≤ size s + c) → (s : S) → size (turns f a n s) ≤ size s + n * c
  unfolding turns
  turns-few zero h s = omega arith
  turns-few (suc n) h s = omega (arith, h (a + n) (turns f a n s), turns-few n h s, suc-mul n c)

  -- a loop whose turns add at most c each
  pub loop-few : (e : ℕ) → ((i : ℕ) (s : S) → size (f i s) ≤ size s + c) → (s : S) → size (loop f a e s) ≤ size s + (e - a) * c
  unfolding loop
  loop-few e h s = turns-few (e - a) h s

-- ---- a loop that is left from inside

module _ {S A : Type 0} (f : ℕ → S → Run S A) (a : ℕ) where
  turns_stay : (n m : ℕ) (s : Run S A) (v : A) → turns (turn f) a n s ≡ out v → turns (turn f) a (n + m) s ≡ out v
  unfolding turns turn
  turns_stay n zero s v e = ap (λ (k : ℕ). turns (turn f) a k s) (let z : n + zero ≡ n = omega arith in z) ∙ e
  turns_stay n (suc m) s v e =
      ap (λ (k : ℕ). turns (turn f) a k s) (let z : n + suc m ≡ suc (n + m) = omega arith in z) ∙ ap (turn f (a + (n + m))) (turns_stay n m s v e)

  -- once out, it stays out
  pub out_stays : (k e : ℕ) (s : Run S A) (v : A) → a ≤ k → k ≤ e → loop (turn f) a k s ≡ out v → loop (turn f) a e s ≡ out v
  unfolding loop
  out_stays k e s v h b d = ap (λ (n : ℕ). turns (turn f) a n s) (let z : e - a ≡ (k - a) + (e - k) = omega arith in z) ∙ turns_stay (k - a) (e - k) s v d

  -- answers the place that a `break` leads to: at the counter k the turn gives v
  pub going_out : (e : ℕ) (s : Run S A) (t : S) (k : ℕ) (v : A) → Going (turn f) a e s (on t) k → k < e → f k t ≡ out v → loop (turn f) a e s ≡ out v
  unfolding turn
  going_out e s t k v g h d =
      out_stays (k + 1) e s v (omega (arith, g.low)) (omega arith) (sym (loop_more (turn f) a k s g.low) ∙ ap (turn f k) (sym g.is) ∙ d)

  -- answers `loop-again` of such a loop
  pub going_on : (e : ℕ) (s : Run S A) (t t' : S) (k : ℕ) → Going (turn f) a e s (on t) k → k < e → on t' ≡ f k t → Going (turn f) a e s (on t') (k + 1)
  unfolding turn
  going_on e s t t' k g h d = going_more (turn f) a e s (on t) (on t') k g h d

-- ---- a loop that looks for a number: none before k is one

module _ (f : ℕ → Bool) (a e : ℕ) where
  pub any-on : (k : ℕ) → Going (or_at f) a e false false k → k < e → f k ≡ false → Going (or_at f) a e false false (k + 1)
  any-on k g h d = going_more (or_at f) a e false false false k g h (sym d)

  pub any_none : (k : ℕ) → Going (or_at f) a e false false k → e ≤ k → false ≡ any f a e
  unfolding any
  any_none k g h = going_end (or_at f) a e false false k g h

  pub any_out : (k : ℕ) → Going (or_at f) a e false false k → k < e → f k ≡ true → true ≡ any f a e
  unfolding any
  any_out k g h d =
      let l = g.low in
      let here : loop (or_at f) a (k + 1) false ≡ true = sym (loop_more (or_at f) a k false l) ∙ ap (or_at f k) (sym g.is) ∙ d in
      sym (loop_split (or_at f) a (k + 1) e false (omega arith) (omega arith)
      ∙ ap (loop (or_at f) (k + 1) e) here
      ∙ loop_keeps (or_at f) (k + 1) (λ (b : Bool). b ≡ true) e (λ i s b c p. ap (λ (q : Bool). q || f i) p) true refl)

-- where none is found, each is none
turns-each : (f : ℕ → Bool) (a n : ℕ) → turns (or_at f) a n false ≡ false → (k : ℕ) → k < n → f (a + k) ≡ false
unfolding turns
turns-each f a zero h k l = absurd (let z : ⊥ = omega arith in z)
turns-each f a (suc n) h k l =
    let z = neither (turns (or_at f) a n false) (f (a + n)) h in
    by_cases (eqb k n)
    (λ e. subst (λ (i : ℕ). f (a + i) ≡ false) (sym (eqb-true k n e)) z.1)
    (λ e. turns-each f a n z.0 k (let d = eqb-false k n e in omega arith))

pub any-each : (f : ℕ → Bool) (a e : ℕ) → any f a e ≡ false → (k : ℕ) → a ≤ k → k < e → f k ≡ false
unfolding any loop
any-each f a e h k l g =
    subst (λ (i : ℕ). f i ≡ false) (let z : a + (k - a) ≡ k = omega arith in z) (turns-each f a (e - a) h (k - a) (omega arith))
