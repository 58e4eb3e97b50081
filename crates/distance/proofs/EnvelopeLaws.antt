-- The lower envelope: why the stack of the parabolas before q, those dropped that q beats where they begin, is with q on top the stack of those up to q.
-- All of it rests on one fact: once q is lower than an earlier parabola p, it stays lower (`over-later`). Assumes nothing.
use mathlib.Core.Path.{◌≡◌, refl, sym, ap, ◌∙◌, subst}
use mathlib.Core.Logic.{⊎_elim}
use mathlib.Core.List.{List}
use Prim.Native.Nat.{ℕ, zero, suc, ◌+◌, ◌-◌, ◌*◌, ◌/◌, ◌≤◌, ◌<◌}
use native.Mathlib.Nat.{mul_left_comm, add-mul, mul-le-mul_right, div-mul-le_self, lt-div-mul-add}
use native.Mathlib.Omega.{arith}
use Rattle.distance.specs.Least.{far}
use Rattle.distance.specs.Envelope.{Under, Over, Real, Lowest, Owns, Env, Popped, Keyed, column, key_at, begins, Stack, Sound, Top, Rest, Taken}
use Rattle.distance.proofs.NumberLaws.{lt_or_le, spread, cross}

-- ---- two parabolas, p before q

module _ (h : ℕ → ℕ) where
  pub over-later : (x y p q : ℕ) → x ≤ y → p ≤ q → Over h x p q → Over h y p q
  over-later x y p q a b o = omega (arith, cross x y p q a b)

  -- where the two change places
  unfoldable pub meet : ℕ → ℕ → ℕ
  meet p q = (h q - h p) / (2 * (q - p)) + 1

  twice : (x p q : ℕ) → p ≤ q → 2 * (x * q) ≡ 2 * (x * p) + x * (2 * (q - p))
  twice x p q a = omega (arith, spread x p q a, mul_left_comm x 2 (q - p))

  pub key-rise : (t p q : ℕ) → p ≤ q → Under h t p q → h p ≤ h q
  key-rise t p q a u = omega (arith, twice t p q a)

  -- p holds before they meet, and q is lower from there on
  pub before_meet : (t x p q : ℕ) → p < q → Under h t p q → x < meet p q → Under h x p q
  unfolding meet
  before_meet t x p q a u b =
      let d = key-rise t p q (omega arith) u in
      let c : x ≤ (h q - h p) / (2 * (q - p)) = omega arith in
      omega (arith, twice x p q (omega arith), mul-le-mul_right (2 * (q - p)) c, div-mul-le_self (h q - h p) (2 * (q - p)))

  pub after_meet : (x p q : ℕ) → p < q → meet p q ≤ x → Over h x p q
  unfolding meet
  after_meet x p q a b =
      let w = (h q - h p) / (2 * (q - p)) in
      let k : 0 < 2 * (q - p) = omega arith in
      let c : w + 1 ≤ x = b in
      omega (arith, twice x p q (omega arith), mul-le-mul_right (2 * (q - p)) c, add-mul w 1 (2 * (q - p)), lt-div-mul-add {a = h q - h p} k)

-- where q meets the top of the r parabolas that are left
abbrev pub crossing : (ℕ → ℕ) → (ℕ → ℕ) → ℕ → ℕ → ℕ
crossing h at r q = meet h (at (r - 1)) q

-- ---- the stack's regions

module _ (h at from : ℕ → ℕ) (nx q n : ℕ) (e : Env h at from nx q n) where
  pub owner : (x : ℕ) → 0 < n → (k : ℕ) × Owns from n x k
  owner x a = go (n - 1) (omega arith) (λ b. absurd (let z : ⊥ = omega arith in z))
    where
      go : (k : ℕ) → k < n → (k + 1 < n → x < from (k + 1)) → (k : ℕ) × Owns from n x k
      go zero b c = (zero, record { one = b; begin = omega (arith, e.first a); end = c })
      go (suc k) b c =
          ⊎_elim
          (λ d. go k (omega arith) (λ _. subst (λ (m : ℕ). x < from m) (let z : suc k ≡ k + 1 = omega arith in z) d))
          (λ d. (suc k, record { one = b; begin = d; end = c }))
          (lt_or_le x (from (suc k)))

  -- a parabola is lowest where its region begins
  pub low-begin : (k : ℕ) → k < n → Lowest h q (from k) (at k)
  low-begin k a = e.low k (from k) (record { one = a; begin = omega arith; end = λ b. e.rise k (k + 1) (omega arith) b }) (e.inside k a)

-- ---- one more parabola

module _ (h : ℕ → ℕ) (q x : ℕ) where
  pub lowest_more : (p : ℕ) → Lowest h q x p → (h q < far → Under h x p q) → Lowest h (q + 1) x p
  lowest_more p l u = record {
    real = record { one = omega (arith, l.real.one); key = l.real.key };
    least = λ r w. ⊎_elim
        (λ a. l.least r (record { one = a; key = w.key }))
        (λ a. let z : r ≡ q = omega (arith, w.one) in subst (λ (k : ℕ). Under h x p k) (sym z) (u (subst (λ (k : ℕ). h k < far) z w.key)))
        (lt_or_le r q);
  }

  pub lowest_new : h q < far → ((r : ℕ) → Real h q r → Over h x r q) → Lowest h (q + 1) x q
  lowest_new a u = record {
    real = record { one = omega arith; key = a };
    least = λ r w. ⊎_elim
        (λ b. let o = u r (record { one = b; key = w.key }) in omega arith)
        (λ b. let z : r ≡ q = omega (arith, w.one) in subst (λ (k : ℕ). Under h x q k) (sym z) (omega arith))
        (lt_or_le r q);
  }

pub env-none : (h at from : ℕ → ℕ) (nx : ℕ) → Env h at from nx 0 0
env-none h at from nx = record {
  few = omega arith;
  first = λ a. absurd (let z : ⊥ = omega arith in z);
  rise = λ k l a b. absurd (let z : ⊥ = omega arith in z);
  inside = λ k a. absurd (let z : ⊥ = omega arith in z);
  empty = λ a r w. let b = w.one in omega arith;
  low = λ k x w. let a = w.one in absurd (let z : ⊥ = omega arith in z);
}

-- a column without a mark adds none
pub env_skip : (h at from : ℕ → ℕ) (nx q n : ℕ) → Env h at from nx q n → far ≤ h q → Env h at from nx (q + 1) n
env_skip h at from nx q n e f = record {
  few = omega (arith, e.few);
  first = e.first;
  rise = e.rise;
  inside = e.inside;
  empty = λ a r w. ⊎_elim
      (λ b. e.empty a r (record { one = b; key = w.key }))
      (λ b. let z : r ≡ q = omega (arith, w.one) in let y = subst (λ (k : ℕ). h k < far) z w.key in omega arith)
      (lt_or_le r q);
  low = λ k x w d. lowest_more h q x (at k) (e.low k x w d) (λ y. absurd (let z : ⊥ = omega arith in z));
}

-- of n stacked parabolas those from r on are beaten by q where they begin, and the one below is not
record Dropped (h at from : ℕ → ℕ) (q n r : ℕ) : Type 0 where
  fewer : r ≤ n
  gone : (k : ℕ) → r ≤ k → k < n → Over h (from k) (at k) q
  stays : 0 < r → Under h (from (r - 1)) (at (r - 1)) q

module _ (h at from : ℕ → ℕ) (nx q n r : ℕ) (e : Env h at from nx q n) (o : Dropped h at from q n r) (key : h q < far) (in_row : q < nx) where
  -- in the regions that were dropped q is lower than all before it
  beaten : (k x : ℕ) → r ≤ k → Owns from n x k → x < nx → (s : ℕ) → Real h q s → Over h x s q
  beaten k x a w b s v =
      let l = e.low k x w b in
      let u = l.least s v in
      let y = over-later h (from k) x (at k) q w.begin (omega (arith, l.real.one)) (o.gone k a w.one) in
      omega arith

  -- all were dropped
  new_first : r ≡ 0 → (at' from' : ℕ → ℕ) → at' 0 ≡ q → from' 0 ≡ 0 → Env h at' from' nx (q + 1) 1
  new_first z at' from' ea ef = record {
    few = omega arith;
    first = λ _. ef;
    rise = λ k l a b. absurd (let z : ⊥ = omega arith in z);
    inside = λ k a. let y : 0 ≡ k = omega arith in subst (λ (k : ℕ). from' k < nx) y (omega arith);
    empty = λ a. absurd (let z : ⊥ = omega arith in z);
    low = λ k x w d.
        let y : 0 ≡ k = omega (arith, w.one) in
        subst (λ (k : ℕ). Lowest h (q + 1) x (at' k)) y (subst (Lowest h (q + 1) x) (sym ea)
        (lowest_new h q x key (λ s v. ⊎_elim
        (λ m. let g = owner h at from nx q n e x m in beaten g.0 x (omega arith) g.1 d s v)
        (λ m. absurd (e.empty (omega arith) s v))
        (lt_or_le 0 n))));
  }

  module _ (some_left : 0 < r) where
    top_lowest : Lowest h q (from (r - 1)) (at (r - 1))
    top_lowest = low-begin h at from nx q n e (r - 1) (omega (arith, o.fewer))

    -- it begins before the two meet
    starts : from (r - 1) < crossing h at r q
    starts =
        ⊎_elim (λ a. a)
        (λ a. let y = after_meet h (from (r - 1)) (at (r - 1)) q top_lowest.real.one a in let u = o.stays some_left in absurd (let z : ⊥ = omega arith in z))
        (lt_or_le (from (r - 1)) (crossing h at r q))

    -- what was dropped began where they meet, or after
    ends : r < n → crossing h at r q ≤ from r
    ends a =
        ⊎_elim
        (λ b.
        let y = beaten r (from r) (omega arith) (record { one = a; begin = omega arith; end = λ c. e.rise r (r + 1) (omega arith) c }) (e.inside r a) (at (r - 1)) top_lowest.real in
        let u = before_meet h (from (r - 1)) (from r) (at (r - 1)) q top_lowest.real.one (o.stays some_left) b in
        absurd (let z : ⊥ = omega arith in z))
        (λ b. b)
        (lt_or_le (from r) (crossing h at r q))

    -- before they meet, those left hold
    holds : (k x : ℕ) → k < r → from k ≤ x → (k + 1 < r → x < from (k + 1)) → x < crossing h at r q → x < nx → Lowest h (q + 1) x (at k)
    holds k x a b c d f =
        let l = e.low k x (record { one = omega (arith, o.fewer); begin = b; end = λ m. ⊎_elim (λ v. c v) (λ v. let y : k + 1 ≡ r = omega arith in subst (λ (i : ℕ). x < from i) (sym y) (let u : r < n = omega arith in omega (arith, ends u))) (lt_or_le (k + 1) r) }) f in
        lowest_more h q x (at k) l
        (λ _.
        let u = before_meet h (from (r - 1)) x (at (r - 1)) q top_lowest.real.one (o.stays some_left) d in
        let v = l.least (at (r - 1)) top_lowest.real in
        omega arith)

    -- from where they meet q is lowest
    takes : (x : ℕ) → crossing h at r q ≤ x → x < nx → Lowest h (q + 1) x q
    takes x a b = lowest_new h q x key (λ s v. let w = owner h at from nx q n e x (omega (arith, o.fewer)) in ⊎_elim
        (λ c. in_top w.0 w.1 c s v)
        (λ c. beaten w.0 x c w.1 b s v)
        (lt_or_le w.0 r))
      where
        in_top : (k : ℕ) → Owns from n x k → k < r → (s : ℕ) → Real h q s → Over h x s q
        in_top k w c s v = ⊎_elim
            (λ d. let y : from (k + 1) ≤ from (r - 1) = up (k + 1) (omega arith) in let z = w.end (omega (arith, o.fewer)) in absurd (let t : ⊥ = omega (arith, starts) in t))
            (λ d.
            let z : k ≡ r - 1 = omega arith in
            let l = (e.low k x w b).least s v in
            let m = subst (λ (i : ℕ). Under h x (at i) s) z l in
            let y = after_meet h x (at (r - 1)) q top_lowest.real.one a in
            omega arith)
            (lt_or_le k (r - 1))
          where
            up : (i : ℕ) → i ≤ r - 1 → from i ≤ from (r - 1)
            up i f = ⊎_elim
                (λ g. let z = e.rise i (r - 1) g (omega (arith, o.fewer)) in omega arith)
                (λ g. let z : i ≡ r - 1 = omega arith in subst (λ (t : ℕ). from t ≤ from (r - 1)) (sym z) (omega arith))
                (lt_or_le i (r - 1))

    -- q goes on top
    module _ (at' from' : ℕ → ℕ) (ea : at' r ≡ q) (ef : from' r ≡ crossing h at r q) (ka : (k : ℕ) → k < r → at' k ≡ at k) (kf : (k : ℕ) → k < r → from' k ≡ from k) where
      rises : (k : ℕ) → k < r → from k < crossing h at r q
      rises k a = ⊎_elim
          (λ b. let y = e.rise k (r - 1) b (omega (arith, o.fewer)) in omega (arith, starts))
          (λ b. let z : k ≡ r - 1 = omega arith in subst (λ (i : ℕ). from i < crossing h at r q) (sym z) starts)
          (lt_or_le k (r - 1))

      -- by whether k is the new one
      by_place : (P : ℕ → Type 0) (k : ℕ) → k < r + 1 → P r → (k < r → P k) → P k
      by_place P k a f g = ⊎_elim g (λ b. let z : r ≡ k = omega arith in subst P z f) (lt_or_le k r)

      before : (k x : ℕ) → k < r → (k + 1 < r + 1 → x < from' (k + 1)) → x < crossing h at r q
      before k x a c = ⊎_elim
          (λ b. let y = rises (k + 1) b in let u = c (omega arith) in omega (arith, kf (k + 1) b))
          (λ b. let z : k + 1 ≡ r = omega arith in let y : from' (k + 1) ≡ crossing h at r q = ap from' z ∙ ef in let u = c (omega arith) in omega arith)
          (lt_or_le (k + 1) r)

      new_top : crossing h at r q < nx → Env h at' from' nx (q + 1) (r + 1)
      new_top m = record {
        few = omega (arith, o.fewer, e.few);
        first = λ _. kf 0 (omega arith) ∙ e.first (omega (arith, o.fewer));
        rise = λ k l a b. by_place (λ l. k < l → from' k < from' l) l b
            (λ c. omega (arith, ef, kf k c, rises k c))
            (λ c d. omega (arith, kf l c, kf k (omega arith), e.rise k l d (omega (arith, o.fewer))))
            a;
        inside = λ k a. by_place (λ k. from' k < nx) k a (omega arith) (λ c. omega (arith, kf k c, e.inside k (omega (arith, o.fewer))));
        empty = λ a. absurd (let z : ⊥ = omega arith in z);
        low = λ k x w d. by_place (λ k. Owns from' (r + 1) x k → Lowest h (q + 1) x (at' k)) k w.one
            (λ v. subst (Lowest h (q + 1) x) (sym ea) (takes x (omega (arith, v.begin, ef)) d))
            (λ c v. subst (Lowest h (q + 1) x) (sym (ka k c)) (holds k x c (omega (arith, v.begin, kf k c)) (λ g. let u = v.end (omega arith) in omega (arith, kf (k + 1) g)) (before k x c v.end) d))
            w;
      }

    -- they meet beyond the row
    no_top : nx ≤ crossing h at r q → Env h at from nx (q + 1) r
    no_top m = record {
      few = omega (arith, o.fewer, e.few);
      first = λ _. e.first (omega (arith, o.fewer));
      rise = λ k l a b. e.rise k l a (omega (arith, o.fewer));
      inside = λ k a. e.inside k (omega (arith, o.fewer));
      empty = λ a. absurd (let z : ⊥ = omega arith in z);
      low = λ k x w d. holds k x w.one w.begin w.end (omega arith) d;
    }

-- ---- dropping

pub record Beaten (w : List ℕ) (s q key n r : ℕ) : Type 0 where
  pub fewer : r ≤ n
  pub gone : (k : ℕ) → r ≤ k → k < n → key + 2 * (begins w s k * column w s k) < key_at w s k + 2 * (begins w s k * q)

module _ (w : List ℕ) (s q key n : ℕ) where
  pub popped_none : Beaten w s q key n n
  popped_none = record { fewer = omega arith; gone = λ k a b. absurd (let z : ⊥ = omega arith in z) }

  module _ (r : ℕ) (b : Beaten w s q key n r) where
    module _ (some_left : 0 < r) (before : column w s (r - 1) < q) where
      pub popped_more : key < key_at w s (r - 1) + 2 * (begins w s (r - 1) * (q - column w s (r - 1))) → Beaten w s q key n (r - 1)
      popped_more o = record {
        fewer = omega (arith, b.fewer);
        gone = λ k c d. ⊎_elim
            (λ g. let z : r - 1 ≡ k = omega arith in subst (λ (i : ℕ). key + 2 * (begins w s i * column w s i) < key_at w s i + 2 * (begins w s i * q)) z (omega (arith, spread (begins w s (r - 1)) (column w s (r - 1)) q (omega arith))))
            (λ g. b.gone k g d)
            (lt_or_le k r);
      }

      pub popped_end : key_at w s (r - 1) + 2 * (begins w s (r - 1) * (q - column w s (r - 1))) ≤ key → Popped w s q key n r
      popped_end u = record { fewer = b.fewer; gone = b.gone; stays = λ _. omega (arith, spread (begins w s (r - 1)) (column w s (r - 1)) q (omega arith)) }

    pub popped_all : r ≤ 0 → Popped w s q key n r
    popped_all a = record { fewer = b.fewer; gone = b.gone; stays = λ c. absurd (let z : ⊥ = omega arith in z) }

-- ---- the stack in its place

pub stack-none : (h : ℕ → ℕ) (w : List ℕ) (s nx : ℕ) → Stack h w s nx 0 0
stack-none h w s nx = record { env = env-none h _ _ nx; keys = λ k a. absurd (let z : ⊥ = omega arith in z) }

pub stack_same : {h : ℕ → ℕ} {w : List ℕ} {s nx q l n : ℕ} → q ≡ l → Stack h w s nx q n → Stack h w s nx l n
stack_same {h} {w} {s} {nx} {q} {l} {n} e v = subst (λ (i : ℕ). Stack h w s nx i n) e v

-- its numbers are small
pub sound : (h : ℕ → ℕ) (w : List ℕ) (s nx q n : ℕ) → Keyed h nx → q ≤ nx → Stack h w s nx q n → Sound w s nx q n
sound h w s nx q n k a v = record {
  wide = k.wide;
  few = v.env.few;
  row = a;
  entry = λ i b.
      let l = (low-begin h _ _ nx q n v.env i b).real in
      let r : Real h nx (column w s i) = record { one = omega (arith, l.one); key = l.key } in
      record { before = l.one; small = omega (arith, v.keys i b, k.small _ r); root = omega (arith, v.keys i b, k.root _ r); inside = v.env.inside i b };
}

pub taken-same : (s nx q k l n e : ℕ) (w t : List ℕ) → k ≡ l → Taken s nx q k n e w t → Taken s nx q l n e w t
taken-same s nx q k l n e w t a d h b c v = d h b (c ∙ sym a) v

-- a column without a mark adds none
pub taken_skip : (s nx q n : ℕ) (w : List ℕ) → Taken s nx q far n n w w
taken_skip s nx q n w h k e v = record { env = env_skip h _ _ nx q n v.env (omega arith); keys = v.keys }

module _ (s nx q key n r : ℕ) (w : List ℕ) (o : Popped w s q key n r) (in_row : q < nx) (small : key < far) where
  module _ (h : ℕ → ℕ) (e : h q ≡ key) (v : Stack h w s nx q n) where
    dropped : Dropped h (column w s) (begins w s) q n r
    dropped = record {
      fewer = o.fewer;
      gone = λ k a b. omega (arith, o.gone k a b, v.keys k b);
      stays = λ a. omega (arith, o.stays a, v.keys (r - 1) (omega (arith, o.fewer)));
    }

    key-real : h q < far
    key-real = omega arith

  -- all were dropped
  pub taken-first : (t : List ℕ) → r ≡ 0 → Top w s 0 q key 0 t → Taken s nx q key n 1 w t
  taken-first t z p h k e v = record {
    env = new_first h _ _ nx q n r v.env (dropped h e v) (key-real h e v) in_row z _ _ p.column-is p.begins-is;
    keys = λ i a. let y : 0 ≡ i = omega arith in subst (λ (i : ℕ). key_at t s i ≡ h (column t s i)) y (p.key-is ∙ sym e ∙ ap h (sym p.column-is));
  }

  module _ (left : 0 < r) (x : ℕ) (is : x ≡ (key - key_at w s (r - 1)) / (2 * (q - column w s (r - 1))) + 1) where
    crosses : (h : ℕ → ℕ) → h q ≡ key → Stack h w s nx q n → x ≡ crossing h (column w s) r q
    unfolding meet
    crosses h e v = is ∙ ap (λ (d : ℕ). d / (2 * (q - column w s (r - 1))) + 1) (let z : key - key_at w s (r - 1) ≡ h q - h (column w s (r - 1)) = omega (arith, v.keys (r - 1) (omega (arith, o.fewer))) in z)

    -- q goes on top
    pub taken-top : (t : List ℕ) → x < nx → Top w s r q key x t → Taken s nx q key n (r + 1) w t
    taken-top t m p h k e v = record {
      env = new_top h _ _ nx q n r v.env (dropped h e v) (key-real h e v) in_row left _ _ p.column-is (p.begins-is ∙ crosses h e v) (λ i a. p.kept _ (omega arith)) (λ i a. p.kept _ (omega arith)) (omega (arith, crosses h e v));
      keys = λ i a. ⊎_elim
          (λ b. p.kept _ (omega arith) ∙ v.keys i (omega (arith, o.fewer)) ∙ ap h (sym (p.kept _ (omega arith))))
          (λ b. let y : r ≡ i = omega arith in subst (λ (i : ℕ). key_at t s i ≡ h (column t s i)) y (p.key-is ∙ sym e ∙ ap h (sym p.column-is)))
          (lt_or_le i r);
    }

    -- they meet beyond the row
    pub taken_none : nx ≤ x → Taken s nx q key n r w w
    taken_none m h k e v = record {
      env = no_top h _ _ nx q n r v.env (dropped h e v) (key-real h e v) in_row left (omega (arith, crosses h e v));
      keys = λ i a. v.keys i (omega (arith, o.fewer));
    }

  -- the key of the one below is no higher
  pub key_le : Sound w s nx q n → 0 < r → key_at w s (r - 1) ≤ key
  key_le d left = omega (arith, o.stays left, spread (begins w s (r - 1)) (column w s (r - 1)) q (omega (arith, (d.entry (r - 1) (omega (arith, o.fewer))).before)))

-- ---- outside the scratch

pub rest-none : (s nx : ℕ) (w : List ℕ) → Rest s nx w w
rest-none s nx w = record { left = λ c a. refl; right = λ c a. refl }

pub rest_trans : {s nx : ℕ} {w t u : List ℕ} → Rest s nx w t → Rest s nx t u → Rest s nx w u
rest_trans a b = record { left = λ c h. b.left c h ∙ a.left c h; right = λ c h. b.right c h ∙ a.right c h }

pub rest-top : {s nx r q key x : ℕ} {w t : List ℕ} → Top w s r q key x t → r < nx → Rest s nx w t
rest-top p a = record { left = λ c h. p.kept c (omega arith); right = λ c h. p.rest c (omega arith) }
