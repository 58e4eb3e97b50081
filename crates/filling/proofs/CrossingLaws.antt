-- What the proofs of crossings.rt cite: the edges of a loop that cross a row. Assumes nothing.
use Rattle.std.specs.Prelude.{Option, None, IfSome}
use mathlib.Core.Path.{◌≡◌, refl, sym, ap, ◌∙◌, subst}
use mathlib.Core.Bool.{Bool, true, false, not-not}
use mathlib.Core.List.{List}
use Prim.Native.Nat.{ℕ, ◌+◌, ◌≤◌, ◌<◌}
use native.Mathlib.Omega.{arith}
use lib.ListN.{length, get_or}
use lib.Dec.{ltb}
use lib.Ieee.{Float, nan, lt}
use borrow.Author.Tests.{ltb-true, ltb-false, lt-ltb, le-leb, lt-leb}
use Rattle.loops.specs.Loop.{loop}
use Rattle.loops.proofs.LoopLaws.{loop-none, loop_more, loop_keeps, loop_split}
use Rattle.loops.proofs.Cases.{by_cases, by_test}
use Rattle.geom.specs.Vec.{v2}
use Rattle.geom.specs.Region.{edge_at, vertex_of, crossing_of, before, turned}
use Rattle.filling.specs.declared.crossings.Pair.{Pair}
use Rattle.filling.specs.Columns.{left_from, Before, crosses, NextCrossing, in_run, turned_if, Paired, pair, ordered_of}

-- ---- no edge from `from` on below i crosses the row

pub record Seeking (vs : List Float) (at n : ℕ) (y : Float) (from i : ℕ) : Type 0 where
  pub low : from ≤ i
  pub high : i ≤ n
  pub idle : (k : ℕ) → from ≤ k → k < i → crosses vs at n y k ≡ false

module _ (vs : List Float) (at n : ℕ) (y : Float) (from : ℕ) where
  pub seeking_none : from ≤ n → Seeking vs at n y from from
  seeking_none h = record { low = omega arith; high = h; idle = λ k a b. absurd (let z : ⊥ = omega arith in z) }

  pub seeking_more : (i : ℕ) → Seeking vs at n y from i → i < n → crosses vs at n y i ≡ false → Seeking vs at n y from (i + 1)
  seeking_more i s h e = record {
    low = omega (arith, s.low);
    high = omega arith;
    idle = λ k a b. by_cases (ltb k i)
        (λ u. s.idle k a (ltb-true k i u))
        (λ u. let z : k ≡ i = omega (arith, ltb-false k i u) in subst (λ (j : ℕ). crosses vs at n y j ≡ false) (sym z) e);
  }

  pub seeking_found : (i : ℕ) → Seeking vs at n y from i → crosses vs at n y i ≡ true → NextCrossing vs at n y from i
  seeking_found i s e = record { low = s.low; high = s.high; idle = s.idle; cross = λ h. e }

  pub seeking_end : (i : ℕ) → Seeking vs at n y from i → n ≤ i → NextCrossing vs at n y from n
  seeking_end i s l = record {
    low = omega (arith, s.low, s.high);
    high = omega arith;
    idle = λ k a b. s.idle k a (omega arith);
    cross = λ h. absurd (let z : ⊥ = omega arith in z);
  }

-- ---- how edges turn the answer of a point

turned_swap : (a b s : Bool) → turned_if a (turned_if b s) ≡ turned_if b (turned_if a s)
turned_swap true true s = refl
turned_swap true false s = refl
turned_swap false true s = refl
turned_swap false false s = refl

-- two crossings turn the answers of the columns between them
between : (k l c : ℕ) (s : Bool) → k ≤ l → turned_if (ltb c l) (turned_if (ltb c k) s) ≡ turned_if (in_run k l c) s
unfolding in_run
between k l c s h =
    by_cases (ltb c k)
    (λ u. let z = ltb-true c k u in rw (u, lt-ltb c l (omega arith), lt-leb k c z) (not-not s))
    (λ u. rw (u, le-leb k c (ltb-false c k u)))

-- where edge i crosses the row
abbrev crossing_at : List Float → ℕ → ℕ → Float → ℕ → Float
crossing_at vs at n y i = crossing_of (vertex_of vs (at + i)) (vertex_of vs (at + before n i)) y

module _ (vs : List Float) (at n : ℕ) (y x : Float) where
  still : (i : ℕ) (s : Bool) → crosses vs at n y i ≡ false → edge_at vs at n (v2 x y) i s ≡ s
  unfolding turned
  still i s e = rw e

  -- edges that do not cross the row turn no answer
  pub idle-edges : (a e : ℕ) → ((i : ℕ) → a ≤ i → i < e → crosses vs at n y i ≡ false) → (s : Bool) → loop (edge_at vs at n (v2 x y)) a e s ≡ s
  idle-edges a e h s = loop_keeps (edge_at vs at n (v2 x y)) a (λ (t : Bool). t ≡ s) e (λ i t b c p. still i t (h i b c) ∙ p) s refl

  turns_at : (i : ℕ) (s : Bool) → crosses vs at n y i ≡ true → edge_at vs at n (v2 x y) i s ≡ turned_if (lt x (crossing_at vs at n y i)) s
  unfolding turned
  turns_at i s e = rw e

  -- up to the next edge that crosses, only edge i turns it
  one-turns : (i j : ℕ) (s : Bool) → crosses vs at n y i ≡ true → NextCrossing vs at n y (i + 1) j → loop (edge_at vs at n (v2 x y)) i j s ≡ turned_if (lt x (crossing_at vs at n y i)) s
  one-turns i j s e h =
      let f = edge_at vs at n (v2 x y) in
      let t = loop f i (i + 1) s in
      loop_split f i (i + 1) j s (omega arith) h.low
      ∙ idle-edges (i + 1) j h.idle t
      ∙ sym (loop_more f i i s (omega arith))
      ∙ ap (f i) (sym (loop-none f i s))
      ∙ turns_at i s e

module _ (xs vs : List Float) (at n : ℕ) (y : Float) (i k j : ℕ) (e : crosses vs at n y i ≡ true) (K : Before xs (crossing_at vs at n y i) k) (J : NextCrossing vs at n y (i + 1) j) where
  -- columns left of the crossing are the first k
  columns-turn : (c : ℕ) (s : Bool) → c < length xs → loop (edge_at vs at n (v2 (get_or xs c nan) y)) i j s ≡ turned_if (ltb c k) s
  columns-turn c s h = one-turns vs at n y (get_or xs c nan) i j s e J ∙ ap (λ (b : Bool). turned_if b s) (K.at c h)

  -- no edge after it crosses
  pub paired_alone : j ≡ n → Paired xs vs at n y i (pair 0 k None)
  unfolding in_run
  paired_alone z = record {
    run = omega arith;
    most = K.most;
    on = omega (arith, J.low);
    next-on = tt;
    is = λ c s h. rw (le-leb 0 c (omega arith)) (subst (λ (m : ℕ). loop (edge_at vs at n (v2 (get_or xs c nan) y)) i m s ≡ turned_if (ltb c k) s) z (columns-turn c s h));
    cross = λ h. absurd (let z : ⊥ = omega arith in z);
  }

module _ (xs vs : List Float) (at n : ℕ) (y : Float) (i k j l : ℕ) (next : Option ℕ) (e : crosses vs at n y i ≡ true) (K : Before xs (crossing_at vs at n y i) k) (J : NextCrossing vs at n y (i + 1) j) (h : j < n)
    (L : Before xs (crossing_at vs at n y j) l) (N : NextCrossing vs at n y (j + 1) (left_from n next)) (O : IfSome next (λ (m : ℕ). m < n)) where
  two-turn : (c : ℕ) (s : Bool) → c < length xs → loop (edge_at vs at n (v2 (get_or xs c nan) y)) i (left_from n next) s ≡ turned_if (ltb c l) (turned_if (ltb c k) s)
  two-turn c s b =
      loop_split (edge_at vs at n (v2 (get_or xs c nan) y)) i j (left_from n next) s (omega (arith, J.low)) (omega (arith, N.low))
      ∙ columns-turn xs vs at n y j l (left_from n next) (J.cross h) L N c _ b
      ∙ ap (turned_if (ltb c l)) (columns-turn xs vs at n y i k j e K J c s b)

  paired_run : (a b : ℕ) → a ≤ b → b ≤ length xs → ((c : ℕ) (s : Bool) → turned_if (ltb c l) (turned_if (ltb c k) s) ≡ turned_if (in_run a b c) s) → Paired xs vs at n y i (pair a b next)
  paired_run a b r m t = record {
    run = r;
    most = m;
    on = omega (arith, J.low, N.low);
    next-on = O;
    is = λ c s d. two-turn c s d ∙ t c s;
    cross = N.cross;
  }

  -- the first two edges from i on that cross
  pub paired_two : (p : Pair) → p ≡ ordered_of k l next → Paired xs vs at n y i p
  unfolding ordered_of
  paired_two p d =
      subst (Paired xs vs at n y i) (sym d)
      (by_test (Paired xs vs at n y i) (ltb k l) (pair k l next) (pair l k next)
      (λ u. let z = ltb-true k l u in paired_run k l (omega arith) L.most (λ c s. between k l c s (omega arith)))
      (λ u. let z = ltb-false k l u in paired_run l k z K.most (λ c s. turned_swap (ltb c l) (ltb c k) s ∙ between l k c s z)))
