-- The order of entries: `before_of` is a strict total order, and two entries of which neither comes before the other are the same. Assumes nothing.
use mathlib.Core.Path.{◌≡◌, sym, ap, ◌∙◌, subst}
use mathlib.Core.Bool.{Bool, true, false}
use Prim.Native.Nat.{ℕ, ◌<◌}
use native.Mathlib.Omega.{arith}
use lib.Dec.{T, ltb}
use lib.Ieee.{Float, binary64, fits, lt}
use borrow.Author.Tests.{ltb-false, lt-ltb, le-ltb}
use Rattle.loops.specs.Least.{then_by}
use Rattle.loops.proofs.Cases.{by_cases}
use Rattle.loops.proofs.LeastLaws.{Ordered, itself, lower_ordered, then_ordered, then_equal}
use Rattle.numbers.specs.Order.{rank_of, total_of}
use Rattle.std.specs.declared.cmp.Ordering.{Ordering}
use Rattle.numbers.proofs.OrderLaws.{rank_one}
use Rattle.links.specs.declared.heap.Entry.{Entry}
use Rattle.links.specs.Heap.{before_of, settled}
use Rattle.links.proofs.RankLaws.{rank_lt}

abbrev entry_of : Float → ℕ → Entry
entry_of x v = record { est = x; node = record { 0 = v } }

abbrev lower_estimate : Entry → Entry → Bool
lower_estimate a b = ltb (rank_of a.est) (rank_of b.est)

abbrev lower_node : Entry → Entry → Bool
lower_node a b = ltb a.node.0 b.node.0

then_is : (a b : Entry) → before_of a b ≡ then_by lower_estimate lower_node a b
unfolding before_of settled total_of then_by
then_is a b = by_cases (lower_estimate a b) (λ p. rw p) (λ p. by_cases (lower_estimate b a) (λ q. rw (p, q)) (λ q. rw (p, q)))

estimates : Ordered lower_estimate
estimates = lower_ordered (λ (a : Entry). rank_of a.est)

nodes : Ordered lower_node
nodes = lower_ordered (λ (a : Entry). a.node.0)

before-ordered : Ordered before_of
before-ordered = subst Ordered (λ i a b. sym (then_is a b) i) (then_ordered lower_estimate lower_node estimates nodes)

pub before_same : (a : Entry) → before_of a a ≡ false
before_same a = itself before_of before-ordered a

-- what comes before does not come after
pub before-once : (a b : Entry) → before_of a b ≡ true → before_of b a ≡ false
before-once a b e = before-ordered.one_way a b e

-- where b does not come before a, nor c before b, c does not come before a
pub not_before : (a b c : Entry) → before_of b a ≡ false → before_of c b ≡ false → before_of c a ≡ false
not_before a b c p q = before-ordered.passed_on c b a q p

-- two entries of which neither comes before the other are one
pub one_entry : (a b : Entry) → T (fits binary64 a.est) → T (fits binary64 b.est) → before_of a b ≡ false → before_of b a ≡ false → a ≡ b
one_entry a b f g p q =
    then_equal lower_estimate lower_node estimates nodes a b (sym (then_is a b) ∙ p) (sym (then_is b a) ∙ q)
    (λ k l m n. made
    (rank_one a.est b.est f g (omega (arith, ltb-false (rank_of a.est) (rank_of b.est) k, ltb-false (rank_of b.est) (rank_of a.est) l)))
    (omega (arith, ltb-false a.node.0 b.node.0 m, ltb-false b.node.0 a.node.0 n)))
  where
    made : a.est ≡ b.est → a.node.0 ≡ b.node.0 → a ≡ b
    made d e = ap (λ (x : Float). entry_of x a.node.0) d ∙ ap (λ (v : ℕ). entry_of b.est v) e

-- the arms of `before`
pub before_by : (a b : Entry) (o : Ordering) → o ≡ total_of a.est b.est → settled o (ltb a.node.0 b.node.0) ≡ before_of a b
unfolding before_of
before_by a b o e = ap (λ (x : Ordering). settled x (ltb a.node.0 b.node.0)) e

module _ (a b : Entry) (p : T (fits binary64 a.est)) (q : T (fits binary64 b.est)) where
  pub before-less : lt a.est b.est ≡ true → true ≡ before_of a b
  unfolding then_by
  before-less h = sym (then_is a b ∙ rw (lt-ltb (rank_of a.est) (rank_of b.est) (rank_lt a.est b.est p q h)))

  pub before-greater : lt b.est a.est ≡ true → false ≡ before_of a b
  unfolding then_by
  before-greater h =
      let l : rank_of b.est < rank_of a.est = rank_lt b.est a.est q p h in
      sym (then_is a b ∙ rw (le-ltb (rank_of a.est) (rank_of b.est) (omega arith), lt-ltb (rank_of b.est) (rank_of a.est) l))
