-- What the proofs of `next` cite: the distance of a piece point by point, and the next piece row by row; and that the next one comes before all others.
-- Assumes nothing.
use Rattle.passes.specs.Start.{Place}
use Rattle.std.specs.Prelude.{None, Some, unwrap_or}
use mathlib.Core.Path.{◌≡◌, refl, sym, ap, ◌∙◌, subst}
use mathlib.Core.Bool.{Bool, true, false}
use mathlib.Core.List.{List}
use Prim.Native.Nat.{ℕ, suc, ◌+◌, ◌≤◌, ◌<◌}
use native.Mathlib.Omega.{arith}
use lib.ListN.{length}
use lib.Dec.{ltb}
use lib.Ieee.{Float, inf}
use borrow.Author.Tests.{ltb-false, lt-ltb, le-ltb}
use Rattle.loops.specs.Each.{over}
use Rattle.loops.specs.Least.{then_by, least_by}
use Rattle.loops.proofs.Cases.{by_cases}
use Rattle.loops.proofs.EachLaws.{over_more}
use Rattle.loops.proofs.LeastLaws.{Leads, leads-first, leads_new, leads-on, leads-end, Ordered, lower_ordered, turned-ordered, then_ordered, then_equal, least-below, least_first}
use Rattle.numbers.specs.Order.{min_of}
use Rattle.geom.specs.Vec.{v2, f0, distance_of}
use Rattle.geom.specs.Region.{vertex_of}
use Rattle.geom.specs.Points.{points}
use Rattle.geom.specs.declared.vec2.Vec2.{Vec2}
use Rattle.geom.proofs.PointLaws.{points_get, points-length}
use Rattle.pieces.specs.Piece.{Piece, row_at, piece_of, pieces_at}
use Rattle.pieces.specs.declared.row.Row.{Row}
use Rattle.pieces.proofs.PieceLaws.{pieces-length, piece_get}
use Rattle.passes.specs.Simulate.{nowhere}
use Rattle.passes.proofs.StartLaws.{nearer-ordered}
use Rattle.rounds.specs.Next.{here_of, closer, piece_far, no_piece, candidate_of, candidate_at, nearer, longer, earlier, comes_before, next_of, Read}
use Rattle.rounds.specs.declared.next.Candidate.{Candidate}

pub here-is : (pos : Place) → unwrap_or pos (v2 f0 f0) ≡ here_of pos
unfolding here_of
here-is None = refl
here-is (Some p) = refl

-- ---- how far a piece is

module _ (pts : List Float) (to : Vec2) where
  -- k of n points are gone over
  pub record Closest (first n : ℕ) (so : Float) (k : ℕ) : Type 0 where
    pub high : k ≤ n
    pub is : so ≡ over (closer to) (points first k pts) (inf false)

  module _ (first n : ℕ) where
    pub closest_none : Closest first n (inf false) 0
    unfolding over points
    closest_none = record { high = omega arith; is = refl }

    pub closest_more : (so so' d : Float) (v : Vec2) (k : ℕ) → Closest first n so k → k < n → v ≡ vertex_of pts (first + k) → d ≡ distance_of v to → so' ≡ min_of so d → Closest first n so' (k + 1)
    unfolding points
    closest_more so so' d v k g h U D S = record {
      high = omega arith;
      is = S ∙ ap (λ (x : Float). min_of x d) g.is ∙ ap (min_of (over (closer to) (points first k pts) (inf false))) (D ∙ ap (λ (q : Vec2). distance_of q to) U)
          ∙ over_more (closer to) (points first k pts) (vertex_of pts (first + k)) (inf false)
          ∙ ap (λ (i : ℕ). over (closer to) (points first i pts) (inf false)) (let z : suc k ≡ k + 1 = omega arith in z);
    }

    pub closest_end : (so : Float) (k : ℕ) → Closest first n so k → n ≤ k → so ≡ over (closer to) (points first n pts) (inf false)
    closest_end so k g h = g.is ∙ ap (λ (i : ℕ). over (closer to) (points first i pts) (inf false)) (let l = g.high in let z : k ≡ n = omega arith in z)

  module _ (r : Row) where
    pub far-closed : (d : Float) → d ≡ over (closer to) (points r.first r.points pts) (inf false) → r.closed ≡ true → d ≡ piece_far (piece_of r pts) to
    unfolding piece_far piece_of
    far-closed d D e = rw e D

    pub far_open : (v : Vec2) (d : Float) → 1 ≤ r.points → v ≡ vertex_of pts r.first → d ≡ distance_of v to → r.closed ≡ false → d ≡ piece_far (piece_of r pts) to
    unfolding piece_far piece_of
    far_open v d h U D e =
        rw e (D ∙ ap (λ (q : Vec2). distance_of q to)
        (U ∙ ap (vertex_of pts) (let z : r.first ≡ r.first + 0 = omega arith in z) ∙ sym (points_get r.first r.points 0 pts nowhere (omega arith))))

-- ---- what a piece is chosen by

pub row_read : (r : Row) (pts : List Float) → Read r pts → (q : Row) → q ≡ r → Read q pts
row_read r pts h q Q = subst (λ (x : Row). Read x pts) (sym Q) h

pub candidate-is : (r : Row) (pts : List Float) (to : Vec2) (k : ℕ) (q : Row) → q ≡ r → (d : Float) → d ≡ piece_far (piece_of q pts) to
    → record { far = d; points = q.points; at = k } ≡ candidate_of (piece_of r pts) to k
unfolding candidate_of piece_of
candidate-is r pts to k q Q d D =
    (λ i. record { far = D i; points = sym (points-length q.first q.points pts) i; at = k }) ∙ ap (λ (x : Row). candidate_of (piece_of x pts) to k) Q

-- ---- which of two is cut first

module _ (a b : Candidate) where
  pub ahead_equal : a.points ≡ b.points → ltb a.at b.at ≡ then_by longer earlier a b
  unfolding then_by
  ahead_equal e = rw (le-ltb b.points a.points (omega arith), le-ltb a.points b.points (omega arith))

  pub ahead_not : (a.points ≡ b.points → ⊥) → ltb b.points a.points ≡ then_by longer earlier a b
  unfolding then_by
  ahead_not e = by_cases (ltb b.points a.points) (λ t. rw t) (λ t. rw (t, lt-ltb a.points b.points (omega (arith, ltb-false b.points a.points t, e))))

  pub before-yes : (t : Bool) → t ≡ nearer a b → t ≡ true → true ≡ comes_before a b
  unfolding comes_before then_by
  before-yes t T e = rw (← T, e)

  module _ (t : Bool) (T : t ≡ nearer a b) (e : t ≡ false) (u : Bool) (U : u ≡ nearer b a) where
    pub before-no : u ≡ true → false ≡ comes_before a b
    unfolding comes_before then_by
    before-no d = rw (← T, e, ← U, d)

    pub before_level : u ≡ false → (r : Bool) → r ≡ then_by longer earlier a b → r ≡ comes_before a b
    unfolding comes_before then_by
    before_level d r R = rw (← T, e, ← U, d) R

-- ---- it is an order

near_first : Ordered nearer
near_first = nearer-ordered (λ (c : Candidate). c.far)

long-first : Ordered longer
long-first = turned-ordered (λ (a b : Candidate). ltb a.points b.points) (lower_ordered (λ (c : Candidate). c.points))

early_first : Ordered earlier
early_first = lower_ordered (λ (c : Candidate). c.at)

before-ordered : Ordered comes_before
unfolding comes_before
before-ordered = then_ordered nearer (then_by longer earlier) near_first (then_ordered longer earlier long-first early_first)

-- of two with different numbers one comes before the other
before-one : (a b : Candidate) → comes_before a b ≡ false → comes_before b a ≡ false → a.at ≡ b.at
unfolding comes_before
before-one a b d e =
    then_equal nearer (then_by longer earlier) near_first (then_ordered longer earlier long-first early_first) a b d e
    (λ _ _ f g. then_equal longer earlier long-first early_first a b f g (λ _ _ h k. omega (arith, ltb-false a.at b.at h, ltb-false b.at a.at k)))

-- ---- the next one

module _ (m : ℕ) (rows : List ℕ) (pts : List Float) (to : Vec2) where
  abbrev all : List Piece
  all = pieces_at m rows pts

  -- of the pieces of the rows before k the one that comes first so far
  abbrev pub Foremost : Candidate → ℕ → Type 0
  Foremost b k = Leads comes_before (candidate_at all to) m b.at b k

  row-candidate : (k : ℕ) → k < m → (c : Candidate) → c ≡ candidate_of (piece_of (row_at rows k) pts) to k → c ≡ candidate_at all to k
  row-candidate k h c C = C ∙ ap (λ (p : Piece). candidate_of p to k) (sym (piece_get m k rows pts no_piece h))

  pub next-first : 1 ≤ m → (c : Candidate) → c ≡ candidate_of (piece_of (row_at rows 0) pts) to 0 → Foremost c 1
  unfolding candidate_of
  next-first h c C =
      subst (λ (k : ℕ). Leads comes_before (candidate_at all to) m k c 1) (sym (ap (λ (d : Candidate). d.at) C)) (leads-first comes_before (candidate_at all to) m c (row-candidate 0 h c C))

  module _ (k : ℕ) (h : k < m) (c b : Candidate) (C : c ≡ candidate_of (piece_of (row_at rows k) pts) to k) (l : Foremost b k) (t : Bool) (T : t ≡ comes_before c b) (r : Candidate) where
    pub next_new : t ≡ true → r ≡ c → Foremost r (k + 1)
    unfolding candidate_of
    next_new e R =
        subst (λ (q : Candidate). Foremost q (k + 1)) (sym R)
        (subst (λ (j : ℕ). Leads comes_before (candidate_at all to) m j c (k + 1)) (sym (ap (λ (d : Candidate). d.at) C))
        (leads_new comes_before (candidate_at all to) m b.at b k l h c (row-candidate k h c C) (sym T ∙ e)))

    pub next-on : t ≡ false → r ≡ b → Foremost r (k + 1)
    next-on e R = subst (λ (q : Candidate). Foremost q (k + 1)) (sym R) (leads-on comes_before (candidate_at all to) m b.at b k l h c (row-candidate k h c C) (sym T ∙ e))

  pub next-end : (b : Candidate) (k : ℕ) → Foremost b k → m ≤ k → b.at ≡ next_of all to
  unfolding next_of
  next-end b k l h = leads-end comes_before (candidate_at all to) m b.at b k l h ∙ ap (least_by comes_before (candidate_at all to)) (sym (pieces-length m rows pts))

module _ (l : List Piece) (to : Vec2) (h : 0 < length l) where
  -- it is one of them
  pub next-below : next_of l to < length l
  unfolding next_of
  next-below = least-below comes_before (candidate_at l to) (length l) h

  -- and none comes before it
  pub next-least : (j : ℕ) → j < length l → comes_before (candidate_at l to j) (candidate_at l to (next_of l to)) ≡ false
  unfolding next_of
  next-least j b = least_first comes_before (candidate_at l to) before-ordered (length l) h j b

  -- so it comes before all others
  pub next-before : (j : ℕ) → j < length l → (j ≡ next_of l to → ⊥) → comes_before (candidate_at l to (next_of l to)) (candidate_at l to j) ≡ true
  unfolding candidate_of
  next-before j b n =
      by_cases (comes_before (candidate_at l to (next_of l to)) (candidate_at l to j)) (λ e. e) (λ e. absurd (n (before-one (candidate_at l to j) (candidate_at l to (next_of l to)) (next-least j b) e)))
