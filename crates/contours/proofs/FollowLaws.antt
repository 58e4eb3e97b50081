-- The loop that follows a chain: what its slices hold after each turn, and at its end. Assumes nothing.
use Rattle.std.proofs.Common.{◌≡◌, ℕ, ◌+◌, ◌*◌, ◌<◌, ◌≤◌, Bool, true, false, eqb, List, [], ◌∷◌, ◌++◌, map, length, get_or, set, sym, refl, ap, ◌∙◌, subst, arith, length-set, eq-eqb, ne_eqb}
use lib.ListN.{length-map}
use lib.Ieee.{Float}
use Rattle.loops.proofs.EachLaws.{map_more}
use Rattle.loops.specs.Loop.{loop, on, out, turn}
use Rattle.loops.specs.Cells.{ones}
use Rattle.loops.proofs.LoopLaws.{Going, going_none, going_on, going_out}
use Rattle.loops.proofs.Cases.{by_test}
use Rattle.loops.proofs.CellLaws.{ones_le, ones-mark}
use Rattle.geom.specs.Region.{vertex_of}
use Rattle.geom.specs.Points.{points, put_point}
use Rattle.geom.specs.declared.vec2.Vec2.{Vec2}
use Rattle.geom.proofs.PointLaws.{points-length, points_more, put_there, put-length}
use Rattle.contours.specs.Chain.{Walk, Chain, walk, ended, step_to, follow, chain_of, walk_from, chain_from, last_from, extended, put_kept, Trailing, Followed}
use Rattle.contours.specs.Edge.{nothing}
use Rattle.contours.specs.Curve.{near, thinned, deduped}
use Rattle.contours.specs.declared.chain.Trail.{Trail}
use Rattle.contours.proofs.ChainLaws.{Walked, walked_none, walked_more, walked_room}
use Rattle.contours.proofs.DedupLaws.{deduped-few, trailing_more}

-- after some turns, `ids` are the edges after s
pub record Following (at : ℕ → Vec2) (next marks₀ : List ℕ) (pts₀ : List Float) (first s : ℕ) (marks : List ℕ) (pts : List Float) (t : Trail) (cur : ℕ) : Type 0 where
  pub turns : ℕ
  pub ids : List ℕ
  pub going : Going (turn (follow next s)) 0 (length marks₀) (on (walk_from marks₀ s)) (on (walk marks (s ∷ ids) cur)) turns
  pub walked : Walked (length marks₀) (ones marks₀) turns (walk marks (s ∷ ids) cur)
  pub trailing : Trailing first (at s) (map at ids) t pts
  pub before : (j : ℕ) → j < first → vertex_of pts j ≡ vertex_of pts₀ j
  pub long : length pts ≡ length pts₀

kept-length : (first : ℕ) (p : Vec2) (t : Trail) (w : List Float) → length (put_kept first p t w) ≡ length w
unfolding put_kept
kept-length first p t w = by_test (λ (l : List Float). length l ≡ length w) (near p t.last) _ _ (λ e. refl) (λ e. put-length (first + t.kept) p w)

kept-before : (first : ℕ) (p : Vec2) (t : Trail) (w : List Float) (j : ℕ) → j < first → vertex_of (put_kept first p t w) j ≡ vertex_of w j
unfolding put_kept
kept-before first p t w j h =
    by_test (λ (l : List Float). vertex_of l j ≡ vertex_of w j) (near p t.last) _ _ (λ e. refl) (λ e. put_there (first + t.kept) p w j (λ d. omega arith))

-- ---- how a turn ends the chain

module _ (next : List ℕ) (s k : ℕ) (w : Walk) where
  ends_open : get_or next w.cur 0 ≡ nothing → follow next s k w ≡ out (ended w false)
  unfolding follow
  ends_open e = rw (eq-eqb _ _ e) refl

  ends_closed : (get_or next w.cur 0 ≡ nothing → ⊥) → get_or next w.cur 0 ≡ s → follow next s k w ≡ out (ended w true)
  unfolding follow
  ends_closed a e = rw (ne_eqb _ _ a, eq-eqb _ _ e) refl

  ends_used : (get_or next w.cur 0 ≡ nothing → ⊥) → (get_or next w.cur 0 ≡ s → ⊥) → get_or w.marks (get_or next w.cur 0) 0 ≡ 1 → follow next s k w ≡ out (ended w false)
  unfolding follow
  ends_used a b e = rw (ne_eqb _ _ a, ne_eqb _ _ b, eq-eqb _ _ e) refl

-- ---- the slices

module _ (at : ℕ → Vec2) (next marks₀ : List ℕ) (pts₀ : List Float) (first s : ℕ) (room : first ≤ ones marks₀) where
  pub first-room : s < length marks₀ → eqb (get_or marks₀ s 0) 1 ≡ false → 2 * length marks₀ ≤ length pts₀ → 2 * first + 1 < length pts₀
  first-room b d h = omega (arith, ones-mark marks₀ s b d, ones_le (set marks₀ s 1), length-set marks₀ s 1)

  pub following_none : s < length marks₀ → eqb (get_or marks₀ s 0) 1 ≡ false → 2 * length marks₀ ≤ length pts₀
      → Following at next marks₀ pts₀ first s (set marks₀ s 1) (put_point first (at s) pts₀) (record { kept = 1; last = at s }) s
  unfolding deduped thinned last_from points
  following_none b d r =
      let h = first-room b d r in
      record {
        turns = 0;
        ids = [];
        going = going_none (turn (follow next s)) 0 (length marks₀) (on (walk_from marks₀ s));
        walked = walked_none (length marks₀) s marks₀ refl b d;
        trailing = record { is = subst (λ (k : ℕ). points first 1 (put_point k (at s) pts₀) ≡ at s ∷ []) (let z : first + 0 ≡ first = omega arith in z) (points_more first 0 (at s) pts₀ (omega arith)); last = refl };
        before = λ j k. put_there first (at s) pts₀ j (λ e. omega arith);
        long = put-length first (at s) pts₀;
      }

  -- the points are no more than the edges that were used
  pub kept-room : (marks : List ℕ) (pts : List Float) (t : Trail) (cur : ℕ) → Following at next marks₀ pts₀ first s marks pts t cur → first + t.kept ≤ ones marks
  kept-room marks pts t cur f =
      let k : t.kept ≡ length (deduped (at s ∷ map at f.ids)) = sym (points-length first t.kept pts) ∙ ap length f.trailing.is in
      let u = f.walked.used in
      let l = f.walked.listed in
      omega (arith, deduped-few (at s ∷ map at f.ids), length-map f.ids at)

  -- and there is room for one more where an edge is not used
  pub point-room : (marks : List ℕ) (pts : List Float) (t : Trail) (cur n : ℕ) → Following at next marks₀ pts₀ first s marks pts t cur
      → n < length marks₀ → (get_or marks n 0 ≡ 1 → ⊥) → 2 * length marks₀ ≤ length pts₀ → 2 * (first + t.kept) + 1 < length pts
  point-room marks pts t cur n f b d h =
      let l = f.walked.long in
      let p = f.long in
      omega (arith, kept-room marks pts t cur f, ones-mark marks n (omega arith) (ne_eqb _ _ d), ones_le (set marks n 1), length-set marks n 1)

  pub following_more : (marks : List ℕ) (pts : List Float) (t : Trail) (cur n : ℕ) → Following at next marks₀ pts₀ first s marks pts t cur
      → n ≡ get_or next cur 0 → (n ≡ nothing → ⊥) → (n ≡ s → ⊥) → (get_or marks n 0 ≡ 1 → ⊥) → n < length marks₀ → 2 * length marks₀ ≤ length pts₀
      → Following at next marks₀ pts₀ first s (set marks n 1) (put_kept first (at n) t pts) (extended (at n) t) n
  unfolding follow
  following_more marks pts t cur n f e a b d h r = record {
    turns = f.turns + 1;
    ids = f.ids ++ (n ∷ []);
    going = going_on (follow next s) 0 (length marks₀) (on (walk_from marks₀ s)) (walk marks (s ∷ f.ids) cur) (step_to n (walk marks (s ∷ f.ids) cur)) f.turns f.going
        (walked_room (length marks₀) (ones marks₀) f.turns _ f.walked) (rw (← e, ne_eqb _ _ a, ne_eqb _ _ b, ne_eqb _ _ d) refl);
    walked = walked_more (length marks₀) (ones marks₀) f.turns n (walk marks (s ∷ f.ids) cur) f.walked h (ne_eqb _ _ d);
    trailing = subst (λ (l : List Vec2). Trailing first (at s) l (extended (at n) t) (put_kept first (at n) t pts)) (sym (map_more at f.ids n))
        (trailing_more first (at s) (at n) (map at f.ids) t pts f.trailing (point-room marks pts t cur n f h d r));
    before = λ j k. kept-before first (at n) t pts j k ∙ f.before j k;
    long = kept-length first (at n) t pts ∙ f.long;
  }

  -- the chain ends: what its turn gives
  following_out : (marks : List ℕ) (pts : List Float) (t : Trail) (cur : ℕ) (closed : Bool) (f : Following at next marks₀ pts₀ first s marks pts t cur)
      → follow next s f.turns (walk marks (s ∷ f.ids) cur) ≡ out (ended (walk marks (s ∷ f.ids) cur) closed)
      → Followed at next marks₀ pts₀ first s marks pts t.kept closed
  unfolding chain_from chain_of
  following_out marks pts t cur closed f e =
      let w = walk marks (s ∷ f.ids) cur in
      let o : loop (turn (follow next s)) 0 (length marks₀) (on (walk_from marks₀ s)) ≡ out (ended w closed) =
      going_out (follow next s) 0 (length marks₀) (on (walk_from marks₀ s)) w f.turns (ended w closed) f.going (walked_room (length marks₀) (ones marks₀) f.turns w f.walked) e in
      let c : chain_from next (length marks₀) marks₀ s ≡ ended w closed = ap chain_of o in
      record {
        marks-is = sym (ap (λ (k : Chain). k.marks) c);
        points-is = f.trailing.is ∙ sym (ap (λ (k : Chain). deduped (map at k.ids)) c);
        closed_is = sym (ap (λ (k : Chain). k.closed) c);
        before = f.before;
        marks-long = f.walked.long;
        pts-long = f.long;
        room = kept-room marks pts t cur f;
      }

  pub out_open : (marks : List ℕ) (pts : List Float) (t : Trail) (cur : ℕ) → Following at next marks₀ pts₀ first s marks pts t cur → get_or next cur 0 ≡ nothing
      → Followed at next marks₀ pts₀ first s marks pts t.kept false
  out_open marks pts t cur f e = following_out marks pts t cur false f (ends_open next s f.turns (walk marks (s ∷ f.ids) cur) e)

  pub out-closed : (marks : List ℕ) (pts : List Float) (t : Trail) (cur : ℕ) → Following at next marks₀ pts₀ first s marks pts t cur → (get_or next cur 0 ≡ nothing → ⊥) → get_or next cur 0 ≡ s
      → Followed at next marks₀ pts₀ first s marks pts t.kept true
  out-closed marks pts t cur f a e = following_out marks pts t cur true f (ends_closed next s f.turns (walk marks (s ∷ f.ids) cur) a e)

  pub out-used : (marks : List ℕ) (pts : List Float) (t : Trail) (cur : ℕ) → Following at next marks₀ pts₀ first s marks pts t cur
      → (get_or next cur 0 ≡ nothing → ⊥) → (get_or next cur 0 ≡ s → ⊥) → get_or marks (get_or next cur 0) 0 ≡ 1 → Followed at next marks₀ pts₀ first s marks pts t.kept false
  out-used marks pts t cur f a b e = following_out marks pts t cur false f (ends_used next s f.turns (walk marks (s ∷ f.ids) cur) a b e)
