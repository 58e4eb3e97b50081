-- The laws of chains: each turn uses one edge more, so that a chain ends and its points are no more than the edges it used. Assumes nothing.
use Rattle.std.proofs.Common.{◌≡◌, ℕ, zero, suc, ◌+◌, ◌-◌, ◌<◌, false, eqb, List, [], ◌∷◌, length, get_or, sym, refl, ap, ◌∙◌, subst, arith, length-append, length-set}
use lib.ListN.{length-replicate, get_or-replicate}
use Rattle.loops.specs.Each.{Each}
use Rattle.loops.specs.Loop.{turns, loop, Run, on, out, turn}
use Rattle.loops.specs.Cells.{ones}
use Rattle.loops.proofs.Cases.{by_test, never}
use Rattle.loops.proofs.CellLaws.{ones_le, ones-mark}
use Rattle.loops.proofs.SetLaws.{set_either}
use Rattle.loops.proofs.EachLaws.{over_keeps}
use Rattle.contours.specs.declared.square.Segment.{Segment}
use Rattle.contours.specs.Chain.{Tables, inserted, blank, tables_of, Leads, Walk, Chain, step_to, follow, walk_from}
use Rattle.contours.specs.Edge.{nothing}

-- ---- the tables

module _ (P : ℕ → Type 0) (e : ℕ) where
  leads-next : (s : Segment) (t : Tables) → P s.to.0 → Leads P t.next → Leads P (inserted s t).next
  unfolding inserted
  leads-next s t p l = record {
    to = λ i b. set_either (λ (v : ℕ). eqb v nothing ≡ false → P v) t.next s.from.0 i s.to.0 0 (λ d. p) (l.to i (omega (arith, length-set t.next s.from.0 s.to.0)));
  }

  leads-blank : Leads P (blank e).next
  leads-blank = record {
    to = λ i b d. never (sym d ∙ ap (λ (v : ℕ). eqb v nothing) (get_or-replicate e i nothing 0 (omega (arith, length-replicate e nothing))));
  }

  -- where the segments lead, the table leads
  pub tables_lead : (segs : List Segment) → Each (λ (s : Segment). P s.to.0) segs → Leads P (tables_of e segs).next
  unfolding tables_of
  tables_lead segs h = over_keeps inserted (λ (s : Segment). P s.to.0) (λ (t : Tables). Leads P t.next) leads-next segs h (blank e) leads-blank

-- ---- a chain

-- what a walk over e edges keeps after its turns: an edge more is used and listed at each
pub record Walked (e from turns : ℕ) (w : Walk) : Type 0 where
  pub long : length w.marks ≡ e
  pub used : ones w.marks ≡ from + turns + 1
  pub listed : length w.ids ≡ turns + 1
  pub here : w.cur < e

pub walked_more : (e from k n : ℕ) (w : Walk) → Walked e from k w → n < e → eqb (get_or w.marks n 0) 1 ≡ false → Walked e from (k + 1) (step_to n w)
walked_more e from k n w h b d =
    let l = h.long in
    let u = h.used in
    let s = h.listed in
    record {
      long = length-set w.marks n 1 ∙ l;
      used = omega (arith, ones-mark w.marks n (omega arith) d);
      listed = omega (arith, length-append w.ids (n ∷ []));
      here = b;
    }

pub walked_none : (e s : ℕ) (marks : List ℕ) → length marks ≡ e → s < e → eqb (get_or marks s 0) 1 ≡ false → Walked e (ones marks) 0 (walk_from marks s)
walked_none e s marks l b d = record {
  long = length-set marks s 1 ∙ l;
  used = omega (arith, ones-mark marks s (omega arith) d);
  listed = refl;
  here = b;
}

-- there is an edge left for a turn
pub walked_room : (e from k : ℕ) (w : Walk) → Walked e from k w → k < e
walked_room e from k w h = let l = h.long in let u = h.used in omega (arith, ones_le w.marks)

-- a walk that is still on has walked as many turns
abbrev Still : ℕ → ℕ → ℕ → Run Walk Chain → Type 0
Still e from k (on w) = Walked e from k w
Still e from k (out c) = Unit {0}

still_follow : (next : List ℕ) (e from s i k : ℕ) (w : Walk) → length next ≡ e → Leads (λ (n : ℕ). n < e) next → Walked e from k w → Still e from (k + 1) (follow next s i w)
unfolding follow
still_follow next e from s i k w z l h =
    let n = get_or next w.cur 0 in
    by_test (Still e from (k + 1)) (eqb n nothing) _ _ (λ a. tt)
    (λ a. by_test (Still e from (k + 1)) (eqb n s) _ _ (λ b. tt)
    (λ b. by_test (Still e from (k + 1)) (eqb (get_or w.marks n 0) 1) _ _ (λ d. tt) (λ d. walked_more e from k n w h (l.to w.cur (omega (arith, h.here)) a) d)))

still_turn : (next : List ℕ) (e from s i k : ℕ) (r : Run Walk Chain) → length next ≡ e → Leads (λ (n : ℕ). n < e) next → Still e from k r → Still e from (k + 1) (turn (follow next s) i r)
unfolding turn
still_turn next e from s i k (on w) z l h = still_follow next e from s i k w z l h
still_turn next e from s i k (out c) z l h = tt

still_turns : (next : List ℕ) (e from s k : ℕ) (r : Run Walk Chain) → length next ≡ e → Leads (λ (n : ℕ). n < e) next → Still e from 0 r → Still e from k (turns (turn (follow next s)) 0 k r)
unfolding turns
still_turns next e from s zero r z l h = h
still_turns next e from s (suc k) r z l h =
    subst (λ (j : ℕ). Still e from j (turn (follow next s) (0 + k) (turns (turn (follow next s)) 0 k r))) (let y : k + 1 ≡ suc k = omega arith in y)
    (still_turn next e from s (0 + k) k _ z l (still_turns next e from s k r z l h))

-- a chain ends before its turns do
pub record Ends (next : List ℕ) (e : ℕ) (marks : List ℕ) (s : ℕ) : Type 0 where
  pub chain : Chain
  pub is : loop (turn (follow next s)) 0 e (on (walk_from marks s)) ≡ out chain

ends_by : (next : List ℕ) (e from : ℕ) (marks : List ℕ) (s : ℕ) (r : Run Walk Chain) → loop (turn (follow next s)) 0 e (on (walk_from marks s)) ≡ r → Still e from e r → Ends next e marks s
ends_by next e from marks s (on w) d h = absurd (let z : ⊥ = omega (arith, walked_room e from e w h) in z)
ends_by next e from marks s (out c) d h = record { chain = c; is = d }

pub chain_ends : (next : List ℕ) (e : ℕ) (marks : List ℕ) (s : ℕ) → length next ≡ e → Leads (λ (n : ℕ). n < e) next → length marks ≡ e → s < e → eqb (get_or marks s 0) 1 ≡ false → Ends next e marks s
unfolding loop
chain_ends next e marks s z l h b d =
    ends_by next e (ones marks) marks s _ refl
    (subst (λ (n : ℕ). Still e (ones marks) e (turns (turn (follow next s)) 0 n (on (walk_from marks s)))) (let y : e ≡ e - 0 = omega arith in y)
    (still_turns next e (ones marks) s e _ z l (walked_none e s marks h b d)))
