-- Over all chains, an edge is used exactly if it is followed, and it is followed once. Assumes nothing.
use Rattle.std.proofs.Common.{◌≡◌, ℕ, zero, suc, ◌<◌, Bool, true, false, ◌||◌, eqb, List, [], ◌∷◌, ◌++◌, length, get_or, replicate, sym, refl, ap, ◌∙◌, subst, arith, length-set}
use lib.ListN.{length-replicate}
use Rattle.loops.proofs.EachLaws.{over_keeps, each_all}
use Rattle.loops.proofs.SetLaws.{set_either}
use Rattle.loops.specs.Each.{over, Each}
use Rattle.loops.proofs.Cases.{by_cases, by_test}
use Rattle.geom.specs.declared.vec2.Vec2.{Vec2}
use Rattle.contours.specs.Chain.{Leads, chain_from, Chains, chained, starts_at, start_at, chain_all, Tables, inserted, blank, tables_of}
use Rattle.contours.specs.Edge.{nothing}
use Rattle.contours.specs.Traced.{Below}
use Rattle.contours.specs.Used.{used, has, Once, Owns, Visits, visits, followed_at, followed_all, followed_of}
use Rattle.contours.specs.declared.square.Segment.{Segment}
use Rattle.contours.proofs.ChainLaws.{tables_lead}
use Rattle.contours.proofs.TourLaws.{unused-start}
use Rattle.contours.proofs.UsedLaws.{has-append, once-append, chain_owns}

-- the edges followed are those used, each once
pub record VisitedOnce (e : ℕ) (t : Visits) : Type 0 where
  pub long : length t.marks ≡ e
  pub once : Once t.ids
  pub is : (i : ℕ) → used t.marks i ≡ has i t.ids

module _ (next : List ℕ) (e : ℕ) (z : length next ≡ e) (leads : Leads (λ (n : ℕ). n < e) next) where
  followed_chain : (s : ℕ) (t : Visits) → s < e → used t.marks s ≡ false → VisitedOnce e t → let c = chain_from next e t.marks s in VisitedOnce e (visits c.marks (t.ids ++ c.ids))
  followed_chain s t b d h =
      let l = h.long in
      let r = subst (λ (k : ℕ). let c = chain_from next k t.marks s in Owns next s t.marks c.marks c.ids × (length c.marks ≡ length t.marks)) l
      (chain_owns next s t.marks (z ∙ sym l) (subst (λ (k : ℕ). Leads (λ (n : ℕ). n < k) next) (sym l) leads) (omega arith) d) in
      let o = r.0 in
      let c = chain_from next e t.marks s in
      record {
        long = r.1 ∙ l;
        once = once-append t.ids c.ids h.once o.once (λ x f. sym (h.is x) ∙ o.fresh x f);
        is = λ i. o.taken i ∙ ap (λ (b : Bool). b || has i c.ids) (h.is i) ∙ sym (has-append i t.ids c.ids);
      }

  followed_start : (first : Bool) (s : Segment) (t : Visits) → Below e s → VisitedOnce e t → VisitedOnce e (followed_at next e first s.from.0 t)
  unfolding followed_at
  followed_start first s t b h =
      by_test (VisitedOnce e) (starts_at first (get_or t.marks s.from.0 0)) _ _ (λ a. followed_chain s.from.0 t b.from (unused-start first (get_or t.marks s.from.0 0) a) h) (λ a. h)

  pub followed_all_lem : (first : Bool) (segs : List Segment) → Each (Below e) segs → (t : Visits) → VisitedOnce e t → VisitedOnce e (followed_all next e first segs t)
  unfolding followed_all
  followed_all_lem first segs b t h = over_keeps (λ (s : Segment). followed_at next e first s.from.0) (Below e) (VisitedOnce e) (followed_start first) segs b t h

-- ---- the tables use no edge yet

record Unused (e : ℕ) (t : Tables) : Type 0 where
  pub next-long : length t.next ≡ e
  pub marks-long : length t.marks ≡ e
  pub none : (i : ℕ) → used t.marks i ≡ false

get_d_zeros : (n i : ℕ) → get_or (replicate {A = ℕ} n 0) i 0 ≡ 0
get_d_zeros zero i = refl
get_d_zeros (suc n) zero = refl
get_d_zeros (suc n) (suc i) = get_d_zeros n i

unused-inserted : (e : ℕ) (s : Segment) (t : Tables) → Below e s → Unused e t → Unused e (inserted s t)
unfolding inserted
unused-inserted e s t b h = record {
  next-long = length-set t.next s.from.0 s.to.0 ∙ h.next-long;
  marks-long = length-set t.marks s.to.0 2 ∙ h.marks-long;
  none = λ i. set_either (λ (v : ℕ). eqb v 1 ≡ false) t.marks s.to.0 i 2 0 refl (h.none i);
}

unused-tables : (e : ℕ) (segs : List Segment) → Each (Below e) segs → Unused e (tables_of e segs)
unfolding tables_of
unused-tables e segs b = over_keeps inserted (Below e) (Unused e) (unused-inserted e) segs b (blank e) record {
  next-long = length-replicate e nothing;
  marks-long = length-replicate e 0;
  none = λ i. ap (λ (v : ℕ). eqb v 1) (get_d_zeros e i);
}

-- each edge that the chains of these segments follow is followed once
pub edges-once : (e : ℕ) (segs : List Segment) → Each (Below e) segs → VisitedOnce e (followed_of e segs)
unfolding followed_of Once has
edges-once e segs b =
    let t = tables_of e segs in
    let u = unused-tables e segs b in
    let l = tables_lead (λ (n : ℕ). n < e) e segs (each_all (Below e) _ (λ s h. h.to) segs b) in
    let first : VisitedOnce e (followed_all t.next e true segs (visits t.marks [])) =
    followed_all_lem t.next e u.next-long l true segs b (visits t.marks []) (record { long = u.marks-long; once = tt; is = u.none }) in
    followed_all_lem t.next e u.next-long l false segs b _ first

-- ---- and they are the edges of the definition's chains

module _ (at : ℕ → Vec2) (next : List ℕ) (e : ℕ) (first : Bool) where
  same_start : (s : ℕ) (c : Chains) (t : Visits) → c.marks ≡ t.marks → (start_at at next e first s c).marks ≡ (followed_at next e first s t).marks
  unfolding start_at followed_at chained
  same_start s c t m = rw m (by_cases (starts_at first (get_or t.marks s 0)) (λ a. rw a refl) (λ a. rw a refl))

  pub same-marks : (segs : List Segment) (c : Chains) (t : Visits) → c.marks ≡ t.marks → (chain_all at next e first segs c).marks ≡ (followed_all next e first segs t).marks
  unfolding chain_all followed_all over
  same-marks [] c t m = m
  same-marks (s ∷ segs) c t m = same-marks segs (start_at at next e first s.from.0 c) (followed_at next e first s.from.0 t) (same_start s.from.0 c t m)
