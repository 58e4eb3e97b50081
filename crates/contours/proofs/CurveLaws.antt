-- What is said of curves: the last insert wins, and every piece has two points or more. Assumes nothing.
use Rattle.std.proofs.Common.{◌≡◌, ℕ, ◌*◌, ◌<◌, Bool, false, not, ◌||◌, ltb, List, [], ◌∷◌, ◌++◌, map, length, get_or, sym, refl, ap, ◌∙◌, ltb-false, eq-eqb, ne_eqb}
use mathlib.Core.Option.{some}
use lib.Ieee.{Float}
use Rattle.loops.specs.Each.{over, Each}
use Rattle.loops.specs.Loop.{turns, loop, turn}
use Rattle.loops.proofs.EachLaws.{over_more, each_more}
use Rattle.loops.proofs.Cases.{by_test}
use Rattle.geom.specs.declared.vec2.Vec2.{Vec2}
use Rattle.raster.specs.declared.grid.Grid.{Grid}
use Rattle.pieces.specs.Piece.{Piece}
use Rattle.contours.specs.Edge.{edge, crossing_at, nothing}
use Rattle.contours.specs.Square.{segment}
use Rattle.contours.specs.March.{march}
use Rattle.contours.specs.Curve.{EdgeMap, with, keyed, is_some, Joints, jointed, unjointed, joints_of, go_to, go_on, curve_of, curve_from, deduped, Curves, curves, added_piece, open_starts, firsts, curved, start_from, pieces_of, contours_of}
use Rattle.contours.specs.Chain.{inserted, tables_of}
use Rattle.contours.specs.Traced.{Below, TwoPoints}
use Rattle.contours.specs.declared.edge.EdgeNo.{EdgeNo}
use Rattle.contours.specs.declared.square.Segment.{Segment}
use Rattle.contours.proofs.HoldLaws.{tables-held}

-- ---- the last insert wins

module _ (segs : List Segment) (a b : EdgeNo) where
  last-is : joints_of (segs ++ (segment a b ∷ [])) ≡ jointed (segment a b) (joints_of segs)
  unfolding joints_of
  last-is = sym (over_more jointed segs (segment a b) unjointed)

  -- of segments that leave one edge the last one counts
  pub last_wins : (joints_of (segs ++ (segment a b ∷ []))).next a ≡ some b
  unfolding jointed keyed
  last_wins = ap (λ (j : Joints). j.next a) last-is ∙ rw (eq-eqb a.0 a.0 refl) refl

  -- and where another edge leads stays
  pub others_stay : (k : EdgeNo) → (k.0 ≡ a.0 → ⊥) → (joints_of (segs ++ (segment a b ∷ []))).next k ≡ (joints_of segs).next k
  unfolding jointed keyed
  others_stay k n = ap (λ (j : Joints). j.next k) last-is ∙ rw (ne_eqb k.0 a.0 n) refl

  -- so it is in the table
  pub last_tabled : (e : ℕ) → Each (Below e) (segs ++ (segment a b ∷ [])) → a.0 < e → get_or (tables_of e (segs ++ (segment a b ∷ []))).next a.0 0 ≡ b.0
  last_tabled e h l = (tables-held e (segs ++ (segment a b ∷ [])) h).next.entry a.0 l ∙ ap Rattle.contours.specs.Held.or_nothing last_wins

-- two segments leave edge 3, to edge 5 and then to edge 7
abbrev forked : List Segment
forked = segment (edge 3) (edge 5) ∷ segment (edge 3) (edge 7) ∷ []

pub forked_next : (joints_of forked).next (edge 3) ≡ some (edge 7)
unfolding joints_of over jointed keyed
forked_next = refl

pub forked_table : (tables_of 8 forked).next ≡ nothing ∷ nothing ∷ nothing ∷ 7 ∷ nothing ∷ nothing ∷ nothing ∷ nothing ∷ []
unfolding tables_of over inserted
forked_table = refl

-- the curve from edge 3 goes to edge 7
pub forked_curve : (curve_from (joints_of forked).next 8 (λ k. false) (edge 3)).ids ≡ edge 3 ∷ edge 7 ∷ []
unfolding joints_of over jointed keyed curve_from curve_of loop turns turn go_on go_to with
forked_curve = refl

-- ---- every piece has two points or more

added_two : (ps : List Vec2) (closed : Bool) (l : List Piece) → Each TwoPoints l → Each TwoPoints (added_piece ps closed l)
unfolding added_piece
added_two ps closed l h = by_test (Each TwoPoints) (ltb (length ps) 2) _ _ (λ t. h) (λ t. each_more TwoPoints l (record { points = ps; closed = closed }) h (ltb-false (length ps) 2 t))

module _ (at : EdgeNo → Vec2) (next : EdgeMap) (e : ℕ) where
  start-two : (s : EdgeNo) (c : Curves) → Each TwoPoints c.pieces → Each TwoPoints (start_from at next e s c).pieces
  unfolding start_from curved
  start-two s c h =
      let k = curve_from next e c.used s in
      by_test (λ (d : Curves). Each TwoPoints d.pieces) (c.used s || not (is_some (next s))) _ _ (λ t. h) (λ t. added_two (deduped (map at k.ids)) k.closed c.pieces h)

  starts_two : (l : List EdgeNo) (c : Curves) → Each TwoPoints c.pieces → Each TwoPoints (over (start_from at next e) l c).pieces
  unfolding over
  starts_two [] c h = h
  starts_two (s ∷ l) c h = starts_two l (start_from at next e s c) (start-two s c h)

pub contours_two : (g : Grid) (f : List Float) (level : Float) → Each TwoPoints (contours_of g f level)
unfolding contours_of pieces_of Each
contours_two g f level =
    let segs = march g f level in
    let t = joints_of segs in
    starts_two (crossing_at g f level) t.next (2 * (g.ny * g.nx)) (open_starts t.has_prev segs ++ firsts segs) (curves (λ k. false) []) tt
