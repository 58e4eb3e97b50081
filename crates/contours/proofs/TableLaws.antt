-- The parts of the words: a next edge that is written changes its part alone, and segments are read from theirs. Assumes nothing.
use Rattle.std.proofs.Common.{◌≡◌, ℕ, suc, ◌+◌, ◌-◌, ◌*◌, ◌<◌, ◌≤◌, List, get_or, drop, set, sym, refl, ap, ◌∙◌, subst, arith, length-set, get_or-drop, get_or-take}
use Rattle.loops.proofs.EachLaws.{over_more}
use Rattle.loops.specs.Each.{Each, over}
use Rattle.loops.specs.Regions.{within}
use Rattle.loops.proofs.SetLaws.{set-within, set_behind}
use Rattle.contours.specs.Square.{segment}
use Rattle.contours.specs.March.{segment_at, segments_of}
use Rattle.contours.specs.Chain.{tables, inserted}
use Rattle.contours.specs.Edge.{edge}
use Rattle.contours.specs.Traced.{segments_at, Inserted}
use Rattle.contours.specs.Places.{next_at, rows_at, segments_in, next_in}
use Rattle.contours.specs.declared.square.Segment.{Segment}
use Rattle.contours.proofs.SegmentLaws.{each-segment}

front_get : (e k : ℕ) (w : List ℕ) → k < e → get_or (within 0 e w) k 0 ≡ get_or w k 0
unfolding within
front_get e k w h = get_or-take (e - 0) (drop 0 w) k 0 (omega arith) ∙ get_or-drop 0 w k 0 ∙ ap (λ (i : ℕ). get_or w i 0) (let z : 0 + k ≡ k = omega arith in z)

-- ---- segments

-- segment k is read where it stands
pub segment-read : (n k : ℕ) (w₀ w : List ℕ) → segments_in n w ≡ segments_in n w₀ → 2 * k + 1 < next_at n → segment_at (segments_in n w₀) k ≡ segment (edge (get_or w (2 * k) 0)) (edge (get_or w (2 * k + 1) 0))
unfolding segment_at
segment-read n k w₀ w e h =
    ap (λ (l : List ℕ). segment (edge (get_or l (2 * k) 0)) (edge (get_or l (2 * k + 1) 0))) (sym e)
    ∙ ap (λ (a : ℕ). segment (edge a) (edge (get_or (segments_in n w) (2 * k + 1) 0))) (front_get (next_at n) (2 * k) w (omega arith))
    ∙ ap (λ (b : ℕ). segment (edge (get_or w (2 * k) 0)) (edge b)) (front_get (next_at n) (2 * k + 1) w (omega arith))

-- and what holds of the segments holds of it
pub segment-each : (P : Segment → Type 0) (n m k : ℕ) (w₀ w : List ℕ) → Each P (segments_at n m w₀) → segments_in n w ≡ segments_in n w₀ → m ≤ 2 * n → k < m
    → P (segment (edge (get_or w (2 * k) 0)) (edge (get_or w (2 * k + 1) 0)))
segment-each P n m k w₀ w h e f b = subst P (segment-read n k w₀ w e (omega arith)) (each-segment P m (segments_in n w₀) h k b)

-- ---- the tables

pub inserted-none : (n : ℕ) (w m : List ℕ) → Inserted n 0 w m w m
unfolding over segments_of
inserted-none n w m = record { is = refl; kept = refl; words_long = refl; marks-long = refl }

pub inserted_more : (n k : ℕ) (w₀ m₀ w m : List ℕ) → Inserted n k w₀ m₀ w m → 2 * k + 1 < next_at n → get_or w (2 * k) 0 < 2 * n
    → Inserted n (k + 1) w₀ m₀ (set w (next_at n + get_or w (2 * k) 0) (get_or w (2 * k + 1) 0)) (set m (get_or w (2 * k + 1) 0) 2)
unfolding inserted segments_of
inserted_more n k w₀ m₀ w m h b d =
    let from = get_or w (2 * k) 0 in
    let to = get_or w (2 * k + 1) 0 in
    let s = segment_at (segments_in n w₀) k in
    let t₀ = tables (next_in n w₀) m₀ in
    record {
      is = ap (λ (l : List ℕ). tables l (set m to 2)) (set-within w to (next_at n) (rows_at n) from (omega arith))
          ∙ ap (λ (q : Segment). inserted q (tables (next_in n w) m)) (sym (segment-read n k w₀ w h.kept b))
          ∙ ap (inserted s) h.is
          ∙ over_more inserted (segments_at n k w₀) s t₀
          ∙ ap (λ (j : ℕ). over inserted (segments_of j (segments_in n w₀)) t₀) (let z : suc k ≡ k + 1 = omega arith in z);
      kept = set_behind w to 0 (next_at n) (next_at n + from) (omega arith) (omega arith) ∙ h.kept;
      words_long = length-set w (next_at n + from) to ∙ h.words_long;
      marks-long = length-set m to 2 ∙ h.marks-long;
    }
