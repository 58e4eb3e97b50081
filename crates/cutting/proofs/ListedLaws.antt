-- Chunks listed behind those that the lent slices hold: how many, and that the slices then hold them too. Assumes nothing.
use mathlib.Core.Path.{◌≡◌, sym, ap, ◌∙◌, subst}
use mathlib.Core.List.{List, [], ◌∷◌, ◌++◌, append_assoc, append-nil}
use Prim.Native.Nat.{ℕ, ◌+◌, ◌*◌, ◌≤◌}
use native.Mathlib.Omega.{arith}
use lib.ListN.{length, length-append, length-map}
use lib.Ieee.{Float}
use Rattle.geom.specs.declared.vec2.Vec2.{Vec2}
use Rattle.links.specs.Path.{Way}
use Rattle.events.specs.Chunk.{Point, Chunk, cut}
use Rattle.events.specs.Lent.{Row, Triple, point_triple, triples_of, row_at, rows_from, all_triples, HoldsRows, Holds, HoldsTrial, set_row, gap_triples, put_from, put_rows}
use Rattle.events.proofs.LentLaws.{triples_more, rows-set, trial-kept, trial_moves}
use Rattle.events.proofs.ShiftLaws.{set3-long, big, big_long, gap_is}
use Rattle.cutting.specs.Way.{way_chunks}
use Rattle.cutting.proofs.ListingLaws.{triples-long, rows_long, way-singles}

pub listed-long : (path : Way) (q : Vec2) (ps : List Point) → length (all_triples (way_chunks path q ++ (cut ps ∷ []))) ≡ length (way_chunks path q) + length ps
listed-long path q ps =
    ap length (triples_more (way_chunks path q) (cut ps)) ∙ length-append (all_triples (way_chunks path q)) (triples_of (cut ps))
    ∙ ap (λ (k : ℕ). k + length (triples_of (cut ps))) (way-singles path q) ∙ ap (λ (k : ℕ). length (way_chunks path q) + k) (length-map ps point_triple)

pub gap-long : (k n : ℕ) (new : List Triple) (l : List Float) → (k + n + length new) * 3 ≤ length l → length (gap_triples k n new l) ≡ length l
gap-long k n new l h = let f : k * 3 + n * 3 + length new * 3 ≤ length l = omega arith in sym (ap length (gap_is k n new l f)) ∙ triples-long new k (big k n new l f) ∙ big_long k n new l f

-- the rows of ms put behind those of cs
rows_hold : (ms cs : List Chunk) (rows : List ℕ) → (length cs + length ms) * 3 ≤ length rows → HoldsRows rows cs → HoldsRows (put_rows (length cs) (rows_from (length (all_triples cs)) ms) rows) (cs ++ ms)
unfolding rows_from put_from
rows_hold [] cs rows a h = subst (HoldsRows rows) (sym (append-nil cs)) h
rows_hold (m ∷ ms) cs rows a h =
    subst (λ (k : ℕ). HoldsRows (put_rows k (rows_from (length (all_triples cs) + length (triples_of m)) ms) next) (cs ++ (m ∷ ms))) (length-append cs (m ∷ []))
    (subst (λ (k : ℕ). HoldsRows (put_rows (length (cs ++ (m ∷ []))) (rows_from k ms) next) (cs ++ (m ∷ ms))) (ap length (triples_more cs m) ∙ length-append (all_triples cs) (triples_of m))
    (subst (HoldsRows (put_rows (length (cs ++ (m ∷ []))) (rows_from (length (all_triples (cs ++ (m ∷ [])))) ms) next)) (append_assoc cs (m ∷ []) ms)
    (rows_hold ms (cs ++ (m ∷ [])) next (omega (arith, length-append cs (m ∷ []), set3-long rows (length cs * 3) row.kind row.first row.count)) (rows-set rows cs m (omega arith) h))))
  where
    row : Row
    row = row_at (length (all_triples cs)) m

    next : List ℕ
    next = set_row (length cs) row rows

-- the way's chunks and then the pass on trial, listed behind cs
pub listed-holds : (rows : List ℕ) (o : List Float) (cs : List Chunk) (ps : List Point) (path : Way) (q : Vec2)
    → (length (all_triples cs) + length (way_chunks path q) + length ps) * 3 ≤ length o → (length cs + length (way_chunks path q) + 1) * 3 ≤ length rows → HoldsTrial rows o cs ps
    → Holds (put_rows (length cs) (rows_from (length (all_triples cs)) (way_chunks path q ++ (cut ps ∷ []))) rows) (gap_triples (length (all_triples cs)) (length ps) (all_triples (way_chunks path q)) o)
    (cs ++ (way_chunks path q ++ (cut ps ∷ [])))
listed-holds rows o cs ps path q a b h = record {
  rows = rows_hold (ms ++ (cut ps ∷ [])) cs rows (omega (arith, length-append ms (cut ps ∷ []))) h.rows;
  triples = (subst (λ (ds : List Chunk). Holds end new ds) (append_assoc cs ms (cut ps ∷ []))
      (trial-kept moved new (cs ++ ms) ps (omega (arith, length-append cs ms, rows_long (rows_from (length (all_triples cs)) ms) (length cs) rows)) (trial_moves rows o cs ps ms moved (rows_hold ms cs rows (omega arith) h.rows) h))).triples;
}
  where
    ms : List Chunk
    ms = way_chunks path q

    moved : List ℕ
    moved = put_rows (length cs) (rows_from (length (all_triples cs)) ms) rows

    new : List Float
    new = gap_triples (length (all_triples cs)) (length ps) (all_triples ms) o

    end : List ℕ
    end = set_row (length (cs ++ ms)) (row_at (length (all_triples (cs ++ ms))) (cut ps)) moved
