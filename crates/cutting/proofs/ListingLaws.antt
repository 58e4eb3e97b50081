-- Rows and triples put one after another: the links of a way or a plunge, and the pass behind them. Assumes nothing.
use mathlib.Core.Path.{◌≡◌, refl, sym, ap, ◌∙◌, subst}
use mathlib.Core.List.{List, [], ◌∷◌, ◌++◌, map}
use Prim.Native.Nat.{ℕ, suc, ◌+◌, ◌*◌, ◌≤◌, ◌<◌}
use native.Mathlib.Omega.{arith}
use lib.ListN.{length, length-map}
use lib.Ieee.{Float}
use Rattle.loops.proofs.EachLaws.{map_more}
use Rattle.geom.specs.Vec.{f0}
use Rattle.geom.specs.Points.{points}
use Rattle.geom.specs.Region.{vertex_of}
use Rattle.geom.specs.declared.vec2.Vec2.{Vec2}
use Rattle.geom.proofs.PointLaws.{points-length}
use Rattle.links.specs.Path.{way_at, Way, lost, way}
use Rattle.links.specs.Link.{way_by}
use Rattle.links.specs.declared.link.Route.{Route}
use Rattle.std.specs.Prelude.{Option, Some, None}
use Rattle.events.specs.Chunk.{Point, Chunk, plunge, link, cut}
use Rattle.events.specs.Lent.{Row, Triple, triple_at, point_triple, row_at, rows_from, all_triples, set_row, set_triple, gap_triples, shift_up, put_from, put_all, put_rows}
use Rattle.events.specs.Read.{points_from}
use Rattle.events.proofs.LentLaws.{triples_more, rows_more, length-rows}
use Rattle.events.proofs.PassLaws.{points-long}
use Rattle.events.proofs.ShiftLaws.{set3-long, gap_is}
use Rattle.cutting.specs.Way.{moves_at, way_chunks, moves_of}

-- ---- one more put

module _ {T E : Type 0} (f : ℕ → T → List E → List E) where
  pub put_more : (ts : List T) (t : T) (k : ℕ) (l : List E) → put_from f k (ts ++ (t ∷ [])) l ≡ f (k + length ts) t (put_from f k ts l)
  unfolding put_from
  put_more [] t k l = ap (λ (i : ℕ). f i t l) (let z : k ≡ k + 0 = omega arith in z)
  put_more (s ∷ ts) t k l = put_more ts t (k + 1) (f k s l) ∙ ap (λ (i : ℕ). f i t (put_from f (k + 1) ts (f k s l))) (let z : k + 1 + length ts ≡ k + suc (length ts) = omega arith in z)

  pub put-long : ((k : ℕ) (t : T) (l : List E) → length (f k t l) ≡ length l) → (ts : List T) (k : ℕ) (l : List E) → length (put_from f k ts l) ≡ length l
  unfolding put_from
  put-long h [] k l = refl
  put-long h (t ∷ ts) k l = put-long h ts (k + 1) (f k t l) ∙ h k t l

pub triples-long : (ts : List Triple) (k : ℕ) (l : List Float) → length (put_all k ts l) ≡ length l
triples-long = put-long set_triple (λ k t l. set3-long l (k * 3) t.x t.y t.value)

pub rows_long : (rs : List Row) (k : ℕ) (l : List ℕ) → length (put_rows k rs l) ≡ length l
rows_long = put-long set_row (λ k r l. set3-long l (k * 3) r.kind r.first r.count)

-- ---- the links of a way

-- a row's three numbers
abbrev pub row_of : ℕ → ℕ → ℕ → Row
row_of kind first count = record { kind = kind; first = first; count = count }

links-long : (ps : List Vec2) → length (all_triples (map link ps)) ≡ length ps
unfolding all_triples
links-long [] = refl
links-long (p ∷ ps) = ap suc (links-long ps)

links-put : (ps : List Vec2) (p : Vec2) (k : ℕ) (l : List Float)
    → put_all k (all_triples (map link (ps ++ (p ∷ [])))) l ≡ set_triple (k + length ps) (triple_at p f0) (put_all k (all_triples (map link ps)) l)
links-put ps p k l =
    ap (λ (ts : List Triple). put_all k ts l) (ap all_triples (map_more link ps p) ∙ triples_more (map link ps) (link p))
    ∙ put_more set_triple (all_triples (map link ps)) (triple_at p f0) k l
    ∙ ap (λ (i : ℕ). set_triple (k + i) (triple_at p f0) (put_all k (all_triples (map link ps)) l)) (links-long ps)

links-rows : (ps : List Vec2) (p : Vec2) (n k : ℕ) (l : List ℕ)
    → put_rows k (rows_from n (map link (ps ++ (p ∷ [])))) l ≡ set_row (k + length ps) (row_of 3 (n + length ps) 1) (put_rows k (rows_from n (map link ps)) l)
links-rows ps p n k l =
    ap (λ (rs : List Row). put_rows k rs l) (ap (rows_from n) (map_more link ps p) ∙ rows_more n (map link ps) (link p))
    ∙ put_more set_row (rows_from n (map link ps)) (row_at (n + length (all_triples (map link ps))) (link p)) k l
    ∙ ap (λ (i : ℕ). set_row (k + length (rows_from n (map link ps))) (row_of 3 (n + i) 1) (put_rows k (rows_from n (map link ps)) l)) (links-long ps)
    ∙ ap (λ (i : ℕ). set_row (k + i) (row_of 3 (n + length ps) 1) (put_rows k (rows_from n (map link ps)) l)) (length-rows n (map link ps) ∙ length-map ps link)

-- k of n links are put
pub record Linking (path : List Float) (n first row : ℕ) (t₀ : List Float) (r₀ : List ℕ) (t : List Float) (r : List ℕ) (k : ℕ) : Type 0 where
  pub high : k ≤ n
  pub triples : t ≡ put_all first (all_triples (map link (points 0 k path))) t₀
  pub rows : r ≡ put_rows row (rows_from first (map link (points 0 k path))) r₀

module _ (path : List Float) (n first row : ℕ) (t₀ : List Float) (r₀ : List ℕ) where
  pub linking_none : Linking path n first row t₀ r₀ t₀ r₀ 0
  unfolding points all_triples rows_from put_from
  linking_none = record { high = omega arith; triples = refl; rows = refl }

  module _ (t : List Float) (r : List ℕ) (k : ℕ) (g : Linking path n first row t₀ r₀ t r k) where
    pub linking_long : length t ≡ length t₀
    linking_long = ap length g.triples ∙ triples-long (all_triples (map link (points 0 k path))) first t₀

    pub linking_rows_long : length r ≡ length r₀
    linking_rows_long = ap length g.rows ∙ rows_long (rows_from first (map link (points 0 k path))) row r₀

    pub linking_more : (p : Vec2) (t' : List Float) (r' : List ℕ) → k < n → p ≡ vertex_of path k → t' ≡ set_triple (first + k) (triple_at p f0) t → r' ≡ set_row (row + k) (row_of 3 (first + k) 1) r
        → Linking path n first row t₀ r₀ t' r' (k + 1)
    unfolding points
    linking_more p t' r' h e a b = record {
      high = omega arith;
      triples = a ∙ ap (set_triple (first + k) (triple_at p f0)) g.triples
          ∙ ap (λ (i : ℕ). set_triple (first + i) (triple_at p f0) (put_all first (all_triples (map link (points 0 k path))) t₀)) long
          ∙ sym (links-put (points 0 k path) p first t₀)
          ∙ ap (λ (l : List Vec2). put_all first (all_triples (map link l)) t₀) one;
      rows = b ∙ ap (set_row (row + k) (row_of 3 (first + k) 1)) g.rows
          ∙ ap (λ (i : ℕ). set_row (row + i) (row_of 3 (first + i) 1) (put_rows row (rows_from first (map link (points 0 k path))) r₀)) long
          ∙ sym (links-rows (points 0 k path) p first row r₀)
          ∙ ap (λ (l : List Vec2). put_rows row (rows_from first (map link l)) r₀) one;
    }
      where
        long : k ≡ length (points 0 k path)
        long = sym (points-length 0 k path)

        one : points 0 k path ++ (p ∷ []) ≡ points 0 (k + 1) path
        one = ap (λ (q : Vec2). points 0 k path ++ (q ∷ [])) (e ∙ ap (vertex_of path) (let z : k ≡ 0 + k = omega arith in z))
            ∙ ap (λ (i : ℕ). points 0 i path) (let z : suc k ≡ k + 1 = omega arith in z)

    pub linking_end : n ≤ k → Linking path n first row t₀ r₀ t r n
    linking_end h = subst (Linking path n first row t₀ r₀ t r) (let i = g.high in let z : k ≡ n = omega arith in z) g

-- ---- the way's chunks

pub plunge-put : (p : Vec2) (first row : ℕ) (t : List Float) (r : List ℕ)
    → (set_triple first (triple_at p f0) t ≡ put_all first (all_triples (plunge p ∷ [])) t) × (set_row row (row_of 2 first 1) r ≡ put_rows row (rows_from first (plunge p ∷ [])) r)
unfolding all_triples rows_from put_from
plunge-put p first row t r = (refl, refl)

pub way-along : (route : Route) (n : ℕ) (path : List Float) (q : Vec2) → route.points ≡ Some n → map link (points 0 n path) ≡ way_chunks (way_by route path) q
unfolding way_chunks
way-along route n path q e = rw e refl

pub way-lost : (route : Route) (path : List Float) (q : Vec2) → route.points ≡ None → plunge q ∷ [] ≡ way_chunks (way_by route path) q
unfolding way_chunks
way-lost route path q e = rw e refl

pub along_moves : (route : Route) (n : ℕ) → route.points ≡ Some n → moves_of route ≡ n
unfolding moves_of
along_moves route n e = rw e refl

pub lost_moves : (route : Route) → route.points ≡ None → moves_of route ≡ 1
unfolding moves_of
lost_moves route e = rw e refl

pub room_at : (at moves count long : ℕ) → moves ≡ count → (at + moves) * 3 ≤ long → (at + count) * 3 ≤ long
room_at at moves count long e h = omega arith

-- the chunks cs are the way's
pub way-put : (cs ds : List Chunk) (first row : ℕ) (t : List Float) (r : List ℕ) → cs ≡ ds → (t' : List Float) (r' : List ℕ) → t' ≡ put_all first (all_triples cs) t → r' ≡ put_rows row (rows_from first cs) r
    → (t' ≡ put_all first (all_triples ds) t) × (r' ≡ put_rows row (rows_from first ds) r)
way-put cs ds first row t r e t' r' a b = (a ∙ ap (λ (l : List Chunk). put_all first (all_triples l) t) e, b ∙ ap (λ (l : List Chunk). put_rows row (rows_from first l) r) e)

-- each has one triple
pub way-singles : (path : Way) (q : Vec2) → length (all_triples (way_chunks path q)) ≡ length (way_chunks path q)
unfolding way_chunks all_triples
way-singles lost q = refl
way-singles (way ps) q = links-long ps ∙ sym (length-map ps link)

pub way_long : (route : Route) (path : List Float) (q : Vec2) → length (way_chunks (way_by route path) q) ≡ moves_of route
unfolding way_chunks moves_of
way_long route path q = go route.points
  where
    go : (r : Option ℕ) → length (way_chunks (way_at r path) q) ≡ moves_at r
    go (Some n) = length-map (points 0 n path) link ∙ points-length 0 n path
    go None = refl

-- ---- the pass behind the way

-- the moves ms of one triple each are put in the room made before the pass
module _ (ms : List Chunk) (moves first row n : ℕ) (t : List Float) (r : List ℕ) (long : length (all_triples ms) ≡ moves) where
  pass-triples : (t₁ t₂ : List Float) → (first + moves + n) * 3 ≤ length t → t₁ ≡ shift_up (first * 3) (n * 3) (moves * 3) t → t₂ ≡ put_all first (all_triples ms) t₁
      → t₂ ≡ gap_triples first n (all_triples ms) t
  pass-triples t₁ t₂ fits a b =
      b ∙ ap (put_all first (all_triples ms)) (a ∙ ap (λ (i : ℕ). shift_up (first * 3) (n * 3) (i * 3) t) (sym long)) ∙ gap_is first n (all_triples ms) t (omega (arith, long))

  pass-rows : (ps : List Point) (r₁ r₂ : List ℕ) → length ps ≡ n → length ms ≡ moves → r₁ ≡ put_rows row (rows_from first ms) r → r₂ ≡ set_row (row + moves) (row_of 4 (first + moves) n) r₁
      → r₂ ≡ put_rows row (rows_from first (ms ++ (cut ps ∷ []))) r
  pass-rows ps r₁ r₂ p m a b =
      b ∙ ap (set_row (row + moves) (row_of 4 (first + moves) n)) a
      ∙ ap (λ (i : ℕ). set_row (row + i) (row_of 4 (first + moves) n) old) (sym (length-rows first ms ∙ m))
      ∙ ap (λ (i : ℕ). set_row (row + length (rows_from first ms)) (row_of 4 (first + i) n) old) (sym long)
      ∙ ap (λ (i : ℕ). set_row (row + length (rows_from first ms)) (row_of 4 (first + length (all_triples ms)) i) old) (sym (length-map ps point_triple ∙ p))
      ∙ sym (ap (λ (rs : List Row). put_rows row rs r) (rows_more first ms (cut ps)) ∙ put_more set_row (rows_from first ms) (row_at (first + length (all_triples ms)) (cut ps)) row r)
    where
      old : List ℕ
      old = put_rows row (rows_from first ms) r

pub pass-put : (route : Route) (path : List Float) (lead : Vec2) (moves first row n : ℕ) (t t₁ t₂ : List Float) (r r₁ r₂ : List ℕ) → moves ≡ moves_of route
    → (first + moves_of route + n) * 3 ≤ length t → let ms = way_chunks (way_by route path) lead in t₁ ≡ shift_up (first * 3) (n * 3) (moves * 3) t
    → t₂ ≡ put_all first (all_triples ms) t₁ → r₁ ≡ put_rows row (rows_from first ms) r → r₂ ≡ set_row (row + moves) (row_of 4 (first + moves) n) r₁
    → (t₂ ≡ gap_triples first n (all_triples ms) t) × (r₂ ≡ put_rows row (rows_from first (ms ++ (cut (points_from t first n) ∷ []))) r)
pass-put route path lead moves first row n t t₁ t₂ r r₁ r₂ m fits a b d e = (
  pass-triples ms moves first row n t r (way-singles (way_by route path) lead ∙ long) t₁ t₂ (omega (arith, m)) a b,
  pass-rows ms moves first row n t r (way-singles (way_by route path) lead ∙ long) (points_from t first n) r₁ r₂ (points-long t first n) long d e,
)
  where
    ms : List Chunk
    ms = way_chunks (way_by route path) lead

    long : length ms ≡ moves
    long = way_long route path lead ∙ sym m
