-- Rows and triples as the lent slices hold them: a row is three u32 (kind, first triple, count), a triple three f64. Definitions only.
use Rattle.std.specs.Prelude.{ℕ, zero, suc, ◌+◌, ◌*◌, ◌≡◌, cond, List, [], ◌∷◌, ◌++◌, map, length, take, drop, set, eqb, leb, Float}
use Rattle.std.proofs.Math.Option.{Option, none, some}
use Rattle.geom.specs.Vec.{v2, f0}
use Rattle.geom.specs.declared.vec2.Vec2.{Vec2}
use Rattle.events.specs.Chunk.{Point, Chunk, helix, plunge, link, cut}

pub record Row : Type 0 where
  pub kind : ℕ
  pub first : ℕ
  pub count : ℕ

pub record Triple : Type 0 where
  pub x : Float
  pub y : Float
  pub value : Float

-- ---- writing

abbrev pub triple_at : Vec2 → Float → Triple
triple_at p v = record { x = p.x; y = p.y; value = v }

abbrev pub point_triple : Point → Triple
point_triple p = triple_at p.at p.angle

-- document 01's numbers of the kinds
abbrev pub kind_of : Chunk → ℕ
kind_of (helix c rad) = 1
kind_of (plunge p) = 2
kind_of (link p) = 3
kind_of (cut ps) = 4

abbrev pub triples_of : Chunk → List Triple
triples_of (helix c rad) = triple_at c rad ∷ []
triples_of (plunge p) = triple_at p f0 ∷ []
triples_of (link p) = triple_at p f0 ∷ []
triples_of (cut ps) = map point_triple ps

abbrev pub row_at : ℕ → Chunk → Row
row_at n c = record { kind = kind_of c; first = n; count = length (triples_of c) }

-- the rows of a list whose first triple has the number n, and its triples
unfoldable pub rows_from : ℕ → List Chunk → List Row
rows_from n [] = []
rows_from n (c ∷ cs) = row_at n c ∷ rows_from (n + length (triples_of c)) cs

unfoldable pub all_triples : List Chunk → List Triple
all_triples [] = []
all_triples (c ∷ cs) = triples_of c ++ all_triples cs

unfoldable pub flat_rows : List Row → List ℕ
flat_rows [] = []
flat_rows (r ∷ rs) = r.kind ∷ r.first ∷ r.count ∷ flat_rows rs

unfoldable pub flat_triples : List Triple → List Float
flat_triples [] = []
flat_triples (t ∷ ts) = t.x ∷ t.y ∷ t.value ∷ flat_triples ts

-- ---- reading

-- n rows; and all triples, a rest of one or two counting for none
unfoldable pub read_rows : ℕ → List ℕ → List Row
read_rows zero l = []
read_rows (suc n) [] = []
read_rows (suc n) (k ∷ []) = []
read_rows (suc n) (k ∷ f ∷ []) = []
read_rows (suc n) (k ∷ f ∷ c ∷ l) = record { kind = k; first = f; count = c } ∷ read_rows n l

unfoldable pub read_triples : List Float → List Triple
read_triples [] = []
read_triples (x ∷ []) = []
read_triples (x ∷ y ∷ []) = []
read_triples (x ∷ y ∷ v ∷ l) = record { x = x; y = y; value = v } ∷ read_triples l

abbrev pub place : Triple → Vec2
place t = v2 t.x t.y

abbrev pub point_of : Triple → Point
point_of t = record { at = place t; angle = t.value }

-- a kind with one triple
abbrev pub single : (Triple → Chunk) → List Triple → Option Chunk
single f [] = none
single f (t ∷ []) = some (f t)
single f (t ∷ u ∷ ts) = none

unfoldable pub chunk_of : ℕ → List Triple → Option Chunk
chunk_of k ts =
    cond (eqb k 1) (single (λ t. helix (place t) t.value) ts)
    (cond (eqb k 2) (single (λ t. plunge (place t)) ts)
    (cond (eqb k 3) (single (λ t. link (place t)) ts)
    (cond (eqb k 4) (some (cut (map point_of ts))) none)))

abbrev pub push : Option Chunk → Option (List Chunk) → Option (List Chunk)
push none o = none
push (some c) none = none
push (some c) (some cs) = some (c ∷ cs)

-- a row's chunk, if all its triples are there
unfoldable pub chunk_at : Row → List Triple → Option Chunk
chunk_at r ts = cond (leb (r.first + r.count) (length ts)) (chunk_of r.kind (take r.count (drop r.first ts))) none

unfoldable pub read_chunks : List Row → List Triple → Option (List Chunk)
read_chunks [] ts = some []
read_chunks (r ∷ rs) ts = push (chunk_at r ts) (read_chunks rs ts)

-- the first n rows of the lent slices; none where they are no list
unfoldable pub decode : ℕ → List ℕ → List Float → Option (List Chunk)
decode n rows triples = cond (leb (n * 3) (length rows)) (read_chunks (read_rows n rows) (read_triples triples)) none

-- ---- the slices while planning: their first parts are a list's rows and triples, and what stands behind is free

abbrev pub HoldsRows : List ℕ → List Chunk → Type 0
HoldsRows r cs = take (length cs * 3) r ≡ flat_rows (rows_from 0 cs)

pub record Holds (r : List ℕ) (t : List Float) (cs : List Chunk) : Type 0 where
  pub rows : HoldsRows r cs
  pub triples : take (length (all_triples cs) * 3) t ≡ flat_triples (all_triples cs)

-- the same with a pass on trial, whose triples stand right behind the listed ones
pub record HoldsTrial (r : List ℕ) (t : List Float) (cs : List Chunk) (ps : List Point) : Type 0 where
  pub rows : HoldsRows r cs
  pub triples : take ((length (all_triples cs) + length ps) * 3) t ≡ flat_triples (all_triples cs ++ map point_triple ps)

-- three numbers at i
abbrev pub set3 : {A : Type 0} → ℕ → A → A → A → List A → List A
set3 i a b c l = set (set (set l i a) (i + 1) b) (i + 2) c

abbrev pub set_row : ℕ → Row → List ℕ → List ℕ
set_row n r l = set3 (n * 3) r.kind r.first r.count l

abbrev pub set_triple : ℕ → Triple → List Float → List Float
set_triple n t l = set3 (n * 3) t.x t.y t.value l

-- the triples new come to stand at k, and the n triples of the pass on trial move up behind them
unfoldable pub gap_triples : ℕ → ℕ → List Triple → List Float → List Float
gap_triples k n new l = take (k * 3) l ++ (flat_triples new ++ (take (n * 3) (drop (k * 3) l) ++ drop ((k + n + length new) * 3) l))

-- the n numbers from low on move up by d; what they leave behind stays till it is written over
unfoldable pub shift_up : ℕ → ℕ → ℕ → List Float → List Float
shift_up low n d l = take (low + d) l ++ (drop low (take (low + n) l) ++ drop (low + n + d) l)

-- rows or triples put one after another, from number k on
unfoldable pub put_from : {T E : Type 0} → (ℕ → T → List E → List E) → ℕ → List T → List E → List E
put_from f k [] l = l
put_from f k (t ∷ ts) l = put_from f (k + 1) ts (f k t l)

abbrev pub put_all : ℕ → List Triple → List Float → List Float
put_all k ts l = put_from set_triple k ts l

abbrev pub put_rows : ℕ → List Row → List ℕ → List ℕ
put_rows k rs l = put_from set_row k rs l
