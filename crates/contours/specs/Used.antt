-- What is said of the edges that chains follow, beside how they are worked out. Definitions only.
use Rattle.std.specs.Prelude.{◌≡◌, ℕ, Bool, true, false, cond, ◌||◌, List, [], ◌∷◌, ◌++◌, ◌==◌, slice_index}
use Rattle.loops.specs.Each.{over}
use Rattle.contours.specs.Chain.{chain_from, starts_at, tables_of}
use Rattle.contours.specs.declared.square.Segment.{Segment}

abbrev pub used : List ℕ → ℕ → Bool
used marks i = slice_index marks i == 1

unfoldable pub has : ℕ → List ℕ → Bool
has x [] = false
has x (y ∷ l) = x == y || has x l

-- no number is there twice
unfoldable pub Once : List ℕ → Type 0
Once [] = Unit
Once (x ∷ l) = (has x l ≡ false) × Once l

-- from s on, each edge is the next of the one before, and the last is `cur`
unfoldable pub Follows : List ℕ → ℕ → List ℕ → ℕ → Type 0
Follows next s [] cur = s ≡ cur
Follows next s (n ∷ l) cur = (slice_index next s ≡ n) × Follows next n l cur

-- The chain from s: its edges are s and the ones after it, each once; none was used before, all are used then, and no other edge's use has changed.
pub record Owns (next : List ℕ) (s : ℕ) (marks marks' ids : List ℕ) : Type 0 where
  pub later : List ℕ
  pub last : ℕ
  pub edges : ids ≡ s ∷ later
  pub path : Follows next s later last
  pub once : Once ids
  pub fresh : (i : ℕ) → has i ids ≡ true → used marks i ≡ false
  pub taken : (i : ℕ) → used marks' i ≡ used marks i || has i ids

-- ---- all chains: the edges they follow, one chain behind the other

pub record Visits : Type 0 where
  pub marks : List ℕ
  pub ids : List ℕ

abbrev pub visits : List ℕ → List ℕ → Visits
visits marks ids = record { marks = marks; ids = ids }

unfoldable pub followed_at : List ℕ → ℕ → Bool → ℕ → Visits → Visits
followed_at next e first s t = let c = chain_from next e t.marks s in cond (starts_at first (slice_index t.marks s)) (visits c.marks (t.ids ++ c.ids)) t

unfoldable pub followed_all : List ℕ → ℕ → Bool → List Segment → Visits → Visits
followed_all next e first segs t = over (λ (s : Segment). followed_at next e first s.from.0) segs t

-- the edges of the open chains and then of the loops
unfoldable pub followed_of : ℕ → List Segment → Visits
followed_of e segs = let t = tables_of e segs in followed_all t.next e false segs (followed_all t.next e true segs (visits t.marks []))
