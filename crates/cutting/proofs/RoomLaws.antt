-- What is full first where chunks are listed, and the greatest contact. Assumes nothing.
use mathlib.Core.Path.{◌≡◌, refl, sym, ap, ◌∙◌, subst}
use mathlib.Core.List.{List, [], ◌∷◌, ◌++◌}
use Prim.Native.Nat.{ℕ, zero, suc, ◌+◌, ◌-◌, ◌≤◌, ◌<◌}
use native.Mathlib.Omega.{arith}
use lib.ListN.{length, replicate, length-map}
use lib.Ieee.{Float}
use lib.Dec.{leb}
use borrow.Author.Tests.{leb-true, leb-false, lt-ltb, le-ltb, eq-eqb, ne_eqb}
use Rattle.loops.specs.Each.{over}
use Rattle.loops.proofs.Cases.{by_cases}
use Rattle.loops.proofs.EachLaws.{over_more}
use Rattle.numbers.specs.Order.{max_of}
use Rattle.geom.specs.declared.vec2.Vec2.{Vec2}
use Rattle.links.specs.Path.{Way, lost, way}
use Rattle.events.specs.Chunk.{Point, cut}
use Rattle.events.specs.Lent.{point_triple}
use Rattle.events.specs.Read.{value_at, points_from}
use Rattle.cutting.specs.Way.{way_chunks}
use Rattle.std.specs.Prelude.{Result, Ok, Err}
use Rattle.cutting.specs.Listing.{needs, room_of, greater, greatest_of}
use Rattle.cutting.specs.declared.listing.Full.{Full}
use Rattle.cutting.specs.declared.listing.Full.TheVariants.{Triples, Rows}

-- ---- which refusal

-- chunks of one triple and then a cut of n
abbrev pub asked : ℕ → ℕ → List ℕ
asked moves n = replicate moves 1 ++ (n ∷ [])

module _ (n : ℕ) where
  one-fits : (t r m : ℕ) → 1 ≤ t → 1 ≤ r → room_of t r (asked (suc m) n) ≡ room_of (t - 1) (r - 1) (asked m n)
  unfolding room_of
  one-fits t r m a b = rw (le-ltb t 1 a, ne_eqb r 0 (λ e. omega arith)) refl

  -- i moves that fit
  some_fit : (i t r m : ℕ) → i ≤ t → i ≤ r → room_of t r (asked (i + m) n) ≡ room_of (t - i) (r - i) (asked m n)
  some_fit zero t r m a b =
      ap (λ (k : ℕ). room_of t r (asked k n)) (let z : 0 + m ≡ m = omega arith in z)
      ∙ ap (λ (k : ℕ). room_of k r (asked m n)) (let z : t ≡ t - 0 = omega arith in z)
      ∙ ap (λ (k : ℕ). room_of (t - 0) k (asked m n)) (let z : r ≡ r - 0 = omega arith in z)
  some_fit (suc i) t r m a b =
      ap (λ (k : ℕ). room_of t r (asked k n)) (let z : suc i + m ≡ suc (i + m) = omega arith in z)
      ∙ one-fits t r (i + m) (omega arith) (omega arith)
      ∙ some_fit i (t - 1) (r - 1) m (omega arith) (omega arith)
      ∙ ap (λ (k : ℕ). room_of k (r - 1 - i) (asked m n)) (let z : t - 1 - i ≡ t - suc i = omega arith in z)
      ∙ ap (λ (k : ℕ). room_of (t - suc i) k (asked m n)) (let z : r - 1 - i ≡ r - suc i = omega arith in z)

  move_rowless : (t r m : ℕ) → 1 ≤ t → r ≡ 0 → room_of t r (asked (suc m) n) ≡ Err Rows
  unfolding room_of
  move_rowless t r m a b = rw (le-ltb t 1 a, eq-eqb r 0 b) refl

  move_tripleless : (t r m : ℕ) → t ≡ 0 → room_of t r (asked (suc m) n) ≡ Err Triples
  unfolding room_of
  move_tripleless t r m a = rw (lt-ltb t 1 (omega arith)) refl

  cut_tripleless : (t r : ℕ) → t < n → room_of t r (asked 0 n) ≡ Err Triples
  unfolding room_of
  cut_tripleless t r a = rw (lt-ltb t n a) refl

  cut_rowless : (t r : ℕ) → n ≤ t → r ≡ 0 → room_of t r (asked 0 n) ≡ Err Rows
  unfolding room_of
  cut_rowless t r a b = rw (le-ltb t n a, eq-eqb r 0 b) refl

  cut_fits : (t r : ℕ) → n ≤ t → 1 ≤ r → room_of t r (asked 0 n) ≡ Ok tt
  unfolding room_of
  cut_fits t r a b = rw (le-ltb t n a, ne_eqb r 0 (λ e. omega arith)) refl

  module _ (t r moves : ℕ) where
    -- the first i moves fit
    after : (i m : ℕ) → i + m ≡ moves → i ≤ t → i ≤ r → room_of t r (asked moves n) ≡ room_of (t - i) (r - i) (asked m n)
    after i m e a b = ap (λ (k : ℕ). room_of t r (asked k n)) (sym e) ∙ some_fit i t r m a b

    pub rows-first : r < t → r < moves → Err Rows ≡ room_of t r (asked moves n)
    rows-first a b = sym (after r (suc (moves - r - 1)) (omega arith) (omega arith) (omega arith) ∙ move_rowless (t - r) (r - r) (moves - r - 1) (omega arith) (omega arith))

    pub triples-first : t ≤ r → t < moves → Err Triples ≡ room_of t r (asked moves n)
    triples-first a b = sym (after t (suc (moves - t - 1)) (omega arith) (omega arith) (omega arith) ∙ move_tripleless (t - t) (r - t) (moves - t - 1) (omega arith))

    moves_fit : moves ≤ t → moves ≤ r → room_of t r (asked moves n) ≡ room_of (t - moves) (r - moves) (asked 0 n)
    moves_fit a b = after moves 0 (omega arith) a b

    pub cut-triples : moves ≤ t → moves ≤ r → t - moves < n → Err Triples ≡ room_of t r (asked moves n)
    cut-triples a b h = sym (moves_fit a b ∙ cut_tripleless (t - moves) (r - moves) h)

    pub cut-row : moves ≤ t → n ≤ t - moves → r ≡ moves → Err Rows ≡ room_of t r (asked moves n)
    cut-row a h e = sym (moves_fit a (omega arith) ∙ cut_rowless (t - moves) (r - moves) h (omega arith))

    pub all_fit : moves ≤ t → n ≤ t - moves → moves < r → Ok tt ≡ room_of t r (asked moves n)
    all_fit a h b = sym (moves_fit a (omega arith) ∙ cut_fits (t - moves) (r - moves) h (omega arith))

-- ---- the greatest contact

-- k of n triples are gone over
pub record Greatest (ts : List Float) (first n : ℕ) (so m : Float) (k : ℕ) : Type 0 where
  pub high : k ≤ n
  pub is : m ≡ greatest_of (points_from ts first k) so

module _ (ts : List Float) (first n : ℕ) (so : Float) where
  pub greatest_none : Greatest ts first n so so 0
  unfolding greatest_of over
  greatest_none = record { high = omega arith; is = refl }

  pub greatest_more : (m m' v : Float) (k : ℕ) → Greatest ts first n so m k → k < n → v ≡ value_at ts (first + k) → m' ≡ max_of m v → Greatest ts first n so m' (k + 1)
  unfolding greatest_of
  greatest_more m m' v k g h a e = record {
    high = omega arith;
    is = e ∙ ap (λ (x : Float). max_of x v) g.is ∙ ap (max_of (greatest_of (points_from ts first k) so)) a
        ∙ over_more greater (points_from ts first k) _ so
        ∙ ap (λ (i : ℕ). greatest_of (points_from ts first i) so) (let z : suc k ≡ k + 1 = omega arith in z);
  }

  pub greatest_end : (m : Float) (k : ℕ) → Greatest ts first n so m k → n ≤ k → m ≡ greatest_of (points_from ts first n) so
  greatest_end m k g h = g.is ∙ ap (λ (i : ℕ). greatest_of (points_from ts first i) so) (let i = g.high in let z : k ≡ n = omega arith in z)

-- ---- for callers

-- the moves to a pass have one triple each
needs_list : (path : Way) (q : Vec2) (ps : List Point) → needs (way_chunks path q ++ (cut ps ∷ [])) ≡ asked (length (way_chunks path q)) (length ps)
unfolding way_chunks
needs_list lost q ps = ap (λ (k : ℕ). 1 ∷ k ∷ []) (length-map ps point_triple)
needs_list (way []) q ps = ap (λ (k : ℕ). k ∷ []) (length-map ps point_triple)
needs_list (way (p ∷ qs)) q ps = ap (λ (l : List ℕ). 1 ∷ l) (needs_list (way qs) q ps)

pub needs_are : (t r : ℕ) (path : Way) (q : Vec2) (ps : List Point)
    → room_of t r (needs (way_chunks path q ++ (cut ps ∷ []))) ≡ room_of t r (replicate (length (way_chunks path q)) 1 ++ (length ps ∷ []))
needs_are t r path q ps = ap (room_of t r) (needs_list path q ps)

by_le : {A : Type 0} (a b : ℕ) → (a ≤ b → A) → (b < a → A) → A
by_le a b f g = by_cases (leb a b) (λ e. f (leb-true a b e)) (λ e. g (leb-false a b e))

-- all fit
pub room-fits : (t r moves n : ℕ) → room_of t r (replicate moves 1 ++ (n ∷ [])) ≡ Ok tt → (moves + n ≤ t) × (moves + 1 ≤ r)
room-fits t r moves n e =
    by_le moves t
    (λ a. by_le moves r
    (λ b. by_le n (t - moves)
    (λ h. by_le (moves + 1) r (λ k. (omega arith, k)) (λ k. bad (cut-row n t r moves a h (omega arith))))
    (λ h. bad (cut-triples n t r moves a b h)))
    (λ b. bad (rows-first n t r moves (omega arith) b)))
    (λ a. by_le t r (λ b. bad (triples-first n t r moves b a)) (λ b. bad (rows-first n t r moves b (omega arith))))
  where
    IsErr : Result Unit Full → Type 0
    IsErr (Ok u) = ⊥
    IsErr (Err f) = Unit

    bad : {A : Type 0} {f : Full} → Err f ≡ room_of t r (asked moves n) → A
    bad h = absurd (subst IsErr (h ∙ e) tt)
