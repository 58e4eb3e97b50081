-- For the proof of `plan_ready`: the parts that are lent to the plan, what is used of them, and the outcome from what the steps answered. Assumes nothing.
use mathlib.Core.Path.{◌≡◌, sym, ap, ◌∙◌, subst}
use mathlib.Core.List.{List}
use Prim.Native.Nat.{ℕ, ◌-◌, ◌*◌, ◌≤◌}
use native.Mathlib.Omega.{arith}
use lib.ListN.{length, take, drop, replicate, length-take}
use lib.Seq.{take_at, take-take, take-append-le}
use lib.Ieee.{Float}
use borrow.Rule.Slice.PartMut.{put_mid, post_of, mid_len, same_len_mid}
use Rattle.loops.specs.Cells.{ones}
use Rattle.geom.specs.Vec.{f0}
use Rattle.field.specs.Field.{s0}
use Rattle.setup.specs.Layout.{map_in}
use Rattle.setup.specs.Place.{cells_of}
use Rattle.setup.specs.declared.Setup.{Setup}
use Rattle.setup.proofs.PartLaws.{part_is}
use Rattle.cutting.specs.Listing.{most_listed}
use Rattle.cutting.specs.Piece.{Listed}
use Rattle.workspace.specs.Standing.{reach_in}
use Rattle.entry.specs.Questions.{helix_of}
use Rattle.entry.specs.declared.params.AdaptiveParams.{AdaptiveParams}
use Rattle.report.specs.Zero.{Lent, lent, headed, cleared_to}
use Rattle.report.specs.declared.clear.Used.{Used}
use Rattle.plan.specs.Parts.{slices_in, ground_in}
use Rattle.std.specs.Prelude.{Ok, Err}
use Rattle.cutting.specs.Listing.{number_of}
use Rattle.cutting.specs.declared.listing.Full.{Full}
use Rattle.plan.specs.Rounds.{Ended, EndLeft, el, first_progress, plan_of, ListedEnd, EndKept}
use Rattle.planner.specs.Planner.{Answer, Outcome, outcome, answer_by, used_of, threes, planned_by}

-- ---- how much of a slice is lent

pub threes_fit : (n k : ℕ) → k ≡ threes n → 3 * k ≤ n
unfolding threes
threes_fit n k K = omega (arith, K)

pub threes-few : (n k : ℕ) → k ≡ threes n → 3 * k ≤ 3 * most_listed
unfolding threes
threes-few n k K = omega (arith, K)

-- nothing is listed yet
pub none-listed : (rows : List ℕ) (triples : List Float) (k j : ℕ) → k ≡ threes (length rows) → j ≡ threes (length triples)
    → Listed (take (3 * k - 0) (drop 0 rows)) (take (3 * j - 0) (drop 0 triples)) first_progress.state 0
unfolding first_progress
none-listed rows triples k j K J = record {
  countable = record {
    few-rows = omega (arith, length-take (3 * k - 0) rows, threes-few (length rows) k K);
    few-triples = omega (arith, length-take (3 * j - 0) triples, threes-few (length triples) j J);
  };
  fit_rows = omega arith;
  fit_triples = omega arith;
}

module _ {A : Type 0} (r : ℕ) (l : List A) where
  first-is : take (r - 0) (drop 0 l) ≡ take r l
  first-is = ap (λ (z : ℕ). take z l) (let z : r - 0 ≡ r = omega arith in z)

  -- as it comes back
  module _ (h : r ≤ length l) (q : List A) (long : length q ≡ length (take (r - 0) (drop 0 l))) where
    part_long : length q ≡ r
    part_long = long ∙ mid_len 0 r l h ∙ (let z : r - 0 ≡ r = omega arith in z)

    whole_long : length (put_mid 0 (r - 0) l q) ≡ length l
    whole_long = same_len_mid 0 (r - 0) l q long

    part_back : take (r - 0) (drop 0 (put_mid 0 (r - 0) l q)) ≡ q
    part_back = take_at q (post_of 0 (r - 0) l) (r - 0) (part_long ∙ (let z : r ≡ r - 0 = omega arith in z))

    first_back : (k : ℕ) → k ≤ length q → take k (put_mid 0 (r - 0) l q) ≡ take k q
    first_back k H = take-append-le k q (post_of 0 (r - 0) l) H

-- ---- what stays

record UsedFits (n : ℕ) (r : List ℕ) (o : List Float) (c : Used) : Type 0 where
  pub cells : c.cells ≤ n
  pub rows : c.rows * 3 ≤ length r
  pub triples : c.triples * 3 ≤ length o

used-fits : (n : ℕ) (rows : List ℕ) (o : List Float) (e : Ended) (a : Answer) → ListedEnd rows o e → UsedFits n rows o (used_of n e a)
unfolding used_of
used-fits n rows o e (Err k) L = record { cells = omega arith; rows = omega arith; triples = omega arith }
used-fits n rows o (Err f) (Ok r) L = record { cells = omega arith; rows = omega arith; triples = omega arith }
used-fits n rows o (Ok (q, spent)) (Ok r) L = record { cells = omega arith; rows = L.fit_rows; triples = omega (arith, L.fit_triples) }

-- the map is at the head of the bytes
map_is : (n : ℕ) (b : List ℕ) → take (n - 0) (drop 0 b) ≡ map_in n b
map_is n b = part_is 0 n 0 n b (omega arith) (omega arith)

map_first : (n k : ℕ) (b : List ℕ) → k ≤ n → take k b ≡ take k (map_in n b)
map_first n k b h = sym (take-take k n b h) ∙ ap (take k) (sym (first-is n b) ∙ map_is n b)

-- of what was lent only the lengths count
pub cleared-same : (c : Used) (m m' rows rows' : List ℕ) (o o' : List Float) (l l' : Lent) → take c.cells m ≡ take c.cells m' → take (3 * c.rows) rows ≡ take (3 * c.rows) rows'
    → take (3 * c.triples) o ≡ take (3 * c.triples) o' → length l.bytes ≡ length l'.bytes → length l.words ≡ length l'.words → length l.singles ≡ length l'.singles
    → length l.doubles ≡ length l'.doubles → length l.rows ≡ length l'.rows → length l.triples ≡ length l'.triples → cleared_to c m rows o l ≡ cleared_to c m' rows' o' l'
unfolding cleared_to
cleared-same c m m' rows rows' o o' l l' M R O B U F W P T = λ i. record {
  bytes = headed 0 (B i) (M i);
  words = replicate (U i) 0;
  singles = replicate (F i) s0;
  doubles = replicate (W i) f0;
  rows = headed 0 (P i) (R i);
  triples = headed f0 (T i) (O i);
}

-- ---- the outcome

module _ (p : AdaptiveParams) (s : Setup) (vs : List Float) (lens b u : List ℕ) (f w : List Float) (rows : List ℕ) (triples : List Float) where
  abbrev n : ℕ
  n = cells_of s

  abbrev answer_at : EndLeft → Answer
  answer_at q = answer_by p s.grid.cell (ones (map_in n b)) (reach_in n b) q.slices.map q.slices.rows q.slices.out q.answer

  abbrev outcome_at : EndLeft → Outcome
  outcome_at q = outcome (cleared_to (used_of n q.answer (answer_at q)) q.slices.map q.slices.rows q.slices.out (lent b u f w rows triples)) (answer_at q)

  -- what the plan was lent of rows and triples, and what came back
  module _ (k j : ℕ) (R : k ≡ threes (length rows)) (T : j ≡ threes (length triples)) (b₁ u₁ : List ℕ) (f₁ w₁ : List Float) (r₁ : List ℕ) (t₁ : List Float) (e : Ended)
      (K : EndKept n b u (take (3 * k - 0) (drop 0 rows)) f w (take (3 * j - 0) (drop 0 triples)) b₁ u₁ r₁ f₁ w₁ t₁ e) where
    abbrev rows₁ : List ℕ
    rows₁ = put_mid 0 (3 * k - 0) rows r₁

    abbrev triples₁ : List Float
    triples₁ = put_mid 0 (3 * j - 0) triples t₁

    abbrev rows_part : List ℕ
    rows_part = take (3 * k - 0) (drop 0 rows₁)

    abbrev triples_part : List Float
    triples_part = take (3 * j - 0) (drop 0 triples₁)

    fit_r : 3 * k ≤ length rows
    fit_r = threes_fit (length rows) k R

    fit_t : 3 * j ≤ length triples
    fit_t = threes_fit (length triples) j T

    rows_back : rows_part ≡ r₁
    rows_back = part_back (3 * k) rows fit_r r₁ K.rows_long

    triples-back : triples_part ≡ t₁
    triples-back = part_back (3 * j) triples fit_t t₁ K.out-long

    rows_whole : length rows₁ ≡ length rows
    rows_whole = whole_long (3 * k) rows fit_r r₁ K.rows_long

    triples-whole : length triples₁ ≡ length triples
    triples-whole = whole_long (3 * j) triples fit_t t₁ K.out-long

    -- parts of them can be lent again
    pub rows-room : 3 * k ≤ length rows₁
    rows-room = omega (arith, fit_r, rows_whole)

    pub triples-room : 3 * j ≤ length triples₁
    triples-room = omega (arith, fit_t, triples-whole)

    pub listed_back : ListedEnd rows_part triples_part e
    listed_back = subst (λ (x : List ℕ). ListedEnd x triples_part e) (sym rows_back) (subst (λ (x : List Float). ListedEnd r₁ x e) (sym triples-back) K.listed)

    module _ (m : ℕ) (N : m ≡ n) (a : Answer) (c : Used) (C : c ≡ used_of m e a) where
      used-is : c ≡ used_of n e a
      used-is = C ∙ ap (λ (z : ℕ). used_of z e a) N

      fits : UsedFits n r₁ t₁ c
      fits = subst (UsedFits n r₁ t₁) (sym used-is) (used-fits n r₁ t₁ e a K.listed)

      pub clear_asked : 8 * n ≤ length b → (c.cells ≤ length b₁) × ((c.rows * 3 ≤ length rows₁) × (c.triples * 3 ≤ length triples₁))
      clear_asked h = (
        omega (arith, h, fits.cells, K.cells.long),
        (omega (arith, fits.rows, fit_r, part_long (3 * k) rows fit_r r₁ K.rows_long, rows_whole), omega (arith, fits.triples, fit_t, part_long (3 * j) triples fit_t t₁ K.out-long, triples-whole)),
      )

      cleared : cleared_to c b₁ rows₁ triples₁ (lent b₁ u₁ f₁ w₁ rows₁ triples₁) ≡ cleared_to (used_of n e a) (map_in n b₁) r₁ t₁ (lent b u f w rows triples)
      cleared =
          cleared-same c b₁ (map_in n b₁) rows₁ r₁ triples₁ t₁ (lent b₁ u₁ f₁ w₁ rows₁ triples₁) (lent b u f w rows triples) (map_first n c.cells b₁ fits.cells)
          (first_back (3 * k) rows fit_r r₁ K.rows_long (3 * c.rows) (omega (arith, fits.rows)))
          (first_back (3 * j) triples fit_t t₁ K.out-long (3 * c.triples) (omega (arith, fits.triples)))
          K.cells.long K.words_long K.singles-long K.walls.long rows_whole triples-whole
          ∙ ap (λ (z : Used). cleared_to z (map_in n b₁) r₁ t₁ (lent b u f w rows triples)) used-is

      answer-is : (starting : ℕ) → starting ≡ ones (take (m - 0) (drop 0 b)) → a ≡ answer_by p s.grid.cell starting (reach_in n b₁) (map_in n b₁) rows_part triples_part e
          → a ≡ answer_at (el (slices_in n b₁ u₁ f₁ r₁ t₁) e)
      answer-is starting S A =
          A
          ∙ ap (λ (z : ℕ). answer_by p s.grid.cell z (reach_in n b₁) (map_in n b₁) rows_part triples_part e) (S ∙ ap (λ (z : ℕ). ones (take (z - 0) (drop 0 b))) N ∙ ap ones (map_is n b))
          ∙ ap (λ (z : List ℕ). answer_by p s.grid.cell (ones (map_in n b)) z (map_in n b₁) rows_part triples_part e) K.cells.reach
          ∙ ap (λ (z : List ℕ). answer_by p s.grid.cell (ones (map_in n b)) (reach_in n b) (map_in n b₁) z triples_part e) rows_back
          ∙ ap (λ (z : List Float). answer_by p s.grid.cell (ones (map_in n b)) (reach_in n b) (map_in n b₁) r₁ z e) triples-back

      module _ (pref : Float) (H : pref ≡ helix_of p)
          (P : el (slices_in n b₁ u₁ f₁ r₁ t₁) e ≡ (plan_of (ground_in s vs lens pref b w) (slices_in n b u f (take (3 * k - 0) (drop 0 rows)) (take (3 * j - 0) (drop 0 triples)))).left) where
        ends : el (slices_in n b₁ u₁ f₁ r₁ t₁) e ≡ (plan_of (ground_in s vs lens (helix_of p) b w) (slices_in n b u f (take (3 * threes (length rows)) rows) (take (3 * threes (length triples)) triples))).left
        ends =
            P
            ∙ ap (λ (z : Float). (plan_of (ground_in s vs lens z b w) (slices_in n b u f (take (3 * k - 0) (drop 0 rows)) (take (3 * j - 0) (drop 0 triples)))).left) H
            ∙ ap (λ (z : List ℕ). (plan_of (ground_in s vs lens (helix_of p) b w) (slices_in n b u f z (take (3 * j - 0) (drop 0 triples)))).left)
            (first-is (3 * k) rows ∙ ap (λ (z : ℕ). take (3 * z) rows) R)
            ∙ ap (λ (z : List Float). (plan_of (ground_in s vs lens (helix_of p) b w) (slices_in n b u f (take (3 * threes (length rows)) rows) z)).left)
            (first-is (3 * j) triples ∙ ap (λ (z : ℕ). take (3 * z) triples) T)

        pub ready-outcome : (starting : ℕ) → starting ≡ ones (take (m - 0) (drop 0 b)) → a ≡ answer_by p s.grid.cell starting (reach_in n b₁) (map_in n b₁) rows_part triples_part e
            → (l : Lent) → l ≡ cleared_to c b₁ rows₁ triples₁ (lent b₁ u₁ f₁ w₁ rows₁ triples₁)
            → outcome l a ≡ planned_by p (ground_in s vs lens (helix_of p) b w) (slices_in n b u f (take (3 * threes (length rows)) rows) (take (3 * threes (length triples)) triples)) (lent b u f w rows triples)
        unfolding planned_by
        ready-outcome starting S A l L =
            ap (λ (z : Lent). outcome z a) (L ∙ cleared)
            ∙ ap (λ (z : Answer). outcome (cleared_to (used_of n e z) (map_in n b₁) r₁ t₁ (lent b u f w rows triples)) z) (answer-is starting S A)
            ∙ ap outcome_at ends
