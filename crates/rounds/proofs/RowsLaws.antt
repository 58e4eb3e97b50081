-- The rows of a round's pieces in the workspace: read there, and one taken out. Assumes nothing.
use Rattle.passes.specs.Start.{Place}
use mathlib.Core.Path.{◌≡◌, sym, ap, ◌∙◌, subst}
use mathlib.Core.List.{List}
use Prim.Native.Nat.{ℕ, ◌+◌, ◌-◌, ◌*◌, ◌≤◌, ◌<◌}
use native.Mathlib.Omega.{arith}
use lib.ListN.{length, get_or, take, drop, set, length-set}
use lib.Seq.{get_or-take, get_or-set_same, get_or-set_other, ext_get_or, length-take-le}
use lib.Dec.{eqb}
use lib.Ieee.{Float}
use borrow.Author.Tests.{eqb-true, eqb-false}
use borrow.Rule.Slice.PartMut.{put_mid}
use Rattle.loops.specs.Regions.{Fits, within, put}
use Rattle.loops.proofs.Cases.{by_cases}
use Rattle.loops.proofs.RegionLaws.{region-long, put_is, put-length, put_back, put-after}
use Rattle.geom.specs.declared.vec2.Vec2.{Vec2}
use Rattle.setup.specs.Layout.{rows_from, log_from, traced_from, guide_from, log_in}
use Rattle.pieces.specs.Piece.{Piece, row_at, put_row, piece_of, pieces_at, end_of}
use Rattle.pieces.specs.declared.row.Row.{Row}
use Rattle.pieces.proofs.PieceLaws.{row-length, row_here, row_there, pieces-length, piece_get}
use Rattle.workspace.specs.Lies.{rows_in, traced_in, pieces_in, Lying, Lies}
use Rattle.rounds.specs.Next.{here_of, no_piece, next_of, swap_remove, Readable}
use Rattle.rounds.specs.Round.{Traced}
use Rattle.rounds.proofs.NextLaws.{next-below}

-- ---- fits loops

-- a part that is lent, by name
pub part_within : {A : Type 0} (a e b f : ℕ) (w : List A) → a ≡ b → e ≡ f → take (e - a) (drop a w) ≡ within b f w
unfolding within
part_within a e b f w p q = ap (λ (z : ℕ). take (z - a) (drop a w)) q ∙ ap (λ (z : ℕ). take (f - z) (drop z w)) p

-- ---- a row taken out is its piece taken out

-- row i of those that are left
left-row : (m k : ℕ) (rows : List ℕ) (i : ℕ) → 3 * m ≤ length rows → k < m → i < m - 1 → (A : Row → Type 0) → (i ≡ k → A (row_at rows (m - 1))) → ((i ≡ k → ⊥) → A (row_at rows i)) → A (row_at (put_row k (row_at rows (m - 1)) rows) i)
left-row m k rows i l h b A f g =
    by_cases (eqb i k)
    (λ t. let e = eqb-true i k t in subst A (sym (ap (row_at (put_row k (row_at rows (m - 1)) rows)) e ∙ row_here k (row_at rows (m - 1)) rows (omega arith))) (f e))
    (λ t. let e = eqb-false i k t in subst A (sym (row_there k (row_at rows (m - 1)) rows i e)) (g e))

pub swap_pieces : (m k : ℕ) (rows : List ℕ) (pts : List Float) → 3 * m ≤ length rows → k < m → pieces_at (m - 1) (put_row k (row_at rows (m - 1)) rows) pts ≡ swap_remove k (pieces_at m rows pts)
unfolding swap_remove
swap_pieces m k rows pts l h =
    let all : List Piece = pieces_at m rows pts in
    let long : length all ≡ m = pieces-length m rows pts in
    let last : Piece = get_or all (length all - 1) no_piece in
    let new : List ℕ = put_row k (row_at rows (m - 1)) rows in
    let few : length (take (length all - 1) (set all k last)) ≡ length all - 1 = length-take-le (length all - 1) (set all k last) (omega (arith, length-set all k last)) in
    let last-is : last ≡ piece_of (row_at rows (m - 1)) pts = ap (λ (i : ℕ). get_or all (i - 1) no_piece) long ∙ piece_get m (m - 1) rows pts no_piece (omega arith) in
    ext_get_or no_piece (pieces_at (m - 1) new pts) (take (length all - 1) (set all k last)) (omega (arith, pieces-length (m - 1) new pts, long, few))
    (λ i c. let b : i < m - 1 = subst (λ (z : ℕ). i < z) (pieces-length (m - 1) new pts) c in
    piece_get (m - 1) i new pts no_piece b
    ∙ left-row m k rows i l h b (λ (r : Row). piece_of r pts ≡ get_or (set all k last) i no_piece)
    (λ e. sym (ap (λ (z : ℕ). get_or (set all k last) z no_piece) e ∙ get_or-set_same all k last no_piece (omega (arith, long)) ∙ last-is))
    (λ e. sym (get_or-set_other all k i last no_piece e ∙ piece_get m i rows pts no_piece (omega arith)))
    ∙ sym (get_or-take (length all - 1) (set all k last) i no_piece (omega (arith, long))))

-- ---- in the workspace of n cells

module _ (n m : ℕ) (u : List ℕ) (h : 24 * n ≤ length u) (L : Lying n m u) where
  rows_fit : Fits (rows_from n) (log_from n) u
  rows_fit = record { start = omega arith; end = h }

  pub rows_long : length (rows_in n u) ≡ 3 * n
  unfolding within
  rows_long = region-long (rows_from n) (log_from n) u rows_fit ∙ (let z : log_from n - rows_from n ≡ 3 * n = omega arith in z)

  pub row_traced : (k : ℕ) → k < m → Traced n (row_at (rows_in n u) k)
  row_traced k b = record { some = L.some k b; inside = L.inside k b }

  pub rows_readable : (w : List Float) → 5 * n ≤ length w → Readable m (rows_in n u) (traced_in n w)
  unfolding within
  rows_readable w g =
      let long : length (traced_in n w) ≡ guide_from n - traced_from n = region-long (traced_from n) (guide_from n) w (record { start = omega arith; end = omega arith }) in
      record {
        lent = omega (arith, rows_long, L.few);
        each = λ k b. record { some = L.some k b; inside = omega (arith, L.inside k b, long) };
      }

  -- row k of m is taken out
  module _ (k : ℕ) (b : k < m) where
    abbrev pub rows_left : List ℕ
    rows_left = put_row k (row_at (rows_in n u) (m - 1)) (rows_in n u)

    abbrev pub words_left : List ℕ
    words_left = put (rows_from n) (log_from n) rows_left u

    left-long : length rows_left ≡ log_from n - rows_from n
    left-long = row-length k (row_at (rows_in n u) (m - 1)) (rows_in n u) ∙ rows_long ∙ (let z : 3 * n ≡ log_from n - rows_from n = omega arith in z)

    pub words_long : length words_left ≡ length u
    words_long = put-length (rows_from n) (log_from n) u rows_left rows_fit left-long

    pub log-stays : log_in n words_left ≡ log_in n u
    log-stays = put-after (rows_from n) (log_from n) u rows_left rows_fit left-long (24 * n) (24 * n + n) (omega arith)

    rows_there : rows_in n words_left ≡ rows_left
    rows_there = put_back (rows_from n) (log_from n) u rows_left rows_fit left-long

    pub left-lies : (w : List Float) → Lies n (swap_remove k (pieces_in n m u w)) (m - 1) words_left w
    left-lies w =
        let few = L.few in
        let l : 3 * m ≤ length (rows_in n u) = omega (arith, rows_long) in
        let each : (A : Row → Type 0) → ((i : ℕ) → i < m → A (row_at (rows_in n u) i)) → (i : ℕ) → i < m - 1 → A (row_at (rows_in n words_left) i) =
        λ A f i c. subst (λ (r : List ℕ). A (row_at r i)) (sym rows_there) (left-row m k (rows_in n u) i l b c A (λ e. f (m - 1) (omega arith)) (λ e. f i (omega arith))) in
        record {
          lying = record { few = omega arith; some = each (λ (r : Row). 1 ≤ r.points) L.some; inside = each (λ (r : Row). end_of r ≤ 2 * n) L.inside };
          is = ap (λ (r : List ℕ). pieces_at (m - 1) r (traced_in n w)) rows_there ∙ swap_pieces m k (rows_in n u) (traced_in n w) l b;
        }

-- ---- for the proofs of `read` and `take_nearest`

pub read_is : (n a e : ℕ) (u : List ℕ) (k : ℕ) (r : Row) → a ≡ rows_from n → e ≡ log_from n → r ≡ row_at (take (e - a) (drop a u)) k → r ≡ row_at (rows_in n u) k
read_is n a e u k r p q d = d ∙ ap (λ (z : List ℕ). row_at z k) (part_within a e (rows_from n) (log_from n) u p q)

module _ (n m a e : ℕ) (u : List ℕ) (A : a ≡ rows_from n) (E : e ≡ log_from n) (h : 24 * n ≤ length u) (L : Lying n m u) where
  abbrev lent_rows : List ℕ
  lent_rows = take (e - a) (drop a u)

  lent_is : lent_rows ≡ rows_in n u
  lent_is = part_within a e (rows_from n) (log_from n) u A E

  -- which is next
  module _ (f g : ℕ) (w : List Float) (F : f ≡ traced_from n) (G : g ≡ guide_from n) (l : 5 * n ≤ length w) where
    abbrev lent_points : List Float
    lent_points = take (g - f) (drop f w)

    points_are : lent_points ≡ traced_in n w
    points_are = part_within f g (traced_from n) (guide_from n) w F G

    pub lent_readable : Readable m lent_rows lent_points
    lent_readable = subst (λ (r : List ℕ). Readable m r lent_points) (sym lent_is) (subst (Readable m (rows_in n u)) (sym points_are) (rows_readable n m u h L w l))

    pub lent-next : (k : ℕ) (v : Vec2) (pos : Place) → k ≡ next_of (pieces_at m lent_rows lent_points) v → v ≡ here_of pos → k ≡ next_of (pieces_in n m u w) (here_of pos)
    lent-next k v pos K P = K ∙ (λ i. next_of (pieces_at m (lent_is i) (points_are i)) (P i))

  -- and taken out
  module _ (w : List Float) (to : Vec2) (some : 1 ≤ m) (k : ℕ) (K : k ≡ next_of (pieces_in n m u w) to) where
    abbrev j : ℕ
    j = next_of (pieces_in n m u w) to

    pub next_in_lem : j < m
    next_in_lem =
        let l = pieces-length m (rows_in n u) (traced_in n w) in
        omega (arith, next-below (pieces_in n m u w) to (omega arith))

    pub swap_asks : (3 * m ≤ length lent_rows) × (k < m)
    swap_asks = (omega (arith, ap length lent_is, rows_long n m u h L, L.few), omega (arith, next_in_lem))

    pub take-is : (r : Row) (q : List ℕ) → r ≡ row_at lent_rows k → q ≡ put_row k (row_at lent_rows (m - 1)) lent_rows
        → (r ≡ row_at (rows_in n u) j) × (put_mid a (e - a) u q ≡ put (rows_from n) (log_from n) (put_row j (row_at (rows_in n u) (m - 1)) (rows_in n u)) u)
    take-is r q R Q = (
      R ∙ (λ i. row_at (lent_is i) (K i)),
      put_is a e u (record { start = omega arith; end = omega arith }) q (put_row j (row_at (rows_in n u) (m - 1)) (rows_in n u)) (Q ∙ (λ i. put_row (K i) (row_at (lent_is i) (m - 1)) (lent_is i)))
          ∙ (λ i. put (A i) (E i) (put_row j (row_at (rows_in n u) (m - 1)) (rows_in n u)) u),
    )

    pub take_long : length (put (rows_from n) (log_from n) (put_row j (row_at (rows_in n u) (m - 1)) (rows_in n u)) u) ≡ length u
    take_long = words_long n m u h L j next_in_lem
