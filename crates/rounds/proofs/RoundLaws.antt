-- What the proofs of `round` cite, over plain values: one piece cut in the workspace, and the loops over the pieces, whichever is next. Assumes nothing.
use Rattle.passes.specs.Start.{Place}
use mathlib.Core.Path.{◌≡◌, refl, sym, ap, ◌∙◌, subst}
use mathlib.Core.Bool.{Bool, false}
use mathlib.Core.List.{List, [], ◌++◌}
use Prim.Native.Nat.{ℕ, ◌+◌, ◌-◌, ◌*◌, ◌≤◌, ◌<◌}
use native.Mathlib.Omega.{arith}
use lib.ListN.{length, get_or}
use lib.Ieee.{Float}
use Rattle.loops.specs.Loop.{loop, Run, on, turn}
use Rattle.loops.specs.Regions.{Fits, within, put}
use Rattle.loops.specs.Frame.{Only}
use Rattle.loops.proofs.LoopLaws.{Going, going_none, going_on, going_out, going_end}
use Rattle.loops.proofs.FrameLaws.{only_same, only_more, only-before}
use Rattle.geom.specs.Points.{points}
use Rattle.geom.specs.declared.vec2.Vec2.{Vec2}
use Rattle.raster.specs.Log.{st, Ready}
use Rattle.raster.proofs.RunLaws.{ready_for}
use Rattle.setup.specs.Layout.{most, run, put_run, map_in, allowed_in, dirty_in, log_in, rows_from, log_from, segments_from, traced_from, guide_from, path_end}
use Rattle.setup.specs.Place.{cells_of}
use Rattle.setup.specs.declared.Setup.{Setup}
use Rattle.setup.proofs.LayoutLaws.{run_other}
use Rattle.setup.proofs.PartLaws.{run_long, put-run-long}
use Rattle.links.specs.Path.{wall_in, Fitted}
use Rattle.pieces.specs.Piece.{Piece, row_at, put_row, piece_of, pieces_at, end_of}
use Rattle.pieces.specs.declared.row.Row.{Row}
use Rattle.pieces.proofs.PartLaws.{inner_part, inner-points}
use Rattle.pieces.proofs.PieceLaws.{pieces-length, piece_get}
use Rattle.events.specs.Events.{Event}
use Rattle.passes.specs.Guide.{points_in}
use Rattle.cutting.specs.Tries.{Among}
use Rattle.cutting.specs.Piece.{Left, left_in, cut_piece_of, Lends, Listed, Settled, Behind}
use Rattle.cutting.specs.declared.piece.State.{State}
use Rattle.std.specs.Prelude.{Result, Ok, Err}
use Rattle.cutting.specs.declared.listing.Full.{Full}
use Rattle.cutting.specs.declared.piece.Cut.{Cut}
use Rattle.cutting.specs.declared.piece.Cut.TheVariants.{Nothing, Kept}
use Rattle.workspace.specs.Standing.{abandoned_in, Standing, CellsKept}
use Rattle.workspace.specs.Lies.{rows_in, traced_in, pieces_in, Lying, Lies}
use Rattle.workspace.proofs.StandingLaws.{standing_fitted, standing-kept, walls_of_lem, cells_same, cells_more}
use Rattle.rounds.specs.Next.{here_of, no_piece, next_of, swap_remove}
use Rattle.rounds.specs.Round.{Cuts, after_cut, CutsLeft, cl, cuts_in, CutsWithEvents, Between, bt, answer_after, go_on, ended_of, cut_next_of, step_of, cut_all_of, nearest_first, in_order, all_stay, Traced, Lists}
use Rattle.rounds.proofs.RowsLaws.{row_traced, words_long, log-stays, left-lies, next_in_lem}
use Rattle.rounds.proofs.RoomLaws.{Fit, FitAfter, cut-room}

-- ---- fits cutting: the bytes that a piece leaves alone

module _ (n : ℕ) (b b' : List ℕ) (h : 8 * n ≤ length b) (S : Settled n b b') where
  settled-run : (j : ℕ) → (j ≡ 0 → ⊥) → (j ≡ 4 → ⊥) → run j n b' ≡ run j n b
  settled-run j x y =
      let long = S.long in
      let ml : length (run 0 n b') ≡ n = run_long 0 n b' (omega arith) in
      let dl : length (run 4 n b') ≡ n = run_long 4 n b' (omega arith) in
      let pl : length (put_run 0 n (run 0 n b') b) ≡ length b = put-run-long 0 n b (run 0 n b') (omega arith) ml in
      ap (run j n) S.rest ∙ run_other n (put_run 0 n (run 0 n b') b) (run 4 n b') dl 4 j (omega (arith, pl)) y ∙ run_other n b (run 0 n b') ml 0 j (omega arith) x

  pub settled-cells : CellsKept n b b'
  settled-cells = record { long = S.long; allowed = settled-run 1 (λ e. omega arith) (λ e. omega arith); reach = settled-run 2 (λ e. omega arith) (λ e. omega arith) }

  pub settled-abandoned : abandoned_in n b' ≡ abandoned_in n b
  settled-abandoned = settled-run 3 (λ e. omega arith) (λ e. omega arith)

-- ---- one piece

pub answer_ok : (any : Bool) (a : Result Cut Full) (c : Cut) → a ≡ Ok c → (x : State × Bool) → x ≡ after_cut any c → Ok x ≡ answer_after any a
unfolding answer_after
answer_ok any a c e x h = ap Ok h ∙ sym (ap (answer_after any) e)

pub answer-full : (any : Bool) (a : Result Cut Full) (f : Full) → a ≡ Err f → Err f ≡ answer_after any a
unfolding answer_after
answer-full any a f e = sym (ap (answer_after any) e)

module _ (s : Setup) (vs : List Float) (lens b u : List ℕ) (w : List Float) (H : Standing s vs lens b u w) (p : Row) (T : Traced (cells_of s) p) (a : ℕ) (A : a ≡ traced_from (cells_of s)) where
  pub cut_asks : (rows : List ℕ) (o : List Float) (t : State) → Listed rows o t 0
      → Fitted s vs lens (map_in (cells_of s) b) w × (Lends (cells_of s) b u × (Among (cells_of s) (a + 2 * p.first) p.points × Listed rows o t 0))
  cut_asks rows o t L = (
    standing_fitted s vs lens b u w H,
    (
      record { bytes = H.bytes; words = H.words },
      (record { low = omega arith; high = omega (arith, T.inside); some = T.some }, L),
    ),
  )

  -- the answer of the piece at its place is that of the row's piece
  pub cut-next-is : (t : State) (any : Bool) (rows : List ℕ) (o : List Float) (b' u' rows' : List ℕ) (o' : List Float) (c : Result Cut Full) (r : Cuts)
      → left_in (cells_of s) b' (log_in (cells_of s) u') rows' o' c
      ≡ (cut_piece_of s (wall_in s w) vs lens (allowed_in (cells_of s) b) (points_in (a + 2 * p.first) p.points w) p.closed t (map_in (cells_of s) b) (dirty_in (cells_of s) b) rows (log_in (cells_of s) u) o).left
      → r ≡ answer_after any c
      → cuts_in (cells_of s) b' (log_in (cells_of s) u') rows' o' r
      ≡ (cut_next_of s (wall_in s w) vs lens (allowed_in (cells_of s) b) (piece_of p (traced_in (cells_of s) w)) t any (map_in (cells_of s) b) (dirty_in (cells_of s) b) rows (log_in (cells_of s) u) o).left
  unfolding cut_next_of piece_of
  cut-next-is t any rows o b' u' rows' o' c r E R =
      let n : ℕ = cells_of s in
      let same : points_in (a + 2 * p.first) p.points w ≡ points p.first p.points (traced_in n w) =
      ap (λ (z : ℕ). points_in (z + 2 * p.first) p.points w) A ∙ inner-points (traced_from n) (guide_from n) p.first p.points w (omega (arith, T.inside)) in
      ap (cuts_in n b' (log_in n u') rows' o') R
      ∙ ap (λ (l : Left). cl l.map l.dirty l.log l.rows l.out (answer_after any l.answer))
      (E ∙ ap (λ (q : List Vec2). (cut_piece_of s (wall_in s w) vs lens (allowed_in n b) q p.closed t (map_in n b) (dirty_in n b) rows (log_in n u) o).left) same)

-- ---- what is listed fits

abbrev FitCuts : List ℕ → List Float → Cuts → Type 0
FitCuts rows o (Ok (t, any)) = Fit rows o t
FitCuts rows o (Err f) = Unit {0}

fit_answer : (rows : List ℕ) (o : List Float) (any : Bool) (a : Result Cut Full) → FitAfter rows o a → FitCuts rows o (answer_after any a)
unfolding answer_after after_cut
fit_answer rows o any (Ok (Nothing t)) f = f
fit_answer rows o any (Ok (Kept t)) f = f
fit_answer rows o any (Err e) f = tt

record CutsRoom (rows : List ℕ) (o : List Float) (l : CutsLeft) : Type 0 where
  rows_long : length l.rows ≡ length rows
  out-long : length l.out ≡ length o
  fit : FitCuts rows o l.answer

next-room : (s : Setup) (wall vs : List Float) (lens allowed : List ℕ) (p : Piece) (t : State) (any : Bool) (m d rows log : List ℕ) (o : List Float) → Ready (st m log 0) → Fit rows o t
    → CutsRoom rows o (cut_next_of s wall vs lens allowed p t any m d rows log o).left
unfolding cut_next_of
next-room s wall vs lens allowed p t any m d rows log o R F =
    let x = cut-room s wall vs lens allowed p.points p.closed t m d rows log R o F in
    record { rows_long = x.rows_long; out-long = x.out-long; fit = fit_answer rows o any _ x.fit }

-- ---- the loop

module _ (s : Setup) (vs : List Float) (lens b₀ u₀ : List ℕ) (w₀ o₀ : List Float) (rows₀ : List ℕ) (t₀ : State) (m : ℕ) (which : ℕ → List Piece → Place → ℕ) (rest : ℕ → List Piece → List Piece) where
  abbrev size : ℕ
  size = cells_of s

  abbrev first : List Piece
  first = pieces_in size m u₀ w₀

  abbrev step : ℕ → Between → Run Between CutsWithEvents
  step = step_of s (wall_in s w₀) vs lens (allowed_in size b₀) which rest

  abbrev begin : Run Between CutsWithEvents
  begin = on (bt first t₀ false (map_in size b₀) (dirty_in size b₀) (log_in size u₀) rows₀ o₀ [])

  abbrev now : List Piece → State → Bool → List ℕ → List ℕ → List ℕ → List Float → List Event → Between
  now l t any b u rows o es = bt l t any (map_in size b) (dirty_in size b) (log_in size u) rows o es

  -- k pieces are cut, and `left` rows hold those to come
  pub record Cutting (left : ℕ) (b u : List ℕ) (w o : List Float) (rows : List ℕ) (t : State) (any : Bool) (k : ℕ) : Type 0 where
    pub standing : Standing s vs lens b u w
    pub listed : Listed rows o t 0
    pub cells : CellsKept size b₀ b
    pub gone : abandoned_in size b ≡ abandoned_in size b₀
    pub words : length u ≡ length u₀
    pub only : Only (guide_from size) (path_end size) w₀ w
    pub rows_long : length rows ≡ length rows₀
    pub out-long : length o ≡ length o₀
    pub pieces : List Piece
    pub lies : Lies size pieces left u w
    pub events : List Event
    pub going : Going (turn step) 0 m begin (on (now pieces t any b u rows o events)) k

  -- what is ensured
  abbrev pub Done : List ℕ → List ℕ → List Float → List Float → List ℕ → Cuts → Type 0
  Done b u w o rows r =
      (cuts_in size b (log_in size u) rows o r ≡ (cut_all_of s (wall_in s w₀) vs lens (allowed_in size b₀) which rest first t₀ (map_in size b₀) (dirty_in size b₀) rows₀ (log_in size u₀) o₀).left)
      × (CellsKept size b₀ b × ((abandoned_in size b ≡ abandoned_in size b₀) × ((length u ≡ length u₀) × (Only (guide_from size) (path_end size) w₀ w × Lists rows₀ rows o₀ o r))))

  place : (w : List Float) → 32 * size + 8192 ≤ length w → Fits (guide_from size) (path_end size) w
  place w h = record { start = omega arith; end = omega arith }

  pub cutting_none : Standing s vs lens b₀ u₀ w₀ → Lying size m u₀ → Listed rows₀ o₀ t₀ 0 → Cutting m b₀ u₀ w₀ o₀ rows₀ t₀ false 0
  cutting_none H L K = record {
    standing = H;
    listed = K;
    cells = cells_same size b₀;
    gone = refl;
    words = refl;
    only = only_same (guide_from size) (path_end size) w₀ (place w₀ H.doubles);
    rows_long = refl;
    out-long = refl;
    pieces = first;
    lies = record { lying = L; is = refl };
    events = [];
    going = going_none _ _ _ _;
  }

  -- the loop ends with x
  loop-all : (x : Run Between CutsWithEvents) → loop (turn step) 0 m begin ≡ x
      → (ended_of x).left ≡ (cut_all_of s (wall_in s w₀) vs lens (allowed_in size b₀) which rest first t₀ (map_in size b₀) (dirty_in size b₀) rows₀ (log_in size u₀) o₀).left
  unfolding cut_all_of
  loop-all x e =
      ap (λ (y : Run Between CutsWithEvents). (ended_of y).left)
      (sym (ap (λ (i : ℕ). loop (turn step) 0 i begin) (pieces-length m (rows_in size u₀) (traced_in size w₀)) ∙ e))

  module _ (left : ℕ) (b u : List ℕ) (w o : List Float) (rows : List ℕ) (t : State) (any : Bool) (k : ℕ) (C : Cutting left b u w o rows t any k) where
    pub cutting_ends : m ≤ k → Done b u w o rows (Ok (t, any))
    unfolding ended_of
    cutting_ends h = (loop-all _ (sym (going_end _ _ _ _ _ _ C.going h)), (C.cells, (C.gone, (C.words, (C.only, record { rows_long = C.rows_long; out-long = C.out-long; listed = C.listed })))))

    -- which is next
    abbrev pub number : ℕ
    number = which k C.pieces t.pos

    -- p is the row of the next one, and u₁ holds the rows of the rest
    pub record Taken (left' : ℕ) (u₁ : List ℕ) (p : Row) : Type 0 where
      pub same-long : length u₁ ≡ length u
      pub same_log : log_in size u₁ ≡ log_in size u
      pub piece : piece_of p (traced_in size w) ≡ get_or C.pieces number no_piece
      pub traced : Traced size p
      pub others : Lies size (rest number C.pieces) left' u₁ w

    module _ (h : k < m) (left' : ℕ) (u₁ : List ℕ) (p : Row) (T : Taken left' u₁ p) where
      spot : Fits (guide_from size) (path_end size) w
      spot = place w C.standing.doubles

      pub next_asks : Standing s vs lens b u₁ w × (Traced size p × Listed rows o t 0)
      next_asks = (
        standing-kept s vs lens b u w C.standing w (walls_of_lem s vs lens b u w C.standing (guide_from size) (path_end size) w (omega arith) (omega arith) (omega arith) (only_same (guide_from size) (path_end size) w spot)) b u₁ refl T.same-long,
        (T.traced, C.listed),
      )

      module _ (b' u' : List ℕ) (w' o' : List Float) (rows' : List ℕ) (r : Cuts)
          (E : cuts_in size b' (log_in size u') rows' o' r ≡ (cut_next_of s (wall_in s w) vs lens (allowed_in size b) (piece_of p (traced_in size w)) t any (map_in size b) (dirty_in size b) rows (log_in size u₁) o).left)
          (S : Settled size b b') (B : Behind size u₁ u') (O : Only (guide_from size) (path_end size) w w') where
        abbrev next : CutsWithEvents
        next = cut_next_of s (wall_in s w₀) vs lens (allowed_in size b₀) (get_or C.pieces number no_piece) t any (map_in size b) (dirty_in size b) rows (log_in size u) o

        wall-same : wall_in s w ≡ wall_in s w₀
        wall-same = only-before (guide_from size) (path_end size) w₀ (place w₀ (omega (arith, C.standing.doubles, C.only.long))) w C.only 0 size (omega arith) (omega arith)

        is-next : cuts_in size b' (log_in size u') rows' o' r ≡ next.left
        is-next =
            E
            ∙ (λ i. (cut_next_of s (wall-same i) vs lens (C.cells.allowed i) (T.piece i) t any (map_in size b) (dirty_in size b) rows (T.same_log i) o).left)

        cells-kept : CellsKept size b₀ b'
        cells-kept = cells_more size b₀ b b' C.cells (settled-cells size b b' C.standing.bytes S)

        gone-kept : abandoned_in size b' ≡ abandoned_in size b₀
        gone-kept = settled-abandoned size b b' C.standing.bytes S ∙ C.gone

        words-kept : length u' ≡ length u₀
        words-kept = B.long ∙ T.same-long ∙ C.words

        only_kept : Only (guide_from size) (path_end size) w₀ w'
        only_kept = only_more (guide_from size) (path_end size) w₀ (place w₀ (omega (arith, C.standing.doubles, C.only.long))) w C.only w' O

        -- the loop's turn
        turn_is : (x : Cuts) → r ≡ x → step k (now C.pieces t any b u rows o C.events) ≡ go_on (rest number C.pieces) C.events next x
        unfolding step_of
        turn_is x e = ap (go_on (rest number C.pieces) C.events next) (sym (ap (λ (l : CutsLeft). l.answer) is-next) ∙ e)

        -- the rows and the points of the others lie where they were
        rows_same : rows_in size u' ≡ rows_in size u₁
        rows_same =
            let inner : (v : List ℕ) → length v ≡ length u → rows_in size v ≡ within (6 * size) (9 * size) (within (segments_from size) (log_from size) v) =
            λ v l. sym (inner_part 0 (segments_from size) (log_from size) (6 * size) (9 * size) v (record { start = omega arith; end = omega (arith, C.standing.words) }) (omega arith) (omega arith)
            ∙ ap (λ (z : ℕ). within z (segments_from size + 9 * size) v) (let z : segments_from size + 6 * size ≡ rows_from size = omega arith in z)
            ∙ ap (λ (z : ℕ). within (rows_from size) z v) (let z : segments_from size + 9 * size ≡ log_from size = omega arith in z)) in
            inner u' (B.long ∙ T.same-long) ∙ ap (within (6 * size) (9 * size)) B.pieces ∙ sym (inner u₁ T.same-long)

        traced_same : traced_in size w' ≡ traced_in size w
        traced_same = only-before (guide_from size) (path_end size) w spot w' O (traced_from size) (guide_from size) (omega arith) (omega arith)

        lies-on : Lies size (rest number C.pieces) left' u' w'
        lies-on = record {
          lying = record {
            few = T.others.lying.few;
            some = subst (λ (q : List ℕ). (i : ℕ) → i < left' → 1 ≤ (row_at q i).points) (sym rows_same) T.others.lying.some;
            inside = subst (λ (q : List ℕ). (i : ℕ) → i < left' → end_of (row_at q i) ≤ 2 * size) (sym rows_same) T.others.lying.inside;
          };
          is = ap (λ (q : List ℕ). pieces_at left' q (traced_in size w')) rows_same ∙ ap (pieces_at left' (rows_in size u₁)) traced_same ∙ T.others.is;
        }

        ready : Ready (st (map_in size b) (log_in size u) 0)
        ready =
            let ml : length (map_in size b) ≡ size = run_long 0 size b (omega (arith, C.standing.bytes)) in
            let ll : length (log_in size u) ≡ size = run_long 24 size u (omega (arith, C.standing.words)) in
            ready_for (map_in size b) (log_in size u) (omega (arith, ml, ll)) (omega (arith, ml, C.standing.sides.cells))

        room : CutsRoom rows o next.left
        room = next-room s (wall_in s w₀) vs lens (allowed_in size b₀) (get_or C.pieces number no_piece) t any (map_in size b) (dirty_in size b) rows (log_in size u) o ready
            (record { fit_rows = C.listed.fit_rows; fit_triples = let f = C.listed.fit_triples in omega arith })

        rows_still : length rows' ≡ length rows
        rows_still = ap (λ (l : CutsLeft). length l.rows) is-next ∙ room.rows_long

        out_still : length o' ≡ length o
        out_still = ap (λ (l : CutsLeft). length l.out) is-next ∙ room.out-long

        listed-on : (t' : State) (any' : Bool) → r ≡ Ok (t', any') → Listed rows' o' t' 0
        listed-on t' any' e =
            let f : Fit rows o t' = subst (FitCuts rows o) (sym (ap (λ (l : CutsLeft). l.answer) is-next) ∙ e) room.fit in
            record {
              countable = record { few-rows = omega (arith, rows_still, C.listed.countable.few-rows); few-triples = omega (arith, out_still, C.listed.countable.few-triples) };
              fit_rows = omega (arith, rows_still, f.fit_rows);
              fit_triples = omega (arith, out_still, f.fit_triples);
            }

        pub cutting_stops : (code : Full) → r ≡ Err code → Done b' u' w' o' rows' (Err code)
        unfolding go_on ended_of
        cutting_stops code e = (
          ap (cuts_in size b' (log_in size u') rows' o') (sym e) ∙ is-next ∙ loop-all _ (going_out step 0 m begin _ k _ C.going h (turn_is (Err code) e)),
          (cells-kept, (gone-kept, (words-kept, (only_kept, record { rows_long = rows_still ∙ C.rows_long; out-long = out_still ∙ C.out-long; listed = tt })))),
        )

        pub cutting_more : (t' : State) (any' : Bool) → r ≡ Ok (t', any') → Cutting left' b' u' w' o' rows' t' any' (k + 1)
        unfolding go_on
        cutting_more t' any' e = record {
          standing = standing-kept s vs lens b u w C.standing w' (walls_of_lem s vs lens b u w C.standing (guide_from size) (path_end size) w' (omega arith) (omega arith) (omega arith) O) b' u' S.long (B.long ∙ T.same-long);
          listed = listed-on t' any' e;
          cells = cells-kept;
          gone = gone-kept;
          words = words-kept;
          only = only_kept;
          rows_long = rows_still ∙ C.rows_long;
          out-long = out_still ∙ C.out-long;
          pieces = rest number C.pieces;
          lies = lies-on;
          events = _;
          going = going_on step 0 m begin _ _ k C.going h
              (ap (λ (l : CutsLeft). on (bt (rest number C.pieces) t' any' l.map l.dirty l.log l.rows l.out (C.events ++ next.events))) is-next ∙ sym (turn_is (Ok (t', any')) e));
        }

-- ---- the two orders

-- what reading and taking a row asks
pub words-ask : (s : Setup) (vs : List Float) (lens b u : List ℕ) (w : List Float) → Standing s vs lens b u w → (cells_of s ≤ most) × ((24 * cells_of s ≤ length u) × (5 * cells_of s ≤ length w))
words-ask s vs lens b u w H = (H.sides.cells, (omega (arith, H.words), omega (arith, H.doubles)))

-- all of m rows
pub nearest-none : (s : Setup) (vs : List Float) (lens b u : List ℕ) (w o : List Float) (rows : List ℕ) (t : State) (m : ℕ) → Standing s vs lens b u w → Lying (cells_of s) m u → Listed rows o t 0
    → Cutting s vs lens b u w o rows t m nearest_first swap_remove (m - 0) b u w o rows t false 0
nearest-none s vs lens b u w o rows t m H L K =
    subst (λ (z : ℕ). Cutting s vs lens b u w o rows t m nearest_first swap_remove z b u w o rows t false 0) (let z : m ≡ m - 0 = omega arith in z)
    (cutting_none s vs lens b u w o rows t m nearest_first swap_remove H L K)

module _ (s : Setup) (vs : List Float) (lens b₀ u₀ : List ℕ) (w₀ o₀ : List Float) (rows₀ : List ℕ) (t₀ : State) (m : ℕ) (b u : List ℕ) (w o : List Float) (rows : List ℕ) (t : State) (any : Bool) (k : ℕ) (h : k < m) where
  -- the ring's rows stay
  module _ (C : Cutting s vs lens b₀ u₀ w₀ o₀ rows₀ t₀ m in_order all_stay m b u w o rows t any k) where
    pub ring_taken : (p : Row) → p ≡ row_at (rows_in (cells_of s) u) k → Taken s vs lens b₀ u₀ w₀ o₀ rows₀ t₀ m in_order all_stay m b u w o rows t any k C m u p
    ring_taken p P = record {
      same-long = refl;
      same_log = refl;
      piece = ap (λ (r : Row). piece_of r (traced_in (cells_of s) w)) P ∙ sym (piece_get m k (rows_in (cells_of s) u) (traced_in (cells_of s) w) no_piece h) ∙ ap (λ (l : List Piece). get_or l k no_piece) C.lies.is;
      traced = subst (Traced (cells_of s)) (sym P) (row_traced (cells_of s) m u (words-ask s vs lens b u w C.standing).1.0 C.lies.lying k h);
      others = C.lies;
    }

  -- the nearest one's row is taken out
  module _ (C : Cutting s vs lens b₀ u₀ w₀ o₀ rows₀ t₀ m nearest_first swap_remove (m - k) b u w o rows t any k) where
    abbrev found : ℕ
    found = next_of (pieces_in (cells_of s) (m - k) u w) (here_of t.pos)

    pub nearest-taken : (p : Row) (u₁ : List ℕ) → p ≡ row_at (rows_in (cells_of s) u) found
        → u₁ ≡ put (rows_from (cells_of s)) (log_from (cells_of s)) (put_row found (row_at (rows_in (cells_of s) u) (m - k - 1)) (rows_in (cells_of s) u)) u
        → Taken s vs lens b₀ u₀ w₀ o₀ rows₀ t₀ m nearest_first swap_remove (m - k) b u w o rows t any k C (m - (k + 1)) u₁ p
    nearest-taken p u₁ P U =
        let n : ℕ = cells_of s in
        let q : 24 * n ≤ length u = (words-ask s vs lens b u w C.standing).1.0 in
        let L : Lying n (m - k) u = C.lies.lying in
        let i : found < m - k = next_in_lem n (m - k) (rows_from n) (log_from n) u refl refl q L w (here_of t.pos) (omega arith) found refl in
        let same : found ≡ next_of C.pieces (here_of t.pos) = ap (λ (l : List Piece). next_of l (here_of t.pos)) C.lies.is in
        record {
          same-long = ap length U ∙ words_long n (m - k) u q L found i;
          same_log = ap (log_in n) U ∙ log-stays n (m - k) u q L found i;
          piece = ap (λ (r : Row). piece_of r (traced_in n w)) P ∙ sym (piece_get (m - k) found (rows_in n u) (traced_in n w) no_piece i) ∙ (λ z. get_or (C.lies.is z) (same z) no_piece);
          traced = subst (Traced n) (sym P) (row_traced n (m - k) u q L found i);
          others =
              subst (λ (v : List ℕ). Lies n (swap_remove (next_of C.pieces (here_of t.pos)) C.pieces) (m - (k + 1)) v w) (sym U)
              (subst (λ (z : ℕ). Lies n (swap_remove (next_of C.pieces (here_of t.pos)) C.pieces) z (put (rows_from n) (log_from n) (put_row found (row_at (rows_in n u) (m - k - 1)) (rows_in n u)) u) w) (let z : m - k - 1 ≡ m - (k + 1) = omega arith in z)
              (subst (λ (l : List Piece). Lies n l (m - k - 1) (put (rows_from n) (log_from n) (put_row found (row_at (rows_in n u) (m - k - 1)) (rows_in n u)) u) w) (λ z. swap_remove (same z) (C.lies.is z))
              (left-lies n (m - k) u q L found i w)));
        }
