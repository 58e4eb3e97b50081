-- For the proofs of `enter`: the refusal of one chunk, the helix listed, and the bytes. Assumes nothing.
use mathlib.Core.Path.{◌≡◌, refl, sym, ap, ◌∙◌, subst}
use mathlib.Core.List.{List, [], ◌∷◌}
use Prim.Native.Nat.{ℕ, ◌+◌, ◌-◌, ◌*◌, ◌/◌, ◌≤◌}
use native.Mathlib.Omega.{arith}
use lib.ListN.{length, take, drop}
use lib.Ieee.{Float, binary64, add}
use borrow.Rule.Slice.PartMut.{put_mid}
use Rattle.std.specs.Prelude.{Some, None}
use Rattle.std.specs.Prelude.{Result, Ok, Err}
use Rattle.loops.specs.Regions.{Fits, within}
use Rattle.loops.specs.Frame.{Only}
use Rattle.loops.proofs.RegionLaws.{region-long}
use Rattle.loops.proofs.FrameLaws.{back-only, only_same, put_only}
use Rattle.geom.specs.declared.vec2.Vec2.{Vec2}
use Rattle.raster.specs.Grid.{Sides}
use Rattle.raster.specs.Stock.{Cleared, cl, clear_disk}
use Rattle.raster.proofs.StockLaws.{clear-disk-left}
use Rattle.setup.specs.Layout.{run, put_run, map_in, allowed_in}
use Rattle.setup.specs.Place.{cells_of, Walls}
use Rattle.setup.specs.declared.Setup.{Setup}
use Rattle.setup.proofs.LayoutLaws.{run-put, run_other}
use Rattle.setup.proofs.PartLaws.{part_is, run_long, back_is, put-run-long}
use Rattle.links.specs.Path.{wall_in}
use Rattle.events.specs.Chunk.{helix}
use Rattle.events.specs.Replay.{helix_end}
use Rattle.events.specs.Events.{Event}
use Rattle.events.specs.Lent.{triple_at, row_at, set_row, set_triple}
use Rattle.events.proofs.ShiftLaws.{set3-long}
use Rattle.cutting.specs.Listing.{needs, room_of}
use Rattle.cutting.specs.Piece.{sta, Listed}
use Rattle.cutting.specs.declared.piece.State.{State}
use Rattle.cutting.specs.declared.listing.Full.{Full}
use Rattle.cutting.proofs.RoomLaws.{room-fits}
use Rattle.workspace.specs.Standing.{reach_in, abandoned_in, abandoned_put, Standing, CellsKept}
use Rattle.workspace.proofs.StandingLaws.{standing-walls}
use Rattle.helix.specs.Search.{Found, Sought, seek_of}
use Rattle.helix.specs.Enter.{Entered, Left, lf, WithEvents, bored_of, listed_where, listed_of, after_search, helix_of, Settled}
use Rattle.helix.proofs.SearchLaws.{seek_long}

-- ---- what is left alone

module _ (n : ℕ) (b : List ℕ) (h : 8 * n ≤ length b) where
  fits : Fits (0 * n) (0 * n + n) b
  fits = record { start = omega arith; end = omega arith }

  pub map_same : Only (0 * n) (0 * n + n) b b
  map_same = only_same (0 * n) (0 * n + n) b fits

  -- cells were given up, and then the map was written
  module _ (gone : List ℕ) (long : length gone ≡ n) (b₁ : List ℕ) (G : b₁ ≡ put_run 3 n gone b) where
    pub given_up-long : length b₁ ≡ length b
    given_up-long = ap length G ∙ put-run-long 3 n b gone (omega arith) long

    pub given_up_there : run 3 n b₁ ≡ gone
    given_up_there = ap (run 3 n) G ∙ run-put n b gone long 3 (omega arith)

    pub given_up-map : run 0 n b₁ ≡ run 0 n b
    given_up-map = ap (run 0 n) G ∙ run_other n b gone long 3 0 (omega arith) (λ z. omega arith)

    pub settled_both : (b₂ : List ℕ) → Only (0 * n) (0 * n + n) b₁ b₂ → Settled n b b₂
    settled_both b₂ o =
        let k : length (run 0 n b₂) ≡ n = run_long 0 n b₂ (omega (arith, o.long, given_up-long)) in
        let gone-there : run 3 n b₂ ≡ gone = ap (run 3 n) o.rest ∙ run_other n b₁ (run 0 n b₂) k 0 3 (omega (arith, given_up-long)) (λ z. omega arith) ∙ given_up_there in
        record {
          long = o.long ∙ given_up-long;
          rest = o.rest ∙ ap (put_run 0 n (run 0 n b₂)) (G ∙ ap (λ (x : List ℕ). put_run 3 n x b) (sym gone-there));
        }

  -- where the tool may go and what it can reach stay, and so does every other run of cells
  module _ (b' : List ℕ) (S : Settled n b b') where
    run-kept : (j : ℕ) → j * n + n ≤ length b → (j ≡ 0 → ⊥) → (j ≡ 3 → ⊥) → run j n b' ≡ run j n b
    run-kept j l z t =
        let k : length (run 3 n b') ≡ n = run_long 3 n b' (omega (arith, S.long)) in
        let m : length (run 0 n b') ≡ n = run_long 0 n b' (omega (arith, S.long)) in
        let i : length (put_run 3 n (run 3 n b') b) ≡ length b = put-run-long 3 n b (run 3 n b') (omega arith) k in
        ap (run j n) S.rest
        ∙ run_other n (put_run 3 n (run 3 n b') b) (run 0 n b') m 0 j (omega (arith, i)) z
        ∙ run_other n b (run 3 n b') k 3 j (omega arith) t

    pub settled-cells : CellsKept n b b'
    settled-cells = record { long = S.long; allowed = run-kept 1 (omega arith) (λ z. omega arith) (λ z. omega arith); reach = run-kept 2 (omega arith) (λ z. omega arith) (λ z. omega arith) }

    pub settled-dirty : run 4 n b' ≡ run 4 n b
    settled-dirty = run-kept 4 (omega arith) (λ z. omega arith) (λ z. omega arith)

-- ---- a helix listed

left_eq : {m m' g r r' : List ℕ} {o o' : List Float} {a a' : Entered} → m ≡ m' → r ≡ r' → o ≡ o' → a ≡ a' → lf m g r o a ≡ lf m' g r' o' a'
left_eq {g = g} M R O A = λ i. lf (M i) g (R i) (O i) (A i)

-- which events come before does not count for what is left
pub listed_same : (s : Setup) (t : State) (m gone rows : List ℕ) (o : List Float) (c : Vec2) (rad : Float) (n : ℕ) (es : List Event) → (listed_of s t m gone rows o c rad n []).left ≡ (listed_of s t m gone rows o c rad n es).left
unfolding listed_of listed_where
listed_same s t m gone rows o c rad n es = same (room_of (length o / 3 - t.triples) (length rows / 3 - t.rows) (needs (helix c rad ∷ [])))
  where
    same : (r : Result Unit Full) → (listed_where s t m gone rows o r c rad n []).left ≡ (listed_where s t m gone rows o r c rad n es).left
    same (Ok u) = refl
    same (Err f) = refl

module _ (s : Setup) (t : State) (b : List ℕ) (o : List Float) (rows : List ℕ) (c : Vec2) (rad : Float) (n size : ℕ) (h : 8 * size ≤ length b)
    (no : Result Unit Full) (N : no ≡ room_of (length o / 3 - t.triples) (length rows / 3 - t.rows) (1 ∷ [])) where
  abbrev left : Left
  left = (listed_of s t (run 0 size b) (run 3 size b) rows o c rad n []).left

  left_is : left ≡ (listed_where s t (run 0 size b) (run 3 size b) rows o no c rad n []).left
  unfolding listed_of
  left_is = ap (λ (r : Result Unit Full). (listed_where s t (run 0 size b) (run 3 size b) rows o r c rad n []).left) (sym N)

  where_is : (r : Result Unit Full) → no ≡ r → (listed_where s t (run 0 size b) (run 3 size b) rows o r c rad n []).left ≡ left
  where_is r e = ap (λ (x : Result Unit Full). (listed_where s t (run 0 size b) (run 3 size b) rows o x c rad n []).left) (sym e) ∙ sym left_is

  pub bore_refused : (f : Full) → no ≡ Err f → (lf (run 0 size b) (run 3 size b) rows o (Err f) ≡ left) × Only (0 * size) (0 * size + size) b b
  unfolding listed_where
  bore_refused f e = (where_is (Err f) e, map_same size b h)

  module _ (u : Unit) (z : no ≡ Ok u) where
    pub bore_fits : Listed rows o t 0 → ((t.triples + 1) * 3 ≤ length o) × ((t.rows + 1) * 3 ≤ length rows)
    bore_fits L =
        let f = room-fits (length o / 3 - t.triples) (length rows / 3 - t.rows) 0 1 (sym N ∙ z) in
        (omega (arith, f.0, L.fit_triples), omega (arith, f.1, L.fit_rows))

    pub bore_listed : (r : List ℕ) (k : ℕ) → cl r k ≡ clear_disk s.grid c (add binary64 rad s.r) (take (size - 0) (drop 0 b)) → (o' : List Float) → o' ≡ set_triple t.triples (triple_at c rad) o
        → (rows' : List ℕ) → rows' ≡ set_row t.rows (row_at t.triples (helix c rad)) rows → (p : Vec2) → p ≡ helix_end c rad
        → let b' = put_mid 0 (size - 0) b r in
        (lf (run 0 size b') (run 3 size b') rows' o' (Ok (Some (sta (Some p) (t.rows + 1) (t.triples + 1) t.planned_max t.work), n)) ≡ left) × Only (0 * size) (0 * size + size) b b'
    unfolding bored_of listed_where
    bore_listed r k R o' O rows' Q p P =
        let m : List ℕ = (clear_disk s.grid c (add binary64 rad s.r) (run 0 size b)).cells in
        let is : r ≡ m = ap (λ (x : Cleared). x.cells) R ∙ ap (λ (x : List ℕ). (clear_disk s.grid c (add binary64 rad s.r) x).cells) (part_is 0 size 0 size b (omega arith) (omega arith)) in
        let long : length m ≡ size = (clear-disk-left s.grid c (add binary64 rad s.r) (run 0 size b)).long ∙ run_long 0 size b (omega arith) in
        let put : put_mid 0 (size - 0) b r ≡ put_run 0 size m b = back_is 0 size 0 size b r (omega arith) (omega arith) (omega arith) ∙ ap (λ (x : List ℕ). put_run 0 size x b) is in (
          ap (λ (x : List ℕ). lf (run 0 size (put_mid 0 (size - 0) b r)) x rows' o' (Ok (Some (sta (Some p) (t.rows + 1) (t.triples + 1) t.planned_max t.work), n)))
              (ap (run 3 size) put ∙ run_other size b m long 0 3 (omega arith) (λ z. omega arith))
              ∙ left_eq (ap (run 0 size) put ∙ run-put size b m long 0 (omega arith)) Q O (ap (λ (x : Vec2). Ok (Some (sta (Some x) (t.rows + 1) (t.triples + 1) t.planned_max t.work), n)) P)
              ∙ where_is (Ok u) z,
          subst (Only (0 * size) (0 * size + size) b) (sym put) (put_only (0 * size) (0 * size + size) b (fits size b h) m (omega (arith, long))),
        )

-- ---- the search, and then the helix

module _ (s : Setup) (t : State) (vs : List Float) (lens : List ℕ) (pref : Float) (b u : List ℕ) (w o : List Float) (rows : List ℕ) (H : Standing s vs lens b u w)
    (before : ℕ) (F : before ≡ 5 * cells_of s) (end : ℕ) (E : end ≡ 15 * cells_of s) where
  abbrev cells : ℕ
  cells = cells_of s

  abbrev heap : ℕ
  heap = before + cells

  heap_place : Fits heap end u
  heap_place = record { start = omega arith; end = omega (arith, H.words) }

  abbrev wall : List Float
  wall = take (cells - 0) (drop 0 w)

  pub find_asks : Walls s wall vs lens × ((8 * cells ≤ length b) × (9 * cells ≤ length (take (end - heap) (drop heap u))))
  unfolding within
  find_asks = (standing-walls s vs lens b u w H, (H.bytes, omega (arith, region-long heap end u heap_place)))

  abbrev sought : Sought
  sought = seek_of s wall vs lens (allowed_in cells b) (reach_in cells b) pref (map_in cells b) (abandoned_in cells b)

  gone_long : length sought.gone ≡ cells
  gone_long = seek_long s wall vs lens (allowed_in cells b) (reach_in cells b) pref cells (map_in cells b) (abandoned_in cells b) (run_long 3 cells b (omega (arith, H.bytes)))

  abbrev answered : Left
  answered = (helix_of s (wall_in s w) vs lens (allowed_in cells b) (reach_in cells b) pref t (map_in cells b) (abandoned_in cells b) rows o).left

  -- what is found leaves the bytes b₁ and the heap's part r
  module _ (f : Found) (P : f ≡ sought.found) (b₁ : List ℕ) (B : b₁ ≡ abandoned_put cells sought.gone b) where
    answered_by : answered ≡ (after_search s t (run 0 cells b₁) (run 3 cells b₁) rows o f sought.events).left
    unfolding helix_of within
    answered_by =
        ap (λ (x : Found). (after_search s t (run 0 cells b) sought.gone rows o x sought.events).left) (sym P)
        ∙ ap (λ (x : List ℕ). (after_search s t x sought.gone rows o f sought.events).left) (sym (given_up-map cells b H.bytes sought.gone gone_long b₁ B))
        ∙ ap (λ (x : List ℕ). (after_search s t (run 0 cells b₁) x rows o f sought.events).left) (sym (given_up_there cells b H.bytes sought.gone gone_long b₁ B))

    long₁ : 8 * cells ≤ length b₁
    long₁ = omega (arith, given_up-long cells b H.bytes sought.gone gone_long b₁ B, H.bytes)

    pub bore_asks : Listed rows o t 0 → Sides s.grid × ((8 * cells ≤ length b₁) × Listed rows o t 0)
    bore_asks L = (H.sides, (long₁, L))

    module _ (r : List ℕ) (R : length r ≡ length (take (end - heap) (drop heap u))) where
      abbrev u₁ : List ℕ
      u₁ = put_mid heap (end - heap) u r

      heap_only : Only (6 * cells) (15 * cells) u u₁
      heap_only = subst (λ (z : ℕ). Only z (15 * cells) u u₁) (let z : heap ≡ 6 * cells = omega arith in z) (subst (λ (z : ℕ). Only heap z u u₁) E (back-only heap end u heap_place r R))

      pub enter_none : f.0 ≡ None → (lf (run 0 cells b₁) (run 3 cells b₁) rows o (Ok (None, f.1)) ≡ answered) × (Settled cells b b₁ × Only (6 * cells) (15 * cells) u u₁)
      unfolding after_search
      enter_none e = (
        sym (answered_by ∙ (λ i. (after_search s t (run 0 cells b₁) (run 3 cells b₁) rows o (e i, f.1) sought.events).left)),
        (settled_both cells b H.bytes sought.gone gone_long b₁ B b₁ (map_same cells b₁ long₁), heap_only),
      )

      pub enter_bored : (x : Vec2 × Float) → f.0 ≡ Some x → (b₂ rows' : List ℕ) (o' : List Float) (a : Entered)
          → lf (run 0 cells b₂) (run 3 cells b₂) rows' o' a ≡ (listed_of s t (run 0 cells b₁) (run 3 cells b₁) rows o x.0 x.1 f.1 []).left → Only (0 * cells) (0 * cells + cells) b₁ b₂
          → (lf (run 0 cells b₂) (run 3 cells b₂) rows' o' a ≡ answered) × (Settled cells b b₂ × Only (6 * cells) (15 * cells) u u₁)
      unfolding after_search
      enter_bored (c, rad) e b₂ rows' o' a A O = (
        A ∙ listed_same s t (run 0 cells b₁) (run 3 cells b₁) rows o c rad f.1 sought.events
            ∙ sym (answered_by ∙ (λ i. (after_search s t (run 0 cells b₁) (run 3 cells b₁) rows o (e i, f.1) sought.events).left)),
        (settled_both cells b H.bytes sought.gone gone_long b₁ B b₂ O, heap_only),
      )

-- ---- for callers: what is listed lies in rows and triples again

abbrev pub ListedAfter : State → List ℕ → List Float → Entered → Type 0
ListedAfter t rows o (Ok (Some t', n)) = Listed rows o t' 0
ListedAfter t rows o (Ok (None, n)) = Listed rows o t 0
ListedAfter t rows o (Err f) = Unit {0}

module _ (s : Setup) (t : State) (m gone rows : List ℕ) (o : List Float) (L : Listed rows o t 0) where
  abbrev Lies : WithEvents → Type 0
  Lies q = ListedAfter t q.left.rows q.left.out q.left.answer

  bored-listed : (c : Vec2) (rad : Float) (n : ℕ) (es : List Event) → Lies (listed_of s t m gone rows o c rad n es)
  unfolding listed_of listed_where bored_of
  bored-listed c rad n es = where_listed (room_of (length o / 3 - t.triples) (length rows / 3 - t.rows) (needs (helix c rad ∷ []))) refl
    where
      where_listed : (r : Result Unit Full) → room_of (length o / 3 - t.triples) (length rows / 3 - t.rows) (needs (helix c rad ∷ [])) ≡ r → Lies (listed_where s t m gone rows o r c rad n es)
      where_listed (Ok u) z =
          let f = room-fits (length o / 3 - t.triples) (length rows / 3 - t.rows) 0 1 z in
          let r = set3-long rows (t.rows * 3) 1 t.triples 1 in
          let k = set3-long o (t.triples * 3) c.x c.y rad in
          record {
            countable = record { few-rows = omega (arith, r, L.countable.few-rows); few-triples = omega (arith, k, L.countable.few-triples) };
            fit_rows = omega (arith, r, f.1);
            fit_triples = omega (arith, k, f.0);
          }
      where_listed (Err f) z = tt

  found-listed : (f : Found) (es : List Event) → Lies (after_search s t m gone rows o f es)
  unfolding after_search
  found-listed (None, n) es = L
  found-listed (Some (c, rad), n) es = bored-listed c rad n es

pub helix-listed : (s : Setup) (wall vs : List Float) (lens allowed reach : List ℕ) (pref : Float) (t : State) (m gone rows : List ℕ) (o : List Float) → Listed rows o t 0
    → let l = (helix_of s wall vs lens allowed reach pref t m gone rows o).left in ListedAfter t l.rows l.out l.answer
unfolding helix_of
helix-listed s wall vs lens allowed reach pref t m gone rows o L =
    let q : Sought = seek_of s wall vs lens allowed reach pref m gone in found-listed s t m q.gone rows o L q.found q.events
