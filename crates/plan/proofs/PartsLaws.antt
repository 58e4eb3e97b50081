-- For the proofs of a round's parts: each part's return with the answers of its callees as variables, and a part after another. Assumes nothing.
use mathlib.Core.Path.{◌≡◌, refl, sym, ap, ◌∙◌, subst}
use mathlib.Core.Bool.{Bool, true, false, cond}
use mathlib.Core.List.{List, [], ◌∷◌}
use mathlib.Core.Logic.{⊎_elim}
use Prim.Native.Nat.{ℕ, ◌+◌, ◌-◌, ◌*◌, ◌/◌, ◌≤◌, ◌<◌}
use native.Mathlib.Omega.{arith}
use lib.ListN.{length}
use lib.Ieee.{Float}
use denote.Enum.Declared.{tag_of}
use types.Run.{OneOf}
use Rattle.loops.specs.Loop.{Run, on, out, turn}
use Rattle.loops.specs.Regions.{Fits}
use Rattle.loops.specs.Frame.{Only}
use Rattle.loops.proofs.Cases.{by_test}
use Rattle.loops.proofs.LoopLaws.{loop_keeps}
use Rattle.loops.proofs.FrameLaws.{only-after}
use Rattle.geom.specs.declared.vec2.Vec2.{Vec2}
use Rattle.setup.specs.Layout.{run, map_in, allowed_in, dirty_in, log_in, guide_from, path_end, heap_from, segments_from}
use Rattle.setup.specs.Place.{cells_of}
use Rattle.setup.specs.declared.Setup.{Setup}
use Rattle.links.specs.Path.{wall_in}
use Rattle.events.specs.Chunk.{helix}
use Rattle.events.specs.Events.{Event}
use Rattle.events.proofs.ShiftLaws.{set3-long}
use Rattle.cutting.specs.Listing.{needs, room_of}
use Rattle.cutting.specs.Piece.{spending, Listed}
use Rattle.cutting.specs.declared.piece.State.{State}
use Rattle.workspace.specs.Standing.{reach_in, abandoned_in, Standing, CellsKept}
use Rattle.workspace.specs.Lies.{pieces_in, Lying}
use Rattle.workspace.proofs.StandingLaws.{wall-kept, standing-kept, walls-same, walls_more, walls_of_lem, cells_same, cells_more}
use Rattle.tracing.specs.Round.{work_of, TracedRound}
use Rattle.tracing.specs.Ring.{TracedRing}
use Rattle.tracing.specs.declared.round.Traced.{Traced}
use Rattle.rounds.specs.Round.{Cuts, cuts_in, cut_pieces_of, cut_ring_of, Lists}
use Rattle.rounds.specs.Round.{Cuts, ListedAfter as CutsListed}
use Rattle.helix.specs.Search.{Found, Seeking, Sought, sk, sought_end, step_by, seek_step, attempt_of, seek_of}
use Rattle.helix.specs.Enter.{Entered, left_in, bored_of, listed_where, listed_of, after_search, helix_of, Settled}
use Rattle.helix.specs.Enter.{Left as HelixLeft, WithEvents as HelixDone}
use Rattle.helix.specs.declared.search.Attempt.{Attempt}
use Rattle.helix.specs.declared.search.Attempt.TheVariants.{Fits as Fitted, GivenUp, Nothing as NoPlace}
use Rattle.helix.proofs.EnterLaws.{settled-cells, settled-dirty, helix-listed}
use Rattle.helix.proofs.EnterLaws.{ListedAfter as HelixListed}
use Rattle.plan.specs.Parts.{Ground, Slices, slices, progress, Answer, Left, lf, WithEvents, with_events, places_of, pieces_step, after_pieces, ring_step, after_ring, helix_step, after_helix, field_now, pieces_cut, pieces_part, ring_cut, ring_part, helix_entered, helix_part, onward, then_do, rest_of, round_of, slices_in, ground_in, ListedAfter, Kept}
use Rattle.std.specs.Prelude.{Option, Some, None}
use Rattle.std.specs.Prelude.{Result, Ok, Err}
use Rattle.cutting.specs.declared.listing.Full.{Full}
use Rattle.plan.specs.declared.parts.Progress.{Progress}
use Rattle.plan.specs.declared.parts.Step.{Step}
use Rattle.plan.specs.contracts.parts.Step.{the_type}
use Rattle.plan.specs.declared.parts.Step.TheVariants.{Next, Again, Done}

-- ---- the answers

pub pieces_kept : (p : Progress) (t : State) (any : Bool) → any ≡ true → Again (progress t false p.given false) ≡ pieces_step p t any
unfolding pieces_step
pieces_kept p t any a = sym (ap (pieces_step p t) a)

pub pieces_none : (p : Progress) (t : State) (any : Bool) → any ≡ false → Next (progress t false p.given p.cleanup) ≡ pieces_step p t any
unfolding pieces_step
pieces_none p t any a = sym (ap (pieces_step p t) a)

pub ring_kept : (p : Progress) (t : State) (any : Bool) → any ≡ true → Again (progress t p.all p.given true) ≡ ring_step p t any
unfolding ring_step
ring_kept p t any a = sym (ap (ring_step p t) a)

pub ring_none : (p : Progress) (t : State) (any : Bool) → any ≡ false → Next (progress t p.all p.given true) ≡ ring_step p t any
unfolding ring_step
ring_none p t any a = sym (ap (ring_step p t) a)

pub helix-bored : (p : Progress) (e : Option State) (t : State) (n : ℕ) → e ≡ Some t → Again (progress t true (p.given + n) false) ≡ helix_step p e n
unfolding helix_step
helix-bored p e t n x = sym (ap (λ (y : Option State). helix_step p y n) x)

pub helix-none : (p : Progress) (e : Option State) (n : ℕ) → e ≡ None → Done (progress p.state p.all (p.given + n) p.cleanup) ≡ helix_step p e n
unfolding helix_step
helix-none p e n x = sym (ap (λ (y : Option State). helix_step p y n) x)

pub pieces-answer : (p : Progress) (c : Cuts) (x : State × Bool) (r : Step) → c ≡ Ok x → r ≡ pieces_step p x.0 x.1 → Ok r ≡ after_pieces p c
unfolding after_pieces
pieces-answer p c (t, any) r e h = ap Ok h ∙ sym (ap (after_pieces p) e)

pub pieces-full : (p : Progress) (c : Cuts) (f : Full) → c ≡ Err f → Err f ≡ after_pieces p c
unfolding after_pieces
pieces-full p c f e = sym (ap (after_pieces p) e)

pub ring_answer : (p : Progress) (c : Cuts) (x : State × Bool) (r : Step) → c ≡ Ok x → r ≡ ring_step p x.0 x.1 → Ok r ≡ after_ring p c
unfolding after_ring
ring_answer p c (t, any) r e h = ap Ok h ∙ sym (ap (after_ring p) e)

pub ring_full : (p : Progress) (c : Cuts) (f : Full) → c ≡ Err f → Err f ≡ after_ring p c
unfolding after_ring
ring_full p c f e = sym (ap (after_ring p) e)

pub helix-answer : (p : Progress) (e : Entered) (x : Option State × ℕ) (r : Step) → e ≡ Ok x → r ≡ helix_step p x.0 x.1 → Ok r ≡ after_helix p e
unfolding after_helix
helix-answer p e (t, n) r q h = ap Ok h ∙ sym (ap (after_helix p) q)

pub helix-full : (p : Progress) (e : Entered) (f : Full) → e ≡ Err f → Err f ≡ after_helix p e
unfolding after_helix
helix-full p e f q = sym (ap (after_helix p) q)

pub places-sum : (p : Progress) (e : Entered) (x : Option State × ℕ) → e ≡ Ok x → p.given + places_of e ≤ 1000000 → p.given + x.1 ≤ 1000000
unfolding places_of
places-sum p e (t, n) q h = subst (λ (y : Entered). p.given + places_of y ≤ 1000000) q h

-- what is listed after them

pieces-listed : (p : Progress) (rows : List ℕ) (o : List Float) (c : Cuts) → CutsListed rows o c → ListedAfter rows o (after_pieces p c)
unfolding after_pieces pieces_step
pieces-listed p rows o (Ok (t, true)) L = L
pieces-listed p rows o (Ok (t, false)) L = L
pieces-listed p rows o (Err f) L = tt

ring_listed : (p : Progress) (rows : List ℕ) (o : List Float) (c : Cuts) → CutsListed rows o c → ListedAfter rows o (after_ring p c)
unfolding after_ring ring_step
ring_listed p rows o (Ok (t, true)) L = L
ring_listed p rows o (Ok (t, false)) L = L
ring_listed p rows o (Err f) L = tt

entered-listed : (p : Progress) (rows : List ℕ) (o : List Float) (e : Entered) → HelixListed p.state rows o e → ListedAfter rows o (after_helix p e)
unfolding after_helix helix_step
entered-listed p rows o (Ok (Some t, n)) L = L
entered-listed p rows o (Ok (None, n)) L = L
entered-listed p rows o (Err f) L = tt

-- ---- the places given up, at most k

abbrev pub Gives : ℕ → Answer → Type 0
Gives k (Ok (Next p)) = p.given ≤ k
Gives k (Ok (Again p)) = p.given ≤ k
Gives k (Ok (Done p)) = p.given ≤ k
Gives k (Err e) = Unit {0}

pieces_gives : (p : Progress) (k : ℕ) → p.given ≤ k → (c : Cuts) → Gives k (after_pieces p c)
unfolding after_pieces pieces_step
pieces_gives p k h (Ok (t, true)) = h
pieces_gives p k h (Ok (t, false)) = h
pieces_gives p k h (Err f) = tt

ring_gives : (p : Progress) (k : ℕ) → p.given ≤ k → (c : Cuts) → Gives k (after_ring p c)
unfolding after_ring ring_step
ring_gives p k h (Ok (t, true)) = h
ring_gives p k h (Ok (t, false)) = h
ring_gives p k h (Err f) = tt

entered_gives : (p : Progress) (k : ℕ) → p.given ≤ k → (e : Entered) → places_of e ≤ 64 → Gives (k + 64) (after_helix p e)
unfolding after_helix helix_step places_of
entered_gives p k h (Ok (Some t, n)) l = omega (arith, h, l)
entered_gives p k h (Ok (None, n)) l = omega (arith, h, l)
entered_gives p k h (Err f) l = tt

-- ---- fits helix: a search gives up at most 64 places, and rows and triples keep their lengths

abbrev found_places : Found → ℕ
found_places (None, n) = n
found_places (Some (c, rad), n) = n

module _ (s : Setup) (wall vs : List Float) (lens allowed reach : List ℕ) (pref : Float) (m : List ℕ) where
  abbrev Few : Run Seeking Sought → Type 0
  Few (on t) = Unit {0}
  Few (out q) = found_places q.found ≤ 64

  by_few : (a : Attempt) (i : ℕ) → i < 64 → (t : Seeking) → Few (step_by s wall vs lens allowed reach pref m a i t)
  unfolding step_by
  by_few NoPlace i h t = omega (arith, h)
  by_few (Fitted c rad) i h t = omega (arith, h)
  by_few (GivenUp c) i h t = tt

  step-few : (i : ℕ) (r : Run Seeking Sought) → i < 64 → Few r → Few (turn (seek_step s wall vs lens allowed reach pref m) i r)
  unfolding turn seek_step
  step-few i (on t) l h = by_few (attempt_of s wall vs lens allowed reach pref m t.gone) i l t
  step-few i (out q) l h = h

  end-few : (r : Run Seeking Sought) → Few r → found_places (sought_end r).found ≤ 64
  unfolding sought_end
  end-few (on t) h = omega arith
  end-few (out q) h = h

  seek_few : (gone : List ℕ) → found_places (seek_of s wall vs lens allowed reach pref m gone).found ≤ 64
  unfolding seek_of
  seek_few gone = end-few _ (loop_keeps (turn (seek_step s wall vs lens allowed reach pref m)) 0 Few 64 (λ i r a b h. step-few i r b h) (on (sk gone [])) tt)

pub record Answered (rows : List ℕ) (o : List Float) (q : HelixDone) : Type 0 where
  pub few : places_of q.left.answer ≤ 64
  pub rows_long : length q.left.rows ≡ length rows
  pub out-long : length q.left.out ≡ length o

module _ (s : Setup) (t : State) (m gone rows : List ℕ) (o : List Float) where
  listed-answered : (c : Vec2) (rad : Float) (n : ℕ) → n ≤ 64 → (es : List Event) → Answered rows o (listed_of s t m gone rows o c rad n es)
  unfolding listed_of listed_where bored_of places_of
  listed-answered c rad n h es = where_answered (room_of (length o / 3 - t.triples) (length rows / 3 - t.rows) (needs (helix c rad ∷ [])))
    where
      where_answered : (r : Result Unit Full) → Answered rows o (listed_where s t m gone rows o r c rad n es)
      where_answered (Ok u) = record { few = h; rows_long = set3-long rows (t.rows * 3) 1 t.triples 1; out-long = set3-long o (t.triples * 3) c.x c.y rad }
      where_answered (Err f) = record { few = omega arith; rows_long = refl; out-long = refl }

  found-answered : (f : Found) → found_places f ≤ 64 → (es : List Event) → Answered rows o (after_search s t m gone rows o f es)
  unfolding after_search places_of
  found-answered (None, n) h es = record { few = h; rows_long = refl; out-long = refl }
  found-answered (Some (c, rad), n) h es = listed-answered c rad n h es

pub helix-answered : (s : Setup) (wall vs : List Float) (lens allowed reach : List ℕ) (pref : Float) (t : State) (m gone rows : List ℕ) (o : List Float)
    → Answered rows o (helix_of s wall vs lens allowed reach pref t m gone rows o)
unfolding helix_of
helix-answered s wall vs lens allowed reach pref t m gone rows o =
    let q : Sought = seek_of s wall vs lens allowed reach pref m gone in found-answered s t m q.gone rows o q.found (seek_few s wall vs lens allowed reach pref m gone) q.events

-- ---- the parts in the workspace

module _ (s : Setup) (vs : List Float) (lens : List ℕ) (p : Progress) (b u : List ℕ) (f w o : List Float) (rows : List ℕ) (H : Standing s vs lens b u w) (L : Listed rows o p.state 0) where
  abbrev n : ℕ
  n = cells_of s

  abbrev g : Float → Ground
  g pref = ground_in s vs lens pref b w

  abbrev h : Slices
  h = slices_in (cells_of s) b u f rows o

  -- the curves of the field
  module _ (q : Traced) (b₁ u₁ : List ℕ) (f₁ w₁ : List Float) (T : TracedRound s p.all b u f w q b₁ u₁ f₁ w₁) (t : State) (S : t ≡ spending q.work p.state) where
    standing₁ : Standing s vs lens b₁ u₁ w₁
    standing₁ = standing-kept s vs lens b u w H w₁ T.walls b₁ u₁ T.cells.long T.words_long

    pub pieces-ask : Standing s vs lens b₁ u₁ w₁ × (Lying n q.pieces u₁ × Listed rows o t 0)
    pieces-ask = (
      standing₁,
      (
        T.lies.lying,
        subst (λ (x : State). Listed rows o x 0) (sym S) (record { countable = L.countable; fit_rows = L.fit_rows; fit_triples = L.fit_triples }),
      ),
    )

    module _ (b₂ u₂ : List ℕ) (w₂ o₂ : List Float) (rows₂ : List ℕ) (c : Cuts)
        (E : cuts_in n b₂ (log_in n u₂) rows₂ o₂ c ≡ (cut_pieces_of s (wall_in s w₁) vs lens (allowed_in n b₁) (pieces_in n q.pieces u₁ w₁) t (map_in n b₁) (dirty_in n b₁) rows (log_in n u₁) o).left)
        (K : CellsKept n b₁ b₂) (A : abandoned_in n b₂ ≡ abandoned_in n b₁) (U : length u₂ ≡ length u₁) (O : Only (guide_from n) (path_end n) w₁ w₂) (M : Lists rows rows₂ o o₂ c)
        (r : Answer) (R : r ≡ after_pieces p c) where
      spent : (pref : Float) → t ≡ spending (work_of s (field_now (g pref) p h).sampled) p.state
      spent pref = S ∙ ap (λ (x : ℕ). spending x p.state) T.work

      cut-is : (pref : Float) → cuts_in n b₂ (log_in n u₂) rows₂ o₂ c ≡ (pieces_cut (g pref) p h).left
      cut-is pref = E ∙ (λ i. (cut_pieces_of s (wall-kept s vs lens b u w H w₁ T.walls i) vs lens (T.cells.allowed i) (T.lies.is i) (spent pref i) (T.map i) (T.dirty i) rows (T.log i) o).left)

      pieces-left : (pref : Float) → lf (slices_in n b₂ u₂ f₁ rows₂ o₂) r ≡ (pieces_part (g pref) p h).left
      unfolding pieces_part
      pieces-left pref =
          ap (lf (slices_in n b₂ u₂ f₁ rows₂ o₂)) R
          ∙ (λ i. lf (slices (cut-is pref i).map (cut-is pref i).dirty ((A ∙ T.abandoned) i) (cut-is pref i).log (T.field i) (cut-is pref i).rows (cut-is pref i).out) (after_pieces p (cut-is pref i).answer))

      pub pieces_part_lem : ((pref : Float) → lf (slices_in n b₂ u₂ f₁ rows₂ o₂) r ≡ (pieces_part (g pref) p h).left) × Kept n b u rows f w o b₂ u₂ rows₂ f₁ w₂ o₂ r
      pieces_part_lem = (
        pieces-left,
        record {
          cells = cells_more n b b₁ b₂ T.cells K;
          words_long = U ∙ T.words_long;
          singles-long = T.singles-long;
          walls = walls_more s vs lens b u w H w₁ T.walls w₂ (walls_of_lem s vs lens b₁ u₁ w₁ standing₁ (guide_from n) (path_end n) w₂ (omega arith) (omega arith) (omega arith) O);
          rows_long = M.rows_long;
          out-long = M.out-long;
          listed = subst (ListedAfter rows₂ o₂) (sym R) (pieces-listed p rows₂ o₂ c M.listed);
        },
      )

  -- the ring
  abbrev ring_whole : Float → WithEvents
  ring_whole pref =
      let c = ring_cut (g pref) p h in
      let l = c.left in
      with_events (slices l.map l.dirty h.gone l.log h.field l.rows l.out) (after_ring p l.answer) c.events

  ring_by : (pref : Float) (x : Bool) → p.cleanup ≡ x → ring_part (g pref) p h ≡ cond x (with_events h (Ok (Next p)) []) (ring_whole pref)
  unfolding ring_part
  ring_by pref x e = ap (λ (z : Bool). cond z (with_events h (Ok (Next p)) []) (ring_whole pref)) e

  pub ring_done : p.cleanup ≡ true → ((pref : Float) → lf h (Ok (Next p)) ≡ (ring_part (g pref) p h).left) × Kept n b u rows f w o b u rows f w o (Ok (Next p))
  ring_done e = (
    λ pref. sym (ap (λ (q : WithEvents). q.left) (ring_by pref true e)),
    record { cells = cells_same n b; words_long = refl; singles-long = refl; walls = walls-same s vs lens b u w H; rows_long = refl; out-long = refl; listed = L },
  )

  module _ (q : ℕ) (b₁ u₁ : List ℕ) (f₁ w₁ : List Float) (T : TracedRing s vs lens b u f w q b₁ u₁ f₁ w₁) where
    standing₂ : Standing s vs lens b₁ u₁ w₁
    standing₂ = standing-kept s vs lens b u w H w₁ T.walls b₁ u₁ T.cells.long T.words_long

    pub ring_asks : Standing s vs lens b₁ u₁ w₁ × (Lying n q u₁ × Listed rows o p.state 0)
    ring_asks = (standing₂, (T.lies.lying, L))

    module _ (b₂ u₂ : List ℕ) (w₂ o₂ : List Float) (rows₂ : List ℕ) (c : Cuts)
        (E : cuts_in n b₂ (log_in n u₂) rows₂ o₂ c ≡ (cut_ring_of s (wall_in s w₁) vs lens (allowed_in n b₁) (pieces_in n q u₁ w₁) p.state (map_in n b₁) (dirty_in n b₁) rows (log_in n u₁) o).left)
        (K : CellsKept n b₁ b₂) (A : abandoned_in n b₂ ≡ abandoned_in n b₁) (U : length u₂ ≡ length u₁) (O : Only (guide_from n) (path_end n) w₁ w₂) (M : Lists rows rows₂ o o₂ c)
        (r : Answer) (R : r ≡ after_ring p c) (no : p.cleanup ≡ false) where
      ring_is : (pref : Float) → cuts_in n b₂ (log_in n u₂) rows₂ o₂ c ≡ (ring_cut (g pref) p h).left
      ring_is pref = E ∙ (λ i. (cut_ring_of s (wall-kept s vs lens b u w H w₁ T.walls i) vs lens (T.cells.allowed i) (T.lies.is i) p.state (T.map i) (T.dirty i) rows (T.log i) o).left)

      pub ring_part_lem : ((pref : Float) → lf (slices_in n b₂ u₂ f₁ rows₂ o₂) r ≡ (ring_part (g pref) p h).left) × Kept n b u rows f w o b₂ u₂ rows₂ f₁ w₂ o₂ r
      ring_part_lem = (
        λ pref. ap (lf (slices_in n b₂ u₂ f₁ rows₂ o₂)) R
            ∙ (λ i. lf (slices (ring_is pref i).map (ring_is pref i).dirty ((A ∙ T.abandoned) i) (ring_is pref i).log (T.field i) (ring_is pref i).rows (ring_is pref i).out) (after_ring p (ring_is pref i).answer))
            ∙ sym (ap (λ (q : WithEvents). q.left) (ring_by pref false no)),
        record {
          cells = cells_more n b b₁ b₂ T.cells K;
          words_long = U ∙ T.words_long;
          singles-long = T.singles-long;
          walls = walls_more s vs lens b u w H w₁ T.walls w₂ (walls_of_lem s vs lens b₁ u₁ w₁ standing₂ (guide_from n) (path_end n) w₂ (omega arith) (omega arith) (omega arith) O);
          rows_long = M.rows_long;
          out-long = M.out-long;
          listed = subst (ListedAfter rows₂ o₂) (sym R) (ring_listed p rows₂ o₂ c M.listed);
        },
      )

  -- the helix
  module _ (pref : Float) (b₂ u₂ : List ℕ) (o₂ : List Float) (rows₂ : List ℕ) (e : Entered)
      (E : left_in n b₂ rows₂ o₂ e ≡ (helix_of s (wall_in s w) vs lens (allowed_in n b) (reach_in n b) pref p.state (map_in n b) (abandoned_in n b) rows o).left) where
    answered : Answered rows o (helix_entered (g pref) p h)
    answered = helix-answered s (wall_in s w) vs lens (allowed_in n b) (reach_in n b) pref p.state (map_in n b) (abandoned_in n b) rows o

    pub helix_asks : p.given ≤ 900000 → p.given + places_of e ≤ 1000000
    helix_asks l =
        let k : places_of e ≤ 64 = subst (λ (x : Entered). places_of x ≤ 64) (sym (ap (λ (x : HelixLeft). x.answer) E)) answered.few in
        omega (arith, l, k)

    module _ (S : Settled n b b₂) (O : Only (heap_from n) (segments_from n) u u₂) (r : Answer) (R : r ≡ after_helix p e) where
      heap_fits : Fits (heap_from n) (segments_from n) u
      heap_fits = record { start = omega arith; end = omega (arith, H.words) }

      log-kept : log_in n u₂ ≡ log_in n u
      log-kept = only-after (heap_from n) (segments_from n) u heap_fits u₂ O (24 * n) (24 * n + n) (omega arith)

      helix-left : lf (slices_in n b₂ u₂ f rows₂ o₂) r ≡ (helix_part (g pref) p h).left
      unfolding helix_part
      helix-left =
          ap (lf (slices_in n b₂ u₂ f rows₂ o₂)) R
          ∙ (λ i. lf (slices (E i).map (settled-dirty n b H.bytes b₂ S i) (E i).gone (log-kept i) (run 0 n f) (E i).rows (E i).out) (after_helix p (E i).answer))

      pub helix_part_lem : (lf (slices_in n b₂ u₂ f rows₂ o₂) r ≡ (helix_part (g pref) p h).left) × Kept n b u rows f w o b₂ u₂ rows₂ f w o₂ r
      helix_part_lem = (
        helix-left,
        record {
          cells = settled-cells n b H.bytes b₂ S;
          words_long = O.long;
          singles-long = refl;
          walls = walls-same s vs lens b u w H;
          rows_long = ap (λ (x : HelixLeft). length x.rows) E ∙ answered.rows_long;
          out-long = ap (λ (x : HelixLeft). length x.out) E ∙ answered.out-long;
          listed = subst (ListedAfter rows₂ o₂) (sym R) (entered-listed p rows₂ o₂ e (subst (λ (x : HelixLeft). HelixListed p.state x.rows x.out x.answer) (sym E)
              (helix-listed s (wall_in s w) vs lens (allowed_in n b) (reach_in n b) pref p.state (map_in n b) (abandoned_in n b) rows o L)));
        },
      )

-- ---- one part after another

-- the answer is another than to go on
abbrev pub Leaves : Answer → Type 0
Leaves (Ok a) = OneOf (1 ∷ 2 ∷ []) (tag_of the_type a)
Leaves (Err f) = Unit {0}

module _ (part : Progress → Slices → WithEvents) (q : WithEvents) (h : Slices) (a : Answer) (E : lf h a ≡ q.left) where
  then_is : (onward part h a q.events).left ≡ (then_do part q).left
  then_is = λ i. (onward part (E i).slices (E i).answer q.events).left

  left_as : (a : Answer) → Leaves a → lf h a ≡ (onward part h a q.events).left
  unfolding onward
  left_as (Ok (Next p)) k = absurd (⊎_elim (λ z. let y : ⊥ = omega (arith, z) in y) (λ z. let y : ⊥ = omega (arith, z) in y) k)
  left_as (Ok (Again p)) k = refl
  left_as (Ok (Done p)) k = refl
  left_as (Err e) k = refl

  pub then_left : Leaves a → lf h a ≡ (then_do part q).left
  then_left k = left_as a k ∙ then_is

  pub then_on : (p : Progress) → a ≡ Ok (Next p) → (h' : Slices) (r : Answer) → lf h' r ≡ (part p h).left → lf h' r ≡ (then_do part q).left
  unfolding onward
  then_on p A h' r F = F ∙ ap (λ (x : Answer). (onward part h x q.events).left) (sym A) ∙ then_is

module _ (s : Setup) (vs : List Float) (lens : List ℕ) (pref : Float) (b u : List ℕ) (f w o : List Float) (rows : List ℕ) (H : Standing s vs lens b u w)
    (b₁ u₁ : List ℕ) (f₁ w₁ o₁ : List Float) (rows₁ : List ℕ) (a : Answer) (K : Kept (cells_of s) b u rows f w o b₁ u₁ rows₁ f₁ w₁ o₁ a) where
  pub kept-standing : Standing s vs lens b₁ u₁ w₁
  kept-standing = standing-kept s vs lens b u w H w₁ K.walls b₁ u₁ K.cells.long K.words_long

  pub kept-singles : 2 * cells_of s ≤ length f → 2 * cells_of s ≤ length f₁
  kept-singles l = omega (arith, l, K.singles-long)

  pub kept-listed : (p : Progress) → a ≡ Ok (Next p) → Listed rows₁ o₁ p.state 0
  kept-listed p A = subst (ListedAfter rows₁ o₁) A K.listed

  pub kept_ground : ground_in s vs lens pref b₁ w₁ ≡ ground_in s vs lens pref b w
  kept_ground = λ i. record { setup = s; wall = wall-kept s vs lens b u w H w₁ K.walls i; vs = vs; lens = lens; allowed = K.cells.allowed i; reach = K.cells.reach i; pref = pref }

  pub kept_more : (b₂ u₂ : List ℕ) (f₂ w₂ o₂ : List Float) (rows₂ : List ℕ) (r : Answer) → Kept (cells_of s) b₁ u₁ rows₁ f₁ w₁ o₁ b₂ u₂ rows₂ f₂ w₂ o₂ r → Kept (cells_of s) b u rows f w o b₂ u₂ rows₂ f₂ w₂ o₂ r
  kept_more b₂ u₂ f₂ w₂ o₂ rows₂ r M = record {
    cells = cells_more (cells_of s) b b₁ b₂ K.cells M.cells;
    words_long = M.words_long ∙ K.words_long;
    singles-long = M.singles-long ∙ K.singles-long;
    walls = walls_more s vs lens b u w H w₁ K.walls w₂ M.walls;
    rows_long = M.rows_long ∙ K.rows_long;
    out-long = M.out-long ∙ K.out-long;
    listed = M.listed;
  }

-- ---- how many places a round gives up

module _ (g : Ground) where
  pieces_part_gives : (p : Progress) (h : Slices) (k : ℕ) → p.given ≤ k → Gives k (pieces_part g p h).left.answer
  unfolding pieces_part
  pieces_part_gives p h k l = pieces_gives p k l _

  ring_part_gives : (p : Progress) (h : Slices) (k : ℕ) → p.given ≤ k → Gives k (ring_part g p h).left.answer
  unfolding ring_part
  ring_part_gives p h k l = by_test (λ (q : WithEvents). Gives k q.left.answer) p.cleanup _ _ (λ z. l) (λ z. ring_gives p k l _)

  helix_part_gives : (p : Progress) (h : Slices) (k : ℕ) → p.given ≤ k → Gives (k + 64) (helix_part g p h).left.answer
  unfolding helix_part
  helix_part_gives p h k l =
      entered_gives p k l _ (helix-answered g.setup g.wall g.vs g.lens g.allowed g.reach g.pref p.state h.map h.gone h.rows h.out).few

  onward_gives : (part : Progress → Slices → WithEvents) (k : ℕ) → ((p : Progress) (h : Slices) → p.given ≤ k → Gives (k + 64) (part p h).left.answer) → (h : Slices) (a : Answer) (es : List Event) → Gives k a
      → Gives (k + 64) (onward part h a es).left.answer
  unfolding onward
  onward_gives part k f h (Ok (Next p)) es l = f p h l
  onward_gives part k f h (Ok (Again p)) es l = omega (arith, l)
  onward_gives part k f h (Ok (Done p)) es l = omega (arith, l)
  onward_gives part k f h (Err e) es l = tt

  rest_gives : (p : Progress) (h : Slices) (k : ℕ) → p.given ≤ k → Gives (k + 64) (rest_of g p h).left.answer
  unfolding rest_of
  rest_gives p h k l = onward_gives (helix_part g) k (λ q j z. helix_part_gives q j k z) (ring_part g p h).left.slices (ring_part g p h).left.answer (ring_part g p h).events (ring_part_gives p h k l)

  pub round_gives : (p : Progress) (h : Slices) (k : ℕ) → p.given ≤ k → Gives (k + 64) (round_of g p h).left.answer
  unfolding round_of
  round_gives p h k l = onward_gives (rest_of g) k (λ q j z. rest_gives q j k z) (pieces_part g p h).left.slices (pieces_part g p h).left.answer (pieces_part g p h).events (pieces_part_gives p h k l)

-- ---- a round ends: no part is left to go on to

abbrev pub Over : Answer → Type 0
Over (Ok (Next p)) = ⊥
Over (Ok (Again p)) = Unit {0}
Over (Ok (Done p)) = Unit {0}
Over (Err e) = Unit {0}

onward-over : (part : Progress → Slices → WithEvents) → ((p : Progress) (h : Slices) → Over (part p h).left.answer) → (h : Slices) (a : Answer) (es : List Event) → Over (onward part h a es).left.answer
unfolding onward
onward-over part f h (Ok (Next p)) es = f p h
onward-over part f h (Ok (Again p)) es = tt
onward-over part f h (Ok (Done p)) es = tt
onward-over part f h (Err e) es = tt

entered-over : (p : Progress) (e : Entered) → Over (after_helix p e)
unfolding after_helix helix_step
entered-over p (Ok (Some t, n)) = tt
entered-over p (Ok (None, n)) = tt
entered-over p (Err f) = tt

module _ (g : Ground) where
  helix-over : (p : Progress) (h : Slices) → Over (helix_part g p h).left.answer
  unfolding helix_part
  helix-over p h = entered-over p (helix_entered g p h).left.answer

  rest_over : (p : Progress) (h : Slices) → Over (rest_of g p h).left.answer
  unfolding rest_of
  rest_over p h = onward-over (helix_part g) helix-over (ring_part g p h).left.slices (ring_part g p h).left.answer (ring_part g p h).events

  pub round-over : (p : Progress) (h : Slices) → Over (round_of g p h).left.answer
  unfolding round_of
  round-over p h = onward-over (rest_of g) rest_over (pieces_part g p h).left.slices (pieces_part g p h).left.answer (pieces_part g p h).events

-- ---- the ring, then the helix; the curves, then the rest

module _ (s : Setup) (vs : List Float) (lens : List ℕ) (pref : Float) (p : Progress) (b u : List ℕ) (f w o : List Float) (rows : List ℕ) (H : Standing s vs lens b u w) (F : 2 * cells_of s ≤ length f)
    (b₁ u₁ : List ℕ) (f₁ w₁ o₁ : List Float) (rows₁ : List ℕ) (a : Answer) (K : Kept (cells_of s) b u rows f w o b₁ u₁ rows₁ f₁ w₁ o₁ a) where
  abbrev ground : Ground
  ground = ground_in s vs lens pref b w

  abbrev ground₁ : Ground
  ground₁ = ground_in s vs lens pref b₁ w₁

  abbrev before : Slices
  before = slices_in (cells_of s) b u f rows o

  abbrev between : Slices
  between = slices_in (cells_of s) b₁ u₁ f₁ rows₁ o₁

  abbrev Asks : Progress → Type 0
  Asks q = Standing s vs lens b₁ u₁ w₁ × ((2 * cells_of s ≤ length f₁) × (Listed rows₁ o₁ q.state 0 × (q.given ≤ 900000)))

  same_ground : ground₁ ≡ ground
  same_ground = kept_ground s vs lens pref b u f w o rows H b₁ u₁ f₁ w₁ o₁ rows₁ a K

  asks : (q : Progress) → a ≡ Ok (Next q) → q.given ≤ 900000 → Asks q
  asks q A l = (
    kept-standing s vs lens pref b u f w o rows H b₁ u₁ f₁ w₁ o₁ rows₁ a K,
    (kept-singles s vs lens pref b u f w o rows H b₁ u₁ f₁ w₁ o₁ rows₁ a K F, (kept-listed s vs lens pref b u f w o rows H b₁ u₁ f₁ w₁ o₁ rows₁ a K q A, l)),
  )

  module _ (E : lf between a ≡ (ring_part ground p before).left) where
    pub rest_leaves : (r : Answer) → a ≡ r → Leaves r → (lf between r ≡ (rest_of ground p before).left) × Kept (cells_of s) b u rows f w o b₁ u₁ rows₁ f₁ w₁ o₁ r
    unfolding rest_of
    rest_leaves r A k = subst (λ (x : Answer). (lf between x ≡ (rest_of ground p before).left) × Kept (cells_of s) b u rows f w o b₁ u₁ rows₁ f₁ w₁ o₁ x) A (then_left (helix_part ground) (ring_part ground p before) between a E (subst Leaves (sym A) k), K)

    module _ (q : Progress) (A : a ≡ Ok (Next q)) where
      pub rest_asks : p.given ≤ 900000 → Asks q
      rest_asks l = asks q A (subst (Gives 900000) (sym (ap (λ (x : Left). x.answer) E) ∙ A) (ring_part_gives ground p before 900000 l))

      pub rest_goes_on : (b₂ u₂ : List ℕ) (f₂ w₂ o₂ : List Float) (rows₂ : List ℕ) (r : Answer) → lf (slices_in (cells_of s) b₂ u₂ f₂ rows₂ o₂) r ≡ (helix_part ground₁ q between).left
          → Kept (cells_of s) b₁ u₁ rows₁ f₁ w₁ o₁ b₂ u₂ rows₂ f₂ w₂ o₂ r
          → (lf (slices_in (cells_of s) b₂ u₂ f₂ rows₂ o₂) r ≡ (rest_of ground p before).left) × Kept (cells_of s) b u rows f w o b₂ u₂ rows₂ f₂ w₂ o₂ r
      unfolding rest_of
      rest_goes_on b₂ u₂ f₂ w₂ o₂ rows₂ r X M = (
        then_on (helix_part ground) (ring_part ground p before) between a E q A _ r (X ∙ ap (λ (x : Ground). (helix_part x q between).left) same_ground),
        kept_more s vs lens pref b u f w o rows H b₁ u₁ f₁ w₁ o₁ rows₁ a K b₂ u₂ f₂ w₂ o₂ rows₂ r M,
      )

  module _ (E : lf between a ≡ (pieces_part ground p before).left) where
    pub round_leaves : (r : Answer) → a ≡ r → Leaves r → (lf between r ≡ (round_of ground p before).left) × Kept (cells_of s) b u rows f w o b₁ u₁ rows₁ f₁ w₁ o₁ r
    unfolding round_of
    round_leaves r A k = subst (λ (x : Answer). (lf between x ≡ (round_of ground p before).left) × Kept (cells_of s) b u rows f w o b₁ u₁ rows₁ f₁ w₁ o₁ x) A (then_left (rest_of ground) (pieces_part ground p before) between a E (subst Leaves (sym A) k), K)

    module _ (q : Progress) (A : a ≡ Ok (Next q)) where
      pub round_asks : p.given ≤ 900000 → Asks q
      round_asks l = asks q A (subst (Gives 900000) (sym (ap (λ (x : Left). x.answer) E) ∙ A) (pieces_part_gives ground p before 900000 l))

      pub round_goes_on : (b₂ u₂ : List ℕ) (f₂ w₂ o₂ : List Float) (rows₂ : List ℕ) (r : Answer) → lf (slices_in (cells_of s) b₂ u₂ f₂ rows₂ o₂) r ≡ (rest_of ground₁ q between).left
          → Kept (cells_of s) b₁ u₁ rows₁ f₁ w₁ o₁ b₂ u₂ rows₂ f₂ w₂ o₂ r
          → (lf (slices_in (cells_of s) b₂ u₂ f₂ rows₂ o₂) r ≡ (round_of ground p before).left) × Kept (cells_of s) b u rows f w o b₂ u₂ rows₂ f₂ w₂ o₂ r
      unfolding round_of
      round_goes_on b₂ u₂ f₂ w₂ o₂ rows₂ r X M = (
        then_on (rest_of ground) (pieces_part ground p before) between a E q A _ r (X ∙ ap (λ (x : Ground). (rest_of x q between).left) same_ground),
        kept_more s vs lens pref b u f w o rows H b₁ u₁ f₁ w₁ o₁ rows₁ a K b₂ u₂ f₂ w₂ o₂ rows₂ r M,
      )
