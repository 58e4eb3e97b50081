-- What the proof of `cut_piece` cites, over plain values: what the tries ask and leave, and each of its ends. Assumes nothing.
use mathlib.Core.Path.{◌≡◌, refl, sym, ap, ◌∙◌, subst}
use mathlib.Core.Bool.{Bool, true, false}
use mathlib.Core.List.{List}
use Prim.Native.Nat.{ℕ, ◌+◌, ◌-◌, ◌*◌, ◌≤◌}
use native.Mathlib.Omega.{arith}
use lib.ListN.{length, take, drop}
use lib.Ieee.{Float}
use borrow.Rule.Slice.PartMut.{put_mid, put_same}
use Rattle.loops.specs.Regions.{Fits, within}
use Rattle.loops.specs.Frame.{Only}
use Rattle.loops.proofs.FrameLaws.{back_there, back-only, only_more, only-before, only-after, only-rest, only_wider}
use Rattle.geom.specs.declared.vec2.Vec2.{Vec2}
use Rattle.raster.specs.Log.{st, Ready, Logged}
use Rattle.raster.proofs.RunLaws.{ready_for}
use Rattle.setup.specs.Layout.{run, guide_from, segments_from, log_from}
use Rattle.setup.specs.Place.{allowed_at}
use Rattle.setup.specs.declared.Setup.{Setup}
use Rattle.setup.proofs.PartLaws.{part_is, run_long}
use Rattle.links.specs.Path.{wall_in, Fitted}
use Rattle.links.proofs.LinkLaws.{wall-kept, fitted_kept}
use Rattle.events.specs.Events.{Event}
use Rattle.passes.specs.Guide.{points_in}
use Rattle.passes.specs.Attempt.{Outcome, Answered, ans, answered}
use Rattle.passes.specs.declared.attempt.Attempt.{Attempt}
use Rattle.passes.specs.declared.attempt.Attempt.TheVariants.{Full as Unlisted, Worth, Nothing as Unworthy}
use Rattle.passes.proofs.AttemptLaws.{Tells, answer_tells}
use Rattle.cutting.specs.Tries.{Tries, ts, tries_of, Among}
use Rattle.cutting.specs.Piece.{spending, Left, lf, went_of, worthy_of, after_tries, cut_piece_of, Lends, Listed, Settled, Behind}
use Rattle.cutting.specs.declared.piece.State.{State}
use Rattle.std.specs.Prelude.{Result, Ok, Err}
use Rattle.cutting.specs.declared.listing.Full.TheVariants.{Triples}
use Rattle.cutting.specs.declared.listing.Full.{Full}
use Rattle.cutting.specs.declared.piece.Cut.{Cut}
use Rattle.cutting.specs.declared.piece.Cut.TheVariants.{Nothing}
use Rattle.cutting.proofs.SettleLaws.{settled_not}
use Rattle.cutting.proofs.TriesKeep.{tries_log_long, tries_long, tries_logged, tries_room}

-- ---- the u32 behind what was written

module _ (n : ℕ) (u : List ℕ) (h : 32 * n + 8192 ≤ length u) (v : List ℕ) (o : Only (24 * n) (24 * n + n) u v) where
  log-fits : Fits (24 * n) (24 * n + n) u
  log-fits = record { start = omega arith; end = omega arith }

  behind_log : Behind n u v
  behind_log = record {
    long = o.long;
    pieces = only-before (24 * n) (24 * n + n) u log-fits v o (segments_from n) (log_from n) (omega arith) (omega arith);
    rest = only-rest (24 * n) (24 * n + n) u v log-fits o (log_from n + n) (omega arith);
  }

  behind_search : (x : List ℕ) → Only 0 (15 * n) v x → Behind n u x
  behind_search x p =
      let f : Fits 0 (15 * n) v = record { start = omega arith; end = omega (arith, o.long) } in
      record {
        long = p.long ∙ o.long;
        pieces = only-after 0 (15 * n) v f x p (segments_from n) (log_from n) (omega arith) ∙ behind_log.pieces;
        rest = only-rest 0 (15 * n) v x f p (log_from n + n) (omega arith) ∙ behind_log.rest;
      }

-- ---- the answer, by what the tries found

module _ (s : Setup) (wall vs : List Float) (lens allowed : List ℕ) (pts : List Vec2) (closed : Bool) (t : State) (m d rows : List ℕ) (c : Outcome) (es : List Event) where
  abbrev after : Left
  after = (after_tries s wall vs lens allowed pts closed t m d rows (ts c es)).left

  after-full : c.attempt.full ≡ true → lf m d c.log rows c.out (Err Triples) ≡ after
  unfolding after_tries
  after-full f = rw f refl

  after_none : c.attempt.full ≡ false → c.attempt.worth ≡ false → lf m d c.log rows c.out (Ok (Nothing (spending c.attempt.work t))) ≡ after
  unfolding after_tries
  after_none f g = rw (f, g) refl

  after_worthy : c.attempt.full ≡ false → c.attempt.worth ≡ true
      → (went_of s wall vs lens allowed (spending c.attempt.work t) c.attempt.removed c.attempt.points m d c.log rows c.out).left ≡ after
  unfolding after_tries worthy_of
  after_worthy f g = rw (f, g) refl

-- ---- the function

module _ (s : Setup) (t : State) (vs : List Float) (lens b u : List ℕ) (w o : List Float) (rows : List ℕ) (from m : ℕ) (closed : Bool) where
  abbrev size : ℕ
  size = s.grid.ny * s.grid.nx

  abbrev lent_map : List ℕ
  lent_map = take (size - 0) (drop 0 b)

  abbrev may : Vec2 → Bool
  may = allowed_at s (wall_in s w) vs lens

  abbrev tries : Tries
  tries = tries_of s may (points_in from m w) closed t.pos t.triples (run 0 size b) (run 24 size u) o

  -- what `cut_piece` ensures
  abbrev Done : List ℕ → List ℕ → List Float → List Float → List ℕ → Result Cut Full → Type 0
  Done b' u' w' o' rows' r =
      (lf (run 0 size b') (run 4 size b') (run 24 size u') rows' o' r
      ≡ (cut_piece_of s (wall_in s w) vs lens (run 1 size b) (points_in from m w) closed t (run 0 size b) (run 4 size b) rows (run 24 size u) o).left)
      × (Settled size b b' × (Behind size u u' × Only (5 * size) (23 * size) w w'))

  module _ (F : Fitted s vs lens (run 0 size b) w) (L : Lends size b u) (A : Among size from m) (K : Listed rows o t 0) (log : ℕ) (G : log ≡ log_from size) where
    abbrev lent_log : List ℕ
    lent_log = take (log + size - log) (drop log u)

    map_is : lent_map ≡ run 0 size b
    map_is = part_is 0 size 0 size b (omega arith) (omega arith)

    log_is : lent_log ≡ run 24 size u
    log_is = part_is 24 size log (log + size) u G refl

    map-long : length (run 0 size b) ≡ size
    map-long = run_long 0 size b (omega (arith, L.bytes))

    log-long : length (run 24 size u) ≡ size
    log-long = run_long 24 size u (omega (arith, L.words))

    ready : Ready (st (run 0 size b) (run 24 size u) 0)
    ready = ready_for (run 0 size b) (run 24 size u) (omega (arith, map-long, log-long)) (omega (arith, map-long, F.over.sides.cells))

    -- what the tries ask
    pub try_asks : Fitted s vs lens lent_map w × (Ready (st lent_map lent_log 0) × Among size from m)
    try_asks = (
      subst (λ (x : List ℕ). Fitted s vs lens x w) (sym map_is) F,
      (subst (λ (x : List ℕ). Ready (st x lent_log 0)) (sym map_is) (subst (λ (x : List ℕ). Ready (st (run 0 size b) x 0)) (sym log_is) ready), A),
    )

    place : Fits (5 * size) (23 * size) w
    place = record { start = omega arith; end = omega (arith, F.long) }

    log-place : Fits log (log + size) u
    log-place = record { start = omega arith; end = omega (arith, L.words) }

    module _ (mp l : List ℕ) (w₁ o₁ : List Float) (a : Attempt) (M : mp ≡ lent_map) (W : Only (guide_from size) (23 * size) w w₁)
        (E : ans l o₁ a ≡ answered (tries_of s may (points_in from m w) closed t.pos t.triples lent_map lent_log o).outcome) where
      abbrev c : Outcome
      c = tries.outcome

      abbrev b₁ : List ℕ
      b₁ = put_mid 0 (size - 0) b mp

      abbrev u₁ : List ℕ
      u₁ = put_mid log (log + size - log) u l

      -- the map comes back as it was
      b_same : b₁ ≡ b
      b_same = ap (put_mid 0 (size - 0) b) M ∙ put_same 0 (size - 0) b

      is-tried : ans l o₁ a ≡ answered c
      is-tried =
          E ∙ ap (λ (x : List ℕ). answered (tries_of s may (points_in from m w) closed t.pos t.triples x lent_log o).outcome) map_is
          ∙ ap (λ (x : List ℕ). answered (tries_of s may (points_in from m w) closed t.pos t.triples (run 0 size b) x o).outcome) log_is

      log-tried : l ≡ c.log
      unfolding answered
      log-tried = ap (λ (x : Answered). x.log) is-tried

      out-tried : o₁ ≡ c.out
      unfolding answered
      out-tried = ap (λ (x : Answered). x.out) is-tried

      tells : (x : Attempt) → a ≡ x → Tells x c.attempt
      unfolding answered
      tells x e = answer_tells x c.attempt (sym e ∙ ap (λ (y : Answered). y.answer) is-tried)

      l_long : length l ≡ length lent_log
      l_long = ap length log-tried ∙ tries_log_long s may (points_in from m w) closed t.pos t.triples (run 0 size b) (run 24 size u) o ready ∙ ap length (sym log_is)

      o_long : length o₁ ≡ length o
      o_long = ap length out-tried ∙ tries_long s may (points_in from m w) closed t.pos t.triples (run 0 size b) (run 24 size u) o ready

      log-only : Only (24 * size) (24 * size + size) u u₁
      log-only = subst (λ (z : ℕ). Only z (z + size) u u₁) G (back-only log (log + size) u log-place l l_long)

      log_there : run 24 size u₁ ≡ l
      log_there = ap (λ (z : ℕ). within z (z + size) u₁) (sym G) ∙ back_there log (log + size) u log-place l l_long

      log-left : run 24 size u₁ ≡ c.log
      log-left = log_there ∙ log-tried

      left-same : (r : Result Cut Full) → lf (run 0 size b₁) (run 4 size b₁) (run 24 size u₁) rows o₁ r ≡ lf (run 0 size b) (run 4 size b) c.log rows c.out r
      left-same r = λ i. lf (run 0 size (b_same i)) (run 4 size (b_same i)) (log-left i) rows (out-tried i) r

      frames : Settled size b b₁ × (Behind size u u₁ × Only (5 * size) (23 * size) w w₁)
      frames = (subst (Settled size b) (sym b_same) (settled_not size b L.bytes), (behind_log size u L.words u₁ log-only, W))

      is_cut : (after_tries s (wall_in s w) vs lens (run 1 size b) (points_in from m w) closed t (run 0 size b) (run 4 size b) rows tries).left
          ≡ (cut_piece_of s (wall_in s w) vs lens (run 1 size b) (points_in from m w) closed t (run 0 size b) (run 4 size b) rows (run 24 size u) o).left
      unfolding cut_piece_of
      is_cut = refl

      pub cut-refused : a ≡ Unlisted → Done b₁ u₁ w₁ o₁ rows (Err Triples)
      cut-refused e = (left-same (Err Triples) ∙ after-full _ _ _ _ _ _ _ _ _ _ _ c tries.events (tells Unlisted e) ∙ is_cut, frames)

      pub cut-nothing : (work : ℕ) → a ≡ Unworthy work → (done : State) → done ≡ spending work t → Done b₁ u₁ w₁ o₁ rows (Ok (Nothing done))
      cut-nothing work e done D =
          let f = tells (Unworthy work) e in (
            left-same (Ok (Nothing done))
                ∙ ap (λ (z : State). lf (run 0 size b) (run 4 size b) c.log rows c.out (Ok (Nothing z))) (D ∙ ap (λ (k : ℕ). spending k t) f.1.1)
                ∙ after_none _ _ _ _ _ _ _ _ _ _ _ c tries.events f.0 f.1.0
                ∙ is_cut,
            frames,
          )

      -- a pass of n points that is worth it
      module _ (n removed work : ℕ) (e : a ≡ Worth n removed work) (done : State) (D : done ≡ spending work t) where
        told : Tells (Worth n removed work) c.attempt
        told = tells (Worth n removed work) e

        spent : done ≡ spending c.attempt.work t
        spent = D ∙ ap (λ (k : ℕ). spending k t) told.1.1.1.1

        wall-same : wall_in s w₁ ≡ wall_in s w
        wall-same = wall-kept s vs lens (run 0 size b) w F (5 * size) (23 * size) (omega arith) (omega arith) (omega arith) w₁ W

        logged : Logged c.log removed size
        logged = subst (λ (k : ℕ). Logged c.log k size) (sym told.1.1.1.0)
            (subst (Logged c.log c.attempt.removed) map-long (tries_logged s may (points_in from m w) closed t.pos t.triples (run 0 size b) (run 24 size u) o ready))

        room : ((t.triples + n) * 3 ≤ length o) × (2 ≤ n)
        room = subst (λ (k : ℕ). ((t.triples + k) * 3 ≤ length o) × (2 ≤ k)) (sym told.1.1.0)
            (tries_room s may (points_in from m w) closed t.pos t.triples (run 0 size b) (run 24 size u) o ready told.0 told.1.0)

        -- what going there and keeping the pass asks
        pub go_asks : Fitted s vs lens (run 0 size b₁) w₁ × (Lends size b₁ u₁ × (Logged (run 24 size u₁) removed size × (Listed rows o₁ done n × (1 ≤ n))))
        go_asks = (
          subst (λ (x : List ℕ). Fitted s vs lens (run 0 size x) w₁) (sym b_same) (fitted_kept s vs lens (run 0 size b) w F (5 * size) (23 * size) (omega arith) (omega arith) (omega arith) w₁ W),
          (
            record { bytes = omega (arith, L.bytes, ap length b_same); words = omega (arith, L.words, log-only.long) },
            (
              subst (λ (x : List ℕ). Logged x removed size) (sym log-left) logged,
              (
                subst (λ (z : State). Listed rows o₁ z n) (sym D) (record {
                  countable = record { few-rows = K.countable.few-rows; few-triples = omega (arith, K.countable.few-triples, o_long) };
                  fit_rows = K.fit_rows;
                  fit_triples = omega (arith, room.0, o_long);
                }),
                omega (arith, room.1),
              ),
            ),
          ),
        )

        pub cut-kept : (b₂ u₂ : List ℕ) (w₂ o₂ : List Float) (rows₂ : List ℕ) (r : Result Cut Full)
            → lf (run 0 size b₂) (run 4 size b₂) (run 24 size u₂) rows₂ o₂ r ≡ (went_of s (wall_in s w₁) vs lens (run 1 size b₁) done removed n (run 0 size b₁) (run 4 size b₁) (run 24 size u₁) rows o₁).left
            → Settled size b₁ b₂ → Only 0 (15 * size) u₁ u₂ → Only (10 * size) (23 * size) w₁ w₂ → Done b₂ u₂ w₂ o₂ rows₂ r
        cut-kept b₂ u₂ w₂ o₂ rows₂ r G S U X = (
          G
              ∙ (λ i. (went_of s (wall-same i) vs lens (run 1 size (b_same i)) (spent i) (told.1.1.1.0 i) (told.1.1.0 i) (run 0 size (b_same i)) (run 4 size (b_same i)) (log-left i) rows (out-tried i)).left)
              ∙ after_worthy _ _ _ _ _ _ _ _ _ _ _ c tries.events told.0 told.1.0
              ∙ is_cut,
          (
            subst (λ (x : List ℕ). Settled size x b₂) b_same S,
            (
              behind_search size u L.words u₁ log-only u₂ U,
              only_more (5 * size) (23 * size) w place w₁ W w₂
                  (only_wider (10 * size) (23 * size) w₁ w₂ (record { start = omega arith; end = omega (arith, F.long, W.long) }) X (5 * size) (23 * size) (omega arith) (omega arith) (omega (arith, F.long, W.long))),
            ),
          ),
        )
