-- What the proofs of `tries` cite, over plain values. Assumes nothing.
use mathlib.Core.Path.{◌≡◌, refl, sym, ap, ◌∙◌, subst}
use mathlib.Core.Bool.{Bool, true, false, cond, ◌||◌}
use mathlib.Core.List.{List, []}
use Prim.Native.Nat.{ℕ, ◌+◌, ◌-◌, ◌*◌, ◌/◌, ◌%◌, ◌≤◌, ◌<◌}
use native.Mathlib.Omega.{arith}
use native.Mathlib.Nat.{mul-pos, mod-eq_of_lt}
use lib.ListN.{length, take, drop}
use lib.Ieee.{Float}
use Rattle.loops.specs.Loop.{Run, on, out, turn}
use Rattle.loops.specs.Regions.{Fits, within}
use Rattle.loops.proofs.Cases.{or_left, or_right}
use Rattle.loops.proofs.LoopLaws.{Going, going_none, going_on, going_out, going_end}
use Rattle.loops.specs.Frame.{Only}
use Rattle.loops.proofs.FrameLaws.{put_only, only_same, only_more, only-before, only_wider}
use Rattle.geom.specs.Points.{points}
use Rattle.geom.specs.declared.vec2.Vec2.{Vec2}
use Rattle.geom.proofs.PointLaws.{points-length}
use Rattle.raster.specs.Log.{st, Ready}
use Rattle.setup.specs.Layout.{most, guide_from, rim_from}
use Rattle.setup.specs.Place.{allowed_at, free_at}
use Rattle.setup.specs.declared.Setup.{Setup}
use Rattle.links.specs.Path.{wall_in, Fitted}
use Rattle.links.proofs.LinkLaws.{wall-kept, fitted_kept}
use Rattle.passes.specs.Shifts.{sat_add}
use Rattle.passes.specs.Guide.{walk_of, blend_of, flat, points_in, bent_or, blend_in, laid_in, Ahead}
use Rattle.passes.specs.Start.{Place, near_of, start_of}
use Rattle.passes.specs.Attempt.{att, Outcome, oc, answer_of, Answered, ans, answered, start_by}
use Rattle.passes.specs.declared.attempt.Attempt.{Attempt}
use Rattle.passes.specs.declared.attempt.Attempt.TheVariants.{Full, Worth, Nothing}
use Rattle.passes.proofs.AttemptLaws.{Tells, answer_tells, answer-full, answer-worth, answer-nothing}
use Rattle.passes.proofs.PieceLaws.{bent_long}
use Rattle.passes.proofs.LayLaws.{flat-length, walk-length, part_half}
use Rattle.passes.proofs.StartLaws.{near-below, start-below}
use Rattle.cutting.specs.Tries.{starts_of, start_at, guide_long, guide_of, Tries, ts, tried_end, guide_at, try_at, try_step, tries_of, Among}
use Rattle.cutting.proofs.TriesKeep.{ready-same, Sound, sound_on}

-- ---- the starts

pub first-near : (w : List Float) (from m : ℕ) (closed : Bool) (pos : Place) → from + 2 * m ≤ length w → closed ≡ true → (b : ℕ)
    → let part = take (from + 2 * m - from) (drop from w) in b ≡ near_of (points 0 (length part / 2) part) pos → b ≡ cond closed (near_of (points_in from m w) pos) 0
unfolding within
first-near w from m closed pos h e b B = rw e (B ∙ ap (λ (k : ℕ). near_of (points 0 k (take (from + 2 * m - from) (drop from w))) pos) (part_half from m w h))

pub starts_few : (closed : Bool) → starts_of closed ≤ 4
unfolding starts_of
starts_few true = omega arith
starts_few false = omega arith

long-some : (m : ℕ) (closed : Bool) → (m ≤ guide_long m closed) × (guide_long m closed ≤ m + 1)
unfolding guide_long
long-some m true = (omega arith, omega arith)
long-some m false = (omega arith, omega arith)

-- an open piece starts at its first point
first_open : (m k : ℕ) → 1 ≤ m → k < 1 → start_of 0 m k ≡ 0
unfolding start_of
first_open m k h l =
    let z : k ≡ 0 = omega arith in
    ap (λ (i : ℕ). (0 + i * m / 4) % m) z ∙ ap (λ (i : ℕ). i % m) (let y : 0 + 0 * m / 4 ≡ 0 = omega arith in y) ∙ mod-eq_of_lt (let y : 0 < m = omega arith in y)

module _ (pts : List Vec2) (m : ℕ) (P : length pts ≡ m) (h : 1 ≤ m) (pos : Place) where
  near-low : (closed : Bool) (near : ℕ) → near ≡ cond closed (near_of pts pos) 0 → near < m
  near-low true near N = let l = near-below pts pos (let y : 0 < length pts = omega arith in y) in omega arith
  near-low false near N = omega arith

  start_is : (closed : Bool) (near : ℕ) → near ≡ cond closed (near_of pts pos) 0 → (k : ℕ) → k < starts_of closed → (start : ℕ) → start ≡ start_of near m k → start ≡ start_at pts closed pos k
  unfolding start_at starts_of
  start_is true near N k l start S = S ∙ ap (λ (i : ℕ). start_of i m k) N ∙ ap (λ (i : ℕ). start_of (near_of pts pos) i k) (sym P)
  start_is false near N k l start S = S ∙ ap (λ (i : ℕ). start_of i m k) N ∙ first_open m k h l

  start-round : (closed : Bool) (near : ℕ) → near ≡ cond closed (near_of pts pos) 0 → (k : ℕ) → k < starts_of closed → (start : ℕ) → start ≡ start_of near m k → start + guide_long m closed ≤ 2 * m
  unfolding guide_long starts_of
  start-round true near N k l start S = let y = start-below near m k (let y : 0 < m = omega arith in y) in omega arith
  start-round false near N k l start S = let y : start ≡ 0 = S ∙ ap (λ (i : ℕ). start_of i m k) N ∙ first_open m k h l in omega arith

-- ---- a try in the workspace

module _ (s : Setup) (vs : List Float) (lens mp : List ℕ) (w : List Float) (F : Fitted s vs lens mp w) (from m : ℕ) (A : Among (s.grid.ny * s.grid.nx) from m) where
  abbrev cells : ℕ
  cells = s.grid.ny * s.grid.nx

  some-cell : 1 ≤ cells
  some-cell = mul-pos F.over.sides.high F.over.sides.wide

  piece_few : m ≤ 2 * most
  piece_few = omega (arith, A.low, A.high, F.over.sides.cells)

  pub piece_in : from + 2 * m ≤ length w
  piece_in = omega (arith, A.high, F.long)

  pub start_asks : (closed : Bool) (pos : Place) (near : ℕ) → near ≡ cond closed (near_of (points_in from m w) pos) 0 → (k : ℕ) → k < starts_of closed → (near < m) × ((m ≤ 2 * most) × (k < 4))
  start_asks closed pos near N k h = (near-low (points_in from m w) m (points-length 0 m (within from (from + 2 * m) w)) A.some pos closed near N, (piece_few, omega (arith, starts_few closed)))

  module _ (closed : Bool) (start : ℕ) (L : start + guide_long m closed ≤ 2 * m) (long : ℕ) (G : long ≡ guide_long m closed) where
    ahead : Ahead from m start long (guide_from cells) (rim_from cells)
    ahead =
        let g = (long-some m closed).1 in
        let c = some-cell in
        let lo = A.low in
        let hi = A.high in
        record { before = hi; within = omega arith; round = omega arith }

    pub start_fits : Ahead from m start long (guide_from cells) (rim_from cells) × (1 ≤ long)
    start_fits = let g = (long-some m closed).0 in let so = A.some in (ahead, omega arith)

    abbrev trod : List Vec2
    trod = walk_of (points_in from m w) start long

    pub try_only : (w₁ : List Float) → w₁ ≡ laid_in s vs lens mp cells from m start long (guide_from cells) w → Only (guide_from cells) (23 * cells) w w₁
    try_only w₁ W =
        let at : ℕ = guide_from cells in
        let f = F.long in
        let h : Fits at (at + 2 * long) w = record { start = omega arith; end = omega (arith, ahead.within, F.long) } in
        let b : List Vec2 = bent_or trod (blend_in s vs lens mp cells from m start long w) in
        let l : length (flat b) ≡ at + 2 * long - at = omega (arith, flat-length b, bent_long s (allowed_at s (wall_in s w) vs lens) (free_at s mp) trod long (walk-length (points_in from m w) start long) (blend_in s vs lens mp cells from m start long w) refl) in
        let c = some-cell in
        let lo = A.low in
        let to = A.high in
        let g = (long-some m closed).1 in
        only_wider at (at + 2 * long) w w₁ h (subst (Only at (at + 2 * long) w) (sym W) (put_only at (at + 2 * long) w h (flat b) l)) (guide_from cells) (23 * cells) (omega arith) (omega arith) (omega arith)

    -- the guide that was tried is that of the definition
    pub try_is : (kept : ℕ) (l : List ℕ) (o : List Float) (c : Answered)
        → c ≡ answered (start_by s (allowed_at s (wall_in s w) vs lens) (blend_in s vs lens mp cells from m start long w) kept mp l o)
        → c ≡ answered (start_by s (allowed_at s (wall_in s w) vs lens) (blend_of s (allowed_at s (wall_in s w) vs lens) (free_at s mp) (guide_of (points_in from m w) closed start)) kept mp l o)
    unfolding guide_of
    try_is kept l o c d =
        let e : long ≡ guide_long (length (points_in from m w)) closed = G ∙ ap (λ (k : ℕ). guide_long k closed) (sym (points-length 0 m (within from (from + 2 * m) w))) in
        d ∙ ap (λ (k : ℕ). answered (start_by s (allowed_at s (wall_in s w) vs lens) (blend_of s (allowed_at s (wall_in s w) vs lens) (free_at s mp) (walk_of (points_in from m w) start k)) kept mp l o)) e

-- ---- the loop of `try_piece`

module _ (s : Setup) (vs : List Float) (lens m₀ l₀ : List ℕ) (w₀ o₀ : List Float) (kept from m : ℕ) (closed : Bool) (pos : Place) where
  abbrev size : ℕ
  size = s.grid.ny * s.grid.nx

  abbrev pts : List Vec2
  pts = points_in from m w₀

  abbrev may : Vec2 → Bool
  may = allowed_at s (wall_in s w₀) vs lens

  -- no try so far is worth it, and only the guide's place has changed
  pub record Trying (mp l : List ℕ) (w o : List Float) (work k : ℕ) : Type 0 where
    pub same : mp ≡ m₀
    pub only : Only (guide_from size) (23 * size) w₀ w
    pub so : Tries
    pub log : l ≡ so.outcome.log
    pub triples : o ≡ so.outcome.out
    pub told : Tells (Nothing work) so.outcome.attempt
    pub going : Going (turn (try_step s may pts closed pos kept m₀)) 0 (starts_of closed) (on (ts (oc l₀ o₀ (att false false 0 0 0)) [])) (on so) k

  -- what `try_piece` ensures
  abbrev Done : List ℕ → List ℕ → List Float → List Float → Attempt → Type 0
  Done mp l w o a = (mp ≡ m₀) × (Only (guide_from size) (23 * size) w₀ w × (ans l o a ≡ answered (tries_of s may pts closed pos kept m₀ l₀ o₀).outcome))

  module _ (F : Fitted s vs lens m₀ w₀) (R : Ready (st m₀ l₀ 0)) (A : Among size from m) where
    place : Fits (guide_from size) (23 * size) w₀
    place = record { start = omega arith; end = omega (arith, F.long) }

    pub trying_none : Trying m₀ l₀ w₀ o₀ 0 0
    trying_none = record {
      same = refl;
      only = only_same (guide_from size) (23 * size) w₀ place;
      so = ts (oc l₀ o₀ (att false false 0 0 0)) [];
      log = refl;
      triples = refl;
      told = (refl, (refl, refl));
      going = going_none _ _ _ _;
    }

    module _ (near : ℕ) (N : near ≡ cond closed (near_of pts pos) 0) where
      piece_long : length pts ≡ m
      piece_long = points-length 0 m (within from (from + 2 * m) w₀)

      module _ (mp l : List ℕ) (w o : List Float) (work k : ℕ) (T : Trying mp l w o work k) where
        wall-same : wall_in s w ≡ wall_in s w₀
        wall-same = wall-kept s vs lens m₀ w₀ F (guide_from size) (23 * size) (omega arith) (omega arith) (omega arith) w T.only

        piece_same : points_in from m w ≡ pts
        piece_same = ap (points 0 m) (only-before (guide_from size) (23 * size) w₀ place w T.only from (from + 2 * m) (omega arith) A.high)

        sound : Sound kept m₀ l₀ o₀ T.so.outcome
        sound = sound_on s may pts closed pos kept m₀ l₀ o₀ R k T.so T.going.is

        module _ (h : k < starts_of closed) (start : ℕ) (S : start ≡ start_of near m k) where
          pub try_asks : Fitted s vs lens mp w × (Ready (st mp l 0) × (Among size from m × (start + guide_long m closed ≤ 2 * m)))
          try_asks = (
            subst (λ (v : List ℕ). Fitted s vs lens v w) (sym T.same) (fitted_kept s vs lens m₀ w₀ F (guide_from size) (23 * size) (omega arith) (omega arith) (omega arith) w T.only),
            (
              subst (λ (v : List ℕ). Ready (st v l 0)) (sym T.same) (ready-same m₀ l₀ l R (ap length T.log ∙ sound.log-long)),
              (A, start-round pts m piece_long A.some pos closed near N k h start S),
            ),
          )

          -- the try of the definition, and what it leaves
          abbrev tried : Outcome
          tried = start_by s may (guide_at s may pts closed pos kept m₀ k) kept m₀ T.so.outcome.log T.so.outcome.out

          abbrev later : Tries
          later = try_at s may pts closed pos kept m₀ k T.so

          step_is : (b : Bool) → (tried.attempt.full || tried.attempt.worth) ≡ b → try_step s may pts closed pos kept m₀ k T.so ≡ cond b (out later) (on later)
          unfolding try_step try_at
          step_is b e = ap (λ (q : Bool). cond q (out later) (on later)) e

          module _ (mp' l' : List ℕ) (w' o' : List Float) (t : Attempt) (M : mp' ≡ mp) (O : Only (guide_from size) (23 * size) w w')
              (E : ans l' o' t ≡ answered (start_by s (allowed_at s (wall_in s w) vs lens) (blend_of s (allowed_at s (wall_in s w) vs lens) (free_at s mp) (guide_of (points_in from m w) closed start)) kept mp l o)) where
            tried_as : ans l' o' t ≡ answered tried
            unfolding guide_at
            tried_as =
                E ∙ ap (λ (v : List Float). answered (start_by s (allowed_at s v vs lens) (blend_of s (allowed_at s v vs lens) (free_at s mp) (guide_of (points_in from m w) closed start)) kept mp l o)) wall-same
                ∙ ap (λ (q : List Vec2). answered (start_by s may (blend_of s may (free_at s mp) (guide_of q closed start)) kept mp l o)) piece_same
                ∙ ap (λ (v : List ℕ). answered (start_by s may (blend_of s may (free_at s v) (guide_of pts closed start)) kept v l o)) T.same
                ∙ ap (λ (i : ℕ). answered (start_by s may (blend_of s may (free_at s m₀) (guide_of pts closed i)) kept m₀ l o)) (start_is pts m piece_long A.some pos closed near N k h start S)
                ∙ ap (λ (v : List ℕ). answered (start_by s may (guide_at s may pts closed pos kept m₀ k) kept m₀ v o)) T.log
                ∙ ap (λ (v : List Float). answered (start_by s may (guide_at s may pts closed pos kept m₀ k) kept m₀ T.so.outcome.log v)) T.triples

            log_is : l' ≡ later.outcome.log
            unfolding answered try_at
            log_is = ap (λ (c : Answered). c.log) tried_as

            out-is : o' ≡ later.outcome.out
            unfolding answered try_at
            out-is = ap (λ (c : Answered). c.out) tried_as

            tells : Tells t tried.attempt
            unfolding answered
            tells = answer_tells t tried.attempt (ap (λ (c : Answered). c.answer) tried_as)

            only_so : Only (guide_from size) (23 * size) w₀ w'
            only_so = only_more (guide_from size) (23 * size) w₀ place w T.only w' O

            -- the answer is the definition's where the tries end here
            done : (a : Attempt) → a ≡ answer_of later.outcome.attempt → (tried.attempt.full || tried.attempt.worth) ≡ true → Done mp' l' w' o' a
            unfolding tries_of tried_end answered
            done a e b = (
              M ∙ T.same,
              (
                only_so,
                (λ i. ans (log_is i) (out-is i) (e i))
                    ∙ ap (λ (r : Run Tries Tries). answered (tried_end r).outcome) (sym (going_out (try_step s may pts closed pos kept m₀) 0 (starts_of closed) _ _ k later T.going h (step_is true b))),
              ),
            )

            pub done_full : t ≡ Full → Done mp' l' w' o' Full
            unfolding try_at
            done_full e =
                let f : Tells Full tried.attempt = subst (λ (x : Attempt). Tells x tried.attempt) e tells in
                done Full (answer-full later.outcome.attempt f) (or_left _ _ f)

            pub done-worth : (n removed more : ℕ) → t ≡ Worth n removed more → (spent : ℕ) → spent ≡ sat_add work more → Done mp' l' w' o' (Worth n removed spent)
            unfolding try_at
            done-worth n removed more e spent W =
                let f : Tells (Worth n removed more) tried.attempt = subst (λ (x : Attempt). Tells x tried.attempt) e tells in
                let all : spent ≡ later.outcome.attempt.work = W ∙ (λ i. sat_add (T.told.1.1 i) (f.1.1.1.1 i)) in
                done (Worth n removed spent) ((λ i. Worth (f.1.1.0 i) (f.1.1.1.0 i) (all i)) ∙ answer-worth later.outcome.attempt f.0 f.1.0) (or_right tried.attempt.full _ f.1.0)

            pub trying_more : (more : ℕ) → t ≡ Nothing more → (spent : ℕ) → spent ≡ sat_add work more → Trying mp' l' w' o' spent (k + 1)
            unfolding try_at
            trying_more more e spent W =
                let f : Tells (Nothing more) tried.attempt = subst (λ (x : Attempt). Tells x tried.attempt) e tells in
                record {
                  same = M ∙ T.same;
                  only = only_so;
                  so = later;
                  log = log_is;
                  triples = out-is;
                  told = (f.0, (f.1.0, W ∙ (λ i. sat_add (T.told.1.1 i) (f.1.1 i))));
                  going = going_on (try_step s may pts closed pos kept m₀) 0 (starts_of closed) _ _ later k T.going h (sym (step_is false (ap (λ (b : Bool). b || tried.attempt.worth) f.0 ∙ f.1.0)));
                }

        pub done-last : starts_of closed ≤ k → Done mp l w o (Nothing work)
        unfolding tries_of tried_end answered
        done-last h = (
          T.same,
          (
            T.only,
            (λ i. ans (T.log i) (T.triples i) (Nothing (T.told.1.1 i)))
                ∙ ap (ans T.so.outcome.log T.so.outcome.out) (answer-nothing T.so.outcome.attempt T.told.0 T.told.1.0)
                ∙ ap (λ (r : Run Tries Tries). answered (tried_end r).outcome) (going_end _ _ _ _ _ _ T.going h),
          ),
        )

-- the invariant: `pos` is not read in the loop, so it is any place that `near` comes from
pub record Round (s : Setup) (vs : List Float) (lens m₀ l₀ : List ℕ) (w₀ o₀ : List Float) (kept from m : ℕ) (closed : Bool) (near : ℕ) (mp l : List ℕ) (w o : List Float) (work k : ℕ) : Type 0 where
  pub map-long : length mp ≡ length m₀
  pub log-long : length l ≡ length l₀
  pub long : length w ≡ length w₀
  pub out-long : length o ≡ length o₀
  pub trying : (pos : Place) → near ≡ cond closed (near_of (points_in from m w₀) pos) 0 → Trying s vs lens m₀ l₀ w₀ o₀ kept from m closed pos mp l w o work k
