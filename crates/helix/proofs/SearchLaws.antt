-- For the proofs of `search`: a place tried, and the places one after another. Assumes nothing.
use mathlib.Core.Path.{◌≡◌, sym, ap, ◌∙◌, subst}
use mathlib.Core.List.{List, [], ◌∷◌, ◌++◌}
use Prim.Native.Nat.{ℕ, ◌+◌, ◌*◌, ◌/◌, ◌%◌, ◌≤◌, ◌<◌}
use native.Mathlib.Omega.{arith}
use lib.ListN.{length}
use lib.Ieee.{Float}
use Rattle.std.specs.Prelude.{Option, Some, None}
use Rattle.loops.specs.Loop.{Run, on, out, turn}
use Rattle.loops.specs.Regions.{Fits}
use Rattle.loops.specs.Frame.{Only}
use Rattle.loops.proofs.LoopLaws.{Going, going_none, going_end, going_out, going_on, loop_keeps}
use Rattle.loops.proofs.FrameLaws.{only_same, only_more, only-before, put_only}
use Rattle.geom.specs.declared.vec2.Vec2.{Vec2}
use Rattle.raster.specs.Grid.{center_of}
use Rattle.setup.specs.Layout.{run, map_in, allowed_in}
use Rattle.setup.specs.Place.{cells_of}
use Rattle.setup.specs.declared.Setup.{Setup}
use Rattle.setup.proofs.LayoutLaws.{run-put}
use Rattle.setup.proofs.PartLaws.{run_long, run-same}
use Rattle.workspace.specs.Standing.{reach_in, abandoned_in, abandoned_put}
use Rattle.events.specs.Events.{Event, given_up}
use Rattle.flood.specs.Place.{farthest_of}
use Rattle.flood.specs.Flood.{flood_of}
use Rattle.flood.specs.declared.place.Far.{Far}
use Rattle.flood.proofs.FloodLaws.{flood_long}
use Rattle.helix.specs.Search.{Found, widest_of, far_of, spot_of, place_of, flood_at, abandon_of, radius_at, radius_by, Seeking, Sought, sk, so, sought_end, fitting, attempt_at, attempt_of, gone_by, step_by, seek_step, seek_of}
use Rattle.helix.specs.declared.search.Attempt.{Attempt}
use Rattle.helix.specs.declared.search.Attempt.TheVariants.{Fits as Fitted, GivenUp, Nothing as NoPlace}

-- ---- lengths

module _ (s : Setup) (wall : List Float) (allowed reach : List ℕ) (pref : Float) (n : ℕ) (m : List ℕ) where
  flood_at-long : (far : Option Far) (gone : List ℕ) → length gone ≡ n → length (flood_at s wall allowed reach pref far m gone) ≡ n
  unfolding flood_at
  flood_at-long None gone h = h
  flood_at-long (Some f) gone h = flood_long s.grid m reach n f.cell.0 gone h

  pub abandon-long : (gone : List ℕ) → length gone ≡ n → length (abandon_of s wall allowed reach pref m gone) ≡ n
  unfolding abandon_of
  abandon-long gone h = flood_at-long (far_of s wall allowed reach pref m gone) gone h

module _ (s : Setup) (wall vs : List Float) (lens allowed reach : List ℕ) (pref : Float) (n : ℕ) (m : List ℕ) where
  abbrev SeekLong : Run Seeking Sought → Type 0
  SeekLong (on t) = length t.gone ≡ n
  SeekLong (out q) = length q.gone ≡ n

  step_by-long : (a : Attempt) (i : ℕ) (t : Seeking) → length t.gone ≡ n → SeekLong (step_by s wall vs lens allowed reach pref m a i t)
  unfolding step_by
  step_by-long NoPlace i t h = h
  step_by-long (Fitted c rad) i t h = h
  step_by-long (GivenUp c) i t h = abandon-long s wall allowed reach pref n m t.gone h

  step-long : (i : ℕ) (r : Run Seeking Sought) → SeekLong r → SeekLong (turn (seek_step s wall vs lens allowed reach pref m) i r)
  unfolding turn seek_step
  step-long i (on t) h = step_by-long (attempt_of s wall vs lens allowed reach pref m t.gone) i t h
  step-long i (out q) h = h

  end-long : (r : Run Seeking Sought) → SeekLong r → length (sought_end r).gone ≡ n
  unfolding sought_end
  end-long (on t) h = h
  end-long (out q) h = h

  pub seek_long : (gone : List ℕ) → length gone ≡ n → length (seek_of s wall vs lens allowed reach pref m gone).gone ≡ n
  unfolding seek_of
  seek_long gone h = end-long _ (loop_keeps (turn (seek_step s wall vs lens allowed reach pref m)) 0 SeekLong 64 (λ i r a b l. step-long i r l) (on (sk gone [])) h)

-- ---- a place tried, in the bytes b

module _ (s : Setup) (wall vs : List Float) (lens : List ℕ) (pref : Float) (b : List ℕ) (h : 8 * cells_of s ≤ length b) (far : Option Far)
    (F : far ≡ farthest_of (map_in (cells_of s) b) (allowed_in (cells_of s) b) (reach_in (cells_of s) b) (abandoned_in (cells_of s) b) wall (cells_of s)) where
  abbrev n : ℕ
  n = cells_of s

  abbrev tried : Attempt
  tried = attempt_of s wall vs lens (allowed_in n b) (reach_in n b) pref (map_in n b) (abandoned_in n b)

  abbrev left : Attempt → List ℕ
  left a = abandoned_put n (gone_by s wall vs lens (allowed_in n b) (reach_in n b) pref a (map_in n b) (abandoned_in n b)) b

  tried_by : tried ≡ attempt_at s wall vs lens (allowed_in n b) (reach_in n b) pref (spot_of s wall (allowed_in n b) (reach_in n b) pref far)
  unfolding attempt_of place_of
  tried_by = ap (λ (x : Option Far). attempt_at s wall vs lens (allowed_in n b) (reach_in n b) pref (spot_of s wall (allowed_in n b) (reach_in n b) pref x)) (sym F)

  pub no_place : far ≡ None → (NoPlace ≡ tried) × (b ≡ left NoPlace)
  unfolding attempt_at spot_of gone_by
  no_place e = (sym (tried_by ∙ ap (λ (x : Option Far). attempt_at s wall vs lens (allowed_in n b) (reach_in n b) pref (spot_of s wall (allowed_in n b) (reach_in n b) pref x)) e), sym (run-same 3 n b (omega arith)))

  module _ (f : Far) (C : far ≡ Some f) (i j : ℕ) (I : i ≡ f.cell.0 % s.grid.nx) (J : j ≡ f.cell.0 / s.grid.nx) (p : Vec2) (P : p ≡ center_of s.grid i j)
      (w : Float) (W : w ≡ widest_of s pref f.distance) (r : Option Float) (R : radius_by r ≡ radius_at s wall vs lens p w) where
    centre : p ≡ center_of s.grid (f.cell.0 % s.grid.nx) (f.cell.0 / s.grid.nx)
    centre = P ∙ ap (λ (x : ℕ). center_of s.grid x j) I ∙ ap (center_of s.grid (f.cell.0 % s.grid.nx)) J

    fitted_is : tried ≡ fitting p (radius_by r)
    unfolding attempt_at spot_of
    fitted_is =
        tried_by ∙ ap (λ (x : Option Far). attempt_at s wall vs lens (allowed_in n b) (reach_in n b) pref (spot_of s wall (allowed_in n b) (reach_in n b) pref x)) C
        ∙ ap (λ (x : Vec2). fitting x (radius_at s wall vs lens x (widest_of s pref f.distance))) (sym centre)
        ∙ ap (λ (x : Float). fitting p (radius_at s wall vs lens p x)) (sym W)
        ∙ ap (fitting p) (sym R)

    pub place-fits : (rad : Float) → r ≡ Some rad → (Fitted p rad ≡ tried) × (b ≡ left (Fitted p rad))
    unfolding fitting gone_by
    place-fits rad e = (sym (fitted_is ∙ ap (λ (x : Option Float). fitting p (radius_by x)) e), sym (run-same 3 n b (omega arith)))

    pub place-gone : r ≡ None → (b' : List ℕ) → b' ≡ abandoned_put n (flood_of s.grid (map_in n b) (reach_in n b) f.cell.0 (abandoned_in n b)) b → (GivenUp p ≡ tried) × (b' ≡ left (GivenUp p))
    unfolding fitting gone_by abandon_of flood_at
    place-gone e b' B = (
      sym (fitted_is ∙ ap (λ (x : Option Float). fitting p (radius_by x)) e),
      B ∙ ap (λ (x : Option Far). abandoned_put n (flood_at s wall (allowed_in n b) (reach_in n b) pref x (map_in n b) (abandoned_in n b)) b) (sym C ∙ F),
    )

-- ---- place after place: k were given up, and the bytes b₀ have become b

pub record Tried (s : Setup) (wall vs : List Float) (lens : List ℕ) (pref : Float) (b₀ b : List ℕ) (k : ℕ) : Type 0 where
  pub events : List Event
  pub going : Going (turn (seek_step s wall vs lens (allowed_in (cells_of s) b₀) (reach_in (cells_of s) b₀) pref (map_in (cells_of s) b₀))) 0 64 (on (sk (abandoned_in (cells_of s) b₀) [])) (on (sk (abandoned_in (cells_of s) b) events)) k
  pub only : Only (3 * cells_of s) (3 * cells_of s + cells_of s) b₀ b

module _ (s : Setup) (wall vs : List Float) (lens : List ℕ) (pref : Float) (b₀ : List ℕ) (h : 8 * cells_of s ≤ length b₀) where
  abbrev total : ℕ
  total = cells_of s

  abbrev sought : Sought
  sought = seek_of s wall vs lens (allowed_in total b₀) (reach_in total b₀) pref (map_in total b₀) (abandoned_in total b₀)

  fits : Fits (3 * total) (3 * total + total) b₀
  fits = record { start = omega arith; end = omega arith }

  pub tried-none : Tried s wall vs lens pref b₀ b₀ 0
  tried-none = record { events = []; going = going_none _ 0 64 _; only = only_same _ _ b₀ fits }

  module _ (b : List ℕ) (k : ℕ) (T : Tried s wall vs lens pref b₀ b k) where
    pub tried-long : length b ≡ length b₀
    tried-long = T.only.long

    -- what the search does not write
    same : (a : ℕ) → a * total + total ≤ 3 * total → run a total b ≡ run a total b₀
    same a l = only-before _ _ b₀ fits b T.only _ _ (omega arith) l

    module _ (a : Attempt) (A : a ≡ attempt_of s wall vs lens (allowed_in total b) (reach_in total b) pref (map_in total b) (abandoned_in total b)) where
      step_is : seek_step s wall vs lens (allowed_in total b₀) (reach_in total b₀) pref (map_in total b₀) k (sk (abandoned_in total b) T.events)
          ≡ step_by s wall vs lens (allowed_in total b₀) (reach_in total b₀) pref (map_in total b₀) a k (sk (abandoned_in total b) T.events)
      unfolding seek_step
      step_is =
          ap (λ (x : Attempt). step_by s wall vs lens (allowed_in total b₀) (reach_in total b₀) pref (map_in total b₀) x k (sk (abandoned_in total b) T.events))
          (ap (λ (x : List ℕ). attempt_of s wall vs lens x (reach_in total b₀) pref (map_in total b₀) (abandoned_in total b)) (sym (same 1 (omega arith)))
          ∙ ap (λ (x : List ℕ). attempt_of s wall vs lens (allowed_in total b) x pref (map_in total b₀) (abandoned_in total b)) (sym (same 2 (omega arith)))
          ∙ ap (λ (x : List ℕ). attempt_of s wall vs lens (allowed_in total b) (reach_in total b) pref x (abandoned_in total b)) (sym (same 0 (omega arith)))
          ∙ sym A)

      ended : k < 64 → (f : Found) → step_by s wall vs lens (allowed_in total b₀) (reach_in total b₀) pref (map_in total b₀) a k (sk (abandoned_in total b) T.events) ≡ out (so (abandoned_in total b) T.events f)
          → so (abandoned_in total b) T.events f ≡ sought
      unfolding seek_of sought_end
      ended l f e = sym (ap sought_end (going_out _ 0 64 _ _ k _ T.going l (step_is ∙ e)))

      module _ (b' : List ℕ) (B : b' ≡ abandoned_put total (gone_by s wall vs lens (allowed_in total b) (reach_in total b) pref a (map_in total b) (abandoned_in total b)) b) where
        left_alone : gone_by s wall vs lens (allowed_in total b) (reach_in total b) pref a (map_in total b) (abandoned_in total b) ≡ abandoned_in total b → b' ≡ b
        left_alone e = B ∙ ap (λ (x : List ℕ). abandoned_put total x b) e ∙ run-same 3 total b (omega (arith, tried-long))

        finish : k < 64 → (f : Found) → step_by s wall vs lens (allowed_in total b₀) (reach_in total b₀) pref (map_in total b₀) a k (sk (abandoned_in total b) T.events) ≡ out (so (abandoned_in total b) T.events f)
            → gone_by s wall vs lens (allowed_in total b) (reach_in total b) pref a (map_in total b) (abandoned_in total b) ≡ abandoned_in total b → (f ≡ sought.found) × (b' ≡ abandoned_put total sought.gone b₀)
        finish l f e g = let x = ended l f e in (
          ap (λ (q : Sought). q.found) x,
          left_alone g ∙ T.only.rest ∙ ap (λ (q : Sought). abandoned_put total q.gone b₀) x,
        )

        pub found_none : k < 64 → a ≡ NoPlace → ((None, k) ≡ sought.found) × (b' ≡ abandoned_put total sought.gone b₀)
        unfolding step_by gone_by
        found_none l e = finish l (None, k)
            (ap (λ (x : Attempt). step_by s wall vs lens (allowed_in total b₀) (reach_in total b₀) pref (map_in total b₀) x k (sk (abandoned_in total b) T.events)) e)
            (ap (λ (x : Attempt). gone_by s wall vs lens (allowed_in total b) (reach_in total b) pref x (map_in total b) (abandoned_in total b)) e)

        pub found-one : k < 64 → (c : Vec2) (rad : Float) → a ≡ Fitted c rad → ((Some (c, rad), k) ≡ sought.found) × (b' ≡ abandoned_put total sought.gone b₀)
        unfolding step_by gone_by
        found-one l c rad e = finish l (Some (c, rad), k)
            (ap (λ (x : Attempt). step_by s wall vs lens (allowed_in total b₀) (reach_in total b₀) pref (map_in total b₀) x k (sk (abandoned_in total b) T.events)) e)
            (ap (λ (x : Attempt). gone_by s wall vs lens (allowed_in total b) (reach_in total b) pref x (map_in total b) (abandoned_in total b)) e)

        pub tried_more : k < 64 → (c : Vec2) → a ≡ GivenUp c → Tried s wall vs lens pref b₀ b' (k + 1)
        unfolding step_by gone_by
        tried_more l c e =
            let new : List ℕ = abandon_of s wall (allowed_in total b) (reach_in total b) pref (map_in total b) (abandoned_in total b) in
            let long : length new ≡ total = abandon-long s wall (allowed_in total b) (reach_in total b) pref total (map_in total b) (abandoned_in total b) (run_long 3 total b (omega (arith, tried-long))) in
            let is : b' ≡ abandoned_put total new b = B ∙ ap (λ (x : Attempt). abandoned_put total (gone_by s wall vs lens (allowed_in total b) (reach_in total b) pref x (map_in total b) (abandoned_in total b)) b) e in
            let there : abandoned_in total b' ≡ new = ap (abandoned_in total) is ∙ run-put total b new long 3 (omega (arith, tried-long)) in
            record {
              events = T.events ++ (given_up c ∷ []);
              going = going_on _ 0 64 _ _ _ k T.going l
                  (ap (λ (x : List ℕ). on (sk x (T.events ++ (given_up c ∷ [])))) (there
                  ∙ ap (λ (x : List ℕ). abandon_of s wall x (reach_in total b) pref (map_in total b) (abandoned_in total b)) (same 1 (omega arith))
                  ∙ ap (λ (x : List ℕ). abandon_of s wall (allowed_in total b₀) x pref (map_in total b) (abandoned_in total b)) (same 2 (omega arith))
                  ∙ ap (λ (x : List ℕ). abandon_of s wall (allowed_in total b₀) (reach_in total b₀) pref x (abandoned_in total b)) (same 0 (omega arith)))
                  ∙ sym (step_is ∙ ap (λ (x : Attempt). step_by s wall vs lens (allowed_in total b₀) (reach_in total b₀) pref (map_in total b₀) x k (sk (abandoned_in total b) T.events)) e));
              only = only_more _ _ b₀ fits b T.only b'
                  (subst (Only (3 * total) (3 * total + total) b) (sym is) (put_only _ _ b (record { start = omega arith; end = omega (arith, tried-long) }) new (omega (arith, long))));
            }

    pub found-end : 64 ≤ k → ((None, 64) ≡ sought.found) × (b ≡ abandoned_put total sought.gone b₀)
    unfolding seek_of sought_end
    found-end l =
        let x : so (abandoned_in total b) T.events (None, 64) ≡ sought = ap sought_end (going_end _ 0 64 _ _ k T.going l) in
        (ap (λ (q : Sought). q.found) x, T.only.rest ∙ ap (λ (q : Sought). abandoned_put total q.gone b₀) x)
