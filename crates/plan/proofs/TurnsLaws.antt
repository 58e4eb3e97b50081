-- For the proof of `plan`: what holds between two rounds, and each way out of the loop. Assumes nothing.
use mathlib.Core.Path.{◌≡◌, refl, sym, ap, ◌∙◌, subst}
use mathlib.Core.Bool.{Bool, true, false, cond}
use mathlib.Core.List.{List, [], ◌++◌}
use Prim.Native.Nat.{ℕ, ◌+◌, ◌*◌, ◌≤◌, ◌<◌}
use native.Mathlib.Omega.{arith}
use lib.ListN.{length}
use lib.Dec.{ltb}
use lib.Ieee.{Float}
use borrow.Author.Tests.{lt-ltb, le-ltb}
use Rattle.loops.specs.Loop.{Run, on, out, turn}
use Rattle.loops.proofs.LoopLaws.{Going, going_none, going_end, going_out, going_on}
use Rattle.setup.specs.Place.{cells_of}
use Rattle.setup.specs.declared.Setup.{Setup}
use Rattle.events.specs.Events.{Event}
use Rattle.cutting.specs.Piece.{Listed}
use Rattle.workspace.specs.Standing.{Standing}
use Rattle.workspace.proofs.StandingLaws.{walls-same, cells_same}
use Rattle.plan.specs.Parts.{Ground, Slices, Answer, Left, lf, WithEvents, round_of, slices_in, ground_in, ListedAfter, Kept}
use Rattle.plan.specs.Rounds.{Ended, most_work, Turn, tn, End, el, ended, after_round, turn_of, end_of, first_progress, rounds_from, plan_of, ListedEnd, EndKept}
use Rattle.plan.specs.declared.parts.Progress.{Progress}
use Rattle.plan.specs.declared.parts.Step.TheVariants.{Next, Again, Done}
use Rattle.std.specs.Prelude.{Ok, Err}
use Rattle.cutting.specs.declared.listing.Full.{Full}
use Rattle.plan.proofs.PartsLaws.{Gives, round_gives, kept-standing, kept-singles, kept_ground, kept_more}

module _ (s : Setup) (vs : List Float) (lens : List ℕ) (pref : Float) (b₀ u₀ : List ℕ) (f₀ w₀ o₀ : List Float) (rows₀ : List ℕ) where
  abbrev ground : Ground
  ground = ground_in s vs lens pref b₀ w₀

  abbrev start : Slices
  start = slices_in (cells_of s) b₀ u₀ f₀ rows₀ o₀

  abbrev begin : Run Turn End
  begin = on (tn first_progress start [])

  -- after k rounds, by some events
  pub record Planning (b u : List ℕ) (f w o : List Float) (rows : List ℕ) (p : Progress) (k : ℕ) : Type 0 where
    pub events : List Event
    pub going : Going (turn (turn_of ground)) 0 10000 begin (on (tn p (slices_in (cells_of s) b u f rows o) events)) k
    pub kept : Kept (cells_of s) b₀ u₀ rows₀ f₀ w₀ o₀ b u rows f w o (Ok (Again p))
    pub given : p.given ≤ 64 * k

  -- at the end
  abbrev pub Ends : List ℕ → List ℕ → List Float → List Float → List Float → List ℕ → Ended → Type 0
  Ends b u f w o rows r = (el (slices_in (cells_of s) b u f rows o) r ≡ (plan_of ground start).left) × EndKept (cells_of s) b₀ u₀ rows₀ f₀ w₀ o₀ b u rows f w o r

  module _ (H : Standing s vs lens b₀ u₀ w₀) where
    pub planning_none : Listed rows₀ o₀ first_progress.state 0 → (p : Progress) → p ≡ first_progress → Planning b₀ u₀ f₀ w₀ o₀ rows₀ p 0
    unfolding first_progress
    planning_none L p e = subst (λ (x : Progress). Planning b₀ u₀ f₀ w₀ o₀ rows₀ x 0) (sym e) (record {
      events = [];
      going = going_none (turn (turn_of ground)) 0 10000 begin;
      kept = record { cells = cells_same (cells_of s) b₀; words_long = refl; singles-long = refl; walls = walls-same s vs lens b₀ u₀ w₀ H; rows_long = refl; out-long = refl; listed = L };
      given = omega arith;
    })

    module _ (b u : List ℕ) (f w o : List Float) (rows : List ℕ) (p : Progress) (k : ℕ) (P : Planning b u f w o rows p k) where
      abbrev here : Slices
      here = slices_in (cells_of s) b u f rows o

      abbrev K : Kept (cells_of s) b₀ u₀ rows₀ f₀ w₀ o₀ b u rows f w o (Ok (Again p))
      K = P.kept

      pub round_asked : 2 * cells_of s ≤ length f₀ → k < 10000 → Standing s vs lens b u w × ((2 * cells_of s ≤ length f) × (Listed rows o p.state 0 × (p.given ≤ 900000)))
      round_asked l h = (
        kept-standing s vs lens pref b₀ u₀ f₀ w₀ o₀ rows₀ H b u f w o rows (Ok (Again p)) K,
        (kept-singles s vs lens pref b₀ u₀ f₀ w₀ o₀ rows₀ H b u f w o rows (Ok (Again p)) K l, (K.listed, omega (arith, h, P.given))),
      )

      -- the turn ends the loop
      plan_out : k < 10000 → (e : End) → turn_of ground k (tn p here P.events) ≡ out e → e.left ≡ (plan_of ground start).left
      unfolding plan_of rounds_from end_of
      plan_out h e x = sym (ap (λ (q : Run Turn End). (end_of q).left) (going_out (turn_of ground) 0 10000 begin (tn p here P.events) k e P.going h x))

      end_kept : (r : Ended) → ListedEnd rows o r → EndKept (cells_of s) b₀ u₀ rows₀ f₀ w₀ o₀ b u rows f w o r
      end_kept r L = record {
        cells = K.cells;
        words_long = K.words_long;
        singles-long = K.singles-long;
        walls = K.walls;
        rows_long = K.rows_long;
        out-long = K.out-long;
        listed = L;
      }

      -- all rounds are done
      pub plan_ends : 10000 ≤ k → Ends b u f w o rows (Ok (p, false))
      unfolding plan_of rounds_from end_of
      plan_ends h = (
        ap (λ (q : Run Turn End). (end_of q).left) (going_end (turn (turn_of ground)) 0 10000 begin (on (tn p here P.events)) k P.going h),
        end_kept (Ok (p, false)) K.listed,
      )

      abbrev spent_end : End
      spent_end = ended here (Ok (p, true)) P.events

      abbrev result : WithEvents
      result = round_of ground p here

      abbrev went_on : Run Turn End
      went_on = after_round result.left.slices result.left.answer (P.events ++ result.events)

      turn_by : (x : Bool) → ltb most_work p.state.work ≡ x → turn_of ground k (tn p here P.events) ≡ cond x (out spent_end) went_on
      unfolding turn_of
      turn_by x e = ap (λ (z : Bool). cond z (out spent_end) went_on) e

      -- the budget is spent
      pub plan_spent : k < 10000 → most_work < p.state.work → Ends b u f w o rows (Ok (p, true))
      plan_spent h l = (plan_out h spent_end (turn_by true (lt-ltb most_work p.state.work l)), end_kept (Ok (p, true)) K.listed)

      -- a round was done
      module _ (h : k < 10000) (l : p.state.work ≤ most_work) (b₂ u₂ : List ℕ) (f₂ w₂ o₂ : List Float) (rows₂ : List ℕ) (a : Answer)
          (E : lf (slices_in (cells_of s) b₂ u₂ f₂ rows₂ o₂) a ≡ (round_of (ground_in s vs lens pref b w) p here).left) (M : Kept (cells_of s) b u rows f w o b₂ u₂ rows₂ f₂ w₂ o₂ a) where
        abbrev there : Slices
        there = slices_in (cells_of s) b₂ u₂ f₂ rows₂ o₂

        abbrev later : List Event
        later = P.events ++ result.events

        round_is : lf there a ≡ result.left
        round_is = E ∙ ap (λ (x : Ground). (round_of x p here).left) (kept_ground s vs lens pref b₀ u₀ f₀ w₀ o₀ rows₀ H b u f w o rows (Ok (Again p)) K)

        turn_is : turn_of ground k (tn p here P.events) ≡ after_round there a later
        turn_is = turn_by false (le-ltb most_work p.state.work l) ∙ (λ i. after_round (sym round_is i).slices (sym round_is i).answer later)

        all-kept : Kept (cells_of s) b₀ u₀ rows₀ f₀ w₀ o₀ b₂ u₂ rows₂ f₂ w₂ o₂ a
        all-kept = kept_more s vs lens pref b₀ u₀ f₀ w₀ o₀ rows₀ H b u f w o rows (Ok (Again p)) K b₂ u₂ f₂ w₂ o₂ rows₂ a M

        pub planning_more : (q : Progress) → a ≡ Ok (Again q) → Planning b₂ u₂ f₂ w₂ o₂ rows₂ q (k + 1)
        unfolding after_round
        planning_more q A = record {
          events = later;
          going = going_on (turn_of ground) 0 10000 begin (tn p here P.events) (tn q there later) k P.going h (sym (turn_is ∙ ap (λ (x : Answer). after_round there x later) A));
          kept = subst (Kept (cells_of s) b₀ u₀ rows₀ f₀ w₀ o₀ b₂ u₂ rows₂ f₂ w₂ o₂) A all-kept;
          given = let z : q.given ≤ 64 * k + 64 = subst (Gives (64 * k + 64)) (sym (ap (λ (x : Left). x.answer) round_is) ∙ A) (round_gives ground p here (64 * k) P.given) in omega (arith, z);
        }

        ended-kept : (r : Ended) → ListedEnd rows₂ o₂ r → EndKept (cells_of s) b₀ u₀ rows₀ f₀ w₀ o₀ b₂ u₂ rows₂ f₂ w₂ o₂ r
        ended-kept r L = record {
          cells = all-kept.cells;
          words_long = all-kept.words_long;
          singles-long = all-kept.singles-long;
          walls = all-kept.walls;
          rows_long = all-kept.rows_long;
          out-long = all-kept.out-long;
          listed = L;
        }

        pub plan_next : (q : Progress) → a ≡ Ok (Next q) → Ends b₂ u₂ f₂ w₂ o₂ rows₂ (Ok (q, false))
        unfolding after_round
        plan_next q A = (
          plan_out h (ended there (Ok (q, false)) later) (turn_is ∙ ap (λ (x : Answer). after_round there x later) A),
          ended-kept (Ok (q, false)) (subst (ListedAfter rows₂ o₂) A M.listed),
        )

        pub plan_done : (q : Progress) → a ≡ Ok (Done q) → Ends b₂ u₂ f₂ w₂ o₂ rows₂ (Ok (q, false))
        unfolding after_round
        plan_done q A = (
          plan_out h (ended there (Ok (q, false)) later) (turn_is ∙ ap (λ (x : Answer). after_round there x later) A),
          ended-kept (Ok (q, false)) (subst (ListedAfter rows₂ o₂) A M.listed),
        )

        pub plan_refused : (f : Full) → a ≡ Err f → Ends b₂ u₂ f₂ w₂ o₂ rows₂ (Err f)
        unfolding after_round
        plan_refused f A = (plan_out h (ended there (Err f) later) (turn_is ∙ ap (λ (x : Answer). after_round there x later) A), ended-kept (Err f) tt)
