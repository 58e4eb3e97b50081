-- While a piece is tried the lent slices hold the listed chunks, and behind them the points of the last pass. Assumes nothing.
use Rattle.passes.specs.Start.{Place}
use mathlib.Core.Path.{◌≡◌, refl, sym, ◌∙◌, subst}
use mathlib.Core.Bool.{Bool, false}
use mathlib.Core.List.{List, []}
use mathlib.Core.Option.{Option, none, some}
use Prim.Native.Nat.{ℕ}
use lib.ListN.{length}
use lib.Ieee.{Float}
use Rattle.geom.specs.Vec.{f0}
use Rattle.geom.specs.declared.vec2.Vec2.{Vec2}
use Rattle.raster.specs.Log.{st, Ready}
use Rattle.setup.specs.Place.{allowed_at, free_at}
use Rattle.setup.specs.declared.Setup.{Setup}
use Rattle.events.specs.Chunk.{Chunk, Entry}
use Rattle.events.specs.Lent.{all_triples, Holds, HoldsTrial}
use Rattle.events.specs.Read.{points_from}
use Rattle.events.proofs.LentLaws.{trial-none, trial-withdrawn}
use Rattle.passes.specs.Simulate.{Pass, simulate_of}
use Rattle.passes.specs.Guide.{blend_of}
use Rattle.passes.specs.Attempt.{Outcome, judged_by, outcome_of, start_by}
use Rattle.setup.specs.Made.{Measured}
use Rattle.passes.proofs.KeepLaws.{simulate_ran, ran_kept}
use Rattle.passes.proofs.PieceLaws.{blend_tried}
use Rattle.cutting.specs.Tries.{start_at, guide_of, Tries, guide_at, try_at, tries_of}
use Rattle.cutting.proofs.TriesKeep.{ready-same, keeps_tries}

-- the chunks cs with the points of the last pass behind them; l is the log's slice before the tries
pub record Stands (rows : List ℕ) (cs : List Chunk) (kept : ℕ) (l : List ℕ) (c : Outcome) : Type 0 where
  pub long : length c.log ≡ length l
  pub held : HoldsTrial rows c.out cs (points_from c.out kept c.attempt.points)

-- the job's start, limit and entry are nothing to the triples
abbrev no_entry : Entry
no_entry = record { place = λ m gone. none; abandon = λ m gone. gone; least = f0 }

module _ (s : Setup) (wall vs : List Float) (lens : List ℕ) (M : Measured s) (kept : ℕ) (m rows : List ℕ) (cs : List Chunk) (K : length (all_triples cs) ≡ kept) where
  abbrev allowed : Vec2 → Bool
  allowed = allowed_at s wall vs lens

  start_stands : (l : List ℕ) (o : List Float) → Ready (st m l 0) → Holds rows o cs → (pts : List Vec2) (g : Option (List Vec2)) → blend_of s allowed (free_at s m) pts ≡ g
      → Stands rows cs kept l (start_by s allowed g kept m l o)
  unfolding start_by outcome_of judged_by
  start_stands l o R h pts none e = record { long = refl; held = trial-none rows o cs h }
  start_stands l o R h pts (some q) e =
      let u : Pass = simulate_of s allowed q kept m l o in
      let T = blend_tried s wall vs lens [] f0 no_entry M kept m l o R pts q e in
      record {
        long = (ran_kept s kept m l o R u (simulate_ran s allowed kept m l o q)).log-long;
        held = subst (HoldsTrial rows u.out cs) (sym T.read) (T.held rows cs K h);
      }

  module _ (pts : List Vec2) (closed : Bool) (pos : Place) (log : List ℕ) (R : Ready (st m log 0)) where
    abbrev Standing : Tries → Type 0
    Standing t = Stands rows cs kept log t.outcome

    -- the pass before counts no more
    stand_each : (k : ℕ) (t : Tries) → Standing t → t.outcome.attempt.worth ≡ false → Standing (try_at s allowed pts closed pos kept m k t)
    unfolding try_at guide_at
    stand_each k t h w =
        let c : Outcome = t.outcome in
        let n = start_stands c.log c.out (ready-same m log c.log R h.long) (trial-withdrawn rows c.out cs (points_from c.out kept c.attempt.points) h.held) (guide_of pts closed (start_at pts closed pos k)) _ refl in
        record { long = n.long ∙ h.long; held = n.held }

    pub tries_stand : (o : List Float) → Holds rows o cs → Stands rows cs kept log (tries_of s allowed pts closed pos kept m log o).outcome
    tries_stand o h = keeps_tries s allowed pts closed pos kept m Standing stand_each log o (record { long = refl; held = trial-none rows o cs h })
