-- The claim of a finished plan: legal events with nothing on trial at their end, slices that hold their list, and numbers that are counted. Assumes nothing.
use mathlib.Core.Path.{◌≡◌, refl, ◌∙◌}
use mathlib.Core.List.{List}
use mathlib.Core.Option.{none}
use Prim.Native.Nat.{ℕ}
use lib.ListN.{length}
use lib.Ieee.{Float}
use Rattle.loops.specs.Cells.{ones}
use Rattle.events.specs.Chunk.{Job}
use Rattle.events.specs.Lent.{Holds}
use Rattle.events.specs.Events.{Event, after, Legal, Fit}
use Rattle.events.specs.Told.{events_of, chunks_of, Report, Counted, Finished}
use Rattle.events.proofs.LentLaws.{holds-decode}
use Rattle.events.proofs.Demand.{idle, demand3}
use Rattle.events.proofs.GrowLaws.{inv_all}
use Rattle.events.proofs.CountLaws.{rows-events}

module _ (j : Job) (es : List Event) (legal : Legal j es) where
  -- of the rows each kind may be counted instead of its events
  pub counted-rows : (m : List ℕ) (up : ℕ) → up ≡ events_of 5 es
      → Counted j es m (record {
        starting = ones j.start;
        standing = ones m;
        entries = chunks_of 1 (after j es).rows;
        plunges = chunks_of 2 (after j es).rows;
        links = chunks_of 3 (after j es).rows;
        passes = chunks_of 4 (after j es).rows;
        given_up = up;
      })
  counted-rows m up e = record {
    starting = refl;
    standing = refl;
    entries = rows-events j 1 refl refl es legal;
    plunges = rows-events j 2 refl refl es legal;
    links = rows-events j 3 refl refl es legal;
    passes = rows-events j 4 refl refl es legal;
    given_up = e;
  }

  -- the theorem
  pub finished : Fit j → (after j es).trial ≡ none → (rows : List ℕ) (triples : List Float) → Holds rows triples (after j es).rows → (m : List ℕ) → m ≡ (after j es).stock.cells
      → (r : Report) → Counted j es m r → Finished j es r m (length (after j es).rows) rows triples
  finished F t rows triples h m e r c = record {
    claim = demand3 j F es legal;
    settled = t;
    listed = holds-decode rows triples (after j es).rows h;
    map = e ∙ idle j (after j es) (inv_all j F es legal) t;
    counted = c;
  }
