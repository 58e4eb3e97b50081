-- The report's counts are those of the events, and slices zeroed behind a list hold the same list. Assumes nothing.
use mathlib.Core.Path.{◌≡◌, refl, ap, ◌∙◌}
use mathlib.Core.List.{List, ◌++◌}
use mathlib.Core.Option.{some}
use Prim.Native.Nat.{ℕ, ◌-◌, ◌*◌, ◌≤◌}
use lib.ListN.{length, take, replicate}
use lib.Seq.{take_at, length-take-le}
use lib.Ieee.{Float}
use Rattle.loops.specs.Cells.{ones}
use Rattle.geom.specs.Vec.{f0}
use Rattle.events.specs.Chunk.{Chunk, Job}
use Rattle.events.specs.Events.{Event, after, Legal}
use Rattle.events.specs.Lent.{rows_from, all_triples, flat_rows, flat_triples, decode, Holds}
use Rattle.events.specs.Told.{events_of, Counted}
use Rattle.events.proofs.CountLaws.{rows-events}
use Rattle.cutting.specs.declared.piece.State.{State}
use Rattle.report.specs.Zero.{blank_from}
use Rattle.report.specs.Report.{report_of, told_of}
use Rattle.report.specs.declared.kinds.Kinds.{Kinds}
use Rattle.report.specs.declared.report.Finish.{Finish}
use Rattle.report.proofs.KindLaws.{kinds_are}

-- ---- the counts that term 3 names

module _ (cell : Float) (f : Finish) (t : State) (map reach rows : List ℕ) (triples : List Float) (j : Job) (es : List Event) where
  pub report_counted : Legal j es → t.rows * 3 ≤ length rows → decode t.rows rows triples ≡ some (after j es).rows → f.starting ≡ ones j.start → f.given_up ≡ events_of 5 es
      → Counted j es map (told_of (report_of cell f t map reach rows triples))
  unfolding report_of told_of
  report_counted legal room listed starting given =
      let k = kinds_are rows triples t.rows (after j es).rows room listed in
      record {
        starting = starting;
        standing = refl;
        entries = ap (λ (q : Kinds). q.helices) k ∙ rows-events j 1 refl refl es legal;
        plunges = ap (λ (q : Kinds). q.plunges) k ∙ rows-events j 2 refl refl es legal;
        links = ap (λ (q : Kinds). q.links) k ∙ rows-events j 3 refl refl es legal;
        passes = ap (λ (q : Kinds). q.passes) k ∙ rows-events j 4 refl refl es legal;
        given_up = given;
      }

-- ---- outputs that are zeroed behind their used part

pub blank-first : {A : Type 0} (v : A) (k : ℕ) (l : List A) → k ≤ length l → take k (blank_from v k l) ≡ take k l
unfolding blank_from
blank-first v k l h = take_at (take k l) (replicate (length l - k) v) k (length-take-le k l h)

module _ (rows : List ℕ) (triples : List Float) (cs : List Chunk) (h : Holds rows triples cs) where
  pub blank-holds : length cs * 3 ≤ length rows → length (all_triples cs) * 3 ≤ length triples → Holds (blank_from 0 (length cs * 3) rows) (blank_from f0 (length (all_triples cs) * 3) triples) cs
  blank-holds a b = record { rows = blank-first 0 (length cs * 3) rows a ∙ h.rows; triples = blank-first f0 (length (all_triples cs) * 3) triples b ∙ h.triples }

  -- exactly the list's rows and triples, then zeros
  pub blank-rows : blank_from 0 (length cs * 3) rows ≡ flat_rows (rows_from 0 cs) ++ replicate (length rows - length cs * 3) 0
  unfolding blank_from
  blank-rows = ap (λ (l : List ℕ). l ++ replicate (length rows - length cs * 3) 0) h.rows

  pub blank-triples : blank_from f0 (length (all_triples cs) * 3) triples ≡ flat_triples (all_triples cs) ++ replicate (length triples - length (all_triples cs) * 3) f0
  unfolding blank_from
  blank-triples = ap (λ (l : List Float). l ++ replicate (length triples - length (all_triples cs) * 3) f0) h.triples
