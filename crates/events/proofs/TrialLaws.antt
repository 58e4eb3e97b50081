-- A pass cleared with its log clears what the replay clears. Assumes nothing.
use mathlib.Core.Path.{◌≡◌, refl, ap, ◌∙◌}
use mathlib.Core.List.{List, [], ◌∷◌}
use Prim.Native.Nat.{ℕ}
use lib.ListN.{length}
use lib.Ieee.{Float}
use Rattle.geom.specs.declared.vec2.Vec2.{Vec2}
use Rattle.raster.specs.Log.{Stock, st, redone, passes}
use Rattle.raster.specs.Stock.{clear_disk}
use Rattle.raster.specs.declared.grid.Grid.{Grid}
use Rattle.raster.proofs.LogLaws.{kept-none}
use Rattle.raster.proofs.StockLaws.{clear-disk-left}
use Rattle.raster.proofs.ClearLaws.{after-cells}
use Rattle.events.specs.Chunk.{Point, Job}
use Rattle.events.specs.Replay.{later, pass}
use Rattle.events.specs.Events.{cuts_from, cuts_of, pass_logged}

later-cells : (j : Job) (p : Vec2) (ps : List Point) (s : Stock) → (passes j.grid (cuts_from j.r p ps) s).cells ≡ later j p ps s.cells
unfolding passes cuts_from later
later-cells j p [] s = refl
later-cells j p (q ∷ qs) s = later-cells j q.at qs _ ∙ ap (later j q.at qs) (after-cells j.grid p q.at j.r s)

pub pass-cells : (j : Job) (ps : List Point) (s : Stock) → (pass_logged j ps s).cells ≡ pass j ps s.cells
unfolding passes cuts_of pass
pass-cells j [] s = refl
pass-cells j (p ∷ ps) s = later-cells j p.at ps s

-- a log that holds nothing clears nothing again
pub redone-none : (log m : List ℕ) → redone log 0 0 m ≡ m
redone-none log m = (kept-none (st m log 0)).again

pub bored-length : (g : Grid) (c : Vec2) (r : Float) (m : List ℕ) → length (clear_disk g c r m).cells ≡ length m
bored-length g c r m = (clear-disk-left g c r m).long
