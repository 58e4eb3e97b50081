-- What a line does to the map and the log, and what the bench answers. Definitions only.
use Rattle.std.specs.Prelude.{ℕ, ◌*◌, ◌≤◌, ◌^◌, cond, List, length, set, ltb, Float, Option, Some, None, IfSome}
use Rattle.std.specs.Option.{option_map_or}
use Rattle.std.specs.Float.{binary64}
use Rattle.std.specs.Float.Ieee.{mul}
use Rattle.loops.specs.Loop.{loop}
use Rattle.loops.specs.Cells.{ones}
use Rattle.numbers.specs.Small.{f1, quarter}
use Rattle.geom.specs.Vec.{v2, f0}
use Rattle.geom.specs.declared.vec2.Vec2.{Vec2}
use Rattle.numbers.specs.Cast.{float}
use Rattle.raster.specs.Log.{Stock, st, Logged, clear_after, undone}
use Rattle.raster.specs.declared.grid.Grid.{Grid}
use Rattle.bench_lines.specs.Line.{Few}
use Rattle.bench_lines.specs.declared.line.Line.{Line}
use Rattle.bench_lines.specs.declared.line.Line.TheVariants.{Map, Pass, Undo}
use Rattle.bench_lines.specs.declared.obey.Bench.{Bench}
use Rattle.bench_lines.specs.declared.line.Sides.{Sides}
use Rattle.bench_lines.specs.declared.obey.Done.{Done}
use Rattle.bench_lines.specs.declared.obey.Answer.{Answer}
use Rattle.bench_lines.specs.declared.obey.Answer.TheVariants.{Started, Removed, Restored}

-- a bench with its map and its log
pub record Out : Type 0 where
  pub done : Done
  pub cells : List ℕ
  pub log : List ℕ

abbrev pub out : Done → List ℕ → List ℕ → Out
out d m l = record { done = d; cells = m; log = l }

-- the map and the log have room for any
pub record Lent (m l : List ℕ) : Type 0 where
  pub long : 4096 ≤ length m
  pub room : length m ≤ length l
  pub small : length m ≤ 2 ^ 32

-- what holds between lines: each later call is safe
pub record Fit (b : Bench) (m l : List ℕ) : Type 0 where
  pub sides : IfSome b.sides Few
  pub lent : Lent m l
  pub logged : IfSome b.pass (λ n. Logged l n (length m))

abbrev pub bench : Option Sides → Option ℕ → Bench
bench s p = record { sides = s; pass = p }

abbrev pub done : Bench → Option Answer → Done
done b a = record { bench = b; answer = a }

abbrev pub no_map : Bench
no_map = bench None None

-- cell 1, origin 0
abbrev pub grid_for : Sides → Grid
grid_for s = record { origin = v2 f0 f0; cell = f1; nx = s.nx; ny = s.ny }

-- quarter cells
abbrev pub quarter_of : ℕ → Float
quarter_of n = mul binary64 (float n) quarter

-- the first n cells are stock and no others
abbrev pub fill_cell : ℕ → ℕ → List ℕ → List ℕ
fill_cell n k m = set m k (cond (ltb k n) 1 0)

unfoldable pub filled : ℕ → List ℕ → List ℕ
filled n m = loop (fill_cell n) 0 (length m) m

abbrev pub refused : Bench → Done
refused b = done b None

unfoldable pub mapped : Sides → List ℕ → List ℕ → Out
mapped s m l = out (done (bench (Some s) None) (Some (Started (ones (filled (s.ny * s.nx) m))))) (filled (s.ny * s.nx) m) l

-- the map and the log after a pass, with what was removed and what stands
abbrev pub after : Sides → Stock → Out
after s t = out (done (bench (Some s) (Some t.count)) (Some (Removed t.count (ones t.cells)))) t.cells t.log

unfoldable pub cut : Sides → Vec2 → Vec2 → Float → List ℕ → List ℕ → Out
cut s from to r m l = after s (clear_after (grid_for s) from to r (st m l 0))

unfoldable pub restored : Bench → ℕ → List ℕ → List ℕ → Out
restored b n m l = out (done (bench b.sides None) (Some (Restored (ones (undone l 0 n m))))) (undone l 0 n m) l

unfoldable pub obeyed : Bench → Option Line → List ℕ → List ℕ → Out
obeyed b (Some (Map s)) m l = mapped s m l
obeyed b (Some (Pass x y z w r)) m l = option_map_or (λ s. cut s (v2 (quarter_of x) (quarter_of y)) (v2 (quarter_of z) (quarter_of w)) (quarter_of r) m l) b.sides (out (refused b) m l)
obeyed b (Some Undo) m l = option_map_or (λ n. restored b n m l) b.pass (out (refused b) m l)
obeyed b None m l = out (refused b) m l
