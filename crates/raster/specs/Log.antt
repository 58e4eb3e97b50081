-- The stock map with the log of what was cleared from it: `log` holds `count` numbers of cells. Definitions only.
use Rattle.std.specs.Prelude.{ℕ, ◌+◌, ◌≤◌, ◌<◌, ◌^◌, cond, List, [], ◌∷◌, length, get_or, set, eqb, Float}
use Rattle.loops.specs.Loop.{loop}
use Rattle.loops.specs.Cells.{ones}
use Rattle.geom.specs.declared.vec2.Vec2.{Vec2}
use Rattle.raster.specs.Sweep.{over_crescent}
use Rattle.raster.specs.declared.grid.Grid.{Grid}

pub record Stock : Type 0 where
  pub cells : List ℕ
  pub log : List ℕ
  pub count : ℕ

abbrev pub st : List ℕ → List ℕ → ℕ → Stock
st m l n = record { cells = m; log = l; count = n }

-- the log has room for every cell that is stock, and each cell's number is a u32
pub record Ready (s : Stock) : Type 0 where
  pub room : s.count + ones s.cells ≤ length s.log
  pub small : length s.cells ≤ 2 ^ 32

-- cell k, which is stock, is cleared and logged
abbrev pub taken : ℕ → Stock → Stock
taken k s = st (set s.cells k 0) (set s.log s.count k) (s.count + 1)

-- cell k is cleared, and logged if it was stock
unfoldable pub clear_cell : ℕ → Stock → Stock
clear_cell k s = cond (eqb (get_or s.cells k 0) 1) (taken k s) s

-- the crescent from prev to c at radius r
unfoldable pub clear_after : Grid → Vec2 → Vec2 → Float → Stock → Stock
clear_after g prev c r s = over_crescent clear_cell g prev c r s

-- a byte is written to the cell of entry i of the log
abbrev pub written : List ℕ → ℕ → ℕ → List ℕ → List ℕ
written log v i m = set m (get_or log i 0) v

-- entry i of the log is stock again; it is cleared again
abbrev pub put_back : List ℕ → ℕ → List ℕ → List ℕ
put_back log i m = written log 1 i m

abbrev pub take_out : List ℕ → ℕ → List ℕ → List ℕ
take_out log i m = written log 0 i m

unfoldable pub undone : List ℕ → ℕ → ℕ → List ℕ → List ℕ
undone log from to m = loop (put_back log) from to m

unfoldable pub redone : List ℕ → ℕ → ℕ → List ℕ → List ℕ
redone log from to m = loop (take_out log) from to m

-- the first `count` entries of a log are numbers of cells below n
pub record Logged (log : List ℕ) (count n : ℕ) : Type 0 where
  pub within : count ≤ length log
  pub cell : (i : ℕ) → i < count → get_or log i 0 < n

-- a crescent, and a run of them with one growing log
pub record Cut : Type 0 where
  pub from : Vec2
  pub to : Vec2
  pub radius : Float

unfoldable pub passes : Grid → List Cut → Stock → Stock
passes g [] s = s
passes g (c ∷ cs) s = passes g cs (clear_after g c.from c.to c.radius s)
