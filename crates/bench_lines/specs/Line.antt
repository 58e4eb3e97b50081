-- What a line says; a bad one says nothing. Definitions only.
use Rattle.std.specs.Prelude.{ℕ, ◌≤◌, ◌<◌, Bool, false, cond, List, Option, Some, None, eqb, ltb, leb}
use Rattle.loops.specs.Each.{over}
use Rattle.bench_lines.specs.Words.{no_words, step_of}
use Rattle.bench_lines.specs.declared.words.Words.{Words}
use Rattle.bench_lines.specs.declared.line.Line.{Line}
use Rattle.bench_lines.specs.declared.line.Sides.{Sides}
use Rattle.bench_lines.specs.declared.line.Line.TheVariants.{Map, Pass, Undo}

-- a side is 1 to 64
unfoldable pub side_of : ℕ → Bool
side_of n = cond (ltb 0 n) (leb n 64) false

abbrev pub sides : ℕ → ℕ → Sides
sides nx ny = record { nx = nx; ny = ny }

unfoldable pub map_of : Words → Option Line
map_of w = cond (eqb w.count 2) (cond (side_of w.d) (cond (side_of w.last) (Some (Map (sides w.d w.last))) None) None) None

unfoldable pub pass_of : Words → Option Line
pass_of w = cond (eqb w.count 5) (Some (Pass w.a w.b w.c w.d w.last)) None

unfoldable pub undo_of : Words → Option Line
undo_of w = cond (eqb w.count 0) (Some Undo) None

-- the letters of map, pass and undo, eight bits each
unfoldable pub word_of : Words → Option Line
word_of w = cond (eqb w.word 0x6d6170) (map_of w) (cond (eqb w.word 0x70617373) (pass_of w) (cond (eqb w.word 0x756e646f) (undo_of w) None))

-- a whole line
unfoldable pub line_of : Option Words → Option Line
line_of None = None
line_of (Some w) = cond w.empty None (word_of w)

-- the bytes of a line, read one by one
unfoldable pub words_of : List ℕ → Option Words
words_of l = over step_of l (Some no_words)

pub record Side (n : ℕ) : Type 0 where
  pub some : 0 < n
  pub most : n ≤ 64

-- a map of sides of 1 to 64
pub record Few (s : Sides) : Type 0 where
  pub columns : Side s.nx
  pub rows : Side s.ny

-- the sides of a line `map`
abbrev pub Sound : Line → Type 0
Sound (Map s) = Few s
Sound (Pass a b c d r) = Unit {0}
Sound Undo = Unit {0}
