-- The bench hears its input byte by byte: a line is obeyed, by what it means, where it ends. Definitions only.
use Rattle.std.specs.Prelude.{ℕ, ◌+◌, ◌%◌, ◌^◌, Bool, true, false, cond, List, [], ◌∷◌, ◌++◌, length, get_or, eqb, is_none}
use Rattle.loops.specs.Loop.{loop}
use Rattle.bench_lines.specs.Meaning.{meaning_of}
use Rattle.bench_lines.specs.Obey.{no_map, obeyed}
use Rattle.bench_lines.specs.declared.obey.Bench.{Bench}

-- the bench with its map and log; the bytes of the present line, and its number; whether a bad line has ended all
pub record Heard : Type 0 where
  pub bench : Bench
  pub cells : List ℕ
  pub log : List ℕ
  pub line : List ℕ
  pub number : ℕ
  pub ended : Bool

abbrev pub heard : Bench → List ℕ → List ℕ → List ℕ → ℕ → Bool → Heard
heard b m l line n e = record { bench = b; cells = m; log = l; line = line; number = n; ended = e }

-- nothing yet
unfoldable pub silent : List ℕ → List ℕ → Heard
silent m l = heard no_map m l [] 1 false

-- the line ends here; one without an answer ends all
unfoldable pub line_heard : Heard → Heard
line_heard h =
    let o = obeyed h.bench (meaning_of h.line) h.cells h.log in
    heard o.done.bench o.cells o.log [] ((h.number + 1) % 2 ^ 64) (is_none o.done.answer)

-- one byte more; 10 is the line feed. After a bad line nothing is heard
unfoldable pub byte_heard : ℕ → Heard → Heard
byte_heard c h = cond h.ended h (cond (eqb c 10) (line_heard h) (heard h.bench h.cells h.log (h.line ++ (c ∷ [])) h.number h.ended))

-- all bytes of a part of the input, in turn
abbrev pub heard_at : List ℕ → ℕ → Heard → Heard
heard_at l k h = byte_heard (get_or l k 0) h

unfoldable pub heard_of : List ℕ → Heard → Heard
heard_of l h = loop (heard_at l) 0 (length l) h

-- whether there is any of the present line
unfoldable pub begun_of : List ℕ → Bool
begun_of [] = false
begun_of (c ∷ l) = true

-- the input ends here: what is left is a line if there is any of it
unfoldable pub end_heard : Heard → Heard
end_heard h = cond h.ended h (cond (begun_of h.line) (line_heard h) h)
