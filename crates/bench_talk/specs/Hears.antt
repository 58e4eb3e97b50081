-- A talk, with the lent map and log, is what the bench has heard so far. Definitions only.
use Rattle.std.specs.Prelude.{◌≡◌, ℕ, ◌≤◌, List, length, Option}
use Rattle.loops.specs.Loop.{loop}
use Rattle.bench_lines.specs.Meaning.{meaning_of}
use Rattle.bench_lines.specs.Obey.{obeyed}
use Rattle.bench_lines.specs.declared.obey.Answer.{Answer}
use Rattle.bench_lines.specs.Line.{words_of}
use Rattle.bench_lines.specs.Reader.{Heard, heard_at, begun_of}
use Rattle.bench_talk.specs.declared.Talk.{Talk}

-- the bytes of the present line are kept as the words that they say
pub record Hears (t : Talk) (m l : List ℕ) (h : Heard) : Type 0 where
  pub bench : t.bench ≡ h.bench
  pub cells : m ≡ h.cells
  pub log : l ≡ h.log
  pub words : t.words ≡ words_of h.line
  pub begun : t.begun ≡ begun_of h.line
  pub number : t.number ≡ h.number
  pub ended : t.ended ≡ h.ended

-- the answer to the line that ends here; a bad one has none
unfoldable pub answer_to : Heard → Option Answer
answer_to h = (obeyed h.bench (meaning_of h.line) h.cells h.log).done.answer

-- the lent map and log are those of what has been heard
pub record Left (m l : List ℕ) (h : Heard) : Type 0 where
  pub cells : m ≡ h.cells
  pub log : l ≡ h.log

-- of the bytes read, the first so many have been heard, and no more
pub record LeftWithin (read m l : List ℕ) (h : Heard) : Type 0 where
  pub count : ℕ
  pub within : count ≤ length read
  pub left : Left m l (loop (heard_at read) 0 count h)
