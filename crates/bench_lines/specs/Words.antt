-- What the bytes of a line say so far: a word of small letters, then numbers, each after one tab. A bad line says nothing. Definitions only.
use Rattle.std.specs.Prelude.{ℕ, ◌+◌, ◌*◌, ◌-◌, ◌%◌, true, false, cond, eqb, ltb, Option, Some, None}
use Rattle.bench_lines.specs.declared.words.Words.{Words}

abbrev pub no_words : Words
no_words = record { empty = true; count = 0; word = 0; a = 0; b = 0; c = 0; d = 0; last = 0 }

-- the field ends, and the numbers move up
abbrev pub shifted : Words → Words
shifted w = record { empty = true; count = w.count + 1; word = w.word; a = w.b; b = w.c; c = w.d; d = w.last; last = 0 }

unfoldable pub next_field : Words → Option Words
next_field w = cond w.empty None (cond (ltb 4 w.count) None (Some (shifted w)))

abbrev pub lettered : ℕ → Words → Words
lettered k w = record { empty = false; count = w.count; word = w.word * 256 + k; a = w.a; b = w.b; c = w.c; d = w.d; last = w.last }

-- a letter from a to z, of four at most
unfoldable pub letter_of : ℕ → Words → Option Words
letter_of k w = cond (ltb k 97) None (cond (ltb 122 k) None (cond (ltb 16777215 w.word) None (Some (lettered k w))))

abbrev pub numbered : ℕ → Words → Words
numbered n w = record { empty = false; count = w.count; word = w.word; a = w.a; b = w.b; c = w.c; d = w.d; last = n }

abbrev pub first_digit : ℕ → Words → Words
first_digit n w = numbered n w

abbrev pub longer : ℕ → Words → Words
longer n w = record { empty = w.empty; count = w.count; word = w.word; a = w.a; b = w.b; c = w.c; d = w.d; last = w.last * 10 + n % 10 }

-- no zero before it, and 1,000 at most
unfoldable pub later_digit : ℕ → Words → Option Words
later_digit n w = cond (eqb w.last 0) None (cond (ltb 1000 w.last) None (cond (ltb 1000 (w.last * 10 + n % 10)) None (Some (longer n w))))

unfoldable pub digit_of : ℕ → Words → Option Words
digit_of k w = cond (ltb k 48) None (cond (ltb 57 k) None (cond w.empty (Some (first_digit (k - 48) w)) (later_digit (k - 48) w)))

-- one byte more; 9 is the tab. A bad line stays bad
unfoldable pub step_of : ℕ → Option Words → Option Words
step_of k None = None
step_of k (Some w) = cond (eqb k 9) (next_field w) (cond (eqb w.count 0) (letter_of k w) (digit_of k w))
