-- What a line means, by its fields, which tabs part, and the decimals in them. Definitions only.
use Rattle.std.specs.Prelude.{ℕ, ◌+◌, ◌*◌, ◌-◌, Bool, true, false, cond, not, ◌&&◌, List, [], ◌∷◌, eqb, leb, Option, Some, None}
use Rattle.bench_lines.specs.Line.{sides}
use Rattle.bench_lines.specs.declared.line.Line.{Line}
use Rattle.bench_lines.specs.declared.line.Line.TheVariants.{Map, Pass, Undo}

-- ---- fields

-- a byte more at the start of the first field
unfoldable pub on_first : ℕ → List (List ℕ) → List (List ℕ)
on_first c [] = (c ∷ []) ∷ []
on_first c (f ∷ fs) = (c ∷ f) ∷ fs

-- what stands between the tabs of a line: one field more than there are tabs; 9 is the tab
unfoldable pub fields_of : List ℕ → List (List ℕ)
fields_of [] = [] ∷ []
fields_of (c ∷ l) = cond (eqb c 9) ([] ∷ fields_of l) (on_first c (fields_of l))

-- ---- decimals

abbrev pub is_digit : ℕ → Bool
is_digit c = leb 48 c && leb c 57

unfoldable pub all_digits : List ℕ → Bool
all_digits [] = true
all_digits (c ∷ l) = is_digit c && all_digits l

-- digits, at least one, and no needless zero in front
unfoldable pub is_decimal : List ℕ → Bool
is_decimal [] = false
is_decimal (c ∷ []) = is_digit c
is_decimal (c ∷ d ∷ l) = (is_digit c && not (eqb c 48)) && all_digits (d ∷ l)

-- the number that digits stand for, behind those of n
unfoldable pub value_from : ℕ → List ℕ → ℕ
value_from n [] = n
value_from n (c ∷ l) = value_from (n * 10 + (c - 48)) l

abbrev pub value_of : List ℕ → ℕ
value_of f = value_from 0 f

-- a side: 1 to 64
unfoldable pub is_side : List ℕ → Bool
is_side f = is_decimal f && (leb 1 (value_of f) && leb (value_of f) 64)

-- quarter cells: 0 to 1,000
unfoldable pub is_quarters : List ℕ → Bool
is_quarters f = is_decimal f && leb (value_of f) 1000

-- ---- lines

unfoldable pub same : List ℕ → List ℕ → Bool
same [] [] = true
same [] (d ∷ l) = false
same (c ∷ k) [] = false
same (c ∷ k) (d ∷ l) = eqb c d && same k l

-- the words map, pass and undo
abbrev pub map_word : List ℕ
map_word = 109 ∷ 97 ∷ 112 ∷ []

abbrev pub pass_word : List ℕ
pass_word = 112 ∷ 97 ∷ 115 ∷ 115 ∷ []

abbrev pub undo_word : List ℕ
undo_word = 117 ∷ 110 ∷ 100 ∷ 111 ∷ []

-- two sides
unfoldable pub map_by : List (List ℕ) → Option Line
map_by [] = None
map_by (a ∷ []) = None
map_by (a ∷ b ∷ []) = cond (is_side a && is_side b) (Some (Map (sides (value_of a) (value_of b)))) None
map_by (a ∷ b ∷ c ∷ fs) = None

-- five numbers
unfoldable pub pass_by : List (List ℕ) → Option Line
pass_by [] = None
pass_by (a ∷ []) = None
pass_by (a ∷ b ∷ []) = None
pass_by (a ∷ b ∷ c ∷ []) = None
pass_by (a ∷ b ∷ c ∷ d ∷ []) = None
pass_by (a ∷ b ∷ c ∷ d ∷ e ∷ []) =
    cond (is_quarters a && (is_quarters b && (is_quarters c && (is_quarters d && is_quarters e)))) (Some (Pass (value_of a) (value_of b) (value_of c) (value_of d) (value_of e))) None
pass_by (a ∷ b ∷ c ∷ d ∷ e ∷ f ∷ fs) = None

unfoldable pub undo_by : List (List ℕ) → Option Line
undo_by [] = Some Undo
undo_by (a ∷ fs) = None

-- a word, then its numbers
unfoldable pub meant_by : List (List ℕ) → Option Line
meant_by [] = None
meant_by (w ∷ fs) = cond (same w map_word) (map_by fs) (cond (same w pass_word) (pass_by fs) (cond (same w undo_word) (undo_by fs) None))

-- a line, without its line feed; a bad one means nothing
unfoldable pub meaning_of : List ℕ → Option Line
meaning_of l = meant_by (fields_of l)
