-- Slices whose places from some place on are set to one value. Definitions only.
use Rattle.std.specs.Prelude.{List, ◌++◌, ℕ, ◌-◌, ◌*◌, length, take, replicate, Float}
use Rattle.geom.specs.Vec.{f0}
use Rattle.field.specs.Field.{s0}
use Rattle.report.specs.declared.clear.Used.{Used}

-- the first k places as they were, then the value
unfoldable pub blank_from : {A : Type 0} → A → ℕ → List A → List A
blank_from v k l = take k l ++ replicate (length l - k) v

-- ---- all that is lent

pub record Lent : Type 0 where
  pub bytes : List ℕ
  pub words : List ℕ
  pub singles : List Float
  pub doubles : List Float
  pub rows : List ℕ
  pub triples : List Float

abbrev pub lent : List ℕ → List ℕ → List Float → List Float → List ℕ → List Float → Lent
lent b u f w r t = record { bytes = b; words = u; singles = f; doubles = w; rows = r; triples = t }

abbrev pub used : ℕ → ℕ → ℕ → Used
used cells rows triples = record { cells = cells; rows = rows; triples = triples }

-- a list at the head of a slice of n places, then the value
unfoldable pub headed : {A : Type 0} → A → ℕ → List A → List A
headed v n l = l ++ replicate (n - length l) v

-- what is used of map, rows and triples, and zeros everywhere else, whatever it held
unfoldable pub cleared_to : Used → List ℕ → List ℕ → List Float → Lent → Lent
cleared_to c m rows triples l =
    lent (headed 0 (length l.bytes) (take c.cells m)) (replicate (length l.words) 0) (replicate (length l.singles) s0) (replicate (length l.doubles) f0)
    (headed 0 (length l.rows) (take (3 * c.rows) rows)) (headed f0 (length l.triples) (take (3 * c.triples) triples))
