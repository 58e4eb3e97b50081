-- A leaf's answer as C has it: `refused` is 0 where there is an answer, and all else is 0 where there is none. Definitions only.
use Rattle.std.specs.Prelude.{ℕ, true, false, Option, Some, None, Result, Ok, Err, Float}
use Rattle.std.specs.Float.{binary32}
use Rattle.std.specs.Float.Ieee.{of_bits}
use Rattle.geom.specs.Vec.{f0}
use Rattle.raster.specs.declared.contact.Contact.{Contact}
use Rattle.pocket.specs.Refusals.{number_of}
use Rattle.pocket.specs.declared.refusals.Refusal.{Refusal}
use Rattle.pocket.specs.declared.answers.PocketCount.{PocketCount}
use Rattle.pocket.specs.declared.answers.PocketNumber.{PocketNumber}
use Rattle.pocket.specs.declared.answers.PocketSingle.{PocketSingle}
use Rattle.pocket.specs.declared.answers.PocketRim.{PocketRim}
use Rattle.pocket.specs.declared.answers.PocketCell.{PocketCell}

-- by any number of a refusal
unfoldable pub count_by : Result ℕ ℕ → PocketCount
count_by (Err r) = record { refused = r; count = 0 }
count_by (Ok n) = record { refused = 0; count = n }

unfoldable pub number_by : Result Float ℕ → PocketNumber
number_by (Err r) = record { refused = r; value = f0 }
number_by (Ok x) = record { refused = 0; value = x }

unfoldable pub single_by : Result Float ℕ → PocketSingle
single_by (Err r) = record { refused = r; value = of_bits binary32 0 }
single_by (Ok x) = record { refused = 0; value = x }

unfoldable pub rim_by : Result Contact ℕ → PocketRim
rim_by (Err r) = record { refused = r; hits = 0; samples = 0 }
rim_by (Ok t) = record { refused = 0; hits = t.hits; samples = t.samples }

unfoldable pub cell_by : Result (Option (ℕ × ℕ)) ℕ → PocketCell
cell_by (Err r) = record { refused = r; found = false; column = 0; row = 0 }
cell_by (Ok None) = record { refused = 0; found = false; column = 0; row = 0 }
cell_by (Ok (Some (i, j))) = record { refused = 0; found = true; column = i; row = j }

unfoldable pub done_by : Result Unit ℕ → ℕ
done_by (Err r) = r
done_by (Ok u) = 0

-- a leaf's refusal by its number
unfoldable pub numbered : {A : Type 0} → Result A Refusal → Result A ℕ
numbered (Err why) = Err (number_of why)
numbered (Ok x) = Ok x

abbrev pub of_count : Result ℕ Refusal → PocketCount
of_count a = count_by (numbered a)

abbrev pub of_number : Result Float Refusal → PocketNumber
of_number a = number_by (numbered a)

abbrev pub of_single : Result Float Refusal → PocketSingle
of_single a = single_by (numbered a)

abbrev pub of_rim : Result Contact Refusal → PocketRim
of_rim a = rim_by (numbered a)

abbrev pub of_cell : Result (Option (ℕ × ℕ)) Refusal → PocketCell
of_cell a = cell_by (numbered a)

abbrev pub of_done : Result Unit Refusal → ℕ
of_done a = done_by (numbered a)
