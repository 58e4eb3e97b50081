-- How many chunks of each kind are listed: the rows are read one by one. Definitions only.
use Rattle.std.specs.Prelude.{List, ℕ, ◌+◌, Option, Some, None, Float}
use Rattle.loops.specs.Loop.{loop}
use Rattle.events.specs.Read.{read_at}
use Rattle.events.specs.declared.list.Read.{Read}
use Rattle.events.specs.declared.list.Read.TheVariants.{Helix, Plunge, Link, Cut}
use Rattle.report.specs.declared.kinds.Kinds.{Kinds}

abbrev pub kinds : ℕ → ℕ → ℕ → ℕ → Kinds
kinds passes helices plunges links = record { passes = passes; helices = helices; plunges = plunges; links = links }

-- how many chunks were counted
abbrev pub total : Kinds → ℕ
total t = t.passes + t.helices + t.plunges + t.links

-- match c { Cut => passes += 1, Helix => helix_entries += 1, Link => links += 1, Plunge => retracts += 1 }; a row that is no chunk counts for none
abbrev pub counting : Option Read → Kinds → Kinds
counting (Some (Helix c rad)) t = kinds t.passes (t.helices + 1) t.plunges t.links
counting (Some (Plunge p)) t = kinds t.passes t.helices (t.plunges + 1) t.links
counting (Some (Link p)) t = kinds t.passes t.helices t.plunges (t.links + 1)
counting (Some (Cut first count)) t = kinds (t.passes + 1) t.helices t.plunges t.links
counting None t = t

abbrev pub count_row : List ℕ → List Float → ℕ → Kinds → Kinds
count_row rows ts k t = counting (read_at rows ts k) t

-- of the first n rows
unfoldable pub kinds_of : List ℕ → List Float → ℕ → Kinds
kinds_of rows ts n = loop (count_row rows ts) 0 n (kinds 0 0 0 0)
