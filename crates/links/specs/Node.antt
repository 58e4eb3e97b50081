-- Nodes of the lattice by their numbers. Definitions only.
use Rattle.std.specs.Prelude.{List, ℕ, get_or}
use Rattle.links.specs.declared.NodeNo.{NodeNo}

abbrev pub node_no : ℕ → NodeNo
node_no v = record { 0 = v }

-- the node that a slice of numbers has at i
abbrev pub node_in : List ℕ → ℕ → NodeNo
node_in nodes i = node_no (get_or nodes i 0)
