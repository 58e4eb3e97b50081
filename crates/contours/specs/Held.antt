-- How tables by edge number hold a map and two sets of edges. Definitions only.
use Rattle.std.specs.Prelude.{◌≡◌, ℕ, ◌<◌, Bool, false, cond, List, length, slice_index}
use Rattle.std.proofs.Math.Option.{Option, none, some}
use Rattle.contours.specs.Edge.{edge, nothing}
use Rattle.contours.specs.Curve.{EdgeSet, EdgeMap, Joints}
use Rattle.contours.specs.Chain.{Tables}
use Rattle.contours.specs.declared.edge.EdgeNo.{EdgeNo}

-- the byte of an edge that is used or not, and led into or not
abbrev pub mark_of : Bool → Bool → ℕ
mark_of used has_prev = cond used 1 (cond has_prev 2 0)

-- the bytes of e edges
pub record HoldsMarks (e : ℕ) (used has_prev : EdgeSet) (marks : List ℕ) : Type 0 where
  pub long : length marks ≡ e
  pub mark : (i : ℕ) → i < e → slice_index marks i ≡ mark_of (used (edge i)) (has_prev (edge i))

-- the number that stands for an edge or for none
abbrev pub or_nothing : Option EdgeNo → ℕ
or_nothing none = nothing
or_nothing (some e) = e.0

-- what is there is one of e edges
abbrev pub LeadsTo : ℕ → Option EdgeNo → Type 0
LeadsTo e none = Unit {0}
LeadsTo e (some n) = n.0 < e

-- the table of e edges, and each leads to one of them
pub record HoldsNext (e : ℕ) (next : EdgeMap) (table : List ℕ) : Type 0 where
  pub long : length table ≡ e
  pub entry : (i : ℕ) → i < e → slice_index table i ≡ or_nothing (next (edge i))
  pub leads : (i : ℕ) → i < e → LeadsTo e (next (edge i))

-- the tables of e edges, before any is used
pub record HoldsTables (e : ℕ) (j : Joints) (t : Tables) : Type 0 where
  pub next : HoldsNext e j.next t.next
  pub marks : HoldsMarks e (λ k. false) j.has_prev t.marks
