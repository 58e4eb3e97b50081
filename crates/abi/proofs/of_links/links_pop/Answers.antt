-- `abi::of_links::links_pop` meets its contract. Assumes nothing.
use mathlib.Core.Path.{◌≡◌, sym, ap, subst}
use mathlib.Core.List.{List}
use Prim.Native.Nat.{ℕ, ◌<◌}
use lib.ListN.{length, set}
use lib.Seq.{get_or-set_same}
use lib.Ieee.{Float, nan}
use Rattle.links.specs.declared.heap.Entry.{Entry}
use Rattle.links.specs.Heap.{Popped}
use Rattle.abi.specs.Links.{entry_of, popped_in}
use Rattle.abi.proofs.of_links.links_pop.Goals as goal

-- the entry is put together again
whole : (est : List Float) (e : Entry) → 0 < length est → e ≡ popped_in (set est 0 e.est) e.node.0
unfolding popped_in entry_of
whole est e h = sym (ap (λ (x : Float). entry_of x e.node.0) (get_or-set_same est 0 e.est nan h))

parted : (ests : List Float) (nodes : List ℕ) (n : ℕ) (e : Entry) (ests' : List Float) (nodes' : List ℕ) (est : List Float) → 0 < length est
    → Popped ests nodes n e ests' nodes' → Popped ests nodes n (popped_in (set est 0 e.est) e.node.0) ests' nodes'
parted ests nodes n e ests' nodes' est h p = subst (λ (x : Entry). Popped ests nodes n x ests' nodes') (whole est e h) p

pub returns : goal.returns
returns c = parted _ _ _ _ _ _ c.args.est.now c.requires.est_nonzero c.pop-e.ensures
