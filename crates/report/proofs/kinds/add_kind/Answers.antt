-- `report::kinds::add_kind` meets its contract. Assumes nothing.
use mathlib.Core.Path.{refl}
use Rattle.report.proofs.kinds.add_kind.Goals as goal

pub returns-in-Helix : goal.returns-in-Helix
returns-in-Helix c = rw (c.in-Some.is, c.in-Helix.is) refl

pub returns-in-Plunge : goal.returns-in-Plunge
returns-in-Plunge c = rw (c.in-Some.is, c.in-Plunge.is) refl

pub returns-in-Link : goal.returns-in-Link
returns-in-Link c = rw (c.in-Some.is, c.in-Link.is) refl

pub returns-in-Cut : goal.returns-in-Cut
returns-in-Cut c = rw (c.in-Some.is, c.in-Cut.is) refl
