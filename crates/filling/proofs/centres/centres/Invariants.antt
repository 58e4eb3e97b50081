-- `filling::centres::centres` meets its contract. The invariant: the columns so far have their x. Assumes nothing.
use Rattle.filling.proofs.CentreLaws.{Centring}
use Rattle.filling.proofs.centres.centres.Given as goal

abbrev pub invariant-loop-i : goal.invariant-loop-i
invariant-loop-i l = Centring l.g l.i-end l.xs l.i
