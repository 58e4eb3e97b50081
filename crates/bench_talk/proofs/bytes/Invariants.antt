-- `bench_talk::bytes` meets its contract. The invariant: the bytes so far have been heard. Assumes nothing.
use Rattle.loops.specs.Loop.{loop}
use Rattle.bench_lines.specs.Obey.{Fit}
use Rattle.bench_lines.specs.Reader.{Heard, heard_at}
use Rattle.bench_talk.specs.Hears.{Hears}
use Rattle.bench_talk.proofs.bytes.Given as goal

abbrev pub invariant-loop-c : goal.invariant-loop-c
invariant-loop-c g l = Fit l.t.bench l.map l.log × ((h : Heard) → Hears l.initial.t l.initial.map l.initial.log h → Hears l.t l.map l.log (loop (heard_at l.read) 0 l.c-index h))
