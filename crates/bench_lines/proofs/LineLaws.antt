-- The sides that a line names are 1 to 64. Assumes nothing.
use mathlib.Core.Path.{◌≡◌, sym, subst}
use mathlib.Core.Bool.{Bool, true, false}
use Rattle.std.specs.Prelude.{Option, Some, None, IfSome}
use Prim.Native.Nat.{ℕ}
use lib.Dec.{eqb, ltb, leb}
use borrow.Author.Tests.{ltb-true, leb-true}
use Rattle.loops.proofs.Cases.{by_test, never}
use Rattle.bench_lines.specs.Line.{Side, Sound, side_of, map_of, pass_of, undo_of, word_of, line_of}
use Rattle.bench_lines.specs.declared.words.Words.{Words}
use Rattle.bench_lines.specs.declared.line.Line.{Line}

side : (n : ℕ) → side_of n ≡ true → Side n
unfolding side_of
side n e = by_test (λ (t : Bool). t ≡ true → Side n) (ltb 0 n) (leb n 64) false (λ a b. record { some = ltb-true _ _ a; most = leb-true _ _ b }) (λ a b. never b) e

-- no line, or one whose sides are 1 to 64
abbrev Right : Option Line → Type 0
Right l = IfSome l Sound

sound_map : (w : Words) → Right (map_of w)
unfolding map_of
sound_map w =
    by_test Right (eqb w.count 2) _ _
    (λ e. by_test Right (side_of w.d) _ _ (λ a. by_test Right (side_of w.last) _ _ (λ b. record { columns = side _ a; rows = side _ b }) (λ b. tt)) (λ a. tt))
    (λ e. tt)

sound_pass : (w : Words) → Right (pass_of w)
unfolding pass_of
sound_pass w = by_test Right (eqb w.count 5) _ _ (λ e. tt) (λ e. tt)

sound_undo : (w : Words) → Right (undo_of w)
unfolding undo_of
sound_undo w = by_test Right (eqb w.count 0) _ _ (λ e. tt) (λ e. tt)

sound_word : (w : Words) → Right (word_of w)
unfolding word_of
sound_word w =
    by_test Right (eqb w.word 0x6d6170) _ _ (λ e. sound_map w)
    (λ e. by_test Right (eqb w.word 0x70617373) _ _ (λ e. sound_pass w) (λ e. by_test Right (eqb w.word 0x756e646f) _ _ (λ e. sound_undo w) (λ e. tt)))

sound_line : (w : Option Words) → Right (line_of w)
unfolding line_of
sound_line None = tt
sound_line (Some w) = by_test Right w.empty _ _ (λ e. tt) (λ e. sound_word w)

pub sound : (w : Option Words) (l : Option Line) → l ≡ line_of w → IfSome l Sound
sound w l e = subst Right (sym e) (sound_line w)
