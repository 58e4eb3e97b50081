-- What a talk has heard, byte by byte and line by line. Assumes nothing.
use Rattle.std.proofs.Common.{◌≡◌, ℕ, ◌+◌, ◌%◌, ◌^◌, Bool, true, false, eqb, List, [], ◌∷◌, ◌++◌, sym, refl, ap, ◌∙◌, subst, eq-eqb, ne_eqb, not, Option, Some, None, is_some, is_none}
use Rattle.loops.specs.Each.{over}
use Rattle.loops.proofs.EachLaws.{over_more}
use Rattle.bench_lines.specs.Words.{no_words, step_of}
use Rattle.bench_lines.specs.Line.{line_of, words_of}
use Rattle.bench_lines.specs.Meaning.{meaning_of}
use Rattle.bench_lines.specs.Obey.{Out, out, no_map, obeyed}
use Rattle.bench_lines.specs.Reader.{Heard, silent, line_heard, byte_heard, begun_of, end_heard}
use Rattle.bench_lines.specs.declared.words.Words.{Words}
use Rattle.bench_lines.specs.declared.obey.Bench.{Bench}
use Rattle.bench_lines.specs.declared.obey.Done.{Done}
use Rattle.bench_lines.specs.declared.obey.Answer.{Answer}
use Rattle.bench_lines.proofs.CondLaws.{if_so, if_not}
use Rattle.bench_lines.proofs.MeaningLaws.{meaning_is}
use Rattle.bench_talk.specs.Hears.{Hears, Left, answer_to}
use Rattle.bench_talk.specs.declared.Talk.{Talk}

abbrev pub talk : Bench → Option Words → Bool → ℕ → Bool → Talk
talk b w s n e = record { bench = b; words = w; begun = s; number = n; ended = e }

none_is : (a : Option Answer) (e : Bool) → is_some a ≡ not e → e ≡ is_none a
none_is (Some x) true h = h
none_is (Some x) false h = refl
none_is None true h = refl
none_is None false h = h

pub hears_start : (b : Bench) (w : Words) → b ≡ no_map → w ≡ no_words → (m l : List ℕ) → Hears (talk b (Some w) false 1 false) m l (silent m l)
unfolding silent words_of over begun_of
hears_start b w B W m l = record { bench = B; cells = refl; log = refl; words = ap Some W; begun = refl; number = refl; ended = refl }

begun_more : (l : List ℕ) (c : ℕ) → begun_of (l ++ (c ∷ [])) ≡ true
unfolding begun_of
begun_more [] c = refl
begun_more (d ∷ l) c = refl

module _ (t : Talk) (m l : List ℕ) (h : Heard) (H : Hears t m l h) where
  -- the line that ends here is obeyed by what it means
  obeyed-so : obeyed t.bench (line_of t.words) m l ≡ obeyed h.bench (meaning_of h.line) h.cells h.log
  obeyed-so =
      let e : line_of t.words ≡ meaning_of h.line = ap line_of H.words ∙ meaning_is h.line in
      λ i. obeyed (H.bench i) (e i) (H.cells i) (H.log i)

  module _ (d : Done) (m' l' : List ℕ) (o : out d m' l' ≡ obeyed t.bench (line_of t.words) m l) where
    pub hears_line : (w : Words) (n : ℕ) (e : Bool) → w ≡ no_words → n ≡ (t.number + 1) % 2 ^ 64 → is_some d.answer ≡ not e → Hears (talk d.bench (Some w) false n e) m' l' (line_heard h)
    unfolding line_heard words_of over begun_of
    hears_line w n e W N E =
        let p = o ∙ obeyed-so in
        record {
          bench = ap (λ (x : Out). x.done.bench) p;
          cells = ap (λ (x : Out). x.cells) p;
          log = ap (λ (x : Out). x.log) p;
          words = ap Some W;
          begun = refl;
          number = N ∙ ap (λ (k : ℕ). (k + 1) % 2 ^ 64) H.number;
          ended = none_is d.answer e E ∙ ap (λ (x : Out). is_none x.done.answer) p;
        }

    pub answer_heard : d.answer ≡ answer_to h
    unfolding answer_to
    answer_heard = ap (λ (x : Out). x.done.answer) (o ∙ obeyed-so)

  -- after a bad line nothing is heard
  pub hears_ended : (c : ℕ) → t.ended ≡ true → Hears t m l (byte_heard c h)
  unfolding byte_heard
  hears_ended c e = subst (Hears t m l) (if_so h.ended h _ (sym H.ended ∙ e)) H

  module _ (e : t.ended ≡ false) where
    on : h.ended ≡ false
    on = sym H.ended ∙ e

    -- what holds after the line holds after its line feed
    pub hears_feed : (P : Heard → Type 0) (c : ℕ) → c ≡ 10 → P (line_heard h) → P (byte_heard c h)
    unfolding byte_heard
    hears_feed P c C R = subst P (if_so (eqb c 10) (line_heard h) _ (eq-eqb c 10 C) ∙ if_not h.ended h _ on) R

    pub hears_byte : (c : ℕ) (w : Option Words) → (c ≡ 10 → ⊥) → w ≡ step_of c t.words → Hears (talk t.bench w true t.number t.ended) m l (byte_heard c h)
    unfolding byte_heard words_of
    hears_byte c w C W =
        subst (Hears (talk t.bench w true t.number t.ended) m l) (if_not (eqb c 10) (line_heard h) _ (ne_eqb c 10 C) ∙ if_not h.ended h _ on)
        (record {
          bench = H.bench;
          cells = H.cells;
          log = H.log;
          words = W ∙ ap (step_of c) H.words ∙ over_more step_of h.line c (Some no_words);
          begun = sym (begun_more h.line c);
          number = H.number;
          ended = H.ended;
        })

    -- what holds after the line holds after the end of the input, where it has begun
    pub hears_rest : (P : Heard → Type 0) → t.begun ≡ true → P (line_heard h) → P (end_heard h)
    unfolding end_heard
    hears_rest P b R = subst P (if_so (begun_of h.line) (line_heard h) h (sym H.begun ∙ b) ∙ if_not h.ended h _ on) R

    pub hears_no_rest : t.begun ≡ false → Hears t m l (end_heard h)
    unfolding end_heard
    hears_no_rest b = subst (Hears t m l) (if_not (begun_of h.line) (line_heard h) h (sym H.begun ∙ b) ∙ if_not h.ended h _ on) H

  pub hears_end : t.ended ≡ true → Hears t m l (end_heard h)
  unfolding end_heard
  hears_end e = subst (Hears t m l) (if_so h.ended h _ (sym H.ended ∙ e)) H

-- the map and the log of a talk
pub left_by : (t : Talk) (m l : List ℕ) (h : Heard) → Hears t m l h → Left m l h
left_by t m l h H = record { cells = H.cells; log = H.log }
