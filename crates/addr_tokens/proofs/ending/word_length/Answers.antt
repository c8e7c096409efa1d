use Rattle.std.proofs.Common.{◌≡◌, ◌+◌, ◌<◌, length, drop, get_or, sym, ◌∙◌, ap, arith, ⊎_elim}
use Rattle.std.proofs.lemmas.List.{take_rest, length-drop}
use Rattle.addr_tokens.specs.Reader.{takes_next}
use Rattle.addr_tokens.proofs.StepLemmas.{word_pair, word_end, ending_byte}
use Rattle.addr_tokens.proofs.ending.word_length.Goals as goal

pub bytes-preserved-then-takes_next : goal.bytes-preserved-then-takes_next
bytes-preserved-then-takes_next c =
    let text = c.args.text.now in
    let i = c.bytes.size in
    let after = take_rest text (i + 1) in
    let more : i + 1 < length text = omega arith in
    record {
      within = omega (arith, more);
      rest = λ alphabet table.
          sym (word_pair text i c.bytes-test.true more alphabet (ap (takes_next alphabet (get_or text i 0)) (sym after) ∙ sym (c.takes_next.ensures.value alphabet table) ∙ c.if-takes_next.true))
          ∙ c.bytes.invariant.rest alphabet table;
    }

pub returns-then-size-text-clause-rest : goal.returns-then-size-text-clause-rest
returns-then-size-text-clause-rest c = λ alphabet table.
    let text = c.args.text.now in
    let i = c.bytes.size in
    let after = take_rest text (i + 1) in
    let none : length (drop (i + 1) text) ≡ 0 = omega (arith, length-drop (i + 1) text) in
    let slash : get_or text i 0 ≡ 92 = ⊎_elim (λ is. is) (λ some. omega (arith, some, ap length after, none)) (c.takes_next.ensures.some c.if-takes_next.true) in
    word_end text i c.bytes-test.true slash none alphabet ∙ c.bytes.invariant.rest alphabet table

pub returns-then-byte-ne36-clause-rest : goal.returns-then-byte-ne36-clause-rest
returns-then-byte-ne36-clause-rest c = λ alphabet table.
    let text = c.args.text.now in
    let i = c.bytes.size in
    ending_byte text i c.bytes-test.true alphabet (c.is_lone.ensures.asked alphabet table c.if-is_lone.false) c.if-byte-ne92.true c.if-byte-ne36.true ∙ c.bytes.invariant.rest alphabet table
