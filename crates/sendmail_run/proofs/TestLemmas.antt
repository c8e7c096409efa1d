-- How the answers to the lines of input go on and end.
use Rattle.std.proofs.Common.{◌≡◌, ℕ, ◌+◌, ◌<◌, ◌≤◌, ◌^◌, List, [], ◌++◌, length, take, Bool, true, false, Option, Some, None, refl, sym, ◌∙◌, ap, subst, arith, append-nil, append_assoc, length-append, inl, inr}
use Rattle.std.proofs.lemmas.List.{length-take-le}
use Rattle.std.specs.Prelude.{IfSome, ◌↔◌}
use Rattle.mail_base.specs.Histories.{Gains, Rose}
use Rattle.mail_base.proofs.Gaining.{gains_join}
use Rattle.mail_edge.specs.Seen.{SourceSeen, SinkSeen}
use Rattle.mail_edge.specs.Moves.{Loses, GainsPart}
use Rattle.mail_edge.proofs.Giving.{part_whole, part_none, part_join}
use Rattle.mail_edge.proofs.Taking.{loses_none, loses_join}
use Rattle.mail_edge.proofs.Causing.{rose_since}
use Rattle.sendmail_run.specs.declared.address_test.TestEnd.TheVariants as ends
use Rattle.sendmail_run.specs.declared.input.Partial.{Partial}
use Rattle.sendmail_run.specs.declared.outcome.Outcome.{Outcome}
use Rattle.sendmail_run.specs.Devices.{Streams, streams}
use Rattle.cf_reader.specs.LogicalLines.{physical_lines}
use Rattle.addr_test.specs.declared.answers.Reply.{Reply}
use Rattle.addr_test.specs.declared.answers.Reply.TheVariants.{Lines, Quit}
use Rattle.addr_test.specs.Answers.{Answers}
use Rattle.addr_test.specs.Printing.{Printed}
use Rattle.mail_base.specs.declared.config.Config.{Config}
use Rattle.sendmail_run.specs.Printing.{Basis, Prints, warnings_text}
use Rattle.sendmail_run.specs.Rises.{RisesOnlyAt}
use Rattle.sendmail_run.specs.inner.Taking.{Keeps, Stands, Quits, At, Answered, lines_of}
use Rattle.sendmail_run.specs.Testing.{Tests, IsDone, IsCutOff, IsBroken, WritesFront, ended_lines}
use Rattle.sendmail_run.proofs.EndedLemmas.{stands_none, stands_printed, stands_on, stands_front, stands_last, text_of}

-- the warnings and then the answers are printed
abbrev warned : Basis → List ℕ → List ℕ
warned basis text = warnings_text basis.config.warnings ++ text

prints : (basis : Basis) (lines : List (List ℕ)) (text : List ℕ) (last : Config) → Printed basis.maps basis.config lines text last → Prints basis lines (warned basis text)
prints basis lines text last printed = (text, last, printed, refl)

-- more is written behind the warnings
gains_more : (basis : Basis) (a b c : Option (List ℕ)) (text answers : List ℕ) → Gains a b (warned basis text) → Gains b c answers → Gains a c (warned basis (text ++ answers))
gains_more basis a b c text answers h k = subst (λ (t : List ℕ). Gains a c t) (append_assoc (warnings_text basis.config.warnings) text answers) (gains_join a b c (warned basis text) answers h k)

part_more : (basis : Basis) (a b c : Option (List ℕ)) (text answers : List ℕ) → Gains a b (warned basis text) → GainsPart b c answers → GainsPart a c (warned basis (text ++ answers))
part_more basis a b c text answers h k = subst (λ (t : List ℕ). GainsPart a c t) (append_assoc (warnings_text basis.config.warnings) text answers) (part_join a b c (warned basis text) answers h k)

-- before anything is taken, the warnings being written
pub at_start : (basis : Basis) (i : SourceSeen) (o0 o1 : SinkSeen) (partial : Partial) (text : List ℕ) → text ≡ warnings_text basis.config.warnings → Gains o0.written o1.written text → o0.faults ≤ o1.faults → Keeps partial [] → At basis basis.config (streams i o0) (streams i o1) [] [] partial
at_start basis i o0 o1 partial text is gains later keeps = record {
  few = omega arith;
  text = [];
  takes = loses_none i.left;
  writes = subst (λ (t : List ℕ). Gains o0.written o1.written t) (is ∙ sym (append-nil (warnings_text basis.config.warnings))) gains;
  stands = stands_none basis partial keeps;
  input = omega arith;
  output = later;
}

-- it ends before anything is taken, in the midst of the warnings
broken_at_start : (basis : Basis) (i : SourceSeen) (o0 o1 : SinkSeen) → GainsPart o0.written o1.written (warned basis []) → IsBroken basis (streams i o0) (streams i o1)
broken_at_start basis i o0 o1 part = record {
  taken = [];
  few = omega arith;
  takes = loses_none i.left;
  writes = record { first = []; later = []; lines = inl refl; text = warned basis []; printed = prints basis [] [] basis.config (refl, refl); written = part };
}

-- no memory before anything is taken
pub none_taken : (basis : Basis) (i : SourceSeen) (o : SinkSeen) → IsBroken basis (streams i o) (streams i o)
none_taken basis i o = broken_at_start basis i o o (part_none o.written (warned basis []))

-- the warnings broke off
pub at_warning_fault : (basis : Basis) (i : SourceSeen) (o0 o1 : SinkSeen) (text : List ℕ) → text ≡ warnings_text basis.config.warnings → GainsPart o0.written o1.written text → Rose o0.faults o1.faults → Tests basis (streams i o0) (streams i o1) ends.WriteFault
at_warning_fault basis i o0 o1 text is part rose =
    (broken_at_start basis i o0 o1 (subst (λ (t : List ℕ). GainsPart o0.written o1.written t) (is ∙ sym (append-nil (warnings_text basis.config.warnings))) part), rose)

-- more is taken
pub at_taken : (basis : Basis) (current : Config) (before : Streams) (i0 i1 : SourceSeen) (o : SinkSeen) (all taken bytes : List ℕ) (partial : Partial)
    → At basis current before (streams i0 o) all taken partial → Loses i0.left i1.left bytes → i0.faults ≤ i1.faults → length (all ++ bytes) ≤ 2 ^ 32 → At basis current before (streams i1 o) (all ++ bytes) taken partial
at_taken basis current before i0 i1 o all taken bytes partial at loses later few = record {
  few = few;
  text = at.text;
  takes = loses_join before.input.left i0.left i1.left all bytes at.takes loses;
  writes = at.writes;
  stands = at.stands;
  input = omega (arith, at.input);
  output = at.output;
}

-- the ended lines are answered
pub at_cut_off : (basis : Basis) (current : Config) (before : Streams) (i0 i1 : SourceSeen) (o : SinkSeen) (taken : List ℕ) (partial : Partial)
    → At basis current before (streams i0 o) taken taken partial → i1.left ≡ i0.left → IsCutOff basis before (streams i1 o) taken
at_cut_off basis current before i0 i1 o taken partial at same = record {
  text = warned basis at.text;
  takes = subst (λ (left : Option (List ℕ)). Loses before.input.left left taken) (sym same) at.takes;
  writes = at.writes;
  printed = prints basis (ended_lines taken) at.text current (stands_printed basis current taken at.text partial at.stands);
  on = stands_on basis current taken at.text partial at.stands;
}

-- no memory for the answers to a piece
pub at_broken : (basis : Basis) (current : Config) (before : Streams) (i : SourceSeen) (o : SinkSeen) (taken more : List ℕ) (partial : Partial)
    → At basis current before (streams i o) (taken ++ more) taken partial → IsBroken basis before (streams i o)
at_broken basis current before i o taken more partial at = record {
  taken = taken ++ more;
  few = at.few;
  takes = at.takes;
  writes = record {
    first = lines_of at.stands.raws;
    later = ended_lines (at.stands.rest ++ more);
    lines = inl (stands_front basis current taken at.text partial more at.stands);
    text = warned basis at.text;
    printed = prints basis (lines_of at.stands.raws) at.text current at.stands.printed;
    written = part_whole before.output.written o.written (warned basis at.text) at.writes;
  };
}

-- where all input was taken, an address test may break off
pub at_broken_last : (basis : Basis) (current : Config) (before : Streams) (i : SourceSeen) (o : SinkSeen) (taken : List ℕ) (partial : Partial)
    → At basis current before (streams i o) taken taken partial → IsBroken basis before (streams i o)
at_broken_last basis current before i o taken partial at =
    at_broken basis current before i o taken [] partial (subst (λ (all : List ℕ). At basis current before (streams i o) all taken partial) (sym (append-nil taken)) at)

front_of : (basis : Basis) (after : Config) (all : List ℕ) (before now : Streams) (partial : Partial) (whole : List ℕ) (quit : Bool) → Answered basis after all partial whole quit → GainsPart before.output.written now.output.written (warned basis whole) → WritesFront basis all before now
front_of basis after all before now partial whole true quits part = record {
  first = ended_lines all;
  later = [];
  lines = inl (sym (append-nil (ended_lines all)));
  text = warned basis whole;
  printed = prints basis (ended_lines all) whole quits.last quits.among;
  written = part;
}
front_of basis after all before now partial whole false stands part = record {
  first = ended_lines all;
  later = [];
  lines = inl (sym (append-nil (ended_lines all)));
  text = warned basis whole;
  printed = prints basis (ended_lines all) whole after (stands_printed basis after all whole partial stands);
  written = part;
}

-- the answers to a piece broke off
pub at_write_fault : (basis : Basis) (current after : Config) (before : Streams) (i : SourceSeen) (o0 o1 : SinkSeen) (all taken : List ℕ) (old new : Partial) (answers : List ℕ) (quit : Bool)
    → At basis current before (streams i o0) all taken old → ((text : List ℕ) → Stands basis current taken old text → Answered basis after all new (text ++ answers) quit) → GainsPart o0.written o1.written answers → Rose o0.faults o1.faults → Tests basis before (streams i o1) ends.WriteFault
at_write_fault basis current after before i o0 o1 all taken old new answers quit at answered part rose = (
  record {
    taken = all;
    few = at.few;
    takes = at.takes;
    writes = front_of basis after all before (streams i o1) new (at.text ++ answers) quit (answered at.text at.stands) (part_more basis before.output.written o0.written o1.written at.text answers at.writes part);
  },
  rose_since before.output.faults o0.faults o1.faults at.output rose,
)

-- the line `/quit` came
pub at_quit : (basis : Basis) (current after : Config) (before : Streams) (i : SourceSeen) (o0 o1 : SinkSeen) (all taken : List ℕ) (old new : Partial) (answers : List ℕ) (quit : Bool)
    → At basis current before (streams i o0) all taken old → ((text : List ℕ) → Stands basis current taken old text → Answered basis after all new (text ++ answers) quit) → quit ≡ true → Gains o0.written o1.written answers → IsDone basis before (streams i o1)
at_quit basis current after before i o0 o1 all taken old new answers quit at answered is gains =
    let quits : Quits basis all (at.text ++ answers) = subst (λ (q : Bool). Answered basis after all new (at.text ++ answers) q) is (answered at.text at.stands) in
    record {
      taken = all;
      text = warned basis (at.text ++ answers);
      takes = at.takes;
      writes = gains_more basis before.output.written o0.written o1.written at.text answers at.writes gains;
      printed = prints basis (physical_lines all) (at.text ++ answers) quits.last quits.printed;
      over = inr (quits.quit, at.few);
    }

-- the piece was answered
pub at_on : (basis : Basis) (current after : Config) (before : Streams) (i : SourceSeen) (o0 o1 : SinkSeen) (all taken : List ℕ) (old new : Partial) (answers : List ℕ) (quit : Bool)
    → At basis current before (streams i o0) all taken old → ((text : List ℕ) → Stands basis current taken old text → Answered basis after all new (text ++ answers) quit) → quit ≡ false → Gains o0.written o1.written answers → o0.faults ≤ o1.faults → At basis after before (streams i o1) all all new
at_on basis current after before i o0 o1 all taken old new answers quit at answered is gains later =
    let stands : Stands basis after all new (at.text ++ answers) = subst (λ (q : Bool). Answered basis after all new (at.text ++ answers) q) is (answered at.text at.stands) in
    record {
      few = at.few;
      text = at.text ++ answers;
      takes = at.takes;
      writes = gains_more basis before.output.written o0.written o1.written at.text answers at.writes gains;
      stands = stands;
      input = at.input;
      output = omega (arith, at.output);
    }

-- all lines are printed with the reply to the last
last_prints : (basis : Basis) (current after : Config) (before now : Streams) (taken : List ℕ) (partial : Partial) (reply : Reply) (out : List ℕ)
    → (at : At basis current before now taken taken partial) → ((rest : List ℕ) → Keeps partial rest → Answers basis.maps current rest reply after) → text_of reply ≡ out → Prints basis (physical_lines taken) (warned basis (at.text ++ out))
last_prints basis current after before now taken partial reply out at answer is =
    prints basis (physical_lines taken) (at.text ++ out) after
    (subst (λ (t : List ℕ). Printed basis.maps basis.config (physical_lines taken) (at.text ++ t) after) is (stands_last basis current after taken at.text reply partial at.stands (answer at.stands.rest at.stands.keeps)))

-- the input came to its end
pub at_end : (basis : Basis) (current after : Config) (before : Streams) (i : SourceSeen) (o0 o1 : SinkSeen) (taken : List ℕ) (partial : Partial) (reply : Reply) (out : List ℕ) → IfSome i.left (λ left. left ≡ []) → length taken < 2 ^ 32
    → At basis current before (streams i o0) taken taken partial → ((rest : List ℕ) → Keeps partial rest → Answers basis.maps current rest reply after) → reply ≡ Lines out → Gains o0.written o1.written out → IsDone basis before (streams i o1)
at_end basis current after before i o0 o1 taken partial reply out over few at answer is gains = record {
  taken = taken;
  text = warned basis (at.text ++ out);
  takes = at.takes;
  writes = gains_more basis before.output.written o0.written o1.written at.text out at.writes gains;
  printed = last_prints basis current after before (streams i o0) taken partial reply out at answer (ap text_of is);
  over = inl (over, few);
}

-- the input came to its end behind `/quit`
pub at_end_quit : (basis : Basis) (current after : Config) (before : Streams) (i : SourceSeen) (o : SinkSeen) (taken : List ℕ) (partial : Partial) (reply : Reply) → IfSome i.left (λ left. left ≡ []) → length taken < 2 ^ 32
    → At basis current before (streams i o) taken taken partial → ((rest : List ℕ) → Keeps partial rest → Answers basis.maps current rest reply after) → reply ≡ Quit → IsDone basis before (streams i o)
at_end_quit basis current after before i o taken partial reply over few at answer is = record {
  taken = taken;
  text = warned basis (at.text ++ []);
  takes = at.takes;
  writes = subst (λ (t : List ℕ). Gains before.output.written o.written (warned basis t)) (sym (append-nil at.text)) at.writes;
  printed = last_prints basis current after before (streams i o) taken partial reply [] at answer (ap text_of is);
  over = inl (over, few);
}

-- a failed write of the last line's answer ends an address test with WriteFault
pub at_end_fault : (basis : Basis) (current after : Config) (before : Streams) (i : SourceSeen) (o0 o1 : SinkSeen) (taken : List ℕ) (partial : Partial) (reply : Reply) (out : List ℕ) → IfSome i.left (λ left. left ≡ [])
    → At basis current before (streams i o0) taken taken partial → ((rest : List ℕ) → Keeps partial rest → Answers basis.maps current rest reply after) → reply ≡ Lines out → GainsPart o0.written o1.written out → Rose o0.faults o1.faults → Tests basis before (streams i o1) ends.WriteFault
at_end_fault basis current after before i o0 o1 taken partial reply out over at answer is part rose = (
  record {
    taken = taken;
    few = at.few;
    takes = at.takes;
    writes = record {
      first = physical_lines taken;
      later = [];
      lines = inr (over, sym (append-nil (physical_lines taken)));
      text = warned basis (at.text ++ out);
      printed = last_prints basis current after before (streams i o0) taken partial reply out at answer (ap text_of is);
      written = part_more basis before.output.written o0.written o1.written at.text out at.writes part;
    };
  },
  rose_since before.output.faults o0.faults o1.faults at.output rose,
)

-- a failed read ends an address test with ReadFault
pub at_read_fault : (basis : Basis) (current : Config) (before : Streams) (i0 i1 : SourceSeen) (o : SinkSeen) (taken : List ℕ) (partial : Partial)
    → At basis current before (streams i0 o) taken taken partial → length taken < 2 ^ 32 → i1.left ≡ i0.left → Rose i0.faults i1.faults → Tests basis before (streams i1 o) ends.ReadFault
at_read_fault basis current before i0 i1 o taken partial at few same rose = record {
  taken = taken;
  few = few;
  cut = at_cut_off basis current before i0 i1 o taken partial at same;
  rose = rose_since before.input.faults i0.faults i1.faults at.input rose;
}

-- after 2^32 bytes of input an address test ends with InputLarge
pub at_large : (basis : Basis) (current : Config) (before : Streams) (i : SourceSeen) (o : SinkSeen) (taken : List ℕ) (partial : Partial)
    → At basis current before (streams i o) taken taken partial → length taken ≡ 4294967296 → Tests basis before (streams i o) ends.InputLarge
at_large basis current before i o taken partial at large = record { taken = taken; all = large; cut = at_cut_off basis current before i i o taken partial at refl }

-- nothing comes at the end
pub at_same : (basis : Basis) (current : Config) (before : Streams) (i0 i1 : SourceSeen) (o : SinkSeen) (taken bytes : List ℕ) (count : ℕ) (partial : Partial)
    → At basis current before (streams i0 o) taken taken partial → Loses i0.left i1.left (take count bytes) → count ≡ 0 → i0.faults ≤ i1.faults → At basis current before (streams i1 o) taken taken partial
at_same basis current before i0 i1 o taken bytes count partial at loses none later =
    let few : length (taken ++ []) ≤ 2 ^ 32 = subst (λ (all : List ℕ). length all ≤ 2 ^ 32) (sym (append-nil taken)) at.few in
    subst (λ (all : List ℕ). At basis current before (streams i1 o) all taken partial) (append-nil taken) (at_taken basis current before i0 i1 o taken taken [] partial at (subst (λ (n : ℕ). Loses i0.left i1.left (take n bytes)) none loses) later few)

-- and nothing is left there
pub left_none : (a b : Option (List ℕ)) (bytes : List ℕ) (count : ℕ) → Loses a b (take count bytes) → IfSome a (λ left. (count ≡ 0) ↔ (left ≡ [])) → count ≡ 0 → IfSome b (λ left. left ≡ [])
left_none None None bytes count h end none = tt
left_none None (Some y) bytes count h end none = absurd h
left_none (Some x) None bytes count h end none = absurd h
left_none (Some x) (Some y) bytes count h end none =
    let all : x ≡ [] = end.0 none in
    sym (h ∙ ap (λ (n : ℕ). take n bytes ++ y) none) ∙ all

-- a count that stayed before has risen only then
pub rises_since : (fault outcome : Outcome) (first before now : ℕ) → before ≡ first → RisesOnlyAt fault outcome before now → RisesOnlyAt fault outcome first now
rises_since fault outcome first before now same (inl ended) = inl ended
rises_since fault outcome first before now same (inr still) = inr (still ∙ same)

-- a number is no greater than itself
pub same_count : (n : ℕ) → n ≤ n
same_count n = omega arith

-- so many bytes more make the count of those taken so much greater
pub taken_length : (taken bytes : List ℕ) (total count : ℕ) → length taken ≡ total → count ≤ length bytes → length (taken ++ take count bytes) ≡ total + count
taken_length taken bytes total count is le = omega (arith, is, length-append taken (take count bytes), length-take-le count bytes le)

-- bytes within the limit are taken within it
pub taken_few : (taken bytes : List ℕ) (total count : ℕ) → length taken ≡ total → count ≤ length bytes → total + count ≤ 4294967296 → length (taken ++ take count bytes) ≤ 4294967296
taken_few taken bytes total count is le room = omega (arith, taken_length taken bytes total count is le, room)

-- a count below the limit says that fewer bytes were taken
pub below : (taken : List ℕ) (total : ℕ) → length taken ≡ total → total < 4294967296 → length taken < 4294967296
below taken total is lt = omega (arith, is, lt)
