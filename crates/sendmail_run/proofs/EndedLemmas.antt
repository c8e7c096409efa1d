-- Lines of input that are ended, the rest behind them, and the text that answers them.
use Rattle.std.proofs.Common.{◌≡◌, ℕ, suc, ◌+◌, ◌<◌, List, [], ◌∷◌, ◌++◌, length, take, drop, get_or, Bool, true, false, ◌||◌, Some, None, refl, sym, ◌∙◌, ap, subst, arith, append_assoc, append-nil, add-one, length-append}
use Rattle.std.specs.Prelude.{MatchBool}
use Rattle.std.specs.List.{list_any, flat_map, All}
use Rattle.std.specs.Str.Lines.{lines_of_parts, strip_carriage_return}
use Rattle.std.proofs.lemmas.List.Splits.{slice_split_at, slice_split_none}
use Rattle.std.proofs.lemmas.List.Folds.{list_any-append, list_any_at, list_any_none}
use Rattle.std.proofs.lemmas.List.{map-append, get_or-take, get_or_default, length-take}
use Rattle.std.proofs.lemmas.Grind.{flat_map-append}
use Rattle.std.proofs.lemmas.Bool.{false_from_ne_true, cond-true, cond-false, eqb-true, or_from, or_left, or_parts, or_right}
use Rattle.std.proofs.Math.Seq.{split_at}
use Rattle.memchr.specs.Find.{IsFirstByte, is_byte}
use Rattle.mail_base.proofs.LineLemmas.{one_part, parts_first}
use Rattle.sendmail_run.specs.declared.input.Partial.{Partial}
use Rattle.cf_reader.specs.LogicalLines.{physical_lines}
use Rattle.addr_test.specs.declared.answers.Reply.{Reply}
use Rattle.addr_test.specs.declared.answers.Reply.TheVariants.{Lines, Quit}
use Rattle.addr_test.specs.Answers.{Answers, Says, config_after}
use Rattle.addr_test.specs.Forms.{form_of, is_quit}
use Rattle.addr_test.specs.Printing.{Printed}
use Rattle.mail_base.specs.declared.config.Config.{Config}
use Rattle.map_tables.specs.Answers.{Loaded}
use Rattle.sendmail_run.specs.Printing.{Basis}
use Rattle.sendmail_run.specs.Testing.{ended, ended_lines, holds_quit}
use Rattle.sendmail_run.specs.inner.Taking.{has_end, with_end, lines_of, Keeps, Cut, Stands, Quits}

-- ---- tests

match_no : (b : Bool) (P Q : Type 0) → b ≡ false → MatchBool b P Q → Q
match_no true P Q e h = absurd (cc e)
match_no false P Q e h = h

-- where a test fails, what the other case asks for is enough
pub no_match : (b : Bool) (P Q : Type 0) → b ≡ false → Q → MatchBool b P Q
no_match true P Q e h = absurd (cc e)
no_match false P Q e h = h

yes_match : (b : Bool) (P Q : Type 0) → b ≡ true → P → MatchBool b P Q
yes_match true P Q e h = h
yes_match false P Q e h = absurd (cc e)

none_at : (p : ℕ → Bool) (xs : List ℕ) → list_any p xs ≡ false → All (λ x. p x ≡ false) xs
none_at p xs h k d lt = false_from_ne_true (p (get_or xs k d)) (λ yes. let here = list_any_at p xs k d lt yes in cc)

none_joined : {X : Type 0} (p : X → Bool) (xs ys : List X) → list_any p xs ≡ false → list_any p ys ≡ false → list_any p (xs ++ ys) ≡ false
none_joined p xs ys h k = list_any-append p xs ys ∙ or_from (list_any p xs) (list_any p ys) h k

-- ---- physical lines

lines_at : (raw tail : List ℕ) → has_end raw ≡ false → physical_lines (raw ++ 10 ∷ tail) ≡ strip_carriage_return raw ∷ physical_lines tail
lines_at raw tail none = ap lines_of_parts (slice_split_at (is_byte 10) raw 10 tail (none_at (is_byte 10) raw none) refl) ∙ parts_first raw tail

regroup : (raw : List ℕ) (raws : List (List ℕ)) (more : List ℕ) → flat_map with_end (raw ∷ raws) ++ more ≡ raw ++ 10 ∷ (flat_map with_end raws ++ more)
regroup raw raws more = append_assoc (raw ++ 10 ∷ []) (flat_map with_end raws) more ∙ append_assoc raw (10 ∷ []) (flat_map with_end raws ++ more)

lines_cut : (raws : List (List ℕ)) (more : List ℕ) → list_any has_end raws ≡ false → physical_lines (flat_map with_end raws ++ more) ≡ lines_of raws ++ physical_lines more
lines_cut [] more none = refl
lines_cut (raw ∷ raws) more none =
    let parts = or_parts (has_end raw) (list_any has_end raws) none in
    ap physical_lines (regroup raw raws more) ∙ lines_at raw (flat_map with_end raws ++ more) parts.0 ∙ ap (λ (ls : List (List ℕ)). strip_carriage_return raw ∷ ls) (lines_cut raws more parts.1)

line_last : (b : ℕ) (bs : List ℕ) → has_end (b ∷ bs) ≡ false → physical_lines (b ∷ bs) ≡ (b ∷ bs) ∷ []
line_last b bs none = ap lines_of_parts (slice_split_none (is_byte 10) (b ∷ bs) (none_at (is_byte 10) (b ∷ bs) none)) ∙ one_part (b ∷ bs) (omega arith)

-- ---- the ended front

ended_more : (x more : List ℕ) → ended (x ++ 10 ∷ more) ≡ x ++ 10 ∷ ended more
ended_more [] more = refl
ended_more (b ∷ bs) more =
    let there : has_end (bs ++ 10 ∷ more) ≡ true = list_any-append (is_byte 10) bs (10 ∷ more) ∙ or_right (has_end bs) true refl in
    cond-true (is_byte 10 b || has_end (bs ++ 10 ∷ more)) (b ∷ ended (bs ++ 10 ∷ more)) [] (or_right (is_byte 10 b) (has_end (bs ++ 10 ∷ more)) there)
    ∙ ap (λ (q : List ℕ). b ∷ q) (ended_more bs more)

ended_none : (x : List ℕ) → has_end x ≡ false → ended x ≡ []
ended_none [] none = refl
ended_none (b ∷ bs) none = cond-false (has_end (b ∷ bs)) (b ∷ ended bs) [] none

ended_cut : (raws : List (List ℕ)) (more : List ℕ) → ended (flat_map with_end raws ++ more) ≡ flat_map with_end raws ++ ended more
ended_cut [] more = refl
ended_cut (raw ∷ raws) more =
    ap ended (regroup raw raws more) ∙ ended_more raw (flat_map with_end raws ++ more) ∙ ap (λ (q : List ℕ). raw ++ 10 ∷ q) (ended_cut raws more) ∙ sym (regroup raw raws (ended more))

ended_lines_cut : (raws : List (List ℕ)) (more : List ℕ) → list_any has_end raws ≡ false → ended_lines (flat_map with_end raws ++ more) ≡ lines_of raws ++ ended_lines more
ended_lines_cut raws more none = ap physical_lines (ended_cut raws more) ∙ lines_cut raws (ended more) none

-- ---- what is cut so far

cut_more : (taken : List ℕ) (raws : List (List ℕ)) (rest x : List ℕ) → Cut taken raws rest → has_end x ≡ false → Cut (taken ++ x) raws (rest ++ x)
cut_more taken raws rest x cut none = record {
  whole = ap (λ (q : List ℕ). q ++ x) cut.whole ∙ append_assoc (flat_map with_end raws) rest x;
  each = cut.each;
  last = none_joined (is_byte 10) rest x cut.last none;
}

cut_end : (taken : List ℕ) (raws : List (List ℕ)) (rest : List ℕ) → Cut taken raws rest → Cut (taken ++ 10 ∷ []) (raws ++ rest ∷ []) []
cut_end taken raws rest cut = record {
  whole = ap (λ (q : List ℕ). q ++ 10 ∷ []) cut.whole ∙ append_assoc (flat_map with_end raws) rest (10 ∷ [])
      ∙ sym (append-nil (flat_map with_end (raws ++ rest ∷ [])) ∙ flat_map-append with_end raws (rest ∷ []) ∙ ap (λ (q : List ℕ). flat_map with_end raws ++ q) (append-nil (rest ++ 10 ∷ [])));
  each = none_joined has_end raws (rest ∷ []) cut.each (or_from (has_end rest) false cut.last refl);
  last = refl;
}

-- ---- the answer to a line

-- what is said of a line by whether it is `/quit`
abbrev AnswersBy : Loaded → Config → List ℕ → Bool → Reply → Config → Type 0
AnswersBy maps config line b reply after =
    MatchBool b ((reply ≡ Quit) × (after ≡ config))
    ((text : List ℕ) × Says maps config (form_of line) text × (reply ≡ Lines text) × (after ≡ config_after config (form_of line)))

lines_by : (maps : Loaded) (config after : Config) (line text : List ℕ) (b : Bool) → AnswersBy maps config line b (Lines text) after → b ≡ false
lines_by maps config after line text true h = absurd (cc (h.0))
lines_by maps config after line text false h = refl

-- a line that is answered with lines isn't `/quit`
lines_on : (maps : Loaded) (config after : Config) (line text : List ℕ) → Answers maps config line (Lines text) after → is_quit line ≡ false
lines_on maps config after line text h = lines_by maps config after line text (is_quit line) h

quit_by : (maps : Loaded) (config after : Config) (line : List ℕ) (b : Bool) → AnswersBy maps config line b Quit after → (b ≡ true) × (after ≡ config)
quit_by maps config after line true h = (refl, h.1)
quit_by maps config after line false h = absurd (cc (h.2))

-- a line that ends the input is `/quit`
quit_off : (maps : Loaded) (config after : Config) (line : List ℕ) → Answers maps config line Quit after → (is_quit line ≡ true) × (after ≡ config)
quit_off maps config after line h = quit_by maps config after line (is_quit line) h

-- ---- the text so far

-- more lines behind lines of which none is `/quit`
pub printed_more : (maps : Loaded) (ls ms : List (List ℕ)) (config middle last : Config) (t u : List ℕ) → Printed maps config ls t middle → list_any is_quit ls ≡ false → Printed maps middle ms u last → Printed maps config (ls ++ ms) (t ++ u) last
printed_more maps [] ms config middle last t u is none h =
    subst (λ (c : Config). Printed maps c ms (t ++ u) last) is.1 (subst (λ (q : List ℕ). Printed maps middle ms (q ++ u) last) (sym is.0) h)
printed_more maps (l ∷ ls) ms config middle last t u is none h =
    let parts = or_parts (is_quit l) (list_any is_quit ls) none in
    let first = match_no (is_quit l) _ _ parts.0 is in
    no_match (is_quit l) _ _ parts.0 (first.0, first.1 ++ u, first.2, first.3, printed_more maps ls ms first.2 middle last first.1 u first.4 parts.1 h, ap (λ (q : List ℕ). q ++ u) first.5 ∙ append_assoc first.0 first.1 u)

printed_one : (maps : Loaded) (config after : Config) (l a : List ℕ) → Answers maps config l (Lines a) after → Printed maps config (l ∷ []) a after
printed_one maps config after l a h = no_match (is_quit l) _ _ (lines_on maps config after l a h) (a, [], after, h, (refl, refl), sym (append-nil a))

-- nothing is printed from `/quit` on
printed_quit : (maps : Loaded) (config : Config) (l : List ℕ) (ls : List (List ℕ)) → is_quit l ≡ true → Printed maps config (l ∷ ls) [] config
printed_quit maps config l ls quit = yes_match (is_quit l) _ _ quit (refl, refl)

-- ---- where the answers stand

-- before any byte is taken nothing is printed
pub stands_none : (basis : Basis) (partial : Partial) → Keeps partial [] → Stands basis basis.config [] partial []
stands_none basis partial keeps = record { raws = []; rest = []; cut = record { whole = refl; each = refl; last = refl }; printed = (refl, refl); on = refl; keeps = keeps }

pub stands_tail : (basis : Basis) (current : Config) (taken x text : List ℕ) (old new : Partial) → Stands basis current taken old text → has_end x ≡ false → ((rest : List ℕ) → Keeps old rest → Keeps new (rest ++ x)) → Stands basis current (taken ++ x) new text
stands_tail basis current taken x text old new s none keeps = record {
  raws = s.raws;
  rest = s.rest ++ x;
  cut = cut_more taken s.raws s.rest x s.cut none;
  printed = s.printed;
  on = s.on;
  keeps = keeps s.rest s.keeps;
}

pub stands_line : (basis : Basis) (current after : Config) (taken text out0 out1 said : List ℕ) (old new : Partial) → Stands basis current taken old (text ++ out0)
    → ((rest : List ℕ) → Keeps old rest → Answers basis.maps current (strip_carriage_return rest) (Lines said) after) → out1 ≡ out0 ++ said → Keeps new [] → Stands basis after (taken ++ 10 ∷ []) new (text ++ out1)
stands_line basis current after taken text out0 out1 said old new s answer more_out keeps =
    let answers = answer s.rest s.keeps in
    let other : is_quit (strip_carriage_return s.rest) ≡ false = lines_on basis.maps current after (strip_carriage_return s.rest) said answers in
    let more : lines_of (s.raws ++ s.rest ∷ []) ≡ lines_of s.raws ++ strip_carriage_return s.rest ∷ [] = map-append strip_carriage_return s.raws (s.rest ∷ []) in
    let printed : Printed basis.maps basis.config (lines_of s.raws ++ strip_carriage_return s.rest ∷ []) ((text ++ out0) ++ said) after =
    printed_more basis.maps (lines_of s.raws) (strip_carriage_return s.rest ∷ []) basis.config current after (text ++ out0) said s.printed s.on (printed_one basis.maps current after (strip_carriage_return s.rest) said answers) in
    let whole : (text ++ out0) ++ said ≡ text ++ out1 = append_assoc text out0 said ∙ ap (λ (q : List ℕ). text ++ q) (sym more_out) in
    record {
      raws = s.raws ++ s.rest ∷ [];
      rest = [];
      cut = cut_end taken s.raws s.rest s.cut;
      printed = subst (λ (q : List ℕ). Printed basis.maps basis.config (lines_of (s.raws ++ s.rest ∷ [])) q after) whole
          (subst (λ (ls : List (List ℕ)). Printed basis.maps basis.config ls ((text ++ out0) ++ said) after) (sym more) printed);
      on = ap (list_any is_quit) more ∙ none_joined is_quit (lines_of s.raws) (strip_carriage_return s.rest ∷ []) s.on (or_from (is_quit (strip_carriage_return s.rest)) false other refl);
      keeps = keeps;
    }

pub stands_quit : (basis : Basis) (current after : Config) (taken text : List ℕ) (old : Partial) (more : List ℕ) → Stands basis current taken old text
    → ((rest : List ℕ) → Keeps old rest → Answers basis.maps current (strip_carriage_return rest) Quit after) → Quits basis ((taken ++ 10 ∷ []) ++ more) text
stands_quit basis current after taken text old more s answer =
    let q : List ℕ = strip_carriage_return s.rest in
    let yes : is_quit q ≡ true = (quit_off basis.maps current after q (answer s.rest s.keeps)).0 in
    let raws : List (List ℕ) = s.raws ++ s.rest ∷ [] in
    let cut = cut_end taken s.raws s.rest s.cut in
    let flat : (taken ++ 10 ∷ []) ++ more ≡ flat_map with_end raws ++ more = ap (λ (x : List ℕ). x ++ more) (cut.whole ∙ append-nil (flat_map with_end raws)) in
    let ls : lines_of raws ≡ lines_of s.raws ++ q ∷ [] = map-append strip_carriage_return s.raws (s.rest ∷ []) in
    let lines : physical_lines ((taken ++ 10 ∷ []) ++ more) ≡ lines_of s.raws ++ (q ∷ physical_lines more) =
    ap physical_lines flat ∙ lines_cut raws more cut.each ∙ ap (λ (x : List (List ℕ)). x ++ physical_lines more) ls ∙ append_assoc (lines_of s.raws) (q ∷ []) (physical_lines more) in
    let printed : Printed basis.maps basis.config (lines_of s.raws ++ (q ∷ physical_lines more)) (text ++ []) current =
    printed_more basis.maps (lines_of s.raws) (q ∷ physical_lines more) basis.config current current text [] s.printed s.on (printed_quit basis.maps current q (physical_lines more) yes) in
    let before : ended_lines ((taken ++ 10 ∷ []) ++ more) ≡ lines_of s.raws ++ (q ∷ ended_lines more) =
    ap ended_lines flat ∙ ended_lines_cut raws more cut.each ∙ ap (λ (x : List (List ℕ)). x ++ ended_lines more) ls ∙ append_assoc (lines_of s.raws) (q ∷ []) (ended_lines more) in
    let printed_ended : Printed basis.maps basis.config (lines_of s.raws ++ (q ∷ ended_lines more)) (text ++ []) current =
    printed_more basis.maps (lines_of s.raws) (q ∷ ended_lines more) basis.config current current text [] s.printed s.on (printed_quit basis.maps current q (ended_lines more) yes) in
    let here : list_any is_quit (lines_of raws) ≡ true =
    ap (list_any is_quit) ls ∙ list_any-append is_quit (lines_of s.raws) (q ∷ []) ∙ or_right (list_any is_quit (lines_of s.raws)) (is_quit q || false) (or_left (is_quit q) false yes) in
    record {
      last = current;
      printed = subst (λ (t : List ℕ). Printed basis.maps basis.config (physical_lines ((taken ++ 10 ∷ []) ++ more)) t current) (append-nil text)
          (subst (λ (x : List (List ℕ)). Printed basis.maps basis.config x (text ++ []) current) (sym lines) printed);
      among = subst (λ (t : List ℕ). Printed basis.maps basis.config (ended_lines ((taken ++ 10 ∷ []) ++ more)) t current) (append-nil text)
          (subst (λ (x : List (List ℕ)). Printed basis.maps basis.config x (text ++ []) current) (sym before) printed_ended);
      quit = ap (list_any is_quit) (ap ended_lines flat ∙ ended_lines_cut raws more cut.each) ∙ list_any-append is_quit (lines_of raws) (ended_lines more) ∙ or_left (list_any is_quit (lines_of raws)) (list_any is_quit (ended_lines more)) here;
    }

-- the ended lines of what was taken
stands_lines : (basis : Basis) (current : Config) (taken text : List ℕ) (partial : Partial) → (s : Stands basis current taken partial text) → ended_lines taken ≡ lines_of s.raws
stands_lines basis current taken text partial s =
    ap ended_lines s.cut.whole ∙ ended_lines_cut s.raws s.rest s.cut.each ∙ ap (λ (q : List ℕ). lines_of s.raws ++ physical_lines q) (ended_none s.rest s.cut.last) ∙ append-nil (lines_of s.raws)

-- what is printed so far is the text of the lines that ended
pub stands_printed : (basis : Basis) (current : Config) (taken text : List ℕ) (partial : Partial) → Stands basis current taken partial text → Printed basis.maps basis.config (ended_lines taken) text current
stands_printed basis current taken text partial s = subst (λ (ls : List (List ℕ)). Printed basis.maps basis.config ls text current) (sym (stands_lines basis current taken text partial s)) s.printed

-- the lines that ended so far have no /quit
pub stands_on : (basis : Basis) (current : Config) (taken text : List ℕ) (partial : Partial) → Stands basis current taken partial text → holds_quit taken ≡ false
stands_on basis current taken text partial s = ap (list_any is_quit) (stands_lines basis current taken text partial s) ∙ s.on

-- the lines that are answered stand in front, whatever comes behind
pub stands_front : (basis : Basis) (current : Config) (taken text : List ℕ) (partial : Partial) (more : List ℕ) → (s : Stands basis current taken partial text) → ended_lines (taken ++ more) ≡ lines_of s.raws ++ ended_lines (s.rest ++ more)
stands_front basis current taken text partial more s =
    ap (λ (q : List ℕ). ended_lines (q ++ more)) s.cut.whole ∙ ap ended_lines (append_assoc (flat_map with_end s.raws) s.rest more) ∙ ended_lines_cut s.raws (s.rest ++ more) s.cut.each

-- the text of a reply
abbrev pub text_of : Reply → List ℕ
text_of (Lines text) = text
text_of Quit = []

-- the last line
last_by : (maps : Loaded) (config after : Config) (line : List ℕ) (reply : Reply) → Answers maps config line reply after → Printed maps config (line ∷ []) (text_of reply) after
last_by maps config after line (Lines a) h = printed_one maps config after line a h
last_by maps config after line Quit h =
    let quit = quit_off maps config after line h in
    subst (λ (c : Config). Printed maps config (line ∷ []) [] c) (sym quit.1) (printed_quit maps config line [] quit.0)

same_lines : (one another : List ℕ) → Lines one ≡ Lines another → one ≡ another
same_lines one another e = cc e

-- the input's end is no line
none_by : (maps : Loaded) (config after : Config) (reply : Reply) → Answers maps config [] reply after → Printed maps config [] (text_of reply) after
none_by maps config after (Lines a) h = (same_lines a h.0 h.2 ∙ h.1, h.3)
none_by maps config after Quit h = absurd (cc (h.2))

last_printed : (maps : Loaded) (config after : Config) (rest : List ℕ) (reply : Reply) → has_end rest ≡ false → Answers maps config rest reply after → Printed maps config (physical_lines rest) (text_of reply) after
last_printed maps config after [] reply none h = none_by maps config after reply h
last_printed maps config after (b ∷ bs) reply none h = subst (λ (ls : List (List ℕ)). Printed maps config ls (text_of reply) after) (sym (line_last b bs none)) (last_by maps config after (b ∷ bs) reply h)

-- the answer to the last line, which has no end, completes the text of all lines
pub stands_last : (basis : Basis) (current after : Config) (taken text : List ℕ) (reply : Reply) (partial : Partial) → (s : Stands basis current taken partial text) → Answers basis.maps current s.rest reply after
    → Printed basis.maps basis.config (physical_lines taken) (text ++ text_of reply) after
stands_last basis current after taken text reply partial s h =
    let lines : physical_lines taken ≡ lines_of s.raws ++ physical_lines s.rest = ap physical_lines s.cut.whole ∙ lines_cut s.raws s.rest s.cut.each in
    subst (λ (ls : List (List ℕ)). Printed basis.maps basis.config ls (text ++ text_of reply) after) (sym lines)
    (printed_more basis.maps (lines_of s.raws) (physical_lines s.rest) basis.config current after text (text_of reply) s.printed s.on (last_printed basis.maps current after s.rest reply s.cut.last h))

-- ---- the first LF

-- before the first LF no line ends
pub none_before : (text : List ℕ) (k : ℕ) → IsFirstByte (is_byte 10) text (Some k) → has_end (take k text) ≡ false
none_before text k found =
    list_any_none (is_byte 10) (take k text) (λ j d lt.
    let low : j < k = omega (arith, length-take k text) in
    let high : j < length text = omega (arith, found.0.high) in
    ap (is_byte 10) (get_or-take k text j d low ∙ get_or_default text j d 0 high) ∙ false_from_ne_true _ (found.0.before j (omega arith) low))

-- where a search finds no LF, no line ends
pub none_at_all : (text : List ℕ) → IsFirstByte (is_byte 10) text None → has_end text ≡ false
none_at_all text none = list_any_none (is_byte 10) text (λ j d lt. ap (is_byte 10) (get_or_default text j d 0 lt) ∙ false_from_ne_true _ (none j (omega arith) lt))

-- a text is its first line with the LF and what follows it
pub cut_at : (text : List ℕ) (k : ℕ) → IsFirstByte (is_byte 10) text (Some k) → text ≡ (take k text ++ 10 ∷ []) ++ drop (k + 1) text
cut_at text k found =
    let high : k < length text = found.0.high in
    let byte : get_or text k 0 ≡ 10 = eqb-true (get_or text k 0) 10 found.1 in
    split_at text k 0 high ∙ ap (λ (b : ℕ). take k text ++ b ∷ drop (suc k) text) byte ∙ ap (λ (n : ℕ). take k text ++ 10 ∷ drop n text) (sym (add-one k)) ∙ sym (append_assoc (take k text) (10 ∷ []) (drop (k + 1) text))

-- ---- a step of the answers to a piece

regroup4 : (a b c d : List ℕ) → ((a ++ b) ++ c) ++ d ≡ a ++ (b ++ (c ++ d))
regroup4 a b c d = simp append_assoc

-- one line more that ends is answered, and its text is printed behind the others
pub line_step : (basis : Basis) (middle after : Config) (bytes taken text front rest x behind out0 out1 said : List ℕ) (reply : Reply) (p0 p1 p2 : Partial) → bytes ≡ front ++ rest → Stands basis middle (taken ++ front) p0 (text ++ out0)
    → has_end x ≡ false → rest ≡ (x ++ 10 ∷ []) ++ behind → ((r : List ℕ) → Keeps p0 r → Keeps p1 (r ++ x))
    → ((r : List ℕ) → Keeps p1 r → Answers basis.maps middle (strip_carriage_return r) reply after) → reply ≡ Lines said → out1 ≡ out0 ++ said → Keeps p2 []
    → (more : List ℕ) × (bytes ≡ more ++ behind) × Stands basis after (taken ++ more) p2 (text ++ out1)
line_step basis middle after bytes taken text front rest x behind out0 out1 said reply p0 p1 p2 whole stands none split keeps answer is more fresh =
    let tail = stands_tail basis middle (taken ++ front) x (text ++ out0) p0 p1 stands none keeps in
    let line = stands_line basis middle after ((taken ++ front) ++ x) text out0 out1 said p1 p2 tail (λ r k. subst (λ (a : Reply). Answers basis.maps middle (strip_carriage_return r) a after) is (answer r k)) more fresh in (
      front ++ (x ++ 10 ∷ []),
      whole ∙ ap (λ (q : List ℕ). front ++ q) split ∙ sym (append_assoc front (x ++ 10 ∷ []) behind),
      subst (λ (t : List ℕ). Stands basis after t p2 (text ++ out1)) (regroup4 taken front x (10 ∷ [])) line,
    )

-- a line /quit that ends is answered, and completes the text
pub quit_step : (basis : Basis) (middle after : Config) (bytes taken text front rest x behind out : List ℕ) (reply : Reply) (p0 p1 : Partial) → bytes ≡ front ++ rest → Stands basis middle (taken ++ front) p0 (text ++ out)
    → has_end x ≡ false → rest ≡ (x ++ 10 ∷ []) ++ behind → ((r : List ℕ) → Keeps p0 r → Keeps p1 (r ++ x))
    → ((r : List ℕ) → Keeps p1 r → Answers basis.maps middle (strip_carriage_return r) reply after) → reply ≡ Quit → Quits basis (taken ++ bytes) (text ++ out)
quit_step basis middle after bytes taken text front rest x behind out reply p0 p1 whole stands none split keeps answer is =
    let tail = stands_tail basis middle (taken ++ front) x (text ++ out) p0 p1 stands none keeps in
    let quits = stands_quit basis middle after ((taken ++ front) ++ x) (text ++ out) p1 behind tail (λ r k. subst (λ (a : Reply). Answers basis.maps middle (strip_carriage_return r) a after) is (answer r k)) in
    let all : taken ++ bytes ≡ (((taken ++ front) ++ x) ++ 10 ∷ []) ++ behind =
    ap (λ (q : List ℕ). taken ++ q) (whole ∙ ap (λ (q : List ℕ). front ++ q) split) ∙ sym (ap (λ (q : List ℕ). q ++ behind) (regroup4 taken front x (10 ∷ [])) ∙ append_assoc taken (front ++ (x ++ 10 ∷ [])) behind ∙ ap (λ (q : List ℕ). taken ++ q) (append_assoc front (x ++ 10 ∷ []) behind)) in
    subst (λ (t : List ℕ). Quits basis t (text ++ out)) (sym all) quits

-- what follows the last LF is kept as the front of the next line
pub tail_step : (basis : Basis) (current : Config) (bytes taken text front rest out : List ℕ) (p0 p1 : Partial) → bytes ≡ front ++ rest → Stands basis current (taken ++ front) p0 (text ++ out)
    → has_end rest ≡ false → ((r : List ℕ) → Keeps p0 r → Keeps p1 (r ++ rest)) → Stands basis current (taken ++ bytes) p1 (text ++ out)
tail_step basis current bytes taken text front rest out p0 p1 whole stands none keeps =
    subst (λ (t : List ℕ). Stands basis current t p1 (text ++ out)) (append_assoc taken front rest ∙ ap (λ (q : List ℕ). taken ++ q) (sym whole))
    (stands_tail basis current (taken ++ front) rest (text ++ out) p0 p1 stands none keeps)

-- what stands behind a line is shorter than with it
pub shorter : (rest x after : List ℕ) → rest ≡ (x ++ 10 ∷ []) ++ after → length after < length rest
shorter rest x after e = omega (arith, ap length e, length-append (x ++ 10 ∷ []) after, length-append x (10 ∷ []))
