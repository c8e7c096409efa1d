-- What is kept of a line whose end hasn't come.
use Rattle.std.proofs.Common.{◌≡◌, ℕ, suc, ◌+◌, ◌-◌, ◌<◌, ◌≤◌, List, [], ◌∷◌, ◌++◌, length, take, Bool, true, false, cond, refl, sym, ◌∙◌, ap, subst, arith, append-nil, length-append, eqb}
use Rattle.std.specs.Prelude.{Result, Ok, Err, IfOk, OnOk, codes, ltb}
use Rattle.std.proofs.lemmas.Slice.Eq.{bytes_eq-Decides}
use Rattle.mail_base.specs.Limits.{most_line}
use Rattle.mail_base.specs.declared.fault.NoMemory.{NoMemory}
use Rattle.sendmail_run.specs.declared.input.Partial.{Partial}
use Rattle.std.specs.Str.Lines.{strip_carriage_return}
use Rattle.std.proofs.lemmas.Bool.{false_from_ne_true, cond-true, cond-false, cond_both, ltb-true, lt-ltb}
use Rattle.std.proofs.lemmas.List.{take_all, take-append-le, length-take-le}
use Rattle.std.proofs.Math.Seq.{take-append-add}
use Rattle.addr_test.specs.declared.answers.Reply.{Reply}
use Rattle.addr_test.specs.declared.answers.Reply.TheVariants.{Lines, Quit}
use Rattle.addr_test.specs.Answers.{Answers, Says, config_after}
use Rattle.addr_test.specs.Forms.{Form, Quiet, TooLong, form_of, is_quit}
use Rattle.addr_test.specs.Texts.{line_of}
use Rattle.mail_base.specs.declared.config.Config.{Config}
use Rattle.map_tables.specs.Answers.{Loaded}
use Rattle.sendmail_run.specs.inner.Taking.{most_kept, cut_text, Keeps}
use Rattle.sendmail_run.proofs.EndedLemmas.{no_match}

not_below : (m n : ℕ) → n ≤ m → ltb m n ≡ false
not_below m n le = false_from_ne_true (ltb m n) (λ yes. let lt = ltb-true m n yes in absurd (omega arith))

at_most : (m n : ℕ) → ltb m n ≡ false → n ≤ m
at_most m n is = grind (arith, lt-ltb, is)

nothing : (xs : List ℕ) → length xs ≤ 0 → xs ≡ []
nothing [] le = refl
nothing (x ∷ xs) le = absurd (omega arith)

-- all of the bytes have room
pub kept_all : (m room : ℕ) (rest front more bytes : List ℕ) (was now : Bool) → front ≡ take m rest → was ≡ ltb m (length rest) → room ≡ m - length front → length bytes ≤ room → more ≡ front ++ bytes → now ≡ was
    → (more ≡ take m (rest ++ bytes)) × (now ≡ ltb m (length (rest ++ bytes)))
kept_all m room rest front more bytes was now f w r le e n = by (ltb m (length rest)) refl where
  by : (b : Bool) → ltb m (length rest) ≡ b → (more ≡ take m (rest ++ bytes)) × (now ≡ ltb m (length (rest ++ bytes)))
  by true is =
      let lt : m < length rest = ltb-true m (length rest) is in
      let len : length (take m rest) ≡ m = length-take-le m rest (omega arith) in
      let none : bytes ≡ [] = nothing bytes (omega (arith, ap length f)) in (
        e ∙ ap (λ (q : List ℕ). front ++ q) none ∙ append-nil front ∙ f ∙ sym (take-append-le m rest bytes (omega arith)),
        n ∙ w ∙ is ∙ sym (lt-ltb m (length (rest ++ bytes)) (omega (arith, length-append rest bytes))),
      )
  by false is =
      let le2 : length rest ≤ m = at_most m (length rest) is in
      let whole : front ≡ rest = f ∙ take_all m rest le2 in
      let fits : length (rest ++ bytes) ≤ m = omega (arith, length-append rest bytes, ap length whole) in
      (e ∙ ap (λ (q : List ℕ). q ++ bytes) whole ∙ sym (take_all m (rest ++ bytes) fits), n ∙ w ∙ is ∙ sym (not_below m (length (rest ++ bytes)) fits))

-- only a front of the bytes has room
pub kept_front : (m room : ℕ) (rest front more bytes : List ℕ) → front ≡ take m rest → room ≡ m - length front → room < length bytes → more ≡ front ++ take room bytes
    → (more ≡ take m (rest ++ bytes)) × (true ≡ ltb m (length (rest ++ bytes)))
kept_front m room rest front more bytes f r lt e = by (ltb m (length rest)) refl where
  by : (b : Bool) → ltb m (length rest) ≡ b → (more ≡ take m (rest ++ bytes)) × (true ≡ ltb m (length (rest ++ bytes)))
  by true is =
      let less : m < length rest = ltb-true m (length rest) is in
      let len : length (take m rest) ≡ m = length-take-le m rest (omega arith) in
      let zero_room : room ≡ 0 = omega (arith, ap length f) in (
        e ∙ ap (λ (q : ℕ). front ++ take q bytes) zero_room ∙ append-nil front ∙ f ∙ sym (take-append-le m rest bytes (omega arith)),
        sym (lt-ltb m (length (rest ++ bytes)) (omega (arith, length-append rest bytes))),
      )
  by false is =
      let le2 : length rest ≤ m = at_most m (length rest) is in
      let whole : front ≡ rest = f ∙ take_all m rest le2 in
      let sum : m ≡ length rest + room = omega (arith, ap length whole) in (
        e ∙ ap (λ (q : List ℕ). q ++ take room bytes) whole ∙ sym (take-append-add rest bytes room) ∙ ap (λ (k : ℕ). take k (rest ++ bytes)) (sym sum),
        sym (lt-ltb m (length (rest ++ bytes)) (omega (arith, length-append rest bytes))),
      )

-- what is kept is all, or more came than is kept
pub kept_whole : (m : ℕ) (rest front : List ℕ) (was : Bool) → front ≡ take m rest → was ≡ ltb m (length rest) → was ≡ false → front ≡ rest
kept_whole m rest front was f w no_cut =
    let below : ltb m (length rest) ≡ false = sym w ∙ no_cut in
    let le : length rest ≤ m = at_most m (length rest) below in
    f ∙ take_all m rest le

-- a line that is told as cut is longer than what is kept of it
pub kept_cut : (m : ℕ) (rest : List ℕ) (was : Bool) → was ≡ ltb m (length rest) → was ≡ true → m < length rest
kept_cut m rest was w is = ltb-true m (length rest) (sym w ∙ is)

-- ---- a line that is too long

on_ok : {T E : Type 0} (r : Result T E) (P Q : Type 0) → (P → Q) → OnOk r P → OnOk r Q
on_ok (Ok x) P Q f h = f h
on_ok (Err e) P Q f h = h

strip_begins : (b c : ℕ) (bs : List ℕ) → (tail : List ℕ) × (strip_carriage_return (b ∷ c ∷ bs) ≡ b ∷ tail) × (length bs ≤ length tail)
strip_begins b c bs =
    let P : List ℕ → Type 0 = λ l. (tail : List ℕ) × (l ≡ b ∷ tail) × (length bs ≤ length tail) in
    let n : length (b ∷ c ∷ bs) - 1 ≡ suc (length bs) = omega arith in
    cond_both _ (take (length (b ∷ c ∷ bs) - 1) (b ∷ c ∷ bs)) (b ∷ c ∷ bs) P
    (λ e. (take (length bs) (c ∷ bs), ap (λ (k : ℕ). take k (b ∷ c ∷ bs)) n, omega (arith, length-take-le (length bs) (c ∷ bs) (omega arith))))
    (λ e. (c ∷ bs, refl, omega arith))

-- a line of a form that prints a text and changes nothing
says : (maps : Loaded) (config : Config) (line text : List ℕ) (form : Form) → is_quit line ≡ false → form_of line ≡ form → Says maps config form text → config_after config form ≡ config → Answers maps config line (Lines text) config
says maps config line text form other is said same =
    no_match (is_quit line) ((Lines text ≡ Quit) × (config ≡ config)) _ other
    (text, subst (λ (f : Form). Says maps config f text) (sym is) said, refl, sym (ap (config_after config) is ∙ same))

cut_begins : (maps : Loaded) (config : Config) (b : ℕ) (tail text : List ℕ) → is_quit (b ∷ tail) ≡ false → most_line < length (b ∷ tail) → text ≡ cond (eqb b 35) [] (line_of (codes "line too long")) → Answers maps config (b ∷ tail) (Lines text) config
cut_begins maps config b tail text other long is = by (eqb b 35) refl where
  by : (q : Bool) → eqb b 35 ≡ q → Answers maps config (b ∷ tail) (Lines text) config
  by true e = says maps config (b ∷ tail) text Quiet other (cond-true (eqb b 35) Quiet _ e) (is ∙ cond-true (eqb b 35) [] _ e) refl
  by false e = says maps config (b ∷ tail) text TooLong other (cond-false (eqb b 35) Quiet _ e ∙ cond-true (ltb most_line (length (b ∷ tail))) TooLong _ (lt-ltb most_line (length (b ∷ tail)) long)) (is ∙ cond-false (eqb b 35) [] _ e) refl

front_text : (b : ℕ) (tail front : List ℕ) → front ≡ take most_kept (b ∷ tail) → cut_text front ≡ cond (eqb b 35) [] (line_of (codes "line too long"))
unfolding most_kept most_line
front_text b tail front is = ap cut_text is

no_quit : (l : List ℕ) → 5 < length l → is_quit l ≡ false
no_quit l long = false_from_ne_true (is_quit l) (λ e.
    let same : l ≡ codes "/quit" = (bytes_eq-Decides l (codes "/quit")).0 e in
    let five : length (codes "/quit") ≡ 5 = refl in
    omega (arith, ap length same))

cut_answers : (maps : Loaded) (config : Config) (rest front : List ℕ) → most_kept < length rest → front ≡ take most_kept rest → Answers maps config (strip_carriage_return rest) (Lines (cut_text front)) config
unfolding most_kept most_line
cut_answers maps config [] front long is = absurd (omega arith)
cut_answers maps config (b ∷ []) front long is = absurd (omega arith)
cut_answers maps config (b ∷ c ∷ bs) front long is =
    let s = strip_begins b c bs in
    subst (λ (l : List ℕ). Answers maps config l (Lines (cut_text front)) config) (sym s.1)
    (cut_begins maps config b s.0 (cut_text front) (no_quit (b ∷ s.0) (omega (arith, s.2))) (omega (arith, s.2)) (front_text b (c ∷ bs) front is))

cut_last : (maps : Loaded) (config : Config) (rest front : List ℕ) → most_kept < length rest → front ≡ take most_kept rest → Answers maps config rest (Lines (cut_text front)) config
unfolding most_kept most_line
cut_last maps config [] front long is = absurd (omega arith)
cut_last maps config (b ∷ bs) front long is = cut_begins maps config b bs (cut_text front) (no_quit (b ∷ bs) (omega arith)) (omega arith) (front_text b bs front is)

if_ok : {T E : Type 0} (r : Result T E) (P Q : T → Type 0) → ((x : T) → P x → Q x) → IfOk r P → IfOk r Q
if_ok (Ok x) P Q f h = f x h
if_ok (Err e) P Q f h = h

-- the answer to a line of which all is kept
pub answer_of_whole : (maps : Loaded) (before after : Config) (partial : Partial) (kept line : List ℕ) (r : Result Reply NoMemory) → IfOk r (λ reply. Answers maps before line reply after) → line ≡ strip_carriage_return kept → ((rest : List ℕ) → Keeps partial rest → kept ≡ rest)
    → IfOk r (λ reply. (rest : List ℕ) → Keeps partial rest → Answers maps before (strip_carriage_return rest) reply after)
answer_of_whole maps before after partial kept line r h is all =
    if_ok r _ _ (λ reply (a : Answers maps before line reply after). λ rest k. subst (λ (l : List ℕ). Answers maps before l reply after) (is ∙ ap strip_carriage_return (all rest k)) a) h

-- an answer to the line that was kept whole is one to the rest of the input
pub last_of_whole : (maps : Loaded) (before after : Config) (partial : Partial) (line : List ℕ) (r : Result Reply NoMemory) → IfOk r (λ reply. Answers maps before line reply after) → ((rest : List ℕ) → Keeps partial rest → line ≡ rest)
    → IfOk r (λ reply. (rest : List ℕ) → Keeps partial rest → Answers maps before rest reply after)
last_of_whole maps before after partial line r h all =
    if_ok r _ _ (λ reply (a : Answers maps before line reply after). λ rest k. subst (λ (l : List ℕ). Answers maps before l reply after) (all rest k) a) h

-- the answer to a line of which a front is kept
pub answer_of_cut : (maps : Loaded) (config : Config) (partial : Partial) (front : List ℕ) (r : Result Reply NoMemory) → IfOk r (λ reply. reply ≡ Lines (cut_text front)) → front ≡ partial.front → ((rest : List ℕ) → Keeps partial rest → most_kept < length rest)
    → IfOk r (λ reply. (rest : List ℕ) → Keeps partial rest → Answers maps config (strip_carriage_return rest) reply config)
answer_of_cut maps config partial front r h f long =
    if_ok r _ _ (λ reply (e : reply ≡ Lines (cut_text front)). λ rest k. subst (λ (a : Reply). Answers maps config (strip_carriage_return rest) a config) (sym e) (cut_answers maps config rest front (long rest k) (f ∙ k.front))) h

-- an answer that a line is too long is one to a rest of which only the front was kept
pub last_of_cut : (maps : Loaded) (config : Config) (partial : Partial) (front : List ℕ) (r : Result Reply NoMemory) → IfOk r (λ reply. reply ≡ Lines (cut_text front)) → front ≡ partial.front → ((rest : List ℕ) → Keeps partial rest → most_kept < length rest)
    → IfOk r (λ reply. (rest : List ℕ) → Keeps partial rest → Answers maps config rest reply config)
last_of_cut maps config partial front r h f long =
    if_ok r _ _ (λ reply (e : reply ≡ Lines (cut_text front)). λ rest k. subst (λ (a : Reply). Answers maps config rest a config) (sym e) (cut_last maps config rest front (long rest k) (f ∙ k.front))) h

-- ---- after a take

-- bytes that fit are kept behind the front of the line
pub took_all : (old : Partial) (more bytes : List ℕ) (room : ℕ) (r : Result (Unit {0}) NoMemory) → OnOk r (more ≡ old.front ++ bytes) → room ≡ most_kept - length old.front → length bytes ≤ room
    → OnOk r ((rest : List ℕ) → Keeps old rest → Keeps (record { front = more; is_cut = old.is_cut }) (rest ++ bytes))
took_all old more bytes room r h e le = on_ok r _ _ (λ (is : more ≡ old.front ++ bytes). λ rest k.
    let kept = kept_all most_kept room rest old.front more bytes old.is_cut old.is_cut k.front k.cut e le is refl in record { front = kept.0; cut = kept.1 }) h

-- of bytes that don't fit the front is kept, and the line is cut
pub took_front : (old : Partial) (more bytes : List ℕ) (room : ℕ) → more ≡ old.front ++ take room bytes → room ≡ most_kept - length old.front → room < length bytes
    → (rest : List ℕ) → Keeps old rest → Keeps (record { front = more; is_cut = true }) (rest ++ bytes)
took_front old more bytes room is e lt rest k =
    let kept = kept_front most_kept room rest old.front more bytes k.front e lt is in record { front = kept.0; cut = kept.1 }
