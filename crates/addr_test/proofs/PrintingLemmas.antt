-- Each line has one answer, and lines have one printed text.
use Rattle.std.proofs.Common.{◌≡◌, ℕ, zero, suc, ◌+◌, List, [], ◌∷◌, ◌++◌, drop, Bool, true, false, refl, sym, ap, ◌∙◌, arith, subst}
use Rattle.std.specs.Prelude.{MatchBool, slice_get}
use Rattle.std.proofs.lemmas.List.{append_assoc}
use Rattle.mail_base.specs.Catalogs.{value_at, value_like, members_of}
use Rattle.mail_base.specs.declared.config.Config.{Config}
use Rattle.mail_base.specs.declared.mailer.Mailer.{Mailer}
use Rattle.map_tables.specs.Answers.{Loaded}
use Rattle.addr_test.specs.declared.answers.Reply.{Reply}
use Rattle.addr_test.specs.declared.answers.Reply.TheVariants.{Lines, Quit}
use Rattle.addr_test.specs.Answers.{Answers, Says, config_after, typed}
use Rattle.addr_test.specs.Forms.{Form, Quiet, TooLong, Runs, Parse, Try, Lookup, Rules, Mailers, Value, Members, Defines, Adds, Unknown, form_of, is_quit, names_in}
use Rattle.addr_test.specs.Printing.{Printed}
use Rattle.addr_test.specs.Texts.{lines_text, mailers_text}
use Rattle.addr_test.specs.Words.{texts_of}
use Rattle.addr_test.specs.inner.Telling.{mailer_text_at}
use Rattle.addr_test.proofs.ListingLemmas.{one_listing, some_listing}
use Rattle.addr_test.proofs.RouteLemmas.{IsOneRoute, IsOneRewriting, HasRoute, HasRewriting, one_route_told, one_try_told, some_route_told, some_try_told}
use Rattle.addr_test.proofs.RunLemmas.{IsOneOutcome, HasOutcome, one_of_typed, some_of_typed}

-- ---- mailers

mailers_from : (mailers : List (List ℕ × Mailer)) (k : ℕ) → mailers_text (drop k mailers) ≡ mailer_text_at (slice_get mailers k) ++ mailers_text (drop (suc k) mailers)
mailers_from [] zero = refl
mailers_from [] (suc k) = refl
mailers_from (mailer ∷ mailers) zero = refl
mailers_from (mailer ∷ mailers) (suc k) = mailers_from mailers k

-- a mailer's text printed more, the rest of the mailers' text completes the whole
pub mailer_more : (mailers : List (List ℕ × Mailer)) (k : ℕ) (text new whole : List ℕ) → new ≡ text ++ mailer_text_at (slice_get mailers k) → text ++ mailers_text (drop k mailers) ≡ whole → new ++ mailers_text (drop (k + 1) mailers) ≡ whole
mailer_more mailers k text new whole is so =
    let next : k + 1 ≡ suc k = omega arith in
    ap (λ (t : List ℕ). t ++ mailers_text (drop (k + 1) mailers)) is
    ∙ ap (λ (n : ℕ). (text ++ mailer_text_at (slice_get mailers k)) ++ mailers_text (drop n mailers)) next
    ∙ append_assoc text (mailer_text_at (slice_get mailers k)) (mailers_text (drop (suc k) mailers))
    ∙ ap (λ (t : List ℕ). text ++ t) (sym (mailers_from mailers k))
    ∙ so

-- ---- one answer

module _ (unique : IsOneOutcome) (routes : IsOneRoute) (rewritings : IsOneRewriting) (maps : Loaded) where
  one_said : (config : Config) (form : Form) (one another : List ℕ) → Says maps config form one → Says maps config form another → one ≡ another
  one_said config Quiet one another a b = a ∙ sym b
  one_said config TooLong one another a b = a ∙ sym b
  one_said config (Runs sets address) one another a b = one_of_typed unique maps config (names_in sets) (typed config address) one another a b
  one_said config (Parse address) one another a b = one_route_told maps config routes address one another a b
  one_said config (Try name address) one another a b = one_try_told maps config rewritings name address (value_like name config.mailers) one another a b
  one_said config (Lookup name key) one another a b = a ∙ sym b
  one_said config (Rules name) one another a b = a ∙ sym b
  one_said config Mailers one another a b = a ∙ sym b
  one_said config (Value name) one another a b = a ∙ sym b
  one_said config (Members class) one another a b = a.2 ∙ ap lines_text (one_listing (texts_of (members_of (value_at class config.classes))) a.0 b.0 a.1 b.1) ∙ sym b.2
  one_said config (Defines name written) one another a b = a ∙ sym b
  one_said config (Adds class text) one another a b = a ∙ sym b
  one_said config Unknown one another a b = a ∙ sym b

  abbrev AnswersBy : Config → List ℕ → Bool → Reply → Config → Type 0
  AnswersBy config line b reply after =
      MatchBool b ((reply ≡ Quit) × (after ≡ config)) ((text : List ℕ) × Says maps config (form_of line) text × (reply ≡ Lines text) × (after ≡ config_after config (form_of line)))

  one_by : (config : Config) (line : List ℕ) (b : Bool) (one another : Reply) (after later : Config) → AnswersBy config line b one after → AnswersBy config line b another later → (one ≡ another) × (after ≡ later)
  one_by config line true one another after later e f = (e.0 ∙ sym f.0, e.1 ∙ sym f.1)
  one_by config line false one another after later e f =
      (e.2 ∙ ap Lines (one_said config (form_of line) e.0 f.0 e.1 f.1) ∙ sym f.2, e.3 ∙ sym f.3)

  pub one_reply : (config : Config) (line : List ℕ) (one another : Reply) (after later : Config) → Answers maps config line one after → Answers maps config line another later → (one ≡ another) × (after ≡ later)
  one_reply config line one another after later e f = one_by config line (is_quit line) one another after later e f

-- ---- some answer

module _ (ends : HasOutcome) (routes : HasRoute) (rewritings : HasRewriting) (maps : Loaded) where
  some_said : (config : Config) (form : Form) → (text : List ℕ) × Says maps config form text
  some_said config Quiet = (_, refl)
  some_said config TooLong = (_, refl)
  some_said config (Runs sets address) = some_of_typed ends maps config (names_in sets) (typed config address)
  some_said config (Parse address) = some_route_told maps config routes address
  some_said config (Try name address) = some_try_told maps config rewritings name address (value_like name config.mailers)
  some_said config (Lookup name key) = (_, refl)
  some_said config (Rules name) = (_, refl)
  some_said config Mailers = (_, refl)
  some_said config (Value name) = (_, refl)
  some_said config (Members class) = let listing = some_listing (texts_of (members_of (value_at class config.classes))) in (lines_text listing.0, (listing.0, listing.1, refl))
  some_said config (Defines name written) = (_, refl)
  some_said config (Adds class text) = (_, refl)
  some_said config Unknown = (_, refl)

  some_by : (config : Config) (line : List ℕ) (b : Bool)
      → (reply : Reply) × (after : Config) × MatchBool b ((reply ≡ Quit) × (after ≡ config)) ((text : List ℕ) × Says maps config (form_of line) text × (reply ≡ Lines text) × (after ≡ config_after config (form_of line)))
  some_by config line true = (Quit, config, (refl, refl))
  some_by config line false = let said = some_said config (form_of line) in (Lines said.0, config_after config (form_of line), (said.0, said.1, refl, refl))

  pub some_reply : (config : Config) (line : List ℕ) → (reply : Reply) × (after : Config) × Answers maps config line reply after
  some_reply config line = some_by config line (is_quit line)

-- ---- printed texts

-- a line has one answer
abbrev pub IsOneReply : Type 0
IsOneReply = (maps : Loaded) (config : Config) (line : List ℕ) (one another : Reply) (after later : Config) → Answers maps config line one after → Answers maps config line another later → (one ≡ another) × (after ≡ later)

-- a line has an answer
abbrev pub HasReply : Type 0
HasReply = (maps : Loaded) (config : Config) (line : List ℕ) → (reply : Reply) × (after : Config) × Answers maps config line reply after

same_lines : (one another : List ℕ) → Lines one ≡ Lines another → one ≡ another
same_lines one another e = cc e

abbrev PrintedBy : Loaded → Config → List ℕ → List (List ℕ) → Bool → List ℕ → Config → Type 0
PrintedBy maps config line lines b text last =
    MatchBool b ((text ≡ []) × (last ≡ config))
    ((first : List ℕ) × (rest : List ℕ) × (after : Config) × Answers maps config line (Lines first) after × Printed maps after lines rest last × (text ≡ first ++ rest))

module _ (unique : IsOneReply) (maps : Loaded) where
  lines_by : (config : Config) (line : List ℕ) (lines : List (List ℕ)) (one another : List ℕ) (last later : Config)
      → ((after : Config) (text other : List ℕ) (end stop : Config) → Printed maps after lines text end → Printed maps after lines other stop → (text ≡ other) × (end ≡ stop))
      → (b : Bool) → PrintedBy maps config line lines b one last → PrintedBy maps config line lines b another later → (one ≡ another) × (last ≡ later)
  lines_by config line lines one another last later rec true e f = (e.0 ∙ sym f.0, e.1 ∙ sym f.1)
  lines_by config line lines one another last later rec false e f =
      let reply = unique maps config line (Lines e.0) (Lines f.0) e.2 f.2 e.3 f.3 in
      let first : e.0 ≡ f.0 = same_lines e.0 f.0 reply.0 in
      let rest = rec e.2 e.1 f.1 last later e.4 (subst (λ (c : Config). Printed maps c lines f.1 later) (sym reply.1) f.4) in
      (e.5 ∙ ap (λ (t : List ℕ). t ++ e.1) first ∙ ap (λ (t : List ℕ). f.0 ++ t) rest.0 ∙ sym f.5, rest.1)

  pub one_printed : (lines : List (List ℕ)) (config : Config) (one another : List ℕ) (last later : Config) → Printed maps config lines one last → Printed maps config lines another later → (one ≡ another) × (last ≡ later)
  one_printed [] config one another last later e f = (e.0 ∙ sym f.0, e.1 ∙ sym f.1)
  one_printed (line ∷ lines) config one another last later e f = lines_by config line lines one another last later (one_printed lines) (is_quit line) e f

module _ (some : HasReply) (maps : Loaded) where
  printed_by : (config : Config) (line : List ℕ) (lines : List (List ℕ)) → ((after : Config) → (text : List ℕ) × (last : Config) × Printed maps after lines text last) → (b : Bool) → is_quit line ≡ b
      → (text : List ℕ) × (last : Config) × PrintedBy maps config line lines b text last
  printed_by config line lines rec true is = ([], config, (refl, refl))
  printed_by config line lines rec false is = on (some maps config line).0 (some maps config line).1 (some maps config line).2 where
    quits_not : (reply : Reply) (after : Config) (b : Bool) → b ≡ false → MatchBool b ((reply ≡ Quit) × (after ≡ config)) ((text : List ℕ) × Says maps config (form_of line) text × (reply ≡ Lines text) × (after ≡ config_after config (form_of line)))
        → (text : List ℕ) × (reply ≡ Lines text)
    quits_not reply after true e h = absurd (cc e)
    quits_not reply after false e h = (h.0, h.2)

    on : (reply : Reply) (after : Config) → Answers maps config line reply after → (text : List ℕ) × (last : Config) × PrintedBy maps config line lines false text last
    on reply after answers =
        let first = quits_not reply after (is_quit line) is answers in
        let rest = rec after in
        (first.0 ++ rest.0, rest.1, (first.0, rest.0, after, subst (λ (r : Reply). Answers maps config line r after) first.1 answers, rest.2, refl))

  pub some_printed : (lines : List (List ℕ)) (config : Config) → (text : List ℕ) × (last : Config) × Printed maps config lines text last
  some_printed [] config = ([], config, (refl, refl))
  some_printed (line ∷ lines) config = printed_by config line lines (some_printed lines) (is_quit line) refl
