-- Command lines as they are computed, against their grammar.
use Rattle.std.proofs.Common.{◌≡◌, ◌≢◌, ℕ, Bool, true, false, cond, List, [], ◌∷◌, Option, Some, None, Result, Ok, Err, refl, sym, ap, subst, ◌∙◌, ⊎_elim}
use Rattle.std.specs.Prelude.{codes, unwrap_or}
use Rattle.std.specs.List.{list_any}
use Rattle.std.specs.Str.{bytes_eq, str_to_ascii_lowercase, str_eq_ignore_ascii_case}
use Rattle.std.proofs.lemmas.Bool.{cond-true, cond-false, cases_Bool}
use Rattle.mail_base.specs.declared.command.Verb.{Verb}
use Rattle.mail_base.specs.declared.command.Verb.TheVariants.{Helo as HeloVerb, Ehlo as EhloVerb, Mail as MailVerb, Rcpt as RcptVerb, Data as DataVerb, Rset as RsetVerb, Noop as NoopVerb, Quit as QuitVerb, Vrfy as VrfyVerb, Expn as ExpnVerb, Help as HelpVerb}
use Rattle.mail_base.specs.declared.command.LineFault.{LineFault}
use Rattle.mail_base.specs.declared.command.LineFault.TheVariants.{BadByte, Unknown, ArgumentNeeded, NoArgument, Syntax, PathTooLong, Parameter}
use Rattle.smtp_lines.specs.declared.parameter.Parameters.{Parameters}
use Rattle.smtp_lines.specs.Stream.{verb_of}
use Rattle.smtp_lines.specs.Paths.{Parts, HasPath, is_too_long}
use Rattle.smtp_lines.specs.Parameters.{AreGiven}
use Rattle.smtp_lines.specs.Commands.{Order, Helo, Ehlo, Mail, Rcpt, Data, Rset, Quit, Vrfy, is_bad_byte, name_of, IsNamed, argument_of, Says, needs_argument, stands_alone, keyword_of, IsCommand, helo, ehlo, mail, rcpt, data_, rset, noop, quit, vrfy, expn, help, HasFault, bad_byte, unknown, lacks_argument, has_argument, no_path, long_path, mail_parameter, rcpt_parameter, IsRead}
use Rattle.smtp_lines.specs.Reading.{verb_named, path_after, parameters_of, is_nothing, from_given, from_by, to_by, needed, alone, order_by, order_of}
use Rattle.smtp_lines.proofs.ParameterLemmas.{same_lower, parameters_read, parameters_found}
use Rattle.smtp_lines.proofs.GrammarLemmas.{path_after_found, PathRead, path_after_read}

-- ---- verbs

-- the verb of a word in small letters
abbrev verb_in : List ℕ → Option Verb
verb_in word =
    cond (bytes_eq word (codes "helo")) (Some HeloVerb)
    (cond (bytes_eq word (codes "ehlo")) (Some EhloVerb)
    (cond (bytes_eq word (codes "mail")) (Some MailVerb)
    (cond (bytes_eq word (codes "rcpt")) (Some RcptVerb)
    (cond (bytes_eq word (codes "data")) (Some DataVerb)
    (cond (bytes_eq word (codes "rset")) (Some RsetVerb)
    (cond (bytes_eq word (codes "noop")) (Some NoopVerb)
    (cond (bytes_eq word (codes "quit")) (Some QuitVerb)
    (cond (bytes_eq word (codes "vrfy")) (Some VrfyVerb)
    (cond (bytes_eq word (codes "expn")) (Some ExpnVerb)
    (cond (bytes_eq word (codes "help")) (Some HelpVerb) None))))))))))

name_found : (verb : Verb) → verb_in (str_to_ascii_lowercase (name_of verb)) ≡ Some verb
name_found HeloVerb = refl
name_found EhloVerb = refl
name_found MailVerb = refl
name_found RcptVerb = refl
name_found DataVerb = refl
name_found RsetVerb = refl
name_found NoopVerb = refl
name_found QuitVerb = refl
name_found VrfyVerb = refl
name_found ExpnVerb = refl
name_found HelpVerb = refl

verb_found : (word : List ℕ) (verb : Verb) → IsNamed word verb → verb_named word ≡ Some verb
verb_found word verb named = ap verb_in (same_lower word (name_of verb) named) ∙ name_found verb

-- a choice between a verb and what the rest answers
verb_if : (word : List ℕ) (first verb : Verb) (rest : Option Verb) → (rest ≡ Some verb → IsNamed word verb) → cond (str_eq_ignore_ascii_case word (name_of first)) (Some first) rest ≡ Some verb → IsNamed word verb
verb_if word first verb rest later e =
    let test = str_eq_ignore_ascii_case word (name_of first) in
    ⊎_elim
    (λ yes. let is : cond test (Some first) rest ≡ Some first = cond-true test (Some first) rest yes in
    let same : first ≡ verb = cc in subst (λ v. IsNamed word v) same yes)
    (λ no. later (sym (cond-false test (Some first) rest no) ∙ e))
    (cases_Bool test)

verb_read : (word : List ℕ) (verb : Verb) → verb_named word ≡ Some verb → IsNamed word verb
verb_read word verb e =
    verb_if word HeloVerb verb _ (λ e. verb_if word EhloVerb verb _ (λ e. verb_if word MailVerb verb _ (λ e. verb_if word RcptVerb verb _ (λ e. verb_if word DataVerb verb _ (λ e.
    verb_if word RsetVerb verb _ (λ e. verb_if word NoopVerb verb _ (λ e. verb_if word QuitVerb verb _ (λ e. verb_if word VrfyVerb verb _ (λ e. verb_if word ExpnVerb verb _ (λ e.
    verb_if word HelpVerb verb None (λ none. absurd (cc)) e) e) e) e) e) e) e) e) e) e) e

-- ---- what is read is found

module _ (line : List ℕ) where
  said : (verb : Verb) (argument : List ℕ) → Says line verb argument → order_of line ≡ order_by (Some verb) argument
  said verb argument says =
      cond-false (list_any is_bad_byte line) (Err BadByte) (order_by (verb_named (verb_of line)) (argument_of line)) says.clean
      ∙ (λ i. order_by (verb_found (verb_of line) verb says.verb_is i) (sym says.argument_is i))

  nothing_not : (argument : List ℕ) → argument ≢ [] → is_nothing argument ≡ false
  nothing_not [] some = absurd (some refl)
  nothing_not (b ∷ argument) some = refl

  needed_found : (order : Order) (argument : List ℕ) → argument ≢ [] → needed order argument ≡ Ok order
  needed_found order argument some = cond-false (is_nothing argument) (Err ArgumentNeeded) (Ok order) (nothing_not argument some)

  lacking_found : (verb : Verb) → needs_argument verb ≡ true → order_by (Some verb) [] ≡ Err ArgumentNeeded
  lacking_found HeloVerb e = refl
  lacking_found EhloVerb e = refl
  lacking_found MailVerb e = absurd (cc)
  lacking_found RcptVerb e = absurd (cc)
  lacking_found DataVerb e = absurd (cc)
  lacking_found RsetVerb e = absurd (cc)
  lacking_found NoopVerb e = absurd (cc)
  lacking_found QuitVerb e = absurd (cc)
  lacking_found VrfyVerb e = refl
  lacking_found ExpnVerb e = absurd (cc)
  lacking_found HelpVerb e = absurd (cc)

  alone_found : (order : Order) (argument : List ℕ) → argument ≢ [] → alone order argument ≡ Err NoArgument
  alone_found order argument some = cond-false (is_nothing argument) (Ok order) (Err NoArgument) (nothing_not argument some)

  having_found : (verb : Verb) (argument : List ℕ) → stands_alone verb ≡ true → argument ≢ [] → order_by (Some verb) argument ≡ Err NoArgument
  having_found HeloVerb argument e some = absurd (cc)
  having_found EhloVerb argument e some = absurd (cc)
  having_found MailVerb argument e some = absurd (cc)
  having_found RcptVerb argument e some = absurd (cc)
  having_found DataVerb argument e some = alone_found Data argument some
  having_found RsetVerb argument e some = alone_found Rset argument some
  having_found NoopVerb argument e some = absurd (cc)
  having_found QuitVerb argument e some = alone_found Quit argument some
  having_found VrfyVerb argument e some = absurd (cc)
  having_found ExpnVerb argument e some = absurd (cc)
  having_found HelpVerb argument e some = absurd (cc)

  keyword_is : (one other : List ℕ) → Some one ≡ Some other → one ≡ other
  keyword_is one other e = cc

  -- a fault of the path is that of the command
  path_fault : (verb : Verb) (keyword argument : List ℕ) (fault : LineFault) → keyword_of verb ≡ Some keyword → path_after verb keyword argument ≡ Err fault → order_by (Some verb) argument ≡ Err fault
  path_fault HeloVerb keyword argument fault is e = absurd (cc)
  path_fault EhloVerb keyword argument fault is e = absurd (cc)
  path_fault MailVerb keyword argument fault is e = ap (λ k. from_by (path_after MailVerb k argument)) (keyword_is (codes "FROM:") keyword is) ∙ ap from_by e
  path_fault RcptVerb keyword argument fault is e = ap (λ k. to_by (path_after RcptVerb k argument)) (keyword_is (codes "TO:") keyword is) ∙ ap to_by e
  path_fault DataVerb keyword argument fault is e = absurd (cc)
  path_fault RsetVerb keyword argument fault is e = absurd (cc)
  path_fault NoopVerb keyword argument fault is e = absurd (cc)
  path_fault QuitVerb keyword argument fault is e = absurd (cc)
  path_fault VrfyVerb keyword argument fault is e = absurd (cc)
  path_fault ExpnVerb keyword argument fault is e = absurd (cc)
  path_fault HelpVerb keyword argument fault is e = absurd (cc)

  path_ok : (verb : Verb) (keyword argument path rest : List ℕ) → HasPath keyword argument path rest → is_too_long path ≡ false → path_after verb keyword argument ≡ Ok (record { front = path; back = rest })
  path_ok verb keyword argument path rest has short = path_after_found verb keyword argument path rest has ∙ cond-false (is_too_long path) (Err (PathTooLong verb)) (Ok (record { front = path; back = rest })) short

  path_long : (verb : Verb) (keyword argument path rest : List ℕ) → HasPath keyword argument path rest → is_too_long path ≡ true → path_after verb keyword argument ≡ Err (PathTooLong verb)
  path_long verb keyword argument path rest has long = path_after_found verb keyword argument path rest has ∙ cond-true (is_too_long path) (Err (PathTooLong verb)) (Ok (record { front = path; back = rest })) long

  path_none : (verb : Verb) (keyword argument : List ℕ) → ((path rest : List ℕ) → HasPath keyword argument path rest → ⊥) → (r : Result Parts LineFault) → PathRead verb keyword argument r → r ≡ Err (Syntax verb)
  path_none verb keyword argument never (Ok parts) read = absurd (never parts.front parts.back read.0)
  path_none verb keyword argument never (Err fault) read =
      ⊎_elim
      (λ syntax. ap (λ f. Err f) syntax.0)
      (λ long. absurd (never long.1.0 long.1.1 long.1.2))
      read

  no_given : (path rest : List ℕ) → ((size : Option ℕ) (eight : Bool) → AreGiven rest size eight → ⊥) → (o : Option Parameters) → parameters_of rest ≡ o → from_given path o ≡ Err (Parameter MailVerb)
  no_given path rest never None e = refl
  no_given path rest never (Some given) e = absurd (never given.size (unwrap_or given.body false) (parameters_read rest given e))

  command_found : (order : Order) → IsCommand line order → order_of line ≡ Ok order
  command_found _ (helo argument says some) = said HeloVerb argument says ∙ needed_found (Helo argument) argument some
  command_found _ (ehlo argument says some) = said EhloVerb argument says ∙ needed_found (Ehlo argument) argument some
  command_found _ (mail argument path rest size eight says has short are) =
      said MailVerb argument says
      ∙ ap from_by (path_ok MailVerb (codes "FROM:") argument path rest has short)
      ∙ ap (from_given path) (parameters_found rest size eight are)
      ∙ ap (λ b. Ok (Mail path size b)) (sym are.eight_is)
  command_found _ (rcpt argument path says has short) = said RcptVerb argument says ∙ ap to_by (path_ok RcptVerb (codes "TO:") argument path [] has short)
  command_found _ (data_ says) = said DataVerb [] says
  command_found _ (rset says) = said RsetVerb [] says
  command_found _ (noop argument says) = said NoopVerb argument says
  command_found _ (quit says) = said QuitVerb [] says
  command_found _ (vrfy argument says some) = said VrfyVerb argument says ∙ needed_found Vrfy argument some
  command_found _ (expn argument says) = said ExpnVerb argument says
  command_found _ (help argument says) = said HelpVerb argument says

  unknown_found : ((verb : Verb) → IsNamed (verb_of line) verb → ⊥) → (o : Option Verb) → verb_named (verb_of line) ≡ o → order_by o (argument_of line) ≡ Err Unknown
  unknown_found never None e = refl
  unknown_found never (Some verb) e = absurd (never verb (verb_read (verb_of line) verb e))

  fault_found : (fault : LineFault) → HasFault line fault → order_of line ≡ Err fault
  fault_found _ (bad_byte bad) = cond-true (list_any is_bad_byte line) (Err BadByte) (order_by (verb_named (verb_of line)) (argument_of line)) bad
  fault_found _ (unknown clean never) =
      cond-false (list_any is_bad_byte line) (Err BadByte) (order_by (verb_named (verb_of line)) (argument_of line)) clean
      ∙ unknown_found never (verb_named (verb_of line)) refl
  fault_found _ (lacks_argument verb needs says) = said verb [] says ∙ lacking_found verb needs
  fault_found _ (has_argument verb argument is says some) = said verb argument says ∙ having_found verb argument is some
  fault_found _ (no_path verb keyword argument is says never) =
      said verb argument says ∙ path_fault verb keyword argument (Syntax verb) is (path_none verb keyword argument never (path_after verb keyword argument) (path_after_read verb keyword argument))
  fault_found _ (long_path verb keyword argument path rest is says has long) =
      said verb argument says ∙ path_fault verb keyword argument (PathTooLong verb) is (path_long verb keyword argument path rest has long)
  fault_found _ (mail_parameter argument path rest says has short never) =
      said MailVerb argument says ∙ ap from_by (path_ok MailVerb (codes "FROM:") argument path rest has short) ∙ no_given path rest never (parameters_of rest) refl
  fault_found _ (rcpt_parameter argument path rest says has short some) =
      said RcptVerb argument says ∙ ap to_by (path_ok RcptVerb (codes "TO:") argument path rest has short)
      ∙ cond-false (is_nothing rest) (Ok (Rcpt path)) (Err (Parameter RcptVerb)) (nothing_not rest some)

  read_found : (answer : Result Order LineFault) → IsRead line answer → order_of line ≡ answer
  read_found (Ok order) is = command_found order is
  read_found (Err fault) is = fault_found fault is

  -- a line says one command or has one first fault
  pub one_read : (one other : Result Order LineFault) → IsRead line one → IsRead line other → one ≡ other
  one_read one other a b = sym (read_found one a) ∙ read_found other b

  -- ---- what is computed is read

  some_not : (b : ℕ) (text : List ℕ) → (b ∷ text) ≢ []
  some_not b text e = cc

  needed_read : (verb : Verb) (order : List ℕ → Order) → needs_argument verb ≡ true → ((argument : List ℕ) → Says line verb argument → argument ≢ [] → IsCommand line (order argument))
      → (argument : List ℕ) → Says line verb argument → IsRead line (needed (order argument) argument)
  needed_read verb order needs is [] says = lacks_argument verb needs says
  needed_read verb order needs is (b ∷ argument) says = is (b ∷ argument) says (some_not b argument)

  alone_read : (verb : Verb) (order : Order) → stands_alone verb ≡ true → (Says line verb [] → IsCommand line order) → (argument : List ℕ) → Says line verb argument → IsRead line (alone order argument)
  alone_read verb order stands is [] says = is says
  alone_read verb order stands is (b ∷ argument) says = has_argument verb (b ∷ argument) stands says (some_not b argument)

  fault_read : (verb : Verb) (keyword argument : List ℕ) (fault : LineFault) → keyword_of verb ≡ Some keyword → Says line verb argument → PathRead verb keyword argument (Err fault) → HasFault line fault
  fault_read verb keyword argument fault is says read =
      ⊎_elim
      (λ syntax. subst (HasFault line) (sym syntax.0) (no_path verb keyword argument is says syntax.1))
      (λ long. subst (HasFault line) (sym long.0) (long_path verb keyword argument long.1.0 long.1.1 is says long.1.2 long.1.3))
      read

  mail_given : (argument path rest : List ℕ) → Says line MailVerb argument → HasPath (codes "FROM:") argument path rest → is_too_long path ≡ false → (o : Option Parameters) → parameters_of rest ≡ o → IsRead line (from_given path o)
  mail_given argument path rest says has short None e =
      mail_parameter argument path rest says has short (λ size eight are. let found = parameters_found rest size eight are in cc)
  mail_given argument path rest says has short (Some given) e =
      mail argument path rest given.size (unwrap_or given.body false) says has short (parameters_read rest given e)

  mail_read : (argument : List ℕ) → Says line MailVerb argument → (r : Result Parts LineFault) → PathRead MailVerb (codes "FROM:") argument r → IsRead line (from_by r)
  mail_read argument says (Ok parts) read = mail_given argument parts.front parts.back says read.0 read.1 (parameters_of parts.back) refl
  mail_read argument says (Err fault) read = fault_read MailVerb (codes "FROM:") argument fault refl says read

  rcpt_rest : (argument path rest : List ℕ) → Says line RcptVerb argument → HasPath (codes "TO:") argument path rest → is_too_long path ≡ false → IsRead line (cond (is_nothing rest) (Ok (Rcpt path)) (Err (Parameter RcptVerb)))
  rcpt_rest argument path [] says has short = rcpt argument path says has short
  rcpt_rest argument path (b ∷ rest) says has short = rcpt_parameter argument path (b ∷ rest) says has short (some_not b rest)

  rcpt_read : (argument : List ℕ) → Says line RcptVerb argument → (r : Result Parts LineFault) → PathRead RcptVerb (codes "TO:") argument r → IsRead line (to_by r)
  rcpt_read argument says (Ok parts) read = rcpt_rest argument parts.front parts.back says read.0 read.1
  rcpt_read argument says (Err fault) read = fault_read RcptVerb (codes "TO:") argument fault refl says read

  verb_order : (verb : Verb) (argument : List ℕ) → Says line verb argument → IsRead line (order_by (Some verb) argument)
  verb_order HeloVerb argument says = needed_read HeloVerb Helo refl (λ a s n. helo a s n) argument says
  verb_order EhloVerb argument says = needed_read EhloVerb Ehlo refl (λ a s n. ehlo a s n) argument says
  verb_order MailVerb argument says = mail_read argument says (path_after MailVerb (codes "FROM:") argument) (path_after_read MailVerb (codes "FROM:") argument)
  verb_order RcptVerb argument says = rcpt_read argument says (path_after RcptVerb (codes "TO:") argument) (path_after_read RcptVerb (codes "TO:") argument)
  verb_order DataVerb argument says = alone_read DataVerb Data refl (λ s. data_ s) argument says
  verb_order RsetVerb argument says = alone_read RsetVerb Rset refl (λ s. rset s) argument says
  verb_order NoopVerb argument says = noop argument says
  verb_order QuitVerb argument says = alone_read QuitVerb Quit refl (λ s. quit s) argument says
  verb_order VrfyVerb argument says = needed_read VrfyVerb (λ a. Vrfy) refl (λ a s n. vrfy a s n) argument says
  verb_order ExpnVerb argument says = expn argument says
  verb_order HelpVerb argument says = help argument says

  option_read : list_any is_bad_byte line ≡ false → (o : Option Verb) → verb_named (verb_of line) ≡ o → IsRead line (order_by o (argument_of line))
  option_read clean None e = unknown clean (λ verb named. let found = verb_found (verb_of line) verb named in cc)
  option_read clean (Some verb) e = verb_order verb (argument_of line) (record { clean = clean; verb_is = verb_read (verb_of line) verb e; argument_is = refl })

  -- what is computed of a line is what the line says
  pub order_read : IsRead line (order_of line)
  order_read =
      ⊎_elim
      (λ bad. subst (IsRead line) (sym (cond-true (list_any is_bad_byte line) (Err BadByte) (order_by (verb_named (verb_of line)) (argument_of line)) bad)) (bad_byte bad))
      (λ clean. subst (IsRead line) (sym (cond-false (list_any is_bad_byte line) (Err BadByte) (order_by (verb_named (verb_of line)) (argument_of line)) clean)) (option_read clean (verb_named (verb_of line)) refl))
      (cases_Bool (list_any is_bad_byte line))
