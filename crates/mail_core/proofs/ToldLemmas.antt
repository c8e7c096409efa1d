-- What is said to a session for a piece are the replies of its dialogue.
use Rattle.std.proofs.Common.{◌≡◌, ℕ, List, [], ◌∷◌, ◌++◌, Bool, true, false, not, Option, Some, None, refl, sym, ◌∙◌, ap, subst, append_assoc}
use Rattle.std.specs.Prelude.{is_some, fold, if◌then◌else◌, nat_eq}
use Rattle.std.proofs.lemmas.Bool.{eq-eqb}
use Rattle.std.proofs.lemmas.Grind.{flat_map-append}
use Rattle.std.proofs.lemmas.List.{append-nil}
use Rattle.smtp_lines.specs.declared.line.Line.{Line}
use Rattle.mail_base.specs.declared.message.Message.{Message}
use Rattle.smtp_receive.specs.Mails.{Mail, message_of}
use Rattle.smtp_receive.specs.Dialogue.{listed, Answer, Says, Refuses, Greets, Extends, Grants, TakesLeave, Gives, StaysSilent, answer_heard, exchanges, reply_by}
use Rattle.smtp_receive.specs.Judging.{Said, Unasked}
use Rattle.smtp_receive.specs.Replies.{text_of, refusal_text, grant_text, hello_text, extended_text, closing_text, stored_text, shown_host, out_of_memory_text}
use Rattle.smtp_receive.proofs.DialogueLemmas.{replies_more}
use Rattle.smtp_receive.proofs.KeepLemmas.{lacking}
use Rattle.spool_store.specs.Entries.{Table}
use Rattle.mail_core.specs.Sites.{Site}
use Rattle.queue_run.specs.Deeds.{Asks}
use Rattle.mail_core.specs.Effects.{Does, Effect, HangsUp, Sends, speech}
use Rattle.mail_core.specs.Guests.{Guest, is_passed, next_line, with_line}
use Rattle.mail_core.specs.Machine.{all_answered, answer_by, answered, by_choice, Choice, closes, commits, Did, Disconnects, does, fails, fresh_start, GoesOn, heard_line, heard_where, id_by, is_answered, is_over, JudgeFails, Leaves, limit_of, Normal, OutOfMemory, Over, question_here, replies, says, settled_by, SpoolFails, Way}
use Rattle.mail_core.specs.States.{By, Cut, FilesFault, Finish, IdsSpent, SpoolFault}
use Rattle.mail_core.proofs.WayLemmas.{goes_keeps}
use Rattle.mail_made.specs.Messages.{Made, is_spent}
use Rattle.mail_core.specs.Messages.{accept_of}
use Rattle.mail_core.specs.Told.{said_to, replies_of}

same_number : (n : ℕ) → nat_eq n n ≡ true
same_number n = eq-eqb n n refl

-- what a text says
pub said_once : (n : ℕ) (text : List ℕ) (whole : Bool) (later : List Effect) → said_to n (Sends n text whole ∷ later) ≡ text ∷ said_to n later
said_once n text whole later = ap (λ b. (if b then text ∷ [] else []) ++ said_to n later) (same_number n)

said_speech : (n : ℕ) (text : List ℕ) (whole : Bool) → said_to n (speech n text whole) ≡ text ∷ []
said_speech n text true = said_once n text true []
said_speech n text false = said_once n text false (HangsUp n ∷ [])

-- and to another session nothing
said_other : (s n : ℕ) → nat_eq n s ≡ false → (text : List ℕ) (whole : Bool) (later : List Effect) → said_to s (Sends n text whole ∷ later) ≡ said_to s later
said_other s n apart text whole later = ap (λ b. (if b then text ∷ [] else []) ++ said_to s later) apart

-- what is said to one session isn't said to another
pub speech_other : (s n : ℕ) → nat_eq n s ≡ false → (text : List ℕ) (whole : Bool) → said_to s (speech n text whole) ≡ []
speech_other s n apart text true = said_other s n apart text true []
speech_other s n apart text false = said_other s n apart text false (HangsUp n ∷ [])

-- what closes one session isn't said to another
pub closing_other : (s n : ℕ) → nat_eq n s ≡ false → (text : List ℕ) (whole : Bool) → said_to s (Sends n text whole ∷ HangsUp n ∷ []) ≡ []
closing_other s n apart text whole = said_other s n apart text whole (HangsUp n ∷ [])

-- what effects say to a session is what the first say and then the others
pub said_more : (n : ℕ) (one other : List Effect) → said_to n (one ++ other) ≡ said_to n one ++ said_to n other
said_more n one other = flat_map-append _ one other

-- these texts were said besides, and no line was answered yet
record Adds (d e : Did) (texts : List (List ℕ)) : Type 0 where
  pub guest : e.guest ≡ d.guest
  pub said : said_to d.guest.number e.effects ≡ said_to d.guest.number d.effects ++ texts
  pub apart : (s : ℕ) → nat_eq d.guest.number s ≡ false → said_to s e.effects ≡ said_to s d.effects

adds_none : (d : Did) (way : Way) → Adds d (does d [] way) []
adds_none d way = record { guest = refl; said = said_more d.guest.number d.effects []; apart = λ s h. said_more s d.effects [] ∙ append-nil (said_to s d.effects) }

adds_still : (d : Did) → Adds d d []
adds_still d = record { guest = refl; said = sym (append-nil (said_to d.guest.number d.effects)); apart = λ s h. refl }

adds_says : (d : Did) (text : List ℕ) (whole : Bool) → Adds d (says d text whole) (text ∷ [])
adds_says d text whole = record {
  guest = refl;
  said = said_more d.guest.number d.effects (speech d.guest.number text whole) ∙ ap (λ t. said_to d.guest.number d.effects ++ t) (said_speech d.guest.number text whole);
  apart = λ s h. said_more s d.effects (speech d.guest.number text whole) ∙ ap (λ t. said_to s d.effects ++ t) (speech_other s d.guest.number h text whole) ∙ append-nil (said_to s d.effects);
}

adds_closes : (d : Did) (text : List ℕ) (whole : Bool) → Adds d (closes d text whole) (text ∷ [])
adds_closes d text whole = record {
  guest = refl;
  said = said_more d.guest.number d.effects (Sends d.guest.number text whole ∷ HangsUp d.guest.number ∷ [])
      ∙ ap (λ t. said_to d.guest.number d.effects ++ t) (said_once d.guest.number text whole (HangsUp d.guest.number ∷ []));
  apart = λ s h. said_more s d.effects (Sends d.guest.number text whole ∷ HangsUp d.guest.number ∷ []) ∙ ap (λ t. said_to s d.effects ++ t) (closing_other s d.guest.number h text whole) ∙ append-nil (said_to s d.effects);
}

module _ (site : Site) (moment : ℕ) where
  commits_none : (s : ℕ) (d : Did) (message : Message) (made : Made) → said_to s (commits site moment d message made).effects ≡ said_to s d.effects
  commits_none s d message made = said_more s d.effects (Does (Asks (accept_of site moment message made)) ∷ []) ∙ append-nil (said_to s d.effects)

  adds_stored : (d : Did) (message : Message) (made : Made) (text : List ℕ) (whole : Bool) → Adds d (says (commits site moment d message made) text whole) (text ∷ [])
  adds_stored d message made text whole =
      let a = adds_says (commits site moment d message made) text whole in
      record { guest = refl; said = a.said ∙ ap (λ s. s ++ text ∷ []) (commits_none d.guest.number d message made); apart = λ s h. a.apart s h ∙ commits_none s d message made }

  adds_failed : (d : Did) (message : Message) (made : Made) → Adds d (is_over (commits site moment d message made) (By SpoolFault)) []
  adds_failed d message made =
      let a = adds_none (commits site moment d message made) (Over (By SpoolFault)) in
      record { guest = refl; said = a.said ∙ ap (λ s. s ++ []) (commits_none d.guest.number d message made); apart = λ s h. a.apart s h ∙ commits_none s d message made }

  -- ---- what was said since a piece began are the replies to what was answered since

  -- what is said to a session are the replies to its lines, and nothing is said to others
  pub record IsTold (g : Guest) (d : Did) : Type 0 where
    pub number : d.guest.number ≡ g.number
    pub told : replies_of site d.guest ≡ replies_of site g ++ said_to g.number d.effects
    pub apart : (s : ℕ) → nat_eq g.number s ≡ false → said_to s d.effects ≡ []

  -- no line was answered, and nothing was said
  told_none : (g : Guest) (d e : Did) → Adds d e [] → IsTold g d → IsTold g e
  told_none g d e a t =
      let said : said_to d.guest.number e.effects ≡ said_to d.guest.number d.effects = a.said ∙ append-nil (said_to d.guest.number d.effects) in
      let here : said_to g.number e.effects ≡ said_to g.number d.effects = subst (λ n. said_to n e.effects ≡ said_to n d.effects) t.number said in
      record {
        number = ap (λ (x : Guest). x.number) a.guest ∙ t.number;
        told = ap (replies_of site) a.guest ∙ t.told ∙ ap (λ s. replies_of site g ++ s) (sym here);
        apart = λ s h. a.apart s (subst (λ n. nat_eq n s ≡ false) (sym t.number) h) ∙ t.apart s h;
      }

  -- a line was answered, and its reply was said
  told_line : (g : Guest) (d e : Did) (line : Line) (said : Said) (short : Bool) (id : Option ℕ) → Adds d e (listed (reply_by (shown_host site.host) (limit_of d) (answer_heard d.guest.config d.guest.peer (exchanges d.guest.config d.guest.peer d.guest.heard) (record { line = line; said = said; short = short; id = id })) id))
      → IsTold g d → IsTold g (heard_line e line said short id)
  told_line g d e line said short id a t =
      let host = shown_host site.host in
      let reply : List (List ℕ) = listed (reply_by host (limit_of d) (answer_heard d.guest.config d.guest.peer (exchanges d.guest.config d.guest.peer d.guest.heard) (record { line = line; said = said; short = short; id = id })) id) in
      let here : said_to g.number e.effects ≡ said_to g.number d.effects ++ reply = subst (λ n. said_to n e.effects ≡ said_to n d.effects ++ reply) t.number a.said in
      record {
        number = ap (λ (x : Guest). x.number) a.guest ∙ t.number;
        told = ap (λ x. replies_of site (with_line x line said short id)) a.guest
            ∙ replies_more d.guest.config host d.guest.peer d.guest.heard (record { line = line; said = said; short = short; id = id })
            ∙ ap (λ r. r ++ reply) t.told
            ∙ append_assoc (replies_of site g) (said_to g.number d.effects) reply
            ∙ ap (λ s. replies_of site g ++ s) (sym here);
        apart = λ s h. a.apart s (subst (λ n. nat_eq n s ≡ false) (sym t.number) h) ∙ t.apart s h;
      }

  gives_told : (spent : Bool) (g : Guest) (d : Did) (line : Line) (said : Said) (mail : Mail) (made : Made) (whole : Bool) → answer_by d said line ≡ Gives mail → IsTold g d
      → IsTold g (heard_where (not spent) (if spent then is_over d (By IdsSpent) else says (commits site moment d (message_of mail) made) (stored_text d.table.next) whole) line said false (Some d.table.next))
  gives_told true g d line said mail made whole is t = told_none g d (is_over d (By IdsSpent)) (adds_none d (Over (By IdsSpent))) t
  gives_told false g d line said mail made whole is t =
      told_line g d (says (commits site moment d (message_of mail) made) (stored_text d.table.next) whole) line said false (Some d.table.next)
      (subst (λ a. Adds d (says (commits site moment d (message_of mail) made) (stored_text d.table.next) whole) (listed (reply_by (shown_host site.host) (limit_of d) (Some a) (Some d.table.next)))) (sym is) (adds_stored d (message_of mail) made (stored_text d.table.next) whole)) t

  -- a line was answered with these words
  words_told : (g : Guest) (d : Did) (line : Line) (said : Said) (answer : Answer) (text : List ℕ) (whole : Bool) → reply_by (shown_host site.host) (limit_of d) (Some answer) None ≡ Some text → answer_by d said line ≡ answer → IsTold g d
      → IsTold g (heard_line (says d text whole) line said false None)
  words_told g d line said answer text whole words is t =
      told_line g d (says d text whole) line said false None
      (subst (λ o. Adds d (says d text whole) (listed o)) (sym (ap (λ a. reply_by (shown_host site.host) (limit_of d) (Some a) None) is ∙ words)) (adds_says d text whole)) t

  normal_told : (g : Guest) (d : Did) (line : Line) (said : Said) (answer : Answer) (made : Made) (whole : Bool) → answer_by d said line ≡ answer → IsTold g d
      → IsTold g (heard_where (is_answered d.table made answer) (replies site moment d answer made whole) line said false (id_by d.table answer))
  normal_told g d line said (Gives mail) made whole is t = gives_told (is_spent d.table made) g d line said mail made whole is t
  normal_told g d line said (Says reply) made whole is t = words_told g d line said (Says reply) (text_of reply) whole refl is t
  normal_told g d line said (Refuses error) made whole is t = words_told g d line said (Refuses error) (refusal_text error) whole refl is t
  normal_told g d line said Greets made whole is t = words_told g d line said Greets (hello_text (shown_host site.host)) whole refl is t
  normal_told g d line said Extends made whole is t = words_told g d line said Extends (extended_text (shown_host site.host) (limit_of d)) whole refl is t
  normal_told g d line said Grants made whole is t = words_told g d line said Grants grant_text whole refl is t
  normal_told g d line said TakesLeave made whole is t =
      let text : List ℕ = closing_text (shown_host site.host) in
      told_line g d (closes d text whole) line said false None (subst (λ a. Adds d (closes d text whole) (listed (reply_by (shown_host site.host) (limit_of d) (Some a) None))) (sym is) (adds_closes d text whole)) t
  normal_told g d line said StaysSilent made whole is t =
      told_line g d d line said false None (subst (λ a. Adds d d (listed (reply_by (shown_host site.host) (limit_of d) (Some a) None))) (sym is) (adds_still d)) t

  failing_told : (spent : Bool) (g : Guest) (d : Did) (message : Message) (made : Made) → IsTold g d → IsTold g (if spent then is_over d (By IdsSpent) else is_over (commits site moment d message made) (By SpoolFault))
  failing_told true g d message made t = told_none g d (is_over d (By IdsSpent)) (adds_none d (Over (By IdsSpent))) t
  failing_told false g d message made t = told_none g d (is_over (commits site moment d message made) (By SpoolFault)) (adds_failed d message made) t

  over_told : (g : Guest) (d : Did) (finish : Finish) → IsTold g d → IsTold g (is_over d finish)
  over_told g d finish t = told_none g d (is_over d finish) (adds_none d (Over finish)) t

  fails_told : (g : Guest) (d : Did) (answer : Answer) (made : Made) → IsTold g d → IsTold g (fails site moment d answer made)
  fails_told g d (Gives mail) made t = failing_told (is_spent d.table made) g d (message_of mail) made t
  fails_told g d (Says reply) made t = over_told g d Cut t
  fails_told g d (Refuses error) made t = over_told g d Cut t
  fails_told g d Greets made t = over_told g d Cut t
  fails_told g d Extends made t = over_told g d Cut t
  fails_told g d Grants made t = over_told g d Cut t
  fails_told g d TakesLeave made t = over_told g d Cut t
  fails_told g d StaysSilent made t = over_told g d Cut t

  short_told : (passed : Bool) (g : Guest) (d : Did) (line : Line) (whole : Bool) → is_passed d.guest line ≡ passed → IsTold g d → IsTold g (if passed then is_over d Cut else heard_line (says d out_of_memory_text whole) line Unasked true None)
  short_told true g d line whole is t = over_told g d Cut t
  short_told false g d line whole is t =
      told_line g d (says d out_of_memory_text whole) line Unasked true None
      (subst (λ a. Adds d (says d out_of_memory_text whole) (listed (reply_by (shown_host site.host) (limit_of d) a None))) (sym (lacking d.guest.config d.guest.peer (exchanges d.guest.config d.guest.peer d.guest.heard) line Unasked is)) (adds_says d out_of_memory_text whole)) t

  hang_none : (d : Did) → Adds d (does d (HangsUp d.guest.number ∷ []) Leaves) []
  hang_none d = record { guest = refl; said = said_more d.guest.number d.effects (HangsUp d.guest.number ∷ []); apart = λ s h. said_more s d.effects (HangsUp d.guest.number ∷ []) ∙ append-nil (said_to s d.effects) }

  drop_told : (may : Bool) (g : Guest) (d : Did) → IsTold g d → IsTold g (if may then does d (HangsUp d.guest.number ∷ []) Leaves else is_over d Cut)
  drop_told true g d t = told_none g d (does d (HangsUp d.guest.number ∷ []) Leaves) (hang_none d) t
  drop_told false g d t = over_told g d Cut t

  judged_told : (asked : Bool) (g : Guest) (d : Did) → IsTold g d → IsTold g (if asked then is_over d (By FilesFault) else is_over d Cut)
  judged_told true g d t = over_told g d (By FilesFault) t
  judged_told false g d t = over_told g d Cut t

  choice_told : (g : Guest) (d : Did) (choice : Choice) (line : Option Line) → IsTold g d → IsTold g (by_choice site moment d choice line)
  choice_told g d (Normal said made whole) (Some line) t = normal_told g d line said (answer_by d said line) made whole refl t
  choice_told g d (OutOfMemory whole) (Some line) t = short_told (is_passed d.guest line) g d line whole refl t
  choice_told g d (SpoolFails made) (Some line) t = fails_told g d (answer_by d Unasked line) made t
  choice_told g d JudgeFails (Some line) t = judged_told (is_some (question_here d line)) g d t
  choice_told g d Disconnects (Some line) t = drop_told d.may_disconnect g d t
  choice_told g d Disconnects None t = drop_told d.may_disconnect g d t
  choice_told g d (Normal said made whole) None t = over_told g d Cut t
  choice_told g d (OutOfMemory whole) None t = over_told g d Cut t
  choice_told g d (SpoolFails made) None t = over_told g d Cut t
  choice_told g d JudgeFails None t = over_told g d Cut t

  all_told : (g : Guest) (d : Did) (choices : List Choice) → IsTold g d → IsTold g (fold (answered site moment) d choices)
  all_told g d [] t = t
  all_told g d (choice ∷ choices) t =
      all_told g (answered site moment d choice) choices (goes_keeps (IsTold g) d.way d (by_choice site moment d choice (next_line d.guest)) t (choice_told g d choice (next_line d.guest) t))

  settled_told : (way : Way) (line : Option Line) (g : Guest) (d : Did) → IsTold g d → IsTold g (settled_by way line d)
  settled_told GoesOn (Some line) g d t = over_told g d Cut t
  settled_told GoesOn None g d t = t
  settled_told Leaves line g d t = t
  settled_told (Over finish) line g d t = t

  fresh_told : (table : Table) (g : Guest) → IsTold g (fresh_start table g)
  fresh_told table g = record { number = refl; told = sym (append-nil (replies_of site g)); apart = λ s h. refl }

  -- for a piece a session is said the replies to its lines, and others nothing
  pub piece_all : (table : Table) (g : Guest) (choices : List Choice) → IsTold g (all_answered site moment table g choices)
  piece_all table g choices =
      let d = fold (answered site moment) (fresh_start table g) choices in
      settled_told d.way (next_line d.guest) g d (all_told g (fresh_start table g) choices (fresh_told table g))

  -- for a piece a session is said the replies to its lines
  pub piece_told : (table : Table) (g : Guest) (choices : List Choice) → replies_of site (all_answered site moment table g choices).guest ≡ replies_of site g ++ said_to g.number (all_answered site moment table g choices).effects
  piece_told table g choices = (piece_all table g choices).told
