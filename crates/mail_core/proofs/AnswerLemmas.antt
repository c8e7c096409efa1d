-- What a session says to a line, as the dialogue has it.
use Rattle.std.proofs.Common.{◌≡◌, ℕ, List, [], ◌∷◌, ◌++◌, Bool, true, false, Option, Some, None, refl, sym, ◌∙◌, ap}
use Rattle.std.specs.List.{flat_map}
use Rattle.std.specs.Prelude.{reverse}
use Rattle.std.proofs.lemmas.List.{append-nil, map-append, reverse-reverse}
use Rattle.std.proofs.lemmas.Grind.{flat_map-append}
use Rattle.smtp_lines.specs.declared.line.Line.{Line}
use Rattle.smtp_receive.specs.Mails.{Mail, Replied, Granted, Received, Taken, Parted}
use Rattle.smtp_receive.specs.Dialogue.{Heard, Exchange, Answer, Says, Refuses, Greets, Extends, Grants, TakesLeave, Gives, StaysSilent, is_grant, did_of, answer_heard, exchanges, exchange_of, dialogue}
use Rattle.smtp_receive.specs.Judging.{Said}
use Rattle.smtp_receive.specs.Replies.{text_of, refusal_text, grant_text, shown_host}
use Rattle.smtp_receive.proofs.DialogueLemmas.{dialogue_more}
use Rattle.mail_core.specs.Sites.{Site}
use Rattle.mail_core.specs.Guests.{Guest, grant_in, grants_of, with_line, line_in, lines_heard}
use Rattle.mail_core.specs.Machine.{closes, Did, is_answered, limit_of, replies, says}
use Rattle.mail_core.specs.Meant.{IsMadeAt}
use Rattle.mail_made.specs.Messages.{Made}
use Rattle.spool_store.specs.Entries.{Table}

-- ---- what is told, and the machine's reply

-- what is made where there is no message
abbrev pub unmade : Made
unmade = record { first = None; cuts = [] }

-- what a reply in words comes to
pub record IsReply (site : Site) (moment : ℕ) (d : Did) (answer : Answer) (text : List ℕ) (grant : Bool) : Type 0 where
  pub says_it : (made : Made) (whole : Bool) → replies site moment d answer made whole ≡ says d text whole
  pub answered : (table : Table) (made : Made) → is_answered table made answer ≡ true
  pub grant_is : is_grant (Some answer) ≡ grant
  pub meant : (table : Table) (made : Made) → IsMadeAt site moment table answer made

-- the same words
abbrev same_words : (d : Did) (one other : List ℕ) (whole : Bool) → one ≡ other → says d other whole ≡ says d one whole
same_words d one other whole e = ap (λ t. says d t whole) (sym e)

-- a reply that a session gives is its answer's text, without a grant
pub reply_is : (site : Site) (moment : ℕ) (d : Did) (answer : Answer) (text : List ℕ) → Replied text ≡ did_of (shown_host site.host) (limit_of d) answer → IsReply site moment d answer text false
reply_is site moment d (Says reply) text e = record { says_it = λ made whole. same_words d text (text_of reply) whole (cc e); answered = λ table made. refl; grant_is = refl; meant = λ table made. tt }
reply_is site moment d (Refuses error) text e = record { says_it = λ made whole. same_words d text (refusal_text error) whole (cc e); answered = λ table made. refl; grant_is = refl; meant = λ table made. tt }
reply_is site moment d Greets text e = record { says_it = λ made whole. same_words d text _ whole (cc e); answered = λ table made. refl; grant_is = refl; meant = λ table made. tt }
reply_is site moment d Extends text e = record { says_it = λ made whole. same_words d text _ whole (cc e); answered = λ table made. refl; grant_is = refl; meant = λ table made. tt }
reply_is site moment d Grants text e = absurd (cc e)
reply_is site moment d TakesLeave text e = absurd (cc e)
reply_is site moment d (Gives message) text e = absurd (cc e)
reply_is site moment d StaysSilent text e = absurd (cc e)

-- a grant that a session gives is its answer's text, with a grant
pub grant_is : (site : Site) (moment : ℕ) (d : Did) (answer : Answer) (text : List ℕ) → Granted text ≡ did_of (shown_host site.host) (limit_of d) answer → IsReply site moment d answer text true
grant_is site moment d (Says reply) text e = absurd (cc e)
grant_is site moment d (Refuses error) text e = absurd (cc e)
grant_is site moment d Greets text e = absurd (cc e)
grant_is site moment d Extends text e = absurd (cc e)
grant_is site moment d Grants text e = record { says_it = λ made whole. same_words d text grant_text whole (cc e); answered = λ table made. refl; grant_is = refl; meant = λ table made. tt }
grant_is site moment d TakesLeave text e = absurd (cc e)
grant_is site moment d (Gives message) text e = absurd (cc e)
grant_is site moment d StaysSilent text e = absurd (cc e)

-- what a farewell comes to
pub record IsBye (site : Site) (moment : ℕ) (d : Did) (answer : Answer) (text : List ℕ) : Type 0 where
  pub closes_it : (made : Made) (whole : Bool) → replies site moment d answer made whole ≡ closes d text whole
  pub answered : (table : Table) (made : Made) → is_answered table made answer ≡ true
  pub meant : (table : Table) (made : Made) → IsMadeAt site moment table answer made

-- a farewell that a session gives closes with its answer's text
pub bye_is : (site : Site) (moment : ℕ) (d : Did) (answer : Answer) (text : List ℕ) → Parted text ≡ did_of (shown_host site.host) (limit_of d) answer → IsBye site moment d answer text
bye_is site moment d (Says reply) text e = absurd (cc e)
bye_is site moment d (Refuses error) text e = absurd (cc e)
bye_is site moment d Greets text e = absurd (cc e)
bye_is site moment d Extends text e = absurd (cc e)
bye_is site moment d Grants text e = absurd (cc e)
bye_is site moment d TakesLeave text e = record { closes_it = λ made whole. let same : text ≡ _ = cc e in ap (λ t. closes d t whole) (sym same); answered = λ table made. refl; meant = λ table made. tt }
bye_is site moment d (Gives message) text e = absurd (cc e)
bye_is site moment d StaysSilent text e = absurd (cc e)

-- nothing is said
pub record IsSilent (site : Site) (moment : ℕ) (d : Did) (answer : Answer) : Type 0 where
  pub says_none : (made : Made) (whole : Bool) → replies site moment d answer made whole ≡ d
  pub answered : (table : Table) (made : Made) → is_answered table made answer ≡ true
  pub grant_is : is_grant (Some answer) ≡ false
  pub meant : (table : Table) (made : Made) → IsMadeAt site moment table answer made

-- a line that a session takes in silence has no reply
pub taken_is : (site : Site) (moment : ℕ) (d : Did) (answer : Answer) → Taken ≡ did_of (shown_host site.host) (limit_of d) answer → IsSilent site moment d answer
taken_is site moment d (Says reply) e = absurd (cc e)
taken_is site moment d (Refuses error) e = absurd (cc e)
taken_is site moment d Greets e = absurd (cc e)
taken_is site moment d Extends e = absurd (cc e)
taken_is site moment d Grants e = absurd (cc e)
taken_is site moment d TakesLeave e = absurd (cc e)
taken_is site moment d (Gives message) e = absurd (cc e)
taken_is site moment d StaysSilent e = record { says_none = λ made whole. refl; answered = λ table made. refl; grant_is = refl; meant = λ table made. tt }

-- a message that a session gives is its answer's
pub message_is : (host : List ℕ) (limit : ℕ) (answer : Answer) (message : Mail) → Received message ≡ did_of host limit answer → answer ≡ Gives message
message_is host limit (Says reply) message e = absurd (cc e)
message_is host limit (Refuses error) message e = absurd (cc e)
message_is host limit Greets message e = absurd (cc e)
message_is host limit Extends message e = absurd (cc e)
message_is host limit Grants message e = absurd (cc e)
message_is host limit TakesLeave message e = absurd (cc e)
message_is host limit (Gives other) message e = cc e
message_is host limit StaysSilent message e = absurd (cc e)

-- ---- one line more

-- the answer that stands in the dialogue, if one does
abbrev pub answer_kept : Guest → Line → Said → Bool → Option Answer
answer_kept g line said short = answer_heard g.config g.peer (exchanges g.config g.peer g.heard) (record { line = line; said = said; short = short; id = None })

-- one line more stands behind the lines heard
pub lines_more : (g : Guest) (line : Line) (said : Said) (short : Bool) (id : Option ℕ) → lines_heard (with_line g line said short id) ≡ lines_heard g ++ line ∷ []
lines_more g line said short id = map-append line_in g.heard (record { line = line; said = said; short = short; id = id } ∷ [])

-- one line more stands behind the grants with its own, where it has one
pub grants_more : (g : Guest) (line : Line) (said : Said) (short : Bool) (id : Option ℕ) → grants_of (with_line g line said short id) ≡ grants_of g ++ grant_in (record { line = line; said = said; answer = answer_kept g line said short })
grants_more g line said short id =
    let h : Heard = record { line = line; said = said; short = short; id = id } in
    let e : Exchange = record { line = line; said = said; answer = answer_kept g line said short } in
    let es : List Exchange = exchanges g.config g.peer g.heard in
    ap (λ q. flat_map grant_in q) (dialogue_more g.config g.peer g.heard h)
    ∙ flat_map-append grant_in (dialogue g.config g.peer g.heard) (exchange_of g.config g.peer (reverse (dialogue g.config g.peer g.heard)) h ∷ [])
    ∙ ap (λ b. grants_of g ++ (grant_in (exchange_of g.config g.peer b h) ++ [])) (reverse-reverse es)
    ∙ ap (λ q. grants_of g ++ q) (append-nil (grant_in e))
