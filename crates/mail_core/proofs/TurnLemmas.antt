-- The lines of a session that were answered stand first in what it sent, and what came of it is what was taken.
use Rattle.std.proofs.Common.{◌≡◌, ℕ, suc, map, List, [], ◌∷◌, ◌++◌, Bool, true, false, Option, Some, None, refl, sym, ◌∙◌, ap, subst, ⊎_elim}
use Rattle.std.specs.Prelude.{is_some, fold, length, slice_get, if◌then◌else◌}
use Rattle.std.specs.List.{flat_map}
use Rattle.std.proofs.lemmas.Bool.{cases_Bool}
use Rattle.std.proofs.lemmas.Grind.{flat_map-append}
use Rattle.std.proofs.lemmas.List.{append-nil}
use Rattle.smtp_lines.specs.declared.line.Line.{Line}
use Rattle.smtp_lines.specs.declared.line.Mode.{Mode}
use Rattle.smtp_lines.specs.declared.line.Mode.TheVariants.{Commands}
use Rattle.smtp_lines.specs.Stream.{Reads, asks, granted_mode, line_of, mode_after, reading_of}
use Rattle.mail_base.specs.declared.message.Message.{Message}
use Rattle.smtp_receive.specs.Mails.{message_of}
use Rattle.smtp_receive.specs.Dialogue.{Answer, Heard, Says, Refuses, Greets, Extends, Grants, TakesLeave, Gives, StaysSilent, is_grant}
use Rattle.smtp_receive.specs.Judging.{Said, Unasked}
use Rattle.smtp_receive.specs.Replies.{text_of, refusal_text, grant_text, hello_text, extended_text, closing_text, stored_text, shown_host, out_of_memory_text}
use Rattle.spool_store.specs.Entries.{Table}
use Rattle.mail_core.specs.Sites.{Site}
use Rattle.queue_run.specs.Deeds.{Asks}
use Rattle.mail_core.specs.Effects.{Does, Effect, Takes, Ticks, Sends, HangsUp, events_of, speech, taken_in}
use Rattle.mail_core.specs.Guests.{Guest, line_in, grants_of, is_passed, next_line, with_line, lines_heard}
use Rattle.mail_core.specs.Machine.{all_answered, answer_by, answered, by_choice, Choice, closes, commits, Did, Disconnects, does, fails, fresh_start, goes_on, GoesOn, heard_line, heard_where, id_by, is_answered, is_over, JudgeFails, Leaves, limit_of, Normal, OutOfMemory, Over, question_here, replies, says, settled_by, SpoolFails, Way}
use Rattle.mail_core.specs.States.{By, Cut, FilesFault, Finish, IdsSpent, SpoolFault}
use Rattle.mail_made.specs.Messages.{Made, is_spent}
use Rattle.mail_core.specs.Messages.{accept_of}
use Rattle.mail_core.specs.Told.{IsInTurn, brought_by, brought_in, brought_of}
use Rattle.mail_core.proofs.WayLemmas.{goes_keeps}
use Rattle.mail_core.proofs.AnswerLemmas.{answer_kept, grants_more, lines_more}
use Rattle.mail_core.proofs.StreamLemmas.{IsNext, next_reads, none_left, reads_asked, reads_plain}

-- ---- lines that stand first

how_many_heard : (heard : List Heard) → length (map line_in heard) ≡ length heard
how_many_heard [] = refl
how_many_heard (h ∷ heard) = ap suc (how_many_heard heard)

-- the lines that were answered stand first in what the session sent
pub record AreFirst (g : Guest) : Type 0 where
  pub last : Mode
  pub rest : List ℕ
  pub reads : Reads Commands g.received (grants_of g) (lines_heard g) last rest

pub first_of : (g : Guest) → IsInTurn g → AreFirst g
first_of g t = record { last = t.last; rest = t.rest; reads = t.reads }

at_heard : (g : Guest) → next_line g ≡ slice_get (reading_of g.received (grants_of g)).lines (length (lines_heard g))
at_heard g = ap (slice_get (reading_of g.received (grants_of g)).lines) (sym (how_many_heard g.heard))

first_more : (g : Guest) (line : Line) (said : Said) (short : Bool) (id : Option ℕ) (last : Mode) (rest : List ℕ) → Reads Commands g.received (grants_of g ++ (if asks line then is_grant (answer_kept g line said short) ∷ [] else [])) (lines_heard g ++ line ∷ []) last rest → AreFirst (with_line g line said short id)
first_more g line said short id last rest h = record {
  last = last;
  rest = rest;
  reads = subst (λ q. Reads Commands g.received q (lines_heard (with_line g line said short id)) last rest) (sym (grants_more g line said short id))
      (subst (λ q. Reads Commands g.received (grants_of g ++ (if asks line then is_grant (answer_kept g line said short) ∷ [] else [])) q last rest) (sym (lines_more g line said short id)) h);
}

first_line : (g : Guest) (line : Line) (said : Said) (short : Bool) (id : Option ℕ) (f : AreFirst g) → IsNext f.last f.rest line → AreFirst (with_line g line said short id)
first_line g line said short id f n =
    let b = is_grant (answer_kept g line said short) in
    let one = line_of f.last n.front in
    ⊎_elim
    (λ asking.
    let reads = reads_asked Commands g.received (grants_of g) (lines_heard g) f.last f.rest n.front n.back b n.cut_is.whole n.cut_is.none (ap asks (sym n.is) ∙ asking) f.reads in
    first_more g line said short id (granted_mode b) n.back
    (subst (λ q. Reads Commands g.received (grants_of g ++ (if q then b ∷ [] else [])) (lines_heard g ++ line ∷ []) (granted_mode b) n.back) (sym asking)
    (subst (λ q. Reads Commands g.received (grants_of g ++ b ∷ []) (lines_heard g ++ q ∷ []) (granted_mode b) n.back) (sym n.is) reads)))
    (λ silent.
    let reads = reads_plain Commands g.received (grants_of g) (lines_heard g) f.last f.rest n.front n.back n.cut_is.whole n.cut_is.none (ap asks (sym n.is) ∙ silent) f.reads in
    first_more g line said short id (mode_after one) n.back
    (subst (λ q. Reads Commands g.received (grants_of g ++ (if q then b ∷ [] else [])) (lines_heard g ++ line ∷ []) (mode_after one) n.back) (sym silent)
    (subst (λ q. Reads Commands g.received q (lines_heard g ++ line ∷ []) (mode_after one) n.back) (sym (append-nil (grants_of g)))
    (subst (λ q. Reads Commands g.received (grants_of g) (lines_heard g ++ q ∷ []) (mode_after one) n.back) (sym n.is) reads))))
    (cases_Bool (asks line))

-- the next line was answered
pub first_next : (g : Guest) (line : Line) (said : Said) (short : Bool) (id : Option ℕ) → next_line g ≡ Some line → AreFirst g → AreFirst (with_line g line said short id)
first_next g line said short id next f = first_line g line said short id f (next_reads (length g.received) Commands g.received (grants_of g) (lines_heard g) f.last f.rest line f.reads (sym (at_heard g) ∙ next))

-- none is left
pub turn_of : (g : Guest) → AreFirst g → next_line g ≡ None → IsInTurn g
turn_of g f none = record { last = f.last; rest = f.rest; reads = f.reads; none = none_left g.received (grants_of g) (lines_heard g) f.last f.rest f.reads (sym (at_heard g) ∙ none) }

-- ---- what is done brings nothing, and answers no line but the next

-- what two effects in turn brought of a session is what each of them brought
pub brought_more : (s : ℕ) (one other : List Effect) → brought_of s (one ++ other) ≡ brought_of s one ++ brought_of s other
brought_more s one other = flat_map-append (brought_by s) one other

-- what effects bring of a session came with the turns that they take
brought_taken : (s : ℕ) (effects : List Effect) → brought_of s effects ≡ flat_map (brought_in s) (events_of effects)
brought_taken s [] = refl
brought_taken s (Takes event ∷ effects) = ap (λ q. brought_in s event ++ q) (brought_taken s effects)
brought_taken s (Ticks reading ∷ effects) = brought_taken s effects
brought_taken s (Does deed ∷ effects) = brought_taken s effects
brought_taken s (Sends number text whole ∷ effects) = brought_taken s effects
brought_taken s (HangsUp number ∷ effects) = brought_taken s effects

-- effects that take no turn bring nothing
pub brought_none : (s : ℕ) (effects : List Effect) → events_of effects ≡ [] → brought_of s effects ≡ []
brought_none s effects none = brought_taken s effects ∙ ap (flat_map (brought_in s)) none

takes_none : (effects more : List Effect) → events_of more ≡ [] → events_of (effects ++ more) ≡ events_of effects
takes_none effects more none = flat_map-append taken_in effects more ∙ ap (λ q. events_of effects ++ q) none ∙ append-nil (events_of effects)

speech_takes : (n : ℕ) (text : List ℕ) (whole : Bool) → events_of (speech n text whole) ≡ []
speech_takes n text true = refl
speech_takes n text false = refl

-- the same session, or one with this line answered
data Goes (g now : Guest) (line : Option Line) : Type 0 where
  stays : now ≡ g → Goes g now line
  hears : (one : Line) (said : Said) (short : Bool) (id : Option ℕ) → line ≡ Some one → now ≡ with_line g one said short id → Goes g now line

record Moves (d e : Did) (line : Option Line) : Type 0 where
  guest : Goes d.guest e.guest line
  quiet : events_of e.effects ≡ events_of d.effects

-- no line was answered
record Idles (d e : Did) : Type 0 where
  same : e.guest ≡ d.guest
  quiet : events_of e.effects ≡ events_of d.effects

idles_does : (d : Did) (effects : List Effect) (way : Way) → events_of effects ≡ [] → Idles d (does d effects way)
idles_does d effects way none = record { same = refl; quiet = takes_none d.effects effects none }

idles_still : (d : Did) → Idles d d
idles_still d = record { same = refl; quiet = refl }

idles_join : (d e x : Did) → Idles d e → Idles e x → Idles d x
idles_join d e x h k = record { same = k.same ∙ h.same; quiet = k.quiet ∙ h.quiet }

idles_says : (d : Did) (text : List ℕ) (whole : Bool) → Idles d (says d text whole)
idles_says d text whole = record { same = refl; quiet = takes_none d.effects (speech d.guest.number text whole) (speech_takes d.guest.number text whole) }

idles_closes : (d : Did) (text : List ℕ) (whole : Bool) → Idles d (closes d text whole)
idles_closes d text whole = record { same = refl; quiet = takes_none d.effects (Sends d.guest.number text whole ∷ HangsUp d.guest.number ∷ []) refl }

idles_over : (d : Did) (finish : Finish) → Idles d (is_over d finish)
idles_over d finish = idles_does d [] (Over finish) refl

-- of that one session the lines that were answered stand first
pub record IsKept (g : Guest) (d : Did) : Type 0 where
  pub peer : d.guest.peer ≡ g.peer
  pub config : d.guest.config ≡ g.config
  pub received : d.guest.received ≡ g.received
  pub first : AreFirst d.guest

-- and where it goes on no line is left
pub record IsSettled (g : Guest) (d : Did) : Type 0 where
  pub kept : IsKept g d
  pub none : d.way ≡ GoesOn → next_line d.guest ≡ None

not_over : (finish : Finish) → Over finish ≡ GoesOn → ⊥
not_over finish h = cc h

not_left : Leaves ≡ GoesOn → ⊥
not_left h = cc h

module _ (site : Site) (moment : ℕ) where
  idles_commits : (d : Did) (message : Message) (made : Made) → Idles d (commits site moment d message made)
  idles_commits d message made = record { same = refl; quiet = takes_none d.effects (Does (Asks (accept_of site moment message made)) ∷ []) refl }

  idles_accepts : (spent : Bool) (d : Did) (message : Message) (made : Made) (whole : Bool) → Idles d (if spent then is_over d (By IdsSpent) else says (commits site moment d message made) (stored_text d.table.next) whole)
  idles_accepts true d message made whole = idles_over d (By IdsSpent)
  idles_accepts false d message made whole =
      let c = commits site moment d message made in
      idles_join d c (says c (stored_text d.table.next) whole) (idles_commits d message made) (idles_says c (stored_text d.table.next) whole)

  idles_replies : (d : Did) (answer : Answer) (made : Made) (whole : Bool) → Idles d (replies site moment d answer made whole)
  idles_replies d (Says reply) made whole = idles_says d (text_of reply) whole
  idles_replies d (Refuses error) made whole = idles_says d (refusal_text error) whole
  idles_replies d Greets made whole = idles_says d (hello_text (shown_host site.host)) whole
  idles_replies d Extends made whole = idles_says d (extended_text (shown_host site.host) (limit_of d)) whole
  idles_replies d Grants made whole = idles_says d grant_text whole
  idles_replies d TakesLeave made whole = idles_closes d (closing_text (shown_host site.host)) whole
  idles_replies d (Gives mail) made whole = idles_accepts (is_spent d.table made) d (message_of mail) made whole
  idles_replies d StaysSilent made whole = idles_still d

  idles_failing : (spent : Bool) (d : Did) (message : Message) (made : Made) → Idles d (if spent then is_over d (By IdsSpent) else is_over (commits site moment d message made) (By SpoolFault))
  idles_failing true d message made = idles_over d (By IdsSpent)
  idles_failing false d message made =
      let c = commits site moment d message made in
      idles_join d c (is_over c (By SpoolFault)) (idles_commits d message made) (idles_over c (By SpoolFault))

  idles_fails : (d : Did) (answer : Answer) (made : Made) → Idles d (fails site moment d answer made)
  idles_fails d (Gives mail) made = idles_failing (is_spent d.table made) d (message_of mail) made
  idles_fails d (Says reply) made = idles_over d Cut
  idles_fails d (Refuses error) made = idles_over d Cut
  idles_fails d Greets made = idles_over d Cut
  idles_fails d Extends made = idles_over d Cut
  idles_fails d Grants made = idles_over d Cut
  idles_fails d TakesLeave made = idles_over d Cut
  idles_fails d StaysSilent made = idles_over d Cut

  idles_judged : (d : Did) (asked : Bool) → Idles d (if asked then is_over d (By FilesFault) else is_over d Cut)
  idles_judged d true = idles_over d (By FilesFault)
  idles_judged d false = idles_over d Cut

  idles_drops : (d : Did) (may : Bool) → Idles d (if may then does d (HangsUp d.guest.number ∷ []) Leaves else is_over d Cut)
  idles_drops d true = record { same = refl; quiet = takes_none d.effects (HangsUp d.guest.number ∷ []) refl }
  idles_drops d false = idles_over d Cut

  moves_idle : (d e : Did) (line : Option Line) → Idles d e → Moves d e line
  moves_idle d e line i = record { guest = stays i.same; quiet = i.quiet }

  moves_where : (b : Bool) (d e : Did) (line : Line) (said : Said) (short : Bool) (id : Option ℕ) → Idles d e → Moves d (heard_where b e line said short id) (Some line)
  moves_where true d e line said short id i = record { guest = hears line said short id refl (ap (λ g. with_line g line said short id) i.same); quiet = i.quiet }
  moves_where false d e line said short id i = moves_idle d e (Some line) i

  moves_short : (passed : Bool) (d : Did) (line : Line) (whole : Bool) → Moves d (if passed then is_over d Cut else heard_line (says d out_of_memory_text whole) line Unasked true None) (Some line)
  moves_short true d line whole = moves_idle d (is_over d Cut) (Some line) (idles_over d Cut)
  moves_short false d line whole = moves_where true d (says d out_of_memory_text whole) line Unasked true None (idles_says d out_of_memory_text whole)

  moves_choice : (d : Did) (choice : Choice) (line : Option Line) → Moves d (by_choice site moment d choice line) line
  moves_choice d (Normal said made whole) (Some line) =
      let answer = answer_by d said line in
      moves_where (is_answered d.table made answer) d (replies site moment d answer made whole) line said false (id_by d.table answer) (idles_replies d answer made whole)
  moves_choice d (OutOfMemory whole) (Some line) = moves_short (is_passed d.guest line) d line whole
  moves_choice d (SpoolFails made) (Some line) = let answer = answer_by d Unasked line in moves_idle d (fails site moment d answer made) (Some line) (idles_fails d answer made)
  moves_choice d JudgeFails (Some line) = moves_idle d _ (Some line) (idles_judged d (is_some (question_here d line)))
  moves_choice d Disconnects (Some line) = moves_idle d _ (Some line) (idles_drops d d.may_disconnect)
  moves_choice d Disconnects None = moves_idle d _ None (idles_drops d d.may_disconnect)
  moves_choice d (Normal said made whole) None = moves_idle d (is_over d Cut) None (idles_over d Cut)
  moves_choice d (OutOfMemory whole) None = moves_idle d (is_over d Cut) None (idles_over d Cut)
  moves_choice d (SpoolFails made) None = moves_idle d (is_over d Cut) None (idles_over d Cut)
  moves_choice d JudgeFails None = moves_idle d (is_over d Cut) None (idles_over d Cut)

  -- ---- what is done for a piece takes no turn, and brings nothing

  quiet_all : (d : Did) (choices : List Choice) → events_of d.effects ≡ [] → events_of (fold (answered site moment) d choices).effects ≡ []
  quiet_all d [] h = h
  quiet_all d (choice ∷ choices) h =
      let e = by_choice site moment d choice (next_line d.guest) in
      let m = moves_choice d choice (next_line d.guest) in
      quiet_all (goes_on d.way d e) choices (goes_keeps (λ (x : Did). events_of x.effects ≡ []) d.way d e h (m.quiet ∙ h))

  quiet_settled : (way : Way) (line : Option Line) (d : Did) → events_of d.effects ≡ [] → events_of (settled_by way line d).effects ≡ []
  quiet_settled GoesOn (Some line) d h = let i = idles_over d Cut in i.quiet ∙ h
  quiet_settled GoesOn None d h = h
  quiet_settled Leaves line d h = h
  quiet_settled (Over finish) line d h = h

  pub piece_takes_none : (table : Table) (g : Guest) (choices : List Choice) → events_of (all_answered site moment table g choices).effects ≡ []
  piece_takes_none table g choices =
      let d = fold (answered site moment) (fresh_start table g) choices in
      quiet_settled d.way (next_line d.guest) d (quiet_all (fresh_start table g) choices refl)

  pub piece_quiet : (s : ℕ) (table : Table) (g : Guest) (choices : List Choice) → brought_of s (all_answered site moment table g choices).effects ≡ []
  piece_quiet s table g choices = brought_none s (all_answered site moment table g choices).effects (piece_takes_none table g choices)

  -- ---- a piece

  kept_by : (g : Guest) (d : Did) (now : Guest) (effects : List Effect) (line : Option Line) → next_line d.guest ≡ line → Goes d.guest now line → IsKept g d
      → (now.peer ≡ g.peer) × (now.config ≡ g.config) × (now.received ≡ g.received) × AreFirst now
  kept_by g d now effects line next (stays same) k = (ap (λ (x : Guest). x.peer) same ∙ k.peer, ap (λ (x : Guest). x.config) same ∙ k.config, ap (λ (x : Guest). x.received) same ∙ k.received, subst AreFirst (sym same) k.first)
  kept_by g d now effects line next (hears one said short id is same) k = (
    ap (λ (x : Guest). x.peer) same ∙ k.peer,
    ap (λ (x : Guest). x.config) same ∙ k.config,
    ap (λ (x : Guest). x.received) same ∙ k.received,
    subst AreFirst (sym same) (first_next d.guest one said short id (next ∙ is) k.first),
  )

  kept_moves : (g : Guest) (d e : Did) → Moves d e (next_line d.guest) → IsKept g d → IsKept g e
  kept_moves g d e m k =
      let parts = kept_by g d e.guest e.effects (next_line d.guest) refl m.guest k in
      record { peer = parts.0; config = parts.1; received = parts.2; first = parts.3 }

  kept_all : (g : Guest) (d : Did) (choices : List Choice) → IsKept g d → IsKept g (fold (answered site moment) d choices)
  kept_all g d [] k = k
  kept_all g d (choice ∷ choices) k =
      let e = by_choice site moment d choice (next_line d.guest) in
      kept_all g (goes_on d.way d e) choices (goes_keeps (IsKept g) d.way d e k (kept_moves g d e (moves_choice d choice (next_line d.guest)) k))

  kept_over : (g : Guest) (d : Did) (finish : Finish) → IsKept g d → IsKept g (is_over d finish)
  kept_over g d finish k = record { peer = k.peer; config = k.config; received = k.received; first = k.first }

  settles : (g : Guest) (d : Did) (way : Way) (line : Option Line) → d.way ≡ way → next_line d.guest ≡ line → IsKept g d → IsSettled g (settled_by way line d)
  settles g d GoesOn (Some line) on next k = record { kept = kept_over g d Cut k; none = λ e. absurd (not_over Cut e) }
  settles g d GoesOn None on next k = record { kept = k; none = λ e. next }
  settles g d Leaves line on next k = record { kept = k; none = λ e. absurd (not_left (sym on ∙ e)) }
  settles g d (Over finish) line on next k = record { kept = k; none = λ e. absurd (not_over finish (sym on ∙ e)) }

  pub piece_settled : (table : Table) (g : Guest) (choices : List Choice) → AreFirst g → IsSettled g (all_answered site moment table g choices)
  piece_settled table g choices first =
      let d = fold (answered site moment) (fresh_start table g) choices in
      settles g d d.way (next_line d.guest) refl refl (kept_all g (fresh_start table g) choices (record { peer = refl; config = refl; received = refl; first = first }))
