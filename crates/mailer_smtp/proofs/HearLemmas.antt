-- Reading a reply piece by piece.
use Rattle.std.proofs.Common.{◌≡◌, ◌≢◌, ◌≤◌, ◌<◌, ℕ, ◌*◌, Bool, true, false, List, [], ◌∷◌, ◌++◌, length, drop, refl, sym, ◌∙◌, ap, subst, append_assoc, append-nil, length-append, arith}
use mathlib.Core.Bool.{true≢false}
use Rattle.std.specs.Prelude.{◌||◌}
use Rattle.std.specs.List.{list_any}
use Rattle.std.proofs.lemmas.List.Folds.{list_any-append}
use Rattle.mail_base.specs.Limits.{most_reply_line, most_reply_lines}
use Rattle.mail_base.specs.Histories.{Gains, Rose}
use Rattle.mail_base.proofs.Gaining.{gains_none, gains_join}
use Rattle.smtp_lines.specs.Replies.{IsReply, last_line, more_lines, IsFront, IsNone}
use Rattle.link_edge.specs.declared.dial_event.DialEvent.{DialEvent}
use Rattle.link_edge.specs.declared.dial_event.DialEvent.TheVariants.{Read, Unread, Wrote, Unwritten}
use Rattle.link_edge.specs.Dials.{DialSeen, IsOpenAt, IsSoundAt}
use Rattle.mailer_smtp.specs.declared.verdict.Verdict.{Verdict}
use Rattle.mailer_smtp.specs.declared.verdict.Verdict.TheVariants.{Broken}
use Rattle.mailer_smtp.specs.declared.verdict.Wants.{Wants}
use Rattle.mailer_smtp.specs.Plans.{Plan, Hears, Says, device_fault, connection_lost, bad_reply}
use Rattle.mailer_smtp.specs.Talks.{IsHeard, whole, bad, ended, failed, more, Leads, stays, heard, wrote, unwritten, is_fault}
use Rattle.mailer_smtp.specs.Deliveries.{Counts}
use Rattle.mailer_smtp.specs.inner.Steps.{Went}
use Rattle.mailer_smtp.specs.inner.Inboxes.{most_held, Filled}
use Rattle.mailer_smtp.specs.inner.Looks.{IsSaid}
use Rattle.mailer_smtp.proofs.LineLemmas.{sound_on, open_on, sound_open, counts_calm, counts_rose}
use Rattle.mailer_smtp.proofs.TalkLemmas.{counts_both}

-- a reply is no longer than the room for it
reply_fits : (code : List ℕ) (n : ℕ) (texts : List (List ℕ)) (reply : List ℕ) → IsReply code n texts reply → length reply ≤ n * most_reply_line
reply_fits code n texts reply (last_line _ m text line is) = grind (arith, is.fits)
reply_fits code n texts reply (more_lines _ m text line later rest is l) =
    let tail = reply_fits code m later rest l in
    grind (arith, is.fits, tail, length-append line rest)

some_length : (xs : List ℕ) → xs ≢ [] → 0 < length xs
some_length [] h = absurd (h refl)
some_length (x ∷ xs) h = omega arith

pub front_fits : (bytes : List ℕ) → IsFront bytes → length bytes < most_held
unfolding most_reply_line most_reply_lines
front_fits bytes h =
    let fits = reply_fits h.digits most_reply_lines h.texts h.reply h.is in
    let some = some_length h.more h.some in
    omega (arith, fits, some, length-append bytes h.more, ap length h.whole)

-- what was read so far of a reply
pub record Hearing (line : ℕ) (wants : Wants) (old now : DialSeen) (start bytes : List ℕ) : Type 0 where
  pub events : List DialEvent
  pub on : (es : List DialEvent) (verdict : Verdict) (left : List ℕ) → IsHeard line wants bytes es verdict left → IsHeard line wants start (events ++ es) verdict left
  pub told : Gains old.told now.told events
  pub missed : now.missed ≡ old.missed
  pub faults : now.faults ≡ old.faults
  pub calm : list_any is_fault events ≡ false
  pub sound : IsSoundAt now line

none_any : (a b : Bool) → a ≡ false → b ≡ false → (a || b) ≡ false
none_any true b h k = absurd (true≢false h)
none_any false b h k = k

-- a piece more
pub hearing_more : (line : ℕ) (wants : Wants) (old now next : DialSeen) (start bytes after : List ℕ) (count : ℕ) → Hearing line wants old now start bytes → IsFront bytes → Filled line now.told next.told bytes after count → next.missed ≡ now.missed → next.faults ≡ now.faults → count ≢ 0 → Hearing line wants old next start after
hearing_more line wants old now next start bytes after count h front filled missed calm some =
    let piece_some : filled.piece ≢ [] = λ e. some (sym filled.size ∙ ap length e) in
    record {
      events = h.events ++ Read line filled.piece ∷ [];
      on = λ es verdict left is.
          let S : List ℕ → Type 0 = λ xs. IsHeard line wants xs es verdict left in
          let T : List DialEvent → Type 0 = λ xs. IsHeard line wants start xs verdict left in
          subst T (sym (append_assoc h.events (Read line filled.piece ∷ []) es)) (h.on (Read line filled.piece ∷ es) verdict left (more bytes filled.piece es verdict left front piece_some (subst S filled.now_is is)));
      told = gains_join old.told now.told next.told h.events (Read line filled.piece ∷ []) h.told filled.told;
      missed = missed ∙ h.missed;
      faults = calm ∙ h.faults;
      calm = list_any-append is_fault h.events (Read line filled.piece ∷ []) ∙ none_any (list_any is_fault h.events) false h.calm refl;
      sound = sound_on now.told next.told line (Read line filled.piece) (λ xs. refl) filled.told h.sound;
    }

-- the end of the reading, with these events more
pub went_heard : (line : ℕ) (wants : Wants) (old now new : DialSeen) (start bytes left : List ℕ) (es : List DialEvent) (verdict : Verdict) → Hearing line wants old now start bytes → IsHeard line wants bytes es verdict left → Gains now.told new.told es → new.missed ≡ now.missed → Counts now.faults new.faults (list_any is_fault es) → IsOpenAt new line → (go : Verdict → Plan) → Went line old new (Hears wants go) start (go verdict) left
went_heard line wants old now new start bytes left es verdict h is told missed counts live go =
    let Q : List DialEvent → Type 0 = λ xs. Leads line (Hears wants go) start xs (go verdict) left in
    record {
      events = h.events ++ es;
      leads = subst Q (append-nil (h.events ++ es)) (heard wants go start (h.events ++ es) verdict left [] (go verdict) left (h.on es verdict left is) (stays (go verdict) left));
      told = gains_join old.told now.told new.told h.events es h.told told;
      missed = missed ∙ h.missed;
      counts = counts_both old.faults now.faults new.faults h.events es (counts_calm old.faults now.faults (list_any is_fault h.events) h.calm h.faults) counts;
      live = live;
    }

-- a whole reply
pub went_said : (line : ℕ) (wants : Wants) (old now : DialSeen) (start bytes left : List ℕ) (verdict : Verdict) (size : ℕ) → Hearing line wants old now start bytes → IsSaid wants bytes verdict size → left ≡ drop size bytes → (go : Verdict → Plan) → Went line old now (Hears wants go) start (go verdict) left
went_said line wants old now start bytes left verdict size h said left_is go =
    let P : Verdict → Type 0 = λ v. IsHeard line wants bytes [] v (drop size bytes) in
    let Q : List ℕ → Type 0 = λ xs. IsHeard line wants bytes [] verdict xs in
    let is : IsHeard line wants bytes [] verdict left = subst Q (sym left_is) (subst P (sym said.verdict_is) (whole bytes said.text said.code said.eight size said.begins)) in
    went_heard line wants old now now start bytes left [] verdict h is (gains_none now.told) refl (counts_calm now.faults now.faults false refl refl) (sound_open now.told line h.sound) go

-- no reply
pub went_bad : (line : ℕ) (wants : Wants) (old now : DialSeen) (start bytes : List ℕ) → Hearing line wants old now start bytes → IsNone bytes → (go : Verdict → Plan) → Went line old now (Hears wants go) start (go (Broken bad_reply)) bytes
went_bad line wants old now start bytes h none go =
    went_heard line wants old now now start bytes bytes [] (Broken bad_reply) h (bad bytes none) (gains_none now.told) refl (counts_calm now.faults now.faults false refl refl) (sound_open now.told line h.sound) go

no_piece : (piece : List ℕ) → length piece ≡ 0 → piece ≡ []
no_piece [] h = refl
no_piece (x ∷ xs) h = absurd (omega (arith, h))

-- the line's end
pub went_ended : (line : ℕ) (wants : Wants) (old now new : DialSeen) (start bytes after : List ℕ) (count : ℕ) → Hearing line wants old now start bytes → IsFront bytes → Filled line now.told new.told bytes after count → count ≡ 0 → new.missed ≡ now.missed → new.faults ≡ now.faults → (go : Verdict → Plan) → Went line old new (Hears wants go) start (go (Broken connection_lost)) after
went_ended line wants old now new start bytes after count h front filled is_zero missed calm go =
    let none : filled.piece ≡ [] = no_piece filled.piece (filled.size ∙ is_zero) in
    let same : bytes ≡ after = sym (filled.now_is ∙ ap (λ xs. bytes ++ xs) none ∙ append-nil bytes) in
    let P : List ℕ → Type 0 = λ xs. IsHeard line wants bytes (Read line xs ∷ []) (Broken connection_lost) after in
    let Q : List ℕ → Type 0 = λ xs. IsHeard line wants bytes (Read line [] ∷ []) (Broken connection_lost) xs in
    went_heard line wants old now new start bytes after (Read line filled.piece ∷ []) (Broken connection_lost) h (subst P (sym none) (subst Q same (ended bytes front))) filled.told missed (counts_calm now.faults new.faults false refl calm) (sound_open new.told line (sound_on now.told new.told line (Read line filled.piece) (λ xs. refl) filled.told h.sound)) go

-- a fault
pub went_failed : (line : ℕ) (wants : Wants) (old now new : DialSeen) (start bytes after : List ℕ) → Hearing line wants old now start bytes → IsFront bytes → after ≡ bytes → Gains now.told new.told (Unread line ∷ []) → new.missed ≡ now.missed → now.faults ≤ new.faults → Rose now.faults new.faults → (go : Verdict → Plan) → Went line old new (Hears wants go) start (go (Broken device_fault)) after
went_failed line wants old now new start bytes after h front same told missed later rose go =
    let Q : List ℕ → Type 0 = λ xs. IsHeard line wants bytes (Unread line ∷ []) (Broken device_fault) xs in
    went_heard line wants old now new start bytes after (Unread line ∷ []) (Broken device_fault) h (subst Q (sym same) (failed bytes front)) told missed (counts_rose now.faults new.faults later rose) (open_on now.told new.told line (Unread line) (λ xs. refl) told (sound_open now.told line h.sound)) go

-- the same verdict
pub went_by : (line : ℕ) (wants : Wants) (old new : DialSeen) (start left : List ℕ) (verdict is : Verdict) → verdict ≡ is → ((go : Verdict → Plan) → Went line old new (Hears wants go) start (go is) left) → (go : Verdict → Plan) → Went line old new (Hears wants go) start (go verdict) left
went_by line wants old new start left verdict is same h go =
    let P : Verdict → Type 0 = λ v. Went line old new (Hears wants go) start (go v) left in
    subst P (sym same) (h go)

pub front_of : (bytes held : List ℕ) → bytes ≡ held → IsFront bytes → IsFront held
front_of bytes held same h = subst IsFront same h

pub none_of : (bytes held : List ℕ) → bytes ≡ held → IsNone bytes → IsNone held
none_of bytes held same h = subst IsNone same h

pub said_of : (wants : Wants) (bytes held : List ℕ) (verdict : Verdict) (size : ℕ) → bytes ≡ held → IsSaid wants bytes verdict size → IsSaid wants held verdict size
said_of wants bytes held verdict size same h =
    let P : List ℕ → Type 0 = λ xs. IsSaid wants xs verdict size in
    subst P same h

-- a write
pub went_wrote : (line : ℕ) (old new : DialSeen) (text : List ℕ) (lost next : Plan) (bytes : List ℕ) → IsSoundAt old line → Gains old.told new.told (Wrote line text ∷ []) → new.missed ≡ old.missed → new.faults ≡ old.faults → Went line old new (Says text lost next) bytes next bytes
went_wrote line old new text lost next bytes sound told missed calm = record {
  events = Wrote line text ∷ [];
  leads = wrote text lost next bytes [] next bytes (stays next bytes);
  told = told;
  missed = missed;
  counts = counts_calm old.faults new.faults false refl calm;
  live = open_on old.told new.told line (Wrote line text) (λ xs. refl) told (sound_open old.told line sound);
}

pub went_unwritten : (line : ℕ) (old new : DialSeen) (text : List ℕ) (lost next : Plan) (bytes : List ℕ) → IsSoundAt old line → Gains old.told new.told (Unwritten line ∷ []) → new.missed ≡ old.missed → old.faults ≤ new.faults → Rose old.faults new.faults → Went line old new (Says text lost next) bytes lost bytes
went_unwritten line old new text lost next bytes sound told missed later rose = record {
  events = Unwritten line ∷ [];
  leads = unwritten text lost next bytes [] lost bytes (stays lost bytes);
  told = told;
  missed = missed;
  counts = counts_rose old.faults new.faults later rose;
  live = open_on old.told new.told line (Unwritten line) (λ xs. refl) told (sound_open old.told line sound);
}
