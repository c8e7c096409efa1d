-- What the dialer answers determines what is written and what becomes of the rows. Each lemma takes
-- two histories with whatever is answered behind them: where all answers are one, the histories are
-- one, and so is what is behind.
use Rattle.std.proofs.Common.{◌≡◌, ◌≤◌, ◌<◌, ℕ, ◌+◌, ◌-◌, ◌^◌, Bool, true, false, List, [], ◌∷◌, ◌++◌, drop, map, length, refl, sym, ◌∙◌, ap, subst, append_assoc, append-nil, arith}
use Rattle.std.proofs.lemmas.List.{map-append}
use mathlib.Core.Bool.{true≢false}
use Rattle.mail_base.specs.Scripts.{one_more}
use Rattle.mail_base.specs.declared.outcome.Result1.{Result1}
use Rattle.smtp_lines.specs.Replies.{BeginsReply, IsFront}
use Rattle.link_edge.specs.declared.dial_event.DialEvent.{DialEvent}
use Rattle.link_edge.specs.declared.dial_event.DialEvent.TheVariants.{Dialled, Undialled, Read, Unread, Wrote, Unwritten, Closed}
use Rattle.link_edge.specs.declared.peer.Peer.{Peer}
use Rattle.mailer_smtp.specs.declared.kit.Kit.{Kit}
use Rattle.mailer_smtp.specs.declared.kit.Speech.{Speech}
use Rattle.mailer_smtp.specs.declared.letter.Letter.{Letter}
use Rattle.mailer_smtp.specs.declared.verdict.Verdict.{Verdict}
use Rattle.mailer_smtp.specs.declared.verdict.Wants.{Wants}
use Rattle.mailer_smtp.specs.Deliveries.{answer_of}
use Rattle.mailer_smtp.specs.Plans.{Plan, Over, Hears, Says, talk, verdict_of}
use Rattle.mailer_smtp.specs.Talks.{IsHeard, whole, bad, ended, failed, more, Leads, stays, heard, wrote, unwritten, IsParting, plain, quits, unsaid, IsTried, undialled, untold, dialled, IsAttempt, no_host, last, here, next, IsDelivery, unsayable, tried}
use Rattle.mailer_smtp.specs.Texts.{kit_of}

-- what a dialer answered
abbrev answers : List DialEvent → List DialEvent
answers events = map answer_of events

answers_append : (es fs : List DialEvent) → answers (es ++ fs) ≡ answers es ++ answers fs
answers_append es fs = map-append answer_of es fs

-- answers to two parts, one behind the other
apart : (es fs gs hs xs ys : List DialEvent) → answers (es ++ fs) ++ xs ≡ answers (gs ++ hs) ++ ys → answers es ++ (answers fs ++ xs) ≡ answers gs ++ (answers hs ++ ys)
apart es fs gs hs xs ys e = sym (append_assoc (answers es) (answers fs) xs) ∙ ap (λ zs. zs ++ xs) (sym (answers_append es fs)) ∙ e ∙ ap (λ zs. zs ++ ys) (answers_append gs hs) ∙ append_assoc (answers gs) (answers hs) ys

-- bytes begin with one reply at most, and where they do they are no reply's front
pub record OneReply : Type 0 where
  pub whole : (bytes text words : List ℕ) (code number size count : ℕ) (eight other : Bool) → BeginsReply bytes code text eight size → BeginsReply bytes number words other count → (code ≡ number) × (text ≡ words) × (eight ≡ other) × (size ≡ count)
  pub front : (bytes text : List ℕ) (code : ℕ) (eight : Bool) (size : ℕ) → BeginsReply bytes code text eight size → IsFront bytes → ⊥

-- the same reply, with the same bytes and answers behind it
pub record SameHeard (es fs : List DialEvent) (v w : Verdict) (l m : List ℕ) (xs ys : List DialEvent) : Type 0 where
  pub events_are : es ≡ fs
  pub verdict_is : v ≡ w
  pub left_is : l ≡ m
  pub rest_is : xs ≡ ys

same_read : (line : ℕ) (p q : List ℕ) (xs ys : List DialEvent) → Read line p ∷ xs ≡ Read line q ∷ ys → (p ≡ q) × (xs ≡ ys)
same_read line p q xs ys e = (cc, cc)

same_unread : (line : ℕ) (xs ys : List DialEvent) → Unread line ∷ xs ≡ Unread line ∷ ys → xs ≡ ys
same_unread line xs ys e = cc

other_read : (line : ℕ) (p : List ℕ) (xs ys : List DialEvent) → Read line p ∷ xs ≡ Unread line ∷ ys → ⊥
other_read line p xs ys e = cc

same_whole : (law : OneReply) → (wants : Wants) (bytes text words : List ℕ) (code number size count : ℕ) (eight other : Bool) (xs ys : List DialEvent) → BeginsReply bytes code text eight size → BeginsReply bytes number words other count → xs ≡ ys → SameHeard [] [] (verdict_of wants code text eight) (verdict_of wants number words other) (drop size bytes) (drop count bytes) xs ys
same_whole law wants bytes text words code number size count eight other xs ys h k e =
    let one = law.whole bytes text words code number size count eight other h k in
    record {
      events_are = refl;
      verdict_is = ap (λ c. verdict_of wants c text eight) one.0 ∙ ap (λ t. verdict_of wants number t eight) one.1 ∙ ap (λ b. verdict_of wants number words b) one.2;
      left_is = ap (λ n. drop n bytes) one.3;
      rest_is = e;
    }

-- a reply is heard in one way
heard_one : (law : OneReply) → (line : ℕ) (wants : Wants) (bytes : List ℕ) (es fs xs ys : List DialEvent) (v w : Verdict) (l m : List ℕ) → IsHeard line wants bytes es v l → IsHeard line wants bytes fs w m → answers es ++ xs ≡ answers fs ++ ys → SameHeard es fs v w l m xs ys
heard_one law line wants bytes es fs xs ys v w l m (whole _ text code eight size h) (whole _ words number other count k) e = same_whole law wants bytes text words code number size count eight other xs ys h k e
heard_one law line wants bytes es fs xs ys v w l m (whole _ text code eight size h) (bad _ k) e = absurd (k.begins code text eight size h)
heard_one law line wants bytes es fs xs ys v w l m (whole _ text code eight size h) (ended _ k) e = absurd (law.front bytes text code eight size h k)
heard_one law line wants bytes es fs xs ys v w l m (whole _ text code eight size h) (failed _ k) e = absurd (law.front bytes text code eight size h k)
heard_one law line wants bytes es fs xs ys v w l m (whole _ text code eight size h) (more _ q gs _ _ k some d) e = absurd (law.front bytes text code eight size h k)
heard_one law line wants bytes es fs xs ys v w l m (bad _ h) (whole _ words number other count k) e = absurd (h.begins number words other count k)
heard_one law line wants bytes es fs xs ys v w l m (bad _ h) (bad _ k) e = record { events_are = refl; verdict_is = refl; left_is = refl; rest_is = e }
heard_one law line wants bytes es fs xs ys v w l m (bad _ h) (ended _ k) e = absurd (h.front k)
heard_one law line wants bytes es fs xs ys v w l m (bad _ h) (failed _ k) e = absurd (h.front k)
heard_one law line wants bytes es fs xs ys v w l m (bad _ h) (more _ q gs _ _ k some d) e = absurd (h.front k)
heard_one law line wants bytes es fs xs ys v w l m (ended _ h) (whole _ words number other count k) e = absurd (law.front bytes words number other count k h)
heard_one law line wants bytes es fs xs ys v w l m (ended _ h) (bad _ k) e = absurd (k.front h)
heard_one law line wants bytes es fs xs ys v w l m (ended _ h) (ended _ k) e = record { events_are = refl; verdict_is = refl; left_is = refl; rest_is = (same_read line [] [] xs ys e).1 }
heard_one law line wants bytes es fs xs ys v w l m (ended _ h) (failed _ k) e = absurd (other_read line [] xs ys e)
heard_one law line wants bytes es fs xs ys v w l m (ended _ h) (more _ q gs _ _ k some d) e = absurd (some (sym (same_read line [] q xs (map answer_of gs ++ ys) e).0))
heard_one law line wants bytes es fs xs ys v w l m (failed _ h) (whole _ words number other count k) e = absurd (law.front bytes words number other count k h)
heard_one law line wants bytes es fs xs ys v w l m (failed _ h) (bad _ k) e = absurd (k.front h)
heard_one law line wants bytes es fs xs ys v w l m (failed _ h) (ended _ k) e = absurd (other_read line [] ys xs (sym e))
heard_one law line wants bytes es fs xs ys v w l m (failed _ h) (failed _ k) e = record { events_are = refl; verdict_is = refl; left_is = refl; rest_is = same_unread line xs ys e }
heard_one law line wants bytes es fs xs ys v w l m (failed _ h) (more _ q gs _ _ k some d) e = absurd (other_read line q (map answer_of gs ++ ys) xs (sym e))
heard_one law line wants bytes es fs xs ys v w l m (more _ p gs _ _ h some d) (whole _ words number other count k) e = absurd (law.front bytes words number other count k h)
heard_one law line wants bytes es fs xs ys v w l m (more _ p gs _ _ h some d) (bad _ k) e = absurd (k.front h)
heard_one law line wants bytes es fs xs ys v w l m (more _ p gs _ _ h some d) (ended _ k) e = absurd (some (same_read line p [] (map answer_of gs ++ xs) ys e).0)
heard_one law line wants bytes es fs xs ys v w l m (more _ p gs _ _ h some d) (failed _ k) e = absurd (other_read line p (map answer_of gs ++ xs) ys e)
heard_one law line wants bytes es fs xs ys v w l m (more _ p gs _ _ h some d) (more _ q hs _ _ k any c) e =
    let same = same_read line p q (map answer_of gs ++ xs) (map answer_of hs ++ ys) e in
    let P : List ℕ → Type 0 = λ r. IsHeard line wants (bytes ++ r) hs w m in
    let on : SameHeard gs hs v w l m xs ys = heard_one law line wants (bytes ++ p) gs hs xs ys v w l m d (subst P (sym same.0) c) same.1 in
    record {
      events_are = ap (λ r. Read line r ∷ gs) same.0 ∙ ap (λ zs. Read line q ∷ zs) on.events_are;
      verdict_is = on.verdict_is;
      left_is = on.left_is;
      rest_is = on.rest_is;
    }

-- plans differ by their kind
abbrev pub is_over : Plan → Bool
is_over (Over q l rows) = true
is_over (Hears wants go) = false
is_over (Says text lost onward) = false

same_wrote : (line : ℕ) (xs ys : List DialEvent) → Wrote line [] ∷ xs ≡ Wrote line [] ∷ ys → xs ≡ ys
same_wrote line xs ys e = cc

same_unwritten : (line : ℕ) (xs ys : List DialEvent) → Unwritten line ∷ xs ≡ Unwritten line ∷ ys → xs ≡ ys
same_unwritten line xs ys e = cc

other_written : (line : ℕ) (xs ys : List DialEvent) → Wrote line [] ∷ xs ≡ Unwritten line ∷ ys → ⊥
other_written line xs ys e = cc

-- the same end of a dialogue, with the same answers behind it
pub record SameEnd (es fs : List DialEvent) (p q : Plan) (xs ys : List DialEvent) : Type 0 where
  pub events_are : es ≡ fs
  pub plan_is : p ≡ q
  pub rest_is : xs ≡ ys

end_behind : (e : DialEvent) (es fs : List DialEvent) (p q : Plan) (xs ys : List DialEvent) → SameEnd es fs p q xs ys → SameEnd (e ∷ es) (e ∷ fs) p q xs ys
end_behind e es fs p q xs ys h = record { events_are = ap (λ zs. e ∷ zs) h.events_are; plan_is = h.plan_is; rest_is = h.rest_is }

-- a dialogue ends in one way
leads_one : (law : OneReply) → (line : ℕ) (p to up : Plan) (a rest final : List ℕ) (es fs xs ys : List DialEvent) → Leads line p a es to rest → Leads line p a fs up final → is_over to ≡ true → is_over up ≡ true → answers es ++ xs ≡ answers fs ++ ys → SameEnd es fs to up xs ys
leads_one law line p to up a rest final es fs xs ys (stays _ _) (stays _ _) s t e = record { events_are = refl; plan_is = refl; rest_is = e }
leads_one law line p to up a rest final es fs xs ys (stays _ _) (heard wants go _ events verdict left behind _ _ is d) s t e = absurd (true≢false (sym s))
leads_one law line p to up a rest final es fs xs ys (stays _ _) (wrote text lost onward _ behind _ _ d) s t e = absurd (true≢false (sym s))
leads_one law line p to up a rest final es fs xs ys (stays _ _) (unwritten text lost onward _ behind _ _ d) s t e = absurd (true≢false (sym s))
leads_one law line p to up a rest final es fs xs ys (heard wants go _ events verdict left behind _ _ is d) (stays _ _) s t e = absurd (true≢false (sym t))
leads_one law line p to up a rest final es fs xs ys (heard wants go _ events verdict left behind _ _ is d) (heard _ _ _ others word later rest_of _ _ has c) s t e =
    let same = heard_one law line wants a events others (answers behind ++ xs) (answers rest_of ++ ys) verdict word left later is has (apart events behind others rest_of xs ys e) in
    let P : Verdict → Type 0 = λ v. Leads line (go v) later rest_of up final in
    let Q : List ℕ → Type 0 = λ l. Leads line (go verdict) l rest_of up final in
    let on : SameEnd behind rest_of to up xs ys = leads_one law line (go verdict) to up left rest final behind rest_of xs ys d (subst Q (sym same.left_is) (subst P (sym same.verdict_is) c)) s t same.rest_is in
    record {
      events_are = ap (λ zs. zs ++ behind) same.events_are ∙ ap (λ zs. others ++ zs) on.events_are;
      plan_is = on.plan_is;
      rest_is = on.rest_is;
    }
leads_one law line p to up a rest final es fs xs ys (wrote text lost onward _ behind _ _ d) (stays _ _) s t e = absurd (true≢false (sym t))
leads_one law line p to up a rest final es fs xs ys (wrote text lost onward _ behind _ _ d) (wrote _ _ _ _ others _ _ c) s t e = end_behind (Wrote line text) behind others to up xs ys (leads_one law line onward to up a rest final behind others xs ys d c s t (same_wrote line (map answer_of behind ++ xs) (map answer_of others ++ ys) e))
leads_one law line p to up a rest final es fs xs ys (wrote text lost onward _ behind _ _ d) (unwritten _ _ _ _ others _ _ c) s t e = absurd (other_written line (map answer_of behind ++ xs) (map answer_of others ++ ys) e)
leads_one law line p to up a rest final es fs xs ys (unwritten text lost onward _ behind _ _ d) (stays _ _) s t e = absurd (true≢false (sym t))
leads_one law line p to up a rest final es fs xs ys (unwritten text lost onward _ behind _ _ d) (wrote _ _ _ _ others _ _ c) s t e = absurd (other_written line (map answer_of others ++ ys) (map answer_of behind ++ xs) (sym e))
leads_one law line p to up a rest final es fs xs ys (unwritten text lost onward _ behind _ _ d) (unwritten _ _ _ _ others _ _ c) s t e = end_behind (Unwritten line) behind others to up xs ys (leads_one law line lost to up a rest final behind others xs ys d c s t (same_unwritten line (map answer_of behind ++ xs) (map answer_of others ++ ys) e))

-- the same end of a line
pub record SameParting (es fs xs ys : List DialEvent) : Type 0 where
  pub events_are : es ≡ fs
  pub rest_is : xs ≡ ys

same_closed : (line : ℕ) (xs ys : List DialEvent) → Closed line ∷ xs ≡ Closed line ∷ ys → xs ≡ ys
same_closed line xs ys e = cc

-- a line ends in one way
parting_one : (line : ℕ) (quit : List ℕ) (b c : Bool) (es fs xs ys : List DialEvent) → IsParting line quit b es → IsParting line quit c fs → b ≡ c → answers es ++ xs ≡ answers fs ++ ys → SameParting es fs xs ys
parting_one line quit b c es fs xs ys plain plain same e = record { events_are = refl; rest_is = same_closed line xs ys e }
parting_one line quit b c es fs xs ys plain quits same e = absurd (true≢false (sym same))
parting_one line quit b c es fs xs ys plain unsaid same e = absurd (true≢false (sym same))
parting_one line quit b c es fs xs ys quits plain same e = absurd (true≢false same)
parting_one line quit b c es fs xs ys quits quits same e = record { events_are = refl; rest_is = same_closed line xs ys (same_wrote line (Closed line ∷ xs) (Closed line ∷ ys) e) }
parting_one line quit b c es fs xs ys quits unsaid same e = absurd (other_written line (Closed line ∷ xs) (Closed line ∷ ys) e)
parting_one line quit b c es fs xs ys unsaid plain same e = absurd (true≢false same)
parting_one line quit b c es fs xs ys unsaid quits same e = absurd (other_written line (Closed line ∷ ys) (Closed line ∷ xs) (sym e))
parting_one line quit b c es fs xs ys unsaid unsaid same e = record { events_are = refl; rest_is = same_closed line xs ys (same_unwritten line (Closed line ∷ xs) (Closed line ∷ ys) e) }

-- what is answered begins with no dial before which fewer were missed
abbrev FirstFrom : ℕ → List DialEvent → Type 0
FirstFrom missed [] = Unit {0}
FirstFrom missed (Dialled peer line before ∷ events) = missed ≤ before
FirstFrom missed (Undialled peer before ∷ events) = missed ≤ before
FirstFrom missed (Read line bytes ∷ events) = Unit {0}
FirstFrom missed (Unread line ∷ events) = Unit {0}
FirstFrom missed (Wrote line text ∷ events) = Unit {0}
FirstFrom missed (Unwritten line ∷ events) = Unit {0}
FirstFrom missed (Closed line ∷ events) = Unit {0}

from_none : (missed : ℕ) → FirstFrom missed []
from_none missed = tt

-- so many dials can still be counted
one_more_is : (missed : ℕ) → missed + 1 < 2 ^ 64 - 1 → one_more missed ≡ missed + 1
one_more_is missed room = omega (arith, room)

from_less : (few many : ℕ) (xs : List DialEvent) → few ≤ many → FirstFrom many xs → FirstFrom few xs
from_less few many [] less h = tt
from_less few many (Dialled peer line before ∷ xs) less h = omega (arith, less, h)
from_less few many (Undialled peer before ∷ xs) less h = omega (arith, less, h)
from_less few many (Read line bytes ∷ xs) less h = tt
from_less few many (Unread line ∷ xs) less h = tt
from_less few many (Wrote line text ∷ xs) less h = tt
from_less few many (Unwritten line ∷ xs) less h = tt
from_less few many (Closed line ∷ xs) less h = tt

tried_from : (speech : Speech) (kit : Kit) (peer : Peer) (missed mid : ℕ) (es xs : List DialEvent) (fault leaves : Bool) (rows : List Result1) → IsTried speech kit peer missed es mid fault leaves rows → missed + 1 < 2 ^ 64 - 1 → FirstFrom mid xs → FirstFrom missed (answers es ++ xs)
tried_from speech kit peer missed mid es xs fault leaves rows undialled room h = omega arith
tried_from speech kit peer missed mid es xs fault leaves rows untold room h = from_less missed (one_more missed) xs (omega (arith, one_more_is missed room)) h
tried_from speech kit peer missed mid es xs fault leaves rows (dialled line events parting _ _ _ rest l p) room h = omega arith

tried_mid : (speech : Speech) (kit : Kit) (peer : Peer) (missed mid : ℕ) (es : List DialEvent) (fault leaves : Bool) (rows : List Result1) → IsTried speech kit peer missed es mid fault leaves rows → mid ≤ missed + 1
tried_mid speech kit peer missed mid es fault leaves rows undialled = omega arith
tried_mid speech kit peer missed mid es fault leaves rows untold = omega arith
tried_mid speech kit peer missed mid es fault leaves rows (dialled line events parting _ _ _ rest l p) = omega arith

-- the same of a host
pub record SameTried (es fs : List DialEvent) (mid after : ℕ) (b c : Bool) (rows others : List Result1) (xs ys : List DialEvent) : Type 0 where
  pub events_are : es ≡ fs
  pub missed_are : mid ≡ after
  pub leaves_is : b ≡ c
  pub rows_are : rows ≡ others
  pub rest_is : xs ≡ ys

same_undialled : (peer : Peer) (n : ℕ) (xs ys : List DialEvent) → Undialled peer n ∷ xs ≡ Undialled peer n ∷ ys → xs ≡ ys
same_undialled peer n xs ys e = cc

same_dialled : (peer : Peer) (line other n : ℕ) (xs ys : List DialEvent) → Dialled peer line n ∷ xs ≡ Dialled peer other n ∷ ys → (line ≡ other) × (xs ≡ ys)
same_dialled peer line other n xs ys e = (cc, cc)

other_dial : (peer : Peer) (line n : ℕ) (xs ys : List DialEvent) → Undialled peer n ∷ xs ≡ Dialled peer line n ∷ ys → ⊥
other_dial peer line n xs ys e = cc

-- a dial that tells as many as were missed before can't stand behind one more that was missed
too_many : (missed : ℕ) → missed + 1 < 2 ^ 64 - 1 → one_more missed ≤ missed → ⊥
too_many missed room h = omega (arith, one_more_is missed room, h)

same_over : (b c l m : Bool) (rows others : List Result1) → Over b l rows ≡ Over c m others → (b ≡ c) × (l ≡ m) × (rows ≡ others)
same_over b c l m rows others e = (cc, cc, cc)

line_one : (law : OneReply) → (speech : Speech) (kit : Kit) (peer : Peer) (missed line other : ℕ) (es fs ps qs xs ys : List DialEvent) (b c l m : Bool) (rows others : List Result1) (rest final : List ℕ) → Leads line (talk speech kit) [] es (Over b l rows) rest → IsParting line kit.quit b ps → Leads other (talk speech kit) [] fs (Over c m others) final → IsParting other kit.quit c qs → line ≡ other → answers (es ++ ps) ++ xs ≡ answers (fs ++ qs) ++ ys → SameTried (Dialled peer line missed ∷ (es ++ ps)) (Dialled peer other missed ∷ (fs ++ qs)) 0 0 l m rows others xs ys
line_one law speech kit peer missed line other es fs ps qs xs ys b c l m rows others rest final h p k q same e =
    let L : ℕ → Type 0 = λ n. Leads n (talk speech kit) [] fs (Over c m others) final in
    let Q : ℕ → Type 0 = λ n. IsParting n kit.quit c qs in
    let ends = leads_one law line (talk speech kit) (Over b l rows) (Over c m others) [] rest final es fs (answers ps ++ xs) (answers qs ++ ys) h (subst L (sym same) k) refl refl (apart es ps fs qs xs ys e) in
    let over = same_over b c l m rows others ends.plan_is in
    let parts = parting_one line kit.quit b c ps qs xs ys p (subst Q (sym same) q) over.0 ends.rest_is in
    record {
      events_are = ap (λ n. Dialled peer n missed ∷ (es ++ ps)) same ∙ ap (λ zs. Dialled peer other missed ∷ (zs ++ ps)) ends.events_are ∙ ap (λ zs. Dialled peer other missed ∷ (fs ++ zs)) parts.events_are;
      missed_are = refl;
      leaves_is = over.1;
      rows_are = over.2;
      rest_is = parts.rest_is;
    }

tried_one : (law : OneReply) → (speech : Speech) (kit : Kit) (peer : Peer) (missed mid after : ℕ) (es fs xs ys : List DialEvent) (f g b c : Bool) (rows others : List Result1) → IsTried speech kit peer missed es mid f b rows → IsTried speech kit peer missed fs after g c others → missed + 1 < 2 ^ 64 - 1 → FirstFrom mid xs → FirstFrom after ys → answers es ++ xs ≡ answers fs ++ ys → SameTried es fs mid after b c rows others xs ys
tried_one law speech kit peer missed mid after es fs xs ys f g b c rows others undialled undialled room u v e = record { events_are = refl; missed_are = refl; leaves_is = refl; rows_are = refl; rest_is = same_undialled peer missed xs ys e }
tried_one law speech kit peer missed mid after es fs xs ys f g b c rows others undialled untold room u v e = absurd (too_many missed room (subst (FirstFrom (one_more missed)) (sym e) v))
tried_one law speech kit peer missed mid after es fs xs ys f g b c rows others undialled (dialled line fs' qs _ _ _ final k q) room u v e = absurd (other_dial peer line missed xs (map answer_of (fs' ++ qs) ++ ys) e)
tried_one law speech kit peer missed mid after es fs xs ys f g b c rows others untold undialled room u v e = absurd (too_many missed room (subst (FirstFrom (one_more missed)) e u))
tried_one law speech kit peer missed mid after es fs xs ys f g b c rows others untold untold room u v e = record { events_are = refl; missed_are = refl; leaves_is = refl; rows_are = refl; rest_is = e }
tried_one law speech kit peer missed mid after es fs xs ys f g b c rows others untold (dialled line fs' qs _ _ _ final k q) room u v e = absurd (too_many missed room (subst (FirstFrom (one_more missed)) e u))
tried_one law speech kit peer missed mid after es fs xs ys f g b c rows others (dialled line es' ps _ _ _ rest h p) undialled room u v e = absurd (other_dial peer line missed ys (map answer_of (es' ++ ps) ++ xs) (sym e))
tried_one law speech kit peer missed mid after es fs xs ys f g b c rows others (dialled line es' ps _ _ _ rest h p) untold room u v e = absurd (too_many missed room (subst (FirstFrom (one_more missed)) (sym e) v))
tried_one law speech kit peer missed mid after es fs xs ys f g b c rows others (dialled line es' ps ends _ _ rest h p) (dialled other fs' qs parts _ _ final k q) room u v e =
    let same = same_dialled peer line other missed (map answer_of (es' ++ ps) ++ xs) (map answer_of (fs' ++ qs) ++ ys) e in
    line_one law speech kit peer missed line other es' fs' ps qs xs ys ends parts b c rows others rest final h p k q same.0 same.1

attempt_from : (speech : Speech) (kit : Kit) (peers : List Peer) (missed now : ℕ) (es : List DialEvent) (fault : Bool) (rows : List Result1) → IsAttempt speech kit peers missed es now fault rows → missed + length peers < 2 ^ 64 - 1 → FirstFrom missed (answers es)
attempt_from speech kit peers missed now es fault rows (no_host _) room = tt
attempt_from speech kit peers missed now es fault rows (last peer _ _ _ _ leaves _ t) room = subst (FirstFrom missed) (append-nil (map answer_of es)) (tried_from speech kit peer missed now es [] fault leaves rows t (omega (arith, room)) tt)
attempt_from speech kit peers missed now es fault rows (here peer left _ _ _ _ _ t) room = subst (FirstFrom missed) (append-nil (map answer_of es)) (tried_from speech kit peer missed now es [] fault false rows t (omega (arith, room)) tt)
attempt_from speech kit peers missed now es fault rows (next peer other left _ mid _ events behind gone later some _ t a) room =
    let close = tried_mid speech kit peer missed mid events gone true some t in
    subst (FirstFrom missed) (sym (map-append answer_of events behind)) (tried_from speech kit peer missed mid events (map answer_of behind) gone true some t (omega (arith, room)) (attempt_from speech kit (other ∷ left) mid now behind later rows a (omega (arith, room, close))))

pub record SameAttempt (es fs : List DialEvent) (rows others : List Result1) : Type 0 where
  pub events_are : es ≡ fs
  pub rows_are : rows ≡ others

ended_here : (es fs : List DialEvent) → answers es ≡ answers fs → answers es ++ [] ≡ answers fs ++ []
ended_here es fs e = append-nil (answers es) ∙ e ∙ sym (append-nil (answers fs))

-- hosts are tried in one way
attempt_one : (law : OneReply) → (speech : Speech) (kit : Kit) (peers : List Peer) (missed now after : ℕ) (es fs : List DialEvent) (f g : Bool) (rows others : List Result1) → IsAttempt speech kit peers missed es now f rows → IsAttempt speech kit peers missed fs after g others → missed + length peers < 2 ^ 64 - 1 → answers es ≡ answers fs → SameAttempt es fs rows others
attempt_one law speech kit peers missed now after es fs f g rows others (no_host _) (no_host _) room e = record { events_are = refl; rows_are = refl }
attempt_one law speech kit peers missed now after es fs f g rows others (last peer _ _ _ _ b _ t) (last _ _ _ _ _ c _ u) room e =
    let same = tried_one law speech kit peer missed now after es fs [] [] f g b c rows others t u (omega (arith, room)) (from_none now) (from_none after) (ended_here es fs e) in
    record { events_are = same.events_are; rows_are = same.rows_are }
attempt_one law speech kit peers missed now after es fs f g rows others (last peer _ _ _ _ b _ t) (here _ _ _ _ _ _ _ u) room e =
    let same = tried_one law speech kit peer missed now after es fs [] [] f g b false rows others t u (omega (arith, room)) (from_none now) (from_none after) (ended_here es fs e) in
    record { events_are = same.events_are; rows_are = same.rows_are }
attempt_one law speech kit peers missed now after es fs f g rows others (here peer left _ _ _ _ _ t) (last _ _ _ _ _ c _ u) room e =
    let same = tried_one law speech kit peer missed now after es fs [] [] f g false c rows others t u (omega (arith, room)) (from_none now) (from_none after) (ended_here es fs e) in
    record { events_are = same.events_are; rows_are = same.rows_are }
attempt_one law speech kit peers missed now after es fs f g rows others (here peer left _ _ _ _ _ t) (here _ _ _ _ _ _ _ u) room e =
    let same = tried_one law speech kit peer missed now after es fs [] [] f g false false rows others t u (omega (arith, room)) (from_none now) (from_none after) (ended_here es fs e) in
    record { events_are = same.events_are; rows_are = same.rows_are }
attempt_one law speech kit peers missed now after es fs f g rows others (here peer left _ _ _ _ _ t) (next _ other more_peers _ mid _ events behind gone later some _ u a) room e =
    let close = tried_mid speech kit peer missed mid events gone true some u in
    let from = attempt_from speech kit (other ∷ more_peers) mid after behind later others a (omega (arith, room, close)) in
    let same = tried_one law speech kit peer missed now mid es events [] (answers behind) f gone false true rows some t u (omega (arith, room)) (from_none now) from (append-nil (answers es) ∙ e ∙ answers_append events behind) in
    absurd (true≢false (sym same.leaves_is))
attempt_one law speech kit peers missed now after es fs f g rows others (next peer other more_peers _ mid _ events behind gone later some _ u a) (here _ left _ _ _ _ _ t) room e =
    let close = tried_mid speech kit peer missed mid events gone true some u in
    let from = attempt_from speech kit (other ∷ more_peers) mid now behind later rows a (omega (arith, room, close)) in
    let same = tried_one law speech kit peer missed mid after events fs (answers behind) [] gone g true false some others u t (omega (arith, room)) from (from_none after) (sym (answers_append events behind) ∙ e ∙ sym (append-nil (answers fs))) in
    absurd (true≢false same.leaves_is)
attempt_one law speech kit peers missed now after es fs f g rows others (next peer other more_peers _ mid _ events behind gone later some _ t a) (next _ _ _ _ mid' _ events' behind' gone' later' some' _ u b) room e =
    let close = tried_mid speech kit peer missed mid events gone true some t in
    let close' = tried_mid speech kit peer missed mid' events' gone' true some' u in
    let from = attempt_from speech kit (other ∷ more_peers) mid now behind later rows a (omega (arith, room, close)) in
    let from' = attempt_from speech kit (other ∷ more_peers) mid' after behind' later' others b (omega (arith, room, close')) in
    let same = tried_one law speech kit peer missed mid mid' events events' (answers behind) (answers behind') gone gone' true true some some' t u (omega (arith, room)) from from' (sym (answers_append events behind) ∙ e ∙ answers_append events' behind') in
    let B : ℕ → Type 0 = λ n. IsAttempt speech kit (other ∷ more_peers) n behind' after later' others in
    let on : SameAttempt behind behind' rows others = attempt_one law speech kit (other ∷ more_peers) mid now after behind behind' later later' rows others a (subst B (sym same.missed_are) b) (omega (arith, room, close)) same.rest_is in
    record {
      events_are = ap (λ zs. zs ++ behind) same.events_are ∙ ap (λ zs. events' ++ zs) on.events_are;
      rows_are = on.rows_are;
    }

-- a letter is delivered in one way
pub delivery_one : (law : OneReply) → (speech : Speech) (letter : Letter) (peers : List Peer) (missed now after : ℕ) (es fs : List DialEvent) (f g : Bool) (rows others : List Result1) → missed + length peers < 2 ^ 64 - 1 → IsDelivery speech letter peers missed es now f rows → IsDelivery speech letter peers missed fs after g others → map answer_of es ≡ map answer_of fs → (es ≡ fs) × (rows ≡ others)
delivery_one law speech letter peers missed now after es fs f g rows others room (unsayable h) (unsayable k) e = (refl, refl)
delivery_one law speech letter peers missed now after es fs f g rows others room (unsayable h) (tried _ _ _ _ can b) e = absurd (true≢false (sym can ∙ h))
delivery_one law speech letter peers missed now after es fs f g rows others room (tried _ _ _ _ can a) (unsayable k) e = absurd (true≢false (sym can ∙ k))
delivery_one law speech letter peers missed now after es fs f g rows others room (tried _ _ _ _ can a) (tried _ _ _ _ may b) e =
    let same = attempt_one law speech (kit_of speech letter) peers missed now after es fs f g rows others a b room e in
    (same.events_are, same.rows_are)
