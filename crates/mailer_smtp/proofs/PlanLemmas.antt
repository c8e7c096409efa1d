-- Each text of a dialogue is a command or the message, and each end has a row for each recipient.
use Rattle.std.proofs.Common.{◌≡◌, inl, inr, ℕ, suc, ◌+◌, Bool, true, false, cond, List, [], ◌∷◌, ◌++◌, map, length, length-append, refl, sym, ◌∙◌, ap, subst, append_assoc, arith}
use Rattle.std.specs.Prelude.{Option, Some, None, ◌&&◌, codes}
use Rattle.std.specs.List.{list_any}
use Rattle.std.proofs.lemmas.List.{length-map}
use Rattle.std.proofs.lemmas.List.Folds.{list_all-append}
use mathlib.Core.Bool.{true≢false}
use Rattle.mail_base.specs.Texts.{crlf}
use Rattle.mail_base.specs.declared.outcome.Result1.{Result1}
use Rattle.link_edge.specs.declared.dial_event.DialEvent.{DialEvent}
use Rattle.link_edge.specs.declared.dial_event.DialEvent.TheVariants.{Dialled, Undialled, Read, Unread, Wrote, Unwritten, Closed}
use Rattle.link_edge.specs.declared.peer.Peer.{Peer}
use Rattle.mailer_smtp.specs.declared.kit.Kit.{Kit}
use Rattle.mailer_smtp.specs.declared.kit.Speech.{Speech}
use Rattle.mailer_smtp.specs.declared.kit.Speech.TheVariants.{Smtp, Lmtp}
use Rattle.mailer_smtp.specs.declared.letter.Letter.{Letter}
use Rattle.mailer_smtp.specs.declared.verdict.Verdict.{Verdict}
use Rattle.mailer_smtp.specs.declared.verdict.Verdict.TheVariants.{Yes, Later, No, Broken}
use Rattle.mailer_smtp.specs.declared.verdict.Wants.{Wants}
use Rattle.mailer_smtp.specs.declared.verdict.Wants.TheVariants.{Done, Go}
use Rattle.link_edge.specs.Dials.{DialSeen}
use Rattle.mailer_smtp.specs.Deliveries.{Delivered, IsOneLine, MaySay}
use Rattle.mailer_smtp.specs.Plans.{Plan, Over, Hears, Says, asks, over, each, texted, answered, receivers, mailing, heloed, greeted, passed, opened, talk, device_fault, is_sent, is_whole, is_yes, result_of, row_of, settled, unsaid_row}
use Rattle.mailer_smtp.specs.Talks.{IsHeard, whole, bad, ended, failed, more, Leads, stays, heard, wrote, unwritten, IsParting, plain, quits, unsaid, IsTried, undialled, untold, dialled, IsAttempt, no_host, last, here, next, IsDelivery, unsayable, tried}
use Rattle.mailer_smtp.specs.Texts.{greeting_line, hello_word, is_said, is_said_byte, is_sayable, kit_of, mail_end, path_line, rcpt_of}

-- each text of a plan is one that may be written, and each end has so many rows
data Keeps (letter : Letter) (n : ℕ) : Plan → Type 0 where
  ends : (leaves parts : Bool) (rows : List Result1) → length rows ≡ n → Keeps letter n (Over leaves parts rows)
  listens : (wants : Wants) (go : Verdict → Plan) → ((reply : Verdict) → Keeps letter n (go reply)) → Keeps letter n (Hears wants go)
  speaks : (text : List ℕ) (lost onward : Plan) → MaySay letter text → Keeps letter n lost → Keeps letter n onward → Keeps letter n (Says text lost onward)

-- all that may be said is a command or the message
record Sayable (letter : Letter) (kit : Kit) : Type 0 where
  pub hello : MaySay letter kit.hello
  pub again : MaySay letter kit.again
  pub mail : MaySay letter kit.mail
  pub mail_eight : MaySay letter kit.mail_eight
  pub rcpts : (front back : List (Option (List ℕ))) (line : List ℕ) → kit.rcpts ≡ front ++ Some line ∷ back → MaySay letter line
  pub start : MaySay letter kit.start
  pub text : MaySay letter kit.text
  pub quit : MaySay letter kit.quit

keeps_if : (letter : Letter) (n : ℕ) (b : Bool) (p q : Plan) → Keeps letter n p → Keeps letter n q → Keeps letter n (cond b p q)
keeps_if letter n true p q h k = h
keeps_if letter n false p q h k = k

asks_keeps : (letter : Letter) (n : ℕ) (text : List ℕ) (wants : Wants) (go : Verdict → Plan) → MaySay letter text → ((reply : Verdict) → Keeps letter n (go reply)) → Keeps letter n (asks text wants go)
asks_keeps letter n text wants go h k = speaks text (go (Broken device_fault)) (Hears wants go) h (k (Broken device_fault)) (listens wants go k)

over_keeps : (letter : Letter) (n : ℕ) (reply : Verdict) (rows : List Result1) (left : List (Option (List ℕ))) → length rows + length left ≡ n → Keeps letter n (over reply rows left)
over_keeps letter n reply rows left size = ends (is_whole reply) false (map (settled reply) rows ++ map (row_of (result_of reply)) left) (length-append (map (settled reply) rows) (map (row_of (result_of reply)) left) ∙ ap (λ k. k + length (map (row_of (result_of reply)) left)) (length-map rows (settled reply)) ∙ ap (λ k. length rows + k) (length-map left (row_of (result_of reply))) ∙ size)

one_longer : (rows : List Result1) (row : Result1) (k n : ℕ) → length rows + suc k ≡ n → length (rows ++ row ∷ []) + k ≡ n
one_longer rows row k n size = omega (arith, size, length-append rows (row ∷ []))

each_keeps : (letter : Letter) (n : ℕ) (got rows : List Result1) → length got + length rows ≡ n → Keeps letter n (each got rows)
each_keeps letter n got [] size = ends true false got (omega (arith, size))
each_keeps letter n got (row ∷ rows) size = keeps_if letter n (is_sent row)
    (Hears Done (λ reply. cond (is_whole reply) (each (got ++ result_of reply ∷ []) rows) (Over false false (got ++ map (settled reply) (row ∷ rows)))))
    (each (got ++ row ∷ []) rows)
    (listens Done (λ reply. cond (is_whole reply) (each (got ++ result_of reply ∷ []) rows) (Over false false (got ++ map (settled reply) (row ∷ rows)))) (λ reply. keeps_if letter n (is_whole reply) (each (got ++ result_of reply ∷ []) rows) (Over false false (got ++ map (settled reply) (row ∷ rows)))
    (each_keeps letter n (got ++ result_of reply ∷ []) rows (one_longer got (result_of reply) (length rows) n size))
    (ends false false (got ++ map (settled reply) (row ∷ rows)) (length-append got (map (settled reply) (row ∷ rows)) ∙ ap (λ k. length got + k) (length-map (row ∷ rows) (settled reply)) ∙ size))))
    (each_keeps letter n (got ++ row ∷ []) rows (one_longer got row (length rows) n size))

texted_keeps : (letter : Letter) (speech : Speech) (kit : Kit) (n : ℕ) (rows : List Result1) → Sayable letter kit → length rows ≡ n → Keeps letter n (texted speech kit rows)
texted_keeps letter Smtp kit n rows h size = asks_keeps letter n kit.text Done (λ reply. over reply rows []) h.text (λ reply. over_keeps letter n reply rows [] (omega (arith, size)))
texted_keeps letter Lmtp kit n rows h size = speaks kit.text (over (Broken device_fault) rows []) (each [] rows) h.text (over_keeps letter n (Broken device_fault) rows [] (omega (arith, size))) (each_keeps letter n [] rows (omega (arith, size)))

answered_keeps : (letter : Letter) (speech : Speech) (kit : Kit) (n : ℕ) (rows : List Result1) → Sayable letter kit → length rows ≡ n → Keeps letter n (answered speech kit rows)
answered_keeps letter speech kit n rows h size = keeps_if letter n (list_any is_sent rows)
    (asks kit.start Go (λ reply. cond (is_yes reply) (texted speech kit rows) (over reply rows [])))
    (Over true false rows)
    (asks_keeps letter n kit.start Go (λ reply. cond (is_yes reply) (texted speech kit rows) (over reply rows [])) h.start (λ reply. keeps_if letter n (is_yes reply) (texted speech kit rows) (over reply rows []) (texted_keeps letter speech kit n rows h size) (over_keeps letter n reply rows [] (omega (arith, size)))))
    (ends true false rows size)

behind_one : {X : Type 0} (front : List X) (x : X) (back all : List X) → all ≡ front ++ x ∷ back → all ≡ (front ++ x ∷ []) ++ back
behind_one front x back all e = e ∙ sym (append_assoc front (x ∷ []) back)

receivers_keeps : (letter : Letter) (speech : Speech) (kit : Kit) (n : ℕ) (rows : List Result1) (front left : List (Option (List ℕ))) → Sayable letter kit → kit.rcpts ≡ front ++ left → length rows + length left ≡ n → Keeps letter n (receivers speech kit rows left)
receivers_keeps letter speech kit n rows front [] h all size = answered_keeps letter speech kit n rows h (omega (arith, size))
receivers_keeps letter speech kit n rows front (None ∷ left) h all size = receivers_keeps letter speech kit n (rows ++ unsaid_row ∷ []) (front ++ None ∷ []) left h (behind_one front None left kit.rcpts all) (one_longer rows unsaid_row (length left) n size)
receivers_keeps letter speech kit n rows front (Some line ∷ left) h all size = asks_keeps letter n line Done
    (λ reply. cond (is_whole reply) (receivers speech kit (rows ++ result_of reply ∷ []) left) (over reply rows (Some line ∷ left)))
    (h.rcpts front left line all)
    (λ reply. keeps_if letter n (is_whole reply) (receivers speech kit (rows ++ result_of reply ∷ []) left) (over reply rows (Some line ∷ left))
    (receivers_keeps letter speech kit n (rows ++ result_of reply ∷ []) (front ++ Some line ∷ []) left h (behind_one front (Some line) left kit.rcpts all) (one_longer rows (result_of reply) (length left) n size))
    (over_keeps letter n reply rows (Some line ∷ left) size))

end_of_mail : (letter : Letter) (kit : Kit) (eight : Bool) → Sayable letter kit → MaySay letter (cond eight kit.mail_eight kit.mail)
end_of_mail letter kit true h = h.mail_eight
end_of_mail letter kit false h = h.mail

mailing_keeps : (letter : Letter) (speech : Speech) (kit : Kit) (eight : Bool) → Sayable letter kit → Keeps letter (length kit.rcpts) (mailing speech kit eight)
mailing_keeps letter speech kit eight h = asks_keeps letter (length kit.rcpts) (cond eight kit.mail_eight kit.mail) Done
    (λ reply. cond (is_yes reply) (receivers speech kit [] kit.rcpts) (over reply [] kit.rcpts))
    (end_of_mail letter kit eight h)
    (λ reply. keeps_if letter (length kit.rcpts) (is_yes reply) (receivers speech kit [] kit.rcpts) (over reply [] kit.rcpts)
    (receivers_keeps letter speech kit (length kit.rcpts) [] [] kit.rcpts h refl (omega arith))
    (over_keeps letter (length kit.rcpts) reply [] kit.rcpts (omega arith)))

none_over : (letter : Letter) (kit : Kit) (reply : Verdict) → Keeps letter (length kit.rcpts) (over reply [] kit.rcpts)
none_over letter kit reply = over_keeps letter (length kit.rcpts) reply [] kit.rcpts (omega arith)

heloed_keeps : (letter : Letter) (kit : Kit) → Sayable letter kit → (reply : Verdict) → Keeps letter (length kit.rcpts) (heloed kit reply)
heloed_keeps letter kit h (Yes eight) = mailing_keeps letter Smtp kit false h
heloed_keeps letter kit h (Later note) = none_over letter kit (Later note)
heloed_keeps letter kit h (No note) = none_over letter kit (No note)
heloed_keeps letter kit h (Broken note) = none_over letter kit (Broken note)

greeted_keeps : (letter : Letter) (speech : Speech) (kit : Kit) → Sayable letter kit → (reply : Verdict) → Keeps letter (length kit.rcpts) (greeted speech kit reply)
greeted_keeps letter speech kit h (Yes eight) = mailing_keeps letter speech kit eight h
greeted_keeps letter speech kit h (Later note) = none_over letter kit (Later note)
greeted_keeps letter Smtp kit h (No note) = asks_keeps letter (length kit.rcpts) kit.again Done (heloed kit) h.again (heloed_keeps letter kit h)
greeted_keeps letter Lmtp kit h (No note) = none_over letter kit (No note)
greeted_keeps letter speech kit h (Broken note) = none_over letter kit (Broken note)

passed_keeps : (letter : Letter) (kit : Kit) (reply : Verdict) → Keeps letter (length kit.rcpts) (passed kit reply)
passed_keeps letter kit reply = ends (is_whole reply) true (map (row_of (result_of reply)) kit.rcpts) (length-map kit.rcpts (row_of (result_of reply)))

opened_keeps : (letter : Letter) (speech : Speech) (kit : Kit) → Sayable letter kit → (reply : Verdict) → Keeps letter (length kit.rcpts) (opened speech kit reply)
opened_keeps letter speech kit h (Yes eight) = asks_keeps letter (length kit.rcpts) kit.hello Done (greeted speech kit) h.hello (greeted_keeps letter speech kit h)
opened_keeps letter speech kit h (Later note) = passed_keeps letter kit (Later note)
opened_keeps letter speech kit h (No note) = none_over letter kit (No note)
opened_keeps letter speech kit h (Broken note) = passed_keeps letter kit (Broken note)

talk_keeps : (letter : Letter) (speech : Speech) (kit : Kit) → Sayable letter kit → Keeps letter (length kit.rcpts) (talk speech kit)
talk_keeps letter speech kit h = listens Done (opened speech kit) (opened_keeps letter speech kit h)

-- each text that was written is one that may be
abbrev AllWritten : Letter → List DialEvent → Type 0
AllWritten letter [] = Unit {0}
AllWritten letter (Dialled peer line missed ∷ events) = AllWritten letter events
AllWritten letter (Undialled peer missed ∷ events) = AllWritten letter events
AllWritten letter (Read line bytes ∷ events) = AllWritten letter events
AllWritten letter (Unread line ∷ events) = AllWritten letter events
AllWritten letter (Wrote line text ∷ events) = MaySay letter text × AllWritten letter events
AllWritten letter (Unwritten line ∷ events) = AllWritten letter events
AllWritten letter (Closed line ∷ events) = AllWritten letter events

written_append : (letter : Letter) (es fs : List DialEvent) → AllWritten letter es → AllWritten letter fs → AllWritten letter (es ++ fs)
written_append letter [] fs h k = k
written_append letter (Dialled peer line missed ∷ es) fs h k = written_append letter es fs h k
written_append letter (Undialled peer missed ∷ es) fs h k = written_append letter es fs h k
written_append letter (Read line bytes ∷ es) fs h k = written_append letter es fs h k
written_append letter (Unread line ∷ es) fs h k = written_append letter es fs h k
written_append letter (Wrote line text ∷ es) fs h k = (h.0, written_append letter es fs h.1 k)
written_append letter (Unwritten line ∷ es) fs h k = written_append letter es fs h k
written_append letter (Closed line ∷ es) fs h k = written_append letter es fs h k

written_at : (letter : Letter) (es front back : List DialEvent) (line : ℕ) (text : List ℕ) → AllWritten letter es → es ≡ front ++ Wrote line text ∷ back → MaySay letter text
written_at letter es front back line text h e = behind letter front back line text (subst (AllWritten letter) e h)
  where
    behind : (letter : Letter) (front back : List DialEvent) (line : ℕ) (text : List ℕ) → AllWritten letter (front ++ Wrote line text ∷ back) → MaySay letter text
    behind letter [] back line text h = h.0
    behind letter (Dialled peer other missed ∷ front) back line text h = behind letter front back line text h
    behind letter (Undialled peer missed ∷ front) back line text h = behind letter front back line text h
    behind letter (Read other bytes ∷ front) back line text h = behind letter front back line text h
    behind letter (Unread other ∷ front) back line text h = behind letter front back line text h
    behind letter (Wrote other words ∷ front) back line text h = behind letter front back line text h.1
    behind letter (Unwritten other ∷ front) back line text h = behind letter front back line text h
    behind letter (Closed other ∷ front) back line text h = behind letter front back line text h

-- nothing is written while a reply is read
heard_written : (letter : Letter) (line : ℕ) (wants : Wants) (bytes : List ℕ) (es : List DialEvent) (reply : Verdict) (left : List ℕ) → IsHeard line wants bytes es reply left → AllWritten letter es
heard_written letter line wants bytes es reply left (whole _ text code eight size h) = tt
heard_written letter line wants bytes es reply left (bad _ h) = tt
heard_written letter line wants bytes es reply left (ended _ h) = tt
heard_written letter line wants bytes es reply left (failed _ h) = tt
heard_written letter line wants bytes es reply left (more _ piece events _ _ front some h) = heard_written letter line wants (bytes ++ piece) events reply left h

-- a dialogue writes what its plan says
record Led (letter : Letter) (n : ℕ) (es : List DialEvent) (to : Plan) : Type 0 where
  pub written : AllWritten letter es
  pub keeps : Keeps letter n to

leads_keeps : (letter : Letter) (n line : ℕ) (p to : Plan) (bytes rest : List ℕ) (es : List DialEvent) → Leads line p bytes es to rest → Keeps letter n p → Led letter n es to
leads_keeps letter n line p to bytes rest es (stays _ _) k = record { written = tt; keeps = k }
leads_keeps letter n line p to bytes rest es (heard wants go _ events reply left behind _ _ is d) (listens _ _ k) =
    let on : Led letter n behind to = leads_keeps letter n line (go reply) to left rest behind d (k reply) in
    record { written = written_append letter events behind (heard_written letter line wants bytes events reply left is) on.written; keeps = on.keeps }
leads_keeps letter n line p to bytes rest es (wrote text lost onward _ behind _ _ d) (speaks _ _ _ w h k) =
    let on : Led letter n behind to = leads_keeps letter n line onward to bytes rest behind d k in
    record { written = (w, on.written); keeps = on.keeps }
leads_keeps letter n line p to bytes rest es (unwritten text lost onward _ behind _ _ d) (speaks _ _ _ w h k) =
    let on : Led letter n behind to = leads_keeps letter n line lost to bytes rest behind d h in
    record { written = on.written; keeps = on.keeps }

ends_size : (letter : Letter) (n : ℕ) (leaves parts : Bool) (rows : List Result1) → Keeps letter n (Over leaves parts rows) → length rows ≡ n
ends_size letter n leaves parts rows (ends _ _ _ size) = size

parting_written : (letter : Letter) (line : ℕ) (quit : List ℕ) (says : Bool) (es : List DialEvent) → MaySay letter quit → IsParting line quit says es → AllWritten letter es
parting_written letter line quit says es h plain = tt
parting_written letter line quit says es h quits = (h, tt)
parting_written letter line quit says es h unsaid = tt

-- what is written, and how many rows there are
record Sized (letter : Letter) (n : ℕ) (es : List DialEvent) (rows : List Result1) : Type 0 where
  pub written : AllWritten letter es
  pub size : length rows ≡ n

tried_keeps : (letter : Letter) (speech : Speech) (kit : Kit) (peer : Peer) (missed now : ℕ) (es : List DialEvent) (fault leaves : Bool) (rows : List Result1) → Sayable letter kit → IsTried speech kit peer missed es now fault leaves rows → Sized letter (length kit.rcpts) es rows
tried_keeps letter speech kit peer missed now es fault leaves rows h undialled = record { written = tt; size = length-map kit.rcpts _ }
tried_keeps letter speech kit peer missed now es fault leaves rows h untold = record { written = tt; size = length-map kit.rcpts _ }
tried_keeps letter speech kit peer missed now es fault leaves rows h (dialled line events parting says _ _ rest l p) =
    let on = leads_keeps letter (length kit.rcpts) line (talk speech kit) (Over says leaves rows) [] rest events l (talk_keeps letter speech kit h) in
    record {
      written = written_append letter events parting on.written (parting_written letter line kit.quit says parting h.quit p);
      size = ends_size letter (length kit.rcpts) says leaves rows on.keeps;
    }

attempt_keeps : (letter : Letter) (speech : Speech) (kit : Kit) (peers : List Peer) (missed now : ℕ) (es : List DialEvent) (fault : Bool) (rows : List Result1) → Sayable letter kit → IsAttempt speech kit peers missed es now fault rows → Sized letter (length kit.rcpts) es rows
attempt_keeps letter speech kit peers missed now es fault rows h (no_host _) = record { written = tt; size = length-map kit.rcpts _ }
attempt_keeps letter speech kit peers missed now es fault rows h (last peer _ _ _ _ leaves _ t) = tried_keeps letter speech kit peer missed now es fault leaves rows h t
attempt_keeps letter speech kit peers missed now es fault rows h (here peer left _ _ _ _ _ t) = tried_keeps letter speech kit peer missed now es fault false rows h t
attempt_keeps letter speech kit peers missed now es fault rows h (next peer other left _ mid _ events behind gone later some _ t a) =
    let first = tried_keeps letter speech kit peer missed mid events gone true some h t in
    let on : Sized letter (length kit.rcpts) behind rows = attempt_keeps letter speech kit (other ∷ left) mid now behind later rows h a in
    record { written = written_append letter events behind first.written on.written; size = on.size }

-- texts without a line end
said_append : (a b : List ℕ) → is_said a ≡ true → is_said b ≡ true → is_said (a ++ b) ≡ true
said_append a b h k = list_all-append is_said_byte a b ∙ ap (λ x. x && is_said b) h ∙ k

greeting_said : (word host : List ℕ) → is_said word ≡ true → is_said host ≡ true → IsOneLine (greeting_line word host)
greeting_said word host h k = record {
  line = word ++ 32 ∷ host;
  said = said_append word (32 ∷ host) h k;
  whole = sym (append_assoc word (32 ∷ host) crlf);
}

path_said : (word path end : List ℕ) → is_said word ≡ true → is_said path ≡ true → is_said end ≡ true → IsOneLine (path_line word path (end ++ crlf))
path_said word path end h k l = record {
  line = word ++ (path ++ end);
  said = said_append word (path ++ end) h (said_append path end k l);
  whole = ap (λ xs. word ++ xs) (sym (append_assoc path end crlf)) ∙ sym (append_assoc word (path ++ end) crlf);
}

hello_said : (speech : Speech) → is_said (hello_word speech) ≡ true
hello_said Smtp = refl
hello_said Lmtp = refl

mail_said : (eight : Bool) (sender : List ℕ) → is_said sender ≡ true → IsOneLine (path_line (codes "MAIL FROM:<") sender (mail_end eight))
mail_said true sender h = path_said (codes "MAIL FROM:<") sender (codes "> BODY=8BITMIME") refl h refl
mail_said false sender h = path_said (codes "MAIL FROM:<") sender (codes ">") refl h refl

rcpt_by : (user : List ℕ) (b : Bool) (line : List ℕ) → is_said user ≡ b → cond b (Some (path_line (codes "RCPT TO:<") user (codes ">\r\n"))) None ≡ Some line → IsOneLine line
rcpt_by user true line h e = subst IsOneLine (some_is (path_line (codes "RCPT TO:<") user (codes ">\r\n")) line e) (path_said (codes "RCPT TO:<") user (codes ">") refl h refl)
  where
    some_is : (a b : List ℕ) → Some a ≡ Some b → a ≡ b
    some_is a b e = cc
rcpt_by user false line h e = absurd (none_some line e)
  where
    none_some : (line : List ℕ) → None ≡ Some line → ⊥
    none_some line e = cc

same_first : {X : Type 0} (x y : X) (xs ys : List X) → x ∷ xs ≡ y ∷ ys → (x ≡ y) × (xs ≡ ys)
same_first x y xs ys e = (cc, cc)

no_first : {X : Type 0} (y : X) (ys : List X) → [] ≡ y ∷ ys → ⊥
no_first y ys e = cc

rcpts_said : (users : List (List ℕ)) (front back : List (Option (List ℕ))) (line : List ℕ) → map rcpt_of users ≡ front ++ Some line ∷ back → IsOneLine line
rcpts_said [] [] back line e = absurd (no_first (Some line) back e)
rcpts_said [] (f ∷ front) back line e = absurd (no_first f (front ++ Some line ∷ back) e)
rcpts_said (user ∷ users) [] back line e = rcpt_by user (is_said user) line refl (same_first (rcpt_of user) (Some line) (map rcpt_of users) back e).0
rcpts_said (user ∷ users) (f ∷ front) back line e = rcpts_said users front back line (same_first (rcpt_of user) f (map rcpt_of users) (front ++ Some line ∷ back) e).1

and_left : (a b : Bool) → (a && b) ≡ true → a ≡ true
and_left true b h = refl
and_left false b h = absurd (true≢false (sym h))

and_right : (a b : Bool) → (a && b) ≡ true → b ≡ true
and_right true b h = h
and_right false b h = absurd (true≢false (sym h))

kit_said : (speech : Speech) (letter : Letter) → is_sayable letter ≡ true → Sayable letter (kit_of speech letter)
kit_said speech letter can =
    let both = and_left (is_said letter.host && is_said letter.sender) (list_any is_said letter.users) can in
    let host = and_left (is_said letter.host) (is_said letter.sender) both in
    let sender = and_right (is_said letter.host) (is_said letter.sender) both in
    record {
      hello = inl (greeting_said (hello_word speech) letter.host (hello_said speech) host);
      again = inl (greeting_said (codes "HELO") letter.host refl host);
      mail = inl (mail_said false letter.sender sender);
      mail_eight = inl (mail_said letter.eight letter.sender sender);
      rcpts = λ front back line e. inl (rcpts_said letter.users front back line e);
      start = inl (record { line = codes "DATA"; said = refl; whole = refl });
      text = inr refl;
      quit = inl (record { line = codes "QUIT"; said = refl; whole = refl });
    }

delivery_keeps : (speech : Speech) (letter : Letter) (peers : List Peer) (missed now : ℕ) (es : List DialEvent) (fault : Bool) (rows : List Result1) → IsDelivery speech letter peers missed es now fault rows → Sized letter (length letter.users) es rows
delivery_keeps speech letter peers missed now es fault rows (unsayable cannot) = record { written = tt; size = length-map letter.users _ }
delivery_keeps speech letter peers missed now es fault rows (tried _ _ _ _ can a) =
    let on = attempt_keeps letter speech (kit_of speech letter) peers missed now es fault rows (kit_said speech letter can) a in
    record { written = on.written; size = on.size ∙ length-map letter.users rcpt_of }

-- each text that is written is a command or the message
pub delivery_written : (speech : Speech) (letter : Letter) (peers : List Peer) (missed now : ℕ) (es front back : List DialEvent) (fault : Bool) (rows : List Result1) (line : ℕ) (text : List ℕ) → IsDelivery speech letter peers missed es now fault rows → es ≡ front ++ Wrote line text ∷ back → MaySay letter text
delivery_written speech letter peers missed now es front back fault rows line text h e = written_at letter es front back line text (delivery_keeps speech letter peers missed now es fault rows h).written e

-- each recipient has a row
pub delivery_size : (speech : Speech) (letter : Letter) (peers : List Peer) (missed now : ℕ) (es : List DialEvent) (fault : Bool) (rows : List Result1) → IsDelivery speech letter peers missed es now fault rows → length rows ≡ length letter.users
delivery_size speech letter peers missed now es fault rows h = (delivery_keeps speech letter peers missed now es fault rows h).size

pub delivered_size : (speech : Speech) (letter : Letter) (peers : List Peer) (old new : DialSeen) (rows : List Result1) → Delivered speech letter peers old new rows → length rows ≡ length letter.users
delivered_size speech letter peers old new rows h = delivery_size speech letter peers old.missed new.missed h.events h.fault rows h.is
