-- Worked examples of replies: those to a session, to one that gets 452 4.3.1 at the end of its data, and to one to which a send fails.
use Rattle.std.specs.Prelude.{◌≡◌, ℕ, List, [], ◌∷◌, ◌++◌, Option, None, Some, true, false, codes, refl}
use Rattle.std.proofs.Common.{ap, ◌∙◌}
use Rattle.mail_base.specs.Names.{digits}
use Rattle.mail_base.specs.Configs.{initial}
use Rattle.mail_base.specs.Limits.{most_domain, most_headers, most_local_part, most_message, most_path, message_limit, most_recipients, most_rows}
use Rattle.addr_tokens.specs.Reader.{cut}
use Rattle.addr_tokens.specs.Scans.{most_tokens}
use Rattle.smtp_lines.specs.declared.line.Line.TheVariants.{Data, DataEnd}
use Rattle.smtp_receive.specs.Dialogue.{listed, Answer, TakesLeave, Exchange, Gives, Grants, Greets, Heard, StaysSilent, answer_heard, exchanges, replies_to, reply_by, reply_heard}
use Rattle.smtp_receive.specs.Replies.{shown_host}
use Rattle.smtp_receive.proofs.Examples.{of_recipient, of_sender, peer, helo, mail, rcpt, data_line, subject, body, quit, message, taken as whole, more as one_more}
use Rattle.smtp_receive.proofs.DialogueLemmas.{replies_more}
use Rattle.mail_core.proofs.ExampleLemmas.{by_said, heard_by, input, plain}
use Rattle.mail_core.proofs.Examples.{given_lines, recipient_ok, sender_ok}

abbrev host : List ℕ
host = shown_host (codes "localhost")

-- the bytes that a message may have
abbrev most : ℕ
most = message_limit initial.options

-- what some lines come to, and the replies to them
record Replied (heard : List Heard) (before : List Exchange) (texts : List (List ℕ)) : Type 0 where
  known : exchanges initial peer heard ≡ before
  replies : replies_to initial host peer heard ≡ texts

none_yet : Replied [] [] []
none_yet = record { known = refl; replies = refl }

-- one line more
more : (heard : List Heard) (before : List Exchange) (texts : List (List ℕ)) → Replied heard before texts → (next : Heard) (answer : Option Answer) → answer_heard initial peer before next ≡ answer
    → Replied (heard ++ next ∷ []) (record { line = next.line; said = next.said; answer = answer } ∷ before) (texts ++ listed (reply_by host most answer next.id))
more heard before texts r next answer is = record {
  known = one_more heard next before answer r.known is;
  replies = replies_more initial host peer heard next
      ∙ ap (λ b. replies_to initial host peer heard ++ listed (reply_heard initial host peer b next)) r.known
      ∙ ap (λ a. replies_to initial host peer heard ++ listed (reply_by host most a next.id)) is
      ∙ ap (λ t. t ++ listed (reply_by host most answer next.id)) r.replies;
}

abbrev first_texts : List (List ℕ)
first_texts = codes "250 localhost Hello\r\n" ∷ codes "250 2.1.0 Sender ok\r\n" ∷ []

to_the_sender : Replied (input helo false None ∷ heard_by mail of_sender false None ∷ []) (by_said mail of_sender sender_ok ∷ plain helo Greets ∷ []) first_texts
unfolding most_message most_recipients most_rows cut most_tokens most_path most_local_part most_domain shown_host
to_the_sender = more _ _ _ (more [] [] [] none_yet (input helo false None) (Some Greets) refl) (heard_by mail of_sender false None) (Some sender_ok) refl

abbrev given_texts : List (List ℕ)
given_texts = first_texts ++ codes "250 2.1.5 Recipient ok\r\n" ∷ (codes "354 Enter mail, end with " ++ 34 ∷ 46 ∷ 34 ∷ codes " on a line by itself\r\n") ∷ []

to_the_dot : Replied given_lines whole given_texts
unfolding most_message most_recipients most_rows cut most_tokens most_path most_local_part most_domain shown_host
to_the_dot =
    let three = more _ _ _ to_the_sender (heard_by rcpt of_recipient false None) (Some recipient_ok) refl in
    let four = more _ _ _ three (input data_line false None) (Some Grants) refl in
    let five = more _ _ _ four (input subject false None) (Some StaysSilent) refl in
    let six = more _ _ _ five (input (Data []) false None) (Some StaysSilent) refl in
    more _ _ _ six (input body false None) (Some StaysSilent) refl

abbrev last_text : List ℕ
last_text = codes "221 2.0.0 localhost closing connection\r\n"

-- however the bytes come: by bytes the lines are the same
replies_to_a_plain_session : replies_to initial host peer (given_lines ++ input DataEnd false (Some 1) ∷ input quit false None ∷ []) ≡ given_texts ++ codes "250 2.0.0 w000000000001 Message accepted for delivery\r\n" ∷ last_text ∷ []
unfolding digits most_recipients most_rows cut most_tokens most_headers most_message most_path most_local_part most_domain shown_host
replies_to_a_plain_session =
    let dot = more _ _ _ to_the_dot (input DataEnd false (Some 1)) (Some (Gives message)) refl in
    let all = more _ _ _ dot (input quit false None) (Some TakesLeave) refl in
    all.replies

replies_where_memory_is_wanting : replies_to initial host peer (given_lines ++ input DataEnd true None ∷ input quit false None ∷ []) ≡ given_texts ++ codes "452 4.3.1 Out of memory\r\n" ∷ last_text ∷ []
unfolding most_message most_recipients most_rows cut most_tokens most_path most_local_part most_domain shown_host
replies_where_memory_is_wanting =
    let dot = more _ _ _ to_the_dot (input DataEnd true None) None refl in
    let all = more _ _ _ dot (input quit false None) (Some TakesLeave) refl in
    all.replies

-- the reply to MAIL is the last, as the send fails
replies_where_a_send_fails : replies_to initial host peer (input helo false None ∷ heard_by mail of_sender false None ∷ []) ≡ first_texts
replies_where_a_send_fails = to_the_sender.replies
