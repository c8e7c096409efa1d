-- One line more in a dialogue and in its replies.
use Rattle.std.proofs.Common.{◌≡◌, ℕ, List, [], ◌∷◌, ◌++◌, Some, None, reverse, fold, refl, sym, ap, ◌∙◌, append_assoc}
use Rattle.std.proofs.lemmas.List.{append-nil, reverse-append, reverse-reverse}
use Rattle.mail_base.specs.declared.config.Config.{Config}
use Rattle.smtp_receive.specs.Dialogue.{listed, Answer, Says, Refuses, Greets, Extends, Grants, TakesLeave, Gives, StaysSilent, Exchange, Heard, dialogue, did_of, exchange_of, exchanges, replies_from, replies_to, reply_by, reply_heard, with_heard}
use Rattle.smtp_receive.specs.Finals.{text_told}
use Rattle.smtp_receive.proofs.KeepLemmas.{heard_more}

replies_from_more : (config : Config) (host peer : List ℕ) (before : List Exchange) (heard : List Heard) (next : Heard) → replies_from config host peer before (heard ++ next ∷ [])
    ≡ replies_from config host peer before heard ++ listed (reply_heard config host peer (fold (with_heard config peer) before heard) next)
replies_from_more config host peer before [] next = append-nil (listed (reply_heard config host peer before next))
replies_from_more config host peer before (h ∷ heard) next =
    let told : List (List ℕ) = listed (reply_heard config host peer before h) in
    let last : List (List ℕ) = listed (reply_heard config host peer (fold (with_heard config peer) (with_heard config peer before h) heard) next) in
    ap (λ r. told ++ r) (replies_from_more config host peer (with_heard config peer before h) heard next)
    ∙ sym (append_assoc told (replies_from config host peer (with_heard config peer before h) heard) last)

-- one line more has one reply more, where it is answered
pub replies_more : (config : Config) (host peer : List ℕ) (heard : List Heard) (next : Heard)
    → replies_to config host peer (heard ++ next ∷ []) ≡ replies_to config host peer heard ++ listed (reply_heard config host peer (exchanges config peer heard) next)
replies_more config host peer heard next = replies_from_more config host peer [] heard next

-- what is done at an answer says its reply
pub told_reply : (host : List ℕ) (limit : ℕ) (answer : Answer) → text_told (did_of host limit answer) ≡ reply_by host limit (Some answer) None
told_reply host limit (Says reply) = refl
told_reply host limit (Refuses error) = refl
told_reply host limit Greets = refl
told_reply host limit Extends = refl
told_reply host limit Grants = refl
told_reply host limit TakesLeave = refl
told_reply host limit (Gives message) = refl
told_reply host limit StaysSilent = refl

-- one line more is one exchange more of the dialogue
pub dialogue_more : (config : Config) (peer : List ℕ) (heard : List Heard) (next : Heard)
    → dialogue config peer (heard ++ next ∷ []) ≡ dialogue config peer heard ++ exchange_of config peer (reverse (dialogue config peer heard)) next ∷ []
dialogue_more config peer heard next =
    let es : List Exchange = exchanges config peer heard in
    ap reverse (heard_more config peer heard next)
    ∙ reverse-append (exchange_of config peer es next ∷ []) es
    ∙ ap (λ b. reverse es ++ exchange_of config peer b next ∷ []) (sym (reverse-reverse es))
