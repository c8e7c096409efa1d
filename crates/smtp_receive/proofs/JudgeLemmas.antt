-- What is known of a judge and of what it said.
use Rattle.std.specs.Prelude.{◌↔◌, ◌≤◌, IfSome}
use Rattle.std.proofs.Common.{◌≡◌, ℕ, Bool, true, false, List, [], ◌∷◌, ◌++◌, Option, Some, None, sym, subst, ◌∙◌}
use Rattle.mail_base.specs.Answering.{Answerer}
use Rattle.mail_base.specs.declared.config.Config.{Config}
use Rattle.mail_base.specs.declared.fault.JudgeFault.{JudgeFault}
use Rattle.mail_base.specs.declared.fault.NoMemory.{NoMemory}
use Rattle.smtp_receive.specs.Dialogue.{Heard, answer_heard, exchanges, question}
use Rattle.smtp_receive.specs.Forms.{AreFormed, AreFormedIn, FormedFor}
use Rattle.smtp_receive.specs.Judging.{Question, Said, IsFormedSaid, IsSaid}
use Rattle.smtp_receive.specs.Sessions.{question_of}
use Rattle.smtp_receive.proofs.KeepLemmas.{heard_more}

-- ---- what is said is formed

-- whatever is said at a line is in its form
pub said_formed : (seen : Answerer) (Test : Question → Said → Type 0) (asked : Option Question) (said : Said) → IsSaid seen Test asked said → IsFormedSaid said
said_formed seen Test None said is = subst IsFormedSaid (sym is) tt
said_formed seen Test (Some question) said is = is.form

-- whatever is said at a question is of its kind and in its form
pub said_for : (seen : Answerer) (Test : Question → Said → Type 0) (asked : Option Question) (said : Said) → IsSaid seen Test asked said → FormedFor asked said
said_for seen Test None said is = tt
said_for seen Test (Some question) said is = (is.kind, is.form)

some_any : {A : Type 0} (P : Type 0) (o : Option A) → P → IfSome o (λ _. P)
some_any P None p = tt
some_any P (Some a) p = p

-- one line more at which what is said is formed
pub formed_more : (config : Config) (peer : List ℕ) (heard : List Heard) (next : Heard) → AreFormed config peer heard → FormedFor (question_of config peer heard next.line) next.said
    → AreFormed config peer (heard ++ next ∷ [])
formed_more config peer heard next formed is =
    subst (AreFormedIn config peer) (sym (heard_more config peer heard next))
    (some_any (FormedFor (question_of config peer heard next.line) next.said) (answer_heard config peer (exchanges config peer heard) next) is, formed)

-- one line more to which 452 4.3.1 was replied, whatever was said
pub formed_lacking : (config : Config) (peer : List ℕ) (heard : List Heard) (next : Heard) → AreFormed config peer heard → answer_heard config peer (exchanges config peer heard) next ≡ None
    → AreFormed config peer (heard ++ next ∷ [])
formed_lacking config peer heard next formed lacks =
    subst (AreFormedIn config peer) (sym (heard_more config peer heard next))
    (subst (λ o. IfSome o (λ _. FormedFor (question_of config peer heard next.line) next.said)) (sym lacks) tt, formed)
