-- What a session stands for after one line more.
use Rattle.std.specs.Prelude.{◌≤◌}
use Rattle.std.proofs.Common.{ℕ, false, List, [], ◌∷◌, ◌++◌, length, None, Result, Ok, Err, IfOk, sym, subst}
use Rattle.mail_base.specs.Answering.{Answerer}
use Rattle.mail_base.specs.Limits.{message_limit, most_rows}
use Rattle.mail_base.specs.declared.config.Config.{Config}
use Rattle.smtp_lines.specs.declared.line.Line.{Line}
use Rattle.smtp_receive.specs.Dialogue.{Heard, exchanges, lines_in}
use Rattle.smtp_receive.specs.Judging.{Question, Said}
use Rattle.smtp_receive.specs.Sessions.{Answered, IsBounded, Keeps, Stands}
use Rattle.smtp_receive.specs.declared.did.Did.{Did}
use Rattle.smtp_receive.specs.declared.session.Session.{Session}
use Rattle.smtp_receive.specs.inner.Steps.{Goes}
use Rattle.smtp_receive.proofs.KeepLemmas.{heard_more}
use Rattle.smtp_receive.proofs.EndLemmas.{holds_small}
use Rattle.smtp_receive.proofs.RowLemmas.{rows_few}

goes_answered : (seen : Answerer) (Test : Question → Said → Type 0) (n : Session) (config : Config) (host peer : List ℕ) (heard : List Heard) (line : Line) (did : Did)
    → Goes seen Test n config host peer (exchanges config peer heard) line did → Answered seen Test n config host peer heard line did
goes_answered seen Test n config host peer heard line did goes = record {
  said = goes.said;
  is_said = goes.is_said;
  did_is = goes.did_is;
  stands = λ id. subst (λ es. Keeps n config host peer es) (sym (heard_more config peer heard (record { line = line; said = goes.said; short = false; id = id }))) goes.keeps;
}

-- a line that goes as the dialogue says is answered
pub line_answered : {E : Type 0} (r : Result Did E) (seen : Answerer) (Test : Question → Said → Type 0) (n : Session) (config : Config) (host peer : List ℕ) (heard : List Heard) (line : Line)
    → IfOk r (Goes seen Test n config host peer (exchanges config peer heard) line) → IfOk r (Answered seen Test n config host peer heard line)
line_answered (Err e) seen Test n config host peer heard line goes = tt
line_answered (Ok d) seen Test n config host peer heard line goes = goes_answered seen Test n config host peer heard line d goes

-- what stands for lines is within its limits
stands_bounded : (s : Session) (config : Config) (host peer : List ℕ) (heard : List Heard) → Stands s config host peer heard → IsBounded s config
stands_bounded s config host peer heard k = record {
  rows = subst (λ rows. length rows ≤ most_rows) (sym k.rows_is) (rows_few config peer heard);
  bytes = holds_small (message_limit config.options) s.message (lines_in (exchanges config peer heard)) k.message_is;
}

-- after a line that goes so, what the session keeps is within its limits
pub line_bounded : {E : Type 0} (r : Result Did E) (seen : Answerer) (Test : Question → Said → Type 0) (n : Session) (config : Config) (host peer : List ℕ) (heard : List Heard) (line : Line)
    → IfOk r (Goes seen Test n config host peer (exchanges config peer heard) line) → IfOk r (λ _. IsBounded n config)
line_bounded (Err e) seen Test n config host peer heard line goes = tt
line_bounded (Ok d) seen Test n config host peer heard line goes =
    let is = goes_answered seen Test n config host peer heard line d goes in
    stands_bounded n config host peer (heard ++ record { line = line; said = is.said; short = false; id = None } ∷ []) (is.stands None)
