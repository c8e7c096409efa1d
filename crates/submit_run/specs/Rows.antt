-- The rows of all recipients of a message that is handed over (Sendmail Installation and Operation
-- Guide, "The Alias Database" and "Per-User Forwarding", MaxRecipientsPerMessage; RFC 5321, section
-- 4.5.3.1.10; the limit of rows, and that a program is no recipient, are own).
use Rattle.std.specs.Prelude.{◌≡◌, ℕ, ◌+◌, Bool, true, false, ◌||◌, ◌==◌, nat_le, nat_lt, List, [], ◌∷◌, ◌++◌, length, Option, Some, Result, Ok, Err, if◌then◌else◌, codes, refl}
use Rattle.mail_base.specs.Limits.{most_rows, recipient_limit}
use Rattle.mail_base.specs.declared.draw.Draw.{Draw}
use Rattle.mail_base.specs.declared.route.Cause.TheVariants.{FileMailer}
use Rattle.mail_base.specs.declared.route.RouteError.{RouteError}
use Rattle.cf_macros.specs.SessionMacros.{session_macros}
use Rattle.mail_edge.specs.Seen.{FileMap}
use Rattle.alias_expand.specs.Rows.{Expands, Site}
use Rattle.alias_expand.specs.declared.refusal.ExpandRefusal.{ExpandRefusal}
use Rattle.mail_judge.specs.Judged.{Grounds, error_of, error_with, site_in, too_many}
use Rattle.submit_run.specs.Parties.{kept}
use Rattle.submit_run.specs.declared.end.SubmitEnd.{SubmitEnd}
use Rattle.submit_run.specs.declared.end.SubmitEnd.TheVariants.{BadRecipient}

-- what the rows of a sender's recipients stand on
abbrev pub site_under : Grounds → List ℕ → Site
site_under grounds sender = site_in grounds (session_macros grounds.config kept sender)

-- a recipient begins with `|` (124)
abbrev pub is_program : List ℕ → Bool
is_program [] = false
is_program (b ∷ recipient) = b == 124

abbrev pub no_program : RouteError
no_program = error_with 550 (codes "5.2.4") (codes "File delivery not supported") FileMailer

-- the rows so far and those of the recipient of this place, counted from 0, unless one of both is
-- above its limit
abbrev pub joined : ℕ → ℕ → List Draw → List Draw → Result (List Draw) RouteError
joined limit place rows more =
    if nat_le limit place || nat_lt most_rows (length rows + length more) then Err too_many
    else Ok (rows ++ more)

module _ (grounds : Grounds) (files : Option FileMap) (sender : List ℕ) where
  -- what comes of a recipient behind these rows: it is a program, or its aliases give no rows, or
  -- there are rows, with which there may be too many
  pub data DrawsOne (place : ℕ) (rows : List Draw) (recipient : List ℕ)
      : Result (List Draw) RouteError → Type 0 where
    runs : is_program recipient ≡ true → DrawsOne place rows recipient (Err no_program)
    is_refused : (refusal : ExpandRefusal) (error : RouteError) → is_program recipient ≡ false
        → Expands (site_under grounds sender) files recipient sender (Err refusal)
        → error_of refusal ≡ Some error
        → DrawsOne place rows recipient (Err error)
    goes : (more : List Draw) → is_program recipient ≡ false
        → Expands (site_under grounds sender) files recipient sender (Ok more)
        → DrawsOne place rows recipient
        (joined (recipient_limit grounds.config.options) place rows more)

  -- what comes of recipients from this place on: the rows of all in their order, or the first that
  -- is refused
  pub data Draws : ℕ → List Draw → List (List ℕ) → Result (List Draw) SubmitEnd → Type 0 where
    draws_none : (place : ℕ) (rows : List Draw) → Draws place rows [] (Ok rows)
    stops : (place : ℕ) (rows : List Draw) (recipient : List ℕ) (recipients : List (List ℕ))
        (error : RouteError) → DrawsOne place rows recipient (Err error)
        → Draws place rows (recipient ∷ recipients) (Err (BadRecipient place error))
    draws : (place : ℕ) (rows next : List Draw) (recipient : List ℕ) (recipients : List (List ℕ))
        (drawn : Result (List Draw) SubmitEnd) → DrawsOne place rows recipient (Ok next)
        → Draws (place + 1) next recipients drawn
        → Draws place rows (recipient ∷ recipients) drawn

-- a program is refused at its place, whatever comes behind it
example : (grounds : Grounds) (files : Option FileMap) (sender : List ℕ)
    (rows : List Draw) (recipients : List (List ℕ))
    → Draws grounds files sender 1 rows (codes "|x" ∷ recipients) (Err (BadRecipient 1 no_program))
example grounds files sender rows recipients =
    stops 1 rows (codes "|x") recipients no_program (runs refl)
