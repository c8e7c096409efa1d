-- When two tokens are the same (Sendmail Installation and Operation Guide, R and S: rewriting
-- rules).
use Rattle.std.specs.Prelude.{ℕ, List, [], ◌∷◌, Bool, true, false}
use Rattle.std.specs.Cmp.Lexicographic.{pointwise}
use Rattle.std.specs.Str.{str_eq_ignore_ascii_case}
use Rattle.mail_base.specs.declared.token.Mark.{Mark}
use Rattle.mail_base.specs.declared.token.Mark.TheVariants.{Alt, Mailer, Host, User, End}
use Rattle.mail_base.specs.declared.token.Token.{Token}
use Rattle.mail_base.specs.declared.token.Token.TheVariants.{Word, Quoted, Op, Sign}

-- the number of a sign
abbrev pub mark_number : Mark → ℕ
mark_number Alt = 0
mark_number Mailer = 1
mark_number Host = 2
mark_number User = 3
mark_number End = 4

abbrev pub same_mark : Mark → Mark → Bool
same_mark Alt Alt = true
same_mark Mailer Mailer = true
same_mark Host Host = true
same_mark User User = true
same_mark End End = true
same_mark _ _ = false

-- tokens of one kind compare without ascii case, and those of two kinds are never the same
abbrev pub same_token : Token → Token → Bool
same_token (Word one) (Word another) = str_eq_ignore_ascii_case one another
same_token (Quoted one) (Quoted another) = str_eq_ignore_ascii_case one another
same_token (Op one) (Op another) = str_eq_ignore_ascii_case (one ∷ []) (another ∷ [])
same_token (Sign one) (Sign another) = same_mark one another
same_token _ _ = false

-- as many tokens, each the same as the other's
abbrev pub same_tokens : List Token → List Token → Bool
same_tokens = pointwise same_token
