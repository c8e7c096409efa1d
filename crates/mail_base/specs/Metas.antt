-- The items of a rule's left side that are written with a dollar sign (Sendmail Operation Guide, R
-- and S: rewriting rules).
use Rattle.std.specs.Prelude.{Bool, true, false}
use Rattle.mail_base.specs.declared.token.Token.{Token}
use Rattle.mail_base.specs.declared.token.Token.TheVariants.{Sign}
use Rattle.mail_base.specs.declared.rule.Item.{Item}
use Rattle.mail_base.specs.declared.rule.Item.TheVariants.{Exact, InClass, Late}

-- a token is written with a dollar sign where it is a sign
abbrev pub is_sign : Token → Bool
is_sign (Sign _) = true
is_sign _ = false

abbrev pub is_meta : Item → Bool
is_meta (Exact token) = is_sign token
is_meta _ = true

-- the item is a `$&x`
abbrev pub is_late : Item → Bool
is_late (Late name) = true
is_late _ = false

-- the item is a `$=x`
abbrev pub is_class : Item → Bool
is_class (InClass name) = true
is_class _ = false
