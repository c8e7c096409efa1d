-- What an item of a rule's left side stands for once its class or its macro is known, and what that
-- matches (Sendmail Operation Guide, R and S: rewriting rules).
use Rattle.std.specs.Prelude.{List, [], ◌∷◌, drop, Bool, true, false, not, ◌&&◌}
use Rattle.mail_base.specs.declared.token.Token.{Token}
use Rattle.mail_base.specs.declared.class.Member.{Member}
use Rattle.mail_base.specs.declared.classes.Classes.{Classes}
use Rattle.mail_base.specs.declared.rule.Item.{Item}
use Rattle.mail_base.specs.declared.rule.Item.TheVariants.{Any, More, One, Empty, InClass, NotInClass, Exact, Late}
use Rattle.mail_base.specs.Catalogs.{value_at, members_of}
use Rattle.mail_base.specs.Classes.{is_phrase}
use Rattle.mail_base.specs.Tokens.{same_tokens}

-- any tokens, at least one, exactly one, none, a phrase of these members, one token that is no
-- phrase of these, or these tokens
pub data Want : Type 0 where
  Anything : Want
  Something : Want
  Single : Want
  Nothing : Want
  Phrase : List Member → Want
  NoPhrase : List Member → Want
  These : List Token → Want

-- the first of the lists, or no tokens where there is none
abbrev pub first_list : List (List Token) → List Token
first_list [] = []
first_list (tokens ∷ late) = tokens

-- the lists that are left for the items after this one
abbrev pub lists_after : Item → List (List Token) → List (List Token)
lists_after (Late name) late = drop 1 late
lists_after _ late = late

-- what an item stands for: a class for its members, `$&x` for the first of the lists, and a token
-- for itself
abbrev pub want : Classes → List (List Token) → Item → Want
want classes late Any = Anything
want classes late More = Something
want classes late One = Single
want classes late Empty = Nothing
want classes late (InClass name) = Phrase (members_of (value_at name classes))
want classes late (NotInClass name) = NoPhrase (members_of (value_at name classes))
want classes late (Exact token) = These (token ∷ [])
want classes late (Late name) = These (first_list late)

-- what the items stand for, where each `$&x` in turn has the next of the lists
abbrev pub wants : Classes → List (List Token) → List Item → List Want
wants classes late [] = []
wants classes late (item ∷ items) =
    want classes late item ∷ wants classes (lists_after item late) items

abbrev pub is_none : List Token → Bool
is_none [] = true
is_none _ = false

abbrev pub is_single : List Token → Bool
is_single (token ∷ []) = true
is_single _ = false

-- whether these tokens are a match; a member without tokens is no phrase (own)
abbrev pub meets : Want → List Token → Bool
meets Anything piece = true
meets Something piece = not (is_none piece)
meets Single piece = is_single piece
meets Nothing piece = is_none piece
meets (Phrase members) piece = not (is_none piece) && is_phrase piece members
meets (NoPhrase members) piece = is_single piece && not (is_phrase piece members)
meets (These tokens) piece = same_tokens tokens piece
