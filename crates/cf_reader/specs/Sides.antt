-- The sides of a rule (Sendmail Installation and Operation Guide, "R and S: Rewriting Rules"; what
-- the guide leaves open is our own).
use Rattle.std.specs.Prelude.{ℕ, ◌-◌, List, [], ◌∷◌, length, drop, Bool, true, false, ◌&&◌, ◌||◌, ◌==◌, nat_lt, if◌then◌else◌, codes, Option, Some, None, option_map, Result, Ok, Err, slice_get}
use Rattle.std.specs.List.{list_any, prefix_len, before_first, after_first, slice_split}
use Rattle.std.specs.Result.{result_ok}
use Rattle.mail_base.specs.Notes.{is_digit}
use Rattle.mail_base.specs.declared.token.Token.TheVariants as token
use Rattle.mail_base.specs.declared.rule.Item.{Item}
use Rattle.mail_base.specs.declared.rule.Item.TheVariants as item
use Rattle.mail_base.specs.declared.rule.Piece.{Piece}
use Rattle.mail_base.specs.declared.rule.Piece.TheVariants as piece
use Rattle.mail_base.specs.declared.rule.Step.{Step}
use Rattle.mail_base.specs.declared.rule.Step.TheVariants as step
use Rattle.mail_base.specs.declared.rule.Go.{Go}
use Rattle.mail_base.specs.declared.rule.Go.TheVariants.{Again, Return, Next}
use Rattle.mail_base.specs.declared.rule.Template.{Template}
use Rattle.addr_tokens.specs.declared.lexeme.Dollars.TheVariants as dollars
use Rattle.addr_tokens.specs.declared.lexeme.Lexeme.{Lexeme}
use Rattle.addr_tokens.specs.declared.lexeme.Lexeme.TheVariants.{Token, Dollar, Named}
use Rattle.addr_tokens.specs.Pieces.{alphabet_of, is_mark, mark_of}
use Rattle.addr_tokens.specs.Reader.{outcome_of}
use Rattle.cf_macros.specs.declared.fault.ExpandFault.{ExpandFault}
use Rattle.cf_macros.specs.Expansion.{rule_value}

-- ---- the line of a rule, behind its letter

-- a tab
abbrev pub is_tab : ℕ → Bool
is_tab b = b == 9

-- what stands before the first tab
abbrev pub left_of : List ℕ → List ℕ
left_of rule = before_first is_tab rule

-- a text without the tabs at its front
abbrev pub after_tabs : List ℕ → List ℕ
after_tabs text = drop (prefix_len is_tab text) text

-- what stands between the first run of tabs and the next tab; a comment follows that
abbrev pub right_of : List ℕ → List ℕ
right_of rule = before_first is_tab (after_tabs (drop (length (left_of rule)) rule))

-- ---- what a side is made of

-- one more in front, where there is something of both
module _ {Y : Type 0} where
  abbrev pub put : Option Y → Option (List Y) → Option (List Y)
  put (Some y) (Some ys) = Some (y ∷ ys)
  put (Some y) None = None
  put None ys = None

-- what f gives of each, where it gives something of all
module _ {X Y : Type 0} where
  abbrev pub each : (X → Option Y) → List X → Option (List Y)
  each f [] = Some []
  each f (x ∷ xs) = put (f x) (each f xs)

-- an expanded text is cut under the operators; its angles aren't looked at
abbrev pub cut : List ℕ → Result (List ℕ) ExpandFault → Option (List Lexeme)
cut operators (Ok text) = result_ok (outcome_of (alphabet_of operators dollars.Side) false text)
cut operators (Err fault) = None

-- what a side is made of: it is expanded, and then cut
abbrev pub lexemes_in : List (List ℕ × List ℕ) → List ℕ → List ℕ → Option (List Lexeme)
lexemes_in macros operators side = cut operators (rule_value side macros)

-- the lexeme is a dollar sign with this byte
abbrev pub is_dollar : ℕ → Lexeme → Bool
is_dollar byte (Token token) = false
is_dollar byte (Dollar other) = other == byte
is_dollar byte (Named other name) = false

-- ---- left sides

-- `$*`, `$+`, `$-`, `$@`, and the signs, which are tokens: `$#`, `$|`, `$:` and `$.`
abbrev pub sign_item : ℕ → Option Item
sign_item byte =
    if byte == 42 then Some item.Any
    else if byte == 43 then Some item.More
    else if byte == 45 then Some item.One
    else if byte == 64 then Some item.Empty
    else if is_mark byte then Some (item.Exact (token.Sign (mark_of byte)))
    else None

-- `$=x`, `$~x` and `$&x`
abbrev pub named_item : ℕ → List ℕ → Item
named_item byte name = if byte == 61 then item.InClass name
    else if byte == 126 then item.NotInClass name else item.Late name

-- an item of a left side
abbrev pub item_of : Lexeme → Option Item
item_of (Token token) = Some (item.Exact token)
item_of (Dollar byte) = sign_item byte
item_of (Named byte name) = Some (named_item byte name)

-- the items of a left side; none where `$n`, `$>` or a bracket of a lookup stands in it
abbrev pub items_of : List Lexeme → Option (List Item)
items_of lexemes = each item_of lexemes

-- what `$1` to `$9` count on a left side: `$*`, `$+`, `$-`, `$=x` and `$~x`
abbrev pub is_binding : Lexeme → Bool
is_binding (Token token) = false
is_binding (Dollar byte) = byte == 42 || byte == 43 || byte == 45
is_binding (Named byte name) = byte == 61 || byte == 126

-- ---- right sides

-- `$n`, and the signs, which are tokens: `$#`, `$|`, `$@`, `$:` and `$.`
abbrev pub sign_piece : ℕ → Option Piece
sign_piece byte = if is_digit byte then Some (piece.Cut (byte - 48))
    else if is_mark byte then Some (piece.Give (token.Sign (mark_of byte))) else None

-- `$&x`; on a right side nothing is asked of a class
abbrev pub named_piece : ℕ → List ℕ → Option Piece
named_piece byte name = if byte == 38 then Some (piece.Late name) else None

-- a piece of a right side
abbrev pub piece_of : Lexeme → Option Piece
piece_of (Token token) = Some (piece.Give token)
piece_of (Dollar byte) = sign_piece byte
piece_of (Named byte name) = named_piece byte name

-- the pieces of lexemes, if each is one
abbrev pub pieces_of : List Lexeme → Option (List Piece)
pieces_of lexemes = each piece_of lexemes

-- behind its name a lookup has a key, arguments, each of them behind a `$@`, and, behind the first
-- `$:`, a fallback
abbrev pub key_and_args : List Lexeme → Option (List (List Piece))
key_and_args fields =
    each pieces_of (slice_split (is_dollar 64) (before_first (is_dollar 58) fields))

-- what stands behind the first `$:`, if there is one
abbrev pub fallback_of : List Lexeme → Option (Option (List Piece))
fallback_of fields = if list_any (is_dollar 58) fields
    then option_map Some (pieces_of (after_first (is_dollar 58) fields)) else Some None

-- a look-up by its parts, if each is well made
abbrev pub lookup : List ℕ → Option (List (List Piece)) → Option (Option (List Piece)) → Option Step
lookup name (Some (key ∷ args)) (Some fallback) =
    Some (step.Lookup (record { name = name; key = key; args = args; fallback = fallback }))
lookup name key_and_args fallback = None

-- a look-up in a map by what stands behind the map's name
abbrev pub lookup_of : List ℕ → List Lexeme → Option Step
lookup_of name fields = lookup name (key_and_args fields) (fallback_of fields)

-- in `$(` and `$)` the first lexeme is a token, which names the map as it stands, in its quotes if
-- it has any; a sign is no name
abbrev pub named_lookup : List Lexeme → Option Step
named_lookup (Token (token.Word name) ∷ fields) = lookup_of name fields
named_lookup (Token (token.Quoted name) ∷ fields) = lookup_of name fields
named_lookup (Token (token.Op byte) ∷ fields) = lookup_of (byte ∷ []) fields
named_lookup inside = None

-- `$[` or `$(`
abbrev pub is_opening : Lexeme → Bool
is_opening lexeme = is_dollar 91 lexeme || is_dollar 40 lexeme

-- `$]` or `$)`
abbrev pub is_closing : Lexeme → Bool
is_closing lexeme = is_dollar 93 lexeme || is_dollar 41 lexeme

-- what stands between two brackets of one kind; that of `$[` and `$]` asks the map `host`
abbrev pub bracketed : Lexeme → List Lexeme → Lexeme → Option Step
bracketed opening inside closing =
    if is_dollar 91 opening && is_dollar 93 closing then lookup_of (codes "host") inside
    else if is_dollar 40 opening && is_dollar 41 closing then named_lookup inside
    else None

-- a lexeme outside of lookups: `$>`, or a piece
abbrev pub step_of : Lexeme → Option Step
step_of lexeme =
    if is_dollar 62 lexeme then Some step.Call else option_map step.Plain (piece_of lexeme)

-- the rest of a right side: steps; or what is left of a lookup that it closes, the closing bracket,
-- and the steps behind that; or none of these
pub data Rest : Type 0 where
  Steps : (steps : List Step) → Rest
  Closes : (inside : List Lexeme) (closing : Lexeme) (steps : List Step) → Rest
  Nothing : Rest

-- a step before others
abbrev pub with_step : Option Step → List Step → Rest
with_step None steps = Nothing
with_step (Some step) steps = Steps (step ∷ steps)

-- a lexeme before the rest: lookups don't nest, and each bracket has its other one
abbrev pub before : Lexeme → Rest → Rest
before lexeme (Steps steps) =
    if is_closing lexeme then Closes [] lexeme steps else with_step (step_of lexeme) steps
before lexeme (Closes inside closing steps) =
    if is_closing lexeme then Nothing
    else if is_opening lexeme then with_step (bracketed lexeme inside closing) steps
    else Closes (lexeme ∷ inside) closing steps
before lexeme Nothing = Nothing

-- the lexemes from some place on as steps
abbrev pub rest_of : List Lexeme → Rest
rest_of [] = Steps []
rest_of (lexeme ∷ lexemes) = before lexeme (rest_of lexemes)

-- steps that nothing closes too early
abbrev pub whole : Rest → Option (List Step)
whole (Steps steps) = Some steps
whole (Closes inside closing steps) = None
whole Nothing = None

-- the step is a call
abbrev pub is_call : Option Step → Bool
is_call (Some step.Call) = true
is_call step = false

-- the last step is a call, which so has no name
abbrev pub ends_in_call : List Step → Bool
ends_in_call steps = is_call (slice_get steps (length steps - 1))

-- the prefix of a right side: `$@` or `$:`
abbrev pub go_of : List Lexeme → Go
go_of [] = Again
go_of (lexeme ∷ lexemes) =
    if is_dollar 64 lexeme then Return else if is_dollar 58 lexeme then Next else Again

-- what stands behind the prefix
abbrev pub body_of : List Lexeme → List Lexeme
body_of [] = []
body_of (lexeme ∷ lexemes) =
    if is_dollar 64 lexeme || is_dollar 58 lexeme then lexemes else lexeme ∷ lexemes

-- a right side by its prefix and its steps, which don't end in a call
abbrev pub template : Go → Option (List Step) → Option Template
template go None = None
template go (Some steps) =
    if ends_in_call steps then None else Some (record { go = go; steps = steps })

-- a right side; none where a bracket lacks its other one, a lookup holds a lookup or a call or
-- lacks its name, the last lexeme is `$>`, or `$*`, `$+`, `$-`, `$=x` or `$~x` stands in it
abbrev pub template_of : List Lexeme → Option Template
template_of lexemes = template (go_of lexemes) (whole (rest_of (body_of lexemes)))

-- `$0`, or a number above that of what binds on the left side
abbrev pub is_bad_reference : ℕ → Lexeme → Bool
is_bad_reference most (Token token) = false
is_bad_reference most (Dollar byte) = is_digit byte && (byte == 48 || nat_lt most (byte - 48))
is_bad_reference most (Named byte name) = false
