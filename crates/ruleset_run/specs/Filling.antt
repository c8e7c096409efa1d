-- What a rule's right side gives before its calls are made (Sendmail Operation Guide, R and S:
-- rewriting rules; the order of errors is own).
use Rattle.std.specs.Prelude.{ℕ, ◌+◌, ◌-◌, List, [], ◌∷◌, ◌++◌, Bool, true, false, ◌&&◌, Option, None, Some, is_some, Result, Ok, Err, map, length, take, drop, unwrap_or}
use Rattle.std.specs.List.{list_all, flat_map}
use Rattle.mail_base.specs.declared.token.Token.{Token}
use Rattle.mail_base.specs.declared.token.Token.TheVariants.{Quoted, Sign}
use Rattle.mail_base.specs.declared.token.Mark.TheVariants.{Mailer}
use Rattle.mail_base.specs.declared.rule.Item.{Item}
use Rattle.mail_base.specs.declared.rule.Piece.{Piece}
use Rattle.mail_base.specs.declared.rule.Piece.TheVariants.{Give, Cut, Late}
use Rattle.mail_base.specs.declared.rule.Step.{Step}
use Rattle.mail_base.specs.declared.rule.Step.TheVariants.{Plain, Lookup, Call}
use Rattle.addr_tokens.specs.Joins.{joined, token_bytes}
use Rattle.addr_tokens.specs.Reader.{cut}
use Rattle.map_tables.specs.declared.found.Found.{Found}
use Rattle.map_tables.specs.declared.found.Found.TheVariants.{Value, Absent}
use Rattle.map_tables.specs.declared.found.MapFault.{MapFault}
use Rattle.map_tables.specs.declared.found.MapFault.TheVariants as maps
use Rattle.map_tables.specs.Answers.{Loaded, map_answer, macros_after, told}
use Rattle.rule_match.specs.Kept.{bound_piece}
use Rattle.ruleset_run.specs.declared.fault.RunFault.{RunFault}
use Rattle.ruleset_run.specs.declared.fault.RunFault.TheVariants.{BadScan, MapClass, NoSuchMap, NoMemory}
use Rattle.ruleset_run.specs.Sites.{Macros}
use Rattle.ruleset_run.specs.Cutting.{Lates}

-- the match of a left side with tokens, in which its items take these lengths
pub record Matched : Type 0 where
  pub left : List Item
  pub tokens : List Token
  pub lengths : List ℕ

-- ---- the first step: `$n` and `$&x` are put in

-- a `$&x` can be cut
abbrev pub is_cut_piece : Lates → Piece → Bool
is_cut_piece late (Late name) = is_some (late name)
is_cut_piece late piece = true

abbrev pub is_cut_fallback : Lates → Option (List Piece) → Bool
is_cut_fallback late None = true
is_cut_fallback late (Some pieces) = list_all (is_cut_piece late) pieces

abbrev pub is_cut_step : Lates → Step → Bool
is_cut_step late (Plain piece) = is_cut_piece late piece
is_cut_step late (Lookup query) =
    list_all (is_cut_piece late) query.key && list_all (list_all (is_cut_piece late)) query.args
    && is_cut_fallback late query.fallback
is_cut_step late Call = true

-- each `$&x` of a right side can be cut
abbrev pub is_cut_right : Lates → List Step → Bool
is_cut_right late steps = list_all (is_cut_step late) steps

-- what a piece stands for: a token itself, `$n` what the n-th binding item took, or nothing where
-- fewer items bind, and `$&x` the tokens of the macro
abbrev pub piece_tokens : Lates → Matched → Piece → List Token
piece_tokens late found (Give token) = token ∷ []
piece_tokens late found (Cut number) = bound_piece found.left found.tokens found.lengths number
piece_tokens late found (Late name) = unwrap_or (late name) []

abbrev pub pieces_tokens : Lates → Matched → List Piece → List Token
pieces_tokens late found pieces = flat_map (piece_tokens late found) pieces

-- ---- the second step: look-ups, from the left to the right

-- what a look-up gives, and the macros after it
pub record Told : Type 0 where
  pub tokens : List Token
  pub macros : Macros

abbrev pub scanned : Macros → Option (List Token) → Result Told RunFault
scanned macros (Some tokens) = Ok (record { tokens = tokens; macros = macros })
scanned macros None = Err BadScan

-- what a map tells comes to this: the tokens of its value; where the key is absent, those of the
-- default, or of the key where there is none. No map tells want of memory
abbrev pub told_by : List ℕ → List ℕ → List Token → Option (List Token) → Macros
    → Result Found MapFault → Result Told RunFault
told_by operators name key fallback macros (Ok (Value text)) =
    scanned macros (cut operators false text)
told_by operators name key fallback macros (Ok Absent) =
    Ok (record { tokens = unwrap_or fallback key; macros = macros })
told_by operators name key fallback macros (Err maps.MapClass) = Err (MapClass name)
told_by operators name key fallback macros (Err maps.NoSuchMap) = Err (NoSuchMap name)
told_by operators name key fallback macros (Err maps.NoMemory) = Err NoMemory

-- tokens as the text that a map is asked with: a blank stands between two neighbouring words
abbrev pub asked : List Token → List ℕ
asked tokens = joined (Some 32) tokens

abbrev pub looked_up : Loaded → List ℕ → List ℕ → List Token → List (List Token)
    → Option (List Token) → Macros → Result Told RunFault
looked_up maps operators name key args fallback macros =
    let answer = map_answer maps name (asked key) (map asked args) in
    told_by operators name key fallback
    (macros_after answer (asked key) (map asked args) macros) (told answer)

abbrev pub fallback_tokens : Lates → Matched → Option (List Piece) → Option (List Token)
fallback_tokens late found None = None
fallback_tokens late found (Some pieces) = Some (pieces_tokens late found pieces)

-- a part of a right side that is filled: a token, or `$>`, the call of the ruleset that the next
-- token names
pub data Part : Type 0 where
  OneToken : Token → Part
  OneCall : Part

-- the tokens and calls of a right side, and the macros after its look-ups
pub record Full : Type 0 where
  pub parts : List Part
  pub macros : Macros

abbrev pub Filling : Type 0
Filling = Result Full RunFault

-- parts in front
abbrev pub put : List Part → Filling → Filling
put parts (Ok full) = Ok (record full { parts = parts ++ full.parts })
put parts (Err fault) = Err fault

-- what a look-up gives in front of what the steps after it give
abbrev pub put_told : Result Told RunFault → (Macros → Filling) → Filling
put_told (Ok told) more = put (map OneToken told.tokens) (more told.macros)
put_told (Err fault) more = Err fault

-- the steps of a right side filled, or the first fault of a look-up
abbrev pub filled : Loaded → List ℕ → Lates → Matched → List Step → Macros → Filling
filled maps operators late found [] macros = Ok (record { parts = []; macros = macros })
filled maps operators late found (Plain piece ∷ steps) macros =
    put (map OneToken (piece_tokens late found piece))
    (filled maps operators late found steps macros)
filled maps operators late found (Lookup query ∷ steps) macros =
    put_told (looked_up maps operators query.name (pieces_tokens late found query.key)
    (map (pieces_tokens late found) query.args) (fallback_tokens late found query.fallback) macros)
    (λ now. filled maps operators late found steps now)
filled maps operators late found (Call ∷ steps) macros =
    put (OneCall ∷ []) (filled maps operators late found steps macros)

-- the number of tokens among parts
abbrev pub tokens_in : List Part → ℕ
tokens_in [] = 0
tokens_in (OneToken token ∷ parts) = 1 + tokens_in parts
tokens_in (OneCall ∷ parts) = tokens_in parts

-- ---- calls

-- a quoted string without the double quotes at its ends
abbrev pub unquoted : List ℕ → List ℕ
unquoted text = take (length text - 2) (drop 1 text)

-- the name that a token gives to a call
abbrev pub call_name : Token → List ℕ
call_name (Quoted text) = unquoted text
call_name token = token_bytes token

-- the list begins with `$#`
abbrev pub is_resolved : List Token → Bool
is_resolved (Sign Mailer ∷ _) = true
is_resolved _ = false
