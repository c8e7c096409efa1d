-- The first construct of a text that names macros (Sendmail Installation and Operation Guide,
-- macros and conditionals; which bytes are no names is our own).
use Rattle.std.specs.Prelude.{ℕ, List, [], ◌∷◌, Bool, Option, None, Some, if◌then◌else◌, ◌==◌, ◌&&◌, not, take, drop, codes, ◌+◌}
use Rattle.std.specs.List.{list_any, position}
use Rattle.mail_base.specs.Whites.{is_white}
use Rattle.cf_macros.specs.declared.construct.Kind.{Kind}
use Rattle.cf_macros.specs.declared.construct.Kind.TheVariants.{Plain, Reference, Test, Else, End, Unclosed}
use Rattle.cf_macros.specs.declared.construct.Naming.{Naming}
use Rattle.cf_macros.specs.declared.construct.Naming.TheVariants.{Letter, Word, Open, Nameless}
use Rattle.cf_macros.specs.declared.scope.Scope.{Scope}
use Rattle.cf_macros.specs.declared.scope.Scope.TheVariants.{Outside, Rule}

-- the signs that are no names of macros without braces
abbrev pub nameless_bytes : List ℕ
nameless_bytes = codes "0123456789*+-@:#>[]()=~$&?|.{"

-- whether a byte is the name of a macro: neither white space nor such a sign
abbrev pub is_name : ℕ → Bool
is_name byte = not (is_white byte) && not (list_any (λ other. other == byte) nameless_bytes)

-- the word in braces, whose text begins behind the first of them
abbrev pub braced : Option ℕ → Naming
braced None = Open
braced (Some length) = Word length

-- what stands where a name may stand: one byte, a word in braces by its length, a brace that
-- nothing closes, or no name
abbrev pub name_at : List ℕ → Naming
name_at [] = Nameless
name_at (byte ∷ text) =
    if byte == 123 then braced (position (λ other. other == 125) text)
    else if is_name byte then Letter else Nameless

-- what a construct is, its name or else the bytes that it stands for, and how many bytes of the
-- text it takes; where something is unclosed, the bytes up to its own sign
pub record Piece : Type 0 where
  pub kind : Kind
  pub text : List ℕ
  pub width : ℕ

-- a construct by its kind, its text and its width
abbrev pub piece : Kind → List ℕ → ℕ → Piece
piece kind text width = record { kind = kind; text = text; width = width }

-- a construct of a kind with its name at an offset, and its width where that name's brace is
-- unclosed
abbrev pub with_name : Kind → ℕ → ℕ → List ℕ → Naming → Piece
with_name kind offset unclosed text Letter =
    piece kind (take 1 (drop offset text)) (offset + 1)
with_name kind offset unclosed text (Word length) =
    piece kind (take length (drop (offset + 1) text)) (offset + length + 2)
with_name kind offset unclosed text Open = piece Unclosed [] unclosed
with_name kind offset unclosed text Nameless = piece Plain (take 2 text) 2

-- `$x` and `${x}`, and with an offset of 2 `$&x` and `$&{x}` outside rules; where its brace is
-- unclosed, that is the sign
abbrev pub reference_at : ℕ → List ℕ → Naming → Piece
reference_at offset text naming = with_name Reference offset (offset + 1) text naming

-- `$?x` and `$?{x}`; one whose brace is unclosed is unclosed itself
abbrev pub test_of : List ℕ → Naming → Piece
test_of text naming = with_name Test 2 1 text naming

-- `$$`, which stands for a dollar sign outside rules, and in a rule stays as it is written
abbrev pub doubled : Scope → List ℕ → Piece
doubled Outside text = piece Plain (take 1 text) 2
doubled Rule text = piece Plain (take 2 text) 2

-- `$&x` and `$&{x}` as they are written
abbrev pub kept : List ℕ → Naming → Piece
kept text Letter = piece Plain (take 3 text) 3
kept text (Word length) = piece Plain (take (length + 4) text) (length + 4)
kept text Open = piece Unclosed [] 3
kept text Nameless = piece Plain (take 2 text) 2

-- `$&x` and `$&{x}`, which outside rules stand for the macro, and in a rule stay as they are
-- written
abbrev pub late : Scope → List ℕ → Naming → Piece
late Outside text naming = reference_at 2 text naming
late Rule text naming = kept text naming

-- a dollar sign and the byte behind it
abbrev pub dollar_piece : Scope → List ℕ → ℕ → Piece
dollar_piece scope text next =
    if next == 36 then doubled scope text
    else if next == 124 then piece Else [] 2
    else if next == 46 then piece End [] 2
    else if next == 63 then test_of text (name_at (drop 2 text))
    else if next == 38 then late scope text (name_at (drop 2 text))
    else reference_at 1 text (name_at (drop 1 text))

-- the first construct of a text that isn't empty
abbrev pub first_piece : Scope → List ℕ → Piece
first_piece scope [] = piece Plain [] 1
first_piece scope (byte ∷ []) = piece Plain (byte ∷ []) 1
first_piece scope (byte ∷ next ∷ rest) =
    if byte == 36 then dollar_piece scope (byte ∷ next ∷ rest) next else piece Plain (byte ∷ []) 1
