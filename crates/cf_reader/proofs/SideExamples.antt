-- Worked examples of sides, under the operators that are there at first, with a macro `y` whose value is `a`.
use Rattle.std.specs.Prelude.{◌≡◌, ℕ, List, [], ◌∷◌, codes, Option, Some, None, option_map, refl}
use Rattle.std.specs.Option.{option_flatten}
use Rattle.mail_base.specs.declared.token.Token.TheVariants.{Word, Quoted, Op, Sign}
use Rattle.mail_base.specs.declared.token.Mark.TheVariants.{Alt, Mailer, Host, User, End}
use Rattle.mail_base.specs.declared.rule.Item.{Item}
use Rattle.mail_base.specs.declared.rule.Item.TheVariants as item
use Rattle.mail_base.specs.declared.rule.Piece.TheVariants as piece
use Rattle.mail_base.specs.declared.rule.Step.{Step}
use Rattle.mail_base.specs.declared.rule.Step.TheVariants.{Plain, Lookup, Call}
use Rattle.mail_base.specs.declared.rule.Go.TheVariants.{Again, Return, Next}
use Rattle.mail_base.specs.declared.rule.Template.{Template}
use Rattle.addr_tokens.specs.Scans.{most_tokens}
use Rattle.cf_macros.specs.Readings.{reading}
use Rattle.cf_macros.specs.Expansion.{value_in, followed}
use Rattle.cf_reader.specs.Sides.{lexemes_in, items_of, template_of}

abbrev left : List ℕ → Option (List Item)
left text = option_flatten (option_map items_of (lexemes_in ((codes "y", codes "a") ∷ []) (codes ".:@[]") text))

abbrev right : List ℕ → Option Template
right text = option_flatten (option_map template_of (lexemes_in ((codes "y", codes "a") ∷ []) (codes ".:@[]") text))

abbrev body : List Step → Option Template
body steps = Some (record { go = Again; steps = steps })

abbrev word : List ℕ → Step
word text = Plain (piece.Give (Word text))

abbrev cut : ℕ → Step
cut number = Plain (piece.Cut number)

abbrev op : ℕ → Item
op byte = item.Exact (Op byte)

pub items_of_left_sides :
    (left (codes "$-:$+") ≡ Some (item.One ∷ op 58 ∷ item.More ∷ []))
    × (left (codes "$* < @ $=w . $~{x} > $&m") ≡ Some (item.Any ∷ op 60 ∷ op 64 ∷ item.InClass (codes "w") ∷ op 46 ∷ item.NotInClass (codes "x") ∷ op 62 ∷ item.Late (codes "m") ∷ []))
    × (left (codes "$@") ≡ Some (item.Empty ∷ []))
    × (left (codes "$y$#$|$:$.") ≡ Some (item.Exact (Word (codes "a")) ∷ item.Exact (Sign Mailer) ∷ item.Exact (Sign Alt) ∷ item.Exact (Sign User) ∷ item.Exact (Sign End) ∷ []))
unfolding value_in followed reading most_tokens
items_of_left_sides = (refl, refl, refl, refl)

pub no_left_sides :
    (left (codes "$1") ≡ None) × (left (codes "$>x") ≡ None) × (left (codes "$(x$)") ≡ None) × (left (codes "$=") ≡ None) × (left (codes "a)") ≡ None) × (left (codes "${y") ≡ None)
unfolding value_in followed reading most_tokens
no_left_sides = (refl, refl, refl, refl, refl, refl)

pub templates_of_lookups :
    (right (codes "$(host $1 $: $2 $)") ≡ body (Lookup (record { name = codes "host"; key = piece.Cut 1 ∷ []; args = []; fallback = Some (piece.Cut 2 ∷ []) }) ∷ []))
    × (right (codes "$[ $1 $]") ≡ body (Lookup (record { name = codes "host"; key = piece.Cut 1 ∷ []; args = []; fallback = None }) ∷ []))
    × (right (codes "$(m k$@$@$&z$)$1") ≡ body (Lookup (record { name = codes "m"; key = piece.Give (Word (codes "k")) ∷ []; args = [] ∷ (piece.Late (codes "z") ∷ []) ∷ []; fallback = None }) ∷ cut 1 ∷ []))
    × (right (codes "$(m$:$@$:$)") ≡ body (Lookup (record { name = codes "m"; key = []; args = []; fallback = Some (piece.Give (Sign Host) ∷ piece.Give (Sign User) ∷ []) }) ∷ []))
unfolding value_in followed reading most_tokens
templates_of_lookups = (refl, refl, refl, refl)

pub no_lookups :
    (right (codes "$[$(a$)$]") ≡ None) × (right (codes "$[a") ≡ None) × (right (codes "a$)") ≡ None) × (right (codes "$[a$)") ≡ None)
    × (right (codes "$($)") ≡ None) × (right (codes "$($1 a$)") ≡ None) × (right (codes "$[$>a$]") ≡ None)
unfolding value_in followed reading most_tokens
no_lookups = (refl, refl, refl, refl, refl, refl, refl)

pub templates_of_words :
    (right (codes "\"a $1\"") ≡ body (Plain (piece.Give (Quoted (codes "\"a $1\""))) ∷ []))
    × (right (codes "\\$1") ≡ body (word (codes "\\$1") ∷ []))
    × (right (codes "( $1 )") ≡ body [])
    × (right (codes "$$") ≡ body (word (codes "$") ∷ []))
    × (right (codes "$$1$y") ≡ body (word (codes "$1a") ∷ []))
unfolding value_in followed reading most_tokens
templates_of_words = (refl, refl, refl, refl, refl)

pub templates_of_signs :
    (right (codes "$>3 $1") ≡ body (Call ∷ word (codes "3") ∷ cut 1 ∷ []))
    × (right (codes "$#local$:$1") ≡ body (Plain (piece.Give (Sign Mailer)) ∷ word (codes "local") ∷ Plain (piece.Give (Sign User)) ∷ cut 1 ∷ []))
    × (right (codes "$@$:") ≡ Some (record { go = Return; steps = Plain (piece.Give (Sign User)) ∷ [] }))
    × (right (codes "$:") ≡ Some (record { go = Next; steps = [] }))
    × (right (codes "$>") ≡ None) × (right (codes "$*") ≡ None) × (right (codes "$=w") ≡ None)
unfolding value_in followed reading most_tokens
templates_of_signs = (refl, refl, refl, refl, refl, refl, refl)
