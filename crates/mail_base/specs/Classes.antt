-- The members of a class (Sendmail Installation and Operation Guide, C and F: define classes).
use Rattle.std.specs.Prelude.{◌≡◌, ℕ, List, length, max, [], ◌∷◌, ◌++◌, Bool, false, Option, None, Some, bytes_eq, fold, if◌then◌else◌, codes, refl}
use Rattle.std.specs.List.{list_any}
use Rattle.mail_base.specs.Tokens.{same_tokens}
use Rattle.mail_base.specs.declared.class.Member.{Member}
use Rattle.mail_base.specs.declared.token.Token.{Token}
use Rattle.mail_base.specs.declared.token.Token.TheVariants.{Word}

-- two members are one where their texts are
abbrev pub same_member : Member → Member → Bool
same_member one another = bytes_eq one.text another.text

-- one member more; a member that is there adds nothing
abbrev pub with_member : List Member → Member → List Member
with_member members member =
    if list_any (same_member member) members then members else members ++ member ∷ []

-- each of these in turn
abbrev pub with_members : List Member → List Member → List Member
with_members members more = fold with_member members more

abbrev pub is_cut_into : List Token → Option (List Token) → Bool
is_cut_into tokens None = false
is_cut_into tokens (Some others) = same_tokens tokens others

-- whether the tokens are those of a member, without ascii case; a member that can't be cut is no
-- phrase
abbrev pub is_phrase : List Token → List Member → Bool
is_phrase tokens members = list_any (λ member. is_cut_into tokens member.tokens) members

-- how many tokens a member has; one that can't be cut has none
abbrev pub phrase_length : Option (List Token) → ℕ
phrase_length None = 0
phrase_length (Some tokens) = length tokens

-- how many tokens the longest of these has, and at least so many
abbrev pub longest_from : ℕ → List Member → ℕ
longest_from least members =
    fold (λ most member. max most (phrase_length member.tokens)) least members

-- how many tokens the longest member of a class has
abbrev pub longest_phrase : List Member → ℕ
longest_phrase members = longest_from 0 members

ann : Member
ann = record { text = codes "ann"; tokens = Some (Word (codes "ann") ∷ []) }

bob : Member
bob = record { text = codes "bob"; tokens = None }

example :
    (with_members (ann ∷ []) (bob ∷ ann ∷ bob ∷ []) ≡ ann ∷ bob ∷ [])
    × (longest_phrase (bob ∷ ann ∷ []) ≡ 1)
unfolding ann bob
example = (refl, refl)
