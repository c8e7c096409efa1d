-- The tokens that a `$&x` stands for as the rule runs (Sendmail Operation Guide, macros; R and S:
-- rewriting rules).
use Rattle.std.specs.Prelude.{ℕ, List, [], ◌∷◌, Bool, true, false, Option, None, Some, is_some, unwrap_or}
use Rattle.std.specs.List.{list_all, flat_map}
use Rattle.mail_base.specs.declared.token.Token.{Token}
use Rattle.mail_base.specs.declared.rule.Item.{Item}
use Rattle.mail_base.specs.declared.rule.Item.TheVariants.{Late}
use Rattle.mail_base.specs.Catalogs.{value_at}
use Rattle.addr_tokens.specs.Reader.{cut}
use Rattle.cf_macros.specs.Expansion.{expanded}
use Rattle.ruleset_run.specs.Sites.{Macros}

abbrev pub text_in : Macros → Option (List ℕ) → List ℕ
text_in macros None = []
text_in macros (Some text) = expanded text macros

-- the macro's value, expanded: empty where it isn't set, and where it can't be expanded
unfoldable pub late_text : Macros → List ℕ → List ℕ
late_text macros name = text_in macros (value_at name macros)

-- what a `$&x` stands for, if that can be cut; angles aren't checked
abbrev pub late_tokens : List ℕ → Macros → List ℕ → Option (List Token)
late_tokens operators macros name = cut operators false (late_text macros name)

-- what each macro's `$&x` stands for, if that can be cut
abbrev pub Lates : Type 0
Lates = List ℕ → Option (List Token)

abbrev pub is_cut_item : Lates → Item → Bool
is_cut_item late (Late name) = is_some (late name)
is_cut_item late item = true

-- each `$&x` of a left side can be cut
abbrev pub is_cut_left : Lates → List Item → Bool
is_cut_left late items = list_all (is_cut_item late) items

abbrev pub item_lists : Lates → Item → List (List Token)
item_lists late (Late name) = unwrap_or (late name) [] ∷ []
item_lists late item = []

-- the tokens of each `$&x` of a left side, in order
abbrev pub left_lists : Lates → List Item → List (List Token)
left_lists late items = flat_map (item_lists late) items
