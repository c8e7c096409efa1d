-- The members that `.C` adds to a class, and how members are listed (Sendmail Installation and
-- Operation Guide, "C and F: Define Classes"; which words are refused is our own).
use Rattle.std.specs.Prelude.{◌↔◌, ℕ, List, map, Contains, Option}
use Rattle.std.specs.List.Sorted.{IsStrictlySortedBy}
use Rattle.std.specs.Cmp.Lexicographic.{slice_cmp}
use Rattle.std.specs.Ordering.{nat_cmp}
use Rattle.mail_base.specs.Catalogs.{value_at, with_value, members_of}
use Rattle.mail_base.specs.Classes.{with_members}
use Rattle.mail_base.specs.declared.class.Member.{Member}
use Rattle.addr_tokens.specs.Members.{member_of, words_in}
use Rattle.cf_macros.specs.Expansion.{value}

-- ---- the words of a text

-- the words of a text once it is expanded, or nothing where it can't be expanded, or one of them
-- can't be cut
abbrev pub class_words : List ℕ → List (List ℕ × List ℕ) → Option (List (List ℕ))
class_words text macros = words_in (value text macros)

-- ---- members

-- the classes with these words in one of them
abbrev pub with_words : List ℕ → List ℕ → List (List ℕ) → List (List ℕ × List Member)
    → List (List ℕ × List Member)
with_words operators class all classes = with_value class
    (with_members (members_of (value_at class classes)) (map (member_of operators) all)) classes

-- ---- members in order

abbrev pub texts_of : List Member → List (List ℕ)
texts_of members = map (λ member. member.text) members

-- the same texts, and each below those behind it, byte by byte
pub record IsListing (texts listed : List (List ℕ)) : Type 0 where
  pub ascending : IsStrictlySortedBy (slice_cmp nat_cmp) listed
  pub same : (text : List ℕ) → Contains texts text ↔ Contains listed text
