-- A path of MAIL or RCPT (RFC 5321, sections 4.1.1.2, 4.1.1.3, 4.1.2 and 4.5.3.1; that it may lack
-- its angles, and that the rest is any bytes, is our own).
use Rattle.std.specs.Prelude.{◌≡◌, ◌≢◌, ℕ, ◌+◌, ◌-◌, slice_index, ◌==◌, nat_lt, Bool, true, false, not, ◌||◌, ◌&&◌, List, [], ◌∷◌, ◌++◌, length, take, if◌then◌else◌, codes, refl}
use Rattle.std.specs.List.{list_any, list_all, position_or_len, suffix_len, after_first, after_last}
use Rattle.std.specs.Str.{str_eq_ignore_ascii_case}
use Rattle.mail_base.specs.Limits.{most_path, most_local_part, most_domain}
use Rattle.mail_base.specs.Texts.{is_blank}

-- a byte that stands in a quoted string by itself
abbrev pub is_quotable : ℕ → Bool
is_quotable b = not (b == 34) && not (b == 92)

-- what may stand between two double quotes; a backslash stands with the byte that it quotes,
-- whatever that is
pub data InQuotes : List ℕ → Type 0 where
  quote_nothing : InQuotes []
  quote_plain : (b : ℕ) (more : List ℕ) → is_quotable b ≡ true → InQuotes more → InQuotes (b ∷ more)
  quote_pair : (b : ℕ) (more : List ℕ) → InQuotes more → InQuotes (92 ∷ b ∷ more)

-- a byte that stands in a path by itself
abbrev pub is_path_byte : ℕ → Bool
is_path_byte b = not (b == 34) && not (b == 62)

-- what may stand between the angles of a path: such bytes, and quoted strings
pub data InAngles : List ℕ → Type 0 where
  path_nothing : InAngles []
  path_plain : (b : ℕ) (more : List ℕ) → is_path_byte b ≡ true → InAngles more → InAngles (b ∷ more)
  path_quoted : (inside more : List ℕ) → InQuotes inside → InAngles more
      → InAngles (34 ∷ (inside ++ 34 ∷ more))

-- a text cut in two, without what stands between
pub record Parts : Type 0 where
  pub front : List ℕ
  pub back : List ℕ

-- what stands behind a < is what a path may be, the > that ends it, and more
pub record EndsPath (text : List ℕ) (parts : Parts) : Type 0 where
  pub whole : text ≡ parts.front ++ 62 ∷ parts.back
  pub inside : InAngles parts.front

-- a path as it is written, with what it is without angles; one that lacks them isn't empty and has
-- no blank
pub data IsWritten : List ℕ → List ℕ → Type 0 where
  in_angles : (inside : List ℕ) → InAngles inside → IsWritten (60 ∷ (inside ++ 62 ∷ [])) inside
  bare : (b : ℕ) (more : List ℕ) → b ≢ 60 → list_any is_blank (b ∷ more) ≡ false
      → IsWritten (b ∷ more) (b ∷ more)

-- nothing, or a blank and more
abbrev pub is_parted : List ℕ → Bool
is_parted [] = true
is_parted (b ∷ text) = is_blank b

abbrev pub is_colon : ℕ → Bool
is_colon b = b == 58

-- a path with a source route begins with an @, and has a colon at that place
abbrev pub has_route : List ℕ → ℕ → Bool
has_route path colon = slice_index path 0 == 64 && nat_lt colon (length path)

-- without the source route, which ends at the first colon
abbrev pub without_route : List ℕ → List ℕ
without_route path =
    if has_route path (position_or_len is_colon path) then after_first is_colon path else path

abbrev pub is_at : ℕ → Bool
is_at b = b == 64

-- where the last @ ends, or 0 where there is none
abbrev pub last_at_end : List ℕ → ℕ
last_at_end path = length path - suffix_len (λ b. not (is_at b)) path

-- what stands before the last @, or all where there is none
abbrev pub local_part : List ℕ → List ℕ
local_part path = if last_at_end path == 0 then path else take (last_at_end path - 1) path

-- what stands behind the last @, or all where there is none
abbrev pub domain_of : List ℕ → List ℕ
domain_of path = after_last is_at path

-- a path with its angles, its local part or its domain is above its limit
abbrev pub is_too_long : List ℕ → Bool
is_too_long path = nat_lt most_path (length path + 2)
    || nat_lt most_local_part (length (local_part path))
    || nat_lt most_domain (length (domain_of path))

-- an argument is a keyword of any case, blanks if there are some, a path as it is written, and what
-- is parted from it; the path is without its route
pub record HasPath (keyword argument path rest : List ℕ) : Type 0 where
  pub word : List ℕ
  pub gap : List ℕ
  pub written : List ℕ
  pub inside : List ℕ
  pub whole : argument ≡ word ++ (gap ++ (written ++ rest))
  pub keyword_is : str_eq_ignore_ascii_case word keyword ≡ true
  pub blank : list_all is_blank gap ≡ true
  pub is : IsWritten written inside
  pub parted : is_parted rest ≡ true
  pub unrouted : path ≡ without_route inside

example : (without_route (codes "@h,@i:a@c") ≡ codes "a@c")
    × (without_route (codes "a:b@c") ≡ codes "a:b@c") × (local_part (codes "a@b@c") ≡ codes "a@b")
    × (domain_of (codes "a@b@c") ≡ codes "c")
example = (refl, refl, refl, refl)
