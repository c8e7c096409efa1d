-- Where a byte of a list of addresses stands, and what parts the list (RFC 5322, sections 3.2.1,
-- 3.2.2, 3.2.4 and 3.4; what a backslash outside of quotes does is own).
use Rattle.std.specs.Prelude.{◌≡◌, ℕ, suc, ◌+◌, ◌-◌, nat_lt, Bool, true, false, not, ◌&&◌, ◌==◌, List, [], ◌∷◌, if◌then◌else◌, codes, refl}
use Rattle.std.specs.List.{onto_first}
use Rattle.addr_tokens.specs.declared.place.Place.{Place}
use Rattle.addr_tokens.specs.declared.place.Separator.{Separator}
use Rattle.addr_tokens.specs.declared.place.Separator.TheVariants.{Comma, Colon}

-- outside of quotes, comments and angles, and behind no backslash
abbrev pub outside : Place
outside = record { quoted = false; escaped = false; comments = 0; angles = 0 }

abbrev pub is_outside : Place → Bool
is_outside place = not place.quoted && not place.escaped && place.comments == 0 && place.angles == 0

-- where the byte behind one stands that isn't quoted and is no backslash: comments nest, and in one
-- a double quote (34) and an angle are bytes as others
abbrev pub after_plain : Place → ℕ → Place
after_plain place b =
    if b == 40 then record place { comments = place.comments + 1 }
    else if nat_lt 0 place.comments then
    record place { comments = if b == 41 then place.comments - 1 else place.comments }
    else if b == 34 then record place { quoted = true }
    else if b == 60 then record place { angles = place.angles + 1 }
    else if b == 62 then record place { angles = place.angles - 1 }
    else place

-- where the byte behind this one stands: a backslash (92) quotes whatever is behind it
abbrev pub after : Place → ℕ → Place
after place b =
    if place.escaped then record place { escaped = false }
    else if b == 92 then record place { escaped = true }
    else if place.quoted then record place { quoted = not (b == 34) }
    else after_plain place b

-- a comma (44) outside stands between two members; a colon (58) ends a name where it stands in no
-- quotes and behind no backslash
abbrev pub separates : Separator → Place → ℕ → Bool
separates Comma place b = b == 44 && is_outside place
separates Colon place b = b == 58 && not place.quoted && not place.escaped

-- how many bytes stand before the first that separates, in a text that begins at a place
abbrev pub length_to : Separator → Place → List ℕ → ℕ
length_to separator place [] = 0
length_to separator place (b ∷ bs) = if separates separator place b then 0
    else suc (length_to separator (after place b) bs)

-- what stands between the commas that separate, in a text that begins at a place
abbrev pub pieces_from : Place → List ℕ → List (List ℕ)
pieces_from place [] = [] ∷ []
pieces_from place (b ∷ bs) =
    if separates Comma place b then [] ∷ pieces_from outside bs
    else onto_first b (pieces_from (after place b) bs)

example :
    (pieces_from outside (codes "a, \"b,c\" <d,e>,(f,g)")
    ≡ codes "a" ∷ codes " \"b,c\" <d,e>" ∷ codes "(f,g)" ∷ [])
    × (length_to Colon outside (codes "\"a:b\" (c:d): e") ≡ 8)
example = (refl, refl)
