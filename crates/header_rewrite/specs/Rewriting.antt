-- Headers with rewritten addresses (Sendmail Installation and Operation Guide, R and S: rewriting
-- rules; M: define mailer, its fields S and R; what is kept of a header is our own).
use Rattle.std.specs.Prelude.{◌≡◌, ℕ, ◌+◌, List, [], ◌∷◌, ◌++◌, drop, slice_range, Option, Some, None, Ok, if◌then◌else◌, codes, refl}
use Rattle.std.specs.List.{AllZip, list_all}
use Rattle.mail_base.specs.declared.mailer.Mailer.{Mailer}
use Rattle.mail_base.specs.declared.token.Token.{Token}
use Rattle.mail_header.specs.declared.span.Span.{Span}
use Rattle.mail_header.specs.Headers.{is_plain}
use Rattle.mail_header.specs.Places.{places_of}
use Rattle.ruleset_run.specs.Sites.{Site, Macros}
use Rattle.ruleset_run.specs.declared.rewritten.Rewritten.{Rewritten}
use Rattle.ruleset_run.specs.declared.rewritten.Rewritten.TheVariants.{Gives, Refuses}
use Rattle.ruleset_run.specs.Sets.{Rewrites, Through, cut, rewritten}
use Rattle.header_rewrite.specs.Names.{sets_for}

-- how many bytes stand before the end of a place
abbrev pub end_of : Span → ℕ
end_of place = place.start + place.length

-- the address at a place of a header
abbrev pub address_at : List ℕ → Span → List ℕ
address_at header place = slice_range header place.start (end_of place)

-- what stands in a place afterwards: the text that the rulesets give, or the address as it was
-- where they refuse it, or give the empty text or one with a CR or LF
abbrev pub put : List ℕ → Rewritten → List ℕ
put address (Gives []) = address
put address (Gives (b ∷ text)) = if list_all is_plain (b ∷ text) then b ∷ text else address
put address (Refuses why) = address

pub data Becomes (site : Site) (macros : Macros) (sets : List (List ℕ)) (address : List ℕ)
    : List ℕ → Type 0 where
  becomes : (answer : Rewritten) → Rewrites site macros sets address answer
      → Becomes site macros sets address (put address answer)

-- a header from a byte on, with what the addresses at these places become; all other bytes stay
pub data Fills (site : Site) (macros : Macros) (sets : List (List ℕ)) (header : List ℕ)
    : ℕ → List Span → List ℕ → Type 0 where
  no_place : (from : ℕ) → Fills site macros sets header from [] (drop from header)
  one_place : (from : ℕ) (place : Span) (places : List Span) (text more : List ℕ)
      → Becomes site macros sets (address_at header place) text
      → Fills site macros sets header (end_of place) places more
      → Fills site macros sets header from (place ∷ places)
      (slice_range header from place.start ++ (text ++ more))

-- a header whose addresses go through rulesets, or which stays as it is
abbrev pub IsFilled : Site → Macros → Option (List (List ℕ)) → List ℕ → List ℕ → Type 0
IsFilled site macros None header text = text ≡ header
IsFilled site macros (Some sets) header text =
    Fills site macros sets header 0 (places_of header) text

-- a header for a mailer
abbrev pub IsRewritten : Site → Macros → Mailer → List ℕ → List ℕ → Type 0
IsRewritten site macros mailer header text =
    IsFilled site macros (sets_for mailer header) header text

-- headers for a mailer, in their order
abbrev pub AreRewritten : Site → Macros → Mailer → List (List ℕ) → List (List ℕ) → Type 0
AreRewritten site macros mailer headers texts =
    AllZip (IsRewritten site macros mailer) headers texts

-- ---- rulesets that give what they got

abbrev pub AreIdle : Site → Macros → List (List ℕ) → Type 0
AreIdle site macros sets = (tokens : List Token) → Through site macros sets tokens (Ok tokens)

-- an address cut into tokens and joined again, or as it was where it can't be cut, has none, or is
-- joined to more than one line
abbrev pub rejoined : List ℕ → List ℕ → List ℕ
rejoined operators address = put address (rewritten (cut operators address))

-- a header from a byte on, with the addresses at these places joined again
abbrev pub rejoined_from : List ℕ → List ℕ → ℕ → List Span → List ℕ
rejoined_from operators header from [] = drop from header
rejoined_from operators header from (place ∷ places) =
    slice_range header from place.start
    ++ (rejoined operators (address_at header place)
    ++ rejoined_from operators header (end_of place) places)

-- each of these places has an address that is so joined again
abbrev pub AreJoined : List ℕ → List ℕ → List Span → Type 0
AreJoined operators header [] = Unit {0}
AreJoined operators header (place ∷ places) =
    (rejoined operators (address_at header place) ≡ address_at header place)
    × AreJoined operators header places

example : (put (codes "bob") (Gives (codes "bob@c")) ≡ codes "bob@c")
    × (put (codes "bob") (Gives (codes "bob\r@c")) ≡ codes "bob")
    × (put (codes "bob") (Gives []) ≡ codes "bob")
example = (refl, refl, refl)
