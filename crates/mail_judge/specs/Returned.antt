-- The rows of a receiver of returned mail (RFC 5321, section 4.5.5: returned mail has the sender
-- `<>`; Sendmail Installation and Operation Guide, "The Alias Database"; that a receiver stands for
-- itself where its aliases give no rows is own).
use Rattle.std.specs.Prelude.{◌≡◌, ℕ, true, List, [], ◌∷◌, Option, Ok, Err, codes, refl}
use Rattle.mail_base.specs.Drawing.{null_sender}
use Rattle.mail_base.specs.declared.draw.Draw.{Draw}
use Rattle.mail_base.specs.declared.route.Resolved.{Resolved}
use Rattle.mail_edge.specs.Seen.{FileMap}
use Rattle.alias_expand.specs.Rows.{Expands, RoutesTo, Site}
use Rattle.alias_expand.specs.declared.refusal.ExpandRefusal.{ExpandRefusal}
use Rattle.mail_judge.specs.Judged.{Grounds, site_in}

-- what the rows stand on: the macros of the configuration, with none of a session
abbrev pub returning_site : Grounds → Site
returning_site grounds = site_in grounds grounds.config.macros

-- the row of a receiver that stands for itself
abbrev pub itself_row : List ℕ → Resolved → Draw
itself_row address resolved =
    record { address = address; sender = null_sender; primary = true; resolved = resolved }

-- it goes as one for which no alias stands, wherever that leads
abbrev pub IsItself : Site → List ℕ → List Draw → Type 0
IsItself site address rows = (resolved : Resolved)
    × (RoutesTo site address true resolved × (rows ≡ itself_row address resolved ∷ []))

-- a receiver has the rows that its aliases give it; or where they give none the one of itself
pub data ReturnsTo (grounds : Grounds) (files : Option FileMap) (address : List ℕ)
    : List Draw → Type 0 where
  by_aliases : (rows : List Draw)
      → Expands (returning_site grounds) files address null_sender (Ok rows)
      → ReturnsTo grounds files address rows
  as_itself : (refusal : ExpandRefusal) (rows : List Draw)
      → Expands (returning_site grounds) files address null_sender (Err refusal)
      → IsItself (returning_site grounds) address rows
      → ReturnsTo grounds files address rows

example : (grounds : Grounds) → (returning_site grounds).macros ≡ grounds.config.macros
example = λ grounds. refl
