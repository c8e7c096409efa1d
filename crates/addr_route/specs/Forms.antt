-- What the first byte of an address says of it (Sendmail Installation and Operation Guide,
-- aliases).
use Rattle.std.specs.Prelude.{◌≡◌, ℕ, ◌==◌, List, [], ◌∷◌, codes, refl, if◌then◌else◌}
use Rattle.addr_route.specs.declared.form.Form.{Form}
use Rattle.addr_route.specs.declared.form.Form.TheVariants.{Program, File, Plain}

-- behind a bar (124) stands a program's command, a slash (47) begins the name of a file, and a
-- backslash (92) isn't a part of the address
abbrev pub form_of : List ℕ → Form
form_of [] = Plain []
form_of (first ∷ rest) = if first == 124 then Program rest else if first == 47 then File
    else if first == 92 then Plain rest else Plain (first ∷ rest)

example : (form_of (codes "|cat x") ≡ Program (codes "cat x")) × (form_of (codes "/etc/x") ≡ File)
    × (form_of (codes "\\|cat") ≡ Plain (codes "|cat"))
    × (form_of (codes "ann") ≡ Plain (codes "ann"))
example = (refl, refl, refl, refl)
