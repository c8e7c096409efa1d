-- Where addresses go, as what is compared (Sendmail Installation and Operation Guide, R and S:
-- rewriting rules: a mailer, a host and a user).
use Rattle.std.specs.Prelude.{ℕ, List, [], ◌∷◌, ◌++◌, Bool, ◌&&◌, bytes_eq, if◌then◌else◌}
use Rattle.std.specs.List.{list_any}
use Rattle.mail_base.specs.declared.route.Triple.{Triple}

-- two triples are equal, byte by byte
abbrev pub is_same : Triple → Triple → Bool
is_same one another = bytes_eq one.mailer another.mailer
    && (bytes_eq one.host another.host && bytes_eq one.user another.user)

-- a triple is one of these
abbrev pub is_among : Triple → List Triple → Bool
is_among triple triples = list_any (is_same triple) triples

-- the triples with one more, unless it is one of them
abbrev pub with_triple : Triple → List Triple → List Triple
with_triple triple triples =
    if is_among triple triples then triples else triples ++ triple ∷ []

-- a file that was read is one of these, each with the alias or the user for whom it was
abbrev pub is_read : Triple → List ℕ → List (Triple × List ℕ) → Bool
is_read namer name files =
    list_any (λ file. is_same namer file.0 && bytes_eq name file.1) files

-- those files with one more, unless it is one of them
abbrev pub with_read : Triple → List ℕ → List (Triple × List ℕ) → List (Triple × List ℕ)
with_read namer name files =
    if is_read namer name files then files else files ++ (namer, name) ∷ []
