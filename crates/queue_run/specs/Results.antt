-- What an attempt makes of a row, where no peer and no program says it (RFC 3463; Sendmail
-- Installation and Operation Guide, M: Define Mailer, its field M; the notes are own).
use Rattle.std.specs.Prelude.{◌≡◌, ℕ, List, [], ◌∷◌, map, Bool, ◌&&◌, nat_le, nat_lt, codes, if◌then◌else◌, refl}
use Rattle.mail_base.specs.Notes.{noted}
use Rattle.mail_base.specs.declared.outcome.Result1.{Result1}
use Rattle.mail_base.specs.declared.outcome.Result1.TheVariants.{Sent, Deferred, Failed}
use Rattle.mail_base.specs.declared.route.RouteError.{RouteError}

-- a code of 4xx
abbrev pub is_passing : ℕ → Bool
is_passing code = nat_le 400 code && nat_lt code 500

-- a text as a note; an empty one is no note
abbrev pub note_of : List ℕ → List ℕ
note_of [] = codes "Refused"
note_of (byte ∷ bytes) = noted (byte ∷ bytes)

-- what the error of a route makes of its row: one that passes defers it
abbrev pub refused_by : RouteError → Result1
refused_by error =
    if is_passing error.code then Deferred (note_of error.text)
    else Failed error.status (note_of error.text)

-- a device failed
abbrev pub device_fault : Result1
device_fault = Deferred (codes "device fault")

-- a program's arguments have no place for users
abbrev pub no_user : Result1
no_user = Deferred (codes "no user in arguments")

-- there is no mailer of that name
abbrev pub no_mailer : Result1
no_mailer = Failed (codes "5.3.5") (codes "unknown mailer")

-- none of the hosts is known
abbrev pub no_host : Result1
no_host = Failed (codes "5.1.2") (codes "no host known")

-- the text is longer than the mailer takes
abbrev pub too_large : Result1
too_large = Failed (codes "5.3.4") (codes "message too large")

-- the same for each row of a batch
abbrev pub alike : Result1 → List ℕ → List Result1
alike result places = map (λ place. result) places

example : alike Sent (3 ∷ 5 ∷ []) ≡ Sent ∷ Sent ∷ []
example = refl
