-- The statuses of exits of programs (sysexits; RFC 3463; which status an exit has is own).
use Rattle.std.specs.Prelude.{◌≡◌, ℕ, ◌==◌, List, Option, None, Some, codes, refl, if◌then◌else◌}

-- 64 usage, 65 dataerr, 66 noinput, 67 nouser, 68 nohost, 69 unavailable, 70 software, 71 oserr, 72
-- osfile, 73 cantcreat, 74 ioerr, 75 tempfail, 76 protocol, 77 noperm, 78 config
abbrev pub numbered_status : ℕ → List ℕ
numbered_status exit =
    if exit == 64 then codes "5.5.4"
    else if exit == 65 then codes "5.6.0"
    else if exit == 67 then codes "5.1.1"
    else if exit == 68 then codes "5.1.2"
    else if exit == 75 then codes "4.3.0"
    else if exit == 76 then codes "5.5.0"
    else if exit == 77 then codes "5.7.0"
    else if exit == 78 then codes "5.3.5"
    else codes "5.3.0"

abbrev pub exit_status : Option ℕ → List ℕ
exit_status None = codes "5.0.0"
exit_status (Some exit) = numbered_status exit

example :
    (exit_status (Some 67) ≡ codes "5.1.1") × (exit_status (Some 71) ≡ codes "5.3.0")
    × (exit_status None ≡ codes "5.0.0")
example = (refl, refl, refl)
