-- The date of a moment, as the macros b, d and t have it (RFC 5322, section 3.3, for b; Sendmail
-- Installation and Operation Guide, macros, for d and t).
use Rattle.std.specs.Prelude.{◌≡◌, ℕ, pos, List, [], ◌∷◌, ◌++◌, ◌+◌, ◌-◌, ◌*◌, ◌/◌, ◌%◌, nat_lt, if◌then◌else◌, min, take, drop, codes, unsigned_abs}
use Rattle.jiff.specs.Words.{civil_nanos, weekday_of}
use Rattle.jiff.specs.Types.{DateTime}
use Rattle.cf_macros.specs.declared.form.Form.{Form}
use Rattle.cf_macros.specs.declared.form.Form.TheVariants.{Mail, Unix, Short}
use Rattle.cf_macros.specs.declared.form.Civil.{Civil}

-- a moment above the beginning of the year 3000 counts as that
abbrev pub counted : ℕ → ℕ
counted moment = min moment 32_503_680_000

-- the two digits of a number below 100
abbrev pub two : ℕ → List ℕ
two number = (48 + number / 10) ∷ (48 + number % 10) ∷ []

-- the four digits of a number below 10,000
abbrev pub four : ℕ → List ℕ
four number = two (number / 100 % 100) ++ two (number % 100)

-- a number below 10 has one digit behind this
abbrev pub padded : List ℕ → ℕ → List ℕ
padded pad number = if nat_lt number 10 then pad ++ (48 + number) ∷ [] else two number

-- the weekday, from 0 for Monday
abbrev pub weekday_name : ℕ → List ℕ
weekday_name weekday = take 3 (drop (3 * weekday) (codes "MonTueWedThuFriSatSun"))

-- the month, from 1 for January
abbrev pub month_name : ℕ → List ℕ
month_name month = take 3 (drop (3 * (month - 1)) (codes "JanFebMarAprMayJunJulAugSepOctNovDec"))

-- the hour, the minute and the second, with a colon between
abbrev pub clock : Civil → List ℕ
clock civil = two civil.hour ++ 58 ∷ two civil.minute ++ 58 ∷ two civil.second

-- a date in each form: `Thu, 1 Jan 2026 00:00:00 +0000`, `Thu Jan  1 00:00:00 2026` and
-- `202601010000`
abbrev pub shown : Form → Civil → List ℕ
shown Mail civil =
    weekday_name civil.weekday ++ codes ", " ++ padded [] civil.day ++ 32 ∷ month_name civil.month
    ++ 32 ∷ four civil.year ++ 32 ∷ clock civil ++ codes " +0000"
shown Unix civil =
    weekday_name civil.weekday ++ 32 ∷ month_name civil.month ++ 32 ∷ padded (codes " ") civil.day
    ++ 32 ∷ clock civil ++ 32 ∷ four civil.year
shown Short civil =
    four civil.year ++ two civil.month ++ two civil.day ++ two civil.hour ++ two civil.minute

-- the parts are those of a date and a clock in UTC
pub record IsCivil (time : DateTime) (civil : Civil) : Type 0 where
  pub year : civil.year ≡ unsigned_abs time.date.year
  pub month : civil.month ≡ time.date.month
  pub day : civil.day ≡ time.date.day
  pub weekday : civil.weekday ≡ weekday_of time.date
  pub hour : civil.hour ≡ time.time.hour
  pub minute : civil.minute ≡ time.time.minute
  pub second : civil.second ≡ time.time.second

-- the parts are those of the date and the clock that are so many seconds behind the beginning of
-- 1970
abbrev pub IsMoment : ℕ → Civil → Type 0
IsMoment seconds civil =
    (time : DateTime) × (civil_nanos time ≡ pos (seconds * 1_000_000_000)) × IsCivil time civil

-- the text of the moment in that form
abbrev pub IsDateText : Form → ℕ → List ℕ → Type 0
IsDateText form moment text =
    (civil : Civil) × IsMoment (counted moment) civil × (text ≡ shown form civil)
