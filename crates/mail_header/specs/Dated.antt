-- The macros that hold the present moment (Sendmail Installation and Operation Guide, macros b, d
-- and t).
use Rattle.std.specs.Prelude.{◌≡◌, ℕ, List, codes}
use Rattle.mail_base.specs.Catalogs.{with_value}
use Rattle.cf_macros.specs.Dates.{IsDateText}
use Rattle.cf_macros.specs.declared.form.Form.TheVariants.{Mail, Unix, Short}

-- a moment as b, as d and as t have it
pub record Dates : Type 0 where
  pub mail : List ℕ
  pub unix : List ℕ
  pub short : List ℕ

pub record AreDates (moment : ℕ) (dates : Dates) : Type 0 where
  pub mail : IsDateText Mail moment dates.mail
  pub unix : IsDateText Unix moment dates.unix
  pub short : IsDateText Short moment dates.short

-- macros with these dates
abbrev pub with_dates : Dates → List (List ℕ × List ℕ) → List (List ℕ × List ℕ)
with_dates dates macros =
    with_value (codes "t") dates.short
    (with_value (codes "d") dates.unix
    (with_value (codes "b") dates.mail macros))

-- macros that were given the dates of a moment
pub record IsDated (moment : ℕ) (macros all : List (List ℕ × List ℕ)) : Type 0 where
  pub dates : Dates
  pub are : AreDates moment dates
  pub is : all ≡ with_dates dates macros
