-- The names of the queue's files: df, qf, tf or sf, a w, and the id's twelve digits (Sendmail
-- Operation Guide, the queue; the form of the id is our own).
use Rattle.std.specs.Prelude.{◌≡◌, ℕ, zero, suc, ◌+◌, ◌/◌, ◌%◌, List, [], ◌∷◌, ◌++◌, codes, refl}
use Rattle.mail_base.specs.declared.id.Kind.{Kind}
use Rattle.mail_base.specs.declared.id.Kind.TheVariants.{Df, Qf, Tf, Sf}

-- the last k digits of n
unfoldable pub digits : ℕ → ℕ → List ℕ
digits zero n = []
digits (suc k) n = digits k (n / 10) ++ (48 + n % 10) ∷ []

-- an id as texts show it: w and its twelve digits
abbrev pub id_text : ℕ → List ℕ
id_text id = codes "w" ++ digits 12 id

-- the two letters of a kind
abbrev pub letters : Kind → List ℕ
letters Df = codes "df"
letters Qf = codes "qf"
letters Tf = codes "tf"
letters Sf = codes "sf"

-- the name of the file of that kind of the id n
abbrev pub name_of : Kind → ℕ → List ℕ
name_of kind n = letters kind ++ codes "w" ++ digits 12 n

example : name_of Qf 42 ≡ codes "qfw000000000042"
unfolding digits
example = refl
