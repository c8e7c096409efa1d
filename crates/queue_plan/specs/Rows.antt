-- The rows of a message, of which equal ones stay once (Sendmail Installation and Operation Guide,
-- "The Queue": an address is queued once for its mailer, host and user).
use Rattle.std.specs.Prelude.{◌≡◌, ℕ, List, [], ◌∷◌, Bool, true, false, ◌&&◌, ◌==◌, not, filter, bytes_eq, codes, refl}
use Rattle.std.specs.List.{list_any}
use Rattle.mail_base.specs.declared.draw.Draw.{Draw}
use Rattle.mail_base.specs.declared.route.Resolved.{Resolved}
use Rattle.mail_base.specs.declared.route.Resolved.TheVariants.{Goes, Refuses}
use Rattle.mail_base.specs.declared.route.Triple.{Triple}

-- the items that no equal one stands before
abbrev pub firsts : {X : Type 0} → (X → X → Bool) → List X → List X
firsts same [] = []
firsts same (x ∷ xs) = x ∷ filter (λ y. not (same x y)) (firsts same xs)

-- no two of these are equal
abbrev pub AreApart : {X : Type 0} → (X → X → Bool) → List X → Type 0
AreApart same [] = Unit {0}
AreApart same (x ∷ xs) = (list_any (same x) xs ≡ false) × AreApart same xs

abbrev pub same_triple : Triple → Triple → Bool
same_triple one other =
    bytes_eq one.mailer other.mailer && bytes_eq one.host other.host
    && bytes_eq one.user other.user

-- two rows are the same that go to one triple, and two of one address that are refused; their
-- senders are not compared
abbrev pub same_by : List ℕ → Resolved → List ℕ → Resolved → Bool
same_by one (Goes x) other (Goes y) = same_triple x y
same_by one (Goes x) other (Refuses f) = false
same_by one (Refuses e) other (Goes y) = false
same_by one (Refuses e) other (Refuses f) = bytes_eq one other

abbrev pub same_row : Draw → Draw → Bool
same_row one other = same_by one.address one.resolved other.address other.resolved

abbrev pub distinct : List Draw → List Draw
distinct rows = firsts same_row rows

row : List ℕ → List ℕ → Draw
row address user = record {
  address = address;
  sender = codes "<>";
  primary = true;
  resolved = Goes (record { mailer = codes "local"; host = []; user = user });
}

example :
    (firsts (λ (a b : ℕ). a == b) (3 ∷ 1 ∷ 3 ∷ 2 ∷ 1 ∷ []) ≡ 3 ∷ 1 ∷ 2 ∷ [])
    × (distinct (row (codes "a") (codes "x") ∷ row (codes "b") (codes "x") ∷ [])
    ≡ row (codes "a") (codes "x") ∷ [])
unfolding row
example = (refl, refl)
