-- A name tells its kind and its number.
use Rattle.std.proofs.Common.{◌≡◌, ℕ, zero, suc, ◌+◌, ◌-◌, ◌*◌, ◌/◌, ◌%◌, ◌^◌, ◌<◌, ◌≤◌, List, [], ◌∷◌, fold, get_or, drop, length, refl, ap, sym, ◌∙◌, arith, eqb, if◌then◌else◌}
use Rattle.std.proofs.Math.Nat.{pow-suc}
use Rattle.std.proofs.lemmas.Grind.{fold-append}
use Rattle.mail_base.specs.declared.id.Kind.{Kind}
use Rattle.mail_base.specs.declared.id.Kind.TheVariants.{Df, Qf, Tf, Sf}
use Rattle.mail_base.specs.Names.{digits, name_of}

abbrev value : List ℕ → ℕ
value xs = fold (λ v d. v * 10 + (d - 48)) 0 xs

value-digits : (k n : ℕ) → n < 10 ^ k → value (digits k n) ≡ n
unfolding digits
value-digits zero n h = omega arith
value-digits (suc k) n h =
    let p = pow-suc 10 k in
    let l : n / 10 < 10 ^ k = omega (arith, p) in
    let rest = value-digits k (n / 10) l in
    fold-append (λ v d. v * 10 + (d - 48)) 0 (digits k (n / 10)) ((48 + n % 10) ∷ []) ∙ omega (arith, rest)

abbrev read_kind : ℕ → Kind
read_kind c = if eqb c 100 then Df else if eqb c 113 then Qf else if eqb c 116 then Tf else Sf

kind_again : (k : Kind) (n : ℕ) → read_kind (get_or (name_of k n) 0 0) ≡ k
kind_again Df n = refl
kind_again Qf n = refl
kind_again Tf n = refl
kind_again Sf n = refl

digits_again : (k : Kind) (n : ℕ) → drop 3 (name_of k n) ≡ digits 12 n
digits_again Df n = refl
digits_again Qf n = refl
digits_again Tf n = refl
digits_again Sf n = refl

-- files of one name are of one kind
pub same_kind : (k j : Kind) (n m : ℕ) → name_of k n ≡ name_of j m → k ≡ j
same_kind k j n m e = sym (kind_again k n) ∙ ap (λ xs. read_kind (get_or xs 0 0)) e ∙ kind_again j m

-- files of one name are of one id
pub same_number : (k j : Kind) (n m : ℕ) → n ≤ 999_999_999_999 → m ≤ 999_999_999_999 → name_of k n ≡ name_of j m → n ≡ m
same_number k j n m p q e =
    let a : n < 10 ^ 12 = omega arith in
    let b : m < 10 ^ 12 = omega arith in
    sym (value-digits 12 n a) ∙ ap value (sym (digits_again k n) ∙ ap (drop 3) e ∙ digits_again j m) ∙ value-digits 12 m b

-- a name has its two letters
pub name_long : (id : ℕ) → 2 ≤ length (name_of Qf id)
name_long id = omega arith
