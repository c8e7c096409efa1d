-- That tokens are the same is an equivalence, by the bytes that the same tokens share.
use Rattle.std.specs.Prelude.{◌≡◌, ℕ, List, [], ◌∷◌, true, bytes_eq, refl}
use Rattle.std.proofs.Common.{ap, sym, ◌∙◌}
use Rattle.std.specs.Cmp.{IsEquivalence, on_equiv}
use Rattle.std.specs.Cmp.Lexicographic.{nat_list_eq_equiv, bytes_decides}
use Rattle.std.specs.Hash.{HashWrites, u8}
use Rattle.std.specs.List.{flat_map}
use Rattle.std.specs.Str.{str_to_ascii_lowercase}
use Rattle.mail_base.specs.Tokens.{mark_number, same_mark, same_token}
use Rattle.mail_base.specs.declared.token.Mark.{Mark}
use Rattle.mail_base.specs.declared.token.Mark.TheVariants.{Alt, Mailer, Host, User, End}
use Rattle.mail_base.specs.declared.token.Token.{Token}
use Rattle.mail_base.specs.declared.token.Token.TheVariants.{Word, Quoted, Op, Sign}

-- a token's kind and its bytes in small letters
abbrev pub caseless : Token → List ℕ
caseless (Word text) = 0 ∷ str_to_ascii_lowercase text
caseless (Quoted text) = 1 ∷ str_to_ascii_lowercase text
caseless (Op byte) = 2 ∷ str_to_ascii_lowercase (byte ∷ [])
caseless (Sign mark) = 3 ∷ str_to_ascii_lowercase (mark_number mark ∷ [])

-- what a hash of a token is made of
abbrev pub fed_token : Token → HashWrites
fed_token token = flat_map u8 (caseless token)

same_sign : (one another : Mark)
    → same_mark one another ≡ bytes_eq (caseless (Sign one)) (caseless (Sign another))
same_sign Alt Alt = refl
same_sign Alt Mailer = refl
same_sign Alt Host = refl
same_sign Alt User = refl
same_sign Alt End = refl
same_sign Mailer Alt = refl
same_sign Mailer Mailer = refl
same_sign Mailer Host = refl
same_sign Mailer User = refl
same_sign Mailer End = refl
same_sign Host Alt = refl
same_sign Host Mailer = refl
same_sign Host Host = refl
same_sign Host User = refl
same_sign Host End = refl
same_sign User Alt = refl
same_sign User Mailer = refl
same_sign User Host = refl
same_sign User User = refl
same_sign User End = refl
same_sign End Alt = refl
same_sign End Mailer = refl
same_sign End Host = refl
same_sign End User = refl
same_sign End End = refl

-- two tokens are the same where their kinds and their bytes in small letters are
pub same_is : (one another : Token)
    → same_token one another ≡ bytes_eq (caseless one) (caseless another)
same_is (Word x) (Word y) = refl
same_is (Word x) (Quoted y) = refl
same_is (Word x) (Op y) = refl
same_is (Word x) (Sign y) = refl
same_is (Quoted x) (Word y) = refl
same_is (Quoted x) (Quoted y) = refl
same_is (Quoted x) (Op y) = refl
same_is (Quoted x) (Sign y) = refl
same_is (Op x) (Word y) = refl
same_is (Op x) (Quoted y) = refl
same_is (Op x) (Op y) = refl
same_is (Op x) (Sign y) = refl
same_is (Sign x) (Word y) = refl
same_is (Sign x) (Quoted y) = refl
same_is (Sign x) (Op y) = refl
same_is (Sign x) (Sign y) = same_sign x y

pub same_equiv : IsEquivalence same_token
same_equiv =
    let e : IsEquivalence (λ (x y : Token). bytes_eq (caseless x) (caseless y)) =
    on_equiv caseless nat_list_eq_equiv in
    record {
      refl = λ x. same_is x x ∙ e.refl x;
      symm = λ x y. same_is x y ∙ e.symm x y ∙ sym (same_is y x);
      congr = λ x y z same.
          same_is x z ∙ e.congr x y z (sym (same_is x y) ∙ same) ∙ sym (same_is y z);
    }

-- the same tokens are hashed alike
pub fed_alike : (x y : Token) → same_token x y ≡ true → fed_token x ≡ fed_token y
fed_alike x y same =
    ap (flat_map u8) ((bytes_decides (caseless x) (caseless y)).0 (sym (same_is x y) ∙ same))
