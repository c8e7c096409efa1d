-- What is read of a value that stands for a text.
use Rattle.std.proofs.Common.{◌≡◌, ℕ, zero, suc, ◌≤◌, ◌==◌, false, List, [], ◌∷◌, ◌++◌, map, length, codes, Ok, Some, refl, sym, ap, ◌∙◌, arith, ⊎_elim}
use Rattle.std.specs.Prelude.{unwrap_or}
use Rattle.std.specs.Result.{result_unwrap_or}
use Rattle.std.proofs.lemmas.Bool.{cond-true, cond-false, cases_Bool, eqb-true}
use Rattle.std.proofs.lemmas.List.{append-nil}
use Rattle.mail_base.specs.Catalogs.{value_at}
use Rattle.mail_base.proofs.CatalogLemmas.{with_value_sets}
use Rattle.cf_macros.specs.Readings.{Parts, Nothing, Bytes, Refer, Reading, Last, put, reading}
use Rattle.cf_macros.specs.Expansion.{Act, Gives, Follows, acts_of, whole, followed, with_byte, outcome, value_in, value, expanded}
use Rattle.mail_base.specs.Literals.{literal}
use Rattle.mailer_pipe.specs.Arguments.{with_user}

-- the parts of a text each of whose bytes stands for itself
abbrev literal_parts : List ℕ → Parts
literal_parts [] = Nothing
literal_parts (b ∷ text) = Bytes (b ∷ []) (literal_parts text)

gives : (follow : List ℕ → List Act) (text : List ℕ) → acts_of follow (literal_parts text) ≡ map Gives text
gives follow [] = refl
gives follow (b ∷ text) = ap (λ acts. Gives b ∷ acts) (gives follow text)

comes : (references bytes : ℕ) (text : List ℕ) → length text ≤ bytes → outcome references bytes (map Gives text) ≡ Ok text
comes references bytes [] low = refl
comes references zero (b ∷ text) low = absurd (omega arith)
comes references (suc bytes) (b ∷ text) low = ap (λ rest. with_byte b rest) (comes references bytes text (omega arith))

-- how a text is read: bytes but a dollar sign stand for themselves, and two of it for one
record Reader (read : ℕ → ℕ → List ℕ → Reading) : Type 0 where
  none : (place : ℕ) → read place 0 [] ≡ Last Nothing
  one : (place b : ℕ) → read place 0 (b ∷ []) ≡ put (Bytes (b ∷ [])) (read (suc place) 0 [])
  more : (place b c : ℕ) (text : List ℕ) → (b == 36) ≡ false → read place 0 (b ∷ c ∷ text) ≡ put (Bytes (b ∷ [])) (read (suc place) 0 (c ∷ text))
  dollars : (place : ℕ) (text : List ℕ) → read place 0 (36 ∷ 36 ∷ text) ≡ put (Bytes (36 ∷ [])) (read (suc (suc place)) 0 text)

module _ (read : ℕ → ℕ → List ℕ → Reading) (is : Reader read) where
  byte : (place b : ℕ) (text : List ℕ) → (b == 36) ≡ false → read place 0 (b ∷ text) ≡ put (Bytes (b ∷ [])) (read (suc place) 0 text)
  byte place b [] other = is.one place b
  byte place b (c ∷ text) other = is.more place b c text other

  reads : (place : ℕ) (text : List ℕ) → read place 0 (literal text) ≡ Last (literal_parts text)
  reads place [] = is.none place
  reads place (b ∷ text) =
      ⊎_elim
      (λ dollar.
      let at : b ≡ 36 = eqb-true b 36 dollar in
      ap (λ bytes. read place 0 (bytes ++ literal text)) (cond-true (b == 36) (36 ∷ 36 ∷ []) (b ∷ []) dollar)
      ∙ is.dollars place (literal text)
      ∙ ap (λ rest. put (Bytes (36 ∷ [])) rest) (reads (suc (suc place)) text)
      ∙ ap (λ x. Last (Bytes (x ∷ []) (literal_parts text))) (sym at))
      (λ other.
      ap (λ bytes. read place 0 (bytes ++ literal text)) (cond-false (b == 36) (36 ∷ 36 ∷ []) (b ∷ []) other)
      ∙ byte place b (literal text) other
      ∙ ap (λ rest. put (Bytes (b ∷ [])) rest) (reads (suc place) text))
      (cases_Bool (b == 36))

  -- a reference to the user
  refers : (follow now : List ℕ → List Act) (macros : List (List ℕ × List ℕ)) (user : List ℕ) → value_at (codes "u") macros ≡ Some (literal user)
      → now (codes "u") ≡ Follows ∷ whole follow (read 0 0 (unwrap_or (value_at (codes "u") macros) [])) → read 0 0 (codes "$u") ≡ Last (Refer (codes "u") Nothing)
      → length user ≤ 1_048_576 → outcome 10_000 1_048_576 (whole now (read 0 0 (codes "$u"))) ≡ Ok user
  refers follow now macros user at step name low =
      ap (λ r. outcome 10_000 1_048_576 (whole now r)) name
      ∙ ap (λ acts. outcome 10_000 1_048_576 (acts ++ [])) (step ∙ ap (λ found. Follows ∷ whole follow (read 0 0 (unwrap_or found []))) at ∙ ap (λ r. Follows ∷ whole follow r) (reads 0 user) ∙ ap (λ acts. Follows ∷ acts) (gives follow user))
      ∙ ap (λ acts. outcome 9_999 1_048_576 acts) (append-nil (map Gives user))
      ∙ comes 9_999 1_048_576 user low

-- the same for the scope by which a value is that of a text
in_scope : {S R : Type 0} (read : S → ℕ → ℕ → List ℕ → Reading) (follow : S → ℕ → List (List ℕ × List ℕ) → List ℕ → List Act) (value : S → R) (known : R) (scope : S) → value scope ≡ known
    → ((scope : S) (place : ℕ) → read scope place 0 [] ≡ Last Nothing)
    → ((scope : S) (place b : ℕ) → read scope place 0 (b ∷ []) ≡ put (Bytes (b ∷ [])) (read scope (suc place) 0 []))
    → ((scope : S) (place b c : ℕ) (text : List ℕ) → (b == 36) ≡ false → read scope place 0 (b ∷ c ∷ text) ≡ put (Bytes (b ∷ [])) (read scope (suc place) 0 (c ∷ text)))
    → ((place : ℕ) (text : List ℕ) → read scope place 0 (36 ∷ 36 ∷ text) ≡ put (Bytes (36 ∷ [])) (read scope (suc (suc place)) 0 text))
    → (macros : List (List ℕ × List ℕ)) (user : List ℕ) → value_at (codes "u") macros ≡ Some (literal user)
    → follow scope 10 macros (codes "u") ≡ Follows ∷ whole (follow scope 9 macros) (read scope 0 0 (unwrap_or (value_at (codes "u") macros) []))
    → read scope 0 0 (codes "$u") ≡ Last (Refer (codes "u") Nothing)
    → length user ≤ 1_048_576 → outcome 10_000 1_048_576 (whole (follow scope 10 macros) (read scope 0 0 (codes "$u"))) ≡ Ok user
in_scope read follow value known scope is none one more dollars macros user at step name low =
    refers (read scope) (record { none = none scope; one = one scope; more = more scope; dollars = dollars }) (follow scope 9 macros) (follow scope 10 macros) macros user at step name low

-- the value of a text in any scope
opens : (scope : _) (text : List ℕ) (macros : List (List ℕ × List ℕ)) → value_in scope text macros ≡ outcome 10_000 1_048_576 (whole (followed scope 10 macros) (reading scope 0 0 text))
unfolding value_in
opens scope text macros = refl

-- what `$u` gives is the user
pub user_stays : (macros : List (List ℕ × List ℕ)) (user : List ℕ) → length user ≤ 1_048_576 → expanded (codes "$u") (with_user user macros) ≡ user
unfolding reading followed
user_stays macros user low =
    ap (λ r. result_unwrap_or r []) (
    opens _ (codes "$u") (with_user user macros)
    ∙ in_scope reading followed (λ scope. value_in scope user macros) (value user macros) _ refl
    (λ scope place. refl) (λ scope place b. refl) (λ scope place b c text other. rw other refl) (λ place text. refl)
    (with_user user macros) user (with_value_sets (codes "u") (literal user) macros).value refl refl low)
