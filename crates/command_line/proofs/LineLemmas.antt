-- What words say of mail is made of lines.
use Rattle.std.proofs.Common.{◌≡◌, ℕ, List, [], ◌∷◌, ◌++◌, Bool, true, false, Option, Some, None, refl, sym, ◌∙◌, subst, arith}
use Rattle.std.specs.Prelude.{◌≢◌, ◌&&◌, All, IfSome, not, option_to_list}
use Rattle.std.specs.List.{flat_map}
use Rattle.std.proofs.lemmas.Bool.{eqb-false, or_parts}
use Rattle.std.proofs.lemmas.List.Elements.{All-cons, All-nil}
use Rattle.std.proofs.lemmas.List.{append-nil}
use Rattle.mail_base.specs.Texts.{IsAddress, IsLine, has_lf, is_lf}
use Rattle.mail_submit.specs.declared.words.SubmitWords.{SubmitWords}
use Rattle.command_line.specs.declared.mode.Job.{Job}
use Rattle.command_line.specs.declared.mode.Job.TheVariants.{Submit}
use Rattle.command_line.specs.declared.mode.Mode.{Mode}
use Rattle.mail_submit.specs.Said.{AreSaid}
use Rattle.command_line.specs.MailWords.{MailWord, Gathers, Ignores, IgnoresToo, Sends, SendsApart, Names, IsMail, addresses_in, is_address, is_dashed, is_one_line, is_sender, senders_in}
use Rattle.command_line.specs.CommandLines.{Asks, IsCommandLine, mail_in, untimed}

line_of : (text : List ℕ) → has_lf text ≡ false → IsLine text
line_of [] e = All-nil (λ b. b ≢ 10)
line_of (b ∷ text) e = let parts = or_parts (is_lf b) (has_lf text) e in All-cons (λ c. c ≢ 10) b text (eqb-false b 10 parts.0) (line_of text parts.1)

not_false : (b : Bool) → not b ≡ true → b ≡ false
not_false true e = absurd (cc e)
not_false false e = refl

-- a text that isn't empty and has no LF
one_line : (text : List ℕ) → is_one_line text ≡ true → IsAddress text
one_line [] e = absurd (cc e)
one_line (first ∷ others) e = record { line = line_of (first ∷ others) (not_false (has_lf (first ∷ others)) e); some = omega arith }

first_of_both : (a b : Bool) → (a && b) ≡ true → a ≡ true
first_of_both true b e = refl
first_of_both false b e = absurd (cc e)

last_of_both : (a b : Bool) → (a && b) ≡ true → b ≡ true
last_of_both true b e = e
last_of_both false b e = absurd (cc e)

sender_line : (text : List ℕ) → is_sender text ≡ true → IsLine text
sender_line text e = (one_line text (first_of_both (is_one_line text) _ e)).line

address_line : (word : List ℕ) → is_address word ≡ true → IsAddress word
address_line word e = one_line word (last_of_both (not (is_dashed word)) (is_one_line word) e)

addresses_lines : (options : List MailWord) → All IsAddress (flat_map addresses_in options)
addresses_lines [] = All-nil IsAddress
addresses_lines (Gathers ∷ options) = addresses_lines options
addresses_lines (Ignores ∷ options) = addresses_lines options
addresses_lines (IgnoresToo ∷ options) = addresses_lines options
addresses_lines (Sends text is ∷ options) = addresses_lines options
addresses_lines (SendsApart text is ∷ options) = addresses_lines options
addresses_lines (Names address is ∷ options) = All-cons IsAddress address (flat_map addresses_in options) (address_line address is) (addresses_lines options)

sender_lines : (options : List MailWord) (sender : Option (List ℕ)) (more : List (List ℕ)) → flat_map senders_in options ≡ option_to_list sender ++ more → IfSome sender IsLine
sender_lines options None more e = tt
sender_lines [] (Some text) more e = absurd (cc e)
sender_lines (Gathers ∷ options) (Some text) more e = sender_lines options (Some text) more e
sender_lines (Ignores ∷ options) (Some text) more e = sender_lines options (Some text) more e
sender_lines (IgnoresToo ∷ options) (Some text) more e = sender_lines options (Some text) more e
sender_lines (Sends other is ∷ options) (Some text) more e = subst IsLine (cc e) (sender_line other is)
sender_lines (SendsApart other is ∷ options) (Some text) more e = subst IsLine (cc e) (sender_line other is)
sender_lines (Names address is ∷ options) (Some text) more e = sender_lines options (Some text) more e

-- mail that options speak of is made of lines
mail_lines : (options : List MailWord) (words : SubmitWords) → IsMail options words → AreSaid words
mail_lines options words is = record {
  addresses = subst (All IsAddress) is.addresses (addresses_lines options);
  sender = sender_lines options words.sender [] (is.sender ∙ sym (append-nil (option_to_list words.sender)));
}

-- and so is that of a command line
pub submit_lines : (line : List (List ℕ)) (mode : Mode) (words : SubmitWords) → IsCommandLine line mode → mode.job ≡ Submit words → AreSaid words
submit_lines line mode words is job = mail_lines (flat_map mail_in is.flags) words (subst (λ (j : Job). Asks is.flags (untimed j)) job is.job).mail
