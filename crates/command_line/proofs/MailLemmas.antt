-- What options say of mail, one after the other and together.
use Rattle.std.proofs.Common.{◌≡◌, ℕ, ◌≤◌, List, [], ◌∷◌, ◌++◌, length, Bool, true, false, Option, Some, None, refl, sym, ◌∙◌, arith}
use Rattle.std.specs.Prelude.{not, option_to_list}
use Rattle.std.specs.List.{flat_map}
use Rattle.std.proofs.lemmas.List.{append-nil, append_assoc}
use Rattle.mail_submit.specs.declared.words.SubmitWords.{SubmitWords}
use Rattle.command_line.specs.MailWords.{MailWord, Gathers, Ignores, IgnoresToo, Sends, SendsApart, Names, IsMail, addresses_in, dots_in, headers_in, marks, no_mail, senders_in}
use Rattle.command_line.specs.CommandLines.{AreOnce}
use Rattle.command_line.specs.inner.Words.{is_mail}

abbrev pub handed : Bool → Bool → Option (List ℕ) → List (List ℕ) → SubmitWords
handed headers dot sender addresses = record { from_headers = headers; dot = dot; sender = sender; addresses = addresses }

-- ---- what options add to what was said

pub record AddsUp (mail : SubmitWords) (options : List MailWord) (last : SubmitWords) : Type 0 where
  pub headers : marks mail.from_headers ++ flat_map headers_in options ≡ marks last.from_headers
  pub dot : marks (not mail.dot) ++ flat_map dots_in options ≡ marks (not last.dot)
  pub sender : option_to_list mail.sender ++ flat_map senders_in options ≡ option_to_list last.sender
  pub addresses : mail.addresses ++ flat_map addresses_in options ≡ last.addresses

pub adds_none : (mail : SubmitWords) → AddsUp mail [] mail
adds_none mail = record {
  headers = append-nil (marks mail.from_headers);
  dot = append-nil (marks (not mail.dot));
  sender = append-nil (option_to_list mail.sender);
  addresses = append-nil mail.addresses;
}

abbrev pub add_one : SubmitWords → MailWord → SubmitWords
add_one mail Gathers = record mail { from_headers = true }
add_one mail Ignores = record mail { dot = false }
add_one mail IgnoresToo = record mail { dot = false }
add_one mail (Sends text is) = record mail { sender = Some text }
add_one mail (SendsApart text is) = record mail { sender = Some text }
add_one mail (Names address is) = record mail { addresses = mail.addresses ++ address ∷ [] }

abbrev pub add_mail : SubmitWords → List MailWord → SubmitWords
add_mail mail [] = mail
add_mail mail (option ∷ options) = add_mail (add_one mail option) options

-- there is room for the options: none is the second of its kind
pub record IsRoom (mail : SubmitWords) (options : List MailWord) : Type 0 where
  pub headers : length (marks mail.from_headers ++ flat_map headers_in options) ≤ 1
  pub dot : length (marks (not mail.dot) ++ flat_map dots_in options) ≤ 1
  pub sender : length (option_to_list mail.sender ++ flat_map senders_in options) ≤ 1

added_by : (options : List MailWord) (headers dot : Bool) (sender : Option (List ℕ)) (addresses : List (List ℕ)) → IsRoom (handed headers dot sender addresses) options
    → AddsUp (handed headers dot sender addresses) options (add_mail (handed headers dot sender addresses) options)
added_by [] headers dot sender addresses room = adds_none (handed headers dot sender addresses)
added_by (Gathers ∷ options) false dot sender addresses room =
    let is = added_by options true dot sender addresses (record { headers = room.headers; dot = room.dot; sender = room.sender }) in
    record { headers = is.headers; dot = is.dot; sender = is.sender; addresses = is.addresses }
added_by (Gathers ∷ options) true dot sender addresses room = absurd (omega (arith, room.headers))
added_by (Ignores ∷ options) headers true sender addresses room =
    let is = added_by options headers false sender addresses (record { headers = room.headers; dot = room.dot; sender = room.sender }) in
    record { headers = is.headers; dot = is.dot; sender = is.sender; addresses = is.addresses }
added_by (Ignores ∷ options) headers false sender addresses room = absurd (omega (arith, room.dot))
added_by (IgnoresToo ∷ options) headers true sender addresses room =
    let is = added_by options headers false sender addresses (record { headers = room.headers; dot = room.dot; sender = room.sender }) in
    record { headers = is.headers; dot = is.dot; sender = is.sender; addresses = is.addresses }
added_by (IgnoresToo ∷ options) headers false sender addresses room = absurd (omega (arith, room.dot))
added_by (Sends text sent ∷ options) headers dot None addresses room =
    let is = added_by options headers dot (Some text) addresses (record { headers = room.headers; dot = room.dot; sender = room.sender }) in
    record { headers = is.headers; dot = is.dot; sender = is.sender; addresses = is.addresses }
added_by (Sends text sent ∷ options) headers dot (Some other) addresses room = absurd (omega (arith, room.sender))
added_by (SendsApart text sent ∷ options) headers dot None addresses room =
    let is = added_by options headers dot (Some text) addresses (record { headers = room.headers; dot = room.dot; sender = room.sender }) in
    record { headers = is.headers; dot = is.dot; sender = is.sender; addresses = is.addresses }
added_by (SendsApart text sent ∷ options) headers dot (Some other) addresses room = absurd (omega (arith, room.sender))
added_by (Names address named ∷ options) headers dot sender addresses room =
    let is = added_by options headers dot sender (addresses ++ address ∷ []) (record { headers = room.headers; dot = room.dot; sender = room.sender }) in
    record { headers = is.headers; dot = is.dot; sender = is.sender; addresses = sym (append_assoc addresses (address ∷ []) (flat_map addresses_in options)) ∙ is.addresses }

-- options that have room add up
pub added : (mail : SubmitWords) (options : List MailWord) → IsRoom mail options → AddsUp mail options (add_mail mail options)
added mail options room = added_by options mail.from_headers mail.dot mail.sender mail.addresses room

-- options of each kind once have room where nothing was said
pub room_of : (options : List MailWord) → AreOnce options → IsRoom no_mail options
room_of options once = record { headers = once.headers; dot = once.dot; sender = once.sender }

-- ---- what they say together

pub mail_of_sum : (options : List MailWord) (last : SubmitWords) → AddsUp no_mail options last → IsMail options last
mail_of_sum options last is = record { headers = is.headers; dot = is.dot; sender = is.sender; addresses = is.addresses }

pub sum_of_mail : (options : List MailWord) (last : SubmitWords) → IsMail options last → AddsUp no_mail options last
sum_of_mail options last is = record { headers = is.headers; dot = is.dot; sender = is.sender; addresses = is.addresses }

same_marks : (a b : Bool) → marks a ≡ marks b → a ≡ b
same_marks true true e = refl
same_marks true false e = absurd (cc e)
same_marks false true e = absurd (cc e)
same_marks false false e = refl

same_dots : (a b : Bool) → marks (not a) ≡ marks (not b) → a ≡ b
same_dots true true e = refl
same_dots true false e = absurd (cc e)
same_dots false true e = absurd (cc e)
same_dots false false e = refl

same_listed : (a b : Option (List ℕ)) → option_to_list a ≡ option_to_list b → a ≡ b
same_listed None None e = refl
same_listed None (Some b) e = absurd (cc e)
same_listed (Some a) None e = absurd (cc e)
same_listed (Some a) (Some b) e = cc e

same_fields : (h i d e : Bool) (s t : Option (List ℕ)) (a b : List (List ℕ)) → h ≡ i → d ≡ e → s ≡ t → a ≡ b → handed h d s a ≡ handed i e t b
same_fields h i d e s t a b hi de st ab = rw (hi, de, st, ab) refl

-- options say one thing
pub same_mail : (options : List MailWord) (one other : SubmitWords) → IsMail options one → IsMail options other → one ≡ other
same_mail options one other a b =
    same_fields one.from_headers other.from_headers one.dot other.dot one.sender other.sender one.addresses other.addresses
    (same_marks one.from_headers other.from_headers (sym a.headers ∙ b.headers))
    (same_dots one.dot other.dot (sym a.dot ∙ b.dot))
    (same_listed one.sender other.sender (sym a.sender ∙ b.sender))
    (sym a.addresses ∙ b.addresses)

most_marks : (xs : List (Unit {0})) (b : Bool) → xs ≡ marks b → length xs ≤ 1
most_marks xs true is = rw is (omega arith)
most_marks xs false is = rw is (omega arith)

most_listed : (xs : List (List ℕ)) (o : Option (List ℕ)) → xs ≡ option_to_list o → length xs ≤ 1
most_listed xs None is = rw is (omega arith)
most_listed xs (Some x) is = rw is (omega arith)

pub once_of_mail : (options : List MailWord) (last : SubmitWords) → IsMail options last → AreOnce options
once_of_mail options last is = record {
  headers = most_marks (flat_map headers_in options) last.from_headers is.headers;
  dot = most_marks (flat_map dots_in options) (not last.dot) is.dot;
  sender = most_listed (flat_map senders_in options) last.sender is.sender;
}

-- ---- where nothing is said

quiet_by : (headers dot : Bool) (sender : Option (List ℕ)) (addresses : List (List ℕ)) → is_mail (handed headers dot sender addresses) ≡ false → handed headers dot sender addresses ≡ no_mail
quiet_by true dot sender addresses e = absurd (cc e)
quiet_by false false sender addresses e = absurd (cc e)
quiet_by false true (Some text) addresses e = absurd (cc e)
quiet_by false true None (first ∷ others) e = absurd (cc e)
quiet_by false true None [] e = refl

pub quiet : (mail : SubmitWords) → is_mail mail ≡ false → mail ≡ no_mail
quiet mail e = quiet_by mail.from_headers mail.dot mail.sender mail.addresses e

-- options that say nothing are none
pub no_options : (options : List MailWord) → IsMail options no_mail → options ≡ []
no_options [] is = refl
no_options (Gathers ∷ options) is = let never = is.headers in absurd (cc never)
no_options (Ignores ∷ options) is = let never = is.dot in absurd (cc never)
no_options (IgnoresToo ∷ options) is = let never = is.dot in absurd (cc never)
no_options (Sends text sent ∷ options) is = let never = is.sender in absurd (cc never)
no_options (SendsApart text sent ∷ options) is = let never = is.sender in absurd (cc never)
no_options (Names address named ∷ options) is = let never = is.addresses in absurd (cc never)
