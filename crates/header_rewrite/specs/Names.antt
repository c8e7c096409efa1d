-- Which headers are rewritten, by their names (RFC 5322, sections 3.6.2, 3.6.3 and 3.6.6; that
-- Errors-To and Resent-Reply-To are among them is our own).
use Rattle.std.specs.Prelude.{◌≡◌, ℕ, Bool, true, false, List, [], ◌∷◌, Option, Some, None, if◌then◌else◌, codes, refl}
use Rattle.std.specs.List.{list_any}
use Rattle.mail_base.specs.declared.mailer.Mailer.{Mailer}
use Rattle.mail_header.specs.Fields.{is_named}
use Rattle.ruleset_run.specs.Sets.{header_sender_sets, header_recipient_sets}

-- headers with senders
abbrev pub sender_names : List (List ℕ)
sender_names =
    codes "From" ∷ codes "Sender" ∷ codes "Reply-To" ∷ codes "Errors-To"
    ∷ codes "Resent-From" ∷ codes "Resent-Sender" ∷ codes "Resent-Reply-To" ∷ []

-- headers with recipients
abbrev pub recipient_names : List (List ℕ)
recipient_names =
    codes "To" ∷ codes "Cc" ∷ codes "Bcc"
    ∷ codes "Resent-To" ∷ codes "Resent-Cc" ∷ codes "Resent-Bcc" ∷ []

-- a header has one of these names, whatever its case
abbrev pub is_one_of : List (List ℕ) → List ℕ → Bool
is_one_of names header = list_any (λ name. is_named name header) names

-- the rulesets that the addresses of a header go through for a mailer, if it is rewritten
unfoldable pub sets_for : Mailer → List ℕ → Option (List (List ℕ))
sets_for mailer header =
    if is_one_of sender_names header then Some (header_sender_sets mailer)
    else if is_one_of recipient_names header then Some (header_recipient_sets mailer)
    else None

example : (is_one_of sender_names (codes "reply-to: a@b") ≡ true)
    × (is_one_of recipient_names (codes "To") ≡ true)
    × (is_one_of recipient_names (codes "Subject: to") ≡ false)
example = (refl, refl, refl)
