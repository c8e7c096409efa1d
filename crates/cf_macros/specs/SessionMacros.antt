-- The macros of a session (Sendmail Installation and Operation Guide, D: define macro, for r, s, f
-- and {client_addr}).
use Rattle.std.specs.Prelude.{◌≡◌, ℕ, List, [], ◌∷◌, codes, refl}
use Rattle.mail_base.specs.Catalogs.{with_value}
use Rattle.mail_base.specs.Literals.{literal}
use Rattle.mail_base.specs.Texts.{without_angles}
use Rattle.mail_base.specs.declared.config.Config.{Config}
use Rattle.mail_base.specs.declared.message.Kept.{Kept}

-- macros, with what is kept of a session and with f, its sender without the angles; what a peer
-- said, which are s and f, stands for itself
abbrev pub macros_with : List (List ℕ × List ℕ) → Kept → List ℕ → List (List ℕ × List ℕ)
macros_with macros kept sender =
    with_value (codes "f") (literal (without_angles sender))
    (with_value (codes "client_addr") kept.client
    (with_value (codes "s") (literal kept.helo)
    (with_value (codes "r") kept.protocol macros)))

-- the macros that are set in a session whose sender is this path
abbrev pub session_macros : Config → Kept → List ℕ → List (List ℕ × List ℕ)
session_macros config kept sender = macros_with config.macros kept sender

abbrev session : Kept
session = record {
  protocol = codes "ESMTP";
  helo = codes "c$j";
  client = codes "192.0.2.1";
}

example : macros_with ((codes "s", codes "old") ∷ []) session (codes "<bob@c>")
    ≡ (codes "s", codes "c$$j") ∷ (codes "r", codes "ESMTP")
    ∷ (codes "client_addr", codes "192.0.2.1") ∷ (codes "f", codes "bob@c") ∷ []
example = refl
