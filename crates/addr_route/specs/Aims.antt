-- What a list that begins with `$#` says: a mailer, a host and a user (Sendmail Installation and
-- Operation Guide, R and S: rewriting rules; M: define mailer, its flags).
use Rattle.std.specs.Prelude.{◌≡◌, ℕ, ◌==◌, ◌||◌, ◌&&◌, not, Bool, true, false, List, [], ◌∷◌, Option, None, Some, filter, drop, codes, refl, if◌then◌else◌}
use Rattle.std.specs.List.{list_any}
use Rattle.std.specs.Str.{str_to_ascii_lowercase}
use Rattle.mail_base.specs.Catalogs.{value_like, with_value}
use Rattle.mail_base.specs.Literals.{literal}
use Rattle.mail_base.specs.declared.mailer.Mailer.{Mailer}
use Rattle.mail_base.specs.declared.route.RouteError.{RouteError}
use Rattle.mail_base.specs.declared.route.Triple.{Triple}
use Rattle.mail_base.specs.declared.token.Mark.TheVariants as mark
use Rattle.mail_base.specs.declared.token.Token.{Token}
use Rattle.mail_base.specs.declared.token.Token.TheVariants.{Word, Op, Sign}
use Rattle.addr_tokens.specs.Joins.{joined}
use Rattle.ruleset_run.specs.Sites.{Macros}
use Rattle.addr_route.specs.declared.aim.Aim.{Aim}
use Rattle.addr_route.specs.Errors.{is_like, error_by, message_of}

-- ---- the three parts

-- a `$:`; where hosts says so a `$@` too
abbrev pub is_end : Bool → Token → Bool
is_end hosts (Sign mark.User) = true
is_end hosts (Sign mark.Host) = hosts
is_end hosts token = false

-- the tokens before the first of these signs
abbrev pub before_end : Bool → List Token → List Token
before_end hosts [] = []
before_end hosts (token ∷ tokens) =
    if is_end hosts token then [] else token ∷ before_end hosts tokens

-- those from it on
abbrev pub from_end : Bool → List Token → List Token
from_end hosts [] = []
from_end hosts (token ∷ tokens) =
    if is_end hosts token then token ∷ tokens else from_end hosts tokens

-- what a `$@` at the front has up to the `$:`
abbrev pub host_tokens : List Token → List Token
host_tokens (Sign mark.Host ∷ tokens) = before_end false tokens
host_tokens tokens = []

-- the mailer stands up to the first `$@` or `$:`, the host from there to the first `$:`, if a `$@`
-- begins it, and the user behind the first `$:`
abbrev pub aim_at : List Token → Aim
aim_at tokens = record {
  mailer = joined None (before_end true tokens);
  host = joined None (host_tokens (from_end true tokens));
  user = drop 1 (from_end false tokens);
}

abbrev pub aim_of : List Token → Aim
aim_of tokens = aim_at (drop 1 tokens)

abbrev word : List ℕ → Token
word text = Word text

example :
    (aim_of (Sign mark.Mailer ∷ word (codes "smtp") ∷ Sign mark.Host ∷ word (codes "far") ∷ Op 46
    ∷ word (codes "example") ∷ Sign mark.User ∷ word (codes "ann") ∷ [])
    ≡ record {
      mailer = codes "smtp";
      host = codes "far.example";
      user = word (codes "ann") ∷ [];
    })
    × (aim_of (Sign mark.Mailer ∷ word (codes "local") ∷ Sign mark.User ∷ word (codes "ann")
    ∷ Sign mark.Host ∷ [])
    ≡ record {
      mailer = codes "local";
      host = [];
      user = word (codes "ann") ∷ Sign mark.Host ∷ [];
    })
    × (aim_of (Sign mark.Mailer ∷ word (codes "smtp") ∷ Sign mark.Host ∷ word (codes "far") ∷ [])
    ≡ record { mailer = codes "smtp"; host = codes "far"; user = [] })
example = (refl, refl, refl)

-- ---- mailers

-- the mailer `error` refuses an address
abbrev pub is_error : List ℕ → Bool
is_error name = is_like name (codes "error")

-- what it says
abbrev pub said_by : Aim → RouteError
said_by aim = error_by aim.host (message_of aim.user)

-- a mailer that writes files, which isn't supported
abbrev pub is_file : Mailer → Bool
is_file mailer = is_like mailer.path (codes "[FILE]")

abbrev pub has_flag : ℕ → Mailer → Bool
has_flag flag mailer = list_any (λ other. other == flag) mailer.flags

abbrev pub found_flag : ℕ → Option Mailer → Bool
found_flag flag None = false
found_flag flag (Some mailer) = has_flag flag mailer

-- set 5 is asked of a leaf, for a mailer with the flag 5 (53)
abbrev pub asks_five : List (List ℕ × Mailer) → Bool → Aim → Bool
asks_five mailers leaf aim = leaf && found_flag 53 (value_like aim.mailer mailers)

-- no tokens
abbrev pub is_nil : List Token → Bool
is_nil [] = true
is_nil (token ∷ tokens) = false

-- the macro h stands for this host
abbrev pub with_host : List ℕ → Macros → Macros
with_host host macros = with_value (codes "h") (literal host) macros

-- ---- the triple

-- in small letters, but where the case is kept
abbrev pub cased : Bool → List ℕ → List ℕ
cased keeps text = if keeps then text else str_to_ascii_lowercase text

-- neither a double quote (34) nor a backslash (92)
abbrev pub is_unquoting : ℕ → Bool
is_unquoting byte = not (byte == 34 || byte == 92)

abbrev pub stripped : Bool → List ℕ → List ℕ
stripped strips text = if strips then filter is_unquoting text else text

-- the mailer's name, the host and the user: the flag h (104) keeps the case of the host and u (117)
-- that of the user, and s (115) takes quotes and backslashes out of the user
abbrev pub triple_of : Mailer → List ℕ → List Token → Triple
triple_of mailer host user = record {
  mailer = mailer.name;
  host = cased (has_flag 104 mailer) host;
  user = stripped (has_flag 115 mailer) (cased (has_flag 117 mailer) (joined None user));
}
