-- What address test mode answers a line with, and what the line changes (Sendmail Installation and
-- Operation Guide, "Address Testing Mode").
use Rattle.std.specs.Prelude.{◌≡◌, ℕ, true, false, List, [], ◌∷◌, ◌++◌, Option, None, Some, Result, Ok, Err, MatchBool, codes}
use Rattle.std.specs.List.{find}
use Rattle.mail_base.specs.Catalogs.{value_at, value_like, with_value, members_of}
use Rattle.mail_base.specs.Rulesets.{is_named}
use Rattle.mail_base.specs.declared.config.Config.{Config}
use Rattle.mail_base.specs.declared.mailer.Mailer.{Mailer}
use Rattle.mail_base.specs.declared.route.Cause.TheVariants.{UnknownMailer}
use Rattle.mail_base.specs.declared.route.Resolved.{Resolved}
use Rattle.mail_base.specs.declared.token.Token.{Token}
use Rattle.addr_tokens.specs.declared.fault.ScanFault.{ScanFault}
use Rattle.addr_tokens.specs.declared.lexeme.Dollars.TheVariants.{Typed}
use Rattle.addr_tokens.specs.Pieces.{alphabet_of}
use Rattle.addr_tokens.specs.Reader.{tokens_or_fault}
use Rattle.cf_macros.specs.Expansion.{expanded}
use Rattle.map_tables.specs.Answers.{Loaded, map_answer, told}
use Rattle.ruleset_run.specs.declared.fault.RunFault.{RunFault}
use Rattle.ruleset_run.specs.Runs.{Done, Outcome, RunsSet}
use Rattle.ruleset_run.specs.Sites.{site_of}
use Rattle.ruleset_run.specs.declared.rewritten.Rewritten.{Rewritten}
use Rattle.addr_route.specs.Routes.{Routes}
use Rattle.addr_route.specs.Sets.{Rewrites, recipient_sets, sender_sets}
use Rattle.addr_test.specs.declared.answers.Reply.{Reply}
use Rattle.addr_test.specs.declared.answers.Reply.TheVariants as replies
use Rattle.addr_test.specs.Forms.{Form, Quiet, TooLong, Runs, Parse, Try, Lookup, Rules, Mailers, Value, Members, Defines, Adds, Unknown, form_of, is_quit, names_in}
use Rattle.addr_test.specs.Texts.{bad_address_text, error_text, line_of, lines_text, lookup_text, mailers_text, refused_text, returned_text, route_text, rules_text, try_text}
use Rattle.addr_test.specs.Words.{IsListing, class_words, texts_of, with_words}

-- ---- lists of sets

-- a run of the set of a name, with the macros of the configuration
abbrev pub RunsUnder : Loaded → Config → List ℕ → List Token → Outcome → Type 0
RunsUnder maps config name tokens outcome =
    RunsSet (site_of config maps) config.macros name tokens outcome

-- what the runs of these sets print, in turn, each on the tokens that the one before it returned;
-- the first that is refused is the last
pub data RunsSets (maps : Loaded) (config : Config) : List (List ℕ) → List Token
    → List ℕ → Type 0 where
  no_set : (tokens : List Token) → RunsSets maps config [] tokens []
  returned : (name : List ℕ) (names : List (List ℕ)) (tokens : List Token) (done : Done)
      (rest : List ℕ) → RunsUnder maps config name tokens (Ok done)
      → RunsSets maps config names done.tokens rest
      → RunsSets maps config (name ∷ names) tokens (returned_text name done.tokens ++ rest)
  refused : (name : List ℕ) (names : List (List ℕ)) (tokens : List Token) (fault : RunFault)
      → RunsUnder maps config name tokens (Err fault)
      → RunsSets maps config (name ∷ names) tokens (refused_text name fault)

-- the tokens of an address that is typed, or its first fault; angles are checked
abbrev pub typed : Config → List ℕ → Result (List Token) ScanFault
typed config address =
    tokens_or_fault (alphabet_of config.options.operator_chars Typed) true address

abbrev pub RunsTyped : Loaded → Config → List (List ℕ)
    → Result (List Token) ScanFault → List ℕ → Type 0
RunsTyped maps config names (Ok tokens) text = RunsSets maps config names tokens text
RunsTyped maps config names (Err fault) text = text ≡ bad_address_text fault

-- ---- routes

-- what is printed for the route of an address, as of one for which an alias may stand
abbrev pub TellsRoute : Loaded → Config → List ℕ → List ℕ → Type 0
TellsRoute maps config address text = (resolved : Resolved)
    × Routes config maps config.macros address false resolved × (text ≡ route_text resolved)

-- an address through these sets, with the macros of the configuration
abbrev pub RewritesUnder : Loaded → Config → List (List ℕ) → List ℕ → Rewritten → Type 0
RewritesUnder maps config sets address rewritten =
    Rewrites (site_of config maps) config.macros sets address rewritten

-- what is printed for an address as the sender and as the recipient of a mailer
abbrev pub TellsBoth : Loaded → Config → List ℕ → Mailer → List ℕ → Type 0
TellsBoth maps config address mailer text =
    (sender : Rewritten) × (recipient : Rewritten)
    × RewritesUnder maps config (sender_sets mailer) address sender
    × RewritesUnder maps config (recipient_sets mailer) address recipient
    × (text ≡ try_text sender recipient)

-- the same for the mailer of a name, which an M line has or not
abbrev pub TellsTry : Loaded → Config → List ℕ → List ℕ → Option Mailer → List ℕ → Type 0
TellsTry maps config name address None text = text ≡ error_text (UnknownMailer name)
TellsTry maps config name address (Some mailer) text = TellsBoth maps config address mailer text

-- ---- macros and classes

-- the value of a macro, expanded
abbrev pub value_text : List (List ℕ × List ℕ) → Option (List ℕ) → List ℕ
value_text macros None = line_of (codes "undefined")
value_text macros (Some written) = line_of (expanded written macros)

-- members in order; a class that isn't there has none
abbrev pub ListsMembers : Config → List ℕ → List ℕ → Type 0
ListsMembers config class text = (listed : List (List ℕ))
    × IsListing (texts_of (members_of (value_at class config.classes))) listed
    × (text ≡ lines_text listed)

abbrev pub added_text : Option (List (List ℕ)) → List ℕ
added_text None = line_of (codes "unknown line")
added_text (Some all) = []

abbrev pub added : List ℕ → Config → Option (List (List ℕ)) → Config
added class config None = config
added class config (Some all) =
    record config { classes = with_words config.options.operator_chars class all config.classes }

-- ---- any form

-- the text that is printed
abbrev pub Says : Loaded → Config → Form → List ℕ → Type 0
Says maps config Quiet text = text ≡ []
Says maps config TooLong text = text ≡ line_of (codes "line too long")
Says maps config (Runs sets address) text =
    RunsTyped maps config (names_in sets) (typed config address) text
Says maps config (Parse address) text = TellsRoute maps config address text
Says maps config (Try name address) text =
    TellsTry maps config name address (value_like name config.mailers) text
Says maps config (Lookup name key) text = text ≡ lookup_text (told (map_answer maps name key []))
Says maps config (Rules name) text = text ≡ rules_text name (find (is_named name) config.book)
Says maps config Mailers text = text ≡ mailers_text config.mailers
Says maps config (Value name) text = text ≡ value_text config.macros (value_at name config.macros)
Says maps config (Members class) text = ListsMembers config class text
Says maps config (Defines name written) text = text ≡ []
Says maps config (Adds class text) said = said ≡ added_text (class_words text config.macros)
Says maps config Unknown text = text ≡ line_of (codes "unknown line")

-- the configuration behind the line; only `.D` and `.C` change it
abbrev pub config_after : Config → Form → Config
config_after config (Defines name written) =
    record config { macros = with_value name written config.macros }
config_after config (Adds class text) = added class config (class_words text config.macros)
config_after config form = config

-- ---- any line

-- under maps and a configuration a line is answered with this reply, and leaves this configuration
abbrev pub Answers : Loaded → Config → List ℕ → Reply → Config → Type 0
Answers maps config line reply after =
    MatchBool (is_quit line) ((reply ≡ replies.Quit) × (after ≡ config))
    ((text : List ℕ) × Says maps config (form_of line) text × (reply ≡ replies.Lines text)
    × (after ≡ config_after config (form_of line)))
