-- One run in a list of sets, as code has it.
use Rattle.std.specs.Prelude.{◌≡◌, ℕ, List, [], ◌++◌, Option, None, Some, Ok, Err}
use Rattle.mail_base.specs.declared.config.Config.{Config}
use Rattle.mail_base.specs.declared.mailer.Mailer.{Mailer}
use Rattle.mail_base.specs.declared.token.Token.{Token}
use Rattle.map_tables.specs.Answers.{Loaded}
use Rattle.ruleset_run.specs.declared.fault.RunFault.{RunFault}
use Rattle.ruleset_run.specs.Runs.{Done}
use Rattle.addr_test.specs.Answers.{RunsUnder}
use Rattle.addr_test.specs.Texts.{mailer_text, refused_text, returned_text}

-- the run of a set returned these tokens, or was refused, and that was added to the text
abbrev pub Tells : Loaded → Config → List ℕ → List Token → Option (List Token)
    → List ℕ → List ℕ → Type 0
Tells maps config name tokens (Some given) old new =
    (done : Done) × RunsUnder maps config name tokens (Ok done) × (given ≡ done.tokens)
    × (new ≡ old ++ returned_text name done.tokens)
Tells maps config name tokens None old new =
    (fault : RunFault) × RunsUnder maps config name tokens (Err fault)
    × (new ≡ old ++ refused_text name fault)

-- the line of a mailer at a place, and none where no mailer stands
abbrev pub mailer_text_at : Option (List ℕ × Mailer) → List ℕ
mailer_text_at None = []
mailer_text_at (Some named) = mailer_text named
