-- What is printed for lines of input (Sendmail Installation and Operation Guide, "Address Testing
-- Mode").
use Rattle.std.specs.Prelude.{◌≡◌, ℕ, List, [], ◌∷◌, ◌++◌, MatchBool}
use Rattle.mail_base.specs.declared.config.Config.{Config}
use Rattle.map_tables.specs.Answers.{Loaded}
use Rattle.addr_test.specs.declared.answers.Reply.TheVariants.{Lines}
use Rattle.addr_test.specs.Answers.{Answers}
use Rattle.addr_test.specs.Forms.{is_quit}

-- the texts that lines are answered with, up to `/quit`, each under the configuration that those
-- before it leave, and the configuration behind the last
abbrev pub Printed : Loaded → Config → List (List ℕ) → List ℕ → Config → Type 0
Printed maps config [] text last = (text ≡ []) × (last ≡ config)
Printed maps config (line ∷ lines) text last =
    MatchBool (is_quit line) ((text ≡ []) × (last ≡ config))
    ((first : List ℕ) × (rest : List ℕ) × (after : Config)
    × Answers maps config line (Lines first) after × Printed maps after lines rest last
    × (text ≡ first ++ rest))
