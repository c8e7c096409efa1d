-- What is printed for lines is one text.
use Rattle.std.proofs.Common.{◌≡◌, ℕ, List, ◌++◌, refl, sym, ap, ◌∙◌}
use Rattle.addr_test.specs.Printing.{Printed}
use Rattle.mail_base.specs.declared.config.Config.{Config}
use Rattle.map_tables.specs.Answers.{Loaded}
use Rattle.sendmail_run.specs.Printing.{Basis, Prints, warnings_text}

-- the answers to lines are one text
abbrev pub AreOneText : Type 0
AreOneText = (maps : Loaded) (config : Config) (lines : List (List ℕ)) (one another : List ℕ) (last later : Config)
    → Printed maps config lines one last → Printed maps config lines another later → one ≡ another

-- lines have answers
abbrev pub HaveText : Type 0
HaveText = (maps : Loaded) (config : Config) (lines : List (List ℕ)) → (text : List ℕ) × (last : Config) × Printed maps config lines text last

-- for lines of input one text is printed
pub one_text : AreOneText → (basis : Basis) (lines : List (List ℕ)) (one another : List ℕ) → Prints basis lines one → Prints basis lines another → one ≡ another
one_text unique basis lines one another e f =
    e.3 ∙ ap (λ (text : List ℕ). warnings_text basis.config.warnings ++ text) (unique basis.maps basis.config lines e.0 f.0 e.1 f.1 e.2 f.2) ∙ sym f.3

-- for lines of input a text is printed
pub some_text : HaveText → (basis : Basis) (lines : List (List ℕ)) → (text : List ℕ) × Prints basis lines text
some_text some basis lines =
    let answers = some basis.maps basis.config lines in
    (warnings_text basis.config.warnings ++ answers.0, (answers.0, answers.1, answers.2, refl))
