-- Rows have their groups, and are parted by them.
use Rattle.std.proofs.Common.{◌≡◌, ℕ, ◌+◌, ◌<◌, ◌≤◌, List, [], ◌∷◌, ◌++◌, length, take, get_or, Result, Ok, Err, sym, subst, arith}
use Rattle.std.specs.Prelude.{All, IfOk}
use Rattle.std.proofs.lemmas.List.{take_more}
use Rattle.std.proofs.lemmas.List.Elements.{All-append, All-cons, All-nil}
use Rattle.std.proofs.lemmas.Slice.Zip.{AllZip-long, all_zipped_more}
use Rattle.mail_base.specs.Drawing.{AreRows}
use Rattle.mail_base.specs.Texts.{IsLine}
use Rattle.mail_base.specs.declared.config.Config.{Config}
use Rattle.mail_base.specs.declared.draw.Draw.{Draw}
use Rattle.mail_base.specs.declared.message.Cut.{Cut}
use Rattle.map_tables.specs.Answers.{Loaded}
use Rattle.ruleset_run.specs.Sites.{Macros}
use Rattle.queue_plan.specs.Cuts.{AreForms, AreGrouped, AreParts}
use Rattle.queue_plan.specs.Groups.{Groups, mailer_of}
use Rattle.queue_plan.specs.Parts.{IsPart, parts_of}

abbrev HasGroup : Config → Loaded → Macros → Draw → List ℕ → Type 0
HasGroup config maps macros row group = Groups config maps macros row.address (mailer_of row.resolved) group

-- one row more has its group
pub grouped_more : (config : Config) (maps : Loaded) (macros : Macros) (rows : List Draw) (i : ℕ) (row : Draw) (groups : List (List ℕ)) (group : List ℕ) → i < length rows → row ≡ get_or rows i row → AreGrouped config maps macros (take i rows) groups → HasGroup config maps macros row group → AreGrouped config maps macros (take (i + 1) rows) (groups ++ group ∷ [])
grouped_more config maps macros rows i row groups group below is so next =
    subst (λ (q : List Draw). AreGrouped config maps macros q (groups ++ group ∷ [])) (sym (take_more rows i row below))
    (all_zipped_more (HasGroup config maps macros) (take i rows) groups (get_or rows i row) group so (subst (λ (q : Draw). HasGroup config maps macros q group) is next))

pub lines_more : (groups : List (List ℕ)) (group : List ℕ) → All IsLine groups → IsLine group → All IsLine (groups ++ group ∷ [])
lines_more groups group all line = All-append IsLine groups (group ∷ []) all (All-cons IsLine group [] line (All-nil IsLine))

-- there is a group for each row
pub groups_long : (config : Config) (maps : Loaded) (macros : Macros) (rows : List Draw) (groups : List (List ℕ)) → AreGrouped config maps macros rows groups → length groups ≡ length rows
groups_long config maps macros rows groups so = AllZip-long (HasGroup config maps macros) rows groups so

-- they are the parts of rows
pub parted_by : {E : Type 0} (config : Config) (maps : Loaded) (macros : Macros) (rows : List Draw) (groups : List (List ℕ)) (result : Result (List Cut) E) → AreGrouped config maps macros rows groups → IfOk result (λ cuts. cuts ≡ parts_of config rows groups) → IfOk result (AreParts config maps macros rows)
parted_by config maps macros rows groups (Ok cuts) so h = record { groups = groups; grouped = so; are = h }
parted_by config maps macros rows groups (Err fault) so h = tt

-- and may become entries
pub forms_by : {E : Type 0} (rows : List Draw) (result : Result (List Cut) E) → AreRows rows → IfOk result (λ cuts. 0 < length cuts) → IfOk result (λ cuts. length cuts ≤ length rows) → IfOk result (All IsPart) → IfOk result AreForms
forms_by rows (Ok cuts) are some few each = record { some = some; few = omega (arith, few, are.few); each = each }
forms_by rows (Err fault) are some few each = tt
