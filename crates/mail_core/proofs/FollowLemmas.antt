-- Runs one after another.
use Rattle.std.proofs.Common.{◌≡◌, List, [], ◌∷◌, ◌++◌, refl, sym, ◌∙◌, ap, append_assoc}
use Rattle.std.proofs.lemmas.List.{append-nil}
use Rattle.spool_store.specs.Entries.{Table}
use Rattle.queue_table.proofs.AskedLemmas.{table_join}
use Rattle.mail_core.specs.Effects.{Effect, commanded, table_after}
use Rattle.mail_core.specs.Machine.{Turn, run, turned}
use Rattle.mail_core.specs.Sites.{Site}
use Rattle.mail_core.specs.States.{State, Step, followed}

pub run_joins : (site : Site) (m : State) (some more : List Turn) → run site m (some ++ more) ≡ followed (run site m some) (run site (run site m some).state more)
run_joins site m [] more = refl
run_joins site m (turn ∷ turns) more =
    let now = turned site m turn in
    let later = run site now.state turns in
    let last = run site later.state more in
    ap (λ (q : Step). followed now q) (run_joins site now.state turns more)
    ∙ ap (λ q. record { state = last.state; effects = q }) (sym (append_assoc now.effects later.effects last.effects))

-- the table after effects and more effects
pub table_more : (table : Table) (xs ys : List Effect) → table_after table (xs ++ ys) ≡ table_after (table_after table xs) ys
table_more table xs ys = table_join commanded table xs ys

-- a run and one turn more
pub run_more : (site : Site) (m : State) (turns : List Turn) (turn : Turn) → run site m (turns ++ turn ∷ []) ≡ followed (run site m turns) (turned site (run site m turns).state turn)
run_more site m turns turn =
    let first = run site m turns in
    let last = turned site first.state turn in
    run_joins site m turns (turn ∷ []) ∙ ap (λ q. record { state = last.state; effects = first.effects ++ q }) (append-nil last.effects)
