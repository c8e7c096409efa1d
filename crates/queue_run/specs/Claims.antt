-- What a claim makes of an entry (Sendmail Installation and Operation Guide, R and S: rewriting
-- rules; D: define macro, for r, s, f, i and {client_addr}).
use Rattle.std.specs.Prelude.{◌≡◌, ℕ, List, None, true, codes}
use Rattle.std.specs.List.{AllZip}
use Rattle.mail_base.specs.Catalogs.{with_value}
use Rattle.mail_base.specs.Names.{id_text}
use Rattle.mail_base.specs.declared.config.Config.{Config}
use Rattle.mail_base.specs.declared.control.Control.{Control}
use Rattle.map_tables.specs.Answers.{Loaded}
use Rattle.cf_macros.specs.SessionMacros.{session_macros}
use Rattle.ruleset_run.specs.Sites.{Macros}
use Rattle.addr_route.specs.Routes.{Routes}
use Rattle.queue_run.specs.declared.batch.Routed.{Routed}
use Rattle.queue_run.specs.Batches.{Waiting, batches_of, waiting_from}
use Rattle.queue_run.specs.Holders.{Holder}

-- what rulesets see of an entry: the macros of its session, and i
abbrev pub claim_macros : Config → ℕ → Control → Macros
claim_macros config id control =
    with_value (codes "i") (id_text id) (session_macros config control.kept control.sender)

-- a row goes where the rules lead its address, as one for which no alias stands
pub record IsRouted (config : Config) (maps : Loaded) (macros : Macros) (row : Waiting)
    (routed : Routed) : Type 0 where
  pub place : routed.place ≡ row.place
  pub goes : Routes config maps macros row.address true routed.resolved

-- each row of an entry that is still tried, in order
abbrev pub AreRouted : Config → Loaded → ℕ → Control → List Routed → Type 0
AreRouted config maps id control rows =
    AllZip (IsRouted config maps (claim_macros config id control))
    (waiting_from 0 control.rows) rows

-- who holds an entry whose rows go there
abbrev pub holder_for : Config → ℕ → List Routed → Holder
holder_for config id rows =
    record { id = id; rest = batches_of config rows; running = None }

-- a claim of an entry: the routes of its rows, and who holds it then
pub record IsClaimed (config : Config) (maps : Loaded) (id : ℕ) (control : Control) (h : Holder)
    : Type 0 where
  pub rows : List Routed
  pub routed : AreRouted config maps id control rows
  pub is : h ≡ holder_for config id rows
