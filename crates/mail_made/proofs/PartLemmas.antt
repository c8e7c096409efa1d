-- What is made of a message that is taken in.
use Rattle.std.proofs.Common.{◌≡◌, ℕ, ◌+◌, ◌<◌, ◌≤◌, List, [], ◌∷◌, length, Option, None, Result, Ok, Err, sym, ◌∙◌, ap, subst, arith}
use Rattle.std.specs.Prelude.{IfOk}
use Rattle.std.proofs.lemmas.Slice.Zip.{AllZip-long}
use Rattle.mail_base.specs.Drawing.{AreRows}
use Rattle.mail_base.specs.declared.config.Config.{Config}
use Rattle.mail_base.specs.declared.draw.Draw.{Draw}
use Rattle.mail_base.specs.declared.fault.StoreFault.{StoreFault}
use Rattle.mail_base.specs.declared.id.TheConstants.Id.{MOST}
use Rattle.mail_base.specs.declared.message.Cut.{Cut}
use Rattle.mail_base.specs.declared.message.Message.{Message}
use Rattle.mail_header.specs.Made.{received_of}
use Rattle.map_tables.specs.Answers.{Loaded}
use Rattle.ruleset_run.specs.Sites.{Macros}
use Rattle.queue_plan.specs.Groups.{Groups, mailer_of}
use Rattle.queue_plan.specs.Rows.{distinct}
use Rattle.queue_plan.proofs.CountLemmas.{parts_filled}
use Rattle.queue_plan.proofs.FitLemmas.{first_part}
use Rattle.queue_table.specs.Calls.{IsAccepting}
use Rattle.queue_table.specs.Soundness.{AreCuts}
use Rattle.queue_table.specs.declared.accepting.Accepting.{Accepting}
use Rattle.queue_table.specs.declared.table.Table.{Table as Kept}
use Rattle.queue_plan.specs.Cuts.{AreForms, AreParts}
use Rattle.mail_made.specs.Messages.{IsMessageMade, IsTakenIn, Made, dated_macros, headed, last_id, macros_seen, put_first}
use Rattle.mail_made.specs.Planned.{IsMade, LacksIds}
use Rattle.mail_made.specs.inner.Dated.{IsMacros}

-- where there is a row, one stays
some_distinct : (rows : List Draw) → 1 ≤ length rows → 0 < length (distinct rows)
some_distinct [] some = absurd (omega (arith, some))
some_distinct (row ∷ rows) some = omega arith

-- the parts of rows are one at least, each with a row
pub cuts_of_rows : (config : Config) (maps : Loaded) (macros : Macros) (rows : List Draw) (cuts : List Cut) → 1 ≤ length rows → AreParts config maps macros (distinct rows) cuts → AreCuts cuts
cuts_of_rows config maps macros rows cuts some p =
    let long = AllZip-long (λ (row : Draw) (group : List ℕ). Groups config maps macros row.address (mailer_of row.resolved) group) (distinct rows) p.groups p.grouped in
    subst AreCuts (sym p.are) (record { some = first_part config (distinct rows) p.groups long (some_distinct rows some); each = parts_filled config (distinct rows) p.groups })

-- what is made of a message that is taken in are parts
pub cuts_taken : (config : Config) (maps : Loaded) (moment : ℕ) (message : Message) (id : ℕ) (made : Made) → IsTakenIn config maps moment message id made → AreCuts made.cuts
cuts_taken config maps moment message id made t = cuts_of_rows config maps _ message.rows made.cuts t.some t.parts

-- ---- parts are made

-- this is what is made of a message
pub taken_of : (config : Config) (maps : Loaded) (moment : ℕ) (message : Message) (id : ℕ) (session macros : Macros) (first : Option (List ℕ)) (rows : List Draw) (cuts : List Cut) → AreRows message.rows → session ≡ macros_seen config message → IsMacros session moment message id macros → first ≡ received_of config.headers macros → rows ≡ distinct message.rows → AreParts config maps session rows cuts → IsTakenIn config maps moment message id (record { first = first; cuts = cuts })
taken_of config maps moment message id session macros first rows cuts form seen m is kept parts = record {
  some = form.some;
  dates = m.dates;
  are = m.are;
  first = is ∙ ap (λ (q : Macros). received_of config.headers q) m.is ∙ ap (λ (q : Macros). received_of config.headers (dated_macros q m.dates id)) seen;
  parts = subst (λ (q : Macros). AreParts config maps q (distinct message.rows) cuts) seen (subst (λ (q : List Draw). AreParts config maps session q cuts) kept parts);
}

-- the message is the one without its rows, with the header in front
pub headed_of : (first : Option (List ℕ)) (message rest all : Message) (none : List Draw) → rest ≡ record message { rows = none } → none ≡ [] → all ≡ record rest { headers = put_first first rest.headers } → all ≡ headed first message
headed_of first message rest all none is empty made =
    made
    ∙ ap (λ (m : Message). record m { headers = put_first first m.headers }) is
    ∙ ap (λ (q : List Draw). record message { rows = q; headers = put_first first message.headers }) empty

-- ---- a message is planned

pub made_by : (config : Config) (maps : Loaded) (moment id : ℕ) (kept : Kept) (message now : Message) (cuts items : List Cut) (result : Result Accepting StoreFault) → IsMessageMade config maps moment message id now cuts → items ≡ cuts → IfOk result (IsAccepting kept now items moment) → IfOk result (IsMade config maps moment id kept message)
made_by config maps moment id kept message now cuts items (Ok accepting) m same h = record {
  made = record { first = m.first; cuts = cuts };
  taken = m.taken;
  accepts = subst (λ (q : Message). IsAccepting kept q cuts moment accepting) m.is (subst (λ (q : List Cut). IsAccepting kept now q moment accepting) same h);
}
made_by config maps moment id kept message now cuts items (Err fault) m same h = tt

-- no id is left
pub lacks_all : (config : Config) (maps : Loaded) (moment id : ℕ) (message : Message) → MOST < id → LacksIds config maps moment id message
unfolding last_id
lacks_all config maps moment id message past = record {
  made = record { first = None; cuts = [] };
  taken = λ least. absurd (omega (arith, past, least));
  few = omega arith;
  wanting = omega (arith, past);
}

-- there are fewer than parts
pub lacks_some : (config : Config) (maps : Loaded) (moment id : ℕ) (message now : Message) (cuts items : List Cut) → IsMessageMade config maps moment message id now cuts → AreForms cuts → items ≡ cuts → MOST + 1 < id + length items → LacksIds config maps moment id message
unfolding last_id
lacks_some config maps moment id message now cuts items m form same past = record {
  made = record { first = m.first; cuts = cuts };
  taken = λ least. m.taken;
  few = form.few;
  wanting = let count = ap (λ (q : List Cut). length q) same in omega (arith, past, count);
}
