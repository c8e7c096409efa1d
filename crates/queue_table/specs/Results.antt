-- What a command makes of the rows of an entry (Sendmail Installation and Operation Guide, the
-- options Timeout.queuereturn and Timeout.queuewarn; RFC 3463 for the status 4.4.7).
use Rattle.std.specs.Prelude.{◌≡◌, ℕ, zero, suc, ◌+◌, List, [], ◌∷◌, map, Bool, true, false, nat_le, Some, codes, refl}
use Rattle.mail_base.specs.declared.control.Control.{Control}
use Rattle.mail_base.specs.declared.control.Row.{Row}
use Rattle.mail_base.specs.declared.control.State.{State}
use Rattle.mail_base.specs.declared.control.State.TheVariants.{Queued, Sent, Failed, Returned, Dead}
use Rattle.mail_base.specs.declared.outcome.Result1.{Result1}
use Rattle.mail_base.specs.declared.outcome.Result1.TheVariants.{Sent as WasSent, Deferred as WasDeferred, Failed as HasFailed}
use Rattle.spool_store.specs.Keepers.{raised}
use Rattle.queue_table.specs.Priorities.{retried}
use Rattle.queue_table.specs.declared.terms.Terms.{Terms}

-- the status of a row that fails for age
abbrev pub aged : List ℕ
aged = codes "4.4.7"

-- what an attempt makes of a row: one that is deferred fails where its entry is too old
abbrev pub state_after : Bool → Result1 → State
state_after old WasSent = Sent
state_after false (WasDeferred note) = Queued (Some note)
state_after true (WasDeferred note) = Failed aged note
state_after old (HasFailed status note) = Failed status note

-- whether an entry of that creation is too old at a moment to be tried further
abbrev pub is_old : Terms → ℕ → ℕ → Bool
is_old terms created moment = nat_le (created + terms.queue_return) moment

-- the row at a place gets another state
abbrev pub restated : ℕ → State → List Row → List Row
restated place state [] = []
restated zero state (row ∷ rows) = record row { state = state } ∷ rows
restated (suc place) state (row ∷ rows) = row ∷ restated place state rows

-- each row at one of these places gets what its result makes of it
abbrev pub with_results : Bool → List ℕ → List Result1 → List Row → List Row
with_results old [] results rows = rows
with_results old (place ∷ places) [] rows = rows
with_results old (place ∷ places) (result ∷ results) rows =
    with_results old places results (restated place (state_after old result) rows)

-- an entry after an attempt at a moment
abbrev pub recorded : Terms → List ℕ → List Result1 → ℕ → Control → Control
recorded terms places results moment control =
    record control {
      revision = raised control.revision;
      last_try = moment;
      tries = raised control.tries;
      priority = retried terms.factors control.priority;
      rows = with_results (is_old terms control.created moment) places results control.rows;
    }

-- a failed row is returned by the entry of that id, or is dead in an entry that is a double bounce
abbrev pub given_back : Bool → ℕ → State → State
given_back double id (Queued note) = Queued note
given_back double id Sent = Sent
given_back false id (Failed status note) = Returned id
given_back true id (Failed status note) = Dead status note
given_back double id (Returned other) = Returned other
given_back double id (Dead status note) = Dead status note

-- an entry whose failed rows are given back by the entry of that id
abbrev pub with_returns : ℕ → Control → Control
with_returns id control =
    record control {
      revision = raised control.revision;
      rows =
          map (λ (row : Row). record row { state = given_back control.marks.double id row.state })
          control.rows;
    }

-- an entry of which a warning was sent
abbrev pub with_warning : Control → Control
with_warning control =
    record control {
      revision = raised control.revision;
      marks = record control.marks { warned = true };
    }

-- the second of three rows is deferred
example : (row : Row) (note : List ℕ)
    → with_results false (1 ∷ []) (WasDeferred note ∷ []) (row ∷ row ∷ row ∷ [])
    ≡ row ∷ record row { state = Queued (Some note) } ∷ row ∷ []
example row note = refl
