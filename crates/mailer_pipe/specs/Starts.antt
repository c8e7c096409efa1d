-- The start of a program mailer, and what is seen of it (Sendmail Installation and Operation Guide,
-- "M: Define Mailer").
use Rattle.std.specs.Prelude.{◌≡◌, ℕ, List, Result, Ok, Err, IfOk, IfSome, OnOk, count_by}
use Rattle.mail_base.specs.Histories.{Gains, HasCause}
use Rattle.mail_base.specs.declared.fault.Failed.{Failed}
use Rattle.mail_base.specs.declared.mailer.Mailer.{Mailer}
use Rattle.spawn_edge.specs.Children.{begins, start_events, start_of as start_with}
use Rattle.spawn_edge.specs.Spawned.{KeepsMissed, Spawned}
use Rattle.spawn_edge.specs.declared.event.Start.{Start}
use Rattle.mailer_pipe.specs.Arguments.{args_of, words_of}
use Rattle.mailer_pipe.specs.declared.fault.PipeFault.{PipeFault}
use Rattle.mailer_pipe.specs.declared.fault.PipeFault.TheVariants.{DeviceFault, NoMemory}

-- the start for users: the mailer's program, its arguments, and the text
abbrev pub start_of : Mailer → List (List ℕ × List ℕ) → List (List ℕ) → List ℕ → Start
start_of mailer macros users text =
    start_with mailer.path (args_of macros users (words_of mailer)) text

-- a spawner was asked for a start, and answered so
pub record Asked (start : Start) (old new : Spawned) (answer : Result ℕ Failed) : Type 0 where
  pub told : Gains old.told new.told
      (start_events start.program start.args start.input old.missed new.missed answer)
  pub missed : KeepsMissed old.missed new.missed answer
  pub once : IfOk answer (λ child. IfSome old.told (λ history. count_by (begins child) history ≡ 0))
  pub cause : HasCause old.faults new.faults answer
  pub calm : OnOk answer (new.faults ≡ old.faults)

-- how a start went: it was asked for once, or there was no memory for it and nothing was asked
abbrev pub Begins : Start → Spawned → Spawned → Result ℕ PipeFault → Type 0
Begins start old new (Ok child) = Asked start old new (Ok child)
Begins start old new (Err DeviceFault) = Asked start old new (Err (record {}))
Begins start old new (Err NoMemory) = new ≡ old
