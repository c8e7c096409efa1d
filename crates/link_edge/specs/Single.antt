-- The one session of a floor over a source and a sink (own).
use Rattle.std.specs.Prelude.{◌≡◌, ◌⊎◌, ℕ, ◌-◌, ◌^◌, List, [], take, None, nat_eq, IfSome, if◌then◌else◌}
use Rattle.mail_base.specs.Histories.{Rose}
use Rattle.mail_edge.specs.Moves.{Loses}
use Rattle.mail_edge.specs.Seen.{SourceSeen, SinkSeen}
use Rattle.link_edge.specs.Begins.{Beginnings}
use Rattle.link_edge.specs.Heard.{Heard}
use Rattle.link_edge.specs.declared.one_floor.Stage.{Stage}
use Rattle.link_edge.specs.declared.one_floor.Stage.TheVariants.{Before, During, After}
use Rattle.link_edge.specs.declared.turn.Turn.{Turn}
use Rattle.link_edge.specs.declared.turn.Turn.TheVariants.{Opened, Piece, Closed, Idle, Stop}

-- what is seen of the floor, by how it was begun and what is seen of its sink: it tells nothing
-- else, the session's count is the sink's, and that of any other number stands at the greatest
abbrev pub one_heard : Beginnings → SinkSeen → Heard
one_heard begun sink = record {
  told = None;
  begun = begun;
  faults = 0;
  session_faults = λ session. if nat_eq session 1 then sink.faults else 2 ^ 64 - 1;
}

-- the source gave these bytes, with no fault, and the session goes on
pub record GoesOn (now : Stage) (session : ℕ) (bytes : List ℕ) (old new : SourceSeen) : Type 0 where
  pub number : session ≡ 1
  pub stage : now ≡ During
  pub taken : Loses old.left new.left bytes
  pub calm : new.faults ≡ old.faults

-- the source had nothing left, and no fault
pub record IsAtEnd (old new : SourceSeen) : Type 0 where
  pub none : IfSome old.left (λ bytes. bytes ≡ [])
  pub taken : Loses old.left new.left []
  pub calm : new.faults ≡ old.faults

-- the source failed
pub record HasFailed (old new : SourceSeen) : Type 0 where
  pub kept : new.left ≡ old.left
  pub rose : Rose old.faults new.faults

-- the source ended or failed, and so the session ends
pub record IsEnded (now : Stage) (session : ℕ) (old new : SourceSeen) : Type 0 where
  pub number : session ≡ 1
  pub stage : now ≡ After
  pub cause : IsAtEnd old new ⊎ HasFailed old new

-- what a turn says of the source: first the opening, then what the source gives, then its end, and
-- then nothing more
abbrev pub Hears : Stage → Stage → Turn → SourceSeen → SourceSeen → List ℕ → Type 0
Hears Before now turn old new buf = (turn ≡ Opened 1 0) × (now ≡ During) × (new ≡ old)
Hears During now (Opened session count) old new buf = ⊥
Hears During now (Piece session count) old new buf = GoesOn now session (take count buf) old new
Hears During now (Closed session) old new buf = IsEnded now session old new
Hears During now Idle old new buf = ⊥
Hears During now Stop old new buf = ⊥
Hears After now turn old new buf = (turn ≡ Stop) × (now ≡ After) × (new ≡ old)
