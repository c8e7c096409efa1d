-- What is known of those who hold entries, and what a step does with it.
use Rattle.std.proofs.Common.{◌≡◌, ℕ, List, [], ◌∷◌, ◌++◌, Option, Some, None, sym, ◌∙◌, ap, subst, append_assoc}
use Rattle.std.specs.Prelude.{All, IfSome}
use Rattle.std.proofs.lemmas.List.{append-nil}
use Rattle.std.proofs.lemmas.List.Elements.{All-weaker, Contains-append_left}
use Rattle.mail_base.specs.declared.control.Control.{Control}
use Rattle.mail_base.specs.declared.control.Row.{Row}
use Rattle.spawn_edge.specs.declared.event.Poll.TheVariants as polls
use Rattle.spool_store.specs.Entries.{Table}
use Rattle.queue_table.specs.Commands.{control_at, changed_by}
use Rattle.queue_table.specs.Soundness.{IsTried}
use Rattle.queue_run.specs.declared.batch.Batch.{Batch}
use Rattle.queue_run.specs.Deeds.{Asks, Claims, Deed, Files, Frees, Given, Polls, Starts as Launches, Talks as Delivers}
use Rattle.queue_run.specs.Holders.{Attempt, Holder}
use Rattle.queue_run.specs.Ready.{AreAllApart, AreApart, IsUntried}
use Rattle.mail_core.specs.Attempts.{IsBatchOf, IsChildFor, IsDelivery, IsEndRecorded, IsStart}
use Rattle.mail_core.specs.Effects.{Does, Effect, HangsUp, Sends, Takes, Ticks, table_after}
use Rattle.mail_core.specs.Sites.{Site}
use Rattle.mail_core.proofs.AscendLemmas.{AllAscend}
use Rattle.mail_core.specs.Keeping.{AreKeeping, IsHolding}

-- ---- effects that are good where they stand

abbrev pub IsGoodDeed : Site → Table → List Effect → Deed → List Effect → Type 0
IsGoodDeed site first done (Launches id places start launch) later = IsStart site first done id places start
IsGoodDeed site first done (Delivers id places talk) later = IsDelivery site first done id places talk later
IsGoodDeed site first done (Polls id child (polls.Over status)) later = IsEndRecorded site done id child status later
IsGoodDeed site first done (Asks command) later = IfSome (changed_by command) (IsHolding done)
IsGoodDeed site first done deed later = Unit {0}

abbrev pub IsGood : Site → Table → List Effect → Effect → List Effect → Type 0
IsGood site first done (Does deed) later = IsGoodDeed site first done deed later
IsGood site first done effect later = Unit {0}

-- from a table on, behind what was done
abbrev pub AreGood : Site → Table → List Effect → List Effect → Type 0
AreGood site first done [] = Unit {0}
AreGood site first done (effect ∷ effects) = IsGood site first done effect effects × AreGood site first (done ++ effect ∷ []) effects

module _ (site : Site) (first : Table) where
  deed_more : (done : List Effect) (deed : Deed) (xs ys : List Effect) → IsGoodDeed site first done deed xs → IsGoodDeed site first done deed (xs ++ ys)
  deed_more done (Launches id places start launch) xs ys h = h
  deed_more done (Delivers id places talk) xs ys h = record {
    batch = h.batch;
    mailer = h.mailer;
    letter = h.letter;
    tries = h.tries;
    handed = h.handed;
    moment = h.moment;
    rest = h.rest ++ ys;
    recorded = ap (λ q. q ++ ys) h.recorded;
  }
  deed_more done (Polls id child (polls.Over status)) xs ys h = record {
    places = h.places;
    started = h.started;
    moment = h.moment;
    rest = h.rest ++ ys;
    recorded = ap (λ q. q ++ ys) h.recorded;
  }
  deed_more done (Polls id child polls.Runs) xs ys h = tt
  deed_more done (Polls id child polls.Lost) xs ys h = tt
  deed_more done (Claims id rows) xs ys h = tt
  deed_more done (Frees id) xs ys h = tt
  deed_more done (Files id) xs ys h = tt
  deed_more done (Asks command) xs ys h = h

  good_more : (done : List Effect) (effect : Effect) (xs ys : List Effect) → IsGood site first done effect xs → IsGood site first done effect (xs ++ ys)
  good_more done (Takes event) xs ys h = tt
  good_more done (Ticks reading) xs ys h = tt
  good_more done (Sends session text whole) xs ys h = tt
  good_more done (HangsUp session) xs ys h = tt
  good_more done (Does deed) xs ys h = deed_more done deed xs ys h

  pub good_join : (done xs ys : List Effect) → AreGood site first done xs → AreGood site first (done ++ xs) ys → AreGood site first done (xs ++ ys)
  good_join done [] ys h k = subst (λ q. AreGood site first q ys) (append-nil done) k
  good_join done (x ∷ xs) ys h k = (good_more done x xs ys h.0, good_join (done ++ x ∷ []) xs ys h.1 (subst (λ q. AreGood site first q ys) (sym (append_assoc done (x ∷ []) xs)) k))

  -- what is good in a list is good where it stands
  pub good_at : (done xs : List Effect) (effect : Effect) (ys : List Effect) → AreGood site first done (xs ++ effect ∷ ys) → IsGood site first (done ++ xs) effect ys
  good_at done [] effect ys h = subst (λ q. IsGood site first q effect ys) (sym (append-nil done)) h.0
  good_at done (x ∷ xs) effect ys h = subst (λ q. IsGood site first q effect ys) (append_assoc done (x ∷ []) xs) (good_at (done ++ x ∷ []) xs effect ys h.1)

-- ---- holders

-- the rows of a child are still tried, and none of them waits for another attempt
pub record IsTrying (rows : List Row) (rest : List Batch) (r : Attempt) : Type 0 where
  pub tried : All (IsTried rows) r.places
  pub apart : All (AreApart r.places) rest

-- its entry is there, its batches were claimed and are still to be tried, and its child was started
pub record IsHeldBy (site : Site) (first : Table) (done : List Effect) (h : Holder) : Type 0 where
  pub control : Control
  pub there : control_at h.id (table_after first done).entries ≡ Some control
  pub untried : All (IsUntried control.rows) h.rest
  pub apart : AreAllApart h.rest
  pub ascend : AllAscend h.rest
  pub holding : IsHolding done h.id
  pub running : IfSome h.running (IsTrying control.rows h.rest)
  pub batches : All (IsBatchOf site first done h.id) h.rest
  pub started : IfSome h.running (λ (r : Attempt). IsChildFor done h.id r.child r.places)

module _ (site : Site) (first : Table) where
  batch_more : (done more : List Effect) (id : ℕ) (batch : Batch) → IsBatchOf site first done id batch → IsBatchOf site first (done ++ more) id batch
  batch_more done more id batch b = record {
    before = b.before;
    rows = b.rows;
    since = b.since ++ more;
    whole = ap (λ q. q ++ more) b.whole ∙ append_assoc b.before (Does (Claims id b.rows) ∷ b.since) more;
    control = b.control;
    there = b.there;
    routed = b.routed;
    among = b.among;
  }

  pub batches_more : (done more : List Effect) (id : ℕ) (batches : List Batch) → All (IsBatchOf site first done id) batches → All (IsBatchOf site first (done ++ more) id) batches
  batches_more done more id batches all = All-weaker (IsBatchOf site first done id) (IsBatchOf site first (done ++ more) id) (λ batch b. batch_more done more id batch b) batches all

  child_more : (done more : List Effect) (id child : ℕ) (places : List ℕ) → IsChildFor done id child places → IsChildFor (done ++ more) id child places
  child_more done more id child places c = record { start = c.start; missed = c.missed; among = Contains-append_left done more (Does (Launches id places c.start (Given child c.missed))) c.among }

  started_more : (done more : List Effect) (id : ℕ) (o : Option Attempt) → IfSome o (λ (r : Attempt). IsChildFor done id r.child r.places) → IfSome o (λ (r : Attempt). IsChildFor (done ++ more) id r.child r.places)
  started_more done more id None h = tt
  started_more done more id (Some r) h = child_more done more id r.child r.places h

  keeping_more : (id : ℕ) (xs ys : List Effect) → AreKeeping id xs → AreKeeping id ys → AreKeeping id (xs ++ ys)
  keeping_more id [] ys h k = k
  keeping_more id (x ∷ xs) ys h k = (h.0, keeping_more id xs ys h.1 k)

  pub holding_more : (done more : List Effect) (id : ℕ) → AreKeeping id more → IsHolding done id → IsHolding (done ++ more) id
  holding_more done more id keeps h = record {
    before = h.before;
    rows = h.rows;
    since = h.since ++ more;
    whole = ap (λ q. q ++ more) h.whole ∙ append_assoc h.before (Does (Claims id h.rows) ∷ h.since) more;
    keeps = keeping_more id h.since more h.keeps keeps;
  }

  -- its entry is found as before, and kept
  pub held_more : (done more : List Effect) (h : Holder) (held : IsHeldBy site first done h) → AreKeeping h.id more → control_at h.id (table_after first (done ++ more)).entries ≡ Some held.control → IsHeldBy site first (done ++ more) h
  held_more done more h held keeps there = record {
    control = held.control;
    there = there;
    untried = held.untried;
    apart = held.apart;
    ascend = held.ascend;
    holding = holding_more done more h.id keeps held.holding;
    running = held.running;
    batches = batches_more done more h.id h.rest held.batches;
    started = started_more done more h.id h.running held.started;
  }

  -- a holder that tries nothing now
  pub idle_held : (done : List Effect) (h : Holder) (control : Control) → h.running ≡ None → control_at h.id (table_after first done).entries ≡ Some control → All (IsUntried control.rows) h.rest → AreAllApart h.rest → AllAscend h.rest → IsHolding done h.id
      → All (IsBatchOf site first done h.id) h.rest → IsHeldBy site first done h
  idle_held done h control idle there untried apart ascend holding batches = record {
    control = control;
    there = there;
    untried = untried;
    apart = apart;
    ascend = ascend;
    holding = holding;
    running = subst (λ q. IfSome q (IsTrying control.rows h.rest)) (sym idle) tt;
    batches = batches;
    started = subst (λ q. IfSome q (λ (r : Attempt). IsChildFor done h.id r.child r.places)) (sym idle) tt;
  }
