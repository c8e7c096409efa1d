-- Histories, computed: of a queue of one entry.
use Rattle.std.proofs.Common.{◌≡◌, ◌<◌, inl, [], ◌∷◌, true, false, Some, None, refl, arith}
use Rattle.std.proofs.lemmas.List.Elements.{All-cons, All-nil}
use Rattle.mail_base.specs.Configs.{initial}
use Rattle.mail_base.specs.declared.control.Control.{Control}
use Rattle.mail_base.specs.declared.control.State.{State as RowState}
use Rattle.mail_base.specs.declared.control.State.TheVariants.{Queued, Sent}
use Rattle.mail_base.specs.declared.route.RouteError.{RouteError}
use Rattle.link_edge.specs.declared.event.Event.TheVariants.{Rests}
use Rattle.spool_store.specs.Entries.{Stored}
use Rattle.queue_table.specs.Directories.{terms_of}
use Rattle.queue_table.specs.Commands.Command.{Record}
use Rattle.queue_run.specs.Deeds.{Claims, Files, Frees}
use Rattle.queue_run.specs.Results.{refused_by}
use Rattle.queue_run.specs.Steps.{Closes, Records}
use Rattle.mail_core.specs.Beginning.{run_over, served}
use Rattle.mail_core.specs.Effects.{Does, Takes, Ticks}
use Rattle.mail_core.specs.Histories.{Chain, IsFree, IsPast, Past, all_of, left_by}
use Rattle.mail_core.specs.Idling.{Claiming}
use Rattle.mail_made.specs.Moments.{last_moment}
use Rattle.mail_core.specs.Plans.{OfRun, Once, Serve}
use Rattle.mail_core.proofs.IdlingExamples.{entry, listed, refused, rests, site, table}

-- a run that a stop ended as it recorded what came of a row: the row is tried still, in the table
-- that was left
abbrev pub stopped : Control → RouteError → Past
stopped control error = record {
  site = site (Serve None);
  start = served (table control (Queued None));
  turns = rests 100 (Claiming 7 (refused error) (Records true)) ∷ [];
  done = Takes Rests ∷ Ticks 100 ∷ Does (Claims 7 (refused error)) ∷ [];
  last = Some (Record (terms_of initial) 7 (0 ∷ []) (refused_by error ∷ []) 100);
}

stop_leaves : (control : Control) (error : RouteError)
    → ((run_over (site (Serve None)) (served (table control (Queued None))) (rests 100 (Claiming 7 (refused error) (Records true)) ∷ [])).effects ≡ all_of (stopped control error))
    × (left_by (stopped control error) ≡ table control (Queued None))
unfolding last_moment
stop_leaves control error = (refl, refl)

-- a run over a queue of one entry, which is finished, and one more, in which nothing comes
abbrev pub finished : Control → Past
finished control = record {
  site = site (Once None);
  start = listed control;
  turns = record { event = Rests; origin = OfRun 100; choices = Claiming 7 [] (Closes false) } ∷ [];
  done = Ticks 90 ∷ Ticks 100 ∷ Does (Claims 7 []) ∷ Does (Files 7) ∷ Does (Frees 7) ∷ [];
  last = None;
}

abbrev pub idle : Control → Past
idle control = record { site = site (Serve None); start = served (table control Sent); turns = []; done = []; last = None }

free : (control : Control) (state : RowState) → IsFree (table control state)
free control state = All-cons (λ (s : Stored). s.id < 8) (entry control state 7) [] (omega arith) (All-nil (λ (s : Stored). s.id < 8))

finished_past : (control : Control) → IsPast (finished control)
unfolding last_moment
finished_past control = inl (record {
  whole = refl;
  meant = (
    record {
      stored = entry control Sent 7;
      is = refl;
      first = record { front = []; later = []; list = refl; passed = All-nil _ };
      routed = tt;
      step = tt;
    },
    tt,
  );
  free = free control Sent;
})

-- each begins with what the one before left
pub follows : (control : Control) → Chain (entry control Sent 7 ∷ []) (finished control ∷ idle control ∷ []) (table control Sent)
follows control = (refl, (finished_past control, (refl, (inl (record { whole = refl; meant = tt; free = free control Sent }), (refl, free control Sent)))))

pub stops : (control : Control) (error : RouteError) → left_by (stopped control error) ≡ table control (Queued None)
stops control error = (stop_leaves control error).1
