-- What a run leaves that takes a message of a program, and how it ends.
use Rattle.std.proofs.Common.{◌≡◌, ◌≢◌, inl, inr, ⊎_elim, ℕ, List, [], ◌∷◌, Bool, true, false, Option, None, Result, Ok, Err, refl, sym, ◌∙◌, ap, subst}
use Rattle.mail_base.specs.Histories.{Rose}
use Rattle.mail_base.specs.declared.config.Config.{Config}
use Rattle.mail_base.specs.declared.message.Message.{Message}
use Rattle.mail_edge.specs.Asking.{Asks}
use Rattle.mail_edge.specs.Seen.{ClockSeen, FilesSeen, SinkSeen, SourceSeen}
use Rattle.link_edge.specs.Heard.{Heard}
use Rattle.map_tables.specs.Answers.{Loaded}
use Rattle.mail_judge.specs.Judged.{Grounds}
use Rattle.mail_submit.specs.declared.words.SubmitWords.{SubmitWords}
use Rattle.spool_disk.specs.Disk.{FileMap}
use Rattle.spool_disk.specs.Spooled.{Spooled}
use Rattle.spool_store.specs.Entries.{Table}
use Rattle.spool_store.specs.Moves.{Moves}
use Rattle.spool_store.specs.Parts.{IsEitherTable}
use Rattle.spool_store.specs.Settled.{IsSettled, StandsFor}
use Rattle.spool_store.specs.Keepers.{seen as queue_seen}
use Rattle.spool_store.specs.Stores.{Holds, IsAtRest, KeepsOthers, StoreSeen}
use Rattle.spool_store.specs.declared.queue.Queue.{Queue}
use Rattle.spool_store.proofs.MovesLemmas.{moves_join, moves_weaker}
use Rattle.queue_table.specs.Asked.{IsFront, Leaves}
use Rattle.queue_table.specs.Calls.{AreDirs, store}
use Rattle.queue_table.specs.Commands.{Command, after}
use Rattle.queue_table.specs.Directories.{all_dirs, terms_of}
use Rattle.queue_table.specs.declared.table.Table.{Table as Kept}
use Rattle.queue_table.specs.declared.terms.Terms.{Terms}
use Rattle.queue_table.proofs.DirLemmas.{each_is_there}
use Rattle.queue_run.specs.Deeds.{Asks as AsksDeed}
use Rattle.submit_run.specs.Ends.{HasCome, IsMessage, Seen as Handed, seen as handed_seen}
use Rattle.submit_run.specs.Ends as submit
use Rattle.submit_run.specs.Inputs.{TakesSome}
use Rattle.submit_run.specs.Taken.{Counts, IsBroken, IsReadAtMostOnce, IsSpent, IsStored, MayTake, is_committed}
use Rattle.submit_run.specs.declared.end.SubmitEnd.{SubmitEnd}
use Rattle.submit_run.specs.declared.end.SubmitEnd.TheVariants as ends
use Rattle.mail_core.specs.Effects.{Does, commanded}
use Rattle.mail_core.specs.Histories.{hands_nothing, hands_one}
use Rattle.mail_core.specs.Messages.{accept_of}
use Rattle.mail_core.specs.Plans.{Serve}
use Rattle.mail_core.specs.Seen.{Hands, IsSparing, beside}
use Rattle.mail_core.specs.Sites.{Site}
use Rattle.mail_core.proofs.SparingLemmas.{sparing_join}
use Rattle.sendmail_run.specs.declared.aliases.Names.{Names}
use Rattle.sendmail_run.specs.declared.outcome.Outcome.TheVariants as outcomes
use Rattle.sendmail_run.specs.declared.submit_mode.SubmitModeEnd.{SubmitModeEnd}
use Rattle.sendmail_run.specs.declared.submit_mode.SubmitModeEnd.TheVariants as mode_ends
use Rattle.sendmail_run.specs.Devices.{World, core_of, world}
use Rattle.sendmail_run.specs.Outcomes.{of_submission, of_submitting}
use Rattle.sendmail_run.specs.Rises.{RisesOnlyAt}
use Rattle.sendmail_run.specs.Serving.{IsTakenOver, grounds_of, site_of}
use Rattle.sendmail_run.specs.Submitting.{AsksFor, EndsSo, Submits, handed_of, is_well}
use Rattle.sendmail_run.specs.inner.Opened.{IsFound}
use Rattle.sendmail_run.specs.inner.Submitted.{has_lost_files}
use Rattle.sendmail_run.proofs.ServingLemmas.{over}

-- ---- files that stand for a table before a command or after it

none_front : (dirs : List (List ℕ)) (table : Table) (f : FileMap) → StandsFor dirs table f → IsFront commanded dirs table [] f
none_front dirs table f s = record { done = []; rest = []; whole = refl; stands = s }

one_front : (dirs : List (List ℕ)) (table : Table) (command : Command) (f : FileMap) → IsEitherTable dirs table (after table command) f → IsFront commanded dirs table (Does (AsksDeed command) ∷ []) f
one_front dirs table command f (inl s) = record { done = []; rest = Does (AsksDeed command) ∷ []; whole = refl; stands = s }
one_front dirs table command f (inr s) = record { done = Does (AsksDeed command) ∷ []; rest = []; whole = refl; stands = s }

one_lacks : (dirs : List (List ℕ)) (table : Table) (command : Command) (f : FileMap) → IsEitherTable dirs table (after table command) f → Leaves commanded dirs table (Does (AsksDeed command) ∷ []) false f
one_lacks dirs table command f h = inr (record { done = []; last = Does (AsksDeed command); command = command; whole = refl; asks = refl; stands = h })

-- an opening, and then calls that lead from the table to what they do
module _ (dirs : List (List ℕ)) (s0 s1 s2 : Spooled) (taken : IsTakenOver dirs s0 s1) (table : Table) where
  opened_either : (R : FileMap → Type 0) → ((f : FileMap) → StandsFor dirs table f → R f) → Moves s0 s1 (StandsFor dirs table) (StandsFor dirs table) R
  opened_either R to = moves_weaker s0 s1 (StandsFor dirs table) (StandsFor dirs table) (StandsFor dirs table) (StandsFor dirs table) R (λ f p. p) to (taken.stands table)

  then_moves : (Q R S T : FileMap → Type 0) → ((f : FileMap) → StandsFor dirs table f → R f) → ((f : FileMap) → Q f → S f) → ((f : FileMap) → R f → T f) → Moves s1 s2 (StandsFor dirs table) Q R → Moves s0 s2 (StandsFor dirs table) S T
  then_moves Q R S T first to any moves =
      moves_weaker s0 s2 (StandsFor dirs table) Q R S T to any (moves_join s0 s1 s2 (StandsFor dirs table) (StandsFor dirs table) Q R (opened_either R first) moves)

-- ---- a run over an opened queue

module _ (config : Config) (maps : Loaded) (names : Names) (words : SubmitWords) (f0 f1 : FilesSeen) (i0 i1 : SourceSeen) (o : SinkSeen) (l : Heard) (h : Hands) (s0 s1 s2 : Spooled) (c0 c1 : ClockSeen) where
  abbrev pub grounds : Grounds
  grounds = grounds_of config maps names

  abbrev pub site : Site
  site = site_of config maps (Serve None)

  abbrev pub first : World
  first = world f0 i0 o l s0 (beside c0 h)

  abbrev pub last : World
  last = world f1 i1 o l s2 (beside c1 h)

  abbrev pub a : Handed
  a = handed_seen f0 i0 s1 c0

  abbrev pub b : Handed
  b = handed_seen f1 i1 s2 c1

  come_so : (outcome : Result Message SubmitEnd) → HasCome grounds words a b outcome → HasCome grounds words (handed_of first) (handed_of last) outcome
  come_so outcome c = record { text = c.text; read = c.read; is = c.is }

  module _ (taken : IsTakenOver site.dirs s0 s1) (sparing : IsSparing site.dirs s0 s1 true) (spare : IsSparing site.dirs s1 s2 false) (calm : s1.faults ≡ s0.faults) (takes : TakesSome i0 i1) (clock : IsReadAtMostOnce c0 c1) (table : Table) where
    spared_so : IsSparing site.dirs s0 s2 false
    spared_so = sparing_join site.dirs s0 s1 s2 false sparing spare

    -- nothing was asked
    unasked : (end : SubmitEnd) → is_well end ≡ true → s2 ≡ s1 → AsksFor grounds site words table first last end [] → Submits grounds site words first last end table
    unasked end well same asks = record {
      effects = [];
      asked = asks;
      hands = hands_nothing;
      spool = subst (λ (w : Bool). Moves s0 s2 (StandsFor site.dirs table) (Leaves commanded site.dirs table [] w) (IsFront commanded site.dirs table [])) (sym well)
          (subst (λ (s : Spooled). Moves s0 s (StandsFor site.dirs table) (StandsFor site.dirs table) (IsFront commanded site.dirs table [])) (sym same)
          (opened_either site.dirs s0 s1 s2 taken table (IsFront commanded site.dirs table []) (none_front site.dirs table)));
      spared = spared_so;
      takes = takes;
      clock = clock;
    }

    done_so : (kept : Kept) → IsMessage grounds words a b (λ message. IsStored config maps table message c0 c1 site.dirs s1 s2 kept) → Submits grounds site words first last ends.Done table
    done_so kept d =
        let command = accept_of site d.is.moment d.message d.is.made in record {
          effects = Does (AsksDeed command) ∷ [];
          asked = record { message = d.message; come = come_so (Ok d.message) d.come; moment = d.is.moment; asked = d.is.asked; made = d.is.made; taken = d.is.taken; only = refl };
          hands = hands_one d.is.moment d.message d.is.made d.is.taken;
          spool = then_moves site.dirs s0 s1 s2 taken table (IsSettled site.dirs (after table command)) (IsEitherTable site.dirs table (after table command)) (Leaves commanded site.dirs table (Does (AsksDeed command) ∷ []) true) (IsFront commanded site.dirs table (Does (AsksDeed command) ∷ []))
              (λ f s. inl s) (λ f s. s.stands) (one_front site.dirs table command) d.is.moves;
          spared = spared_so;
          takes = takes;
          clock = clock;
        }

    broken_so : IsMessage grounds words a b (λ message. IsBroken config maps table message c0 c1 site.dirs s1 s2) → Submits grounds site words first last ends.SpoolFault table
    broken_so d =
        let command = accept_of site d.is.moment d.message d.is.made in record {
          effects = Does (AsksDeed command) ∷ [];
          asked = (record { message = d.message; come = come_so (Ok d.message) d.come; moment = d.is.moment; asked = d.is.asked; made = d.is.made; taken = d.is.taken; only = refl }, subst (λ n. Rose n s2.faults) calm d.is.rose);
          hands = hands_one d.is.moment d.message d.is.made d.is.taken;
          spool = then_moves site.dirs s0 s1 s2 taken table (IsEitherTable site.dirs table (after table command)) (IsEitherTable site.dirs table (after table command)) (Leaves commanded site.dirs table (Does (AsksDeed command) ∷ []) false) (IsFront commanded site.dirs table (Does (AsksDeed command) ∷ []))
              (λ f s. inl s) (one_lacks site.dirs table command) (one_front site.dirs table command) d.is.moves;
          spared = spared_so;
          takes = takes;
          clock = clock;
        }

    spent_so : (s2 ≡ s1) → IsMessage grounds words a b (λ message. IsSpent config maps table message c0 c1) → Submits grounds site words first last ends.IdsSpent table
    spent_so same d = unasked ends.IdsSpent refl same (refl, record { message = d.message; come = come_so (Ok d.message) d.come; moment = d.is.moment; asked = d.is.asked; lacks = d.is.lacks })

    pub submits_so : (end : SubmitEnd) (kept : Kept) → (is_committed end ≡ false → s2 ≡ s1) → submit.Ends grounds words site.dirs table a b kept end → Submits grounds site words first last end table
    submits_so ends.Done kept same e = done_so kept e
    submits_so (ends.MessageRefused code) kept same (inl large) = unasked (ends.MessageRefused code) refl (same refl) (refl, inl large)
    submits_so (ends.MessageRefused code) kept same (inr come) = unasked (ends.MessageRefused code) refl (same refl) (refl, inr (come_so (Err (ends.MessageRefused code)) come))
    submits_so ends.NoRecipient kept same e = unasked ends.NoRecipient refl (same refl) (refl, come_so (Err ends.NoRecipient) e)
    submits_so (ends.BadRecipient place error) kept same e = unasked (ends.BadRecipient place error) refl (same refl) (refl, come_so (Err (ends.BadRecipient place error)) e)
    submits_so ends.ReadFault kept same e = unasked ends.ReadFault refl (same refl) (refl, e)
    submits_so ends.SpoolFault kept same e = broken_so e
    submits_so ends.FilesFault kept same e = unasked ends.FilesFault refl (same refl) (refl, e)
    submits_so ends.IdsSpent kept same e = spent_so (same refl) e
    submits_so ends.NoMemory kept same e = unasked ends.NoMemory refl (same refl) refl

  -- over each table for which the files stand
  pub ends_over : (store : StoreSeen) (kept : Kept) (end : SubmitEnd) → IsFound site.dirs s0.told store → IsTakenOver site.dirs s0 s1 → IsSparing site.dirs s0 s1 true → IsSparing site.dirs s1 s2 false → s1.faults ≡ s0.faults → TakesSome i0 i1 → IsReadAtMostOnce c0 c1 → (is_committed end ≡ false → s2 ≡ s1)
      → ((table : Table) → Holds store table → submit.Ends grounds words site.dirs table a b kept end) → EndsSo grounds site words first last (mode_ends.Over end)
  ends_over store kept end found taken sparing spare calm takes clock same each =
      over site (core_of first) store (Submits grounds site words first last end) found (λ table holds. submits_so taken sparing spare calm takes clock table end kept same (each table holds))

-- ---- where the queue is opened

-- a table over what was opened
pub found_over : (dirs : List (List ℕ)) (told : Option FileMap) (queue : Queue) (kept : Kept) (terms : Terms) → kept ≡ record { queue = queue; terms = terms } → IsFound dirs told (queue_seen queue) → IsFound dirs told (store kept)
found_over dirs told queue kept terms is found = subst (λ (k : Kept). IsFound dirs told (store k)) (sym is) found

-- it may take a message in
pub may_over : (config : Config) (queue : Queue) (kept : Kept) (s : Spooled) → kept ≡ record { queue = queue; terms = terms_of config } → (queue_seen queue).dirs ≡ all_dirs (terms_of config) → (queue_seen queue).broken ≡ false → IsAtRest (queue_seen queue) s → MayTake config kept s
may_over config queue kept s is dirs whole rest = subst (λ (k : Kept). MayTake config k s) (sym is) (record {
  terms = refl;
  dirs = subst (λ (d : List (List ℕ)). AreDirs (terms_of config) d) (sym dirs) (each_is_there (terms_of config) (all_dirs (terms_of config)) refl);
  whole = whole;
  tallied = λ w. rest;
})

-- what it spares, by the directories of the table
pub spares_by : (dirs own : List (List ℕ)) (s t : Spooled) → own ≡ dirs → ((f : FileMap) → Moves s t (λ g. g ≡ f) (KeepsOthers own f) (KeepsOthers own f)) → IsSparing dirs s t false
spares_by dirs own s t same moves = subst (λ (d : List (List ℕ)). IsSparing d s t false) same moves

-- ---- where the queue isn't opened

pub ends_unopened : (config : Config) (maps : Loaded) (names : Names) (words : SubmitWords) (f : FilesSeen) (i : SourceSeen) (o : SinkSeen) (l : Heard) (h : Hands) (s t : Spooled) (c : ClockSeen) (end : SubmitModeEnd) → IsTakenOver (site_of config maps (Serve None)).dirs s t → ((over : SubmitEnd) → end ≢ mode_ends.Over over) → (end ≡ mode_ends.NotOpened → Rose s.faults t.faults)
    → EndsSo (grounds_of config maps names) (site_of config maps (Serve None)) words (world f i o l s (beside c h)) (world f i o l t (beside c h)) end
ends_unopened config maps names words f i o l h s t c mode_ends.NotOpened taken early rose = (record { input = refl; clock = refl; spool = taken }, rose refl)
ends_unopened config maps names words f i o l h s t c mode_ends.NoMemory taken early rose = record { input = refl; clock = refl; spool = taken }
ends_unopened config maps names words f i o l h s t c (mode_ends.Over end) taken early rose = absurd (early end refl)

pub quiet_unopened : (end : SubmitModeEnd) → ((over : SubmitEnd) → end ≢ mode_ends.Over over) → has_lost_files end ≡ false
quiet_unopened mode_ends.NotOpened early = refl
quiet_unopened mode_ends.NoMemory early = refl
quiet_unopened (mode_ends.Over end) early = absurd (early end refl)

-- ---- counts

pub rises_input : (end : SubmitEnd) (before after : ℕ) → Counts ends.ReadFault end before after → RisesOnlyAt outcomes.ReadFault (of_submitting (mode_ends.Over end)) before after
rises_input end before after c = ⊎_elim (λ (e : end ≡ ends.ReadFault). inl (ap of_submission e)) (λ (e : after ≡ before). inr e) c.rises

pub rises_spool : (end : SubmitEnd) (before mid after : ℕ) → mid ≡ before → Counts ends.SpoolFault end mid after → RisesOnlyAt outcomes.SpoolFault (of_submitting (mode_ends.Over end)) before after
rises_spool end before mid after calm c = ⊎_elim (λ (e : end ≡ ends.SpoolFault). inl (ap of_submission e)) (λ (e : after ≡ mid). inr (e ∙ calm)) c.rises

pub rises_files : (f0 f1 : FilesSeen) (how : SubmitModeEnd) → Asks f0 f1 (has_lost_files how) → RisesOnlyAt outcomes.FilesFault (of_submitting how) f0.faults f1.faults
rises_files f0 f1 mode_ends.NotOpened asks = inr (asks.calm refl)
rises_files f0 f1 mode_ends.NoMemory asks = inr (asks.calm refl)
rises_files f0 f1 (mode_ends.Over ends.FilesFault) asks = inl refl
rises_files f0 f1 (mode_ends.Over ends.Done) asks = inr (asks.calm refl)
rises_files f0 f1 (mode_ends.Over (ends.MessageRefused code)) asks = inr (asks.calm refl)
rises_files f0 f1 (mode_ends.Over ends.NoRecipient) asks = inr (asks.calm refl)
rises_files f0 f1 (mode_ends.Over (ends.BadRecipient place error)) asks = inr (asks.calm refl)
rises_files f0 f1 (mode_ends.Over ends.ReadFault) asks = inr (asks.calm refl)
rises_files f0 f1 (mode_ends.Over ends.SpoolFault) asks = inr (asks.calm refl)
rises_files f0 f1 (mode_ends.Over ends.IdsSpent) asks = inr (asks.calm refl)
rises_files f0 f1 (mode_ends.Over ends.NoMemory) asks = inr (asks.calm refl)
