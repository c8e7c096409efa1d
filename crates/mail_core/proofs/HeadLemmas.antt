-- The turns of a run are all that happened, and what was acknowledged is in the queue.
use Rattle.std.proofs.Common.{◌≡◌, ⊎_elim, ℕ, List, [], ◌++◌, Bool, true, false, Option, Some, None, refl, sym, ◌∙◌, subst}
use Rattle.std.proofs.Math.Nat.{le_refl}
use Rattle.smtp_receive.specs.Replies.{stored_text}
use Rattle.spool_disk.specs.Disk.{FileMap}
use Rattle.spool_disk.specs.Spooled.{Spooled}
use Rattle.spool_store.specs.Entries.{Stored, Table}
use Rattle.spool_store.specs.Settled.{StandsFor}
use Rattle.spool_store.specs.Stores.{KeepsOthers}
use Rattle.spool_store.proofs.MovesLemmas.{told_after}
use Rattle.queue_table.specs.Asked.{AreStoppable, Leaves}
use Rattle.queue_table.specs.Soundness.{IsSound}
use Rattle.mail_core.specs.Acks.{AreAcked, StaysSound}
use Rattle.mail_core.specs.Beginning.{IsStartMeant, Start, beginning, run_over, ticks}
use Rattle.mail_core.specs.Effects.{Effect, commanded}
use Rattle.mail_core.specs.Judges.{JudgeSeen}
use Rattle.mail_core.specs.Machine.{Turn, run}
use Rattle.mail_core.specs.Meant.{AreRead, IsRunMeant}
use Rattle.mail_core.specs.Runs.{Headline, IsLeft}
use Rattle.mail_core.specs.Seen.{RanBy, Seen, SparesBy}
use Rattle.mail_core.specs.Sites.{Site}
use Rattle.mail_core.proofs.KeptLemmas.{kept_left}
use Rattle.mail_core.proofs.LeadLemmas.{AreFit}
use Rattle.mail_core.proofs.RunsLemmas.{begins_works, sound_front}
use Rattle.mail_core.proofs.SentLemmas.{sent_done}
use Rattle.mail_core.proofs.TableLemmas.{run_tells}

-- ---- the first reading

-- a reading asks for nothing and sends nothing
ticked_fit : (first : Option ℕ) (table : Table) (effects : List Effect) → AreFit table effects → AreFit table (ticks first ++ effects)
ticked_fit None table effects fit = fit
ticked_fit (Some reading) table effects fit = (tt, fit)

ticked_acked : (first : Option ℕ) (table : Table) (latest : List Stored) (effects : List Effect) → AreAcked latest table effects → AreAcked latest table (ticks first ++ effects)
ticked_acked None table latest effects acked = acked
ticked_acked (Some reading) table latest effects acked = (tt, acked)

module _ (j : JudgeSeen) (site : Site) (start : Start) (turns : List Turn) where
  fit_over : IsRunMeant j site (beginning start) turns → IsSound start.table → AreFit start.table (run_over site start turns).effects
  fit_over meant sound =
      let works = begins_works j site (beginning start) turns refl sound meant in
      ticked_fit start.first start.table (run site (beginning start) turns).effects works.fit

  pub acked_over : IsRunMeant j site (beginning start) turns → AreAcked [] start.table (run_over site start turns).effects
  acked_over meant =
      let tells = run_tells j site (beginning start) turns in
      ticked_acked start.first start.table [] (run site (beginning start) turns).effects (tells.acked meant [])

  -- each front of what was done leaves a sound table sound
  sound_over : IsRunMeant j site (beginning start) turns → IsSound start.table → StaysSound start.table (run_over site start turns).effects
  sound_over meant sound done rest is = sound_front start.table done rest sound (subst (AreFit start.table) is (fit_over meant sound))

  -- ---- what is left

  exit_of : IsRunMeant j site (beginning start) turns → IsSound start.table → (well : Bool) (told : Option FileMap) (files : FileMap) → told ≡ Some files → Leaves commanded site.dirs start.table (run_over site start turns).effects well files
      → IsLeft site start.table (run_over site start turns).effects well told
  exit_of meant sound well told files is left =
      let effects = (run_over site start turns).effects in
      record {
        files = files;
        told_is = is;
        leaves = left;
        acked = λ session id within sent. kept_left site.dirs start.table effects well files session id sound (fit_over meant sound) (acked_over meant) left within (sent_done effects session (stored_text id) sent);
      }

-- ---- the headline

-- a stop since a moment leaves what is told then
abbrev pub OnlyNow : Spooled → Type 0
OnlyNow spool = (files : FileMap) → spool.left_since spool.moment files → spool.told ≡ Some files

same_told : (f g : FileMap) → Some f ≡ Some g → f ≡ g
same_told f g e = cc e

spared_others : (dirs : List (List ℕ)) (well : Bool) (f g : FileMap) → SparesBy dirs well f g → KeepsOthers dirs f g
spared_others dirs true f g h = h.others
spared_others dirs false f g h = h

pub headline_of : (j : JudgeSeen) (site : Site) (start : Start) (turns : List Turn) (a b : Seen) (well on : Bool) → IsStartMeant site site.plan start → IsRunMeant j site (beginning start) turns
    → ((files : FileMap) → a.spool.told ≡ Some files → StandsFor site.dirs start.table files → AreStoppable commanded start.table (run_over site start turns).effects → AreRead site (beginning start) turns) → OnlyNow a.spool → RanBy site.dirs start.table a b (run_over site start turns).effects well on
    → Headline j site start turns a b well
headline_of j site start turns a b well on begun meant read only ran =
    let effects = (run_over site start turns).effects in
    record {
      begun = begun;
      meant = meant;
      read = read;
      floor = ran.floor;
      clock = ran.clock;
      readings = ran.readings;
      spawner = ran.spawner;
      dialer = ran.dialer;
      exit = λ files told stands stops sound.
          let moves = ran.spool stops in
          let now = told_after a.spool.told b.spool.told (StandsFor site.dirs start.table) (Leaves commanded site.dirs start.table effects well) moves.now files told stands in
          exit_of j site start turns meant sound well b.spool.told now.0 now.1 now.2;
      images = λ files told stands stops left at.
          let moves = ran.spool stops in
          ⊎_elim
          (λ before.
          let same : files ≡ left = same_told files left (sym told ∙ only left before) in
          record { done = []; rest = effects; whole = refl; stands = subst (StandsFor site.dirs start.table) same stands })
          (λ front. front)
          (moves.images files told stands a.spool.moment left (le_refl a.spool.moment) at);
      sound = sound_over j site start turns meant;
      spared = λ files told.
          let now = told_after a.spool.told b.spool.told (λ g. g ≡ files) (SparesBy site.dirs on files) (ran.frame files).now files told refl in
          record { files = now.0; told_is = now.1; others = spared_others site.dirs on files now.0 now.2 };
      spared_images = λ files told left at. ⊎_elim
          (λ before. let same : files ≡ left = same_told files left (sym told ∙ only left before) in subst (KeepsOthers site.dirs files) same (λ place is. refl))
          (λ spared. spared)
          ((ran.frame files).images files told refl a.spool.moment left (le_refl a.spool.moment) at);
      floor_faults = ran.floor_faults;
      spool_faults = ran.spool_faults;
      spawner_faults = ran.spawner_faults;
      dialer_faults = ran.dialer_faults;
    }
