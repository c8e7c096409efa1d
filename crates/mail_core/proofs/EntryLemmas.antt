-- Entries of tables: what is found by an id, before and after commands.
use Rattle.std.proofs.Common.{◌≡◌, ◌≢◌, ℕ, ◌<◌, List, [], ◌∷◌, ◌++◌, Bool, true, false, Option, Some, None, if◌then◌else◌, refl, sym, ◌∙◌, ap, subst}
use Rattle.std.specs.Prelude.{Contains, eqb}
use Rattle.std.proofs.lemmas.Bool.{eqb-true}
use Rattle.std.proofs.lemmas.List.Elements.{All-contains}
use Rattle.mail_base.specs.declared.control.Control.{Control}
use Rattle.mail_base.specs.declared.message.Back.{Back}
use Rattle.mail_base.specs.declared.outcome.Result1.{Result1}
use Rattle.spool_store.specs.Entries.{Stored, Table, with_control}
use Rattle.spool_store.specs.Keepers.{after_replace}
use Rattle.spool_store.proofs.Standing.{contains_head, contains_tail}
use Rattle.queue_table.specs.Commands.{after, changed_by, control_at, with_children, with_entry}
use Rattle.queue_table.specs.Commands.Command.{Accept, Record, Return, Warn}
use Rattle.queue_table.specs.Results.{recorded, with_returns, with_warning}
use Rattle.queue_table.specs.Soundness.{IsSound}
use Rattle.queue_table.specs.declared.terms.Terms.{Terms}
use Rattle.queue_table.proofs.SoundLemmas.{command_sound}
use Rattle.queue_table.proofs.StayLemmas.{command_makes}
use Rattle.queue_run.specs.Deeds.{Asks, Claims, Deed, Files, Frees, Polls, Starts, Talks}
use Rattle.mail_core.specs.Effects.{Does, Effect, HangsUp, Sends, Takes, Ticks, table_after}
use Rattle.mail_core.proofs.LeadLemmas.{AreFit, AreTaking}

-- ---- what is found

-- an entry of a table by its id
pub record IsEntry (entries : List Stored) (id : ℕ) (control : Control) : Type 0 where
  pub entry : Stored
  pub among : Contains entries entry
  pub is : entry.id ≡ id
  pub control_is : entry.control ≡ control

pub entry_found : (id : ℕ) (entries : List Stored) (control : Control) → control_at id entries ≡ Some control → IsEntry entries id control
entry_found id [] control is = cc is
entry_found id (s ∷ entries) control is = by (eqb s.id id) refl is (entry_found id entries control)
  where
    by : (b : Bool) → eqb s.id id ≡ b → (if b then Some s.control else control_at id entries) ≡ Some control → (control_at id entries ≡ Some control → IsEntry entries id control) → IsEntry (s ∷ entries) id control
    by true e is rest = record { entry = s; among = contains_head s entries; is = eqb-true s.id id e; control_is = cc is }
    by false e is rest = let r = rest is in record { entry = r.entry; among = contains_tail s r.entry entries r.among; is = r.is; control_is = r.control_is }

pub found_low : (table : Table) (id : ℕ) (control : Control) → IsSound table → control_at id table.entries ≡ Some control → id < table.next
found_low table id control sound is =
    let e = entry_found id table.entries control is in
    let low = All-contains (λ (s : Stored). s.id < table.next) table.entries e.entry sound.below e.among in
    subst (λ q. q < table.next) e.is low

-- ---- its own entry

own_replaced : (id : ℕ) (d : Control) (entries : List Stored) (c : Control) → control_at id entries ≡ Some c → control_at id (with_control id d entries) ≡ Some d
own_replaced id d [] c is = cc is
own_replaced id d (s ∷ entries) c is = by (eqb s.id id) refl is (own_replaced id d entries c)
  where
    by : (b : Bool) → eqb s.id id ≡ b → (if b then Some s.control else control_at id entries) ≡ Some c → (control_at id entries ≡ Some c → control_at id (with_control id d entries) ≡ Some d)
        → control_at id ((if b then record { id = s.id; dir = s.dir; control = d; body = s.body } else s) ∷ with_control id d entries) ≡ Some d
    by true e is rest = ap (λ (q : Bool). if q then Some d else control_at id (with_control id d entries)) e
    by false e is rest = ap (λ (q : Bool). if q then Some s.control else control_at id (with_control id d entries)) e ∙ rest is

found_first : (id : ℕ) (xs ys : List Stored) (c : Control) → control_at id xs ≡ Some c → control_at id (xs ++ ys) ≡ Some c
found_first id [] ys c is = cc is
found_first id (s ∷ xs) ys c is = by (eqb s.id id) is (found_first id xs ys c)
  where
    by : (b : Bool) → (if b then Some s.control else control_at id xs) ≡ Some c → (control_at id xs ≡ Some c → control_at id (xs ++ ys) ≡ Some c) → (if b then Some s.control else control_at id (xs ++ ys)) ≡ Some c
    by true is rest = is
    by false is rest = rest is

pub own_recorded : (table : Table) (terms : Terms) (id : ℕ) (places : List ℕ) (results : List Result1) (moment : ℕ) (c : Control) → control_at id table.entries ≡ Some c
    → control_at id (after table (Record terms id places results moment)).entries ≡ Some (recorded terms places results moment c)
own_recorded table terms id places results moment c is =
    subst (λ (o : Option Control). control_at id (with_entry (λ control. after_replace table id (recorded terms places results moment control)) table o).entries ≡ Some (recorded terms places results moment c)) (sym is)
    (own_replaced id (recorded terms places results moment c) table.entries c is)

own_children : (table : Table) (terms : Terms) (id : ℕ) (backs : List Back) (moment : ℕ) (change : Control → Control) (c : Control) → control_at id table.entries ≡ Some c
    → control_at id (with_entry (λ control. with_children terms moment table id backs (change control)) table (control_at id table.entries)).entries ≡ Some (change c)
own_children table terms id backs moment change c is =
    subst (λ (o : Option Control). control_at id (with_entry (λ control. with_children terms moment table id backs (change control)) table o).entries ≡ Some (change c)) (sym is)
    (found_first id (with_control id (change c) table.entries) _ (change c) (own_replaced id (change c) table.entries c is))

pub own_returned : (table : Table) (terms : Terms) (id : ℕ) (backs : List Back) (moment : ℕ) (c : Control) → control_at id table.entries ≡ Some c → control_at id (after table (Return terms id backs moment)).entries ≡ Some (with_returns table.next c)
own_returned table terms id backs moment c is = own_children table terms id backs moment (with_returns table.next) c is

pub own_warned : (table : Table) (terms : Terms) (id : ℕ) (backs : List Back) (moment : ℕ) (c : Control) → control_at id table.entries ≡ Some c → control_at id (after table (Warn terms id backs moment)).entries ≡ Some (with_warning c)
own_warned table terms id backs moment c is = own_children table terms id backs moment with_warning c is

-- ---- entries of others

-- an effect changes no entry of that id
abbrev pub IsSparedBy : ℕ → Deed → Type 0
IsSparedBy id (Asks command) = changed_by command ≢ Some id
IsSparedBy id deed = Unit {0}

abbrev pub IsSpared : ℕ → Effect → Type 0
IsSpared id (Does deed) = IsSparedBy id deed
IsSpared id effect = Unit {0}

abbrev pub AreSpared : ℕ → List Effect → Type 0
AreSpared id [] = Unit {0}
AreSpared id (effect ∷ effects) = IsSpared id effect × AreSpared id effects

pub sound_after : (table : Table) (effects : List Effect) → IsSound table → AreFit table effects → IsSound (table_after table effects)
sound_after table [] sound fit = sound
sound_after table (Does (Asks command) ∷ effects) sound fit = sound_after (after table command) effects (command_sound table command sound fit.0) fit.1
sound_after table (Does (Claims id rows) ∷ effects) sound fit = sound_after table effects sound fit.1
sound_after table (Does (Frees id) ∷ effects) sound fit = sound_after table effects sound fit.1
sound_after table (Does (Files id) ∷ effects) sound fit = sound_after table effects sound fit.1
sound_after table (Does (Starts id places start launch) ∷ effects) sound fit = sound_after table effects sound fit.1
sound_after table (Does (Polls id child poll) ∷ effects) sound fit = sound_after table effects sound fit.1
sound_after table (Does (Talks id places talk) ∷ effects) sound fit = sound_after table effects sound fit.1
sound_after table (Takes event ∷ effects) sound fit = sound_after table effects sound fit.1
sound_after table (Ticks reading ∷ effects) sound fit = sound_after table effects sound fit.1
sound_after table (Sends session text whole ∷ effects) sound fit = sound_after table effects sound fit.1
sound_after table (HangsUp session ∷ effects) sound fit = sound_after table effects sound fit.1

-- another entry is found as it was
pub found_after : (id : ℕ) (control : Control) (table : Table) (effects : List Effect) → IsSound table → AreFit table effects → AreSpared id effects → control_at id table.entries ≡ Some control → control_at id (table_after table effects).entries ≡ Some control
found_after id control table [] sound fit spared is = is
found_after id control table (Does (Asks command) ∷ effects) sound fit spared is =
    let made = command_makes table command in
    let same = made.found id (found_low table id control sound is) spared.0 in
    found_after id control (after table command) effects (command_sound table command sound fit.0) fit.1 spared.1 (same ∙ is)
found_after id control table (Does (Claims other rows) ∷ effects) sound fit spared is = found_after id control table effects sound fit.1 spared.1 is
found_after id control table (Does (Frees other) ∷ effects) sound fit spared is = found_after id control table effects sound fit.1 spared.1 is
found_after id control table (Does (Files other) ∷ effects) sound fit spared is = found_after id control table effects sound fit.1 spared.1 is
found_after id control table (Does (Starts other places start launch) ∷ effects) sound fit spared is = found_after id control table effects sound fit.1 spared.1 is
found_after id control table (Does (Polls other child poll) ∷ effects) sound fit spared is = found_after id control table effects sound fit.1 spared.1 is
found_after id control table (Does (Talks other places talk) ∷ effects) sound fit spared is = found_after id control table effects sound fit.1 spared.1 is
found_after id control table (Takes event ∷ effects) sound fit spared is = found_after id control table effects sound fit.1 spared.1 is
found_after id control table (Ticks reading ∷ effects) sound fit spared is = found_after id control table effects sound fit.1 spared.1 is
found_after id control table (Sends session text whole ∷ effects) sound fit spared is = found_after id control table effects sound fit.1 spared.1 is
found_after id control table (HangsUp session ∷ effects) sound fit spared is = found_after id control table effects sound fit.1 spared.1 is

some_none : (id : ℕ) → None ≢ Some id
some_none id e = cc e

-- messages that are taken in change no entry
pub taking_spares : (id : ℕ) (effects : List Effect) → AreTaking effects → AreSpared id effects
taking_spares id [] taking = tt
taking_spares id (Does (Asks (Accept terms message cuts moment)) ∷ effects) taking = (some_none id, taking_spares id effects taking.1)
taking_spares id (Does (Asks (Record terms other places results moment)) ∷ effects) taking = absurd taking.0
taking_spares id (Does (Asks (Return terms other backs moment)) ∷ effects) taking = absurd taking.0
taking_spares id (Does (Asks (Warn terms other backs moment)) ∷ effects) taking = absurd taking.0
taking_spares id (Does (Claims other rows) ∷ effects) taking = absurd taking.0
taking_spares id (Does (Frees other) ∷ effects) taking = absurd taking.0
taking_spares id (Does (Files other) ∷ effects) taking = absurd taking.0
taking_spares id (Does (Starts other places start launch) ∷ effects) taking = absurd taking.0
taking_spares id (Does (Polls other child poll) ∷ effects) taking = absurd taking.0
taking_spares id (Does (Talks other places talk) ∷ effects) taking = absurd taking.0
taking_spares id (Takes event ∷ effects) taking = (tt, taking_spares id effects taking.1)
taking_spares id (Ticks reading ∷ effects) taking = (tt, taking_spares id effects taking.1)
taking_spares id (Sends session text whole ∷ effects) taking = (tt, taking_spares id effects taking.1)
taking_spares id (HangsUp session ∷ effects) taking = (tt, taking_spares id effects taking.1)
