-- What is seen of effects, one list after another, and of a step of a runner.
use Rattle.std.proofs.Common.{◌≡◌, ⊎_elim, inl, inr, ℕ, ◌+◌, ◌≤◌, List, [], ◌∷◌, ◌++◌, length, map, Bool, true, false, refl, sym, ◌∙◌, ap, subst, arith, length-append, true≢false}
use Rattle.std.specs.List.{flat_map}
use Rattle.std.proofs.lemmas.Grind.{flat_map-append}
use Rattle.mail_base.specs.Histories.{Gains}
use Rattle.mail_base.proofs.Gaining.{gains_none, gains_join}
use Rattle.mail_edge.specs.Seen.{ClockSeen}
use Rattle.link_edge.specs.Heard.{Heard}
use Rattle.spool_disk.specs.Disk.{FileMap}
use Rattle.spool_disk.specs.Spooled.{Spooled}
use Rattle.spool_store.specs.Entries.{Table}
use Rattle.spool_store.specs.Moves.{Moves}
use Rattle.spool_store.specs.Settled.{StandsFor}
use Rattle.spool_store.specs.Stores.{KeepsOthers}
use Rattle.spool_store.proofs.MovesLemmas.{moves_join, moves_none, moves_weaker}
use Rattle.queue_table.specs.Asked.{AllStop, IsFront, LacksLast, Leaves}
use Rattle.spool_store.specs.Parts.{IsEitherTable}
use Rattle.queue_table.specs.Commands.{Command, after, applied}
use Rattle.queue_table.proofs.AskedLemmas.{front_after, front_before, leaves_after, stoppable_first, stoppable_later}
use Rattle.queue_run.specs.Deeds.{Asks, Deed, asked_in, born_in, dialled_in}
use Rattle.queue_run.specs.Working.{Bench, Worked}
use Rattle.mail_core.specs.Effects.{Does, Effect, born, born_of, commanded, commands_of, dialled, dialled_of, heard, heard_of, read, readings_of, table_after}
use Rattle.mail_core.specs.Seen.{Beside, IsSparing, Ran, RanBy, Seen, Spares, beside, hands, seen}
use Rattle.mail_core.proofs.SparingLemmas.{sparing_join, sparing_none}
use Rattle.mail_core.proofs.TableLemmas.{commands_done}

-- effects after effects
pub ran_joins : (dirs : List (List ℕ)) (table : Table) (a b c : Seen) (xs ys : List Effect) (well on : Bool) → Ran dirs table a b xs true → RanBy dirs (table_after table xs) b c ys well on → RanBy dirs table a c (xs ++ ys) well on
ran_joins dirs table a b c xs ys well on h k = record {
  floor = subst (Gains a.floor.told c.floor.told) (sym (flat_map-append heard xs ys)) (gains_join a.floor.told b.floor.told c.floor.told (heard_of xs) (heard_of ys) h.floor k.floor);
  clock = subst (Gains a.clock.told c.clock.told) (sym (flat_map-append read xs ys)) (gains_join a.clock.told b.clock.told c.clock.told (readings_of xs) (readings_of ys) h.clock k.clock);
  readings = omega (arith, h.readings, k.readings, ap length (flat_map-append read xs ys), length-append (readings_of xs) (readings_of ys));
  spawner = subst (Gains a.hands.spawner.told c.hands.spawner.told) (sym (flat_map-append born xs ys)) (gains_join a.hands.spawner.told b.hands.spawner.told c.hands.spawner.told (born_of xs) (born_of ys) h.spawner k.spawner);
  dialer = subst (Gains a.hands.dialer.told c.hands.dialer.told) (sym (flat_map-append dialled xs ys)) (gains_join a.hands.dialer.told b.hands.dialer.told c.hands.dialer.told (dialled_of xs) (dialled_of ys) h.dialer k.dialer);
  spool = λ stops.
      let first = h.spool (stoppable_first commanded table xs ys stops) in
      let later = k.spool (stoppable_later commanded table xs ys stops) in
      moves_join a.spool b.spool c.spool (StandsFor dirs table) (StandsFor dirs (table_after table xs)) (Leaves commanded dirs table (xs ++ ys) well) (IsFront commanded dirs table (xs ++ ys))
      (moves_weaker a.spool b.spool (StandsFor dirs table) (StandsFor dirs (table_after table xs)) (IsFront commanded dirs table xs) (StandsFor dirs (table_after table xs)) (IsFront commanded dirs table (xs ++ ys)) (λ f p. p) (front_before commanded dirs table xs ys) first)
      (moves_weaker b.spool c.spool (StandsFor dirs (table_after table xs)) (Leaves commanded dirs (table_after table xs) ys well) (IsFront commanded dirs (table_after table xs) ys) (Leaves commanded dirs table (xs ++ ys) well) (IsFront commanded dirs table (xs ++ ys)) (leaves_after commanded dirs table xs ys well) (front_after commanded dirs table xs ys) later);
  frame = sparing_join dirs a.spool b.spool c.spool on h.frame k.frame;
  floor_faults = omega (arith, h.floor_faults, k.floor_faults);
  spool_faults = omega (arith, h.spool_faults, k.spool_faults);
  spawner_faults = omega (arith, h.spawner_faults, k.spawner_faults);
  dialer_faults = omega (arith, h.dialer_faults, k.dialer_faults);
}

pub ran_join : (dirs : List (List ℕ)) (table : Table) (a b c : Seen) (xs ys : List Effect) (well : Bool) → Ran dirs table a b xs true → Ran dirs (table_after table xs) b c ys well → Ran dirs table a c (xs ++ ys) well
ran_join dirs table a b c xs ys well h k = ran_joins dirs table a b c xs ys well well h k

-- a run may end where it could go on
pub ran_ends : (dirs : List (List ℕ)) (table : Table) (a b : Seen) (effects : List Effect) (well on : Bool) → (on ≡ true → well ≡ true) → Ran dirs table a b effects well → RanBy dirs table a b effects well on
ran_ends dirs table a b effects true true on h = h
ran_ends dirs table a b effects false false on h = h
ran_ends dirs table a b effects false true on h = absurd (true≢false (sym (on refl)))
ran_ends dirs table a b effects true false on h = record {
  floor = h.floor;
  clock = h.clock;
  readings = h.readings;
  spawner = h.spawner;
  dialer = h.dialer;
  spool = h.spool;
  frame = λ f. moves_weaker a.spool b.spool (λ g. g ≡ f) (Spares dirs f) (KeepsOthers dirs f) (KeepsOthers dirs f) (KeepsOthers dirs f) (λ g s. s.others) (λ g s. s) (h.frame f);
  floor_faults = h.floor_faults;
  spool_faults = h.spool_faults;
  spawner_faults = h.spawner_faults;
  dialer_faults = h.dialer_faults;
}

-- ---- what sessions do

-- effects that ask nothing of the spool, and do nothing with the hands of runners
pub record AreOfFloor (effects : List Effect) : Type 0 where
  pub commands : commands_of effects ≡ []
  pub born : born_of effects ≡ []
  pub dialled : dialled_of effects ≡ []

pub ran_quiet : (dirs : List (List ℕ)) (table : Table) (f g : Heard) (s : Spooled) (c d : Beside) (effects : List Effect) → AreOfFloor effects → Gains f.told g.told (heard_of effects) → f.faults ≤ g.faults
    → Gains c.clock.told d.clock.told (readings_of effects) → d.clock.readings ≡ c.clock.readings + length (readings_of effects) → d.hands ≡ c.hands → Ran dirs table (seen f s c) (seen g s d) effects true
ran_quiet dirs table f g s c d effects none floor faults clock readings same = record {
  floor = floor;
  clock = clock;
  readings = readings;
  spawner = subst (Gains c.hands.spawner.told d.hands.spawner.told) (sym none.born) (subst (λ h. Gains c.hands.spawner.told h.spawner.told []) (sym same) (gains_none c.hands.spawner.told));
  dialer = subst (Gains c.hands.dialer.told d.hands.dialer.told) (sym none.dialled) (subst (λ h. Gains c.hands.dialer.told h.dialer.told []) (sym same) (gains_none c.hands.dialer.told));
  spool = λ stops. moves_none s (StandsFor dirs table) (Leaves commanded dirs table effects true) (IsFront commanded dirs table effects) (λ files p. subst (λ cs. StandsFor dirs (applied table cs) files) (sym none.commands) p);
  frame = sparing_none dirs s;
  floor_faults = faults;
  spool_faults = omega arith;
  spawner_faults = let e = ap (λ h. h.spawner.faults) same in omega (arith, e);
  dialer_faults = let e = ap (λ h. h.dialer.faults) same in omega (arith, e);
}

-- effects of the floor alone
pub ran_floor : (dirs : List (List ℕ)) (table : Table) (f g : Heard) (s : Spooled) (c : Beside) (effects : List Effect) → AreOfFloor effects → readings_of effects ≡ [] → Gains f.told g.told (heard_of effects) → g.faults ≡ f.faults
    → Ran dirs table (seen f s c) (seen g s c) effects true
ran_floor dirs table f g s c effects none unread floor same =
    ran_quiet dirs table f g s c c effects none floor (omega (arith, same)) (subst (Gains c.clock.told c.clock.told) (sym unread) (gains_none c.clock.told)) (omega (arith, ap length unread)) refl

-- no effect was run where nothing changed
pub ran_none : (dirs : List (List ℕ)) (table : Table) (f : Heard) (s : Spooled) (c : Beside) → Ran dirs table (seen f s c) (seen f s c) [] true
ran_none dirs table f s c = ran_floor dirs table f f s c [] (record { commands = refl; born = refl; dialled = refl }) refl (gains_none f.told) refl

-- ---- a command of a session

-- the files stand for the table before a command or after it
abbrev pub IsEither : List (List ℕ) → Table → Command → FileMap → Type 0
IsEither dirs table command files = IsEitherTable dirs table (after table command) files

front_of_one : (dirs : List (List ℕ)) (table : Table) (command : Command) (f : FileMap) → IsEither dirs table command f → IsFront commanded dirs table (Does (Asks command) ∷ []) f
front_of_one dirs table command f (inl s) = record { done = []; rest = Does (Asks command) ∷ []; whole = refl; stands = s }
front_of_one dirs table command f (inr s) = record { done = Does (Asks command) ∷ []; rest = []; whole = refl; stands = s }

-- one that was done
pub ran_done : (dirs : List (List ℕ)) (table : Table) (command : Command) (f : Heard) (s t : Spooled) (c : Beside) → Moves s t (StandsFor dirs table) (StandsFor dirs (after table command)) (IsEither dirs table command) → IsSparing dirs s t true → s.faults ≤ t.faults
    → Ran dirs table (seen f s c) (seen f t c) (Does (Asks command) ∷ []) true
ran_done dirs table command f s t c moves sparing later = record {
  floor = gains_none f.told;
  clock = gains_none c.clock.told;
  readings = omega arith;
  spawner = gains_none c.hands.spawner.told;
  dialer = gains_none c.hands.dialer.told;
  spool = λ stops. moves_weaker s t (StandsFor dirs table) (StandsFor dirs (after table command)) (IsEither dirs table command) (Leaves commanded dirs table (Does (Asks command) ∷ []) true) (IsFront commanded dirs table (Does (Asks command) ∷ [])) (λ files p. p) (front_of_one dirs table command) moves;
  frame = sparing;
  floor_faults = omega arith;
  spool_faults = later;
  spawner_faults = omega arith;
  dialer_faults = omega arith;
}

-- one that failed
pub ran_failed : (dirs : List (List ℕ)) (table : Table) (command : Command) (f : Heard) (s t : Spooled) (c : Beside) → Moves s t (StandsFor dirs table) (IsEither dirs table command) (IsEither dirs table command) → IsSparing dirs s t false → s.faults ≤ t.faults
    → Ran dirs table (seen f s c) (seen f t c) (Does (Asks command) ∷ []) false
ran_failed dirs table command f s t c moves sparing later = record {
  floor = gains_none f.told;
  clock = gains_none c.clock.told;
  readings = omega arith;
  spawner = gains_none c.hands.spawner.told;
  dialer = gains_none c.hands.dialer.told;
  spool = λ stops. moves_weaker s t (StandsFor dirs table) (IsEither dirs table command) (IsEither dirs table command) (Leaves commanded dirs table (Does (Asks command) ∷ []) false) (IsFront commanded dirs table (Does (Asks command) ∷ []))
      (λ files h. inr (record { done = []; last = Does (Asks command); command = command; whole = refl; asks = refl; stands = h })) (front_of_one dirs table command) moves;
  frame = sparing;
  floor_faults = omega arith;
  spool_faults = later;
  spawner_faults = omega arith;
  dialer_faults = omega arith;
}

-- ---- deeds

heard_none : (deeds : List Deed) → heard_of (map Does deeds) ≡ []
heard_none [] = refl
heard_none (deed ∷ deeds) = heard_none deeds

read_none : (deeds : List Deed) → readings_of (map Does deeds) ≡ []
read_none [] = refl
read_none (deed ∷ deeds) = read_none deeds

born_done : (deeds : List Deed) → born_of (map Does deeds) ≡ flat_map born_in deeds
born_done [] = refl
born_done (deed ∷ deeds) = ap (λ q. born_in deed ++ q) (born_done deeds)

dialled_done : (deeds : List Deed) → dialled_of (map Does deeds) ≡ flat_map dialled_in deeds
dialled_done [] = refl
dialled_done (deed ∷ deeds) = ap (λ q. dialled_in deed ++ q) (dialled_done deeds)

map_more : (xs ys : List Deed) → map Does (xs ++ ys) ≡ map Does xs ++ map Does ys
map_more [] ys = refl
map_more (x ∷ xs) ys = ap (λ q. Does x ∷ q) (map_more xs ys)

front_done : (dirs : List (List ℕ)) (table : Table) (deeds : List Deed) (f : FileMap) → IsFront asked_in dirs table deeds f → IsFront commanded dirs table (map Does deeds) f
front_done dirs table deeds f h = record {
  done = map Does h.done;
  rest = map Does h.rest;
  whole = ap (map Does) h.whole ∙ map_more h.done h.rest;
  stands = subst (λ q. StandsFor dirs (applied table q) f) (sym (commands_done h.done)) h.stands;
}

lacks_done : (dirs : List (List ℕ)) (table : Table) (deeds : List Deed) (f : FileMap) → LacksLast asked_in dirs table deeds f → LacksLast commanded dirs table (map Does deeds) f
lacks_done dirs table deeds f h = record {
  done = map Does h.done;
  last = Does h.last;
  command = h.command;
  whole = ap (map Does) h.whole ∙ map_more h.done (h.last ∷ []);
  asks = h.asks;
  stands = subst (λ q. IsEitherTable dirs (applied table q) (after (applied table q) h.command) f) (sym (commands_done h.done)) h.stands;
}

leaves_done : (dirs : List (List ℕ)) (table : Table) (deeds : List Deed) (well : Bool) (f : FileMap) → Leaves asked_in dirs table deeds well f → Leaves commanded dirs table (map Does deeds) well f
leaves_done dirs table deeds true f h = subst (λ q. StandsFor dirs (applied table q) f) (sym (commands_done deeds)) h
leaves_done dirs table deeds false f h = ⊎_elim
    (λ (stands : StandsFor dirs (applied table (flat_map asked_in deeds)) f). inl (subst (λ q. StandsFor dirs (applied table q) f) (sym (commands_done deeds)) stands))
    (λ (lacks : LacksLast asked_in dirs table deeds f). inr (lacks_done dirs table deeds f lacks))
    h

-- what a step of a runner does is seen as the machine's effects
pub ran_worked : (dirs : List (List ℕ)) (table : Table) (floor : Heard) (clock : ClockSeen) (a b : Bench) (deeds : List Deed) (well on : Bool) → Worked dirs table a b deeds well → IsSparing dirs a.spool b.spool on
    → RanBy dirs table (seen floor a.spool (beside clock (hands a.spawner a.dialer))) (seen floor b.spool (beside clock (hands b.spawner b.dialer))) (map Does deeds) well on
ran_worked dirs table floor clock a b deeds well on w sparing = record {
  floor = subst (Gains floor.told floor.told) (sym (heard_none deeds)) (gains_none floor.told);
  clock = subst (Gains clock.told clock.told) (sym (read_none deeds)) (gains_none clock.told);
  readings = let none = ap length (read_none deeds) in omega (arith, none);
  spawner = subst (Gains a.spawner.told b.spawner.told) (sym (born_done deeds)) w.spawner;
  dialer = subst (Gains a.dialer.told b.dialer.told) (sym (dialled_done deeds)) w.dialer;
  spool = λ stops.
      moves_weaker a.spool b.spool (StandsFor dirs table) (Leaves asked_in dirs table deeds well) (IsFront asked_in dirs table deeds) (Leaves commanded dirs table (map Does deeds) well) (IsFront commanded dirs table (map Does deeds))
      (leaves_done dirs table deeds well) (front_done dirs table deeds) (w.spool (subst (AllStop table) (commands_done deeds) stops));
  frame = sparing;
  floor_faults = omega arith;
  spool_faults = w.spool_faults;
  spawner_faults = w.spawner_faults;
  dialer_faults = w.dialer_faults;
}
