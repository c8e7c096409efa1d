-- What steps leave in the files, one list of steps after another.
use Rattle.std.proofs.Common.{◌≡◌, inl, inr, ⊎_elim, ℕ, List, [], ◌∷◌, ◌++◌, Bool, true, false, sym, ◌∙◌, ap, subst}
use Rattle.std.specs.List.{flat_map}
use Rattle.std.proofs.lemmas.Grind.{flat_map-append}
use Rattle.std.proofs.lemmas.List.{append_assoc, append-nil}
use Rattle.std.proofs.lemmas.List.Concat.{flat_map-cons}
use Rattle.spool_disk.specs.Disk.{FileMap}
use Rattle.spool_store.specs.Entries.{Table}
use Rattle.spool_store.specs.Parts.{IsEitherTable}
use Rattle.spool_store.specs.Settled.{StandsFor}
use Rattle.queue_table.specs.Asked.{AllStop, AreStoppable, IsFront, LacksLast, Leaves, table_by}
use Rattle.queue_table.specs.Commands.{Command, after, applied}
use Rattle.queue_table.proofs.CommandLemmas.{applied_append}

-- the table after both lists
pub table_join : {X : Type 0} (asked : X → List Command) (table : Table) (some more : List X) → table_by asked table (some ++ more) ≡ table_by asked (table_by asked table some) more
table_join asked table some more = ap (applied table) (flat_map-append asked some more) ∙ applied_append table (flat_map asked some) (flat_map asked more)

-- and after a list and a step that asks one command
pub table_last : {X : Type 0} (asked : X → List Command) (table : Table) (done : List X) (last : X) (command : Command) → asked last ≡ command ∷ [] → table_by asked table (done ++ last ∷ []) ≡ after (table_by asked table done) command
table_last asked table done last command asks = table_join asked table done (last ∷ []) ∙ ap (applied (table_by asked table done)) (flat_map-cons asked last [] ∙ append-nil (asked last) ∙ asks)

-- a front of the first steps is one of all
pub front_before : {X : Type 0} (asked : X → List Command) (dirs : List (List ℕ)) (table : Table) (some more : List X) (files : FileMap) → IsFront asked dirs table some files → IsFront asked dirs table (some ++ more) files
front_before {X} asked dirs table some more files h = record { done = h.done; rest = h.rest ++ more; whole = ap (λ (q : List X). q ++ more) h.whole ∙ append_assoc h.done h.rest more; stands = h.stands }

-- and so is one of the later steps, behind the first
pub front_after : {X : Type 0} (asked : X → List Command) (dirs : List (List ℕ)) (table : Table) (some more : List X) (files : FileMap) → IsFront asked dirs (table_by asked table some) more files → IsFront asked dirs table (some ++ more) files
front_after {X} asked dirs table some more files h = record {
  done = some ++ h.done;
  rest = h.rest;
  whole = ap (λ (q : List X). some ++ q) h.whole ∙ sym (append_assoc some h.done h.rest);
  stands = subst (λ (t : Table). StandsFor dirs t files) (sym (table_join asked table some h.done)) h.stands;
}

lacks_after : {X : Type 0} (asked : X → List Command) (dirs : List (List ℕ)) (table : Table) (some more : List X) (files : FileMap) → LacksLast asked dirs (table_by asked table some) more files → LacksLast asked dirs table (some ++ more) files
lacks_after {X} asked dirs table some more files h = record {
  done = some ++ h.done;
  last = h.last;
  command = h.command;
  whole = ap (λ (q : List X). some ++ q) h.whole ∙ sym (append_assoc some h.done (h.last ∷ []));
  asks = h.asks;
  stands = subst (λ (t : Table). IsEitherTable dirs t (after t h.command) files) (sym (table_join asked table some h.done)) h.stands;
}

-- what the later steps leave all steps leave
pub leaves_after : {X : Type 0} (asked : X → List Command) (dirs : List (List ℕ)) (table : Table) (some more : List X) (well : Bool) (files : FileMap) → Leaves asked dirs (table_by asked table some) more well files → Leaves asked dirs table (some ++ more) well files
leaves_after asked dirs table some more true files h = subst (λ (t : Table). StandsFor dirs t files) (sym (table_join asked table some more)) h
leaves_after asked dirs table some more false files h = ⊎_elim
    (λ (stands : StandsFor dirs (table_by asked (table_by asked table some) more) files). inl (subst (λ (t : Table). StandsFor dirs t files) (sym (table_join asked table some more)) stands))
    (λ (lacks : LacksLast asked dirs (table_by asked table some) more files). inr (lacks_after asked dirs table some more files lacks))
    h

whole_front : {X : Type 0} (asked : X → List Command) (dirs : List (List ℕ)) (table : Table) (steps : List X) (files : FileMap) → StandsFor dirs (table_by asked table steps) files → IsFront asked dirs table steps files
whole_front asked dirs table steps files stands = record { done = steps; rest = []; whole = sym (append-nil steps); stands = stands }

lacks_front : {X : Type 0} (asked : X → List Command) (dirs : List (List ℕ)) (table : Table) (steps : List X) (files : FileMap) → LacksLast asked dirs table steps files → IsFront asked dirs table steps files
lacks_front asked dirs table steps files h = ⊎_elim
    (λ (before : StandsFor dirs (table_by asked table h.done) files). record { done = h.done; rest = h.last ∷ []; whole = h.whole; stands = before })
    (λ (now : StandsFor dirs (after (table_by asked table h.done) h.command) files).
    record { done = h.done ++ h.last ∷ []; rest = []; whole = h.whole ∙ sym (append-nil (h.done ++ h.last ∷ [])); stands = subst (λ (t : Table). StandsFor dirs t files) (sym (table_last asked table h.done h.last h.command h.asks)) now })
    h.stands

-- what steps leave stands for the table after a front of them
pub leaves_front : {X : Type 0} (asked : X → List Command) (dirs : List (List ℕ)) (table : Table) (steps : List X) (well : Bool) (files : FileMap) → Leaves asked dirs table steps well files → IsFront asked dirs table steps files
leaves_front asked dirs table steps true files h = whole_front asked dirs table steps files h
leaves_front asked dirs table steps false files h = ⊎_elim
    (λ (stands : StandsFor dirs (table_by asked table steps) files). whole_front asked dirs table steps files stands)
    (λ (lacks : LacksLast asked dirs table steps files). lacks_front asked dirs table steps files lacks)
    h

stop_join : (table : Table) (some more : List Command) → AllStop table some → AllStop (applied table some) more → AllStop table (some ++ more)
stop_join table [] more h k = k
stop_join table (command ∷ some) more h k = (h.0, stop_join (after table command) some more h.1 k)

stop_first : (table : Table) (some more : List Command) → AllStop table (some ++ more) → AllStop table some
stop_first table [] more h = tt
stop_first table (command ∷ some) more h = (h.0, stop_first (after table command) some more h.1)

stop_later : (table : Table) (some more : List Command) → AllStop table (some ++ more) → AllStop (applied table some) more
stop_later table [] more h = h
stop_later table (command ∷ some) more h = stop_later (after table command) some more h.1

-- a stop in the commands of both lists
pub stoppable_join : {X : Type 0} (asked : X → List Command) (table : Table) (some more : List X) → AreStoppable asked table some → AreStoppable asked (table_by asked table some) more → AreStoppable asked table (some ++ more)
stoppable_join asked table some more h k = subst (AllStop table) (sym (flat_map-append asked some more)) (stop_join table (flat_map asked some) (flat_map asked more) h k)

-- and of each of them
pub stoppable_first : {X : Type 0} (asked : X → List Command) (table : Table) (some more : List X) → AreStoppable asked table (some ++ more) → AreStoppable asked table some
stoppable_first asked table some more h = stop_first table (flat_map asked some) (flat_map asked more) (subst (AllStop table) (flat_map-append asked some more) h)

pub stoppable_later : {X : Type 0} (asked : X → List Command) (table : Table) (some more : List X) → AreStoppable asked table (some ++ more) → AreStoppable asked (table_by asked table some) more
stoppable_later asked table some more h = stop_later table (flat_map asked some) (flat_map asked more) (subst (AllStop table) (flat_map-append asked some more) h)
