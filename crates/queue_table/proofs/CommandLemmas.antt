-- Commands after commands.
use Rattle.std.proofs.Common.{◌≡◌, List, [], ◌∷◌, ◌++◌, refl}
use Rattle.spool_store.specs.Entries.{Table}
use Rattle.queue_table.specs.Commands.{Command, after, applied}

-- commands one after the other make of a table what all of them make
pub applied_append : (table : Table) (some more : List Command) → applied table (some ++ more) ≡ applied (applied table some) more
applied_append table [] more = refl
applied_append table (command ∷ some) more = applied_append (after table command) some more
