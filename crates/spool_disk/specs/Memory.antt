-- What is seen of a spool in memory (own).
use Rattle.std.specs.Prelude.{ℕ, List, []}
use Rattle.mail_base.specs.declared.script.Script.{Script}
use Rattle.mail_base.specs.Scripts.{one_more}
use Rattle.spool_disk.specs.declared.attempt.Attempt.{Attempt}
use Rattle.spool_disk.specs.Disk.{FileMap}

-- the files that it began with, the calls that changed them or were cut short, which calls fail,
-- and how many found no memory
pub record Memory : Type 0 where
  pub start : FileMap
  pub past : List Attempt
  pub script : Script
  pub starved : ℕ

-- before the first call, with these files, and these calls that are to fail
abbrev pub begins : FileMap → List ℕ → Memory
begins files failing = record {
  start = files;
  past = [];
  script = record { failing = failing; calls = 0; faults = 0 };
  starved = 0;
}

-- after a call that found no memory, and so failed
abbrev pub starves : Memory → Memory
starves memory = record memory {
  script = record memory.script { faults = one_more memory.script.faults };
  starved = one_more memory.starved;
}
