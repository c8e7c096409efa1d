use Rattle.mail_core.specs.Judges.{untold}
use Rattle.mail_core.proofs.LowLemmas.{run_low, run_stops}
use Rattle.mail_core.proofs.TableLemmas.{turned_tells}
use Rattle.mail_core.proofs.law.revisions_stay_low.Goals as goal

pub returns : goal.returns
returns c = record {
  low = λ site m turns most le low. run_low (λ site m turn. let t = turned_tells untold site m turn in t.table) site m turns most le low;
  stops = λ site m turns most le low lt. run_stops (λ site m turn. let t = turned_tells untold site m turn in t.table) site m turns most le low lt;
}
