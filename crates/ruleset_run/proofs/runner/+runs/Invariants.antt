use Rattle.std.proofs.Common.{◌≡◌, ◌≤◌, ◌+◌, ◌-◌, ◌*◌, List, ◌++◌, length, drop, Ok}
use Rattle.mail_base.specs.Masks.{mask_of}
use Rattle.ruleset_run.specs.Filling.{Part, tokens_in}
use Rattle.ruleset_run.specs.Runs.{Outcome, Runs, Replaced, RunsAt}
use Rattle.ruleset_run.specs.Sites.{site_of}
use Rattle.ruleset_run.specs.inner.Filler.{fronts_parts, parts_of}
use Rattle.ruleset_run.proofs.runner.+runs.Given as goal

abbrev pub decreases-run_set : goal.decreases-run_set
decreases-run_set l = 5 * l.left + 4

abbrev pub decreases-run_rules : goal.decreases-run_rules
decreases-run_rules l = 5 * l.left + 3

abbrev pub decreases-apply : goal.decreases-apply
decreases-apply l = 5 * l.left + 2

abbrev pub decreases-replace : goal.decreases-replace
decreases-replace l = 5 * l.left + 1

abbrev pub decreases-call : goal.decreases-call
decreases-call l = 5 * l.left

-- whatever is an outcome of the rest is one of the whole
abbrev pub invariant-run_rules-loop-number : goal.invariant-run_rules-loop-number
invariant-run_rules-loop-number l = record {
  completes : (o : Outcome) → Runs (site_of l.config l.maps) (RunsAt (site_of l.config l.maps) l.left) (drop l.from l.set.rules) l.times l.now.tokens l.now.work l.values.macros o
      → Runs (site_of l.config l.maps) (RunsAt (site_of l.config l.maps) l.left) l.set.rules 0 l.fn.start.tokens l.fn.start.work l.fn.values.macros o;
  within : l.from ≤ length l.set.rules;
  times : l.times ≤ 100;
  grew : l.fn.start.work ≤ l.now.work;
  work : l.now.work ≤ 10000;
  operators : l.values.operators ≡ l.fn.values.operators;
  settled : l.values.after ≡ l.values.macros;
  mask : l.mask ≡ mask_of l.now.tokens;
}

abbrev pub decreases-run_rules-loop-number : goal.decreases-run_rules-loop-number
decreases-run_rules-loop-number l = (10000 - l.now.work) + (length l.set.rules - l.from)

-- the parts behind the calls that are left are done
abbrev pub invariant-replace-calls : goal.invariant-replace-calls
invariant-replace-calls l = record {
  done : List Part;
  parts : parts_of l.fn.parts.fronts l.fn.parts.last ≡ fronts_parts l.fronts.items ++ done;
  before : l.before ≡ tokens_in (fronts_parts l.fronts.items);
  few : l.before ≤ 2000;
  run : Replaced (RunsAt (site_of l.config l.maps) l.left) (tokens_in (fronts_parts l.fronts.items)) done l.work l.fn.values.macros (Ok (record { tokens = l.now.tokens; work = l.now.work; macros = l.values.macros }));
  grew : l.work ≤ l.now.work;
  work : l.now.work ≤ 10000;
  operators : l.values.operators ≡ l.fn.values.operators;
  settled : l.values.after ≡ l.values.macros;
}

abbrev pub decreases-replace-calls : goal.decreases-replace-calls
decreases-replace-calls l = length l.fronts.items
