-- What is returned of tokens that go through rulesets, by what these give.
use Rattle.std.specs.Prelude.{List, Result, Ok, Err}
use Rattle.mail_base.specs.declared.route.Cause.{Cause}
use Rattle.mail_base.specs.declared.token.Token.{Token}
use Rattle.addr_tokens.specs.declared.fault.ScanFault.{ScanFault}
use Rattle.addr_tokens.specs.declared.fault.ScanFault.TheVariants as scans
use Rattle.ruleset_run.specs.declared.fault.RunFault.{RunFault}
use Rattle.ruleset_run.specs.declared.fault.RunFault.TheVariants as faults
use Rattle.ruleset_run.specs.declared.refusal.Refusal.{Refusal}
use Rattle.ruleset_run.specs.declared.refusal.Refusal.TheVariants as refusals
use Rattle.ruleset_run.specs.Sets.{run_cause, scan_cause}

abbrev pub MeetsFault : Refusal → (Result (List Token) Cause → Type 0) → Type 0
MeetsFault (refusals.Because cause) P = P (Err cause)
MeetsFault refusals.NoMemory P = Unit {0}

-- it is an answer with P, unless there was no memory
abbrev pub Meets : Result (List Token) Refusal → (Result (List Token) Cause → Type 0) → Type 0
Meets (Ok tokens) P = P (Ok tokens)
Meets (Err refusal) P = MeetsFault refusal P

abbrev pub of_run : RunFault → Refusal
of_run faults.NoMemory = refusals.NoMemory
of_run fault = refusals.Because (run_cause fault)

abbrev pub of_scan : ScanFault → Refusal
of_scan scans.NoMemory = refusals.NoMemory
of_scan fault = refusals.Because (scan_cause fault)
