-- What the steps of a route return, by what they are to give.
use Rattle.std.specs.Prelude.{Result, Ok, Err}
use Rattle.mail_base.specs.declared.route.Resolved.{Resolved}
use Rattle.mail_base.specs.declared.route.Resolved.TheVariants.{Goes, Refuses}
use Rattle.mail_base.specs.declared.route.Triple.{Triple}
use Rattle.ruleset_run.specs.declared.refusal.Refusal.{Refusal}
use Rattle.ruleset_run.specs.declared.refusal.Refusal.TheVariants as refusals
use Rattle.addr_route.specs.declared.fault.Stop.{Stop}
use Rattle.addr_route.specs.declared.fault.Stop.TheVariants as stops
use Rattle.addr_route.specs.Errors.{error_of}

abbrev pub TellsStop : Stop → (Resolved → Type 0) → Type 0
TellsStop (stops.Because cause) P = P (Refuses (error_of cause))
TellsStop (stops.Says error) P = P (Refuses error)
TellsStop stops.NoMemory P = Unit {0}

-- it is a route with P, unless there was no memory
abbrev pub Tells : Result Triple Stop → (Resolved → Type 0) → Type 0
Tells (Ok triple) P = P (Goes triple)
Tells (Err stop) P = TellsStop stop P

abbrev pub of_refusal : Refusal → Stop
of_refusal (refusals.Because cause) = stops.Because cause
of_refusal refusals.NoMemory = stops.NoMemory
