-- How the steps of a route end.
use Rattle.std.proofs.Common.{◌≡◌, ◌∷◌, [], Bool, true, false, Ok, Err, subst}
use Rattle.mail_base.specs.declared.route.Cause.{Cause}
use Rattle.mail_base.specs.declared.route.Resolved.{Resolved}
use Rattle.mail_base.specs.declared.route.Resolved.TheVariants.{Goes, Refuses}
use Rattle.mail_base.specs.declared.route.RouteError.{RouteError}
use Rattle.mail_base.specs.declared.token.Token.{Token}
use Rattle.std.specs.Prelude.{List, Result, codes}
use Rattle.mail_base.specs.declared.config.Config.{Config}
use Rattle.map_tables.specs.Answers.{Loaded}
use Rattle.ruleset_run.specs.Filling.{is_resolved}
use Rattle.ruleset_run.specs.Sites.{Macros, site_of}
use Rattle.addr_route.specs.declared.aim.Aim.{Aim}
use Rattle.addr_route.specs.Aims.{aim_of, asks_five, with_host}
use Rattle.addr_route.specs.Routes.{Leads, Turns, turned, Lands, refused, goes, by_five}
use Rattle.ruleset_run.specs.Sets.{Through}
use Rattle.mail_base.specs.declared.route.Triple.{Triple}
use Rattle.ruleset_run.specs.declared.refusal.Refusal.{Refusal}
use Rattle.ruleset_run.specs.declared.refusal.Refusal.TheVariants as refusals
use Rattle.addr_route.specs.declared.fault.Stop.{Stop}
use Rattle.addr_route.specs.declared.fault.Stop.TheVariants as stops
use Rattle.addr_route.specs.Errors.{error_of}
use Rattle.addr_route.specs.inner.Answers.{Tells, TellsStop, of_refusal}
use Rattle.ruleset_run.specs.Refusals.{MeetsFault}

-- a refusal of tokens refuses the address
pub refuses : (P : Result (List Token) Cause → Type 0) (Q : Resolved → Type 0) → ((why : Cause) → P (Err why) → Q (Refuses (error_of why))) → (refusal : Refusal) → MeetsFault refusal P → TellsStop (of_refusal refusal) Q
refuses P Q go (refusals.Because why) h = go why h
refuses P Q go refusals.NoMemory h = tt

-- a stop stays one
pub stops_so : (P Q : Resolved → Type 0) → ((error : RouteError) → P (Refuses error) → Q (Refuses error)) → (stop : Stop) → TellsStop stop P → TellsStop stop Q
stops_so P Q go (stops.Because why) h = go (error_of why) h
stops_so P Q go (stops.Says error) h = go error h
stops_so P Q go stops.NoMemory h = tt

-- what the code tells of a resolved address may be said more weakly
pub tells_so : (P Q : Resolved → Type 0) → ((resolved : Resolved) → P resolved → Q resolved) → (result : Result Triple Stop) → Tells result P → Tells result Q
tells_so P Q go (Ok triple) h = go (Goes triple) h
tells_so P Q go (Err stop) h = stops_so P Q (λ error. go (Refuses error)) stop h

-- ---- a list that is resolved, with what it says

module _ (config : Config) (maps : Loaded) (macros : Macros) (list : List Token) (aim : Aim) (is : aim ≡ aim_of list) (on : is_resolved list ≡ true) where
  pub turn_led : (triple : Triple) (resolved : Resolved) → Leads config maps macros aim resolved → Turns config maps macros triple (Ok list) resolved
  turn_led triple resolved l = turned list resolved on (subst (λ (x : Aim). Leads config maps macros x resolved) is l)

  module _ (leaf : Bool) where
    pub land_refused : (error : RouteError) → Leads config maps macros aim (Refuses error) → Lands config maps macros leaf (Ok list) (Refuses error)
    land_refused error l = refused list error on (subst (λ (x : Aim). Leads config maps macros x (Refuses error)) is l)

    module _ (triple : Triple) (l : Leads config maps macros aim (Goes triple)) where
      pub land_goes : asks_five config.mailers leaf aim ≡ false → Lands config maps macros leaf (Ok list) (Goes triple)
      land_goes off = goes list triple on (subst (λ (x : Aim). Leads config maps macros x (Goes triple)) is l) (subst (λ (x : Aim). asks_five config.mailers leaf x ≡ false) is off)

      pub land_five : asks_five config.mailers leaf aim ≡ true → (resolved : Resolved) (answer : Result (List Token) Cause) → Through (site_of config maps) (with_host aim.host macros) (codes "5" ∷ []) aim.user answer
          → Turns config maps macros triple answer resolved → Lands config maps macros leaf (Ok list) resolved
      land_five asked resolved answer t u =
          by_five list triple answer resolved on (subst (λ (x : Aim). Leads config maps macros x (Goes triple)) is l) (subst (λ (x : Aim). asks_five config.mailers leaf x ≡ true) is asked)
          (subst (λ (x : Aim). Through (site_of config maps) (with_host x.host macros) (codes "5" ∷ []) x.user answer) is t) u
