-- Each of these relations gives an answer.
use Rattle.std.proofs.Common.{◌≡◌, ℕ, List, [], ◌∷◌, Bool, true, false, Option, None, Some, Result, Ok, Err, refl}
use Rattle.std.specs.Prelude.{codes}
use Rattle.mail_base.specs.Catalogs.{value_like}
use Rattle.mail_base.specs.declared.config.Config.{Config}
use Rattle.mail_base.specs.declared.mailer.Mailer.{Mailer}
use Rattle.mail_base.specs.declared.route.Cause.{Cause}
use Rattle.mail_base.specs.declared.route.Cause.TheVariants.{NotResolved, UnknownMailer, NoUser, FileMailer}
use Rattle.mail_base.specs.declared.route.Resolved.{Resolved}
use Rattle.mail_base.specs.declared.route.Resolved.TheVariants.{Goes, Refuses}
use Rattle.mail_base.specs.declared.route.Triple.{Triple}
use Rattle.mail_base.specs.declared.token.Token.{Token}
use Rattle.map_tables.specs.Answers.{Loaded}
use Rattle.ruleset_run.specs.Filling.{is_resolved}
use Rattle.ruleset_run.specs.Sites.{Site, Macros, site_of}
use Rattle.ruleset_run.proofs.RewriteLemmas.{SomeOutcome, some_through, some_passes}
use Rattle.addr_route.specs.declared.aim.Aim.{Aim}
use Rattle.addr_route.specs.declared.form.Form.{Form}
use Rattle.addr_route.specs.declared.form.Form.TheVariants.{Program, File, Plain}
use Rattle.addr_route.specs.Aims.{aim_of, is_error, said_by, is_file, asks_five, is_nil, with_host, triple_of}
use Rattle.addr_route.specs.Errors.{error_of}
use Rattle.addr_route.specs.Forms.{form_of}
use Rattle.addr_route.specs.Routes.{LeadsTo, files, no_user, unwritten, written, Leads, says_error, unknown_mailer, known_mailer, Turns, five_fails, stays, turned, Lands, rules_fail, not_resolved, refused, goes, by_five, Routes, program, file, by_rules, program_by}
use Rattle.ruleset_run.specs.Sets.{Through, user_sets}

module _ (law : SomeOutcome) where
  module _ (config : Config) (maps : Loaded) (macros : Macros) where
    abbrev site : Site
    site = site_of config maps

    module _ (mailer : Mailer) (aim : Aim) where
      abbrev LeadsOn : Type 0
      LeadsOn = (resolved : Resolved) × LeadsTo config maps macros mailer aim resolved

      some_written : is_file mailer ≡ false → is_nil aim.user ≡ false → (answer : Result (List Token) Cause) → Through site (with_host aim.host macros) (user_sets mailer) aim.user answer → LeadsOn
      some_written f n (Err cause) t = (Refuses (error_of cause), unwritten cause f n t)
      some_written f n (Ok user) t = (Goes (triple_of mailer aim.host user), written user f n t)

      some_user : is_file mailer ≡ false → (b : Bool) → is_nil aim.user ≡ b → LeadsOn
      some_user f true n = (Refuses (error_of NoUser), no_user f n)
      some_user f false n = let w = some_through law site (with_host aim.host macros) (user_sets mailer) aim.user in some_written f n w.0 w.1

      some_leads_to : (b : Bool) → is_file mailer ≡ b → LeadsOn
      some_leads_to true f = (Refuses (error_of FileMailer), files f)
      some_leads_to false f = some_user f (is_nil aim.user) refl

    module _ (aim : Aim) where
      abbrev LeadsOff : Type 0
      LeadsOff = (resolved : Resolved) × Leads config maps macros aim resolved

      some_mailer : is_error aim.mailer ≡ false → (m : Option Mailer) → value_like aim.mailer config.mailers ≡ m → LeadsOff
      some_mailer f None e = (Refuses (error_of (UnknownMailer aim.mailer)), unknown_mailer f e)
      some_mailer f (Some mailer) e = let w = some_leads_to mailer aim (is_file mailer) refl in (w.0, known_mailer mailer w.0 f e w.1)

      some_error : (b : Bool) → is_error aim.mailer ≡ b → LeadsOff
      some_error true s = (Refuses (said_by aim), says_error s)
      some_error false f = some_mailer f (value_like aim.mailer config.mailers) refl

      some_leads : LeadsOff
      some_leads = some_error (is_error aim.mailer) refl

    some_turn : (triple : Triple) (list : List Token) (b : Bool) → is_resolved list ≡ b → (resolved : Resolved) × Turns config maps macros triple (Ok list) resolved
    some_turn triple list false f = (Goes triple, stays list f)
    some_turn triple list true t = let w = some_leads (aim_of list) in (w.0, turned list w.0 t w.1)

    some_turns : (triple : Triple) (answer : Result (List Token) Cause) → (resolved : Resolved) × Turns config maps macros triple answer resolved
    some_turns triple (Err cause) = (Refuses (error_of cause), five_fails cause)
    some_turns triple (Ok list) = some_turn triple list (is_resolved list) refl

    module _ (leaf : Bool) where
      module _ (list : List Token) (t : is_resolved list ≡ true) where
        abbrev LandsOn : Type 0
        LandsOn = (resolved : Resolved) × Lands config maps macros leaf (Ok list) resolved

        some_five : (triple : Triple) → Leads config maps macros (aim_of list) (Goes triple) → (b : Bool) → asks_five config.mailers leaf (aim_of list) ≡ b → LandsOn
        some_five triple l false n = (Goes triple, goes list triple t l n)
        some_five triple l true y =
            let w = some_through law site (with_host (aim_of list).host macros) (codes "5" ∷ []) (aim_of list).user in
            let v = some_turns triple w.0 in
            (v.0, by_five list triple w.0 v.0 t l y w.1 v.1)

        some_led : (resolved : Resolved) → Leads config maps macros (aim_of list) resolved → LandsOn
        some_led (Refuses error) l = (Refuses error, refused list error t l)
        some_led (Goes triple) l = some_five triple l (asks_five config.mailers leaf (aim_of list)) refl

      some_list : (list : List Token) (b : Bool) → is_resolved list ≡ b → (resolved : Resolved) × Lands config maps macros leaf (Ok list) resolved
      some_list list false f = (Refuses (error_of NotResolved), not_resolved list f)
      some_list list true t = let w = some_leads (aim_of list) in some_led list t w.0 w.1

      some_lands : (answer : Result (List Token) Cause) → (resolved : Resolved) × Lands config maps macros leaf answer resolved
      some_lands (Err cause) = (Refuses (error_of cause), rules_fail cause)
      some_lands (Ok list) = some_list list (is_resolved list) refl

      some_form : (address : List ℕ) (form : Form) → form_of address ≡ form → (resolved : Resolved) × Routes config maps macros address leaf resolved
      some_form address (Program command) f = (program_by command (value_like (codes "prog") config.mailers), program command f)
      some_form address File f = (Refuses (error_of FileMailer), file f)
      some_form address (Plain text) f =
          let w = some_passes law site macros (codes "3" ∷ codes "0" ∷ []) text in
          let v = some_lands w.0 in
          (v.0, by_rules text w.0 v.0 f w.1 v.1)

    pub some_routes : (address : List ℕ) (leaf : Bool) → (resolved : Resolved) × Routes config maps macros address leaf resolved
    some_routes address leaf = some_form leaf address (form_of address) refl
