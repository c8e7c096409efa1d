-- Each of these relations gives one answer.
use Rattle.std.proofs.Common.{◌≡◌, ℕ, List, [], ◌∷◌, Bool, Option, Result, refl, ap, subst}
use Rattle.std.specs.Prelude.{codes}
use Rattle.mail_base.specs.Catalogs.{value_like}
use Rattle.mail_base.specs.declared.config.Config.{Config}
use Rattle.mail_base.specs.declared.mailer.Mailer.{Mailer}
use Rattle.mail_base.specs.declared.route.Cause.{Cause}
use Rattle.mail_base.specs.declared.route.Resolved.{Resolved}
use Rattle.mail_base.specs.declared.route.Resolved.TheVariants.{Goes, Refuses}
use Rattle.mail_base.specs.declared.route.RouteError.{RouteError}
use Rattle.mail_base.specs.declared.route.Triple.{Triple}
use Rattle.mail_base.specs.declared.token.Token.{Token}
use Rattle.map_tables.specs.Answers.{Loaded}
use Rattle.ruleset_run.specs.Sites.{Site, Macros, site_of}
use Rattle.ruleset_run.proofs.RewriteLemmas.{OneOutcome, one_through, one_passes}
use Rattle.addr_route.specs.declared.aim.Aim.{Aim}
use Rattle.addr_route.specs.Aims.{aim_of, with_host, triple_of}
use Rattle.addr_route.specs.Checks.{Checks, unchecked, checked, verdict}
use Rattle.addr_route.specs.Errors.{error_of}
use Rattle.addr_route.specs.Routes.{LeadsTo, files, no_user, unwritten, written, Leads, says_error, unknown_mailer, known_mailer, Turns, five_fails, stays, turned, Lands, rules_fail, not_resolved, refused, goes, by_five, Routes, program, file, by_rules, program_by}
use Rattle.addr_route.specs.Senders.{Sends, null, sends, sent}
use Rattle.ruleset_run.specs.Sets.{Passes}

module _ (law : OneOutcome) where
  module _ (config : Config) (maps : Loaded) (macros : Macros) where
    abbrev site : Site
    site = site_of config maps

    -- ---- a mailer, a host and a user

    module _ (mailer : Mailer) (aim : Aim) where
      one_leads_to : {a b : Resolved} → LeadsTo config maps macros mailer aim a → LeadsTo config maps macros mailer aim b → a ≡ b
      one_leads_to (files f) (files _) = refl
      one_leads_to (files f) (no_user g _) = absurd (cc (f, g))
      one_leads_to (files f) (unwritten _ g _ _) = absurd (cc (f, g))
      one_leads_to (files f) (written _ g _ _) = absurd (cc (f, g))
      one_leads_to (no_user f n) (files g) = absurd (cc (f, g))
      one_leads_to (no_user f n) (no_user _ _) = refl
      one_leads_to (no_user f n) (unwritten _ _ m _) = absurd (cc (n, m))
      one_leads_to (no_user f n) (written _ _ m _) = absurd (cc (n, m))
      one_leads_to (unwritten cause f n t) (files g) = absurd (cc (f, g))
      one_leads_to (unwritten cause f n t) (no_user _ m) = absurd (cc (n, m))
      one_leads_to (unwritten cause f n t) (unwritten cause' _ _ t') =
          let e = one_through law site (with_host aim.host macros) t t' in
          let same : cause ≡ cause' = cc in
          ap (λ c. Refuses (error_of c)) same
      one_leads_to (unwritten cause f n t) (written user _ _ t') = let e = one_through law site (with_host aim.host macros) t t' in absurd (cc e)
      one_leads_to (written user f n t) (files g) = absurd (cc (f, g))
      one_leads_to (written user f n t) (no_user _ m) = absurd (cc (n, m))
      one_leads_to (written user f n t) (unwritten cause _ _ t') = let e = one_through law site (with_host aim.host macros) t t' in absurd (cc e)
      one_leads_to (written user f n t) (written user' _ _ t') =
          let e = one_through law site (with_host aim.host macros) t t' in
          let same : user ≡ user' = cc in
          ap (λ u. Goes (triple_of mailer aim.host u)) same

    one_leads : {aim : Aim} {a b : Resolved} → Leads config maps macros aim a → Leads config maps macros aim b → a ≡ b
    one_leads (says_error s) (says_error _) = refl
    one_leads (says_error s) (unknown_mailer f _) = absurd (cc (s, f))
    one_leads (says_error s) (known_mailer _ _ f _ _) = absurd (cc (s, f))
    one_leads (unknown_mailer f n) (says_error s) = absurd (cc (s, f))
    one_leads (unknown_mailer f n) (unknown_mailer _ _) = refl
    one_leads (unknown_mailer f n) (known_mailer _ _ _ m _) = absurd (cc (n, m))
    one_leads (known_mailer mailer a f m l) (says_error s) = absurd (cc (s, f))
    one_leads (known_mailer mailer a f m l) (unknown_mailer _ n) = absurd (cc (n, m))
    one_leads {aim} (known_mailer mailer a f m l) (known_mailer mailer' b _ m' l') =
        let same : mailer' ≡ mailer = cc (m, m') in
        one_leads_to mailer aim l (subst (λ x. LeadsTo config maps macros x aim b) same l')

    -- ---- what rules give

    one_turns : {triple : Triple} {answer : Result (List Token) Cause} {a b : Resolved} → Turns config maps macros triple answer a → Turns config maps macros triple answer b → a ≡ b
    one_turns (five_fails cause) (five_fails _) = refl
    one_turns (stays list f) (stays _ _) = refl
    one_turns (stays list f) (turned _ _ t _) = absurd (cc (f, t))
    one_turns (turned list a t l) (stays _ f) = absurd (cc (f, t))
    one_turns (turned list a t l) (turned _ b _ l') = one_leads l l'

    one_lands : {leaf : Bool} {answer : Result (List Token) Cause} {a b : Resolved} → Lands config maps macros leaf answer a → Lands config maps macros leaf answer b → a ≡ b
    one_lands (rules_fail cause) (rules_fail _) = refl
    one_lands (not_resolved list f) (not_resolved _ _) = refl
    one_lands (not_resolved list f) (refused _ _ t _) = absurd (cc (f, t))
    one_lands (not_resolved list f) (goes _ _ t _ _) = absurd (cc (f, t))
    one_lands (not_resolved list f) (by_five _ _ _ _ t _ _ _ _) = absurd (cc (f, t))
    one_lands (refused list error t l) (not_resolved _ f) = absurd (cc (f, t))
    one_lands (refused list error t l) (refused _ error' _ l') = one_leads l l'
    one_lands (refused list error t l) (goes _ triple _ l' _) = one_leads l l'
    one_lands (refused list error t l) (by_five _ triple _ _ _ l' _ _ _) = let e = one_leads l l' in absurd (cc e)
    one_lands (goes list triple t l n) (not_resolved _ f) = absurd (cc (f, t))
    one_lands (goes list triple t l n) (refused _ error _ l') = one_leads l l'
    one_lands (goes list triple t l n) (goes _ triple' _ l' _) = one_leads l l'
    one_lands (goes list triple t l n) (by_five _ _ _ _ _ _ y _ _) = absurd (cc (n, y))
    one_lands (by_five list triple answer a t l y h u) (not_resolved _ f) = absurd (cc (f, t))
    one_lands (by_five list triple answer a t l y h u) (refused _ error _ l') = let e = one_leads l l' in absurd (cc e)
    one_lands (by_five list triple answer a t l y h u) (goes _ _ _ _ n) = absurd (cc (n, y))
    one_lands (by_five list triple answer a t l y h u) (by_five _ triple' answer' b _ l' _ h' u') =
        let e = one_leads l l' in
        let same : triple' ≡ triple = cc in
        let alike : answer' ≡ answer = one_through law site (with_host (aim_of list).host macros) h' h in
        one_turns u (subst (λ x. Turns config maps macros x answer b) same (subst (λ x. Turns config maps macros triple' x b) alike u'))

    -- ---- addresses

    pub one_routes : {address : List ℕ} {leaf : Bool} {a b : Resolved} → Routes config maps macros address leaf a → Routes config maps macros address leaf b → a ≡ b
    one_routes (program command f) (program command' g) =
        let same : command ≡ command' = cc (f, g) in
        ap (λ c. program_by c (value_like (codes "prog") config.mailers)) same
    one_routes (program command f) (file g) = absurd (cc (f, g))
    one_routes (program command f) (by_rules text answer b g p l) = absurd (cc (f, g))
    one_routes (file f) (program command g) = absurd (cc (f, g))
    one_routes (file f) (file _) = refl
    one_routes (file f) (by_rules text answer b g p l) = absurd (cc (f, g))
    one_routes (by_rules text answer a f p l) (program command g) = absurd (cc (f, g))
    one_routes (by_rules text answer a f p l) (file g) = absurd (cc (f, g))
    one_routes {address} {leaf} (by_rules text answer a f p l) (by_rules text' answer' b g p' l') =
        let same : text' ≡ text = cc (f, g) in
        let alike : answer' ≡ answer = one_passes law site macros (subst (λ x. Passes site macros (codes "3" ∷ codes "0" ∷ []) x answer') same p') p in
        one_lands l (subst (λ x. Lands config maps macros leaf x b) alike l')

    pub one_checks : {set address : List ℕ} {a b : Option RouteError} → Checks config maps macros set address a → Checks config maps macros set address b → a ≡ b
    one_checks (unchecked n) (unchecked _) = refl
    one_checks (unchecked n) (checked rules answer m p) = absurd (cc (n, m))
    one_checks (checked rules answer m p) (unchecked n) = absurd (cc (n, m))
    one_checks (checked rules answer m p) (checked _ answer' _ p') = ap verdict (one_passes law site macros p p')

    pub one_sends : {mailer : Mailer} {address : List ℕ} {a b : List ℕ} → Sends config maps macros mailer address a → Sends config maps macros mailer address b → a ≡ b
    one_sends (null t) (null _) = refl
    one_sends (null t) (sends answer f p) = absurd (cc (f, t))
    one_sends (sends answer f p) (null t) = absurd (cc (f, t))
    one_sends {address = address} (sends answer f p) (sends answer' _ p') = ap (sent address) (one_passes law site macros p p')
