-- What `/parse` and `/try` print: one text alone, and some text.
use Rattle.std.proofs.Common.{◌≡◌, ℕ, List, Bool, false, Option, None, Some, refl, sym, ap, ◌∙◌}
use Rattle.std.specs.Prelude.{Result, Ok, Err, IfOk}
use Rattle.mail_base.specs.declared.fault.NoMemory.{NoMemory}
use Rattle.mail_base.specs.declared.config.Config.{Config}
use Rattle.mail_base.specs.declared.mailer.Mailer.{Mailer}
use Rattle.mail_base.specs.declared.route.Resolved.{Resolved}
use Rattle.map_tables.specs.Answers.{Loaded}
use Rattle.ruleset_run.specs.Sites.{Macros, Site, site_of}
use Rattle.ruleset_run.specs.declared.rewritten.Rewritten.{Rewritten}
use Rattle.addr_route.specs.Routes.{Routes}
use Rattle.addr_route.specs.Sets.{Rewrites, recipient_sets, sender_sets}
use Rattle.addr_test.specs.Answers.{RewritesUnder, TellsBoth, TellsRoute, TellsTry}
use Rattle.addr_test.specs.Texts.{route_text, try_text}

-- an address has one route
abbrev pub IsOneRoute : Type 0
IsOneRoute = (config : Config) (maps : Loaded) (macros : Macros) (address : List ℕ) (leaf : Bool) (one another : Resolved)
    → Routes config maps macros address leaf one → Routes config maps macros address leaf another → one ≡ another

-- an address is rewritten in one way
abbrev pub IsOneRewriting : Type 0
IsOneRewriting = (site : Site) (macros : Macros) (sets : List (List ℕ)) (address : List ℕ) (one another : Rewritten)
    → Rewrites site macros sets address one → Rewrites site macros sets address another → one ≡ another

-- an address has a route
abbrev pub HasRoute : Type 0
HasRoute = (config : Config) (maps : Loaded) (macros : Macros) (address : List ℕ) (leaf : Bool) → (resolved : Resolved) × Routes config maps macros address leaf resolved

-- an address is rewritten, or refused
abbrev pub HasRewriting : Type 0
HasRewriting = (site : Site) (macros : Macros) (sets : List (List ℕ)) (address : List ℕ) → (rewritten : Rewritten) × Rewrites site macros sets address rewritten

module _ (maps : Loaded) (config : Config) where
  -- the route of an address is printed in one way
  pub one_route_told : IsOneRoute → (address one another : List ℕ) → TellsRoute maps config address one → TellsRoute maps config address another → one ≡ another
  one_route_told law address one another a b = a.2 ∙ ap route_text (law config maps config.macros address false a.0 b.0 a.1 b.1) ∙ sym b.2

  one_both_told : IsOneRewriting → (address : List ℕ) (mailer : Mailer) (one another : List ℕ) → TellsBoth maps config address mailer one → TellsBoth maps config address mailer another → one ≡ another
  one_both_told law address mailer one another a b =
      let sender : a.0 ≡ b.0 = law (site_of config maps) config.macros (sender_sets mailer) address a.0 b.0 a.2 b.2 in
      let recipient : a.1 ≡ b.1 = law (site_of config maps) config.macros (recipient_sets mailer) address a.1 b.1 a.3 b.3 in
      a.4 ∙ ap (λ (s : Rewritten). try_text s a.1) sender ∙ ap (λ (r : Rewritten). try_text b.0 r) recipient ∙ sym b.4

  -- both are told by the text of the two
  pub both_told : (address : List ℕ) (mailer : Mailer) (sender recipient : Rewritten) (result : Result (List ℕ) NoMemory) → RewritesUnder maps config (sender_sets mailer) address sender → RewritesUnder maps config (recipient_sets mailer) address recipient
      → IfOk result (λ text. text ≡ try_text sender recipient) → IfOk result (TellsBoth maps config address mailer)
  both_told address mailer sender recipient (Ok text) s r is = (sender, recipient, s, r, is)
  both_told address mailer sender recipient (Err none) s r is = tt

  -- an address is tried in one way
  pub one_try_told : IsOneRewriting → (name address : List ℕ) (mailer : Option Mailer) (one another : List ℕ) → TellsTry maps config name address mailer one → TellsTry maps config name address mailer another → one ≡ another
  one_try_told law name address None one another a b = a ∙ sym b
  one_try_told law name address (Some mailer) one another a b = one_both_told law address mailer one another a b

  pub some_route_told : HasRoute → (address : List ℕ) → (text : List ℕ) × TellsRoute maps config address text
  some_route_told law address = let route = law config maps config.macros address false in (route_text route.0, (route.0, route.1, refl))

  some_both_told : HasRewriting → (address : List ℕ) (mailer : Mailer) → (text : List ℕ) × TellsBoth maps config address mailer text
  some_both_told law address mailer =
      let sender = law (site_of config maps) config.macros (sender_sets mailer) address in
      let recipient = law (site_of config maps) config.macros (recipient_sets mailer) address in
      (try_text sender.0 recipient.0, (sender.0, recipient.0, sender.1, recipient.1, refl))

  pub some_try_told : HasRewriting → (name address : List ℕ) (mailer : Option Mailer) → (text : List ℕ) × TellsTry maps config name address mailer text
  some_try_told law name address None = (_, refl)
  some_try_told law name address (Some mailer) = some_both_told law address mailer
