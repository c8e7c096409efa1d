-- A receiver of returned mail has one list of rows, and these are in their form.
use Rattle.std.proofs.Common.{◌≡◌, ℕ, ◌≤◌, List, [], ◌∷◌, Bool, true, Option, Some, Result, Ok, Err, IfOk, refl, sym, ◌∙◌, subst, ap, arith}
use Rattle.std.proofs.lemmas.List.Elements.{All-cons, All-nil}
use Rattle.mail_base.specs.Drawing.{AreDrawn, IsReturned, null_sender}
use Rattle.mail_base.specs.Limits.{most_rows}
use Rattle.mail_base.specs.Texts.{IsAddress}
use Rattle.mail_base.specs.declared.draw.Draw.{Draw}
use Rattle.mail_base.specs.declared.fault.JudgeFault.{JudgeFault}
use Rattle.mail_base.specs.declared.route.Resolved.{Resolved}
use Rattle.mail_edge.specs.Seen.{FileMap}
use Rattle.ruleset_run.specs.Sites.{Macros}
use Rattle.alias_expand.specs.Rows.{Expands, HoldsOf, IsMeant, RoutesTo, Site}
use Rattle.alias_expand.specs.declared.refusal.ExpandRefusal.{ExpandRefusal}
use Rattle.alias_expand.specs.declared.refusal.ExpandRefusal.TheVariants as refusals
use Rattle.mail_judge.specs.Judged.{Grounds, site_in}
use Rattle.mail_judge.specs.Returned.{IsItself, ReturnsTo, by_aliases, as_itself, itself_row, returning_site}

abbrev Outcome : Type 0
Outcome = Result (List Draw) ExpandRefusal

abbrev refused : ExpandRefusal → Outcome
refused refusal = Err refusal

abbrev rows_are : List Draw → Outcome
rows_are rows = Ok rows

-- ---- laws

-- an address comes to one outcome
abbrev pub IsOneExpansion : Type 0
IsOneExpansion = (site : Site) (files : FileMap) (address sender : List ℕ) (one another : Outcome)
    → Expands site (Some files) address sender one → Expands site (Some files) address sender another → one ≡ another

-- it has one route
abbrev pub IsOneRoute : Type 0
IsOneRoute = (site : Site) (address : List ℕ) (leaf : Bool) (one another : Resolved)
    → RoutesTo site address leaf one → RoutesTo site address leaf another → one ≡ another

module _ (one_expansion : IsOneExpansion) (one_route : IsOneRoute) (grounds : Grounds) (files : FileMap) (address : List ℕ) where
  abbrev outcome : (one another : Outcome) → Expands (returning_site grounds) (Some files) address null_sender one → Expands (returning_site grounds) (Some files) address null_sender another → one ≡ another
  outcome = one_expansion (returning_site grounds) files address null_sender

  one_itself : (one another : List Draw) → IsItself (returning_site grounds) address one → IsItself (returning_site grounds) address another → one ≡ another
  one_itself one another k l = k.1.1 ∙ ap (λ (resolved : Resolved). itself_row address resolved ∷ []) (one_route (returning_site grounds) address true k.0 l.0 k.1.0 l.1.0) ∙ sym l.1.1

  -- a receiver has one list of rows
  pub one_list : (one another : List Draw) → ReturnsTo grounds (Some files) address one → ReturnsTo grounds (Some files) address another → one ≡ another
  one_list one another (by_aliases rows x) (by_aliases others y) = let same : rows_are rows ≡ rows_are others = outcome (rows_are rows) (rows_are others) x y in cc same
  one_list one another (by_aliases rows x) (as_itself s others y l) = absurd (cc (outcome (rows_are rows) (refused s) x y))
  one_list one another (as_itself r rows x k) (by_aliases others y) = absurd (cc (outcome (refused r) (rows_are others) x y))
  one_list one another (as_itself r rows x k) (as_itself s others y l) = one_itself rows others k l

-- an address comes to an outcome
abbrev pub IsSomeExpansion : Type 0
IsSomeExpansion = (site : Site) (files : FileMap) (address sender : List ℕ) → (outcome : Outcome) × (Expands site (Some files) address sender outcome × IsMeant outcome)

-- it has a route
abbrev pub IsSomeRoute : Type 0
IsSomeRoute = (site : Site) (address : List ℕ) (leaf : Bool) → (resolved : Resolved) × RoutesTo site address leaf resolved

-- each receiver has rows
pub some_list : IsSomeExpansion → IsSomeRoute → (grounds : Grounds) (files : FileMap) (address : List ℕ) → (rows : List Draw) × ReturnsTo grounds (Some files) address rows
some_list some_expansion some_route grounds files address = let o = some_expansion (returning_site grounds) files address null_sender in by o.0 o.1.0
  where
    by : (outcome : Outcome) → Expands (returning_site grounds) (Some files) address null_sender outcome → (rows : List Draw) × ReturnsTo grounds (Some files) address rows
    by (Ok rows) x = (rows, by_aliases rows x)
    by (Err refusal) x = let r = some_route (returning_site grounds) address true in (_, as_itself refusal (itself_row address r.0 ∷ []) x (r.0, (r.1, refl)))

-- ---- forms

one_row : 1 ≤ most_rows
unfolding most_rows
one_row = omega arith

itself_form : (address : List ℕ) (resolved : Resolved) → IsAddress address → AreDrawn (itself_row address resolved ∷ [])
itself_form address resolved form = record {
  some = omega arith;
  few = one_row;
  each = All-cons IsReturned (itself_row address resolved) [] (record { sender = refl; address = form }) (All-nil IsReturned);
}

-- ---- rows

-- what is meant is no fault of files or memory
held : (P : Outcome → Type 0) (refusal : ExpandRefusal) → IsMeant (refused refusal) → HoldsOf (refused refusal) P → P (refused refusal)
held P (refusals.Refuses e) m p = p
held P refusals.TooDeep m p = p
held P refusals.TooMany m p = p
held P (refusals.IncludeAbsent name) m p = p
held P refusals.NoOne m p = p
held P refusals.FilesFault m p = absurd m
held P refusals.NoMemory m p = absurd m

module _ (grounds : Grounds) (files : Option FileMap) (macros : Macros) (address sender : List ℕ) where
  -- the macros are those of the configuration, and the sender is the null sender
  here : macros ≡ grounds.config.macros → sender ≡ null_sender → (outcome : Outcome) → Expands (site_in grounds macros) files address sender outcome → Expands (returning_site grounds) files address null_sender outcome
  here set null outcome holds =
      let sent : Expands (site_in grounds macros) files address null_sender outcome = subst (λ (s : List ℕ). Expands (site_in grounds macros) files address s outcome) null holds in
      subst (λ (m : Macros). Expands (site_in grounds m) files address null_sender outcome) set sent

  -- its aliases give it rows
  pub by_rows : macros ≡ grounds.config.macros → sender ≡ null_sender → (rows : List Draw) → Expands (site_in grounds macros) files address sender (Ok rows) → ReturnsTo grounds files address rows
  by_rows set null rows holds = by_aliases rows (here set null (Ok rows) holds)

  -- they give it none
  pub by_refusal : macros ≡ grounds.config.macros → sender ≡ null_sender → (refusal : ExpandRefusal) (result : Result (List Draw) JudgeFault) → HoldsOf (refused refusal) (Expands (site_in grounds macros) files address sender) → IfOk result (λ rows. IsMeant (refused refusal)) → IfOk result (IsItself (site_in grounds macros) address) → IfOk result (ReturnsTo grounds files address)
  by_refusal set null refusal (Err fault) holds meant itself = tt
  by_refusal set null refusal (Ok rows) holds meant itself =
      let mine : Expands (site_in grounds macros) files address sender (refused refusal) = held (Expands (site_in grounds macros) files address sender) refusal meant holds in
      as_itself refusal rows (here set null (refused refusal) mine) (subst (λ (m : Macros). IsItself (site_in grounds m) address rows) set itself)

pub refusal_form : (site : Site) (address : List ℕ) (result : Result (List Draw) JudgeFault) → IsAddress address → IfOk result (IsItself site address) → IfOk result AreDrawn
refusal_form site address (Err fault) form itself = tt
refusal_form site address (Ok rows) form itself = subst AreDrawn (sym itself.1.1) (itself_form address itself.0 form)
