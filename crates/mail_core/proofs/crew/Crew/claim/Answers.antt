-- An entry is held and off the list.
use Rattle.std.proofs.Common.{◌≡◌, ◌∙◌, ◌++◌, ◌∷◌, [], Contains, ap, subst, sym}
use Rattle.std.specs.Option.{option_map}
use Rattle.mail_base.specs.declared.control.Entry.{Entry}
use Rattle.spool_store.specs.Keepers.{seen}
use Rattle.queue_table.specs.Claims.{lane_of}
use Rattle.mail_core.specs.Holding.{without_id}
use Rattle.mail_core.specs.declared.crew.Crew.{Crew}
use Rattle.mail_core.proofs.crew.Crew.claim.Goals as goal

pub returns-clause-holds : goal.returns-clause-holds
returns-clause-holds c = λ h among is.
    let e : c.entry.result.now ≡ h.entry = c.entry.ensures.is h (subst (λ q. Contains (seen q).entries h) (sym c.queue.ensures) among) is in record {
      runners = ap (λ (q : Crew). q.runners.items) c.unlist.ensures.same ∙ c.reserve.ensures.items;
      list = c.unlist.ensures.list ∙ ap (λ n. option_map (without_id n) c.args.self.now.list) (sym is);
      waiting = ap (λ (q : Crew). q.waiting) c.unlist.ensures.same
          ∙ (c.in_ok-hold.ensures.ok
          ∙ ap (λ (x : Entry). record c.args.self.now.waiting { holders = c.args.self.now.waiting.holders ++ record { id = x.id; lane = (lane_of c.args.self.now.waiting x.control.group).group } ∷ []; quiet = 0 }) e);
    }
