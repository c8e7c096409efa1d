use Rattle.std.proofs.Common.{sym, ap, subst, [], ◌∷◌, ◌++◌, ◌∙◌}
use Rattle.mail_core.specs.declared.serving.Core.{Core}
use Rattle.mail_core.specs.Guests.{newcomer}
use Rattle.mail_core.specs.Standing.{Stands}
use Rattle.mail_core.proofs.SpeechLemmas.{open_of}
use Rattle.mail_core.proofs.CoreLemmas.{is_crowded, is_there, opens_full, opens_here, opens_lacking, opens_new, opens_unsent, stands_as, stands_more}
use Rattle.mail_core.proofs.serving.Core.open.Goals as goal

pub returns-then-is_some-clause-opens : goal.returns-then-is_some-clause-opens
returns-then-is_some-clause-opens g c = λ site m st.
    opens_here site m c.args.session c.args.peer.now c.args.self.now _ (is_there site m c.args.self.now st c.args.session _ c.place_of.ensures ∙ sym c.if-is_some.ensures) st

pub returns-then-is_full-clause-opens : goal.returns-then-is_full-clause-opens
returns-then-is_full-clause-opens g c = λ site m st.
    opens_full site m c.args.session c.args.peer.now c.args.self.now _ _ c.args.self.now.full c.turn_away.ensures.told.0
    (is_there site m c.args.self.now st c.args.session _ c.place_of.ensures ∙ sym c.if-is_some.ensures)
    (sym (is_crowded site m c.args.self.now st) ∙ sym c.if-is_full.ensures) st.full c.turn_away.ensures.told.1 st

pub returns-then-say-clause-opens : goal.returns-then-say-clause-opens
returns-then-say-clause-opens g c = λ site m st.
    let self = c.args.self.now in
    let new = is_there site m self st c.args.session _ c.place_of.ensures ∙ sym c.if-is_some.ensures in
    let free = sym (is_crowded site m self st) ∙ sym c.if-is_full.ensures in
    opens_new site m c.args.session c.args.peer.now _ new free _ _ c.in-Ok.greeting (c.in-Ok.ensures.greeting site st.host) c.if-say.ensures.told
    (subst (λ (k : Core). Stands site (record k { callers = c.push_reserved.new.self }) (record m { guests = m.guests ++ newcomer site.config c.args.session c.args.peer.now ∷ [] })) (sym c.in-Ok.ensures.same)
    (stands_more site m self (record self { callers = c.push_reserved.new.self }) c.args.session c.args.peer.now c.in-Ok.caller st free new (c.in-Ok.ensures.keeps site st.host)
    (c.push_reserved.ensures.items ∙ ap (λ q. q ++ c.in-Ok.caller ∷ []) c.in-Ok.ensures.callers)))

pub returns-else-say-clause-opens : goal.returns-else-say-clause-opens
returns-else-say-clause-opens g c = λ site m st.
    let self = c.args.self.now in
    opens_unsent site m c.args.session c.args.peer.now _ (is_there site m self st c.args.session _ c.place_of.ensures ∙ sym c.if-is_some.ensures) (sym (is_crowded site m self st) ∙ sym c.if-is_full.ensures) _ _
    c.in-Ok.greeting (c.in-Ok.ensures.greeting site st.host) c.if-say.ensures.told (stands_as site m self st c.caller_of.new.self c.in-Ok.ensures.same c.in-Ok.ensures.callers)

pub returns-in-Err-clause-opens : goal.returns-in-Err-clause-opens
returns-in-Err-clause-opens g c = λ site m st.
    let self = c.args.self.now in
    opens_lacking site m c.args.session c.args.peer.now _ (is_there site m self st c.args.session _ c.place_of.ensures ∙ sym c.if-is_some.ensures) (sym (is_crowded site m self st) ∙ sym c.if-is_full.ensures) _ _
    c.hang_up.ensures.told (stands_as site m self st c.caller_of.new.self c.in-Err.ensures.same c.in-Err.ensures.callers)

pub hang_up-requires : goal.hang_up-requires
hang_up-requires g c = record { live = open_of _ c.args.session c.requires.sound }
