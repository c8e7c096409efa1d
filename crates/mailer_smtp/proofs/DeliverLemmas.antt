-- Hosts, one after the other.
use Rattle.std.proofs.Common.{◌≡◌, ◌≤◌, ◌<◌, ◌-◌, ℕ, zero, suc, Bool, true, false, cond, List, [], ◌∷◌, ◌++◌, map, length, take, drop, get_or, take_all, refl, sym, ◌∙◌, ap, subst, arith, rules}
use Rattle.std.specs.Prelude.{◌||◌, nat_eq, Result, Ok, Err, OnOk, is_ok}
use Rattle.mail_base.specs.declared.fault.Failed.{Failed as FailedCall}
use Rattle.std.specs.List.{list_any}
use Rattle.mail_base.specs.declared.outcome.Result1.{Result1}
use Rattle.mail_base.specs.Histories.{Gains, Rose, HasCause}
use Rattle.mail_base.specs.Scripts.{one_more}
use Rattle.mail_base.proofs.Gaining.{gains_none, gains_join}
use Rattle.link_edge.specs.declared.dial_event.DialEvent.TheVariants.{Dialled, Undialled, Wrote, Unwritten, Closed}
use Rattle.link_edge.specs.declared.peer.Peer.{Peer}
use Rattle.link_edge.specs.Lines.{dial_events, write_event}
use Rattle.link_edge.specs.Dials.{DialSeen, KeepsMissed}
use Rattle.mailer_smtp.specs.declared.kit.Kit.{Kit}
use Rattle.mailer_smtp.specs.declared.kit.Speech.{Speech}
use Rattle.mailer_smtp.specs.declared.letter.Letter.{Letter}
use Rattle.mailer_smtp.specs.Deliveries.{Counts, Delivered}
use Rattle.mailer_smtp.specs.Plans.{Over, talk, unsaid_row}
use Rattle.mailer_smtp.specs.Talks.{plain, quits, unsaid, IsTried, undialled, untold, dialled, IsAttempt, no_host, last, here, next, IsDelivery, unsayable, tried, is_fault, undialled_rows, no_host_rows}
use Rattle.mailer_smtp.specs.Texts.{is_sayable, kit_of}
use Rattle.mailer_smtp.specs.inner.Steps.{Went, Parted, Tried, Attempted}
use Rattle.mailer_smtp.proofs.LineLemmas.{counts_calm, counts_rose, counts_join}
use Rattle.mailer_smtp.proofs.ConverseLemmas.{unless}
use Rattle.mailer_smtp.proofs.TalkLemmas.{counts_both}

-- QUIT and the close
pub part_quit : (line : ℕ) (quit : List ℕ) (old mid at new : DialSeen) (result : Result (Unit {0}) FailedCall) → at ≡ mid → Gains old.told mid.told (write_event line quit (is_ok result) ∷ []) → mid.missed ≡ old.missed → HasCause old.faults mid.faults result → OnOk result (mid.faults ≡ old.faults) → Gains at.told new.told (Closed line ∷ []) → new.missed ≡ at.missed → new.faults ≡ at.faults → Parted line quit true old new
part_quit line quit old mid at new (Ok u) same told missed cause calm closed left own =
    let P : DialSeen → Type 0 = λ s. Gains s.told new.told (Closed line ∷ []) in
    record {
      events = Wrote line quit ∷ Closed line ∷ [];
      is = quits;
      told = gains_join old.told mid.told new.told (Wrote line quit ∷ []) (Closed line ∷ []) told (subst P same closed);
      missed = left ∙ ap (λ (s : DialSeen). s.missed) same ∙ missed;
      counts = counts_calm old.faults new.faults false refl (own ∙ ap (λ (s : DialSeen). s.faults) same ∙ calm);
    }
part_quit line quit old mid at new (Err e) same told missed cause calm closed left own =
    let P : DialSeen → Type 0 = λ s. Gains s.told new.told (Closed line ∷ []) in
    let equal : new.faults ≡ mid.faults = own ∙ ap (λ (s : DialSeen). s.faults) same in
    let R : ℕ → Type 0 = λ n. Rose old.faults n in
    record {
      events = Unwritten line ∷ Closed line ∷ [];
      is = unsaid;
      told = gains_join old.told mid.told new.told (Unwritten line ∷ []) (Closed line ∷ []) told (subst P same closed);
      missed = left ∙ ap (λ (s : DialSeen). s.missed) same ∙ missed;
      counts = counts_rose old.faults new.faults (omega (arith, cause.later, equal)) (subst R (sym equal) cause.failed);
    }

pub part_plain : (line : ℕ) (quit : List ℕ) (old at new : DialSeen) → at ≡ old → Gains at.told new.told (Closed line ∷ []) → new.missed ≡ at.missed → new.faults ≡ at.faults → Parted line quit false old new
part_plain line quit old at new same closed left own =
    let P : DialSeen → Type 0 = λ s. Gains s.told new.told (Closed line ∷ []) in
    record {
      events = Closed line ∷ [];
      is = plain;
      told = subst P same closed;
      missed = left ∙ ap (λ (s : DialSeen). s.missed) same;
      counts = counts_calm old.faults new.faults false refl (own ∙ ap (λ (s : DialSeen). s.faults) same);
    }

pub parted_as : (line : ℕ) (quit : List ℕ) (a b : Bool) (old new : DialSeen) → a ≡ b → Parted line quit b old new → Parted line quit a old new
parted_as line quit a b old new same h =
    let P : Bool → Type 0 = λ x. Parted line quit x old new in
    subst P (sym same) h

-- a dial that failed is told, or counted as missed
lost_by : (speech : Speech) (kit : Kit) (peer : Peer) (old new : DialSeen) (count : ℕ) → new.missed ≡ count → Gains old.told new.told (cond (nat_eq count 0) (Undialled peer old.missed ∷ []) []) → (0 < count → count ≡ one_more old.missed) → old.faults ≤ new.faults → Rose old.faults new.faults → Tried speech kit peer old new true (undialled_rows kit)
lost_by speech kit peer old new zero is told counted later rose =
    let P : ℕ → Type 0 = λ n. IsTried speech kit peer old.missed (Undialled peer old.missed ∷ []) n true true (undialled_rows kit) in
    record {
      events = Undialled peer old.missed ∷ [];
      fault = true;
      is = subst P (sym is) undialled;
      told = told;
      counts = counts_rose old.faults new.faults later rose;
    }
lost_by speech kit peer old new (suc n) is told counted later rose =
    let P : ℕ → Type 0 = λ m. IsTried speech kit peer old.missed [] m true true (undialled_rows kit) in
    record {
      events = [];
      fault = true;
      is = subst P (sym (is ∙ counted (omega arith))) untold;
      told = subst (Gains old.told new.told) (unless (nat_eq (suc n) 0) (Undialled peer old.missed ∷ []) [] (search rules)) told;
      counts = counts_rose old.faults new.faults later rose;
    }

pub tried_lost : (speech : Speech) (kit : Kit) (peer : Peer) (old new : DialSeen) (fault : FailedCall) (rows : List Result1) → Gains old.told new.told (dial_events peer old.missed new.missed (Err fault)) → KeepsMissed old.missed new.missed (Err fault) → old.faults ≤ new.faults → Rose old.faults new.faults → rows ≡ undialled_rows kit → Tried speech kit peer old new true rows
tried_lost speech kit peer old new fault rows told counted later rose rows_is =
    let P : List Result1 → Type 0 = λ xs. Tried speech kit peer old new true xs in
    subst P (sym rows_is) (lost_by speech kit peer old new new.missed refl told counted later rose)

-- a whole line
pub tried_line : (speech : Speech) (kit : Kit) (peer : Peer) (old on spoken new : DialSeen) (line : ℕ) (ends leaves : Bool) (start rest : List ℕ) (rows : List Result1) → Gains old.told on.told (Dialled peer line old.missed ∷ []) → on.missed ≡ 0 → on.faults ≡ old.faults → start ≡ [] → Went line on spoken (talk speech kit) start (Over ends leaves rows) rest → Parted line kit.quit ends spoken new → Tried speech kit peer old new leaves rows
tried_line speech kit peer old on spoken new line ends leaves start rest rows told none calm empty went parted =
    let P : List ℕ → Type 0 = λ xs. Went line on spoken (talk speech kit) xs (Over ends leaves rows) rest in
    let w : Went line on spoken (talk speech kit) [] (Over ends leaves rows) rest = subst P empty went in
    let Q : ℕ → Type 0 = λ n. Counts n new.faults (list_any is_fault (w.events ++ parted.events)) in
    let M : ℕ → Type 0 = λ n. IsTried speech kit peer old.missed (Dialled peer line old.missed ∷ (w.events ++ parted.events)) n (list_any is_fault (w.events ++ parted.events)) leaves rows in
    record {
      events = Dialled peer line old.missed ∷ (w.events ++ parted.events);
      fault = list_any is_fault (w.events ++ parted.events);
      is = subst M (sym (parted.missed ∙ w.missed ∙ none)) (dialled line w.events parted.events ends leaves rows rest w.leads parted.is);
      told = gains_join old.told on.told new.told (Dialled peer line old.missed ∷ []) (w.events ++ parted.events) told (gains_join on.told spoken.told new.told w.events parted.events w.told parted.told);
      counts = subst Q calm (counts_both on.faults spoken.faults new.faults w.events parted.events w.counts parted.counts);
    }

pub attempt_none : (speech : Speech) (kit : Kit) (peers : List Peer) (seen : DialSeen) (rows : List Result1) → peers ≡ [] → rows ≡ no_host_rows kit → Attempted speech kit peers seen seen rows
attempt_none speech kit peers seen rows none rows_is =
    let P : List Result1 → Type 0 = λ xs. IsAttempt speech kit [] seen.missed [] seen.missed false xs in
    let Q : List Peer → Type 0 = λ ps. IsAttempt speech kit ps seen.missed [] seen.missed false rows in
    record {
      events = [];
      fault = false;
      is = subst Q (sym none) (subst P (sym rows_is) (no_host seen.missed));
      told = gains_none seen.told;
      counts = counts_calm seen.faults seen.faults false refl refl;
    }

pub attempt_last : (speech : Speech) (kit : Kit) (peers : List Peer) (peer : Peer) (old new : DialSeen) (leaves : Bool) (rows : List Result1) → peers ≡ peer ∷ [] → Tried speech kit peer old new leaves rows → Attempted speech kit peers old new rows
attempt_last speech kit peers peer old new leaves rows same t =
    let Q : List Peer → Type 0 = λ ps. IsAttempt speech kit ps old.missed t.events new.missed t.fault rows in
    record { events = t.events; fault = t.fault; is = subst Q (sym same) (last peer old.missed new.missed t.events t.fault leaves rows t.is); told = t.told; counts = t.counts }

attempt_stays : (speech : Speech) (kit : Kit) (peers rest : List Peer) (peer : Peer) (old new : DialSeen) (leaves : Bool) (rows : List Result1) → peers ≡ peer ∷ rest → leaves ≡ false → Tried speech kit peer old new leaves rows → Attempted speech kit peers old new rows
attempt_stays speech kit peers rest peer old new leaves rows same staying t =
    let Q : List Peer → Type 0 = λ ps. IsAttempt speech kit ps old.missed t.events new.missed t.fault rows in
    let L : Bool → Type 0 = λ b. IsTried speech kit peer old.missed t.events new.missed t.fault b rows in
    record { events = t.events; fault = t.fault; is = subst Q (sym same) (here peer rest old.missed new.missed t.events t.fault rows (subst L staying t.is)); told = t.told; counts = t.counts }

attempt_next : (speech : Speech) (kit : Kit) (peers rest : List Peer) (peer other : Peer) (old mid new : DialSeen) (leaves : Bool) (left rows : List Result1) → peers ≡ peer ∷ other ∷ rest → leaves ≡ true → Tried speech kit peer old mid leaves left → Attempted speech kit (other ∷ rest) mid new rows → Attempted speech kit peers old new rows
attempt_next speech kit peers rest peer other old mid new leaves left rows same gone t a =
    let Q : List Peer → Type 0 = λ ps. IsAttempt speech kit ps old.missed (t.events ++ a.events) new.missed (t.fault || a.fault) rows in
    let L : Bool → Type 0 = λ b. IsTried speech kit peer old.missed t.events mid.missed t.fault b left in
    record {
      events = t.events ++ a.events;
      fault = t.fault || a.fault;
      is = subst Q (sym same) (next peer other rest old.missed mid.missed new.missed t.events a.events t.fault a.fault left rows (subst L gone t.is) a.is);
      told = gains_join old.told mid.told new.told t.events a.events t.told a.told;
      counts = counts_join old.faults mid.faults new.faults t.fault a.fault t.counts a.counts;
    }

-- peers as they are met in a list
pub none_left : (peers : List Peer) → length peers < 1 → peers ≡ []
none_left [] h = refl
none_left (p ∷ ps) h = absurd (omega (arith, h))

pub one_left : (peers : List Peer) (peer : Peer) → peer ≡ get_or peers 0 peer → 1 ≤ length peers → length peers < 2 → peers ≡ peer ∷ []
one_left [] peer is least most = absurd (omega (arith, least))
one_left (p ∷ []) peer is least most = ap (λ x. x ∷ []) (sym is)
one_left (p ∷ q ∷ ps) peer is least most = absurd (omega (arith, most))

pub attempt_here : (speech : Speech) (kit : Kit) (peers : List Peer) (peer : Peer) (old new : DialSeen) (leaves : Bool) (rows : List Result1) → peer ≡ get_or peers 0 peer → 2 ≤ length peers → leaves ≡ false → Tried speech kit peer old new leaves rows → Attempted speech kit peers old new rows
attempt_here speech kit [] peer old new leaves rows is least staying t = absurd (omega (arith, least))
attempt_here speech kit (p ∷ ps) peer old new leaves rows is least staying t = attempt_stays speech kit (p ∷ ps) ps peer old new leaves rows (ap (λ x. x ∷ ps) (sym is)) staying t

pub attempt_on : (speech : Speech) (kit : Kit) (peers rest : List Peer) (peer : Peer) (old mid new : DialSeen) (leaves : Bool) (left rows : List Result1) → peer ≡ get_or peers 0 peer → 2 ≤ length peers → leaves ≡ true → rest ≡ take (length peers - 1) (drop 1 peers) → Tried speech kit peer old mid leaves left → Attempted speech kit rest mid new rows → Attempted speech kit peers old new rows
attempt_on speech kit [] rest peer old mid new leaves left rows is least gone rest_is t a = absurd (omega (arith, least))
attempt_on speech kit (p ∷ []) rest peer old mid new leaves left rows is least gone rest_is t a = absurd (omega (arith, least))
attempt_on speech kit (p ∷ q ∷ ps) rest peer old mid new leaves left rows is least gone rest_is t a =
    let P : List Peer → Type 0 = λ xs. Attempted speech kit xs mid new rows in
    attempt_next speech kit (p ∷ q ∷ ps) ps peer q old mid new leaves left rows (ap (λ x. x ∷ q ∷ ps) (sym is)) gone t (subst P (rest_is ∙ take_all (length (p ∷ q ∷ ps) - 1) (q ∷ ps) (omega arith)) a)

-- a letter of which something can be said
pub delivered_by : (speech : Speech) (letter : Letter) (kit : Kit) (peers peers_are : List Peer) (old new : DialSeen) (rows rows_are : List Result1) → is_sayable letter ≡ true → kit ≡ kit_of speech letter → peers ≡ peers_are → rows_are ≡ rows → Attempted speech kit peers old new rows → Delivered speech letter peers_are old new rows_are
delivered_by speech letter kit peers peers_are old new rows rows_are can k p r a =
    let K : Kit → Type 0 = λ x. IsAttempt speech x peers old.missed a.events new.missed a.fault rows in
    let P : List Peer → Type 0 = λ x. IsAttempt speech (kit_of speech letter) x old.missed a.events new.missed a.fault rows in
    let R : List Result1 → Type 0 = λ x. IsAttempt speech (kit_of speech letter) peers_are old.missed a.events new.missed a.fault x in
    record {
      events = a.events;
      fault = a.fault;
      is = tried a.events new.missed a.fault rows_are can (subst R (sym r) (subst P p (subst K k a.is)));
      told = a.told;
      counts = a.counts;
    }

-- and one of which nothing can be said
pub delivered_none : (speech : Speech) (letter : Letter) (peers : List Peer) (seen : DialSeen) (rows : List Result1) → is_sayable letter ≡ false → rows ≡ map (λ _. unsaid_row) letter.users → Delivered speech letter peers seen seen rows
delivered_none speech letter peers seen rows cannot r =
    let R : List Result1 → Type 0 = λ x. IsDelivery speech letter peers seen.missed [] seen.missed false x in
    record {
      events = [];
      fault = false;
      is = subst R (sym r) (unsayable cannot);
      told = gains_none seen.told;
      counts = counts_calm seen.faults seen.faults false refl refl;
    }
