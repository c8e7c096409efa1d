use Rattle.std.proofs.Common.{◌≡◌, List, ℕ, None, Ok, Err, false, true, sym, ◌∙◌, subst}
use Rattle.std.specs.Prelude.{bytes_eq}
use Rattle.mail_base.specs.Drawing.{null_sender}
use Rattle.addr_tokens.specs.Joins.{joined}
use Rattle.mail_base.specs.Texts.{without_angles}
use Rattle.addr_route.specs.Senders.{Sends, null, sends}
use Rattle.ruleset_run.proofs.RewriteLemmas.{if_ok}
use Rattle.addr_route.proofs.sender.sent.Goals as goal

pub returns-then-is_null : goal.returns-then-is_null
returns-then-is_null c =
    let a = c.args in
    let is : bytes_eq a.sender.now null_sender ≡ true = sym (rw c.bytes.ensures at c.is_null.ensures) ∙ c.if-is_null.true in
    subst (λ (text : List ℕ). Sends a.config.now a.maps.now a.macros.now a.mailer.now a.sender.now text) (sym c.new.ensures) (null is)

pub returns-in-Ok : goal.returns-in-Ok
returns-in-Ok c =
    let a = c.args in
    let Q : List ℕ → Type 0 = Sends a.config.now a.maps.now a.macros.now a.mailer.now a.sender.now in
    let not : bytes_eq a.sender.now null_sender ≡ false = sym (rw c.bytes.ensures at c.is_null.ensures) ∙ c.if-is_null.false in
    let p = rw (c.items.ensures, c.in_ok-sets.ensures) at c.in-Ok.ensures in
    if_ok (λ text. text ≡ joined None c.in-Ok.tokens) Q (λ text e. subst Q (sym e) (sends (Ok c.in-Ok.tokens) not p)) c.join.result c.join.ensures

pub returns-in-Err-Because : goal.returns-in-Err-Because
returns-in-Err-Because c =
    let a = c.args in
    let Q : List ℕ → Type 0 = Sends a.config.now a.maps.now a.macros.now a.mailer.now a.sender.now in
    let not : bytes_eq a.sender.now null_sender ≡ false = sym (rw c.bytes.ensures at c.is_null.ensures) ∙ c.if-is_null.false in
    let p = rw (c.items.ensures, c.in_ok-sets.ensures) at (rw c.in-Err-Because.field-0-is at c.in-Err-Because.ensures) in
    let same : c.without_angles.result.now ≡ without_angles a.sender.now = rw c.bytes-in-Err-Because.ensures at c.without_angles.ensures in
    if_ok (λ text. text ≡ c.without_angles.result.now) Q (λ text e. subst Q (sym (e ∙ same)) (sends (Err c.in-Err-Because._cause) not p)) c.of.result c.of.ensures
