use Rattle.std.proofs.Common.{refl, sym, ◌∙◌, ap, subst, [], List}
use Rattle.std.specs.Map.{keys_of}
use Rattle.indexmap.specs.IndexMap.{get, insert_entry}
use Rattle.indexmap.proofs.CallerLemmas.{insert_entry-new}
use Rattle.mail_base.specs.declared.token.Token.{Token}
use Rattle.mail_base.specs.declared.rule.Numbered.{Numbered}
use Rattle.mail_base.specs.Tokens.{same_token}
use Rattle.mail_base.specs.inner.TokenLaws.{same_equiv}
use Rattle.mail_base.specs.Buckets.{Keeps}
use Rattle.mail_base.proofs.BucketLemmas.{added, keeps_end, keeps_same, key_passes, key_there, met, no_key, unmet}
use Rattle.mail_base.proofs.buckets.place_of.Goals as goal

pub returns-in-Some-clause-slot : goal.returns-in-Some-clause-slot
returns-in-Some-clause-slot c =
    (c.in-Some.place, c.in-Some.field-0-1.now, c.in-Some.bucket.now, refl, c.in-Some.ensures.entry, key_passes (same_token c.args.anchor.now) c.args.anchored.now.entries c.in-Some.field-0-1.now c.in-Some.ensures.key, c.len.ensures)

pub returns-clause-slot : goal.returns-clause-slot
returns-clause-slot c =
    let is = c.in_ok-insert.ensures.entries ∙ ap (λ (bucket : List Numbered). insert_entry same_token c.args.anchored.now.entries c.in_ok-key.key bucket) c.new.ensures ∙ insert_entry-new same_token c.args.anchored.now c.in_ok-key.key [] (ap (λ (key : Token). get same_token c.args.anchored.now key) c.in_ok-key.ensures ∙ sym c.in_default.ensures.value) in
    (c.len-bucket.result, c.in_ok-key.key, [], refl, added c.args.anchored.now.entries _ c.in_ok-key.key c.len-bucket.result is c.len-bucket.ensures.len, ap (same_token c.args.anchor.now) c.in_ok-key.ensures ∙ same_equiv.refl c.args.anchor.now, refl)

pub returns-in-Some-clause-keeps : goal.returns-in-Some-clause-keeps
returns-in-Some-clause-keeps c = keeps_same c.args.anchored.now.entries

pub returns-in-Some-clause-order : goal.returns-in-Some-clause-order
returns-in-Some-clause-order c = met c.args.anchor.now (keys_of c.args.anchored.now.entries) (key_there (same_token c.args.anchor.now) c.args.anchored.now.entries c.in-Some.field-0-1.now c.in-Some.ensures.key)

pub returns-clause-keeps : goal.returns-clause-keeps
returns-clause-keeps c =
    let is = c.in_ok-insert.ensures.entries ∙ ap (λ (bucket : List Numbered). insert_entry same_token c.args.anchored.now.entries c.in_ok-key.key bucket) c.new.ensures ∙ insert_entry-new same_token c.args.anchored.now c.in_ok-key.key [] (ap (λ (key : Token). get same_token c.args.anchored.now key) c.in_ok-key.ensures ∙ sym c.in_default.ensures.value) in
    subst (λ (es : List (Token × List Numbered)). Keeps c.args.anchored.now.entries es) (sym is) (keeps_end c.args.anchored.now.entries c.in_ok-key.key)

pub returns-clause-order : goal.returns-clause-order
returns-clause-order c =
    let is = c.in_ok-insert.ensures.entries ∙ ap (λ (bucket : List Numbered). insert_entry same_token c.args.anchored.now.entries c.in_ok-key.key bucket) c.new.ensures ∙ insert_entry-new same_token c.args.anchored.now c.in_ok-key.key [] (ap (λ (key : Token). get same_token c.args.anchored.now key) c.in_ok-key.ensures ∙ sym c.in_default.ensures.value) in
    unmet c.args.anchor.now c.in_ok-key.key c.args.anchored.now.entries _ c.in_ok-key.ensures is (no_key (same_token c.args.anchor.now) c.args.anchored.now.entries (sym c.in_default.ensures.value))
