use Rattle.std.proofs.Common.{List, ℕ, length, ap, ◌∙◌}
use Rattle.mail_base.specs.Rulesets.{Ruled}
use Rattle.std.specs.List.{list_any}
use Rattle.std.specs.Str.{str_eq_ignore_ascii_case}
use Rattle.mail_base.proofs.BookLemmas.{pushed_set}
use Rattle.mail_base.proofs.book.Book.push.Goals as goal

pub invariant_of-self-2 : goal.invariant_of-self-2
invariant_of-self-2 c = pushed_set c.self.inside.sets.items c.push.new.self.items c.args.set (length c.as_slice-place.result.now) c.self.inside.places c.hold_all.new.places
    c.in_ok-push.ensures.items (ap (λ (sets : List Ruled). length sets) c.as_slice-place.ensures.value) c.hold_all.ensures.keeps
    (λ name named. c.in_ok-hold_all.ensures.held name (ap (λ (names : List (List ℕ)). list_any (λ given. str_eq_ignore_ascii_case given name) names) c.names.ensures ∙ named))
    c.self.invariant
