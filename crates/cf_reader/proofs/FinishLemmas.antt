-- The groups behind the last line.
use Rattle.std.proofs.Common.{◌≡◌, ◌∙◌, ℕ, ◌+◌, ◌<◌, List, length, drop, get_or, sym, ap}
use Rattle.std.specs.Prelude.{fold, slice_get}
use Rattle.std.proofs.lemmas.List.{drop_more}
use Rattle.std.proofs.lemmas.Option.{slice_get-get_or}
use Rattle.mail_base.specs.Configs.{main_group}
use Rattle.mail_base.specs.declared.mailer.Group.{Group}
use Rattle.cf_reader.specs.Configuration.{with_group}
use Rattle.cf_reader.specs.inner.Steps.{with_group_at}

-- one group more has its path
pub group_more : (directory : List ℕ) (groups placed next whole : List (List ℕ × Group)) (k : ℕ) → k < length groups → next ≡ with_group_at directory placed (slice_get groups k) → fold (with_group directory) placed (drop k groups) ≡ whole
    → fold (with_group directory) next (drop (k + 1) groups) ≡ whole
group_more directory groups placed next whole k lt is so_far =
    let d : List ℕ × Group = (main_group.name, main_group) in
    let one : next ≡ with_group directory placed (get_or groups k d) = is ∙ ap (with_group_at directory placed) (slice_get-get_or groups k d lt) in
    ap (λ (gs : List (List ℕ × Group)). fold (with_group directory) gs (drop (k + 1) groups)) one
    ∙ sym (ap (fold (with_group directory) placed) (drop_more groups k d lt))
    ∙ so_far
