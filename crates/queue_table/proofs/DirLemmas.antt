-- The directories of all groups have that of each.
use Rattle.std.proofs.Common.{◌≡◌, ℕ, ◌+◌, ◌<◌, ◌≤◌, List, [], ◌∷◌, ◌++◌, length, drop, get_or, true, Option, Some, sym, ◌∙◌, ap, subst}
use Rattle.std.specs.Prelude.{Contains, bytes_eq, fold, slice_get}
use Rattle.std.proofs.lemmas.Bool.{cond_both}
use Rattle.std.proofs.lemmas.List.{drop_all, drop_more}
use Rattle.std.proofs.lemmas.Option.{slice_get-get_or}
use Rattle.std.proofs.lemmas.List.Elements.{Contains-append_left, Contains-push}
use Rattle.std.proofs.lemmas.Map.Views.{Contains-from_any}
use Rattle.std.proofs.lemmas.Slice.Eq.{bytes_eq-Decides}
use Rattle.mail_base.specs.Catalogs.{value_at}
use Rattle.mail_base.specs.Configs.{main_group}
use Rattle.mail_base.specs.declared.mailer.Group.{Group}
use Rattle.queue_table.specs.Calls.{AreDirs}
use Rattle.queue_table.specs.Directories.{all_dirs, dir_of, main_dir, path_or, with_dir, with_group}
use Rattle.queue_table.specs.declared.terms.Terms.{Terms}
use Rattle.queue_table.specs.inner.Directing.{with_group_at}

same_text : (x y : List ℕ) → bytes_eq x y ≡ true → x ≡ y
same_text x y is = (bytes_eq-Decides x y).0 is

stays : (dirs : List (List ℕ)) (dir other : List ℕ) → Contains dirs other → Contains (with_dir dirs dir) other
stays dirs dir other has =
    cond_both _ dirs (dirs ++ dir ∷ []) (λ (ds : List (List ℕ)). Contains ds other) (λ e. has) (λ e. Contains-append_left dirs (dir ∷ []) other has)

added : (dirs : List (List ℕ)) (dir : List ℕ) → Contains (with_dir dirs dir) dir
added dirs dir =
    cond_both _ dirs (dirs ++ dir ∷ []) (λ (ds : List (List ℕ)). Contains ds dir) (λ e. Contains-from_any same_text dir dirs e) (λ e. Contains-push dirs dir)

-- more groups leave the directories that are there
stay : (groups : List (List ℕ × Group)) (dirs : List (List ℕ)) (other : List ℕ) → Contains dirs other → Contains (fold with_group dirs groups) other
stay [] dirs other has = has
stay (g ∷ gs) dirs other has = stay gs (with_group dirs g) other (stays dirs g.1.path other has)

-- each group's is there, and another name's where it was
among : (groups : List (List ℕ × Group)) (dirs : List (List ℕ)) (name other : List ℕ) → Contains dirs other → Contains (fold with_group dirs groups) (path_or other (value_at name groups))
among [] dirs name other has = has
among (g ∷ gs) dirs name other has =
    cond_both _ (Some g.1) (value_at name gs) (λ (o : Option Group). Contains (fold with_group (with_group dirs g) gs) (path_or other o))
    (λ e. stay gs (with_group dirs g) g.1.path (added dirs g.1.path)) (λ e. among gs (with_group dirs g) name other (stays dirs g.1.path other has))

-- the directories of all groups have that of each
pub each_is_there : (terms : Terms) (dirs : List (List ℕ)) → dirs ≡ all_dirs terms → AreDirs terms dirs
each_is_there terms dirs is = λ group. subst (λ (ds : List (List ℕ)). Contains ds (dir_of terms group)) (sym is) (among terms.groups (main_dir terms ∷ []) group (main_dir terms) (Contains-push [] (main_dir terms)))

-- one group more
pub group_more : (groups : List (List ℕ × Group)) (dirs next whole : List (List ℕ)) (k : ℕ) → k < length groups → next ≡ with_group_at dirs (slice_get groups k) → fold with_group dirs (drop k groups) ≡ whole → fold with_group next (drop (k + 1) groups) ≡ whole
group_more groups dirs next whole k lt is so_far =
    let d : List ℕ × Group = (main_group.name, main_group) in
    let one : next ≡ with_group dirs (get_or groups k d) = is ∙ ap (with_group_at dirs) (slice_get-get_or groups k d lt) in
    ap (λ (ds : List (List ℕ)). fold with_group ds (drop (k + 1) groups)) one
    ∙ sym (ap (fold with_group dirs) (drop_more groups k d lt))
    ∙ so_far

-- past the last of them all are there
pub groups_over : (groups : List (List ℕ × Group)) (dirs whole : List (List ℕ)) (k : ℕ) → length groups ≤ k → fold with_group dirs (drop k groups) ≡ whole → dirs ≡ whole
groups_over groups dirs whole k le is = sym (ap (fold with_group dirs) (drop_all k groups le)) ∙ is
