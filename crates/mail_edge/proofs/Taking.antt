-- What is taken in turn is taken as a whole.
use Rattle.std.proofs.Common.{List, [], ◌++◌, Option, Some, None, refl, sym, ◌∙◌, ap, append_assoc}
use Rattle.mail_edge.specs.Moves.{Loses}

-- nothing is taken where nothing changes
pub loses_none : {X : Type 0} (a : Option (List X)) → Loses a a []
loses_none None = tt
loses_none (Some xs) = refl

-- two takes, one after the other
pub loses_join : {X : Type 0} (a b c : Option (List X)) (xs ys : List X) → Loses a b xs → Loses b c ys → Loses a c (xs ++ ys)
loses_join None None None xs ys h k = tt
loses_join None None (Some z) xs ys h k = absurd k
loses_join None (Some y) c xs ys h k = absurd h
loses_join (Some x) None c xs ys h k = absurd h
loses_join (Some x) (Some y) None xs ys h k = absurd k
loses_join (Some x) (Some y) (Some z) xs ys h k = h ∙ ap (λ q. xs ++ q) k ∙ sym (append_assoc xs ys z)
