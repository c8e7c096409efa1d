-- What is given in turn, up to a fault, is a part of the whole.
use Rattle.std.proofs.Common.{List, [], ◌++◌, Option, refl, sym, ◌∙◌, ap, append_assoc, append-nil, ℕ}
use Rattle.mail_base.specs.Histories.{Gains}
use Rattle.mail_base.proofs.Gaining.{gains_none, gains_join}
use Rattle.mail_edge.specs.Moves.{GainsPart}

-- where nothing changes, no part was given
pub part_none : (a : Option (List ℕ)) (xs : List ℕ) → GainsPart a a xs
part_none a xs = record { part = []; rest = xs; whole = refl; gained = gains_none a }

-- the whole is a part
pub part_whole : (a b : Option (List ℕ)) (xs : List ℕ) → Gains a b xs → GainsPart a b xs
part_whole a b xs h = record { part = xs; rest = []; whole = sym (append-nil xs); gained = h }

-- a part of these is a part of these and more
pub part_more : (a b : Option (List ℕ)) (xs ys : List ℕ) → GainsPart a b xs → GainsPart a b (xs ++ ys)
part_more a b xs ys h = record { part = h.part; rest = h.rest ++ ys; whole = ap (λ q. q ++ ys) h.whole ∙ append_assoc h.part h.rest ys; gained = h.gained }

-- these, and then a part of those
pub part_join : (a b c : Option (List ℕ)) (xs ys : List ℕ) → Gains a b xs → GainsPart b c ys → GainsPart a c (xs ++ ys)
part_join a b c xs ys h k = record { part = xs ++ k.part; rest = k.rest; whole = ap (λ q. xs ++ q) k.whole ∙ sym (append_assoc xs k.part k.rest); gained = gains_join a b c xs k.part h k.gained }
