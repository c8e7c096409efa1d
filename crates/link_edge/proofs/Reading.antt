-- What the next read finds of the pieces that are left.
use Rattle.std.proofs.Common.{◌≡◌, ℕ, ◌+◌, suc, List, [], ◌∷◌, ◌++◌, drop, take, Option, Some, None, slice_get, refl, sym, ◌∙◌, ap, add-one, drop-cons, inl, inr}
use Rattle.std.proofs.lemmas.Option.{slice_get_within, get_or_from_slice_get, slice_get_cases}
use Rattle.std.proofs.Math.ListN.{drop_of_length-le}
use Rattle.link_edge.specs.Pieces.{later_pieces, next_bytes, piece_rest, without_read}
use Rattle.link_edge.specs.inner.Parts.{piece_at}

-- the pieces from a place on begin with the piece there
split_here : (pieces : List (List ℕ)) (at : ℕ) (piece : List ℕ) → slice_get pieces at ≡ Some piece → drop at pieces ≡ piece ∷ drop (at + 1) pieces
split_here pieces at piece h = rw add-one (drop-cons pieces at piece (slice_get_within pieces at piece h) ∙ ap (λ q. q ∷ drop (suc at) pieces) (get_or_from_slice_get pieces at piece piece h))

-- past the last piece there is none
none_here : (pieces : List (List ℕ)) (at : ℕ) → slice_get pieces at ≡ None → drop at pieces ≡ []
none_here pieces at h = elim (slice_get_cases pieces at).1 [ inl found ↦ cc (found.2, h) | inr past ↦ drop_of_length-le pieces past.0 ]

-- past the last piece nothing is read
pub next_none : (room said at : ℕ) (pieces : List (List ℕ)) → slice_get pieces at ≡ None → [] ≡ next_bytes room (without_read said (drop at pieces))
next_none room said at pieces h = sym (ap (λ q. next_bytes room (without_read said q)) (none_here pieces at h))

-- and none are left
pub later_none : (room said at : ℕ) (pieces : List (List ℕ)) → slice_get pieces at ≡ None → without_read said (drop at pieces) ≡ later_pieces room (without_read said (drop at pieces))
later_none room said at pieces h =
    let none = none_here pieces at h in
    ap (without_read said) none ∙ sym (ap (λ q. later_pieces room (without_read said q)) none)

-- what is read of the piece is the next read
pub next_here : (room said at count : ℕ) (pieces : List (List ℕ)) (piece buf : List ℕ) → slice_get pieces at ≡ Some piece → take count buf ≡ take room (drop said piece) → take count buf ≡ next_bytes room (without_read said (drop at pieces))
next_here room said at count pieces piece buf h heard =
    heard ∙ sym (ap (λ q. next_bytes room (without_read said q)) (split_here pieces at piece h))

-- what is left of the piece stands before the others
later_here : (room said at : ℕ) (pieces : List (List ℕ)) (piece : List ℕ) (count : Option ℕ) → slice_get pieces at ≡ Some piece → piece_at piece count ≡ piece_rest room (drop said piece) → piece_at piece count ++ drop (at + 1) pieces ≡ later_pieces room (without_read said (drop at pieces))
later_here room said at pieces piece count h left = ap (λ q. q ++ drop (at + 1) pieces) left ∙ sym (ap (λ q. later_pieces room (without_read said q)) (split_here pieces at piece h))

-- more is left of the piece
pub later_same : (room said at count : ℕ) (pieces : List (List ℕ)) (piece : List ℕ) → slice_get pieces at ≡ Some piece → piece_at piece (Some count) ≡ piece_rest room (drop said piece) → without_read count (drop at pieces) ≡ later_pieces room (without_read said (drop at pieces))
later_same room said at count pieces piece h left = ap (without_read count) (split_here pieces at piece h) ∙ later_here room said at pieces piece (Some count) h left

none_read : (pieces : List (List ℕ)) → without_read 0 pieces ≡ pieces
none_read [] = refl
none_read (piece ∷ pieces) = refl

-- the piece is done
pub later_next : (room said at : ℕ) (pieces : List (List ℕ)) (piece : List ℕ) → slice_get pieces at ≡ Some piece → piece_at piece None ≡ piece_rest room (drop said piece) → without_read 0 (drop (at + 1) pieces) ≡ later_pieces room (without_read said (drop at pieces))
later_next room said at pieces piece h left = none_read (drop (at + 1) pieces) ∙ later_here room said at pieces piece None h left
