-- The answers of maps, place by place, and the places of their names.
use Rattle.std.proofs.Common.{◌≡◌, ℕ, zero, suc, ◌+◌, ◌<◌, ◌≤◌, false, List, [], ◌∷◌, ◌++◌, Option, None, Some, Result, Ok, Err, length, take, get_or, fold, refl, sym, ap, subst, ◌∙◌, arith}
use Rattle.std.specs.Prelude.{IfOk, slice_get, option_map}
use Rattle.std.proofs.lemmas.Bool.{false≢true}
use Rattle.std.proofs.lemmas.List.{length-append, length-take-le, take_more}
use Rattle.std.proofs.lemmas.Option.{none-some}
use Rattle.mail_base.specs.Catalogs.{SetsValue, value_at}
use Rattle.mail_base.specs.declared.lines.MapClass.{MapClass}
use Rattle.mail_base.specs.declared.lines.MapClass.TheVariants.{Text as TextClass, Hash, Btree, Host, Dequote, Sequence, Null, Arith, Macro, Other}
use Rattle.map_tables.specs.declared.answer.Answer.{Answer}
use Rattle.map_tables.specs.declared.hosts.HostLine.{HostLine}
use Rattle.map_tables.specs.declared.table.Table.{Table}
use Rattle.mail_base.proofs.LastLemmas.{last_put}
use Rattle.map_tables.specs.Answers.{answer, answer_by, answer_of_place, answers, map_answer, name_of, with_answer}
use Rattle.map_tables.specs.inner.MapPlaces.{is_sequence, IsPlaced}

module _ {X : Type 0} where
  -- an item of the first list stands at its place in both
  pub at_front : (xs ys : List X) (k : ℕ) → k < length xs → slice_get (xs ++ ys) k ≡ slice_get xs k
  at_front [] ys k lt = absurd (omega (arith, lt))
  at_front (x ∷ xs) ys zero lt = refl
  at_front (x ∷ xs) ys (suc k) lt = at_front xs ys k (omega (arith, lt))

  -- the last item stands at the length of the others
  pub at_last : (xs : List X) (x : X) → slice_get (xs ++ x ∷ []) (length xs) ≡ Some x
  at_last [] x = refl
  at_last (y ∷ xs) x = at_last xs x

  past_end : (xs : List X) (k : ℕ) → length xs ≤ k → slice_get xs k ≡ None
  past_end [] k le = refl
  past_end (x ∷ xs) zero le = absurd (omega (arith, le))
  past_end (x ∷ xs) (suc k) le = past_end xs k (omega (arith, le))

module _ (hosts : List HostLine) (key : List ℕ) (args : List (List ℕ)) where
  longer : (given : List Answer) (map : Table) → length (with_answer hosts key args given map) ≡ length given + 1
  longer given map = length-append given (answer hosts key args given map ∷ [])

  -- answers stand where they were given
  pub stays : (given : List Answer) (maps : List Table) (k : ℕ) → k < length given → slice_get (fold (with_answer hosts key args) given maps) k ≡ slice_get given k
  stays given [] k lt = refl
  stays given (map ∷ maps) k lt =
      stays (with_answer hosts key args given map) maps k (omega (arith, lt, longer given map)) ∙ at_front given (answer hosts key args given map ∷ []) k lt

  gives : (given : List Answer) (maps : List Table) (k : ℕ) (map : Table) → Some map ≡ slice_get maps k
      → slice_get (fold (with_answer hosts key args) given maps) (length given + k) ≡ Some (answer hosts key args (fold (with_answer hosts key args) given (take k maps)) map)
  gives given [] k map is = absurd (none-some map (sym is))
  gives given (first ∷ maps) zero map is =
      let end : length given + 0 ≡ length given = omega arith in
      let one = answer hosts key args given first in
      stays (given ++ one ∷ []) maps (length given + 0) (omega (arith, longer given first))
      ∙ ap (slice_get (given ++ one ∷ [])) end ∙ at_last given one
      ∙ ap (λ (o : Option Table). option_map (answer hosts key args given) o) (sym is)
  gives given (first ∷ maps) (suc k) map is =
      let next : length given + suc k ≡ length (with_answer hosts key args given first) + k = omega (arith, longer given first) in
      ap (slice_get (fold (with_answer hosts key args) (with_answer hosts key args given first) maps)) next ∙ gives (with_answer hosts key args given first) maps k map is

  -- each map adds one answer
  pub long : (given : List Answer) (maps : List Table) → length (fold (with_answer hosts key args) given maps) ≡ length given + length maps
  long given [] = omega arith
  long given (map ∷ maps) = omega (arith, long (with_answer hosts key args given map) maps, longer given map)

  -- the answer at a place is that of its map, from those before it
  pub place_gives : (maps : List Table) (k : ℕ) (map : Table) → Some map ≡ slice_get maps k → slice_get (answers hosts key args maps) k ≡ Some (answer hosts key args (answers hosts key args (take k maps)) map)
  place_gives maps k map is =
      let front : k ≡ 0 + k = omega arith in
      ap (slice_get (answers hosts key args maps)) front ∙ gives [] maps k map is

  -- no answer stands past the maps
  pub place_lacks : (maps : List Table) (k : ℕ) → None ≡ slice_get maps k → slice_get (answers hosts key args maps) k ≡ None
  place_lacks maps k none = past_end (answers hosts key args maps) k (omega (arith, long [] maps, at_least maps k none))
    where
      at_least : (ms : List Table) (i : ℕ) → None ≡ slice_get ms i → length ms ≤ i
      at_least [] i e = omega arith
      at_least (m ∷ ms) zero e = absurd (none-some m e)
      at_least (m ∷ ms) (suc i) e = omega (arith, at_least ms i e)

-- what stands at a place is within
pub stands_within : (maps : List Table) (k : ℕ) (map : Table) → Some map ≡ slice_get maps k → k < length maps
stands_within [] k map e = absurd (none-some map (sym e))
stands_within (m ∷ maps) zero map e = omega arith
stands_within (m ∷ maps) (suc k) map e = omega (arith, stands_within maps k map e)

-- a map that is no sequence answers the same whatever stands before it
pub unless_sequence : (class : MapClass) (hosts : List HostLine) (key : List ℕ) (args : List (List ℕ)) (one other : List Answer) (map : Table) → is_sequence class ≡ false
    → answer_by class hosts key args one map ≡ answer_by class hosts key args other map
unless_sequence TextClass hosts key args one other map e = refl
unless_sequence Hash hosts key args one other map e = refl
unless_sequence Btree hosts key args one other map e = refl
unless_sequence Host hosts key args one other map e = refl
unless_sequence Dequote hosts key args one other map e = refl
unless_sequence (Sequence places) hosts key args one other map e = absurd (false≢true (sym e))
unless_sequence Null hosts key args one other map e = refl
unless_sequence Arith hosts key args one other map e = refl
unless_sequence Macro hosts key args one other map e = refl
unless_sequence (Other name) hosts key args one other map e = refl

module _ (hosts : List HostLine) (key : List ℕ) (args : List (List ℕ)) where
  -- the answer that is made at a place is the one that stands there
  pub place_is : (maps : List Table) (k : ℕ) (map : Table) (one : Answer) (shown given : List Answer) → one ≡ answer hosts key args shown map → shown ≡ given
      → answer hosts key args given map ≡ answer hosts key args (answers hosts key args (take k maps)) map → Some map ≡ slice_get maps k → Some one ≡ slice_get (answers hosts key args maps) k
  place_is maps k map one shown given is lent same at =
      ap (λ (o : Answer). Some o) (is ∙ ap (λ (s : List Answer). answer hosts key args s map) lent ∙ same) ∙ sym (place_gives hosts key args maps k map at)

  -- what stands at the place of a name is what its map answers
  pub answers_named : {E : Type 0} (r : Result (Option Answer) E) (shown maps : List Table) (places : List (List ℕ × ℕ)) (name : List ℕ) (place : ℕ) → IsPlaced maps places → Some place ≡ value_at name places → shown ≡ maps
      → IfOk r (λ given. given ≡ slice_get (answers hosts key args shown) place) → IfOk r (λ given. given ≡ map_answer (record { maps = maps; hosts = hosts }) name key args)
  answers_named (Ok given) shown maps places name place placed is same h =
      h ∙ ap (λ (m : List Table). slice_get (answers hosts key args m) place) same ∙ ap (answer_of_place (answers hosts key args maps)) (is ∙ placed name)
  answers_named (Err e) shown maps places name place placed is same h = tt

  -- a name without a place has no map that answers
  pub none_named : (maps : List Table) (places : List (List ℕ × ℕ)) (name : List ℕ) → IsPlaced maps places → None ≡ value_at name places → None ≡ map_answer (record { maps = maps; hosts = hosts }) name key args
  none_named maps places name placed is = ap (answer_of_place (answers hosts key args maps)) (is ∙ placed name)

-- the place of one K line more
pub placed_next : (maps : List Table) (i : ℕ) (map : Table) (name : List ℕ) (old new : List (List ℕ × ℕ)) → i < length maps → map ≡ get_or maps i map → name ≡ map.line.name → IsPlaced (take i maps) old
    → SetsValue {V = ℕ} name (Some i) old new → IsPlaced (take (i + 1) maps) new
placed_next maps i map name old new within at named placed sets =
    let long : length (take i maps) ≡ i = length-take-le i maps (omega (arith, within)) in
    let there = subst (λ (k : ℕ). SetsValue {V = ℕ} name (Some k) old new) (sym long) sets in
    subst (λ (m : List Table). IsPlaced m new) (sym (take_more maps i map within ∙ ap (λ (m : Table). take i maps ++ m ∷ []) (sym at)))
    (last_put name_of (take i maps) map old new placed (subst (λ (n : List ℕ). SetsValue {V = ℕ} n (Some (length (take i maps))) old new) named there))
