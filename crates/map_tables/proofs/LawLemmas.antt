-- What holds of every look-up, and of sequences.
use Rattle.std.proofs.Common.{◌≡◌, ◌≢◌, ℕ, ◌<◌, Bool, true, false, List, [], ◌∷◌, Option, None, Some, Result, Ok, Err, length, take, drop, map, refl, sym, ap, ◌∙◌, arith}
use Rattle.std.specs.Prelude.{All, slice_get, unwrap_or}
use Rattle.std.proofs.lemmas.Bool.{false≢true}
use Rattle.std.proofs.lemmas.List.{length-take-le, take-append-drop}
use Rattle.std.proofs.lemmas.List.Elements.{All-head, All-tail}
use Rattle.std.proofs.lemmas.List.Sums.{fold-append}
use Rattle.mail_base.specs.declared.lines.MapClass.{MapClass}
use Rattle.mail_base.specs.declared.lines.MapClass.TheVariants.{Sequence}
use Rattle.map_tables.specs.declared.answer.Answer.{Answer}
use Rattle.map_tables.specs.declared.answer.Answer.TheVariants.{Finds, Sets, Lacks, Refuses}
use Rattle.map_tables.specs.declared.found.Found.{Found}
use Rattle.map_tables.specs.declared.found.MapFault.{MapFault}
use Rattle.map_tables.specs.declared.found.MapFault.TheVariants.{MapClass as ClassFault, NoSuchMap, NoMemory}
use Rattle.map_tables.specs.declared.hosts.HostLine.{HostLine}
use Rattle.map_tables.specs.declared.table.Table.{Table}
use Rattle.map_tables.specs.Answers.{answer_at, answer_by, answers, first_answer, handed, told, with_answer}
use Rattle.map_tables.proofs.AnswerLemmas.{long, place_gives, stays}

is_memory : Result Found MapFault → Bool
is_memory (Ok found) = false
is_memory (Err ClassFault) = false
is_memory (Err NoSuchMap) = false
is_memory (Err NoMemory) = true

tells : (o : Option Answer) → false ≡ is_memory (told o)
unfolding is_memory
tells None = refl
tells (Some (Finds value)) = refl
tells (Some (Sets value)) = refl
tells (Some Lacks) = refl
tells (Some Refuses) = refl

-- what is told of an answer is never want of memory
pub never_memory : (o : Option Answer) → told o ≢ Err NoMemory
unfolding is_memory
never_memory o same = false≢true (tells o ∙ ap is_memory same)

module _ (hosts : List HostLine) (key : List ℕ) (args : List (List ℕ)) (maps : List Table) (place : ℕ) (within : place < length maps) where
  -- an answer before the place is that of the maps before it
  pub before : (member : ℕ) → member < place → slice_get (answers hosts key args maps) member ≡ slice_get (answers hosts key args (take place maps)) member
  before member lt =
      let count : length (take place maps) ≡ place = length-take-le place maps (omega (arith, within)) in
      ap (λ (m : List Table). slice_get (answers hosts key args m) member) (sym (take-append-drop place maps))
      ∙ ap (λ (a : List Answer). slice_get a member) (fold-append (with_answer hosts key args) [] (take place maps) (drop place maps))
      ∙ stays hosts key args (answers hosts key args (take place maps)) (drop place maps) member (omega (arith, lt, count, long hosts key args [] (take place maps)))

  members_alike : (members : List ℕ) → All (λ member. member < place) members
      → map (answer_at (answers hosts key args (take place maps))) members ≡ map (answer_at (answers hosts key args maps)) members
  members_alike [] all = refl
  members_alike (member ∷ members) all =
      ap (λ (o : Option Answer). unwrap_or o Lacks ∷ map (answer_at (answers hosts key args (take place maps))) members) (sym (before member (All-head (λ m. m < place) member members all)))
      ∙ ap (λ (rest : List Answer). answer_at (answers hosts key args maps) member ∷ rest) (members_alike members (All-tail (λ m. m < place) member members all))

  -- a sequence hands on what the first of its members says that doesn't lack the key
  pub hands_on : (table : Table) (members : List ℕ) → Some table ≡ slice_get maps place → table.line.class ≡ Sequence members → All (λ member. member < place) members
      → slice_get (answers hosts key args maps) place ≡ Some (handed table.line key (first_answer (map (answer_at (answers hosts key args maps)) members)))
  hands_on table members at is all =
      place_gives hosts key args maps place table at
      ∙ ap (λ (class : MapClass). Some (answer_by class hosts key args (answers hosts key args (take place maps)) table)) is
      ∙ ap (λ (given : List Answer). Some (handed table.line key (first_answer given))) (members_alike members all)
