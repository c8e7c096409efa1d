-- The answers from which that of a sequence follows.
use Rattle.std.proofs.Common.{◌≡◌, ℕ, ◌+◌, ◌<◌, ◌≤◌, Bool, true, false, List, [], ◌∷◌, ◌++◌, Option, Some, Result, Ok, Err, length, take, get_or, map, refl, sym, ap, subst, ◌∙◌, arith, inl, inr, true≢false, nat_eq}
use Rattle.std.specs.Prelude.{IfOk, slice_get, unwrap_or}
use Rattle.std.specs.List.{list_any}
use Rattle.std.proofs.Math.Seq.{take-append_seam}
use Rattle.std.proofs.lemmas.Bool.{cases_order, eq-eqb, or_left, or_right}
use Rattle.std.proofs.lemmas.List.{length-take-le}
use Rattle.std.proofs.lemmas.Option.{slice_get-get_or, slice_get_past}
use Rattle.mail_base.specs.declared.lines.MapClass.{MapClass}
use Rattle.mail_base.specs.declared.lines.MapClass.TheVariants.{Text as TextClass, Hash, Btree, Host, Dequote, Sequence, Null, Arith, Macro, Other}
use Rattle.map_tables.specs.declared.answer.Answer.{Answer}
use Rattle.map_tables.specs.declared.answer.Answer.TheVariants.{Lacks}
use Rattle.map_tables.specs.declared.hosts.HostLine.{HostLine}
use Rattle.map_tables.specs.declared.table.Table.{Table}
use Rattle.map_tables.specs.Answers.{answer, answer_at, answer_by, answers, first_answer, handed}
use Rattle.map_tables.specs.inner.Members.{Agree, AreMarked, IsClosed, members_in}
use Rattle.map_tables.proofs.AnswerLemmas.{at_front, at_last, long, place_gives}
use Rattle.map_tables.proofs.LawLemmas.{before}

-- ---- marks

keeps_marked : (members : List ℕ) (end : ℕ) (old new : List Bool) → ((place : ℕ) → get_or old place false ≡ true → get_or new place false ≡ true) → AreMarked members end old → AreMarked members end new
keeps_marked members end old new keeps are member among lt = keeps member (are member among lt)

module _ (maps : List Table) (place : ℕ) (old : List Bool) where
  -- a place that isn't marked
  pub closed_over : IsClosed (place + 1) maps old → get_or old place false ≡ false → IsClosed place maps old
  closed_over closed none at table le is there = elim (cases_order at place) [
    | inl e ↦ absurd (true≢false (sym is ∙ ap (λ (k : ℕ). get_or old k false) e ∙ none))
    | inr (inl less) ↦ absurd (omega (arith, le, less))
    | inr (inr more) ↦ closed at table (omega (arith, more)) is there
  ]

  -- a place whose members are marked now
  pub closed_with : (new : List Bool) (one : Table) → place < length maps → one ≡ get_or maps place one → IsClosed (place + 1) maps old
      → ((k : ℕ) → get_or old k false ≡ true → get_or new k false ≡ true) → ((k : ℕ) → place ≤ k → get_or new k false ≡ get_or old k false)
      → AreMarked (members_in one.line.class) place new → IsClosed place maps new
  closed_with new one within stands closed keeps others are at table le is there = elim (cases_order at place) [
    | inl e ↦
        let same : Some one ≡ Some table = ap (λ (t : Table). Some t) stands ∙ sym (slice_get-get_or maps place one within) ∙ ap (slice_get maps) (sym e) ∙ there in
        let table_is : one ≡ table = cc same in
        subst (λ (k : ℕ). AreMarked (members_in table.line.class) k new) (sym e) (subst (λ (t : Table). AreMarked (members_in t.line.class) place new) table_is are)
    | inr (inl less) ↦ absurd (omega (arith, le, less))
    | inr (inr more) ↦ keeps_marked (members_in table.line.class) at old new keeps (closed at table (omega (arith, more)) (sym (others at le) ∙ is) there)
  ]

-- ---- answers

-- a map answers the same from what answers the same at its members
by_members : (class : MapClass) (hosts : List HostLine) (key : List ℕ) (args : List (List ℕ)) (given all : List Answer) (table : Table) → map (answer_at given) (members_in class) ≡ map (answer_at all) (members_in class)
    → answer_by class hosts key args given table ≡ answer_by class hosts key args all table
by_members TextClass hosts key args given all table same = refl
by_members Hash hosts key args given all table same = refl
by_members Btree hosts key args given all table same = refl
by_members Host hosts key args given all table same = refl
by_members Dequote hosts key args given all table same = refl
by_members (Sequence members) hosts key args given all table same = ap (λ (found : List Answer). handed table.line key (first_answer found)) same
by_members Null hosts key args given all table same = refl
by_members Arith hosts key args given all table same = refl
by_members Macro hosts key args given all table same = refl
by_members (Other name) hosts key args given all table same = refl

-- so does one whose members were asked
from_members : (hosts : List HostLine) (key : List ℕ) (args : List (List ℕ)) (given all : List Answer) (table : Table) → map (answer_at given) (members_in table.line.class) ≡ map (answer_at all) (members_in table.line.class)
    → answer hosts key args given table ≡ answer hosts key args all table
from_members hosts key args given all table same = by_members table.line.class hosts key args given all table same

same_at : (given all : List Answer) (member : ℕ) → slice_get given member ≡ slice_get all member → answer_at given member ≡ answer_at all member
same_at given all member same = ap (λ (o : Option Answer). unwrap_or o Lacks) same

-- lists of one length that agree at these places
members_same : (members : List ℕ) (given all : List Answer) → ((member : ℕ) → list_any (nat_eq member) members ≡ true → slice_get given member ≡ slice_get all member) → map (answer_at given) members ≡ map (answer_at all) members
members_same [] given all so = refl
members_same (member ∷ members) given all so =
    ap (λ (one : Answer). one ∷ map (answer_at given) members) (same_at given all member (so member (or_left (nat_eq member member) (list_any (nat_eq member) members) (eq-eqb member member refl))))
    ∙ ap (λ (rest : List Answer). answer_at all member ∷ rest) (members_same members given all (λ other among. so other (or_right (nat_eq other member) (list_any (nat_eq other) members) among)))

-- at a member before the end both agree, and behind the end neither has anything
at_member : (marked : List Bool) (end : ℕ) (given all : List Answer) (members : List ℕ) → length given ≡ end → length all ≡ end → AreMarked members end marked → Agree marked end given all
    → (member : ℕ) → list_any (nat_eq member) members ≡ true → slice_get given member ≡ slice_get all member
at_member marked end given all members one other are agree member among = elim (cases_order member end) [
  | inl e ↦ slice_get_past given member (omega (arith, e, one)) ∙ sym (slice_get_past all member (omega (arith, e, other)))
  | inr (inl less) ↦ agree member less (are member among less)
  | inr (inr more) ↦ slice_get_past given member (omega (arith, more, one)) ∙ sym (slice_get_past all member (omega (arith, more, other)))
]

module _ (hosts : List HostLine) (key : List ℕ) (args : List (List ℕ)) (maps : List Table) (marked : List Bool) where
  -- what the members of a sequence behind all maps say
  members_agree : (members : List ℕ) (given : List Answer) → AreMarked members (length maps) marked → Agree marked (length maps) given (answers hosts key args maps) → length given ≡ length maps
      → map (answer_at given) members ≡ map (answer_at (answers hosts key args maps)) members
  members_agree members given are agree same =
      let all = long hosts key args [] maps in
      members_same members given (answers hosts key args maps) (at_member marked (length maps) given (answers hosts key args maps) members same (omega (arith, all)) are agree)

  agree_before : (i : ℕ) (given : List Answer) → i < length maps → Agree marked i given (answers hosts key args maps) → Agree marked i given (answers hosts key args (take i maps))
  agree_before i given within agree place lt is = agree place lt is ∙ before hosts key args maps i within place lt

  -- one map more
  pub agree_more : (i : ℕ) (table : Table) (given now shown : List Answer) (one : Answer) (is_asked : Bool) → i < length maps → table ≡ get_or maps i table → is_asked ≡ get_or marked i false → IsClosed 0 maps marked
      → length given ≡ i → shown ≡ given → (is_asked ≡ true → one ≡ answer hosts key args shown table) → now ≡ given ++ one ∷ []
      → Agree marked i given (answers hosts key args maps) → Agree marked (i + 1) now (answers hosts key args maps)
  agree_more i table given now shown one is_asked within at asks closed count lent is put agree place lt there =
      ap (λ (a : List Answer). slice_get a place) put ∙ elim (cases_order place i) [
        | inl e ↦ subst (λ (k : ℕ). slice_get (given ++ one ∷ []) k ≡ slice_get (answers hosts key args maps) k) (sym e) (here (subst (λ (k : ℕ). get_or marked k false ≡ true) e there))
        | inr (inl less) ↦ at_front given (one ∷ []) place (omega (arith, less, count)) ∙ agree place less there
        | inr (inr more) ↦ absurd (omega (arith, lt, more))
      ]
    where
      stands : slice_get maps i ≡ Some table
      stands = slice_get-get_or maps i table within ∙ ap (λ (t : Table). Some t) (sym at)

      known : length (answers hosts key args (take i maps)) ≡ i
      known = let all = long hosts key args [] (take i maps) in let front = length-take-le i maps (omega (arith, within)) in omega (arith, all, front)

      here : get_or marked i false ≡ true → slice_get (given ++ one ∷ []) i ≡ slice_get (answers hosts key args maps) i
      here marks =
          ap (slice_get (given ++ one ∷ [])) (sym count) ∙ at_last given one
          ∙ ap (λ (o : Answer). Some o)
          (is (asks ∙ marks) ∙ ap (λ (s : List Answer). answer hosts key args s table) lent
          ∙ from_members hosts key args given (answers hosts key args (take i maps)) table
          (members_same (members_in table.line.class) given (answers hosts key args (take i maps))
          (at_member marked i given (answers hosts key args (take i maps)) (members_in table.line.class) count known (closed i table (omega arith) marks stands) (agree_before i given within agree))))
          ∙ sym (place_gives hosts key args maps i table (sym stands))

-- what a sequence answers from its members' answers is what it answers
pub sequence_from : {E : Type 0} (r : Result (List Answer) E) (hosts : List HostLine) (key : List ℕ) (args : List (List ℕ)) (maps : List Table) (table : Table) (members : List ℕ) → members ≡ members_in table.line.class
    → IfOk r (λ given. map (answer_at given) members ≡ map (answer_at (answers hosts key args maps)) members)
    → IfOk r (λ given. answer hosts key args given table ≡ answer hosts key args (answers hosts key args maps) table)
sequence_from (Ok given) hosts key args maps table members is same =
    from_members hosts key args given (answers hosts key args maps) table
    (subst (λ (ms : List ℕ). map (answer_at given) ms ≡ map (answer_at (answers hosts key args maps)) ms) is same)
sequence_from (Err e) hosts key args maps table members is same = tt

-- what is written through a list of all that a list has is that list
pub written_back : (count : ℕ) (new rest : List Bool) → count ≡ length new → take count (new ++ rest) ≡ new
written_back count new rest is = ap (λ (n : ℕ). take n (new ++ rest)) is ∙ take-append_seam new rest

-- the members that were marked and asked
pub if_members_agree : {E : Type 0} (hosts : List HostLine) (key : List ℕ) (args : List (List ℕ)) (maps : List Table) (marked : List Bool) (members : List ℕ) (shown : List Bool) (r : Result (List Answer) E) → shown ≡ marked
    → AreMarked members (length maps) marked → IfOk r (λ given. Agree shown (length maps) given (answers hosts key args maps)) → IfOk r (λ given. length given ≡ length maps)
    → IfOk r (λ given. map (answer_at given) members ≡ map (answer_at (answers hosts key args maps)) members)
if_members_agree hosts key args maps marked members shown (Ok given) lent are agree same =
    members_agree hosts key args maps marked members given are (subst (λ (m : List Bool). Agree m (length maps) given (answers hosts key args maps)) lent agree) same
if_members_agree hosts key args maps marked members shown (Err e) lent are agree same = tt
