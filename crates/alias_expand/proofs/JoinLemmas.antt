-- Lines of an alias file as they are cut from the front.
use Rattle.std.proofs.Common.{◌≡◌, ℕ, ◌+◌, ◌-◌, ◌<◌, ◌==◌, ◌&&◌, Bool, true, false, not, cond, List, [], ◌∷◌, ◌++◌, length, take, drop, get_or, refl, sym, ap, subst, ◌∙◌, append_assoc, append-nil}
use Rattle.std.specs.Prelude.{filter}
use Rattle.std.specs.List.{onto_first, slice_split}
use Rattle.std.proofs.lemmas.Bool.{false≢true}
use Rattle.std.proofs.lemmas.List.{drop_more}
use Rattle.std.proofs.lemmas.List.Elements.{filter-append}
use Rattle.mail_base.specs.Texts.{is_lf}
use Rattle.map_tables.specs.Marks.{begins_with}
use Rattle.alias_expand.specs.declared.lines.Line.{Line}
use Rattle.alias_expand.specs.Lines.{attached, goes_on, grouped, is_heard, is_indented, joined, numbered, spliced}
use Rattle.alias_expand.specs.inner.Cutting.{added, heard_on, merged, onto_last, part_of, pending}

-- ---- a text behind the last line

-- the last line, before which others stand, with a text behind it
pub onto_last_push : (lines : List Line) (line : Line) (text : List ℕ) → onto_last text (lines ++ line ∷ []) ≡ lines ++ numbered line.number (line.text ++ text) ∷ []
onto_last_push [] line text = refl
onto_last_push (l ∷ []) line text = refl
onto_last_push (l ∷ m ∷ lines) line text = ap (λ (ls : List Line). l ∷ ls) (onto_last_push (m ∷ lines) line text)

-- two texts behind another are one
pub texts_behind : (text first second : List ℕ) → (text ++ first) ++ second ≡ text ++ (first ++ second)
texts_behind text first second = append_assoc text first second

onto_last_twice : (lines : List Line) (one other : List ℕ) → onto_last other (onto_last one lines) ≡ onto_last (one ++ other) lines
onto_last_twice [] one other = refl
onto_last_twice (l ∷ []) one other = ap (λ (t : List ℕ). numbered l.number t ∷ []) (append_assoc l.text one other)
onto_last_twice (l ∷ m ∷ []) one other = ap (λ (t : List ℕ). l ∷ numbered m.number t ∷ []) (append_assoc m.text one other)
onto_last_twice (l ∷ m ∷ n ∷ lines) one other = ap (λ (ls : List Line). l ∷ ls) (onto_last_twice (m ∷ n ∷ lines) one other)

onto_last_none : (lines : List Line) → onto_last [] lines ≡ lines
onto_last_none [] = refl
onto_last_none (l ∷ []) = ap (λ (t : List ℕ). numbered l.number t ∷ []) (append-nil l.text)
onto_last_none (l ∷ m ∷ lines) = ap (λ (ls : List Line). l ∷ ls) (onto_last_none (m ∷ lines))

-- ---- lines that go on

first_onto : (x : ℕ) (parts : List (List ℕ)) → (p : List ℕ) × (ps : List (List ℕ)) × (onto_first x parts ≡ p ∷ ps)
first_onto x [] = (_, _, refl)
first_onto x (part ∷ parts) = (_, _, refl)

some_line : (text : List ℕ) → (p : List ℕ) × (ps : List (List ℕ)) × (slice_split is_lf text ≡ p ∷ ps)
some_line [] = (_, _, refl)
some_line (b ∷ bs) = elim (is_lf b) as (λ t. (p : List ℕ) × (ps : List (List ℕ)) × (cond t ([] ∷ slice_split is_lf bs) (onto_first b (slice_split is_lf bs)) ≡ p ∷ ps)) [ true ↦ (_, _, refl) | false ↦ first_onto b (slice_split is_lf bs) ]

some_spliced : (line : Line) (lines : List Line) → (first : Line) × (more : List Line) × (spliced line lines ≡ first ∷ more)
some_spliced line [] = (_, _, refl)
some_spliced line (next ∷ lines) = (_, _, refl)

some_joined : (behind : Bool) (number : ℕ) (line : List ℕ) (lines : List (List ℕ)) → (first : Line) × (more : List Line) × (joined behind number (line ∷ lines) ≡ first ∷ more)
some_joined behind number line lines =
    elim (goes_on behind line) as (λ t. (first : Line) × (more : List Line) × (cond t (spliced (numbered number line) (joined true (number + 1) lines)) (numbered number line ∷ joined false (number + 1) lines) ≡ first ∷ more))
    [ true ↦ some_spliced (numbered number line) (joined true (number + 1) lines) | false ↦ (_, _, refl) ]

-- a line that goes on, with what goes on with it
going : (behind : Bool) (lines : List Line) (number : ℕ) (part : List ℕ) (next : Line) (more : List Line)
    → pending true (added behind number part lines) (next ∷ more) ≡ pending behind lines (numbered number (part ++ next.text) ∷ more)
going true lines number part next more = ap (λ (ls : List Line). ls ++ more) (onto_last_twice lines part next.text)
going false lines number part next more = ap (λ (ls : List Line). ls ++ more) (onto_last_push lines (numbered number part) next.text) ∙ append_assoc lines (numbered number (part ++ next.text) ∷ []) more

-- a line that doesn't go on
resting : (behind : Bool) (lines : List Line) (number : ℕ) (line : List ℕ) (more : List Line)
    → pending false (added behind number line lines) more ≡ pending behind lines (numbered number line ∷ more)
resting true lines number line more = refl
resting false lines number line more = append_assoc lines (numbered number line ∷ []) more

either : (behind goes : Bool) (lines : List Line) (number : ℕ) (line after : List ℕ)
    → pending goes (added behind number (part_of line goes) lines) (joined goes (number + 1) (slice_split is_lf after))
    ≡ pending behind lines (cond goes (spliced (numbered number line) (joined true (number + 1) (slice_split is_lf after))) (numbered number line ∷ joined false (number + 1) (slice_split is_lf after)))
either behind true lines number line after =
    let some = some_line after in
    let first = some_joined true (number + 1) some.0 some.1 in
    let is : joined true (number + 1) (slice_split is_lf after) ≡ first.0 ∷ first.1 = ap (joined true (number + 1)) some.2 ∙ first.2 in
    subst (λ (js : List Line). pending true (added behind number (take (length line - 1) line) lines) js ≡ pending behind lines (spliced (numbered number line) js)) (sym is)
    (going behind lines number (take (length line - 1) line) first.0 first.1)
either behind false lines number line after = resting behind lines number line (joined false (number + 1) (slice_split is_lf after))

alone : (behind : Bool) (number : ℕ) (line : List ℕ) → joined behind number (line ∷ []) ≡ numbered number line ∷ []
alone behind number line = elim (goes_on behind line) as (λ t. cond t (spliced (numbered number line) []) (numbered number line ∷ []) ≡ numbered number line ∷ []) [ true ↦ refl | false ↦ refl ]

-- an empty line at the end says nothing
quiet : (lines : List Line) (number : ℕ) → filter is_heard (lines ++ numbered number [] ∷ []) ≡ filter is_heard (lines ++ [])
quiet lines number = filter-append is_heard lines (numbered number [] ∷ []) ∙ sym (filter-append is_heard lines [])

-- one physical line more
pub joined_more : (behind ended is_open : Bool) (lines now whole : List Line) (number : ℕ) (rest line after : List ℕ)
    → slice_split is_lf rest ≡ line ∷ cond ended (slice_split is_lf after) [] → (ended ≡ false → after ≡ []) → is_open ≡ (ended && goes_on behind line)
    → now ≡ added behind number (part_of line is_open) lines
    → filter is_heard (pending behind lines (joined behind number (slice_split is_lf rest))) ≡ whole
    → filter is_heard (pending is_open now (joined is_open (number + 1) (slice_split is_lf after))) ≡ whole
joined_more behind true is_open lines now whole number rest line after cut last goes put so =
    ap (λ (ls : List Line). filter is_heard (pending is_open ls (joined is_open (number + 1) (slice_split is_lf after)))) put
    ∙ ap (λ (o : Bool). filter is_heard (pending o (added behind number (part_of line o) lines) (joined o (number + 1) (slice_split is_lf after)))) goes
    ∙ ap (filter is_heard) (either behind (goes_on behind line) lines number line after)
    ∙ ap (λ (ps : List (List ℕ)). filter is_heard (pending behind lines (joined behind number ps))) (sym cut) ∙ so
joined_more behind false is_open lines now whole number rest line after cut last goes put so =
    ap (λ (ls : List Line). filter is_heard (pending is_open ls (joined is_open (number + 1) (slice_split is_lf after)))) put
    ∙ ap (λ (o : Bool). filter is_heard (pending o (added behind number (part_of line o) lines) (joined o (number + 1) (slice_split is_lf after)))) goes
    ∙ ap (λ (t : List ℕ). filter is_heard (pending false (added behind number line lines) (joined false (number + 1) (slice_split is_lf t)))) (last refl)
    ∙ quiet (added behind number line lines) (number + 1)
    ∙ ap (filter is_heard) (resting behind lines number line [] ∙ ap (pending behind lines) (sym (alone behind number line)))
    ∙ ap (λ (ps : List (List ℕ)). filter is_heard (pending behind lines (joined behind number ps))) (sym cut) ∙ so

-- no physical line more
pub joined_all : (behind : Bool) (lines whole : List Line) (number : ℕ) (rest : List ℕ) → rest ≡ []
    → filter is_heard (pending behind lines (joined behind number (slice_split is_lf rest))) ≡ whole → filter is_heard lines ≡ whole
joined_all true lines whole number rest none so =
    ap (filter is_heard) (sym (onto_last_none lines) ∙ sym (append-nil (onto_last [] lines)))
    ∙ ap (λ (t : List ℕ). filter is_heard (pending true lines (joined true number (slice_split is_lf t)))) (sym none) ∙ so
joined_all false lines whole number rest none so =
    ap (filter is_heard) (sym (append-nil lines)) ∙ sym (quiet lines number)
    ∙ ap (λ (t : List ℕ). filter is_heard (pending false lines (joined false number (slice_split is_lf t)))) (sym none) ∙ so

-- ---- lines that are continued

some_last : (text : List ℕ) (l : Line) (lines : List Line) → (first : Line) × (more : List Line) × (onto_last text (l ∷ lines) ≡ first ∷ more)
some_last text l [] = (_, _, refl)
some_last text l (m ∷ lines) = (_, _, refl)

some_heard : (line : Line) (lines : List Line) → (first : Line) × (more : List Line) × (heard_on line lines ≡ first ∷ more)
some_heard line [] = (_, _, refl)
some_heard line (l ∷ lines) =
    elim (is_indented line.text) as (λ t. (first : Line) × (more : List Line) × (cond t (onto_last (32 ∷ line.text) (l ∷ lines)) ((l ∷ lines) ++ line ∷ []) ≡ first ∷ more))
    [ true ↦ some_last (32 ∷ line.text) l lines | false ↦ (_, _, refl) ]

-- what is heard behind some line
heard_behind : (next line : Line) (lines : List Line)
    → heard_on next (heard_on line lines) ≡ cond (is_indented next.text) (onto_last (32 ∷ next.text) (heard_on line lines)) (heard_on line lines ++ next ∷ [])
heard_behind next line lines =
    let some = some_heard line lines in
    subst (λ (ls : List Line). heard_on next ls ≡ cond (is_indented next.text) (onto_last (32 ∷ next.text) ls) (ls ++ next ∷ [])) (sym some.2) refl

indented_more : (text more : List ℕ) → (not (length text == 0) && not (begins_with 35 text)) ≡ true → is_indented (text ++ more) ≡ is_indented text
indented_more [] more heard = absurd (false≢true heard)
indented_more (b ∷ bs) more heard = refl

heard_with : (line : Line) (lines : List Line) (text : List ℕ) → is_heard line ≡ true → onto_last text (heard_on line lines) ≡ heard_on (numbered line.number (line.text ++ text)) lines
heard_with line [] text heard = refl
heard_with line (l ∷ lines) text heard =
    elim (is_indented line.text) as (λ t. onto_last text (cond t (onto_last (32 ∷ line.text) (l ∷ lines)) ((l ∷ lines) ++ line ∷ [])) ≡ cond t (onto_last (32 ∷ (line.text ++ text)) (l ∷ lines)) ((l ∷ lines) ++ numbered line.number (line.text ++ text) ∷ []))
    [ true ↦ onto_last_twice (l ∷ lines) (32 ∷ line.text) text | false ↦ onto_last_push (l ∷ lines) line text ]
    ∙ ap (λ (t : Bool). cond t (onto_last (32 ∷ (line.text ++ text)) (l ∷ lines)) ((l ∷ lines) ++ numbered line.number (line.text ++ text) ∷ [])) (sym (indented_more line.text text heard))

heard_next : (lines : List Line) (line : Line) (groups : List Line) → is_heard line ≡ true → merged (heard_on line lines) groups ≡ merged lines (attached line groups)
heard_next lines line [] heard = sym (append-nil (heard_on line lines))
heard_next lines line (next ∷ more) heard =
    ap (λ (ls : List Line). ls ++ more) (heard_behind next line lines)
    ∙ elim (is_indented next.text) as (λ t. cond t (onto_last (32 ∷ next.text) (heard_on line lines)) (heard_on line lines ++ next ∷ []) ++ more ≡ merged lines (cond t (numbered line.number (line.text ++ 32 ∷ next.text) ∷ more) (line ∷ next ∷ more)))
    [ true ↦ ap (λ (ls : List Line). ls ++ more) (heard_with line lines (32 ∷ next.text) heard) | false ↦ append_assoc (heard_on line lines) (next ∷ []) more ]

merged_next : (lines : List Line) (line : Line) (rest : List Line) (heard : Bool) → is_heard line ≡ heard
    → merged (cond heard (heard_on line lines) lines) (grouped (filter is_heard rest)) ≡ merged lines (grouped (cond heard (line ∷ filter is_heard rest) (filter is_heard rest)))
merged_next lines line rest true is = heard_next lines line (grouped (filter is_heard rest)) is
merged_next lines line rest false is = refl

-- one line more
pub merged_more : (lines now : List Line) (line : Line) (all : List Line) (i : ℕ) → i < length all → line ≡ get_or all i line
    → now ≡ cond (is_heard line) (heard_on line lines) lines
    → merged lines (grouped (filter is_heard (drop i all))) ≡ grouped (filter is_heard all)
    → merged now (grouped (filter is_heard (drop (i + 1) all))) ≡ grouped (filter is_heard all)
merged_more lines now line all i lt at put so =
    let cut : drop i all ≡ line ∷ drop (i + 1) all = drop_more all i line lt ∙ ap (λ (l : Line). l ∷ drop (i + 1) all) (sym at) in
    ap (λ (ls : List Line). merged ls (grouped (filter is_heard (drop (i + 1) all)))) put
    ∙ merged_next lines line (drop (i + 1) all) (is_heard line) refl
    ∙ ap (λ (ls : List Line). merged lines (grouped (filter is_heard ls))) (sym cut) ∙ so
