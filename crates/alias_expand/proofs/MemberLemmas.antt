-- Members are on one line, and their addresses aren't empty.
use Rattle.std.proofs.Common.{◌≡◌, ◌≢◌, ℕ, suc, ◌+◌, ◌-◌, ◌<◌, ◌==◌, ◌&&◌, Bool, true, false, not, cond, List, [], ◌∷◌, ◌++◌, length, map, take, drop, Option, Some, None, refl, sym, subst, arith}
use Rattle.std.specs.Prelude.{filter, IfSome, bytes_eq}
use Rattle.std.specs.List.{All, cons_option, filter_map, flat_map, onto_first, slice_split}
use Rattle.std.proofs.lemmas.Bool.{and_parts, eqb-false, eqb-true, false≢true}
use Rattle.std.proofs.lemmas.List.Elements.{All-append, All-cons, All-drop, All-filter, All-head, All-map, All-nil, All-tail, All-take, All-weaker}
use Rattle.mail_base.specs.Texts.{IsAddress, IsLine, is_lf}
use Rattle.map_tables.specs.Marks.{begins_with}
use Rattle.alias_expand.specs.declared.aliases.Alias.{Alias}
use Rattle.alias_expand.specs.declared.lines.Line.{Line}
use Rattle.alias_expand.specs.declared.members.Member.TheVariants.{Address, Include}
use Rattle.addr_tokens.specs.declared.place.Place.{Place}
use Rattle.addr_tokens.specs.declared.place.Separator.TheVariants.{Colon, Comma}
use Rattle.alias_expand.specs.Aliases.{alias_by, alias_of, file_aliases, name_of}
use Rattle.alias_expand.specs.Lines.{attached, goes_on, grouped, is_heard, is_indented, joined, logical_lines, numbered, spliced}
use Rattle.alias_expand.specs.Members.{IsMember, closes_last, file_members, include_mark, is_local, is_paired, line_members, member_of, unpaired, written}
use Rattle.addr_tokens.specs.Separators.{after, length_to, outside, pieces_from, separates}
use Rattle.mail_base.specs.Whites.{stripped}
use Rattle.alias_expand.specs.inner.AliasPlaces.{HasMembers}

-- ---- pieces

abbrev NoLf : ℕ → Type 0
NoLf b = b ≢ 10

onto_line : (b : ℕ) (parts : List (List ℕ)) → b ≢ 10 → All IsLine parts → All IsLine (onto_first b parts)
onto_line b [] other each = All-cons IsLine (b ∷ []) [] (All-cons NoLf b [] other (All-nil NoLf)) (All-nil IsLine)
onto_line b (part ∷ parts) other each = All-cons IsLine (b ∷ part) parts (All-cons NoLf b part other (All-head IsLine part parts each)) (All-tail IsLine part parts each)

line_by : (b : ℕ) (parts : List (List ℕ)) (ends : Bool) → is_lf b ≡ ends → All IsLine parts → All IsLine (cond ends ([] ∷ parts) (onto_first b parts))
line_by b parts true is each = All-cons IsLine [] parts (All-nil NoLf) each
line_by b parts false is each = onto_line b parts (eqb-false b 10 is) each

physical_each : (text : List ℕ) → All IsLine (slice_split is_lf text)
physical_each [] = All-cons IsLine [] [] (All-nil NoLf) (All-nil IsLine)
physical_each (b ∷ bs) = line_by b (slice_split is_lf bs) (is_lf b) refl (physical_each bs)

piece_by : (b : ℕ) (next parts : List (List ℕ)) (ends : Bool) → b ≢ 10 → All IsLine next → All IsLine parts → All IsLine (cond ends ([] ∷ next) (onto_first b parts))
piece_by b next parts true other behind each = All-cons IsLine [] next (All-nil NoLf) behind
piece_by b next parts false other behind each = onto_line b parts other each

pieces_each : (place : Place) (text : List ℕ) → IsLine text → All IsLine (pieces_from place text)
pieces_each place [] line = All-cons IsLine [] [] (All-nil NoLf) (All-nil IsLine)
pieces_each place (b ∷ bs) line =
    piece_by b (pieces_from outside bs) (pieces_from (after place b) bs) (separates Comma place b) (All-head NoLf b bs line) (pieces_each outside bs (All-tail NoLf b bs line)) (pieces_each (after place b) bs (All-tail NoLf b bs line))

stripped_line : (text : List ℕ) → IsLine text → IsLine (stripped text)
stripped_line text line = All-take NoLf _ _ (All-drop NoLf _ text line)

kept_by : (piece : List ℕ) (more : List (List ℕ)) (none : Bool) → (length piece == 0) ≡ none → IsLine piece → All IsAddress more → All IsAddress (cond (not none) (piece ∷ more) more)
kept_by piece more true is line each = each
kept_by piece more false is line each =
    let some = eqb-false (length piece) 0 is in
    All-cons IsAddress piece more (record { line = line; some = omega (arith, some) }) each

kept_each : (pieces : List (List ℕ)) → All IsLine pieces → All IsAddress (filter (λ piece. not (length piece == 0)) (map stripped pieces))
kept_each [] each = All-nil IsAddress
kept_each (piece ∷ pieces) each = kept_by (stripped piece) _ (length (stripped piece) == 0) refl (stripped_line piece (All-head IsLine piece pieces each)) (kept_each pieces (All-tail IsLine piece pieces each))

written_each : (text : List ℕ) → IsLine text → All IsAddress (written text)
written_each text line = kept_each (pieces_from outside text) (pieces_each outside text line)

-- ---- members

is_true : (t : Bool) → cond t true false ≡ true → t ≡ true
is_true true e = refl
is_true false e = e

-- what stands in a pair of quotes isn't empty
inner_some : (text : List ℕ) → (is_paired text && is_local (drop 1 text)) ≡ true → 0 < length (take (length text - 2) (drop 1 text))
inner_some [] is = absurd (false≢true is)
inner_some (b ∷ []) is = absurd (false≢true (and_parts _ _ is).1)
inner_some (b ∷ c ∷ []) is =
    let parts = and_parts (is_paired (b ∷ c ∷ [])) (is_local (c ∷ [])) is in
    let closed = and_parts (b == 34) (closes_last false (c ∷ [])) parts.0 in
    let quote : c ≡ 34 = eqb-true c 34 (is_true (c == 34) closed.1) in
    absurd (false≢true (subst (λ (k : ℕ). is_local (k ∷ []) ≡ true) quote parts.1))
inner_some (b ∷ c ∷ d ∷ ds) is =
    let size : length (b ∷ c ∷ d ∷ ds) - 2 ≡ suc (length ds) = omega arith in
    subst (λ (k : ℕ). 0 < length (take k (c ∷ d ∷ ds))) (sym size) (omega arith)

unpaired_by : (text : List ℕ) (paired : Bool) → (is_paired text && is_local (drop 1 text)) ≡ paired → IsAddress text → IsAddress (cond paired (take (length text - 2) (drop 1 text)) text)
unpaired_by text true is address = record { line = All-take NoLf _ _ (All-drop NoLf 1 text address.line); some = inner_some text is }
unpaired_by text false is address = address

member_by : (text : List ℕ) (include : Bool) → IsAddress text → IsMember (cond include (Include (drop 9 text)) (Address (unpaired text)))
member_by text true address = All-drop NoLf 9 text address.line
member_by text false address = unpaired_by text (is_paired text && is_local (drop 1 text)) refl address

member_is : (text : List ℕ) → IsAddress text → IsMember (member_of text)
member_is text address = member_by text (bytes_eq (take 9 text) include_mark) address

members_each : (texts : List (List ℕ)) → All IsAddress texts → All IsMember (map member_of texts)
members_each texts each = All-map IsMember member_of texts (All-weaker IsAddress (λ (text : List ℕ). IsMember (member_of text)) member_is texts each)

line_members_by : (line : List ℕ) (comment : Bool) → IsLine line → All IsMember (cond comment [] (map member_of (written line)))
line_members_by line true is = All-nil IsMember
line_members_by line false is = members_each (written line) (written_each line is)

lines_each : (lines : List (List ℕ)) → All IsLine lines → All IsMember (flat_map line_members lines)
lines_each [] each = All-nil IsMember
lines_each (line ∷ lines) each = All-append IsMember (line_members line) _ (line_members_by line (begins_with 35 line) (All-head IsLine line lines each)) (lines_each lines (All-tail IsLine line lines each))

-- each member of a file is one
pub file_each : (text : List ℕ) → All IsMember (file_members text)
file_each text = lines_each (slice_split is_lf text) (physical_each text)

-- ---- aliases

abbrev HasLine : Line → Type 0
HasLine line = IsLine line.text

spliced_each : (line : Line) (lines : List Line) → HasLine line → All HasLine lines → All HasLine (spliced line lines)
spliced_each line [] is each = All-cons HasLine line [] is (All-nil HasLine)
spliced_each line (next ∷ lines) is each =
    All-cons HasLine _ lines (All-append NoLf (take (length line.text - 1) line.text) next.text (All-take NoLf _ line.text is) (All-head HasLine next lines each)) (All-tail HasLine next lines each)

joined_by : (number : ℕ) (line : List ℕ) (behind next : List Line) (goes : Bool) → IsLine line → All HasLine behind → All HasLine next
    → All HasLine (cond goes (spliced (numbered number line) behind) (numbered number line ∷ next))
joined_by number line behind next true is each others = spliced_each (numbered number line) behind is each
joined_by number line behind next false is each others = All-cons HasLine (numbered number line) next is others

joined_each : (behind : Bool) (number : ℕ) (lines : List (List ℕ)) → All IsLine lines → All HasLine (joined behind number lines)
joined_each behind number [] each = All-nil HasLine
joined_each behind number (line ∷ lines) each =
    joined_by number line (joined true (number + 1) lines) (joined false (number + 1) lines) (goes_on behind line) (All-head IsLine line lines each) (joined_each true (number + 1) lines (All-tail IsLine line lines each)) (joined_each false (number + 1) lines (All-tail IsLine line lines each))

attached_by : (line next : Line) (lines : List Line) (continues : Bool) → HasLine line → All HasLine (next ∷ lines)
    → All HasLine (cond continues (numbered line.number (line.text ++ 32 ∷ next.text) ∷ lines) (line ∷ next ∷ lines))
attached_by line next lines true is each =
    All-cons HasLine _ lines (All-append NoLf line.text (32 ∷ next.text) is (All-cons NoLf 32 next.text (λ e. absurd (omega (arith, e))) (All-head HasLine next lines each))) (All-tail HasLine next lines each)
attached_by line next lines false is each = All-cons HasLine line (next ∷ lines) is each

attached_each : (line : Line) (lines : List Line) → HasLine line → All HasLine lines → All HasLine (attached line lines)
attached_each line [] is each = All-cons HasLine line [] is (All-nil HasLine)
attached_each line (next ∷ lines) is each = attached_by line next lines (is_indented next.text) is each

grouped_each : (lines : List Line) → All HasLine lines → All HasLine (grouped lines)
grouped_each [] each = All-nil HasLine
grouped_each (line ∷ lines) each = attached_each line (grouped lines) (All-head HasLine line lines each) (grouped_each lines (All-tail HasLine line lines each))

logical_each : (text : List ℕ) → All HasLine (logical_lines text)
logical_each text = grouped_each _ (All-filter is_heard HasLine _ (joined_each false 1 (slice_split is_lf text) (physical_each text)))

alias_members : (name : List ℕ) (texts : List (List ℕ)) (refused : Bool) → All IsAddress texts → IfSome (cond refused None (Some (record { name = name; members = map member_of texts }))) HasMembers
alias_members name texts true each = tt
alias_members name texts false each = members_each texts each

alias_when : (name : List ℕ) (texts : List (List ℕ)) (has_colon : Bool) → All IsAddress texts → IfSome (cond has_colon (alias_by name texts) None) HasMembers
alias_when name texts true each = alias_members name texts _ each
alias_when name texts false each = tt

alias_has : (line : List ℕ) → IsLine line → IfSome (alias_of line) HasMembers
alias_has line is = alias_when (name_of (take (length_to Colon outside line) line)) (written (drop (length_to Colon outside line + 1) line)) _ (written_each _ (All-drop NoLf (length_to Colon outside line + 1) line is))

with_option : (found : Option Alias) (more : List Alias) → IfSome found HasMembers → All HasMembers more → All HasMembers (cons_option found more)
with_option None more is each = each
with_option (Some alias) more is each = All-cons HasMembers alias more is each

aliases_each : (lines : List Line) → All HasLine lines → All HasMembers (filter_map (λ line. alias_of line.text) lines)
aliases_each [] each = All-nil HasMembers
aliases_each (line ∷ lines) each = with_option (alias_of line.text) _ (alias_has line.text (All-head HasLine line lines each)) (aliases_each lines (All-tail HasLine line lines each))

-- each alias of a file has members
pub file_aliases_each : (text : List ℕ) → All HasMembers (file_aliases text)
file_aliases_each text = aliases_each (logical_lines text) (logical_each text)
