-- The places of a header: in it, and each behind the one before it.
use Rattle.std.proofs.Common.{◌≡◌, ◌≢◌, ℕ, zero, suc, ◌+◌, ◌-◌, ◌<◌, ◌≤◌, ltb, Bool, true, false, cond, List, [], ◌∷◌, ◌++◌, length, take, drop, Option, Some, None, Ok, Err, All, refl, sym, ◌∙◌, ap, subst, arith}
use Rattle.std.specs.Prelude.{slice_get, find, filter_map, codes}
use Rattle.std.specs.List.{list_any, count_by, prefix_len, suffix_len, position_or_len, slice_split, onto_first, cons_option, flat_map}
use Rattle.std.proofs.lemmas.Bool.{ltb-true}
use Rattle.std.proofs.lemmas.List.{length-append, length-drop}
use Rattle.std.proofs.lemmas.List.Elements.{All-nil, All-cons}
use Rattle.addr_tokens.specs.declared.fault.ScanFault.{ScanFault}
use Rattle.addr_tokens.specs.declared.fault.ScanFault.TheVariants.{Unbalanced, BadQuote, BadDollar, Long, NoMemory}
use Rattle.addr_tokens.specs.declared.span.PieceSpan.{PieceSpan}
use Rattle.addr_tokens.specs.Pieces.{Piece, bytes_of, plain}
use Rattle.addr_tokens.specs.Scans.{HasFault}
use Rattle.addr_tokens.specs.Spans.{kind_of, spans_from, spans_or_fault, AreSpans, ExplainsUncut}
use Rattle.mail_header.specs.declared.part.Part.{Part}
use Rattle.mail_header.specs.declared.span.Span.{Span}
use Rattle.mail_header.specs.Fields.{value_of, is_colon}
use Rattle.mail_header.specs.Places.{depth_after, parts_of, is_comma, is_group, is_left, is_right, is_comment, is_gap, span_from, span_between, span_over, without_gaps, stripped, place_by, place_of, places_in, places_read, places_of, AreApart}

-- a part between two bytes of a header
record IsPartIn (low high : ℕ) (part : Part) : Type 0 where
  pub front : low ≤ part.start
  pub forward : part.start ≤ part.end
  pub back : part.end ≤ high

abbrev Within : ℕ → ℕ → List Part → Type 0
Within low high [] = Unit {0}
Within low high (part ∷ parts) = IsPartIn low high part × Within low high parts

-- a place between two bytes
record IsIn (low high : ℕ) (span : Span) : Type 0 where
  pub front : low ≤ span.start
  pub some : 0 < span.length
  pub back : span.start + span.length ≤ high

module _ (low high : ℕ) where
  within_drop : (n : ℕ) (parts : List Part) → Within low high parts → Within low high (drop n parts)
  within_drop zero parts w = w
  within_drop (suc n) [] w = tt
  within_drop (suc n) (part ∷ parts) w = within_drop n parts w.1

  within_take : (n : ℕ) (parts : List Part) → Within low high parts → Within low high (take n parts)
  within_take zero parts w = tt
  within_take (suc n) [] w = tt
  within_take (suc n) (part ∷ parts) w = (w.0, within_take n parts w.1)

  -- a part that is found stands between them
  abbrev Found : Option Part → Type 0
  Found None = Unit {0}
  Found (Some part) = IsPartIn low high part

  found_first : (test : Bool) (part : Part) (other : Option Part) → IsPartIn low high part → Found other → Found (cond test (Some part) other)
  found_first true part other here there = here
  found_first false part other here there = there

  within_find : (is : Part → Bool) (parts : List Part) → Within low high parts → Found (find is parts)
  within_find is [] w = tt
  within_find is (part ∷ parts) w = found_first (is part) part (find is parts) w.0 (within_find is parts w.1)

  within_get : (n : ℕ) (parts : List Part) → Within low high parts → Found (slice_get parts n)
  within_get n [] w = tt
  within_get zero (part ∷ parts) w = w.0
  within_get (suc n) (part ∷ parts) w = within_get n parts w.1

  abbrev Placed : Option Span → Type 0
  Placed None = Unit {0}
  Placed (Some span) = IsIn low high span

  placed_by : (start end : ℕ) → low ≤ start → end ≤ high → (test : Bool) → ltb start end ≡ test → Placed (cond test (Some (record { start = start; length = end - start })) None)
  placed_by start end front back true is =
      let less : start < end = ltb-true start end is in
      record { front = front; some = omega (arith, less); back = omega (arith, less, back) }
  placed_by start end front back false is = tt

  placed_from : (start end : ℕ) → low ≤ start → end ≤ high → Placed (span_from start end)
  placed_from start end front back = placed_by start end front back (ltb start end) refl

  over_in : (first last : Option Part) → Found first → Found last → Placed (span_over first last)
  over_in (Some first) (Some last) f l = placed_from first.start last.end f.front l.back
  over_in (Some first) None f l = tt
  over_in None last f l = tt

  between_in : (left right : Option Part) → Found left → Found right → Placed (span_between left right)
  between_in (Some left) (Some right) l r = placed_from left.end right.start (omega (arith, l.front, l.forward)) (omega (arith, r.forward, r.back))
  between_in (Some left) None l r = tt
  between_in None right l r = tt

  bare_in : (parts : List Part) → Within low high parts → (test : Bool) → Placed (cond test None (span_over (slice_get parts 0) (slice_get parts (length parts - 1))))
  bare_in parts w true = tt
  bare_in parts w false = over_in (slice_get parts 0) (slice_get parts (length parts - 1)) (within_get 0 parts w) (within_get (length parts - 1) parts w)

  by_in : (n : ℕ) (member : List Part) → Within low high member → Placed (place_by n member)
  by_in zero member w =
      let rest = without_gaps member in
      let left = stripped member in
      bare_in left (within_take (length rest - suffix_len is_gap rest) rest (within_drop (prefix_len is_gap member) member w)) (list_any is_comment left)
  by_in (suc zero) member w = between_in (find is_left member) (find is_right member) (within_find is_left member w) (within_find is_right member w)
  by_in (suc (suc n)) member w = tt

-- parts in order
abbrev IsChain : ℕ → List Part → ℕ → Type 0
IsChain at [] end = at ≤ end
IsChain at (part ∷ parts) end = (at ≤ part.start) × (part.start ≤ part.end) × IsChain part.end parts end

chain_le : (at : ℕ) (parts : List Part) (end : ℕ) → IsChain at parts end → at ≤ end
chain_le at [] end c = c
chain_le at (part ∷ parts) end c = omega (arith, c.0, c.1, chain_le part.end parts end c.2)

widened : (low other high : ℕ) (parts : List Part) → other ≤ low → Within low high parts → Within other high parts
widened low other high [] le w = tt
widened low other high (part ∷ parts) le w =
    (record { front = omega (arith, le, w.0.front); forward = w.0.forward; back = w.0.back }, widened low other high parts le w.1)

chain_within : (at : ℕ) (parts : List Part) (end : ℕ) → IsChain at parts end → Within at end parts
chain_within at [] end c = tt
chain_within at (part ∷ parts) end c =
    (record { front = c.0; forward = c.1; back = chain_le part.end parts end c.2 }, widened part.end at end parts (omega (arith, c.0, c.1)) (chain_within part.end parts end c.2))

earlier : (at other : ℕ) (parts : List Part) (end : ℕ) → other ≤ at → IsChain at parts end → IsChain other parts end
earlier at other [] end le c = omega (arith, le, c)
earlier at other (part ∷ parts) end le c = (omega (arith, le, c.0), c.1, c.2)

-- members in order, each a chain of its own
abbrev AreMembers : ℕ → List (List Part) → ℕ → Type 0
AreMembers at [] end = at ≤ end
AreMembers at (member ∷ members) end = (border : ℕ) × (IsChain at member border × AreMembers border members end)

members_earlier : (at other : ℕ) (members : List (List Part)) (end : ℕ) → other ≤ at → AreMembers at members end → AreMembers other members end
members_earlier at other [] end le a = omega (arith, le, a)
members_earlier at other (member ∷ members) end le a = (a.0, (earlier at other member a.0 le a.1.0, a.1.1))

onto_members : (at : ℕ) (part : Part) (members : List (List Part)) (end : ℕ) → at ≤ part.start → part.start ≤ part.end → AreMembers part.end members end → AreMembers at (onto_first part members) end
onto_members at part [] end front forward a = (part.end, ((front, forward, omega arith), a))
onto_members at part (member ∷ members) end front forward a = (a.0, ((front, forward, a.1.0), a.1.1))

split_at : (at : ℕ) (part : Part) (members : List (List Part)) (end : ℕ) (test : Bool) → at ≤ part.start → part.start ≤ part.end → AreMembers part.end members end → AreMembers at (cond test ([] ∷ members) (onto_first part members)) end
split_at at part members end true front forward a = (at, (omega arith, members_earlier part.end at members end (omega (arith, front, forward)) a))
split_at at part members end false front forward a = onto_members at part members end front forward a

split_members : (at : ℕ) (parts : List Part) (end : ℕ) → IsChain at parts end → AreMembers at (slice_split is_comma parts) end
split_members at [] end c = (at, (omega arith, c))
split_members at (part ∷ parts) end c = split_at at part (slice_split is_comma parts) end (is_comma part) c.0 c.1 (split_members part.end parts end c.2)

-- places in order

apart_earlier : (from other : ℕ) (spans : List Span) (to : ℕ) → other ≤ from → AreApart from spans to → AreApart other spans to
apart_earlier from other [] to le a = omega (arith, le, a)
apart_earlier from other (span ∷ spans) to le a = (omega (arith, le, a.0), a.1, a.2)

one_apart : (from border : ℕ) (place : Option Span) (spans : List Span) (to : ℕ) → from ≤ border → Placed from border place → AreApart border spans to → AreApart from (cons_option place spans) to
one_apart from border None spans to le placed a = apart_earlier border from spans to le a
one_apart from border (Some span) spans to le placed a = (placed.front, placed.some, apart_earlier border (span.start + span.length) spans to placed.back a)

members_apart : (from : ℕ) (members : List (List Part)) (to : ℕ) → AreMembers from members to → AreApart from (filter_map place_of members) to
members_apart from [] to a = a
members_apart from (member ∷ members) to a =
    one_apart from a.0 (place_of member) (filter_map place_of members) to (chain_le from member a.0 a.1.0) (by_in from a.0 (count_by is_left member) member (chain_within from member a.0 a.1.0)) (members_apart a.0 members to a.1.1)

grouped_apart : (from : ℕ) (parts : List Part) (to : ℕ) (test : Bool) → IsChain from parts to → AreApart from (cond test [] (filter_map place_of (slice_split is_comma parts))) to
grouped_apart from parts to true c = chain_le from parts to c
grouped_apart from parts to false c = members_apart from (slice_split is_comma parts) to (split_members from parts to c)

-- the pieces of a cutting are in order
chain_of : (pieces : List Piece) (before depth place : ℕ) → IsChain (before + place) (parts_of before depth (spans_from place pieces)) (before + (place + length (flat_map bytes_of pieces)))
chain_of [] before depth place = omega arith
chain_of (piece ∷ pieces) before depth place =
    let size = length (bytes_of piece) in
    let same : before + (place + size + length (flat_map bytes_of pieces)) ≡ before + (place + length (bytes_of piece ++ flat_map bytes_of pieces)) = omega (arith, length-append (bytes_of piece) (flat_map bytes_of pieces)) in
    let more = parts_of before (depth_after depth (kind_of piece)) (spans_from (place + size) pieces) in
    (omega arith, omega arith, subst (IsChain (before + (place + size)) more) same (chain_of pieces before (depth_after depth (kind_of piece)) (place + size)))

-- each ends in the text
spans_fit : (pieces : List Piece) (before place high : ℕ) → before + (place + length (flat_map bytes_of pieces)) < high → All (λ span. before + (span.start + span.length) < high) (spans_from place pieces)
spans_fit [] before place high le = All-nil (λ span. before + (span.start + span.length) < high)
spans_fit (piece ∷ pieces) before place high le =
    let size = length (bytes_of piece) in
    All-cons (λ span. before + (span.start + span.length) < high) _ _ (omega (arith, le, length-append (bytes_of piece) (flat_map bytes_of pieces)))
    (spans_fit pieces before (place + size) high (omega (arith, le, length-append (bytes_of piece) (flat_map bytes_of pieces))))

-- ---- a value before which so many bytes of its header stand

module _ (before : ℕ) (value : List ℕ) (items spans : List PieceSpan) (shown : items ≡ spans) (are : AreSpans (plain (codes ":")) true value spans) where
  whole_length : before + (0 + length (flat_map bytes_of are.pieces)) ≡ before + length value
  whole_length = omega (arith, ap length are.cut.whole)

  -- the ends of its pieces are numbers of the machine
  pub pieces_fit : (high : ℕ) → before + length value < high → All (λ span. before + (span.start + span.length) < high) items
  pieces_fit high less =
      subst (All (λ span. before + (span.start + span.length) < high)) (are.spans_are ∙ sym shown) (spans_fit are.pieces before 0 high (omega (arith, whole_length, less)))

  chain : IsChain 0 (parts_of before 0 items) (before + length value)
  chain =
      let first = subst (IsChain (before + 0) (parts_of before 0 (spans_from 0 are.pieces))) whole_length (chain_of are.pieces before 0 0) in
      earlier (before + 0) 0 (parts_of before 0 items) (before + length value) (omega arith)
      (subst (λ s. IsChain (before + 0) (parts_of before 0 s) (before + length value)) (are.spans_are ∙ sym shown) first)

  module _ (parts read : List Part) (parts_are : parts ≡ parts_of before 0 items) (reads : read ≡ parts) where
    -- what is made of its parts are its places
    pub places_are : spans_or_fault (plain (codes ":")) true value ≡ Ok spans → (places : List Span) → places ≡ places_in read → places ≡ places_read before (spans_or_fault (plain (codes ":")) true value)
    places_are computed places is = is ∙ ap places_in (reads ∙ parts_are ∙ ap (parts_of before 0) shown) ∙ sym (ap (places_read before) computed)

    -- they stand in the header, each behind the one before it
    pub places_apart : (places : List Span) → places ≡ places_in read → AreApart 0 places (before + length value)
    places_apart places is =
        let all = parts_of before 0 items in
        subst (λ p. AreApart 0 p (before + length value)) (sym (is ∙ ap places_in (reads ∙ parts_are))) (grouped_apart 0 all (before + length value) (list_any is_group all) chain)

-- a value that has no pieces has no places
module _ (before : ℕ) (value : List ℕ) (law : (fault : ScanFault) → fault ≢ Long → HasFault (plain (codes ":")) true value fault → spans_or_fault (plain (codes ":")) true value ≡ Err fault) where
  none_by : (fault : ScanFault) → spans_or_fault (plain (codes ":")) true value ≡ Err fault → [] ≡ places_read before (spans_or_fault (plain (codes ":")) true value)
  none_by fault is = sym (ap (places_read before) is)

  pub no_places : (fault : ScanFault) → (fault ≡ NoMemory → ⊥) → ExplainsUncut (plain (codes ":")) true value fault → [] ≡ places_read before (spans_or_fault (plain (codes ":")) true value)
  no_places (Unbalanced n) some has = none_by (Unbalanced n) (law (Unbalanced n) (λ e. cc e) has)
  no_places (BadQuote n) some has = none_by (BadQuote n) (law (BadQuote n) (λ e. cc e) has)
  no_places (BadDollar n) some has = none_by (BadDollar n) (law (BadDollar n) (λ e. cc e) has)
  no_places Long some has = absurd has
  no_places NoMemory some has = absurd (some refl)

-- ---- a header

value_short : (header : List ℕ) → length (value_of header) ≤ length header
value_short header = omega (arith, length-drop (position_or_len is_colon header + 1) header)

module _ (header text value : List ℕ) (n : ℕ) (reads : text ≡ header) (is : value ≡ value_of text) (size : n ≡ length header) where
  value_is : value ≡ value_of header
  value_is = is ∙ ap value_of reads

  -- the header's length is that of its front and its value
  pub parts_length : n - length value + length value ≡ length header
  parts_length = omega (arith, size, ap length value_is, value_short header)

  -- the places of its value are its own
  pub header_places : (places : List Span) → places ≡ places_read (n - length value) (spans_or_fault (plain (codes ":")) true value) → places ≡ places_of header
  unfolding places_of
  header_places places e =
      e ∙ ap (λ v. places_read (n - length v) (spans_or_fault (plain (codes ":")) true v)) value_is
      ∙ ap (λ m. places_read (m - length (value_of header)) (spans_or_fault (plain (codes ":")) true (value_of header))) size

  pub header_apart : (places : List Span) → AreApart 0 places (n - length value + length value) → AreApart 0 places (length header)
  header_apart places a = subst (AreApart 0 places) parts_length a
