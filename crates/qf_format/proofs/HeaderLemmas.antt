-- Headers as they are read.
use Rattle.std.proofs.Common.{◌≡◌, ℕ, suc, ◌+◌, ◌<◌, ◌≤◌, List, [], ◌∷◌, ◌++◌, length, get_or, take, drop, Some, None, refl, sym, ap, subst, ◌∙◌, append_assoc, arith, length-append, length-take, drop-cons, inl, inr}
use Rattle.std.specs.Prelude.{◌⊎◌, slice_index}
use Rattle.std.specs.List.{flat_map}
use Rattle.std.proofs.Math.ListN.{get_or-append}
use Rattle.std.proofs.Math.Seq.{take-append_seam, get_or-append_seam}
use Rattle.std.proofs.lemmas.Bool.{cases_lt, cases_eq, cases_order}
use Rattle.std.proofs.lemmas.List.{take-append-drop, get_or-take, get_or-append-add, get_or_past, append_cancel_left}
use Rattle.mail_base.specs.Texts.{IsBlank, IsHeader}
use Rattle.qf_format.specs.declared.stop.Stop.{Stop}
use Rattle.qf_format.specs.declared.stop.Stop.TheVariants.{Outside, Memory}
use Rattle.qf_format.specs.inner.Reading.{Front, NoFront, Stops}
use Rattle.qf_format.specs.inner.Parts.{At, NotAt, NotBlank, EachHeader, EndsAt, IsHeaderEnd}
use Rattle.qf_format.specs.Spelling.{header_lines}
use Rattle.qf_format.proofs.ListLemmas.{ReadSoFar, none_so_far, one_more, all_read, stuck}
use Rattle.qf_format.proofs.ApartLemmas.{Apart, list_apart}

blank_or_not : (b : ℕ) → IsBlank b ⊎ (IsBlank b → ⊥)
blank_or_not b = elim (cases_eq b 32) [
  | inl h ↦ inl (inl h)
  | inr h ↦ elim (cases_eq b 9) [ inl k ↦ inl (inr k) | inr k ↦ inr (λ p. elim p [ inl q ↦ h q | inr q ↦ k q ]) ]
]

not_zero : IsBlank 0 → ⊥
not_zero (inl h) = omega arith
not_zero (inr h) = omega arith

not_lf : IsBlank 10 → ⊥
not_lf (inl h) = omega arith
not_lf (inr h) = omega arith

-- a header in a text: no end stands in it, and one stands behind it
module _ (text y z : List ℕ) (form : IsHeader y) (free : NotBlank z) (e : text ≡ (y ++ 10 ∷ []) ++ z) where
  parts : text ≡ y ++ 10 ∷ z
  parts = e ∙ append_assoc y (10 ∷ []) z

  in_front : (k : ℕ) → k < length y → get_or text k 0 ≡ get_or y k 0
  in_front k l = ap (λ (b : List ℕ). get_or b k 0) parts ∙ get_or-append y (10 ∷ z) 0 k l

  at_end : EndsAt text (length y)
  at_end =
      let here : get_or text (length y) 0 ≡ 10 = ap (λ (b : List ℕ). get_or b (length y) 0) parts ∙ get_or-append_seam y 10 z 0 in
      let next : get_or text (length y + 1) 0 ≡ get_or z 0 0 = ap (λ (b : List ℕ). get_or b (length y + 1) 0) parts ∙ get_or-append-add y (10 ∷ z) 1 0 in
      (here, λ b. free (subst IsBlank next b))

  none_before : (k : ℕ) → k < length y → EndsAt text k → ⊥
  none_before k l h =
      let blank : IsBlank (get_or y (k + 1) 0) = form k (sym (in_front k l) ∙ h.0) in
      elim (cases_lt (k + 1) (length y)) [
        | inl m ↦ h.1 (subst IsBlank (sym (in_front (k + 1) m)) blank)
        | inr m ↦ not_zero (subst IsBlank (get_or_past y (k + 1) 0 m) blank)
      ]

-- the text up to its first end is a header
front_header : (text : List ℕ) (at : ℕ) → IsHeaderEnd text (Some at) → IsHeader (take at text)
front_header text at h k e =
    elim (cases_lt k at) [
      | inl l ↦
          let here : get_or text k 0 ≡ 10 = sym (get_or-take at text k 0 l) ∙ e in
          elim (blank_or_not (get_or text (k + 1) 0)) [
            | inl b ↦ elim (cases_lt (k + 1) at) [
              | inl m ↦ subst IsBlank (sym (get_or-take at text (k + 1) 0 m)) b
              | inr m ↦
                  let same : k + 1 ≡ at = omega arith in
                  absurd (not_lf (subst IsBlank (ap (λ (j : ℕ). get_or text j 0) same ∙ h.1.0) b))
            ]
            | inr b ↦ absurd (h.2 k l (here, b))
          ]
      | inr l ↦
          let past : get_or (take at text) k 0 ≡ 0 = get_or_past (take at text) k 0 (omega (arith, length-take at text)) in
          absurd (omega (arith, past, e))
    ]

header_parts : (text : List ℕ) (at : ℕ) → at < length text → get_or text at 0 ≡ 10 → text ≡ take at text ++ 10 ∷ drop (at + 1) text
header_parts text at l here =
    let step : suc at ≡ at + 1 = omega arith in
    let middle : drop at text ≡ 10 ∷ drop (at + 1) text = drop-cons text at 0 l ∙ (λ i. here i ∷ drop (step i) text) in
    sym (take-append-drop at text) ∙ ap (λ (r : List ℕ). take at text ++ r) middle

same_cut : (text y z : List ℕ) (at : ℕ) → text ≡ y ++ 10 ∷ z → text ≡ take at text ++ 10 ∷ drop (at + 1) text → length y ≡ at → (y ≡ take at text) × (z ≡ drop (at + 1) text)
same_cut text y z at e f l =
    let one : take at text ≡ y = ap (λ (k : ℕ). take k text) (sym l) ∙ ap (take (length y)) e ∙ take-append_seam y (10 ∷ z) in
    let two : y ++ 10 ∷ z ≡ y ++ 10 ∷ drop (at + 1) text = sym e ∙ f ∙ ap (λ (b : List ℕ). b ++ 10 ∷ drop (at + 1) text) one in
    (sym one, tail_of z (drop (at + 1) text) (append_cancel_left y (10 ∷ z) (10 ∷ drop (at + 1) text) two))
  where
    tail_of : (a b : List ℕ) → 10 ∷ a ≡ 10 ∷ b → a ≡ b
    tail_of a b p = cc

tag_tail : (a b : List ℕ) → 72 ∷ a ≡ 72 ∷ b → a ≡ b
tag_tail a b p = cc

-- the text between an H and its first end is read as a header
pub header_read : (bytes text : List ℕ) (at : ℕ) → bytes ≡ 72 ∷ text → IsHeaderEnd text (Some at) → Front header_lines IsHeader NotBlank bytes (take at text) (drop (at + 1) text)
header_read bytes text at e h =
    let whole = header_parts text at h.0 h.1.0 in
    record {
      is_formed = front_header text at h;
      parts = e ∙ ap (λ (t : List ℕ). 72 ∷ t) (whole ∙ sym (append_assoc (take at text) (10 ∷ []) (drop (at + 1) text)));
      only = λ y z form free f.
          let inner : text ≡ (y ++ 10 ∷ []) ++ z = tag_tail text ((y ++ 10 ∷ []) ++ z) (sym e ∙ f) in
          let len : length y ≡ at = elim (cases_order (length y) at) [
            | inl q ↦ q
            | inr r ↦ elim r [
              | inl q ↦ absurd (h.2 (length y) q (at_end text y z form free inner))
              | inr q ↦ absurd (none_before text y z form free inner at q h.1)
            ]
          ] in
          same_cut text y z at (parts text y z form free inner) whole len;
    }

-- an H without an end behind it begins no header
pub no_header_end : (bytes text : List ℕ) → bytes ≡ 72 ∷ text → IsHeaderEnd text None → NoFront header_lines IsHeader NotBlank bytes
no_header_end bytes text e h = record {
  none = λ y z form free f.
      let inner : text ≡ (y ++ 10 ∷ []) ++ z = tag_tail text ((y ++ 10 ∷ []) ++ z) (sym e ∙ f) in
      h (length y) (at_end text y z form free inner);
}

-- ---- all headers

header_begins : (x z : List ℕ) → At 72 (header_lines x ++ z)
header_begins x z = refl

header_ends : (z : List ℕ) → At 46 z → NotAt 72 z
header_ends z h e = omega (arith, h, e)

not_blank_at : (c : ℕ) (z : List ℕ) → slice_index z 0 ≡ c → 33 ≤ c → NotBlank z
not_blank_at c z e l (inl h) = omega (arith, e, h)
not_blank_at c z e l (inr h) = omega (arith, e, h)

header_on : (xs : List (List ℕ)) (z : List ℕ) → At 46 z → NotBlank (flat_map header_lines xs ++ z)
header_on [] z h = not_blank_at 46 z h (omega arith)
header_on (x ∷ xs) z h = not_blank_at 72 (flat_map header_lines (x ∷ xs) ++ z) refl (omega arith)

-- before any header was read, none was, and all bytes are the rest
pub no_headers_yet : (bytes : List ℕ) → ReadSoFar header_lines IsHeader (At 46) bytes [] bytes
no_headers_yet bytes = none_so_far header_lines IsHeader NotBlank (At 46) 72 header_begins header_ends header_on bytes

-- one header more was read, and what stands behind it is the rest
pub header_more : (bytes : List ℕ) (xs : List (List ℕ)) (rest x after : List ℕ) → ReadSoFar header_lines IsHeader (At 46) bytes xs rest → Front header_lines IsHeader NotBlank rest x after → ReadSoFar header_lines IsHeader (At 46) bytes (xs ++ x ∷ []) after
header_more bytes = one_more header_lines IsHeader NotBlank (At 46) 72 header_begins header_ends header_on bytes

-- where no H follows, the headers so far are all of them
pub headers_read : (bytes : List ℕ) (xs : List (List ℕ)) (rest : List ℕ) → ReadSoFar header_lines IsHeader (At 46) bytes xs rest → NotAt 72 rest → Front (flat_map header_lines) EachHeader (At 46) bytes xs rest
headers_read bytes = all_read header_lines IsHeader NotBlank (At 46) 72 header_begins header_ends header_on bytes

-- where an H follows and no header can be read there, the headers can't be read
pub header_stops : (bytes : List ℕ) (xs : List (List ℕ)) (rest : List ℕ) → ReadSoFar header_lines IsHeader (At 46) bytes xs rest → At 72 rest → (e : Stop) → Stops header_lines IsHeader NotBlank rest e → Stops (flat_map header_lines) EachHeader (At 46) bytes e
header_stops bytes xs rest r h Outside n = stuck header_lines IsHeader NotBlank (At 46) 72 header_begins header_ends header_on bytes xs rest r h n
header_stops bytes xs rest r h Memory n = tt

-- a header takes bytes away
pub header_shorter : (rest x after : List ℕ) → Front header_lines IsHeader NotBlank rest x after → length after < length rest
header_shorter rest x after a = omega (arith, ap length a.parts, length-append (x ++ 10 ∷ []) after)

-- ---- headers are told apart

ends_once : (x y r q : List ℕ) → IsHeader x → IsHeader y → NotBlank r → NotBlank q → (x ++ 10 ∷ []) ++ r ≡ (y ++ 10 ∷ []) ++ q → length y ≡ length x
ends_once x y r q h k m n e = elim (cases_order (length y) (length x)) [
  | inl same ↦ same
  | inr other ↦ elim other [
    | inl less ↦ absurd (none_before ((x ++ 10 ∷ []) ++ r) x r h m refl (length y) less (at_end ((x ++ 10 ∷ []) ++ r) y q k n e))
    | inr more ↦ absurd (none_before ((x ++ 10 ∷ []) ++ r) y q k n e (length x) more (at_end ((x ++ 10 ∷ []) ++ r) x r h m refl))
  ]
]

header_apart : Apart header_lines IsHeader NotBlank
header_apart x y r q h k m n e =
    let text : List ℕ = (x ++ 10 ∷ []) ++ r in
    let inner : text ≡ (y ++ 10 ∷ []) ++ q = tag_tail text ((y ++ 10 ∷ []) ++ q) e in
    let long : length x < length text = omega (arith, length-append (x ++ 10 ∷ []) r, length-append x (10 ∷ [])) in
    let whole = header_parts text (length x) long (at_end text x r h m refl).0 in
    let one = same_cut text x r (length x) (append_assoc x (10 ∷ []) r) whole refl in
    let two = same_cut text y q (length x) (inner ∙ append_assoc y (10 ∷ []) q) whole (ends_once x y r q h k m n inner) in
    (one.0 ∙ sym two.0, one.1 ∙ sym two.1)

-- headers are told apart by their lines, if a dot follows
pub headers_apart : Apart (flat_map header_lines) EachHeader (At 46)
headers_apart = list_apart header_lines IsHeader NotBlank (At 46) 72 header_begins header_ends header_on header_apart
