-- The line of a parent as it is read.
use Rattle.std.proofs.Common.{◌≡◌, ℕ, ◌+◌, List, [], ◌∷◌, ◌++◌, Option, Some, None, take, drop, sym, ap, subst, ◌∙◌, arith}
use Rattle.std.specs.Prelude.{◌≢◌, codes}
use Rattle.std.specs.Fmt.{decimal}
use Rattle.std.specs.Str.Parse.{AllDigits}
use Rattle.std.proofs.lemmas.Str.Parse.{digit_from_value}
use Rattle.std.proofs.lemmas.List.Elements.{All-nil, All-cons, All-append}
use Rattle.bstr.specs.Find.{IsFirstByte, is_byte}
use Rattle.mail_base.specs.Limits.{IsId}
use Rattle.mail_base.specs.Names.{digits, id_text}
use Rattle.mail_base.specs.Texts.{IsLine}
use Rattle.mail_base.specs.declared.control.Parent.{Parent}
use Rattle.qf_format.specs.declared.stop.Stop.{Stop}
use Rattle.qf_format.specs.declared.stop.Stop.TheVariants.{Outside, Memory}
use Rattle.qf_format.specs.inner.Reading.{Front, NoFront, Stops, Whole, NoWhole, Anything}
use Rattle.qf_format.specs.inner.Parts.{At, NotAt, IsParentOrNone, parent_text}
use Rattle.qf_format.specs.Spelling.{line, parent_line}
use Rattle.qf_format.specs.Valid.{IsParent, IsRevision}
use Rattle.qf_format.proofs.FieldLemmas.{Without, IsFirst, split_once, first_at, none_in}
use Rattle.qf_format.proofs.ReadLemmas.{within, none_within, none_around}
use Rattle.qf_format.proofs.SignedLemmas.{are_digits}
use Rattle.qf_format.proofs.TextLemmas.{id_line, revision_line}

digits_free : (ds : List ℕ) → AllDigits 10 ds → Without 32 ds
digits_free [] h = All-nil (λ b. b ≢ 32)
digits_free (d ∷ ds) h = let r = digit_from_value d h.0 in All-cons (λ b. b ≢ 32) d ds (λ e. omega (arith, r.0, e)) (digits_free ds h.1)

-- an id's text has no space
pub id_free : (n : ℕ) → IsId n → Without 32 (id_text n)
id_free n h = All-cons (λ b. b ≢ 32) 119 (digits 12 n) (λ e. omega arith) (digits_free (digits 12 n) (are_digits 12 n (omega arith)).each)

-- ---- the text

cut_parent : (bytes : List ℕ) (at : ℕ) → IsFirst 32 bytes at → (p : Parent) → IsParent p → bytes ≡ parent_text p → (id_text p.id ≡ take at bytes) × (decimal p.revision ≡ drop (at + 1) bytes)
cut_parent bytes at first p h e = split_once 32 (id_text p.id) (take at bytes) (decimal p.revision) (drop (at + 1) bytes) (id_free p.id h.id) first.front (sym e ∙ first.parts)

-- an id before the first space and a revision behind it are read as a parent
pub parent_read : (bytes front back : List ℕ) (at id revision : ℕ) → IsFirstByte (is_byte 32) bytes (Some at) → front ≡ take at bytes → back ≡ drop (at + 1) bytes → Whole id_text IsId front id → Whole decimal IsRevision back revision → Whole parent_text IsParent bytes (record { id = id; revision = revision })
parent_read bytes front back at id revision h f g a b =
    let first = first_at 32 bytes at h in
    record {
      is_formed = record { id = a.is_formed; revision = b.is_formed };
      is_spelled = first.parts ∙ (λ i. (sym f ∙ a.is_spelled) i ++ 32 ∷ (sym g ∙ b.is_spelled) i);
      only = λ p k e.
          let o = cut_parent bytes at first p k e in
          let one = a.only p.id k.id (f ∙ sym o.0) in
          let two = b.only p.revision k.revision (g ∙ sym o.1) in
          (λ i. record { id = one i; revision = two i });
    }

-- where what stands before the first space is no id, the text is no parent's
pub no_id : (bytes front : List ℕ) (at : ℕ) → IsFirstByte (is_byte 32) bytes (Some at) → front ≡ take at bytes → NoWhole id_text IsId front → NoWhole parent_text IsParent bytes
no_id bytes front at h f a = record { none = λ p k e. let o = cut_parent bytes at (first_at 32 bytes at h) p k e in a.none p.id k.id (f ∙ sym o.0) }

-- where what stands behind the first space is no revision, the text is no parent's
pub no_revision : (bytes back : List ℕ) (at : ℕ) → IsFirstByte (is_byte 32) bytes (Some at) → back ≡ drop (at + 1) bytes → NoWhole decimal IsRevision back → NoWhole parent_text IsParent bytes
no_revision bytes back at h g b = record { none = λ p k e. let o = cut_parent bytes at (first_at 32 bytes at h) p k e in b.none p.revision k.revision (g ∙ sym o.1) }

-- a text without a space is no parent's
pub no_space : (bytes : List ℕ) → IsFirstByte (is_byte 32) bytes None → NoWhole parent_text IsParent bytes
no_space bytes h = record { none = λ p k e. none_in 32 bytes (id_text p.id) (decimal p.revision) h e }

-- ---- the line

-- a parent's text has no LF
pub parent_is_line : (p : Parent) → IsParent p → IsLine (parent_text p)
parent_is_line p h = All-append (λ b. b ≢ 10) (id_text p.id) (32 ∷ decimal p.revision) (id_line p.id h.id) (All-cons (λ b. b ≢ 10) 32 (decimal p.revision) (λ e. omega arith) (revision_line p.revision h.revision))

abbrev framed_parent : List ℕ → List ℕ
framed_parent text = line (codes "p" ++ text)

no_none : (bytes z : List ℕ) → At 112 bytes → NotAt 112 z → bytes ≡ z → ⊥
no_none bytes z h k e = k (subst (At 112) e h)

-- a line behind the letter p whose text is a parent's is read as that parent
pub parent_line_read : (bytes text rest : List ℕ) (p : Parent) → At 112 bytes → Front framed_parent IsLine Anything bytes text rest → Whole parent_text IsParent text p → Front parent_line IsParentOrNone (NotAt 112) bytes (Some p) rest
parent_line_read bytes text rest p h a b =
    let w = within framed_parent IsLine Anything parent_text IsParent parent_is_line bytes text rest p a b in
    record {
      is_formed = w.is_formed;
      parts = w.parts;
      only = λ y z k free e. by_option w y z k free e;
    }
  where
    by_option : Front (λ q. framed_parent (parent_text q)) IsParent Anything bytes p rest → (y : Option Parent) (z : List ℕ) → IsParentOrNone y → NotAt 112 z → bytes ≡ parent_line y ++ z → (y ≡ Some p) × (z ≡ rest)
    by_option w None z k free e = absurd (no_none bytes z h free e)
    by_option w (Some q) z k free e = let o = w.only q z k tt e in (ap (λ x. Some x) o.0, o.1)

no_parent : (bytes : List ℕ) → At 112 bytes → NoFront (λ q. framed_parent (parent_text q)) IsParent Anything bytes → NoFront parent_line IsParentOrNone (NotAt 112) bytes
no_parent bytes h n = record { none = λ y z k free e. by_option y z k free e }
  where
    by_option : (y : Option Parent) (z : List ℕ) → IsParentOrNone y → NotAt 112 z → bytes ≡ parent_line y ++ z → ⊥
    by_option None z k free e = no_none bytes z h free e
    by_option (Some q) z k free e = n.none q z k tt e

-- a line behind the letter p whose text is no parent's can't be read, nor is it left out
pub no_parent_text : (bytes text rest : List ℕ) → At 112 bytes → Front framed_parent IsLine Anything bytes text rest → NoWhole parent_text IsParent text → NoFront parent_line IsParentOrNone (NotAt 112) bytes
no_parent_text bytes text rest h a n = no_parent bytes h (none_within framed_parent IsLine Anything parent_text IsParent parent_is_line bytes text rest a n)

-- behind a letter p, what stops the reader of its line stops that of the parent
pub parent_stops : (bytes : List ℕ) (e : Stop) → At 112 bytes → Stops framed_parent IsLine Anything bytes e → Stops parent_line IsParentOrNone (NotAt 112) bytes e
parent_stops bytes Outside h n = no_parent bytes h (none_around framed_parent IsLine Anything parent_text IsParent parent_is_line bytes n)
parent_stops bytes Memory h n = tt
