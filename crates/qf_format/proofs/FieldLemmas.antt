-- Lines and their texts.
use Rattle.std.proofs.Common.{◌≡◌, ℕ, suc, ◌+◌, ◌<◌, true, false, List, [], ◌∷◌, ◌++◌, length, get_or, take, drop, Option, Some, None, refl, sym, ap, ◌∙◌, append_assoc, arith, drop-cons, length-take, length-append}
use Rattle.std.specs.Prelude.{All, ◌≢◌, IfSome, IfNone, MatchOption, nat_eq, Result, Ok, Err}
use Rattle.std.specs.Cmp.Lexicographic.{pointwise, same_text, other_text}
use Rattle.std.proofs.Math.Seq.{take-append_seam, get_or-append_seam}
use Rattle.std.proofs.lemmas.Bool.{eqb-true, eq-eqb}
use Rattle.std.proofs.lemmas.List.{take-append-drop, append_cancel_left, get_or-take}
use Rattle.std.proofs.lemmas.List.Elements.{All-head, All-tail, All-from_get_or}
use Rattle.bstr.specs.Find.{IsFirstByte, is_byte}
use Rattle.mail_base.specs.Texts.{IsLine}
use Rattle.qf_format.specs.inner.Reading.{Front, NoFront, Reads, Anything}
use Rattle.qf_format.specs.declared.stop.Stop.{Stop}
use Rattle.qf_format.specs.declared.stop.Stop.TheVariants.{Outside, Memory}
use Rattle.qf_format.specs.Spelling.{line}
use Rattle.qf_format.proofs.ReadLemmas.{front_as, none_as, Retold}

-- ---- the first of a separator

-- a text without the separator
abbrev pub Without : ℕ → List ℕ → Type 0
Without c text = All (λ b. b ≢ c) text

-- a list is split once at its first separator
pub split_once : (c : ℕ) (x y a b : List ℕ) → Without c x → Without c y → x ++ c ∷ a ≡ y ++ c ∷ b → (x ≡ y) × (a ≡ b)
split_once c [] [] a b h k e = (refl, cc)
split_once c [] (d ∷ y) a b h k e = absurd (All-head (λ b. b ≢ c) d y k cc)
split_once c (d ∷ x) [] a b h k e = absurd (All-head (λ b. b ≢ c) d x h cc)
split_once c (d ∷ x) (f ∷ y) a b h k e =
    let same : d ≡ f = cc in
    let more : x ++ c ∷ a ≡ y ++ c ∷ b = cc in
    let r = split_once c x y a b (All-tail (λ b. b ≢ c) d x h) (All-tail (λ b. b ≢ c) f y k) more in
    (λ i. same i ∷ r.0 i, r.1)

-- where the first separator stands
pub record IsFirst (c : ℕ) (bytes : List ℕ) (at : ℕ) : Type 0 where
  pub front : Without c (take at bytes)
  pub parts : bytes ≡ take at bytes ++ c ∷ drop (at + 1) bytes

-- what a search for a byte found is where that separator stands first
pub first_at : (c : ℕ) (bytes : List ℕ) (at : ℕ) → IsFirstByte (is_byte c) bytes (Some at) → IsFirst c bytes at
first_at c bytes at h =
    let here : get_or bytes at 0 ≡ c = eqb-true (get_or bytes at 0) c h.1 in
    let step : suc at ≡ at + 1 = omega arith in
    let middle : drop at bytes ≡ c ∷ drop (at + 1) bytes = drop-cons bytes at 0 h.0.high ∙ (λ i. here i ∷ drop (step i) bytes) in
    record {
      front = All-from_get_or (λ b. b ≢ c) (take at bytes) 0 (λ i l.
          let near : i < at = omega (arith, length-take at bytes) in
          rw (get_or-take at bytes i 0 near) (λ e. h.0.before i (omega arith) near (eq-eqb (get_or bytes i 0) c e)));
      parts = sym (take-append-drop at bytes) ∙ ap (λ (r : List ℕ). take at bytes ++ r) middle;
    }

-- bytes in which a search found no separator aren't two texts around one
pub none_in : (c : ℕ) (bytes x a : List ℕ) → IsFirstByte (is_byte c) bytes None → bytes ≡ x ++ c ∷ a → ⊥
none_in c bytes x a h e =
    let long : length x < length bytes = omega (arith, ap length e, length-append x (c ∷ a)) in
    let here : get_or bytes (length x) 0 ≡ c = ap (λ (bs : List ℕ). get_or bs (length x) 0) e ∙ get_or-append_seam x c a 0 in
    h (length x) (omega arith) long (eq-eqb (get_or bytes (length x) 0) c here)

-- ---- tags

-- what a call leaves behind a tag goes on where the tag ends
pub after_some : {R : Type 0} (now : R → List ℕ) (o : Option R) (tag bytes : List ℕ) → MatchOption o (pointwise nat_eq (take (length tag) bytes) tag ≡ false) (λ x. (pointwise nat_eq (take (length tag) bytes) tag ≡ true) × (now x ≡ drop (length tag) bytes) × (length (now x) + length tag ≡ length bytes)) → IfSome o (λ x. bytes ≡ tag ++ now x)
after_some now None tag bytes h = tt
after_some now (Some x) tag bytes h = sym (take-append-drop (length tag) bytes) ∙ (λ i. same_text (take (length tag) bytes) tag (sym h.0) i ++ sym h.1 i)

-- where a call finds no tag, the bytes don't begin with it
pub after_none : {R : Type 0} (now : R → List ℕ) (o : Option R) (tag bytes : List ℕ) → MatchOption o (pointwise nat_eq (take (length tag) bytes) tag ≡ false) (λ x. (pointwise nat_eq (take (length tag) bytes) tag ≡ true) × (now x ≡ drop (length tag) bytes) × (length (now x) + length tag ≡ length bytes)) → IfNone o ((rest : List ℕ) → bytes ≢ tag ++ rest)
after_none now None tag bytes h = λ rest e. other_text (take (length tag) bytes) tag (sym h) (ap (take (length tag)) e ∙ take-append_seam tag rest)
after_none now (Some x) tag bytes h = tt

-- ---- lines

-- the bytes before the first LF are the line at the front, and the rest stands behind that LF
pub line_at : (bytes : List ℕ) (at : ℕ) → IsFirstByte (is_byte 10) bytes (Some at) → Front line IsLine Anything bytes (take at bytes) (drop (at + 1) bytes)
line_at bytes at h =
    let f = first_at 10 bytes at h in
    record {
      is_formed = f.front;
      parts = f.parts ∙ sym (append_assoc (take at bytes) (10 ∷ []) (drop (at + 1) bytes));
      only = λ y z k a e. split_once 10 y (take at bytes) z (drop (at + 1) bytes) k f.front (sym (append_assoc y (10 ∷ []) z) ∙ sym e ∙ f.parts);
    }

-- without an LF there is no line at the front
pub no_line : (bytes : List ℕ) → IsFirstByte (is_byte 10) bytes None → NoFront line IsLine Anything bytes
no_line bytes h = record { none = λ y z k a e. none_in 10 bytes y z h (e ∙ append_assoc y (10 ∷ []) z) }

-- ---- lines behind a tag

module _ {X : Type 0} (s : X → List ℕ) (v : X → Type 0) (f : List ℕ → Type 0) (tag bytes rest : List ℕ) (parts : bytes ≡ tag ++ rest) where
  behind : (x : X) (after : List ℕ) → Front s v f rest x after → Front (λ y. tag ++ s y) v f bytes x after
  behind x after a = record {
    is_formed = a.is_formed;
    parts = parts ∙ ap (λ (r : List ℕ). tag ++ r) a.parts ∙ sym (append_assoc tag (s x) after);
    only = λ y z h k e. a.only y z h k (append_cancel_left tag rest (s y ++ z) (sym parts ∙ e ∙ append_assoc tag (s y) z));
  }

  none_behind : NoFront s v f rest → NoFront (λ y. tag ++ s y) v f bytes
  none_behind a = record { none = λ y z h k e. a.none y z h k (append_cancel_left tag rest (s y ++ z) (sym parts ∙ e ∙ append_assoc tag (s y) z)) }

none_without : {X : Type 0} (s : X → List ℕ) (v : X → Type 0) (f : List ℕ → Type 0) (tag bytes : List ℕ) → ((rest : List ℕ) → bytes ≢ tag ++ rest) → NoFront (λ y. tag ++ s y) v f bytes
none_without s v f tag bytes away = record { none = λ y z h k e. away (s y ++ z) (e ∙ append_assoc tag (s y) z) }

tagged : (tag : List ℕ) → Retold (λ text. tag ++ line text) IsLine (λ text. line (tag ++ text)) IsLine (λ text. text) (λ text. text)
tagged tag = record {
  back = λ y. refl;
  text_to = λ x. sym (append_assoc tag x (10 ∷ []));
  text_from = λ y. append_assoc tag y (10 ∷ []);
  form_to = λ x h. h;
  form_from = λ y h. h;
}

field_at : (tag bytes rest : List ℕ) → bytes ≡ tag ++ rest → (x after : List ℕ) → Front line IsLine Anything rest x after → Front (λ text. line (tag ++ text)) IsLine Anything bytes x after
field_at tag bytes rest e x after a =
    front_as (λ text. tag ++ line text) IsLine (λ text. line (tag ++ text)) IsLine (λ text. text) (λ text. text) Anything bytes x after (tagged tag) (behind line IsLine Anything tag bytes rest e x after a)

no_field : (tag bytes rest : List ℕ) → bytes ≡ tag ++ rest → NoFront line IsLine Anything rest → NoFront (λ text. line (tag ++ text)) IsLine Anything bytes
no_field tag bytes rest e a =
    none_as (λ text. tag ++ line text) IsLine (λ text. line (tag ++ text)) IsLine (λ text. text) (λ text. text) Anything bytes (tagged tag) (none_behind line IsLine Anything tag bytes rest e a)

-- bytes that don't begin with a tag begin with no line behind that tag
pub no_tag : (tag bytes : List ℕ) → ((rest : List ℕ) → bytes ≢ tag ++ rest) → NoFront (λ text. line (tag ++ text)) IsLine Anything bytes
no_tag tag bytes away =
    none_as (λ text. tag ++ line text) IsLine (λ text. line (tag ++ text)) IsLine (λ text. text) (λ text. text) Anything bytes (tagged tag) (none_without line IsLine Anything tag bytes away)

-- a reader of a line, put behind a tag, reads the line with its tag
pub reads_field : {R : Type 0} (value rest : R → List ℕ) (tag bytes after : List ℕ) (r : Result R Stop) → bytes ≡ tag ++ after → Reads value rest line IsLine Anything after r → Reads value rest (λ text. line (tag ++ text)) IsLine Anything bytes r
reads_field value rest tag bytes after (Ok r) e a = field_at tag bytes after e (value r) (rest r) a
reads_field value rest tag bytes after (Err Outside) e a = no_field tag bytes after e a
reads_field value rest tag bytes after (Err Memory) e a = tt
