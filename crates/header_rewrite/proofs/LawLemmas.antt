-- A header is rewritten in one way, and by rulesets that give what they got only joined.
use Rattle.std.proofs.Common.{◌≡◌, ℕ, ◌+◌, ◌-◌, ◌<◌, ◌≤◌, List, [], ◌∷◌, ◌++◌, length, get_or, take, drop, slice_range, Option, Some, None, Result, Ok, Err, refl, sym, ◌∙◌, ap, subst, arith}
use Rattle.std.proofs.lemmas.List.{take-append-drop, drop-drop}
use Rattle.std.proofs.lemmas.List.Elements.{all_zip_more}
use Rattle.mail_base.specs.declared.mailer.Mailer.{Mailer}
use Rattle.mail_base.specs.declared.route.Cause.{Cause}
use Rattle.mail_base.specs.declared.token.Token.{Token}
use Rattle.mail_header.specs.declared.span.Span.{Span}
use Rattle.mail_header.specs.Places.{AreApart, places_of}
use Rattle.ruleset_run.specs.declared.rewritten.Rewritten.{Rewritten}
use Rattle.ruleset_run.specs.Sites.{Site, Macros}
use Rattle.ruleset_run.specs.Sets.{Passes, no_tokens, passes, Rewrites, rewrites, rewritten, cut}
use Rattle.header_rewrite.specs.Names.{sets_for}
use Rattle.header_rewrite.specs.Rewriting.{Becomes, becomes, Fills, no_place, one_place, IsFilled, IsRewritten, AreRewritten, AreIdle, AreJoined, rejoined, rejoined_from, put, address_at, end_of}

-- an address is rewritten in one way
abbrev pub OneRewriting : Type 0
OneRewriting = (site : Site) (macros : Macros) (sets : List (List ℕ)) (address : List ℕ) (one another : Rewritten) → Rewrites site macros sets address one → Rewrites site macros sets address another → one ≡ another

-- and in some way
abbrev pub SomeRewriting : Type 0
SomeRewriting = (site : Site) (macros : Macros) (sets : List (List ℕ)) (address : List ℕ) → (answer : Rewritten) × Rewrites site macros sets address answer

module _ (law : OneRewriting) (site : Site) (macros : Macros) where
  one_becomes : {sets : List (List ℕ)} {address : List ℕ} {a b : List ℕ} → Becomes site macros sets address a → Becomes site macros sets address b → a ≡ b
  one_becomes {sets} {address} (becomes answer r) (becomes answer' r') = ap (put address) (law site macros sets address answer answer' r r')

  one_fills : {sets : List (List ℕ)} {header : List ℕ} {from : ℕ} {places : List Span} {a b : List ℕ} → Fills site macros sets header from places a → Fills site macros sets header from places b → a ≡ b
  one_fills (no_place from) (no_place _) = refl
  one_fills {header = header} (one_place from place places text more b f) (one_place _ _ _ text' more' b' f') =
      ap (λ t. slice_range header from place.start ++ (t ++ more)) (one_becomes b b') ∙ ap (λ m. slice_range header from place.start ++ (text' ++ m)) (one_fills f f')

  one_filled : (sets : Option (List (List ℕ))) (header one another : List ℕ) → IsFilled site macros sets header one → IsFilled site macros sets header another → one ≡ another
  one_filled None header one another a b = a ∙ sym b
  one_filled (Some sets) header one another a b = one_fills a b

  -- a header is rewritten in one way
  pub one_header_is : (mailer : Mailer) (header one another : List ℕ) → IsRewritten site macros mailer header one → IsRewritten site macros mailer header another → one ≡ another
  one_header_is mailer header one another a b = one_filled (sets_for mailer header) header one another a b

  -- ---- rulesets that give what they got

  module _ (sets : List (List ℕ)) (idle : AreIdle site macros sets) where
    idle_passes : (address : List ℕ) (answer : Result (List Token) Cause) → cut site.operators address ≡ answer → Passes site macros sets address answer
    idle_passes address (Ok tokens) is = passes tokens (Ok tokens) is (idle tokens)
    idle_passes address (Err why) is = no_tokens why is

    idle_becomes : {address text : List ℕ} → Becomes site macros sets address text → text ≡ rejoined site.operators address
    idle_becomes {address} (becomes answer r) =
        ap (put address) (law site macros sets address answer (rewritten (cut site.operators address)) r (rewrites (cut site.operators address) (idle_passes address (cut site.operators address) refl)))

    -- they give the tokens that are joined again
    pub idle_fills : {header : List ℕ} {from : ℕ} {places : List Span} {text : List ℕ} → Fills site macros sets header from places text → text ≡ rejoined_from site.operators header from places
    idle_fills (no_place from) = refl
    idle_fills {header} (one_place from place places text more b f) =
        ap (λ t. slice_range header from place.start ++ (t ++ more)) (idle_becomes b)
        ∙ ap (λ m. slice_range header from place.start ++ (rejoined site.operators (address_at header place) ++ m)) (idle_fills f)

-- two stretches of a header, one behind the other
stretches : (header : List ℕ) (from at to : ℕ) → from ≤ at → at ≤ to → slice_range header from at ++ (slice_range header at to ++ drop to header) ≡ drop from header
stretches header from at to le more =
    ap (λ x. slice_range header from at ++ x) (one at to more) ∙ one from at le
  where
    one : (a b : ℕ) → a ≤ b → slice_range header a b ++ drop b header ≡ drop a header
    one a b less =
        let n : a + (b - a) ≡ b = omega (arith, less) in
        ap (λ x. slice_range header a b ++ x) (ap (λ k. drop k header) (sym n) ∙ sym (drop-drop (b - a) a header)) ∙ take-append-drop (b - a) (drop a header)

-- where each address is joined to what it was, the header is what it was
pub joined_whole : (operators header : List ℕ) (from : ℕ) (places : List Span) (to : ℕ) → AreApart from places to → AreJoined operators header places → rejoined_from operators header from places ≡ drop from header
joined_whole operators header from [] to apart each = refl
joined_whole operators header from (place ∷ places) to apart each =
    ap (λ t. slice_range header from place.start ++ (t ++ rejoined_from operators header (end_of place) places)) each.0
    ∙ ap (λ m. slice_range header from place.start ++ (address_at header place ++ m)) (joined_whole operators header (end_of place) places to apart.2 each.1)
    ∙ stretches header from place.start (end_of place) apart.0 (omega arith)

module _ (law : SomeRewriting) (site : Site) (macros : Macros) where
  some_becomes : (sets : List (List ℕ)) (address : List ℕ) → (text : List ℕ) × Becomes site macros sets address text
  some_becomes sets address = let w = law site macros sets address in (put address w.0, becomes w.0 w.1)

  some_fills : (sets : List (List ℕ)) (header : List ℕ) (from : ℕ) (places : List Span) → (text : List ℕ) × Fills site macros sets header from places text
  some_fills sets header from [] = (drop from header, no_place from)
  some_fills sets header from (place ∷ places) =
      let b = some_becomes sets (address_at header place) in
      let f = some_fills sets header (end_of place) places in
      (slice_range header from place.start ++ (b.0 ++ f.0), one_place from place places b.0 f.0 b.1 f.1)

  some_filled : (sets : Option (List (List ℕ))) (header : List ℕ) → (text : List ℕ) × IsFilled site macros sets header text
  some_filled None header = (header, refl)
  some_filled (Some sets) header = some_fills sets header 0 (places_of header)

  -- a header is rewritten in some way
  pub some_header_is : (mailer : Mailer) (header : List ℕ) → (text : List ℕ) × IsRewritten site macros mailer header text
  some_header_is mailer header = some_filled (sets_for mailer header) header

-- headers are rewritten in one way
module _ (law : (site : Site) (macros : Macros) (mailer : Mailer) (header one another : List ℕ) → IsRewritten site macros mailer header one → IsRewritten site macros mailer header another → one ≡ another)
    (site : Site) (macros : Macros) (mailer : Mailer) where
  pub same_headers : (headers one another : List (List ℕ)) → AreRewritten site macros mailer headers one → AreRewritten site macros mailer headers another → one ≡ another
  same_headers [] [] [] a b = refl
  same_headers [] [] (y ∷ ys) a b = absurd b
  same_headers [] (x ∷ xs) another a b = absurd a
  same_headers (h ∷ hs) [] another a b = absurd a
  same_headers (h ∷ hs) (x ∷ xs) [] a b = absurd b
  same_headers (h ∷ hs) (x ∷ xs) (y ∷ ys) a b =
      ap (λ z. z ∷ xs) (law site macros mailer h x y a.0 b.0) ∙ ap (λ zs. y ∷ zs) (same_headers hs xs ys a.1 b.1)

-- one header more
pub more_headers : (site : Site) (macros : Macros) (mailer : Mailer) (headers items texts new : List (List ℕ)) (index : ℕ) (header text : List ℕ) → items ≡ headers → index < length items → header ≡ get_or items index header
    → AreRewritten site macros mailer (take index headers) texts → IsRewritten site macros mailer header text → new ≡ texts ++ text ∷ [] → AreRewritten site macros mailer (take (index + 1) headers) new
more_headers site macros mailer headers items texts new index header text is some here so one added =
    subst (AreRewritten site macros mailer (take (index + 1) headers)) (sym added)
    (all_zip_more (IsRewritten site macros mailer) headers texts index header text (subst (λ h. index < length h) is some) (here ∙ ap (λ h. get_or h index header) is) so one)
