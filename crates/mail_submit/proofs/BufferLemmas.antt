-- The text of whole lines and the bytes behind it, as one list that is cut at a place.
use Rattle.std.proofs.Common.{◌≡◌, ℕ, ◌+◌, ◌≤◌, List, [], ◌++◌, length, take, drop, sym, ap, ◌∙◌, arith}
use Rattle.std.specs.Prelude.{min}
use Rattle.std.proofs.lemmas.List.{append_assoc, drop-append-le, drop_all, drop_at, length-append, take-append-drop, take-append-le, take_all, take_at}
use Rattle.mail_submit.specs.Parts.{Parts}
use Rattle.mail_submit.specs.inner.Fronts.{IsFront, whole}

-- a list that is cut at a place
abbrev pub parts : ℕ → List ℕ → Parts
parts start bytes = record { text = take start bytes; line = drop start bytes }

abbrev of_both : List ℕ → List ℕ → Parts
of_both text line = record { text = text; line = line }

made : (a b c d : List ℕ) → a ≡ b → c ≡ d → of_both a c ≡ of_both b d
made a b c d text line = ap (λ t. of_both t c) text ∙ ap (λ l. of_both b l) line

-- bytes at its end are bytes of the line
pub extended : (start : ℕ) (bytes more : List ℕ) → start ≤ length bytes → parts start (bytes ++ more) ≡ record { text = take start bytes; line = drop start bytes ++ more }
extended start bytes more within = made _ _ _ _ (take-append-le start bytes more within) (drop-append-le start bytes more within)

-- where the place is the end, all are whole lines
pub closed : (start : ℕ) (bytes more : List ℕ) (n : ℕ) → n ≡ length (bytes ++ more) → parts n (bytes ++ more) ≡ record { text = take start bytes ++ (drop start bytes ++ more); line = [] }
closed start bytes more n is =
    made _ _ _ _
    (take_all n (bytes ++ more) (omega (arith, is)) ∙ ap (λ b. b ++ more) (sym (take-append-drop start bytes)) ∙ append_assoc (take start bytes) (drop start bytes) more)
    (drop_all n (bytes ++ more) (omega (arith, is)))

-- the two lists have as many bytes as the one
pub whole_length : (start : ℕ) (bytes : List ℕ) → length (whole (parts start bytes)) ≡ length bytes
whole_length start bytes = ap length (take-append-drop start bytes)

-- what came since is cut off
pub cut_back : (earlier : Parts) (start : ℕ) (bytes : List ℕ) → IsFront earlier (parts start bytes) → (t n m : ℕ) → t ≡ length earlier.text → n ≡ length (whole earlier)
    → m ≡ min t (length (take n bytes)) → parts m (take n bytes) ≡ earlier
cut_back earlier start bytes front t n m text all least =
    let is : bytes ≡ whole earlier ++ front.more = sym (take-append-drop start bytes) ∙ front.grown in
    let kept : take n bytes ≡ whole earlier = ap (take n) is ∙ take_at (whole earlier) front.more n (sym all) in
    let sizes : length (whole earlier) ≡ length earlier.text + length earlier.line = length-append earlier.text earlier.line in
    let at : length earlier.text ≡ m = omega (arith, text, least, ap length kept, sizes) in
    ap (parts m) kept ∙ made _ _ _ _ (take_at earlier.text earlier.line m at) (drop_at earlier.text earlier.line m at)
