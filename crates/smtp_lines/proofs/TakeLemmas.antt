-- What is kept of the line under way, after some lines were taken.
use Rattle.std.proofs.Common.{◌≡◌, ℕ, ◌+◌, ◌-◌, ◌<◌, ◌≤◌, ◌==◌, Bool, true, false, List, [], ◌∷◌, ◌++◌, length, take, drop, get_or, refl, sym, ap, subst, ◌∙◌, arith, ⊎_elim}
use Rattle.std.proofs.lemmas.Bool.{cases_lt}
use Rattle.std.proofs.lemmas.List.{append-nil, take_all, drop_all, take-append-le, length-take, length-append, get_or-append-add}
use Rattle.mail_base.specs.Limits.{most_message, most_command}
use Rattle.smtp_lines.specs.declared.line.Line.{Line}
use Rattle.smtp_lines.specs.declared.line.Mode.{Mode}
use Rattle.smtp_lines.specs.declared.line.Mode.TheVariants.{Commands, Message}
use Rattle.smtp_lines.specs.Stream.{has_end, ends_in_cr, Reads}
use Rattle.smtp_lines.specs.Reader.{most_kept, asked_after, awaited, mode_by, Under, Holds}
use Rattle.smtp_lines.specs.inner.Readings.{enough, cr_after, ReadsOn, Takes}
use Rattle.smtp_lines.proofs.LineLemmas.{take_joined}

-- what is kept of a line is enough to tell the line
pub enough_kept : (mode : Mode) (may_turn : Bool) → enough mode ≤ most_kept mode may_turn
unfolding enough most_kept most_message most_command
enough_kept Commands false = omega arith
enough_kept Commands true = omega arith
enough_kept Message may_turn = omega arith

kept_more : (most : ℕ) (begun bytes : List ℕ) → take most begun ++ take (most - length (take most begun)) bytes ≡ take most (begun ++ bytes)
kept_more most begun bytes =
    ⊎_elim
    (λ (cut : most < length begun).
    let none : most - length (take most begun) ≡ 0 = omega (arith, length-take most begun) in
    ap (λ n. take most begun ++ take n bytes) none ∙ append-nil (take most begun) ∙ sym (take-append-le most begun bytes (omega arith)))
    (λ (all : length begun ≤ most).
    ap (λ x. x ++ take (most - length x) bytes) (take_all most begun all) ∙ sym (take_joined begun bytes most all))
    (cases_lt most (length begun))

ends_in_cr-append : (begun : List ℕ) (b : ℕ) (bytes : List ℕ) → ends_in_cr (begun ++ b ∷ bytes) ≡ ends_in_cr (b ∷ bytes)
ends_in_cr-append begun b bytes =
    let n : length (begun ++ b ∷ bytes) - 1 ≡ length begun + (length (b ∷ bytes) - 1) = omega (arith, length-append begun (b ∷ bytes)) in
    ap (λ m. get_or (begun ++ b ∷ bytes) m 0 == 13) n ∙ ap (λ c. c == 13) (get_or-append-add begun (b ∷ bytes) (length (b ∷ bytes) - 1) 0)

cr_after-is : (begun bytes : List ℕ) (after_cr : Bool) → ends_in_cr begun ≡ after_cr → ends_in_cr (begun ++ bytes) ≡ cr_after after_cr bytes
cr_after-is begun [] after_cr is = ap ends_in_cr (append-nil begun) ∙ is
cr_after-is begun (b ∷ bytes) after_cr is = ends_in_cr-append begun b bytes

-- where there are lines, whether the last asks doesn't hang on what was asked before
pub asked_after-some : (a b : Bool) (lines : List Line) → (lines ≡ [] → ⊥) → asked_after a lines ≡ asked_after b lines
asked_after-some a b [] some = absurd (some refl)
asked_after-some a b (line ∷ lines) some = refl

-- where no line ends, the front of the line under way is kept
pub takes_none : (old new : Under) (begun bytes : List ℕ) (lines : List Line) → lines ≡ []
    → new ≡ record old { kept = old.kept ++ take (most_kept old.mode old.may_turn - length old.kept) bytes; after_cr = cr_after old.after_cr bytes }
    → Holds old begun → has_end old.mode (begun ++ bytes) ≡ false → Takes old new begun bytes lines (length bytes)
takes_none old new begun bytes lines nil is holds none =
    let most = most_kept old.mode old.may_turn in
    let kept : old.kept ++ take (most - length old.kept) bytes ≡ take most (begun ++ bytes) =
    ap (λ x. x ++ take (most - length x) bytes) holds.kept ∙ kept_more most begun bytes in
    let P : Under → Type 0 = λ n. Takes old n begun bytes lines (length bytes) in
    subst P (sym is) (record {
      begun_now = begun ++ bytes;
      holds = record { none = none; kept = kept; cr = cr_after-is begun bytes old.after_cr holds.cr; commands = holds.commands };
      none = λ _. (refl, ap (λ x. (begun ++ bytes) ++ x) (drop_all (length bytes) bytes (omega arith)) ∙ append-nil (begun ++ bytes));
      some = λ more. absurd (more nil);
    })

-- where lines ended, the front of what is behind them is kept
pub takes_some : (old new : Under) (begun bytes : List ℕ) (lines : List Line) (now : Mode) (used until : ℕ) (asked : Bool) (tail : List ℕ)
    → (lines ≡ [] → ⊥) → ReadsOn old.mode begun bytes lines now used asked
    → new ≡ record { mode = now; may_turn = asked; kept = take (most_kept now asked) tail; after_cr = ends_in_cr tail }
    → has_end now tail ≡ false → tail ++ drop until bytes ≡ drop used bytes → Takes old new begun bytes lines until
takes_some old new begun bytes lines now used until asked tail more reads is none left =
    let P : Under → Type 0 = λ n. Takes old n begun bytes lines until in
    subst P (sym is) (record {
      begun_now = tail;
      holds = record { none = none; kept = refl; cr = refl; commands = reads.commands };
      none = λ nil. absurd (more nil);
      some = λ some grant. subst (λ x. Reads old.mode (begun ++ bytes) (awaited asked grant) lines (mode_by asked grant now) x) (sym left) (reads.some more grant);
    })
