-- Readings that are joined, and the reading of a loop so far.
use Rattle.std.proofs.Common.{◌≡◌, ℕ, suc, ◌+◌, Bool, true, false, List, [], ◌∷◌, ◌++◌, take, drop, refl, sym, ap, subst, ◌∙◌, arith, inl, inr, ◌⊎◌, ⊎_elim, append_assoc}
use Rattle.std.proofs.lemmas.Bool.{false≢true}
use Rattle.std.proofs.lemmas.List.{take-append-drop, drop-drop}
use Rattle.smtp_lines.specs.declared.line.Line.{Line}
use Rattle.smtp_lines.specs.declared.line.Line.TheVariants.{Command, TooLong, Data, DataEnd}
use Rattle.smtp_lines.specs.declared.line.Mode.{Mode}
use Rattle.smtp_lines.specs.declared.line.Mode.TheVariants.{Commands}
use Rattle.smtp_lines.specs.Stream.{Reads, nothing, plain, asked, has_end, ends_in_cr, end_of, line_of, asks, mode_after, granted_mode}
use Rattle.smtp_lines.specs.Reader.{asked_after}
use Rattle.smtp_lines.specs.inner.Readings.{EndsAt, IsKept, enough, ReadsOn}

longer_eq : (content end after more : List ℕ) → content ++ (end ++ (after ++ more)) ≡ (content ++ (end ++ after)) ++ more
longer_eq content end after more = ap (λ x. content ++ x) (sym (append_assoc end after more)) ∙ sym (append_assoc content (end ++ after) more)

-- bytes that come later change no line
pub reads_more : (mode : Mode) (bytes : List ℕ) (granted : List Bool) (lines : List Line) (last : Mode) (rest : List ℕ) (more : List ℕ)
    → Reads mode bytes granted lines last rest → Reads mode (bytes ++ more) granted lines last (rest ++ more)
reads_more _ _ _ _ _ _ more (nothing mode bytes) = nothing mode (bytes ++ more)
reads_more _ _ _ _ _ _ more (plain mode content after granted lines last rest none quiet then) =
    subst (λ x. Reads mode x granted (line_of mode content ∷ lines) last (rest ++ more)) (longer_eq content (end_of mode) after more)
    (plain mode content (after ++ more) granted lines last (rest ++ more) none quiet (reads_more _ _ _ _ _ _ more then))
reads_more _ _ _ _ _ _ more (asked mode content after grant granted lines last rest none asking then) =
    subst (λ x. Reads mode x (grant ∷ granted) (line_of mode content ∷ lines) last (rest ++ more)) (longer_eq content (end_of mode) after more)
    (asked mode content (after ++ more) grant granted lines last (rest ++ more) none asking (reads_more _ _ _ _ _ _ more then))

-- one reading after another
pub reads_join : (mode : Mode) (bytes : List ℕ) (granted : List Bool) (lines : List Line) (now : Mode) (rest : List ℕ) (granted' : List Bool) (lines' : List Line) (last : Mode) (rest' : List ℕ)
    → Reads mode bytes granted lines now rest → Reads now rest granted' lines' last rest' → Reads mode bytes (granted ++ granted') (lines ++ lines') last rest'
reads_join _ _ _ _ _ _ granted' lines' last' rest' (nothing mode bytes) next = next
reads_join _ _ _ _ _ _ granted' lines' last' rest' (plain mode content after granted lines last rest none quiet then) next =
    plain mode content after (granted ++ granted') (lines ++ lines') last' rest' none quiet (reads_join _ _ _ _ _ _ granted' lines' last' rest' then next)
reads_join _ _ _ _ _ _ granted' lines' last' rest' (asked mode content after grant granted lines last rest none asking then) next =
    asked mode content after grant (granted ++ granted') (lines ++ lines') last' rest' none asking (reads_join _ _ _ _ _ _ granted' lines' last' rest' then next)

-- the bytes of a line that ends, and those after it
ends_eq : (mode : Mode) (begun bytes : List ℕ) (n : ℕ) (e : EndsAt mode begun bytes n) → e.content ++ (end_of mode ++ drop n bytes) ≡ begun ++ bytes
ends_eq mode begun bytes n e =
    sym (append_assoc e.content (end_of mode) (drop n bytes))
    ∙ ap (λ x. x ++ drop n bytes) (sym e.whole)
    ∙ append_assoc begun (take n bytes) (drop n bytes)
    ∙ ap (λ x. begun ++ x) (take-append-drop n bytes)

one_line : (mode : Mode) (begun bytes : List ℕ) (n : ℕ) (e : EndsAt mode begun bytes n) (line : Line) → line ≡ line_of mode e.content → asks line ≡ false
    → Reads mode (begun ++ bytes) [] (line ∷ []) (mode_after line) (drop n bytes)
one_line mode begun bytes n e line is quiet =
    let P : Line → Type 0 = λ l. Reads mode (begun ++ bytes) [] (l ∷ []) (mode_after l) (drop n bytes) in
    subst P (sym is)
    (subst (λ x. Reads mode x [] (line_of mode e.content ∷ []) (mode_after (line_of mode e.content)) (drop n bytes)) (ends_eq mode begun bytes n e)
    (plain mode e.content (drop n bytes) [] [] (mode_after (line_of mode e.content)) (drop n bytes) e.none (ap asks (sym is) ∙ quiet) (nothing _ _)))

one_asked : (mode : Mode) (begun bytes : List ℕ) (n : ℕ) (e : EndsAt mode begun bytes n) (line : Line) → line ≡ line_of mode e.content → asks line ≡ true → (grant : Bool)
    → Reads mode (begun ++ bytes) (grant ∷ []) (line ∷ []) (granted_mode grant) (drop n bytes)
one_asked mode begun bytes n e line is is_so grant =
    let P : Line → Type 0 = λ l. Reads mode (begun ++ bytes) (grant ∷ []) (l ∷ []) (granted_mode grant) (drop n bytes) in
    subst P (sym is)
    (subst (λ x. Reads mode x (grant ∷ []) (line_of mode e.content ∷ []) (granted_mode grant) (drop n bytes)) (ends_eq mode begun bytes n e)
    (asked mode e.content (drop n bytes) grant [] [] (granted_mode grant) (drop n bytes) e.none (ap asks (sym is) ∙ is_so) (nothing _ _)))

-- whether the last line asks tells of it alone, whatever stood before
pub asked_after-push : (b : Bool) (lines : List Line) (line : Line) → asked_after b (lines ++ line ∷ []) ≡ asks line
asked_after-push b [] line = refl
asked_after-push b (l ∷ lines) line = asked_after-push (asks l) lines line

-- a list with one line more isn't empty
pub not_nil : (lines : List Line) (line : Line) → lines ++ line ∷ [] ≡ [] → ⊥
not_nil [] line e = cc
not_nil (l ∷ lines) line e = cc

mode_after-asks : (line : Line) → asks line ≡ true → mode_after line ≡ Commands
mode_after-asks (Command text) h = refl
mode_after-asks TooLong h = refl
mode_after-asks (Data text) h = absurd (false≢true h)
mode_after-asks DataEnd h = refl

-- before the first line, and after one
pub record AtStart (mode : Mode) (begun : List ℕ) (lines : List Line) (now : Mode) (begun_now : List ℕ) (used : ℕ) : Type 0 where
  pub no_lines : lines ≡ []
  pub same_mode : now ≡ mode
  pub same_begun : begun_now ≡ begun
  pub unused : used ≡ 0

pub record Later (lines : List Line) (begun_now : List ℕ) : Type 0 where
  pub some_lines : lines ≡ [] → ⊥
  pub new_line : begun_now ≡ []

-- what was read of the bytes so far, where no line asked
pub record SoFar (mode : Mode) (begun bytes : List ℕ) (lines : List Line) (now : Mode) (kept : List ℕ) (after_cr : Bool) (used : ℕ) : Type 0 where
  pub begun_now : List ℕ
  pub is_kept : IsKept now begun_now kept
  pub none : has_end now begun_now ≡ false
  pub cr : ends_in_cr begun_now ≡ after_cr
  pub reads : Reads mode (begun ++ bytes) [] lines now (begun_now ++ drop used bytes)
  pub quiet : asked_after false lines ≡ false
  pub at : AtStart mode begun lines now begun_now used ⊎ Later lines begun_now

-- before any byte is taken, what was kept is what was read so far
pub so_far_start : (mode : Mode) (begun bytes kept : List ℕ) (after_cr : Bool) → IsKept mode begun kept → has_end mode begun ≡ false → ends_in_cr begun ≡ after_cr
    → SoFar mode begun bytes [] mode kept after_cr 0
so_far_start mode begun bytes kept after_cr is none cr = record {
  begun_now = begun;
  is_kept = is;
  none = none;
  cr = cr;
  reads = nothing mode (begun ++ bytes);
  quiet = refl;
  at = inl (record { no_lines = refl; same_mode = refl; same_begun = refl; unused = refl });
}

-- the front of nothing
nothing_kept : (mode : Mode) → IsKept mode [] []
nothing_kept mode = record { most = suc (enough mode); enough = omega arith; is = refl }

-- a line that ends and doesn't ask is read behind those so far
pub so_far_line : (mode : Mode) (begun bytes : List ℕ) (lines : List Line) (now : Mode) (kept : List ℕ) (after_cr : Bool) (used n : ℕ) (line : Line) (left : List ℕ) → left ≡ drop used bytes
    → (so : SoFar mode begun bytes lines now kept after_cr used) → (e : EndsAt now so.begun_now left n) → line ≡ line_of now e.content → asks line ≡ false
    → SoFar mode begun bytes (lines ++ line ∷ []) (mode_after line) [] false (used + n)
so_far_line mode begun bytes lines now kept after_cr used n line left left_is so e is quiet = record {
  begun_now = [];
  is_kept = nothing_kept (mode_after line);
  none = refl;
  cr = refl;
  reads =
      subst (λ x. Reads mode (begun ++ bytes) [] (lines ++ line ∷ []) (mode_after line) x) (ap (drop n) left_is ∙ drop-drop n used bytes)
      (reads_join _ _ _ _ _ _ _ _ _ _ (subst (λ x. Reads mode (begun ++ bytes) [] lines now (so.begun_now ++ x)) (sym left_is) so.reads) (one_line now so.begun_now left n e line is quiet));
  quiet = asked_after-push false lines line ∙ quiet;
  at = inr (record { some_lines = not_nil lines line; new_line = refl });
}

-- where a line that ends asks, the reading stands still behind it
pub asked_line : (mode : Mode) (begun bytes : List ℕ) (lines : List Line) (now : Mode) (kept : List ℕ) (after_cr : Bool) (used n : ℕ) (line : Line) (left : List ℕ) → left ≡ drop used bytes
    → (so : SoFar mode begun bytes lines now kept after_cr used) → (e : EndsAt now so.begun_now left n) → line ≡ line_of now e.content → asks line ≡ true
    → ReadsOn mode begun bytes (lines ++ line ∷ []) (mode_after line) (used + n) true
asked_line mode begun bytes lines now kept after_cr used n line left left_is so e is is_so = record {
  asks = sym (asked_after-push false lines line ∙ is_so);
  commands = λ _. mode_after-asks line is_so;
  none = λ nil. absurd (not_nil lines line nil);
  some = λ _ grant.
      subst (λ x. Reads mode (begun ++ bytes) (grant ∷ []) (lines ++ line ∷ []) (granted_mode grant) x) (ap (drop n) left_is ∙ drop-drop n used bytes)
      (reads_join _ _ _ _ _ _ _ _ _ _ (subst (λ x. Reads mode (begun ++ bytes) [] lines now (so.begun_now ++ x)) (sym left_is) so.reads) (one_asked now so.begun_now left n e line is is_so grant));
  all = λ _ no. absurd (false≢true (sym no));
}

-- where no line ends in the bytes left, the reading is over
pub all_read : (mode : Mode) (begun bytes : List ℕ) (lines : List Line) (now : Mode) (kept : List ℕ) (after_cr : Bool) (used : ℕ) (left : List ℕ) → left ≡ drop used bytes
    → (so : SoFar mode begun bytes lines now kept after_cr used) → has_end now (so.begun_now ++ left) ≡ false
    → ReadsOn mode begun bytes lines now used false
all_read mode begun bytes lines now kept after_cr used left left_is so none_left =
    let none = subst (λ x. has_end now (so.begun_now ++ x) ≡ false) left_is none_left in
    record {
      asks = sym so.quiet;
      commands = λ is_so. absurd (false≢true is_so);
      none = λ nil.
          ⊎_elim
          (λ (s : AtStart mode begun lines now so.begun_now used).
          subst (λ x. has_end mode x ≡ false) (ap (λ x. x ++ drop used bytes) s.same_begun ∙ ap (λ n. begun ++ drop n bytes) s.unused)
          (subst (λ m. has_end m (so.begun_now ++ drop used bytes) ≡ false) s.same_mode none))
          (λ (l : Later lines so.begun_now). absurd (l.some_lines nil)) so.at;
      some = λ more grant.
          ⊎_elim
          (λ (s : AtStart mode begun lines now so.begun_now used). absurd (more s.no_lines))
          (λ (l : Later lines so.begun_now). subst (λ x. Reads mode (begun ++ bytes) [] lines now (x ++ drop used bytes)) l.new_line so.reads) so.at;
      all = λ more _.
          ⊎_elim
          (λ (s : AtStart mode begun lines now so.begun_now used). absurd (more s.no_lines))
          (λ (l : Later lines so.begun_now). subst (λ x. has_end now (x ++ drop used bytes) ≡ false) l.new_line none) so.at;
    }
