-- What a reader stands for, after each call.
use Rattle.std.proofs.Common.{◌≡◌, ℕ, Bool, true, false, List, [], ◌∷◌, ◌++◌, take, drop, arith, refl, sym, ap, subst, ◌∙◌}
use Rattle.std.proofs.lemmas.Bool.{false≢true}
use Rattle.std.proofs.lemmas.List.{append-nil, append_assoc, take-take}
use Rattle.mail_base.specs.Limits.{most_command, most_message}
use Rattle.smtp_lines.specs.declared.line.Line.{Line}
use Rattle.smtp_lines.specs.declared.line.Mode.{Mode}
use Rattle.smtp_lines.specs.declared.line.Mode.TheVariants.{Commands, Message}
use Rattle.smtp_lines.specs.Stream.{has_end, Reads, nothing}
use Rattle.smtp_lines.specs.Reader.{most_kept, awaited, mode_by, Under, Reader, Stream, Stands, fresh, empty_stream, received, given, granted, refused, refused_by}
use Rattle.smtp_lines.specs.inner.Readings.{Takes}
use Rattle.smtp_lines.proofs.EndLemmas.{crlf_from_lf}
use Rattle.smtp_lines.proofs.ReadLemmas.{reads_more, reads_join}

-- a new reader stands for the empty stream
pub stands_fresh : Stands fresh empty_stream
unfolding most_kept most_command
stands_fresh = record {
  begun = [];
  holds = record { none = refl; kept = refl; cr = refl; commands = λ is. refl };
  reads = λ grant. nothing Commands [];
}

-- with a piece behind the bytes left, a reader stands for the stream that received it
pub stands_received : (r : Reader) (s : Stream) (piece : List ℕ) → Stands r s → Stands (record r { left = r.left ++ piece }) (received s piece)
stands_received r s piece st = record {
  begun = st.begun;
  holds = st.holds;
  reads = λ grant.
      let may = r.under.may_turn in
      subst (λ x. Reads Commands (s.received ++ piece) (s.granted ++ awaited may grant) s.lines (mode_by may grant r.under.mode) x) (append_assoc st.begun r.left piece)
      (reads_more _ _ _ _ _ _ piece (st.reads grant));
}

mode_by-refused : (may_turn : Bool) (mode : Mode) → (may_turn ≡ true → mode ≡ Commands) → mode_by may_turn false mode ≡ mode
mode_by-refused true mode commands = sym (commands refl)
mode_by-refused false mode commands = refl

-- after lines were taken, a reader stands for the stream that gave them
pub stands_given : (old new : Reader) (s : Stream) (lines : List Line) (used : ℕ) → (st : Stands old s) → Takes old.under new.under st.begun old.left lines used
    → new.left ≡ drop used old.left → Stands new (given old.under.may_turn s lines)
stands_given old new s [] used st t left =
    let none = t.none refl in
    let P : Under → List ℕ → Type 0 = λ u x. (grant : Bool) → Reads Commands s.received (s.granted ++ awaited u.may_turn grant) s.lines (mode_by u.may_turn grant u.mode) x in
    record {
      begun = t.begun_now;
      holds = t.holds;
      reads =
          subst (λ u. P u (t.begun_now ++ new.left)) (sym none.0)
          (subst (P old.under) (sym (ap (λ x. t.begun_now ++ x) left ∙ none.1)) st.reads);
    }
stands_given old new s (line ∷ lines) used st t left =
    let may = old.under.may_turn in
    record {
      begun = t.begun_now;
      holds = t.holds;
      reads = λ grant.
          let before = subst (λ m. Reads Commands s.received (s.granted ++ awaited may false) s.lines m (st.begun ++ old.left)) (mode_by-refused may old.under.mode st.holds.commands) (st.reads false) in
          let after = t.some (λ nil. cc) grant in
          let joined = reads_join _ _ _ _ _ _ _ _ _ _ before after in
          subst (λ x. Reads Commands s.received ((s.granted ++ awaited may false) ++ awaited new.under.may_turn grant) (s.lines ++ (line ∷ lines)) (mode_by new.under.may_turn grant new.under.mode) (t.begun_now ++ x)) (sym left) joined;
    }

most_kept-turned : most_kept Commands true ≡ most_kept Message false
unfolding most_kept
most_kept-turned = refl

-- a reader that is set to the message stands for the stream that was granted
pub stands_granted : (r : Reader) (s : Stream) → r.under.may_turn ≡ true → Stands r s
    → Stands (record r { under = record r.under { mode = Message; may_turn = false } }) (granted s)
stands_granted r s is st =
    let commands = st.holds.commands is in
    record {
      begun = st.begun;
      holds = record {
        none = crlf_from_lf st.begun (subst (λ m. has_end m st.begun ≡ false) commands st.holds.none);
        kept =
            st.holds.kept
            ∙ ap (λ m. take (most_kept m r.under.may_turn) st.begun) commands
            ∙ ap (λ b. take (most_kept Commands b) st.begun) is
            ∙ ap (λ n. take n st.begun) most_kept-turned;
        cr = st.holds.cr;
        commands = λ no. absurd (false≢true no);
      };
      reads = λ grant.
          subst (λ g. Reads Commands s.received g s.lines Message (st.begun ++ r.left)) (sym (append-nil (s.granted ++ true ∷ [])))
          (subst (λ b. Reads Commands s.received (s.granted ++ awaited b true) s.lines (mode_by b true r.under.mode) (st.begun ++ r.left)) is (st.reads true));
    }

take_command : (begun : List ℕ) → take most_command (take (most_kept Commands true) begun) ≡ take (most_kept Commands false) begun
unfolding most_kept most_message most_command
take_command begun = take-take 2_048 16_777_219 begun (omega arith)

-- a reader whose turn was refused stands for the stream that was refused
pub stands_refused : (r : Reader) (s : Stream) → r.under.may_turn ≡ true → Stands r s → Stands (refused_by r) (refused s)
stands_refused r s is st =
    let commands = st.holds.commands is in
    record {
      begun = st.begun;
      holds = record {
        none = st.holds.none;
        kept =
            ap (take most_command)
            (st.holds.kept
            ∙ ap (λ m. take (most_kept m r.under.may_turn) st.begun) commands
            ∙ ap (λ b. take (most_kept Commands b) st.begun) is)
            ∙ take_command st.begun
            ∙ sym (ap (λ m. take (most_kept m false) st.begun) commands);
        cr = st.holds.cr;
        commands = λ no. absurd (false≢true no);
      };
      reads = λ grant.
          subst (λ g. Reads Commands s.received g s.lines r.under.mode (st.begun ++ r.left)) (sym (append-nil (s.granted ++ false ∷ [])))
          (subst (λ m. Reads Commands s.received (s.granted ++ false ∷ []) s.lines m (st.begun ++ r.left)) (sym commands)
          (subst (λ b. Reads Commands s.received (s.granted ++ awaited b false) s.lines (mode_by b false r.under.mode) (st.begun ++ r.left)) is (st.reads false)));
    }

-- a reader of equal parts stands for the same stream
pub stands_at : (u u' : Under) (x x' : List ℕ) (s : Stream) → u ≡ u' → x ≡ x' → Stands (record { under = u'; left = x' }) s → Stands (record { under = u; left = x }) s
stands_at u u' x x' s same_under same_left st =
    subst (λ v. Stands (record { under = v; left = x }) s) (sym same_under) (subst (λ y. Stands (record { under = u'; left = y }) s) (sym same_left) st)
