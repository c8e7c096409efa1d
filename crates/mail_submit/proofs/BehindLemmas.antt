-- That bytes stand behind those that were held.
use Rattle.std.proofs.Common.{◌≡◌, ℕ, List, [], ◌++◌, Bool, Result, Ok, Err, OnOk, OnErr, refl, sym, ap, ◌∙◌}
use Rattle.std.proofs.lemmas.List.{append-nil, append_assoc}
use Rattle.mail_submit.specs.Parts.{Parts}
use Rattle.mail_submit.specs.declared.held.Held.{Held}
use Rattle.mail_submit.specs.inner.Behind.{IsBehind}
use Rattle.mail_submit.specs.inner.Fronts.{IsFront, whole}

same_front : (a b : Parts) → b ≡ a → IsFront a b
same_front a b is = record { more = []; grown = ap whole is ∙ sym (append-nil (whole a)) }

-- bytes of the line more
line_front : (a b : Parts) (bytes : List ℕ) → b ≡ record a { line = a.line ++ bytes } → IsFront a b
line_front a b bytes is = record { more = bytes; grown = ap whole is ∙ sym (append_assoc a.text a.line bytes) }

-- the line is ended
end_front : (a b : Parts) (end : List ℕ) → b ≡ record { text = a.text ++ (a.line ++ end); line = [] } → IsFront a b
end_front a b end is = record { more = end; grown = ap whole is ∙ append-nil (a.text ++ (a.line ++ end)) ∙ sym (append_assoc a.text a.line end) }

-- nothing came
pub behind_same : (h : Held) (b : Parts) → b ≡ h.buffer → IsBehind h (record h { buffer = b })
behind_same h b is = record { dot = refl; front = same_front h.buffer b is }

pub behind_itself : (h : Held) (ended : Bool) → IsBehind h (record h { ended = ended })
behind_itself h ended = record { dot = refl; front = same_front h.buffer h.buffer refl }

pub behind_line : (h : Held) (b : Parts) (bytes : List ℕ) → b ≡ record h.buffer { line = h.buffer.line ++ bytes } → IsBehind h (record h { buffer = b })
behind_line h b bytes is = record { dot = refl; front = line_front h.buffer b bytes is }

-- whether there was memory for its end or not
pub behind_end : {T E : Type 0} (result : Result T E) (h : Held) (b : Parts) (end : List ℕ) → OnOk result (b ≡ record { text = h.buffer.text ++ (h.buffer.line ++ end); line = [] })
    → OnErr result (b ≡ h.buffer) → IsBehind h (record h { buffer = b })
behind_end (Ok value) h b end ok err = record { dot = refl; front = end_front h.buffer b end ok }
behind_end (Err fault) h b end ok err = behind_same h b err

pub behind_join : (a b c : Held) → IsBehind a b → IsBehind b c → IsBehind a c
behind_join a b c x y = record {
  dot = y.dot ∙ x.dot;
  front = record {
    more = x.front.more ++ y.front.more;
    grown = y.front.grown ∙ ap (λ w. w ++ y.front.more) x.front.grown ∙ append_assoc (whole a.buffer) x.front.more y.front.more;
  };
}

abbrev pub of_all : Bool → Bool → Parts → Held
of_all dot ended buffer = record { dot = dot; ended = ended; buffer = buffer }

-- taken back, what was held is there again
pub taken_back : (old new : Held) (ended : Bool) (b : Parts) → IsBehind old new → ended ≡ old.ended → b ≡ old.buffer → of_all new.dot ended b ≡ old
taken_back old new ended b behind ended_is is =
    ap (λ d. of_all d ended b) behind.dot ∙ ap (λ e. of_all old.dot e b) ended_is ∙ ap (λ p. of_all old.dot old.ended p) is
