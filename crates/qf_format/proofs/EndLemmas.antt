-- The last line of a control text, and the whole text.
use Rattle.std.proofs.Common.{◌≡◌, ℕ, List, ◌++◌, Err, refl}
use Rattle.std.specs.Prelude.{codes}
use Rattle.mail_base.specs.declared.control.Control.{Control}
use Rattle.qf_format.specs.declared.stop.Stop.{Stop}
use Rattle.qf_format.specs.declared.stop.Stop.TheVariants.{Outside, Memory}
use Rattle.qf_format.specs.inner.Parts.{At, Parses, control_front}
use Rattle.qf_format.specs.inner.Reading.{Front, Stops, Whole, NoWhole}
use Rattle.qf_format.specs.Spelling.{line, spelled}
use Rattle.qf_format.specs.Valid.{IsValid}
use Rattle.qf_format.proofs.ReadLemmas.{whole_at_end, none_at_end, none_before_end}

abbrev end : List ℕ
end = line (codes ".")

abbrev with_end : Control → List ℕ
with_end c = control_front c ++ end

respelled : (bytes : List ℕ) (c : Control) → Whole with_end IsValid bytes c → Whole spelled IsValid bytes c
unfolding spelled control_front
respelled bytes c h = h

none_respelled : (bytes : List ℕ) → NoWhole with_end IsValid bytes → NoWhole spelled IsValid bytes
unfolding spelled control_front
none_respelled bytes h = h

-- what stops the reader of all lines but the last stops that of a control text
pub parse_stops : (bytes : List ℕ) (e : Stop) → Stops control_front IsValid (At 46) bytes e → Parses bytes (Err e)
parse_stops bytes Outside h = none_respelled bytes (none_before_end control_front IsValid (At 46) end refl bytes h)
parse_stops bytes Memory h = tt

-- all lines with the dot's line as their rest are the text of the control that was read
pub parse_whole : {c : Control} (bytes rest : List ℕ) → Front control_front IsValid (At 46) bytes c rest → rest ≡ end → Whole spelled IsValid bytes c
parse_whole {c} bytes rest a e = respelled bytes c (whole_at_end control_front IsValid (At 46) end refl bytes c rest a e)

-- where the rest isn't the dot's line and no more, the bytes are no control's text
pub parse_past : {c : Control} (bytes rest : List ℕ) → Front control_front IsValid (At 46) bytes c rest → (rest ≡ end → ⊥) → NoWhole spelled IsValid bytes
parse_past {c} bytes rest a e = none_respelled bytes (none_at_end control_front IsValid (At 46) end refl bytes c rest a e)
