-- What asking files for the words of a class says.
use Rattle.std.proofs.Common.{◌≡◌, ◌∙◌, ℕ, List, [], ◌∷◌, not, Some, None, Ok, Err, refl, sym, ap, subst}
use Rattle.std.specs.Prelude.{Option, Result, IfSome, is_some, unwrap_or}
use Rattle.mail_edge.specs.Seen.{FileMap, text_of}
use Rattle.cf_reader.specs.declared.class_line.ClassLine.{ClassLine}
use Rattle.cf_reader.specs.declared.fault.Fault.TheVariants.{NoSuchFile}
use Rattle.cf_reader.specs.declared.fault.LineStop.{LineStop}
use Rattle.cf_reader.specs.declared.fault.LineStop.TheVariants as stops
use Rattle.cf_reader.specs.declared.file_line.Wanted.{Wanted}
use Rattle.cf_reader.specs.ClassLines.{words_of_file, wanted_by, wanted_of, text_or, file_text, fault_of_file, file_class_of}
use Rattle.cf_macros.specs.Names.{split_name}
use Rattle.cf_reader.specs.Reads.{first_fault}
use Rattle.cf_reader.specs.inner.Readings.{Finds, Opens}
use Rattle.mail_base.specs.Words.{words_of}
use Rattle.cf_reader.specs.inner.Steps.{class_in}

-- what is said of told files
pub if_told : {P Q : FileMap → Type 0} (files : Option FileMap) → ((map : FileMap) → P map → Q map) → IfSome files P → IfSome files Q
if_told None f h = tt
if_told (Some map) f h = f map h

class_finds : (name : List ℕ) (text : Option (List ℕ)) (r : Result ClassLine LineStop) → Opens NoSuchFile r (class_in name text)
    → Finds r (first_fault ((NoSuchFile, not (is_some text)) ∷ [])) (record { class = name; words = words_of_file (unwrap_or text []) })
class_finds name (Some text) (Ok line) h = (refl, cc h)
class_finds name None (Ok line) h = absurd (cc h)
class_finds name (Some text) (Err (stops.Refused fault)) h = let none = h.1 in absurd (cc none)
class_finds name None (Err (stops.Refused fault)) h = ap Some (sym h.0)
class_finds name text (Err stops.FilesFault) h = absurd h
class_finds name text (Err stops.NoMemory) h = tt

-- the words of the text that was found are those that the line gives
pub line_finds : (files : FileMap) (text name rest : List ℕ) (wanted : Wanted) (found : Option (List ℕ)) (r : Result ClassLine LineStop) → (name, rest) ≡ split_name text → wanted ≡ wanted_by (words_of rest)
    → Opens NoSuchFile r (class_in name (text_or wanted.optional found)) → found ≡ text_of files wanted.file → Finds r (fault_of_file files text) (file_class_of files text)
line_finds files text name rest wanted found r split asked gives has =
    let named : name ≡ (split_name text).0 = ap (λ (p : List ℕ × List ℕ). p.0) split in
    let behind : rest ≡ (split_name text).1 = ap (λ (p : List ℕ × List ℕ). p.1) split in
    let wants : wanted ≡ wanted_of text = asked ∙ ap (λ (t : List ℕ). wanted_by (words_of t)) behind in
    let given : text_or wanted.optional found ≡ file_text files text = ap (text_or wanted.optional) has ∙ ap (λ (w : Wanted). text_or w.optional (text_of files w.file)) wants in
    class_finds (split_name text).0 (file_text files text) r
    (subst (λ (o : Option ClassLine). Opens NoSuchFile r o) (λ i. class_in (named i) (given i)) gives)
