-- Reading line by line.
use Rattle.std.proofs.Common.{◌≡◌, ◌∙◌, ℕ, false, List, ◌∷◌, Some, None, Ok, Err, sym, ap, subst}
use Rattle.std.specs.Prelude.{Option, Result, IfSome}
use Rattle.mail_base.specs.declared.config.Config.{Config}
use Rattle.mail_edge.specs.Seen.{FileMap, FilesSeen}
use Rattle.cf_reader.specs.declared.fault.CfFault.{CfFault}
use Rattle.cf_reader.specs.declared.fault.CfFault.TheVariants as whole
use Rattle.cf_reader.specs.declared.logical.Logical.{Logical}
use Rattle.cf_reader.specs.declared.state.State.{State}
use Rattle.cf_reader.specs.Configuration.{read_lines, refused_or}
use Rattle.cf_reader.specs.Faults.{fault}
use Rattle.cf_reader.specs.Letters.{after_line}
use Rattle.mail_edge.specs.Asking.{Asks}
use Rattle.cf_reader.specs.Reads.{Gives}
use Rattle.cf_reader.specs.inner.Steps.{Goes}

-- ---- told files

-- what holds of every file map holds of one that may be there
pub if_all : {P : FileMap → Type 0} (files : Option FileMap) → ((map : FileMap) → P map) → IfSome files P
if_all None h = tt
if_all (Some map) h = h map

if_both : {P Q R : FileMap → Type 0} (files : Option FileMap) → ((map : FileMap) → P map → Q map → R map) → IfSome files P → IfSome files Q → IfSome files R
if_both None f h k = tt
if_both (Some map) f h k = f map h k

-- what holds of what may be there holds of what is there
pub found_in : {X : Type 0} (P : X → Type 0) (o : Option X) (x : X) → o ≡ Some x → IfSome o P → P x
found_in P o x e h = subst (λ o. IfSome o P) e h

-- ---- one line

line_stops : (map : FileMap) (state new : State) (line : Logical) (lines : List Logical) (e : CfFault) (meant : Result Config CfFault) → Goes (Err e) line.number (fault map state line.text) (after_line map line state) new
    → read_lines map state (line ∷ lines) ≡ meant → Gives (Err e) meant
line_stops map state new line lines (whole.Refused number found) meant goes rest =
    sym rest ∙ ap (λ o. refused_or o line.number (read_lines map (after_line map line state) lines)) goes.1 ∙ ap (λ (n : ℕ). Err (whole.Refused n found)) (sym goes.0)
line_stops map state new line lines whole.FilesFault meant goes rest = tt
line_stops map state new line lines whole.NoMemory meant goes rest = tt

line_goes_on : (map : FileMap) (state new : State) (line : Logical) (lines : List Logical) (meant : Result Config CfFault) → Goes (Ok tt) line.number (fault map state line.text) (after_line map line state) new
    → read_lines map state (line ∷ lines) ≡ meant → read_lines map new lines ≡ meant
line_goes_on map state new line lines meant goes rest =
    ap (λ (s : State). read_lines map s lines) goes.1
    ∙ sym (ap (λ o. refused_or o line.number (read_lines map (after_line map line state) lines)) goes.0)
    ∙ rest

-- ---- the lines that are left

-- where a line is refused, the reading of the whole ends with that fault
pub read_stops : (first now : FilesSeen) (state new : State) (left later : List Logical) (line : Logical) (e : CfFault) (meant : FileMap → Result Config CfFault) → left ≡ line ∷ later → Asks first now false
    → IfSome first.map (λ map. read_lines map state left ≡ meant map) → IfSome now.map (λ map. Goes (Err e) line.number (fault map state line.text) (after_line map line state) new)
    → IfSome first.map (λ map. Gives (Err e) (meant map))
read_stops first now state new left later line e meant is asks rest goes =
    if_both first.map
    (λ map r g. line_stops map state new line later e (meant map) g (ap (read_lines map state) (sym is) ∙ r))
    rest
    (subst (λ (m : Option FileMap). IfSome m (λ map. Goes (Err e) line.number (fault map state line.text) (after_line map line state) new)) asks.fixed goes)

-- where a line is taken, the reading of the whole goes on behind it
pub read_on : (first now : FilesSeen) (state new : State) (left later : List Logical) (line : Logical) (meant : FileMap → Result Config CfFault) → left ≡ line ∷ later → Asks first now false
    → IfSome first.map (λ map. read_lines map state left ≡ meant map) → IfSome now.map (λ map. Goes (Ok tt) line.number (fault map state line.text) (after_line map line state) new)
    → IfSome first.map (λ map. read_lines map new later ≡ meant map)
read_on first now state new left later line meant is asks rest goes =
    if_both first.map
    (λ map r g. line_goes_on map state new line later (meant map) g (ap (read_lines map state) (sym is) ∙ r))
    rest
    (subst (λ (m : Option FileMap). IfSome m (λ map. Goes (Ok tt) line.number (fault map state line.text) (after_line map line state) new)) asks.fixed goes)
