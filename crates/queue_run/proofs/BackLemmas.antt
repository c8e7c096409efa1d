-- Messages that are made for an entry may become entries.
use Rattle.std.proofs.Common.{◌≡◌, ◌≢◌, ℕ, ◌<◌, ◌^◌, List, [], ◌∷◌, map, Bool, true, false, if◌then◌else◌, sym, subst, arith, ℤ, pos, negsuc, refl, ◌∙◌, true≢false, get_or, eq-eqb, ltb-true}
use Rattle.std.specs.Prelude.{codes, nat_lt, not, All, FitsSigned, length}
use Rattle.std.specs.Int.{w64, w128}
use Rattle.std.proofs.lemmas.Bool.{and_parts}
use Rattle.std.proofs.lemmas.List.Folds.{list_any_at}
use Rattle.std.proofs.lemmas.List.{length-map}
use Rattle.std.proofs.lemmas.List.Elements.{All-nil, All-cons, All-head, All-tail, All-weaker}
use Rattle.mail_base.specs.Drawing.{IsDrawn}
use Rattle.mail_base.specs.Texts.{IsAddress, has_lf, is_lf}
use Rattle.mail_base.specs.declared.config.Config.{Config}
use Rattle.mail_base.specs.declared.control.Control.{Control}
use Rattle.mail_base.specs.declared.draw.Draw.{Draw}
use Rattle.mail_base.specs.declared.message.Back.{Back}
use Rattle.mail_base.specs.declared.message.Cut.{Cut}
use Rattle.mail_base.specs.declared.message.Message.{Message}
use Rattle.qf_format.specs.Valid.{AreKept, IsRow, IsValid}
use Rattle.queue_plan.specs.Cuts.{AreForms}
use Rattle.queue_plan.specs.Parts.{IsPart}
use Rattle.queue_table.specs.Calls.{AreBacksValid, AreValid}
use Rattle.queue_table.specs.Commands.{new_control, new_row}
use Rattle.queue_table.specs.Priorities.{within_128}
use Rattle.queue_table.specs.Soundness.{AreCuts, IsBack}
use Rattle.queue_table.specs.declared.terms.Terms.{Terms}
use Rattle.dsn_bounce.specs.Returned.{receiver_of}
use Rattle.queue_run.specs.Backs.{drawn_for, is_address}
use Rattle.queue_run.specs.inner.Sendings.{IsPlain}

abbrev NotLf : ℕ → Type 0
NotLf b = b ≢ 10

-- ---- receivers

-- a text that passes the test is an address
address_form : (text : List ℕ) → is_address text ≡ true → IsAddress text
address_form text e =
    let parts = and_parts (nat_lt 0 (length text)) (not (has_lf text)) e in
    let one : has_lf text ≡ false = is_false (has_lf text) parts.1 in record {
      line = λ k d lt same. absurd (true≢false (sym (list_any_at is_lf text k d lt (eq-eqb (get_or text k d) 10 same)) ∙ one));
      some = ltb-true 0 (length text) parts.0;
    }
  where
    is_false : (b : Bool) → not b ≡ true → b ≡ false
    is_false true e = absurd (true≢false (sym e))
    is_false false e = refl

-- rows are drawn for an address
pub drawn_form : (config : Config) (control : Control) → IsAddress (drawn_for config control)
drawn_form config control = by (is_address (receiver_of config control)) refl
  where
    by : (b : Bool) → is_address (receiver_of config control) ≡ b → IsAddress (if b then receiver_of config control else codes "postmaster")
    by true e = address_form (receiver_of config control) e
    by false e = address_form (codes "postmaster") refl

-- ---- first controls

priority_fits : (sum : ℤ) → FitsSigned w128 (within_128 sum)
priority_fits (pos n) = record { sfits = omega arith }
priority_fits (negsuc n) = record { sfits = omega arith }

none_fits : FitsSigned w64 (pos 0)
none_fits = record { sfits = omega arith }

none_kept : AreKept (record { protocol = []; helo = []; client = [] })
none_kept = record { protocol_form = All-nil NotLf; helo_form = All-nil NotLf; client_form = All-nil NotLf }

rows_formed : (draws : List Draw) → All IsDrawn draws → All IsRow (map new_row draws)
rows_formed [] each = All-nil IsRow
rows_formed (draw ∷ draws) each =
    All-cons IsRow (new_row draw) (map new_row draws) (record { address_form = (All-head IsDrawn draw draws each).address_form; state_form = tt }) (rows_formed draws (All-tail IsDrawn draw draws each))

valid_cut : (terms : Terms) (moment : ℕ) (message : Message) (cut : Cut) → moment < 2 ^ 64 → IsPlain message → IsPart cut → IsValid (new_control terms message moment cut)
valid_cut terms moment message cut fits plain part = record {
  revision_range = record { least = omega arith; most = omega arith };
  parent_form = tt;
  group_form = part.group;
  created_range = fits;
  last_try_range = omega arith;
  tries_range = omega arith;
  priority_range = priority_fits _;
  class_range = subst (FitsSigned w64) (sym plain.class) none_fits;
  sender_form = part.sender;
  kept_form = subst AreKept (sym plain.kept) none_kept;
  rows_form = record {
    some = omega (arith, part.some, length-map cut.rows new_row);
    few = omega (arith, part.few, length-map cut.rows new_row);
    each = rows_formed cut.rows part.each;
  };
  headers_form = plain.headers;
}

valid_cuts : (terms : Terms) (moment : ℕ) (message : Message) (cuts : List Cut) → moment < 2 ^ 64 → IsPlain message → All IsPart cuts → AreValid terms message moment cuts
valid_cuts terms moment message cuts fits plain parts =
    All-weaker IsPart (λ (cut : Cut). IsValid (new_control terms message moment cut)) (λ cut part. valid_cut terms moment message cut fits plain part) cuts parts

-- the first controls of one message have texts
pub valid_one : (terms : Terms) (moment : ℕ) (backs : List Back) (back : Back) → moment < 2 ^ 64 → backs ≡ back ∷ [] → IsPlain back.message → AreForms back.cuts → AreBacksValid terms moment backs
valid_one terms moment backs back fits one plain forms =
    subst (AreBacksValid terms moment) (sym one)
    (All-cons (λ (q : Back). AreValid terms q.message moment q.cuts) back [] (valid_cuts terms moment back.message back.cuts fits plain forms.each) (All-nil (λ (q : Back). AreValid terms q.message moment q.cuts)))

-- and those of none
pub valid_none : (terms : Terms) (moment : ℕ) (backs : List Back) → backs ≡ [] → AreBacksValid terms moment backs
valid_none terms moment backs none = subst (AreBacksValid terms moment) (sym none) (All-nil (λ (q : Back). AreValid terms q.message moment q.cuts))

-- ---- parts

-- parts that may become entries are parts of a message
pub cuts_are : (cuts : List Cut) → AreForms cuts → AreCuts cuts
cuts_are cuts forms = record { some = forms.some; each = All-weaker IsPart (λ (cut : Cut). 0 < length cut.rows) (λ cut part. part.some) cuts forms.each }

pub is_back : (back : Back) → IsPlain back.message → AreForms back.cuts → IsBack back
is_back back plain forms = record { cuts = cuts_are back.cuts forms; marked = plain.marked }
