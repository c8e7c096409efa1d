-- A message that is to be taken in has a control text, and its parts are those of a message.
use Rattle.std.proofs.Common.{◌≡◌, ◌≢◌, ℕ, ◌<◌, ◌≤◌, ◌^◌, List, [], ◌∷◌, map, Option, Some, None, sym, subst, arith, ℤ, pos, negsuc}
use Rattle.std.specs.Prelude.{All, FitsSigned, IfSome, length}
use Rattle.std.specs.Int.{w64, w128}
use Rattle.std.proofs.lemmas.List.{length-map}
use Rattle.std.proofs.lemmas.List.Elements.{All-nil, All-cons, All-head, All-tail, All-weaker}
use Rattle.qf_format.specs.Valid.{IsValid, IsRow}
use Rattle.mail_base.specs.declared.draw.Draw.{Draw}
use Rattle.mail_base.specs.declared.message.Message.{Message}
use Rattle.mail_base.specs.Texts.{IsHeader}
use Rattle.mail_base.specs.Drawing.{IsDrawn}
use Rattle.queue_plan.specs.Parts.{IsPart}
use Rattle.queue_table.specs.Calls.{AreValid}
use Rattle.queue_table.specs.Commands.{new_control, new_row}
use Rattle.queue_table.specs.Priorities.{within_128}
use Rattle.queue_table.specs.Soundness.{AreCuts}
use Rattle.queue_table.specs.declared.terms.Terms.{Terms}
use Rattle.mail_base.specs.declared.message.Cut.{Cut}
use Rattle.mail_made.specs.Messages.{headed, put_first}
use Rattle.queue_plan.specs.Cuts.{AreForms}

-- none of its kept macros has an LF, its headers are headers, and its class fits
pub record IsWellFormed (message : Message) : Type 0 where
  pub class : FitsSigned w64 message.class
  pub protocol : All (λ b. b ≢ 10) message.kept.protocol
  pub helo : All (λ b. b ≢ 10) message.kept.helo
  pub client : All (λ b. b ≢ 10) message.kept.client
  pub headers : All IsHeader message.headers

-- a sum that stops at the last number of 128 bits is within them
priority_fits : (sum : ℤ) → FitsSigned w128 (within_128 sum)
priority_fits (pos n) = record { sfits = omega arith }
priority_fits (negsuc n) = record { sfits = omega arith }

-- the rows of a message are those of an entry
rows_formed : (draws : List Draw) → All IsDrawn draws → All IsRow (map new_row draws)
rows_formed [] each = All-nil IsRow
rows_formed (draw ∷ draws) each =
    All-cons IsRow (new_row draw) (map new_row draws) (record { address_form = (All-head IsDrawn draw draws each).address_form; state_form = tt }) (rows_formed draws (All-tail IsDrawn draw draws each))

headers_formed : (first : Option (List ℕ)) (headers : List (List ℕ)) → IfSome first IsHeader → All IsHeader headers → All IsHeader (put_first first headers)
headers_formed None headers h each = each
headers_formed (Some first) headers h each = All-cons IsHeader first headers h each

-- a message of the right form has a control that is valid
valid_message : (terms : Terms) (moment : ℕ) (first : Option (List ℕ)) (message : Message) (cut : Cut) → moment < 2 ^ 64 → IfSome first IsHeader → IsWellFormed message → IsPart cut → IsValid (new_control terms (headed first message) moment cut)
valid_message terms moment first message cut fits header form part = record {
  revision_range = record { least = omega arith; most = omega arith };
  parent_form = tt;
  group_form = part.group;
  created_range = fits;
  last_try_range = omega arith;
  tries_range = omega arith;
  priority_range = priority_fits _;
  class_range = form.class;
  sender_form = part.sender;
  kept_form = record {
    protocol_form = form.protocol;
    helo_form = form.helo;
    client_form = form.client;
  };
  rows_form = record {
    some = omega (arith, part.some, length-map cut.rows new_row);
    few = omega (arith, part.few, length-map cut.rows new_row);
    each = rows_formed cut.rows part.each;
  };
  headers_form = headers_formed first message.headers header form.headers;
}

-- and so has each of its parts
pub valid_parts : (terms : Terms) (moment : ℕ) (first : Option (List ℕ)) (message : Message) (cuts : List Cut) → moment < 2 ^ 64 → IfSome first IsHeader → IsWellFormed message → All IsPart cuts → AreValid terms (headed first message) moment cuts
valid_parts terms moment first message cuts fits header form parts =
    All-weaker IsPart (λ (cut : Cut). IsValid (new_control terms (headed first message) moment cut)) (λ cut part. valid_message terms moment first message cut fits header form part) cuts parts

has_row : (cut : Cut) → IsPart cut → 0 < length cut.rows
has_row cut part = part.some

-- parts that may become entries are parts of a message
pub parts_are : (cuts : List Cut) → AreForms cuts → AreCuts cuts
parts_are cuts form = record { some = form.some; each = All-weaker IsPart (λ (cut : Cut). 0 < length cut.rows) has_row cuts form.each }
