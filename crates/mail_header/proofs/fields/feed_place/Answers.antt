use Rattle.std.proofs.Common.{not, ◌∙◌, arith}
use Rattle.std.proofs.lemmas.List.Sums.{prefix_len-le-length}
use Rattle.mail_header.specs.Fields.{is_feed}
use Rattle.mail_base.proofs.SearchLemmas.{front_length, byte_found}
use Rattle.mail_header.proofs.fields.feed_place.Goals as goal

pub returns-clause-place : goal.returns-clause-place
returns-clause-place c = c.unwrap_or.ensures ∙ front_length _ (λ b. not (is_feed b)) (byte_found 10) c.args.value.now _ c.find_byte.ensures

pub returns-clause-within : goal.returns-clause-within
returns-clause-within c =
    omega (arith, c.unwrap_or.ensures ∙ front_length _ (λ b. not (is_feed b)) (byte_found 10) c.args.value.now _ c.find_byte.ensures, prefix_len-le-length (λ b. not (is_feed b)) c.args.value.now)
