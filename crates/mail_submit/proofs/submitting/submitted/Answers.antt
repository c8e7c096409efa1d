use Rattle.std.proofs.Common.{◌+◌, ◌-◌, length, refl, ap, ◌∙◌, arith}
use Rattle.mail_header.specs.Headers.{text_of}
use Rattle.mail_submit.specs.Submissions.{first_from, recipients_of}
use Rattle.mail_submit.proofs.SubmitLemmas.{block_less, kept_less, size_is}
use Rattle.mail_submit.proofs.submitting.submitted.Goals as goal

pub overflow_sub-behind : goal.overflow_sub-behind
overflow_sub-behind c = omega (arith, c.len.ensures, block_less c.args.text.now c.in_ok-split.split c.in_ok-split.ensures)

pub text_length-requires : goal.text_length-requires
text_length-requires c =
    let split = c.in_ok-split.split in
    let kept = c.items-3.ensures ∙ c.kept_headers-headers.ensures in
    omega (arith, ap (λ hs. length (text_of hs)) kept, kept_less c.args.from_headers split.headers, c.in_ok-split.ensures.block, block_less c.args.text.now split c.in_ok-split.ensures, c.len.ensures)

pub overflow_add-size : goal.overflow_add-size
overflow_add-size c =
    let split = c.in_ok-split.split in
    let kept = c.items-3.ensures ∙ c.kept_headers-headers.ensures in
    omega (arith, c.text_length.ensures, ap (λ hs. length (text_of hs)) kept, kept_less c.args.from_headers split.headers, c.in_ok-split.ensures.block, block_less c.args.text.now split c.in_ok-split.ensures, c.len.ensures)

pub returns : goal.returns
returns c =
    let split = c.in_ok-split.split in
    let is = c.in_ok-split.ensures in
    let sizes = size_is c.args.text.now split is c.kept_headers-headers.result in
    record {
      split = split;
      is = is;
      headers = c.kept_headers-headers.ensures;
      body = refl;
      size = ap (λ n. n + (c.len.result - split.block)) (c.text_length.ensures ∙ ap (λ hs. length (text_of hs)) c.items-3.ensures)
          ∙ ap (λ n. length (text_of c.kept_headers-headers.result) + (n - split.block)) c.len.ensures ∙ sizes;
      block = refl;
      recipients = c.in_ok-recipients.ensures ∙ ap (recipients_of c.args.from_headers) c.items.ensures;
      first_from = c.in_ok-first_from.ensures ∙ ap first_from c.items-2.ensures;
    }
