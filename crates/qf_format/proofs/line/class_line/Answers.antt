use Rattle.std.proofs.Common.{◌++◌}
use Rattle.std.specs.Prelude.{FitsSigned}
use Rattle.std.specs.Int.{w64}
use Rattle.std.specs.Fmt.{signed_decimal}
use Rattle.std.proofs.lemmas.Result.{err_from_is_err_and}
use Rattle.std.proofs.lemmas.Int.{to_z-of_z}
use Rattle.mail_base.specs.Texts.{IsLine}
use Rattle.qf_format.specs.inner.Reading.{Anything}
use Rattle.qf_format.specs.Spelling.{line}
use Rattle.qf_format.proofs.ReadLemmas.{within, none_within}
use Rattle.qf_format.proofs.TextLemmas.{class_line, stops_within}
use Rattle.qf_format.proofs.line.class_line.Goals as goal

pub returns-in_err-text : goal.returns-in_err-text
returns-in_err-text c =
    let p = err_from_is_err_and c.from_residual.result c.from_residual.ensures.1 in
    rw (p.1, p.2) (stops_within (λ text. line (c.args.tag.now ++ text)) signed_decimal (FitsSigned w64) class_line c.args.bytes.now c.in_err-text.field-0.0 c.in_err-text.ensures)

pub returns-in-Some : goal.returns-in-Some
returns-in-Some c = rw (to_z-of_z w64 c.in-Some.number c.in-Some.ensures.is_formed) (within (λ text. line (c.args.tag.now ++ text)) IsLine Anything signed_decimal (FitsSigned w64) class_line c.args.bytes.now c.in_ok-text.text.now c.in_ok-text.rest.now c.in-Some.number c.in_ok-text.ensures c.in-Some.ensures)

pub returns-in-None : goal.returns-in-None
returns-in-None c = none_within (λ text. line (c.args.tag.now ++ text)) IsLine Anything signed_decimal (FitsSigned w64) class_line c.args.bytes.now c.in_ok-text.text.now c.in_ok-text.rest.now c.in_ok-text.ensures c.in-None.ensures
