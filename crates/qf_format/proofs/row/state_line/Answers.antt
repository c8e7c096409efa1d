use Rattle.std.proofs.Common.{◌++◌}
use Rattle.std.specs.Prelude.{codes}
use Rattle.std.proofs.lemmas.Result.{err_from_is_err_and}
use Rattle.mail_base.specs.Texts.{IsLine}
use Rattle.qf_format.specs.inner.Reading.{Anything}
use Rattle.qf_format.specs.Spelling.{line, state_text}
use Rattle.qf_format.specs.Valid.{IsState}
use Rattle.qf_format.proofs.ReadLemmas.{within, none_within}
use Rattle.qf_format.proofs.TextLemmas.{state_is_line, stops_within}
use Rattle.qf_format.proofs.row.state_line.Goals as goal

pub returns-in_err-text : goal.returns-in_err-text
returns-in_err-text c =
    let p = err_from_is_err_and c.from_residual.result c.from_residual.ensures.1 in
    rw (p.1, p.2) (stops_within (λ text. line (codes "e" ++ text)) state_text IsState state_is_line c.args.bytes.now c.in_err-text.field-0.0 c.in_err-text.ensures)

pub returns-in-Some : goal.returns-in-Some
returns-in-Some c = within (λ text. line (codes "e" ++ text)) IsLine Anything state_text IsState state_is_line c.args.bytes.now c.in_ok-text.text.now c.in_ok-text.rest.now c.in-Some.state c.in_ok-text.ensures c.in-Some.ensures

pub returns-in-None : goal.returns-in-None
returns-in-None c = none_within (λ text. line (codes "e" ++ text)) IsLine Anything state_text IsState state_is_line c.args.bytes.now c.in_ok-text.text.now c.in_ok-text.rest.now c.in_ok-text.ensures c.in-None.ensures
