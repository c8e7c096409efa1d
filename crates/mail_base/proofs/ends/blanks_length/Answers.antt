use Rattle.std.proofs.Common.{◌∙◌, arith}
use Rattle.std.proofs.lemmas.List.Sums.{prefix_len-le-length}
use Rattle.mail_base.specs.Texts.{is_blank}
use Rattle.mail_base.proofs.SearchLemmas.{front_length, solid_found}
use Rattle.mail_base.proofs.ends.blanks_length.Goals as goal

pub returns-clause-length : goal.returns-clause-length
returns-clause-length c = c.unwrap_or.ensures ∙ front_length _ is_blank solid_found c.args.text.now _ c.find_not_byteset.ensures

pub returns-clause-within : goal.returns-clause-within
returns-clause-within c =
    omega (arith, c.unwrap_or.ensures ∙ front_length _ is_blank solid_found c.args.text.now _ c.find_not_byteset.ensures, prefix_len-le-length is_blank c.args.text.now)
