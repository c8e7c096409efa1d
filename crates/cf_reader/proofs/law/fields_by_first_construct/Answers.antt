use Rattle.std.proofs.Common.{refl}
use Rattle.cf_reader.proofs.FieldLemmas.{cut_byte, cut_escaped, cut_quoted, cut_unclosed, cut_unclosed_backslash, plain_byte, plain_quote}
use Rattle.cf_reader.proofs.law.fields_by_first_construct.Goals as goal

pub returns-clause-end : goal.returns-clause-end
returns-clause-end c = λ piece. refl

pub returns-clause-comma : goal.returns-clause-comma
returns-clause-comma c = λ piece text. refl

pub returns-clause-byte : goal.returns-clause-byte
returns-clause-byte c = cut_byte

pub returns-clause-escaped : goal.returns-clause-escaped
returns-clause-escaped c = cut_escaped

pub returns-clause-quoted : goal.returns-clause-quoted
returns-clause-quoted c = cut_quoted

pub returns-clause-unclosed : goal.returns-clause-unclosed
returns-clause-unclosed c = cut_unclosed

pub returns-clause-unclosed_backslash : goal.returns-clause-unclosed_backslash
returns-clause-unclosed_backslash c = cut_unclosed_backslash

pub returns-clause-last_backslash : goal.returns-clause-last_backslash
returns-clause-last_backslash c = λ piece. refl

pub returns-clause-says_nothing : goal.returns-clause-says_nothing
returns-clause-says_nothing c = refl

pub returns-clause-says_byte : goal.returns-clause-says_byte
returns-clause-says_byte c = plain_byte

pub returns-clause-says_escaped : goal.returns-clause-says_escaped
returns-clause-says_escaped c = λ b text. refl

pub returns-clause-says_quote : goal.returns-clause-says_quote
returns-clause-says_quote c = plain_quote

pub returns-clause-says_last : goal.returns-clause-says_last
returns-clause-says_last c = refl
