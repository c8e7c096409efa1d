use Rattle.std.specs.Prelude.{[], ◌∷◌}
use Rattle.cf_macros.specs.declared.scope.Scope.TheVariants.{Rule}
use Rattle.cf_macros.specs.Written.{Bare, Braced, name_of, name_spelling, Byte, Doubled, Macro, Late, Alone, Ends}
use Rattle.cf_macros.proofs.WrittenLemmas.{short_text, long_text}
use Rattle.cf_macros.proofs.ValueLemmas.{simple_front, gives_bytes, refers_to, chooses, plain_value}
use Rattle.cf_macros.proofs.law.rule_values_by_first_construct.Goals as goal

pub returns-clause-dollar : goal.returns-clause-dollar
returns-clause-dollar c = λ macros text given e. gives_bytes Rule macros (36 ∷ 36 ∷ []) _ text given (simple_front Rule Doubled tt text) e

pub returns-clause-byte : goal.returns-clause-byte
returns-clause-byte c = λ macros byte text given is e. gives_bytes Rule macros (byte ∷ []) _ text given (simple_front Rule (Byte byte) is text) e

pub returns-clause-alone : goal.returns-clause-alone
returns-clause-alone c = λ macros byte text given is e. gives_bytes Rule macros (36 ∷ byte ∷ []) _ text given (simple_front Rule (Alone byte) is text) e

pub returns-clause-name : goal.returns-clause-name
returns-clause-name c = λ macros byte text given is e. refers_to Rule macros (byte ∷ []) _ text given (simple_front Rule (Macro (Bare byte)) is text) e

pub returns-clause-word : goal.returns-clause-word
returns-clause-word c = λ macros word text given is e. refers_to Rule macros word _ text given (simple_front Rule (Macro (Braced word)) is text) e

pub returns-clause-late : goal.returns-clause-late
returns-clause-late c = λ macros name text given is e. gives_bytes Rule macros (36 ∷ 38 ∷ name_spelling name) _ text given (simple_front Rule (Late name) is text) e

pub returns-clause-short : goal.returns-clause-short
returns-clause-short c = λ macros name shown text given test is_name is e t. chooses Rule macros (name_of name) shown Ends _ text given test is tt (short_text Rule name shown text is_name is 0) e t

pub returns-clause-long : goal.returns-clause-long
returns-clause-long c = λ macros name shown other text given test is_name is is_other e t. chooses Rule macros (name_of name) shown other _ text given test is is_other (long_text Rule name shown other text is_name is is_other 0) e t

pub returns-clause-plain : goal.returns-clause-plain
returns-clause-plain c = λ macros text all fits. plain_value Rule macros text all fits
