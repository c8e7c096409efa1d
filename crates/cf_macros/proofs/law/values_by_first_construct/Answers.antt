use Rattle.std.specs.Prelude.{[], ◌∷◌}
use Rattle.cf_macros.specs.declared.scope.Scope.TheVariants.{Outside}
use Rattle.cf_macros.specs.Written.{Bare, Braced, name_of, Byte, Doubled, Macro, Late, Alone, Ends}
use Rattle.cf_macros.proofs.WrittenLemmas.{short_text, long_text}
use Rattle.cf_macros.proofs.ValueLemmas.{simple_front, gives_bytes, refers_to, chooses, plain_value}
use Rattle.cf_macros.proofs.law.values_by_first_construct.Goals as goal

pub returns-clause-dollar : goal.returns-clause-dollar
returns-clause-dollar c = λ macros text given e. gives_bytes Outside macros (36 ∷ []) _ text given (simple_front Outside Doubled tt text) e

pub returns-clause-byte : goal.returns-clause-byte
returns-clause-byte c = λ macros byte text given is e. gives_bytes Outside macros (byte ∷ []) _ text given (simple_front Outside (Byte byte) is text) e

pub returns-clause-alone : goal.returns-clause-alone
returns-clause-alone c = λ macros byte text given is e. gives_bytes Outside macros (36 ∷ byte ∷ []) _ text given (simple_front Outside (Alone byte) is text) e

pub returns-clause-name : goal.returns-clause-name
returns-clause-name c = λ macros byte text given is e. refers_to Outside macros (byte ∷ []) _ text given (simple_front Outside (Macro (Bare byte)) is text) e

pub returns-clause-word : goal.returns-clause-word
returns-clause-word c = λ macros word text given is e. refers_to Outside macros word _ text given (simple_front Outside (Macro (Braced word)) is text) e

pub returns-clause-late : goal.returns-clause-late
returns-clause-late c = λ macros name text given is e. refers_to Outside macros (name_of name) _ text given (simple_front Outside (Late name) is text) e

pub returns-clause-short : goal.returns-clause-short
returns-clause-short c = λ macros name shown text given test is_name is e t. chooses Outside macros (name_of name) shown Ends _ text given test is tt (short_text Outside name shown text is_name is 0) e t

pub returns-clause-long : goal.returns-clause-long
returns-clause-long c = λ macros name shown other text given test is_name is is_other e t. chooses Outside macros (name_of name) shown other _ text given test is is_other (long_text Outside name shown other text is_name is is_other 0) e t

pub returns-clause-plain : goal.returns-clause-plain
returns-clause-plain c = λ macros text all fits. plain_value Outside macros text all fits
