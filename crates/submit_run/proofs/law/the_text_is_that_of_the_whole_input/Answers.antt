use Rattle.submit_run.proofs.WholeLemmas.{large_whole, text_whole, within_whole}
use Rattle.submit_run.proofs.law.the_text_is_that_of_the_whole_input.Goals as goal

pub returns-clause-text : goal.returns-clause-text
returns-clause-text c = λ dot most before after bytes text told is. text_whole dot most before after bytes text told is

pub returns-clause-within : goal.returns-clause-within
returns-clause-within c = λ dot most before after bytes text told is. within_whole dot most before after bytes text told is

pub returns-clause-large : goal.returns-clause-large
returns-clause-large c = λ dot most before after bytes told is. large_whole dot most before after bytes told is
