use Rattle.addr_test.proofs.PrintingLemmas.{one_printed}
use Rattle.addr_test.proofs.law.one_text.Goals as goal

pub returns-clause-text : goal.returns-clause-text
returns-clause-text c = λ maps config lines one another last later e f.
    (one_printed (λ m k line a b x y p q. (c.one_answer.ensures.reply m k line a b x y p q, c.one_answer.ensures.config m k line a b x y p q)) maps lines config one another last later e f).0

pub returns-clause-config : goal.returns-clause-config
returns-clause-config c = λ maps config lines one another last later e f.
    (one_printed (λ m k line a b x y p q. (c.one_answer.ensures.reply m k line a b x y p q, c.one_answer.ensures.config m k line a b x y p q)) maps lines config one another last later e f).1
