use Rattle.spool_store.proofs.Raising as lemmas
use Rattle.spool_store.proofs.queue_law.raised_alike.Goals as goal

pub returns-clause-strange : goal.returns-clause-strange
returns-clause-strange c = lemmas.raised_strange

pub returns-clause-strange_back : goal.returns-clause-strange_back
returns-clause-strange_back c = lemmas.raised_strange_back

pub returns-clause-live : goal.returns-clause-live
returns-clause-live c = lemmas.raised_live

pub returns-clause-others : goal.returns-clause-others
returns-clause-others c = lemmas.others_live

pub returns-clause-back : goal.returns-clause-back
returns-clause-back c = lemmas.others_live_back
