use Rattle.std.proofs.Common.{◌∙◌, List, ap}
use Rattle.std.specs.Prelude.{drop}
use Rattle.std.proofs.lemmas.List.{take_rest}
use Rattle.mail_base.specs.Classes.{longest_from}
use Rattle.mail_base.specs.declared.class.Member.{Member}
use Rattle.mail_base.specs.inner.Phrases.{heads_from}
use Rattle.mail_base.proofs.ClassLemmas.{heads_grown, longest_grown}
use Rattle.mail_base.proofs.class.Class.extend.Goals as goal

pub invariant_of-self-2 : goal.invariant_of-self-2
invariant_of-self-2 c =
    let more = take_rest c.as_slice.result.now c.len-members.result ∙ ap (λ (members : List Member). drop c.len-members.result members) c.as_slice.ensures.keys in
    record {
      phrases = c.in_default.ensures.indexed c.self.invariant.phrases;
      longest =
          c.longest_from-self-inside.ensures ∙ ap (longest_from c.self.inside.longest) more
          ∙ longest_grown c.self.inside.members.keys c.put_all.new.members.keys c.self.inside.longest c.len-members.result c.put_all.ensures.members_stay c.len-members.ensures.len c.self.invariant.longest;
      heads =
          c.heads_from-self-inside.ensures ∙ ap (heads_from c.self.inside.heads) more
          ∙ heads_grown c.self.inside.members.keys c.put_all.new.members.keys c.self.inside.heads c.len-members.result c.put_all.ensures.members_stay c.len-members.ensures.len c.self.invariant.heads;
    }
