use Rattle.std.proofs.Common.{◌≡◌}
use Rattle.mail_base.specs.Classes.{with_members}
use Rattle.mail_base.specs.inner.Phrases.{HasPhrases, Keeps}
use Rattle.mail_base.proofs.class.put_all.Given as goal

abbrev pub invariant-loop-member : goal.invariant-loop-member
invariant-loop-member l = record {
  members_stay : Keeps l.fn.members.keys l.members.keys;
  phrases_stay : Keeps l.fn.phrases.keys l.phrases.keys;
  gained : l.members.keys ≡ with_members l.fn.members.keys l.yielded;
  indexed : HasPhrases l.fn.phrases.keys l.fn.members.keys → HasPhrases l.phrases.keys l.members.keys;
}
