use Rattle.std.proofs.Common.{sym, ◌∙◌, ap}
use Rattle.std.specs.Option.{option_copied_mut}
use Rattle.indexmap.proofs.CallerLemmas.{updates-with_value_at}
use Rattle.mail_base.specs.inner.TokenLaws.{same_equiv}
use Rattle.mail_base.proofs.BucketLemmas.{put_ok, put_err}
use Rattle.mail_base.proofs.buckets.put.Goals as goal

pub returns-in-Some-clause-ok : goal.returns-in-Some-clause-ok
returns-in-Some-clause-ok c =
    put_ok c.push-in-Some.result c.args.bucket c.in-Some.place c.args.one c.args.anchored.now.entries c.args.free.now c.unwrap.result.now c.push-in-Some.new.self c.in-Some.is
    (sym c.get_index_mut.ensures.value ∙ ap option_copied_mut c.unwrap.ensures) c.get_index_mut.ensures.unique
    (λ key at. (updates-with_value_at c.args.anchored.now c.in-Some.place c.push-in-Some.new.self same_equiv c.get_index_mut.ensures.unique key c.unwrap.result.now at).0)
    c.push-in-Some.ensures.ok

pub returns-in-Some-clause-err : goal.returns-in-Some-clause-err
returns-in-Some-clause-err c =
    put_err c.push-in-Some.result c.in-Some.place c.args.anchored.now.entries c.args.free.now c.unwrap.result.now c.push-in-Some.new.self
    (sym c.get_index_mut.ensures.value ∙ ap option_copied_mut c.unwrap.ensures) c.push-in-Some.ensures.err
