use Rattle.std.proofs.Common.{[], ◌∷◌, map, refl, arith}
use Rattle.std.proofs.lemmas.List.{length-map}
use Rattle.addr_tokens.proofs.GatherLemmas.{most, too_many, still_short}
use Rattle.addr_tokens.proofs.gathering.Gathering.add.Goals as goal

pub returns-then-len-ge-MOST_TOKENS : goal.returns-then-len-ge-MOST_TOKENS
returns-then-len-ge-MOST_TOKENS g c = λ dollars serves suits more.
    too_many c.args.self.now.is_long (map g.T.Given.seen c.args.self.now.given) _ more (omega (arith, most, length-map c.args.self.now.given g.T.Given.seen))
    (c.gives_nothing.ensures.one c.if-gives_nothing.false dollars c.args.text.now)

pub invariant_of-self-2 : goal.invariant_of-self-2
invariant_of-self-2 g c = record { short = still_short c.push.result c.args.self.now.given (c.in-Some.given ∷ []) c.push.new.self c.push.ensures.ok c.push.ensures.err (omega (arith, most)) refl }
