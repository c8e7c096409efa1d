-- What was taken so far ends no message; each exit is one lemma over it.
use Rattle.std.proofs.Common.{◌++◌, ℕ, List, take, sym, ◌∙◌, arith}
use Rattle.std.proofs.lemmas.List.{length-take-le}
use Rattle.submit_run.proofs.ReadingLemmas.{dot_here, large_here, taken_more, went_on}
use Rattle.submit_run.proofs.reading.read_all.Goals as goal

pub returns-in-Err-TooLarge-clause-reads : goal.returns-in-Err-TooLarge-clause-reads
returns-in-Err-TooLarge-clause-reads g c =
    let u = c.pieces.invariant in
    let piece : List ℕ = take c.in-Ok.count c.take.new.buf in
    large_here c.args.dot c.args.most (g.I.Source.seen c.args.input.now) (g.I.Source.seen c.pieces.input) (g.I.Source.seen c.take.new.self) c.pieces.lines c.pieces.total u piece c.in-Ok.ensures.taken
    (c.in-Err-TooLarge.ensures.large c.args.dot u.taken u.holds c.in-Err-TooLarge.field-0-is)

pub returns-in-Err-NoMemory-clause-reads : goal.returns-in-Err-NoMemory-clause-reads
returns-in-Err-NoMemory-clause-reads g c =
    let u = c.pieces.invariant in
    let piece : List ℕ = take c.in-Ok.count c.take.new.buf in
    (u.taken ++ piece, taken_more c.args.dot c.args.most (g.I.Source.seen c.args.input.now) (g.I.Source.seen c.pieces.input) (g.I.Source.seen c.take.new.self) c.pieces.lines c.pieces.total u piece c.in-Ok.ensures.taken)

pub returns-then-ended-clause-reads : goal.returns-then-ended-clause-reads
returns-then-ended-clause-reads g c =
    let u = c.pieces.invariant in
    let piece : List ℕ = take c.in-Ok.count c.take.new.buf in
    dot_here c.args.dot c.args.most (g.I.Source.seen c.args.input.now) (g.I.Source.seen c.pieces.input) (g.I.Source.seen c.take.new.self) c.pieces.lines c.pieces.total u piece c.whole-then-ended.result c.in-Ok.ensures.taken
    (sym (c.in-Ok-feed.ensures.ended c.args.dot u.taken u.holds) ∙ c.if-ended.true)
    (c.whole-then-ended.ensures c.args.dot (u.taken ++ piece) (c.in-Ok-feed.ensures.ok c.args.dot u.taken u.holds))

pub overflow_add-total : goal.overflow_add-total
overflow_add-total g c =
    let few = c.pieces.invariant.few in
    let most = c.requires.most in
    let fits = c.pieces.auto.buffer in record { fits = omega (arith, few, most, fits, c.in-Ok.ensures.bound) }

pub pieces-preserved : goal.pieces-preserved
pieces-preserved g c =
    let u = c.pieces.invariant in
    let piece : List ℕ = take c.in-Ok.count c.take.new.buf in
    went_on c.args.dot c.args.most (g.I.Source.seen c.args.input.now) (g.I.Source.seen c.pieces.input) (g.I.Source.seen c.take.new.self) c.pieces.lines c.pieces.total u c.feed.new.self piece c.in-Ok.count
    (length-take-le c.in-Ok.count c.take.new.buf c.in-Ok.ensures.bound) c.in-Ok.ensures.taken c.in-Ok.ensures.calm (c.in-Ok-feed.ensures.ok c.args.dot u.taken u.holds)
    (sym (c.in-Ok-feed.ensures.ended c.args.dot u.taken u.holds) ∙ c.if-ended.false) c.in-Ok-feed.ensures.small
