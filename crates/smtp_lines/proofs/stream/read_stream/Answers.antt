use Rattle.std.proofs.Common.{◌++◌, List, ℕ, take, sym, ap, subst, ◌∙◌}
use Rattle.std.specs.List.{concat}
use Rattle.std.proofs.lemmas.List.{take_all}
use Rattle.smtp_lines.specs.Stream.{reading_of}
use Rattle.smtp_lines.specs.inner.Courses.{ReadSoFar}
use Rattle.smtp_lines.proofs.ReadingLemmas.{stands-reading}
use Rattle.smtp_lines.proofs.RunLemmas.{concat-more}
use Rattle.smtp_lines.proofs.stream.read_stream.Goals as goal

pub loop-piece-preserved : goal.loop-piece-preserved
loop-piece-preserved c =
    let grants = c.args.grants.now in
    let pieces = c.args.pieces.now in
    let i = c.loop-piece.piece-index in
    let so = c.loop-piece.invariant in
    let P : List ℕ → Type 0 = λ b. ReadSoFar grants c.in_ok-rest.rest.now c.read_piece.new.reader c.read_piece.new.lines.items b in
    subst P (ap (λ x. concat (take i pieces) ++ x) c.bytes.ensures ∙ sym (concat-more pieces i c.piece-item.result c.loop-piece-test.true c.piece-item.is))
    (c.in_ok-rest.ensures grants (concat (take i pieces)) so)

pub returns : goal.returns
returns c =
    let pieces = c.args.pieces.now in
    let so = c.loop-piece.invariant in
    let whole = ap concat (take_all c.loop-piece.piece-index pieces c.loop-piece-test.false) in
    c.from_vec.ensures ∙ sym so.lines_are
    ∙ sym (ap (λ b. (reading_of b c.args.grants.now).lines) (sym whole ∙ sym so.bytes_are) ∙ stands-reading c.loop-piece.reader so.stream c.args.grants.now c.loop-piece.rest.now so.stands so.all so.follows)
