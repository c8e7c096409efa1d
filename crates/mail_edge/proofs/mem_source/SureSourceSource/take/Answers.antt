-- What stands in the buffer, and then what stands behind it in the bytes, is what was left.
use Rattle.std.proofs.Common.{◌≡◌, ℕ, ◌+◌, ◌-◌, List, ◌++◌, length, take, drop, sym, ◌∙◌, ap, arith, length-drop}
use Rattle.std.proofs.lemmas.List.{take_all}
use Rattle.std.proofs.lemmas.List.Folds.{drop_split}
use Rattle.mail_edge.proofs.mem_source.SureSourceSource.take.Goals as goal

-- a buffer that begins with the bytes from a place on has what stands before the next place
taken_at : (bytes buf : List ℕ) (at count : ℕ) → take count buf ≡ take count (take (length bytes - at) (drop at bytes)) → drop at bytes ≡ take count buf ++ drop (at + count) bytes
taken_at bytes buf at count h =
    let all = take_all (length bytes - at) (drop at bytes) (omega (arith, length-drop at bytes)) in
    let back : at + count - at ≡ count = omega arith in
    drop_split bytes at (at + count) (omega arith) ∙ ap (λ q. q ++ drop (at + count) bytes) (ap (λ n. take n (drop at bytes)) back ∙ sym (h ∙ ap (take count) all))

pub returns-clause-taken : goal.returns-clause-taken
returns-clause-taken c =
    let at = c.self.inside.at in
    let count = c.copy_front-count.result in
    let buf = c.copy_front-count.new.to in
    let split = taken_at c.bytes.result.now buf at count c.copy_front-count.ensures.front in
    sym c.self.view_is ∙ ap (drop at) (sym c.bytes.ensures) ∙ split ∙ ap (λ q. take count buf ++ drop (at + count) q) c.bytes.ensures
