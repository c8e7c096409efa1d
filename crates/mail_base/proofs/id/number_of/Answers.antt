use Rattle.std.proofs.Common.{◌≡◌, length, ◌+◌, ◌-◌, ◌<◌, ap, arith, ◌∙◌, ◌++◌, ◌∷◌, [], refl, sym, add-one, slice_index_or}
use Rattle.std.proofs.Math.Nat.{pow-suc}
use Rattle.std.proofs.lemmas.List.{take_more}
use Rattle.mail_base.specs.Names.{digits}
use Rattle.mail_base.proofs.Digits.{digits_none, digits_more, length-digits, in_digits}
use Rattle.mail_base.proofs.id.number_of.Goals as goal
use Rattle.mail_base.proofs.id.number_of.Goals.{then-byte-lt48-via-then-byte-lt48, then-byte-lt48-via-else-byte-lt48+then-byte-gt57}

pub returns-then-bytes-ne12-clause-none : goal.returns-then-bytes-ne12-clause-none
returns-then-bytes-ne12-clause-none c = λ n e. c.if-bytes-ne12.true (ap length e ∙ length-digits 12 n)

pub loop-byte-init : goal.loop-byte-init
loop-byte-init c = (omega arith, sym (digits_none 0 0 refl))

pub returns-then-byte-lt48-clause-none : goal.returns-then-byte-lt48-clause-none
returns-then-byte-lt48-clause-none c = λ n e.
    let l : c.loop-byte.byte-index < 12 = omega arith in
    let d = in_digits c.args.bytes.now c.loop-byte.byte-index n e l in
    elim c.then-byte-lt48.branch [ then-byte-lt48-via-then-byte-lt48 w ↦ omega arith | then-byte-lt48-via-else-byte-lt48+then-byte-gt57 w ↦ omega arith ]

pub loop-byte-preserved : goal.loop-byte-preserved
loop-byte-preserved c =
    let i = c.loop-byte.byte-index in
    let n = c.loop-byte.number in
    let b = slice_index_or c.args.bytes.now i 0 in
    let d : b - 48 < 10 = omega arith in
    let l : i < length c.args.bytes.now = omega arith in
    let back : 48 + (b - 48) ≡ b = omega arith in
    let p = pow-suc 10 i in (
      rw (add-one, p) (omega arith),
      take_more c.args.bytes.now i 0 l ∙ ap (λ xs. xs ++ b ∷ []) c.loop-byte.invariant.1 ∙ ap (λ x. digits i n ++ x ∷ []) (sym back) ∙ sym (digits_more i n (b - 48) d),
    )
