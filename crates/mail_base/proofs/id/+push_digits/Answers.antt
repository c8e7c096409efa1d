use Rattle.std.proofs.Common.{◌≡◌, ◌+◌, ◌-◌, ◌<◌, ◌++◌, ◌∷◌, [], ap, arith, ◌∙◌, sym, length, length-append, append_assoc, ◌%◌, ◌/◌, lit<, ℕ, List}
use Rattle.std.proofs.lemmas.List.{append-nil}
use Rattle.mail_base.specs.Names.{digits}
use Rattle.mail_base.proofs.Digits.{digits_none, digits_step, length-digits}
use Rattle.mail_base.proofs.id.+push_digits.Goals as goal

pub push-requires : goal.push-requires
push-requires t c =
    let e = simp (length-append, length-digits) at (ap length c.push_digits.ensures) in
    let s : length c.push_digits.new.out.items < 15 = omega (arith, e) in
    (lit< tt, s)

pub returns-then-count-gt0 : goal.returns-then-count-gt0
returns-then-count-gt0 t c =
    let l : 0 < c.args.count = omega arith in
    let d = digits_step c.args.count c.args.number l in
    c.push.ensures.items ∙ ap (λ (xs : List ℕ). xs ++ (48 + c.args.number % 10) ∷ []) c.push_digits.ensures ∙ append_assoc c.args.out.now.items (digits (c.args.count - 1) (c.args.number / 10)) ((48 + c.args.number % 10) ∷ []) ∙ ap (λ (xs : List ℕ). c.args.out.now.items ++ xs) (sym d)

pub returns-else-count-gt0 : goal.returns-else-count-gt0
returns-else-count-gt0 t c =
    let z : c.args.count ≡ 0 = omega arith in
    let d = digits_none c.args.count c.args.number z in
    rw d (sym (append-nil c.args.out.now.items))
