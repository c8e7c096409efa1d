use Rattle.std.proofs.Common.{◌≡◌, true, false, subst, refl}
use Rattle.std.specs.Str.Parse.{ParsesUnsigned}
use Rattle.qf_format.proofs.Numbers.{reads_number, no_plain, no_text}
use Rattle.qf_format.proofs.number.number_of.Goals as goal

pub returns-then-not-is_plain : goal.returns-then-not-is_plain
returns-then-not-is_plain c = no_plain c.args.bytes.now (λ p. let t : false ≡ true = c.if-not-is_plain.ensures.1 p in absurd cc)

pub returns-in-Ok : goal.returns-in-Ok
returns-in-Ok c =
    let parsed = subst (λ t. ParsesUnsigned 128 10 t c.parse.result) c.in-Ok.ensures.cases.0 c.parse.ensures.value.0 in
    rw c.ok.ensures.value (reads_number c.args.bytes.now c.parse.result (c.if-not-is_plain.ensures.0 refl) parsed)

pub returns-in-Err : goal.returns-in-Err
returns-in-Err c = no_text c.args.bytes.now c.in-Err.ensures.cases.0
