use Rattle.std.proofs.Common.{◌≡◌, ◌∙◌, ◌++◌, ◌-◌, sym, ap, subst, map, take, length, arith}
use Rattle.told_devices.specs.Lines.{IsLine, shown, with_text}
use Rattle.told_devices.proofs.LineLemmas.{put_line}
use Rattle.told_devices.proofs.line.Line.put.Goals as goal

pub invariant_of-self : goal.invariant_of-self
invariant_of-self c =
    let cut : c.first_bytes.result.now ≡ take (1023 - length c.self.inside.bytes.items) c.args.text.now = grind (arith, c.first_bytes.ensures.bytes, c.len-room.ensures.value) in
    let e : c.add.new.line.items ≡ with_text c.self.inside.bytes.items c.args.text.now = c.add.ensures ∙ ap (λ xs. c.self.inside.bytes.items ++ map shown xs) cut in
    subst IsLine (sym e) (put_line c.self.inside.bytes.items c.args.text.now c.self.invariant)
