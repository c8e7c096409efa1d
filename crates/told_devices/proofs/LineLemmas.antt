-- What is put into a line leaves it one.
use Rattle.std.proofs.Common.{ℕ, ◌-◌, List, [], ◌∷◌, All, map, take, length, arith, length-take}
use Rattle.std.proofs.lemmas.List.{length-map, length-append}
use Rattle.std.proofs.lemmas.List.Elements.{All-nil, All-cons, All-append}
use Rattle.told_devices.specs.Lines.{IsLine, IsShown, shown, with_text}

shown_plain : (b : ℕ) → IsShown (shown b)
shown_plain b = grind arith

shown_all : (xs : List ℕ) → All IsShown (map shown xs)
shown_all [] = All-nil IsShown
shown_all (x ∷ xs) = All-cons IsShown (shown x) (map shown xs) (shown_plain x) (shown_all xs)

-- a text of which as much is put as there is room for
pub put_line : (line text : List ℕ) → IsLine line → IsLine (with_text line text)
put_line line text h =
    let cut = take (1023 - length line) text in record {
      short = omega (arith, h.short, length-append line (map shown cut), length-map cut shown, length-take (1023 - length line) text);
      plain = All-append IsShown line (map shown cut) h.plain (shown_all cut);
    }
