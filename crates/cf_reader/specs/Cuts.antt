-- A text cut in two at a byte (our own).
use Rattle.std.specs.Prelude.{◌≡◌, ◌==◌, ◌+◌, ℕ, List, [], take, drop, position, Option, None, Some, codes, refl}

-- a text cut at a place, without the byte there
abbrev pub cut_by : List ℕ → Option ℕ → Option (List ℕ × List ℕ)
cut_by text None = None
cut_by text (Some place) = Some (take place text, drop (place + 1) text)

-- what stands before the first such byte and what stands behind it, where there is one
abbrev pub cut_at : ℕ → List ℕ → Option (List ℕ × List ℕ)
cut_at byte text = cut_by text (position (λ b. b == byte) text)

example : (cut_at 61 (codes "a=b=c") ≡ Some (codes "a", codes "b=c"))
    × (cut_at 61 (codes "a=") ≡ Some (codes "a", [])) × (cut_at 61 (codes "a") ≡ None)
example = (refl, refl, refl)
