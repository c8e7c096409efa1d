-- What a gathering gives, by the grammar of headers.
use Rattle.std.proofs.Common.{◌≡◌, ℕ, false, List, sym, ap, subst, ◌∙◌}
use Rattle.mail_base.specs.Limits.{most_headers}
use Rattle.mail_base.specs.declared.message.Split.{Split}
use Rattle.mail_header.specs.Headers.{text_of, IsSplit, AreLines}
use Rattle.mail_header.specs.declared.gathered.Gathered.{Gathered}
use Rattle.mail_header.specs.Gatherings.{Gathers, is_above, unless}
use Rattle.mail_header.specs.Lines.{headers_of, body_of, block_of, size_of}
use Rattle.mail_header.proofs.SplitLemmas.{exact_size, same_above}
use Rattle.mail_header.proofs.GrammarLemmas.{split_of_lines, one_split}

-- what is gathered of lines within the limits is the split of their text
pub split_is : (g : Gathered) (limit : ℕ) (lines : List (List ℕ)) → Gathers g limit lines → AreLines lines → is_above limit g.size ≡ false → is_above most_headers g.block ≡ false
    → IsSplit (text_of lines) (record { headers = g.headers; body = g.body; block = g.block })
split_is g limit lines gathers are small block =
    let keeps = gathers.split small in
    let headers : g.headers ≡ headers_of lines = keeps.headers ∙ ap (λ b. unless b (headers_of lines)) block in
    let size : g.block ≡ size_of (block_of false lines) = keeps.block ∙ exact_size most_headers (size_of (block_of false lines)) (ap (is_above most_headers) (sym keeps.block) ∙ block) in
    subst (IsSplit (text_of lines)) (λ i. record { headers = sym headers i; body = sym keeps.body i; block = sym size i }) (split_of_lines lines are)

-- headers are told as too large if those of the split are
pub block_large : (g : Gathered) (limit : ℕ) (lines : List (List ℕ)) (split : Split) → Gathers g limit lines → AreLines lines → IsSplit (text_of lines) split → is_above limit g.size ≡ false
    → is_above most_headers g.block ≡ is_above most_headers split.block
block_large g limit lines split gathers are is small =
    let keeps = gathers.split small in
    let same = one_split (text_of lines) (record { headers = headers_of lines; body = body_of lines; block = size_of (block_of false lines) }) split (split_of_lines lines are) is in
    ap (is_above most_headers) keeps.block ∙ same_above most_headers (size_of (block_of false lines)) ∙ ap (λ s. is_above most_headers s.block) same
