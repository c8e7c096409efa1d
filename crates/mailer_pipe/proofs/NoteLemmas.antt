-- A number is within one line.
use Rattle.std.proofs.Common.{ℕ, ℤ, pos, negsuc, suc, ◌+◌, ◌<◌, ◌≤◌, ◌^◌, ◌%◌, [], ◌∷◌, length, codes, FitsSigned, w32, arith}
use Rattle.std.specs.Prelude.{All}
use Rattle.std.specs.Fmt.{decimal, signed_decimal}
use Rattle.std.proofs.lemmas.Fmt.{decimal_by_steps}
use Rattle.std.proofs.lemmas.List.{length-append}
use Rattle.std.proofs.lemmas.List.Elements.{All-nil, All-cons, All-append}
use Rattle.mail_base.specs.Notes.{IsLineByte, IsNote}
use Rattle.mailer_pipe.specs.Ends.{note_of}

digit : (d : ℕ) → IsLineByte (48 + d)
digit d = (λ e. omega (arith, e), λ e. omega (arith, e))

line_digits : (n : ℕ) → n < 2 ^ 64 → All IsLineByte (decimal n)
line_digits n low = decimal_by_steps (λ _ ds. All IsLineByte ds)
    (λ d h. All-cons IsLineByte (48 + d) [] (digit d) (All-nil IsLineByte))
    (λ m ds h all. All-append IsLineByte ds ((48 + m % 10) ∷ []) all (All-cons IsLineByte (48 + m % 10) [] (digit (m % 10)) (All-nil IsLineByte))) n low

line_number : (z : ℤ) → FitsSigned w32 z → All IsLineByte (signed_decimal z)
line_number (pos n) f = let low : n < 2 ^ 31 = f.sfits in line_digits n (omega arith)
line_number (negsuc n) f = let low : n < 2 ^ 31 = f.sfits in All-cons IsLineByte 45 (decimal (suc n)) (λ e. omega (arith, e), λ e. omega (arith, e)) (line_digits (suc n) (omega arith))

exit_line : All IsLineByte (codes "exit ")
exit_line =
    All-cons IsLineByte 101 (120 ∷ 105 ∷ 116 ∷ 32 ∷ []) (λ e. omega (arith, e), λ e. omega (arith, e))
    (All-cons IsLineByte 120 (105 ∷ 116 ∷ 32 ∷ []) (λ e. omega (arith, e), λ e. omega (arith, e))
    (All-cons IsLineByte 105 (116 ∷ 32 ∷ []) (λ e. omega (arith, e), λ e. omega (arith, e))
    (All-cons IsLineByte 116 (32 ∷ []) (λ e. omega (arith, e), λ e. omega (arith, e))
    (All-cons IsLineByte 32 [] (λ e. omega (arith, e), λ e. omega (arith, e))
    (All-nil IsLineByte)))))

-- the note of an exit is one
pub exit_note : (status : ℤ) → FitsSigned w32 status → length (signed_decimal status) ≤ 40 → IsNote (note_of status)
exit_note status fits short =
    let size = length-append (codes "exit ") (signed_decimal status) in record {
      some = omega (arith, size);
      short = omega (arith, size, short);
      line = All-append IsLineByte (codes "exit ") (signed_decimal status) exit_line (line_number status fits);
    }
