-- The tokens before a sign, as the code cuts them off.
use Rattle.std.proofs.Common.{◌≡◌, ◌-◌, ◌≤◌, suc, List, [], ◌∷◌, Bool, true, false, length, take, refl, ◌∙◌, ap, arith}
use Rattle.std.proofs.lemmas.Bool.{cond_both}
use Rattle.std.specs.Prelude.{if◌then◌else◌}
use Rattle.mail_base.specs.declared.token.Token.{Token}
use Rattle.addr_route.specs.Aims.{is_end, before_end, from_end}

from_short : (hosts : Bool) (tokens : List Token) → length (from_end hosts tokens) ≤ length tokens
from_short hosts [] = omega arith
from_short hosts (t ∷ ts) = let short = from_short hosts ts in cond_both (is_end hosts t) (t ∷ ts) (from_end hosts ts) (λ (r : List Token). length r ≤ length (t ∷ ts)) (λ _. omega arith) (λ _. omega arith)

step : (t : Token) (ts front rest : List Token) (b : Bool) → length rest ≤ length ts → take (length ts - length rest) ts ≡ front → take (length (t ∷ ts) - length (if b then t ∷ ts else rest)) (t ∷ ts) ≡ (if b then [] else t ∷ front)
step t ts front rest true short same = let z : length (t ∷ ts) - length (t ∷ ts) ≡ 0 = omega arith in ap (λ n. take n (t ∷ ts)) z
step t ts front rest false short same = let z : length (t ∷ ts) - length rest ≡ suc (length ts - length rest) = omega arith in ap (λ n. take n (t ∷ ts)) z ∙ ap (λ xs. t ∷ xs) same

-- tokens without their end, taken by its length, are those before the end
pub before_is : (hosts : Bool) (tokens : List Token) → take (length tokens - length (from_end hosts tokens)) tokens ≡ before_end hosts tokens
before_is hosts [] = refl
before_is hosts (t ∷ ts) = step t ts (before_end hosts ts) (from_end hosts ts) (is_end hosts t) (from_short hosts ts) (before_is hosts ts)
