-- Sums that stop at the last number of 128 bits.
use Rattle.std.proofs.Common.{◌≡◌, ℕ, ◌-◌, ◌*◌, ◌^◌, min, ℤ, pos, negsuc, ◌+ℤ◌, ◌-ℤ◌, ◌*ℤ◌, ◌≤ℤ◌, ◌∙◌, ap, subst, arith, to_z, of_z}
use Rattle.std.specs.Prelude.{FitsSigned}
use Rattle.std.specs.Int.{w64, w128}
use Rattle.std.proofs.lemmas.Int.{ints, to_z-of_z}
use Rattle.queue_table.specs.Priorities.{priority_of, within_128}
use Rattle.queue_table.specs.declared.factors.Factors.{Factors}

-- what is added to a sum that stopped is added to the sum
sum_more : (z : ℤ) (m : ℕ) → negsuc (2 ^ 127 - 1) ≤ℤ z → within_128 (within_128 z +ℤ pos m) ≡ within_128 (z +ℤ pos m)
sum_more (pos n) m h = ap pos (omega arith)
sum_more (negsuc n) m h =
    let e : min n (2 ^ 127 - 1) ≡ n = omega (arith, ints, h) in
    ap (λ (k : ℕ). within_128 (negsuc k +ℤ pos m)) e

less_low : (size : ℕ) (b : ℤ) → FitsSigned w128 b → negsuc (2 ^ 127 - 1) ≤ℤ (pos size -ℤ b)
less_low size (pos n) h = omega (arith, ints, h.sfits)
less_low size (negsuc n) h = omega (arith, ints, h.sfits)

more_low : (z : ℤ) (m : ℕ) → negsuc (2 ^ 127 - 1) ≤ℤ z → negsuc (2 ^ 127 - 1) ≤ℤ (z +ℤ pos m)
more_low z m h = omega (arith, ints, h)

-- step by step a priority is what its sum is
steps_are : (f : Factors) (size rows tries : ℕ) (class first loaded all : ℤ) → FitsSigned w128 (class *ℤ pos f.class) → first ≡ within_128 (pos size -ℤ class *ℤ pos f.class) → loaded ≡ within_128 (first +ℤ pos (rows * f.recipient)) → all ≡ within_128 (loaded +ℤ pos (tries * f.retry)) → all ≡ priority_of f size class rows tries
steps_are f size rows tries class first loaded all fits e k m =
    let z = pos size -ℤ class *ℤ pos f.class in
    let low = less_low size (class *ℤ pos f.class) fits in
    let some : loaded ≡ within_128 (z +ℤ pos (rows * f.recipient)) = k ∙ ap (λ (q : ℤ). within_128 (q +ℤ pos (rows * f.recipient))) e ∙ sum_more z (rows * f.recipient) low in
    m ∙ ap (λ (q : ℤ). within_128 (q +ℤ pos (tries * f.retry))) some ∙ sum_more (z +ℤ pos (rows * f.recipient)) (tries * f.retry) (more_low z (rows * f.recipient) low)

-- the same of values that were passed on
pub steps_by : (f : Factors) (size rows many load tries tried : ℕ) (class b first loaded all : ℤ) → FitsSigned w64 class → FitsSigned w128 b → FitsSigned w128 first → FitsSigned w128 loaded → FitsSigned w128 all → FitsSigned w128 (to_z w64 (of_z w64 class) *ℤ pos f.class) → b ≡ to_z w64 (of_z w64 class) *ℤ pos f.class → first ≡ within_128 (pos size -ℤ to_z w128 (of_z w128 b)) → many ≡ rows → load ≡ many * f.recipient → loaded ≡ within_128 (to_z w128 (of_z w128 first) +ℤ pos load) → tried ≡ tries * f.retry → all ≡ within_128 (to_z w128 (of_z w128 loaded) +ℤ pos tried) → to_z w128 (of_z w128 all) ≡ priority_of f size class rows tries
steps_by f size rows many load tries tried class b first loaded all cf bf ff lf af fits e k same m n o p =
    let at : to_z w64 (of_z w64 class) ≡ class = to_z-of_z w64 class cf in
    let its : to_z w128 (of_z w128 b) ≡ class *ℤ pos f.class = to_z-of_z w128 b bf ∙ e ∙ ap (λ (z : ℤ). z *ℤ pos f.class) at in
    let rows_are : load ≡ rows * f.recipient = m ∙ ap (λ (x : ℕ). x * f.recipient) same in
    to_z-of_z w128 all af ∙ steps_are f size rows tries class first loaded all
    (subst (λ (z : ℤ). FitsSigned w128 (z *ℤ pos f.class)) at fits)
    (k ∙ ap (λ (z : ℤ). within_128 (pos size -ℤ z)) its)
    (n ∙ ap (λ (z : ℤ). within_128 (z +ℤ pos load)) (to_z-of_z w128 first ff) ∙ ap (λ (x : ℕ). within_128 (first +ℤ pos x)) rows_are)
    (p ∙ ap (λ (z : ℤ). within_128 (z +ℤ pos tried)) (to_z-of_z w128 loaded lf) ∙ ap (λ (x : ℕ). within_128 (loaded +ℤ pos x)) o)
