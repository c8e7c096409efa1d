-- The first rules of buckets, and the first of all.
use Rattle.std.proofs.Common.{◌≡◌, ℕ, ◌+◌, ◌<◌, ◌≤◌, List, [], ◌∷◌, ◌++◌, length, take, get_or, Bool, true, false, refl, sym, ap, ◌∙◌, subst, arith, Some, None, zero, suc, Option}
use Rattle.std.specs.Prelude.{cond, filter, slice_get, nat_le, nat_lt, ◌||◌}
use Rattle.std.specs.List.{find, list_any}
use Rattle.std.proofs.lemmas.Bool.{cond-true, cond-false, ltb-true, ltb-false, leb-true, leb-false, le-leb, lt-leb, or_from}
use Rattle.std.proofs.lemmas.List.Folds.{list_any-append}
use Rattle.std.proofs.Math.Seq.{take-suc}
use Rattle.mail_base.specs.declared.token.Token.{Token}
use Rattle.mail_base.specs.declared.rule.Rule.{Rule}
use Rattle.mail_base.specs.declared.rule.Numbered.{Numbered}
use Rattle.mail_base.specs.Candidates.{has_anchor, is_free, is_candidate, numbered_from, anchored, free}
use Rattle.rule_index.specs.inner.Firsts.{earlier, is_from, IsAscending}

-- of the rules that stand from a number on, the first that passes, at or above another number
abbrev pub IsFirst : (Rule → Bool) → ℕ → List Rule → ℕ → Option Numbered → Type 0
IsFirst test n rules from None = (j : ℕ) (rule : Rule) → from ≤ n + j → slice_get rules j ≡ Some rule → test rule ≡ false
IsFirst test n rules from (Some one) =
    (i : ℕ) × (one.number ≡ n + i) × (from ≤ n + i) × (slice_get rules i ≡ Some one.rule) × (test one.rule ≡ true)
    × ((j : ℕ) (rule : Rule) → from ≤ n + j → j < i → slice_get rules j ≡ Some rule → test rule ≡ false)

-- one rule more in front
step : (test : Rule → Bool) (n : ℕ) (rule : Rule) (rules : List Rule) (from : ℕ) (o : Option Numbered) → (from ≤ n → test rule ≡ false) → IsFirst test (n + 1) rules from o → IsFirst test n (rule ∷ rules) from o
step test n rule rules from None out h = at
  where
    at : (j : ℕ) (r : Rule) → from ≤ n + j → slice_get (rule ∷ rules) j ≡ Some r → test r ≡ false
    at zero r le is = let e : rule ≡ r = cc is in ap test (sym e) ∙ out (omega (arith, le))
    at (suc j) r le is = h j r (omega (arith, le)) is
step test n rule rules from (Some one) out (i, number, le, is, passes, before) = (suc i, omega (arith, number), omega (arith, le), is, passes, at)
  where
    at : (j : ℕ) (r : Rule) → from ≤ n + j → j < suc i → slice_get (rule ∷ rules) j ≡ Some r → test r ≡ false
    at zero r le lt is = let e : rule ≡ r = cc is in ap test (sym e) ∙ out (omega (arith, le))
    at (suc j) r le lt is = before j r (omega (arith, le)) (omega (arith, lt)) is

of_head : (test : Rule → Bool) (n : ℕ) (rule : Rule) (rules : List Rule) (from : ℕ) (rest : List Numbered) → IsFirst test (n + 1) rules from (find (is_from from) rest) → (b : Bool) → test rule ≡ b
    → IsFirst test n (rule ∷ rules) from (find (is_from from) (cond b ((record { number = n; rule = rule }) ∷ rest) rest))
of_head test n rule rules from rest go false q = step test n rule rules from (find (is_from from) rest) (λ le. q) go
of_head test n rule rules from rest go true q = here (nat_le from n) refl
  where
    here : (b : Bool) → nat_le from n ≡ b → IsFirst test n (rule ∷ rules) from (cond b (Some (record { number = n; rule = rule })) (find (is_from from) rest))
    here true le = (0, omega arith, omega (arith, leb-true from n le), refl, q, λ j r l lt is. absurd (omega (arith, lt)))
    here false le = step test n rule rules from (find (is_from from) rest) (λ l. absurd (omega (arith, l, leb-false from n le))) go

pub first_of : (test : Rule → Bool) (n : ℕ) (rules : List Rule) (from : ℕ) → IsFirst test n rules from (find (is_from from) (filter (λ one. test one.rule) (numbered_from n rules)))
first_of test n [] from = λ j rule le is. absurd (cc is)
first_of test n (rule ∷ rules) from = of_head test n rule rules from (filter (λ x. test x.rule) (numbered_from (n + 1) rules)) (first_of test (n + 1) rules from) (test rule) refl

-- the first that passes one of two tests
pub first_either : (one other : Rule → Bool) (rules : List Rule) (from : ℕ) (a b : Option Numbered) → IsFirst one 0 rules from a → IsFirst other 0 rules from b → IsFirst (λ rule. one rule || other rule) 0 rules from (earlier a b)
first_either one other rules from None None f g = λ j rule le is. neither (one rule) (other rule) (f j rule le is) (g j rule le is)
  where
    neither : (x y : Bool) → x ≡ false → y ≡ false → (x || y) ≡ false
    neither x y p q = or_from x y p q
first_either one other rules from None (Some b) f (i, number, le, is, passes, before) =
    (i, number, le, is, ap (λ (x : Bool). one b.rule || x) passes ∙ or_true (one b.rule), λ j rule l lt at. or_from (one rule) (other rule) (f j rule l at) (before j rule l lt at))
  where
    or_true : (x : Bool) → (x || true) ≡ true
    or_true true = refl
    or_true false = refl
first_either one other rules from (Some a) None (i, number, le, is, passes, before) g =
    (i, number, le, is, ap (λ (x : Bool). x || other a.rule) passes, λ j rule l lt at. or_from (one rule) (other rule) (before j rule l lt at) (g j rule l at))
first_either one other rules from (Some a) (Some b) (i, number, le, is, passes, before) (k, number', le', is', passes', before') = at (nat_lt b.number a.number) refl
  where
    or_true : (x : Bool) → (x || true) ≡ true
    or_true true = refl
    or_true false = refl

    at : (c : Bool) → nat_lt b.number a.number ≡ c → IsFirst (λ rule. one rule || other rule) 0 rules from (cond c (Some b) (Some a))
    at true lt =
        let below : b.number < a.number = ltb-true b.number a.number lt in (
          k,
          number',
          le',
          is',
          ap (λ (x : Bool). one b.rule || x) passes' ∙ or_true (one b.rule),
          λ j rule l less here. or_from (one rule) (other rule) (before j rule l (omega (arith, less, below, number, number')) here) (before' j rule l less here),
        )
    at false lt =
        let below : a.number ≤ b.number = ltb-false b.number a.number lt in (
          i,
          number,
          le,
          is,
          ap (λ (x : Bool). x || other a.rule) passes,
          λ j rule l less here. or_from (one rule) (other rule) (before j rule l less here) (before' j rule l (omega (arith, less, below, number, number')) here),
        )

-- by a test that says the same
pub first_agree : (one other : Rule → Bool) → ((rule : Rule) → one rule ≡ other rule) → (rules : List Rule) (from : ℕ) (o : Option Numbered) → IsFirst one 0 rules from o → IsFirst other 0 rules from o
first_agree one other same rules from None f = λ j rule le is. sym (same rule) ∙ f j rule le is
first_agree one other same rules from (Some a) (i, number, le, is, passes, before) = (i, number, le, is, sym (same a.rule) ∙ passes, λ j rule l lt at. sym (same rule) ∙ before j rule l lt at)

-- ---- buckets ascend

bounded : (test : Rule → Bool) (n : ℕ) (rules : List Rule) (i : ℕ) (one : Numbered) → slice_get (filter (λ x. test x.rule) (numbered_from n rules)) i ≡ Some one → n ≤ one.number
bounded test n [] i one h = absurd (cc h)
bounded test n (rule ∷ rules) i one h = at (λ k g. bounded test (n + 1) rules k one g) (test rule) i h
  where
    at : ((k : ℕ) → slice_get (filter (λ x. test x.rule) (numbered_from (n + 1) rules)) k ≡ Some one → n + 1 ≤ one.number) → (b : Bool) (i : ℕ)
        → slice_get (cond b ((record { number = n; rule = rule }) ∷ filter (λ x. test x.rule) (numbered_from (n + 1) rules)) (filter (λ x. test x.rule) (numbered_from (n + 1) rules))) i ≡ Some one → n ≤ one.number
    at go false i h = let low = go i h in omega (arith, low)
    at go true zero h = let e : record { number = n; rule = rule } ≡ one = cc h in let k : n ≡ one.number = ap (λ (x : Numbered). x.number) e in omega (arith, k)
    at go true (suc i) h = let low = go i h in omega (arith, low)

pub ascending : (test : Rule → Bool) (n : ℕ) (rules : List Rule) → IsAscending (filter (λ x. test x.rule) (numbered_from n rules))
ascending test n [] i j one other lt h k = absurd (cc h)
ascending test n (rule ∷ rules) i j one other lt h k = at (λ x y l g m. ascending test (n + 1) rules x y one other l g m) (test rule) i j lt h k
  where
    at : ((x y : ℕ) → x < y → slice_get (filter (λ z. test z.rule) (numbered_from (n + 1) rules)) x ≡ Some one → slice_get (filter (λ z. test z.rule) (numbered_from (n + 1) rules)) y ≡ Some other → one.number < other.number)
        → (b : Bool) (i j : ℕ) → i < j
        → slice_get (cond b ((record { number = n; rule = rule }) ∷ filter (λ x. test x.rule) (numbered_from (n + 1) rules)) (filter (λ x. test x.rule) (numbered_from (n + 1) rules))) i ≡ Some one
        → slice_get (cond b ((record { number = n; rule = rule }) ∷ filter (λ x. test x.rule) (numbered_from (n + 1) rules)) (filter (λ x. test x.rule) (numbered_from (n + 1) rules))) j ≡ Some other
        → one.number < other.number
    at go false i j lt h k = go i j lt h k
    at go true zero zero lt h k = absurd (omega (arith, lt))
    at go true zero (suc j) lt h k =
        let e : record { number = n; rule = rule } ≡ one = cc h in
        let same : n ≡ one.number = ap (λ (x : Numbered). x.number) e in
        let low = bounded test (n + 1) rules j other k in omega (arith, same, low)
    at go true (suc i) zero lt h k = absurd (omega (arith, lt))
    at go true (suc i) (suc j) lt h k = go i j (omega (arith, lt)) h k

-- the bucket of free rules ascends by number
pub ascends_free : (rules : List Rule) (bucket : List Numbered) → bucket ≡ free rules → IsAscending bucket
ascends_free rules bucket is = subst IsAscending (sym is) (ascending (λ rule. is_free rule) 0 rules)

-- a token's bucket of anchored rules ascends by number
pub ascends_anchored : (token : Token) (rules : List Rule) (bucket : List Numbered) → bucket ≡ anchored token rules → IsAscending bucket
ascends_anchored token rules bucket is = subst IsAscending (sym is) (ascending (λ rule. has_anchor token rule) 0 rules)

-- ---- the halving

-- a place with lower numbers before it and none from it on has the first one from a number on
pub found_at : (from : ℕ) (bucket : List Numbered) (low : ℕ) → ((k : ℕ) (one : Numbered) → k < low → slice_get bucket k ≡ Some one → one.number < from)
    → ((k : ℕ) (one : Numbered) → low ≤ k → slice_get bucket k ≡ Some one → from ≤ one.number) → slice_get bucket low ≡ find (is_from from) bucket
found_at from [] low before after = refl
found_at from (one ∷ bucket) zero before after = sym (cond-true (nat_le from one.number) (Some one) (find (is_from from) bucket) (le-leb from one.number (after 0 one (omega arith) refl)))
found_at from (one ∷ bucket) (suc low) before after =
    found_at from bucket low (λ k x lt is. before (suc k) x (omega (arith, lt)) is) (λ k x le is. after (suc k) x (omega (arith, le)) is)
    ∙ sym (cond-false (nat_le from one.number) (Some one) (find (is_from from) bucket) (lt-leb from one.number (before 0 one (omega arith) refl)))

-- ---- the next candidate

or_nothing : (x : Bool) → (x || false) ≡ x
or_nothing true = refl
or_nothing false = refl

or_moves : (x y z : Bool) → ((x || y) || z) ≡ (x || (y || (z || false)))
or_moves true y z = refl
or_moves false true z = refl
or_moves false false true = refl
or_moves false false false = refl

-- the first free rule from a number on is the first candidate for no tokens
pub starts : (rules : List Rule) (from : ℕ) (o : Option Numbered) (bucket : List Numbered) → bucket ≡ free rules → o ≡ find (is_from from) bucket → IsFirst (is_candidate []) 0 rules from o
starts rules from o bucket is found =
    first_agree is_free (is_candidate []) (λ rule. sym (or_nothing (is_free rule))) rules from o
    (subst (IsFirst is_free 0 rules from) (sym (found ∙ ap (find (is_from from)) is)) (first_of (λ rule. is_free rule) 0 rules from))

-- with a token more, the earlier of both is the first candidate
pub goes_on : (rules : List Rule) (from : ℕ) (before after : List Token) (token : Token) (a b now : Option Numbered) (bucket : List Numbered) → IsFirst (is_candidate before) 0 rules from a
    → bucket ≡ anchored token rules → b ≡ find (is_from from) bucket → now ≡ earlier a b → after ≡ before ++ token ∷ [] → IsFirst (is_candidate after) 0 rules from now
goes_on rules from before after token a b now bucket first is found joined more =
    subst (IsFirst (is_candidate after) 0 rules from) (sym joined)
    (first_agree (λ rule. is_candidate before rule || has_anchor token rule) (is_candidate after) agrees rules from (earlier a b)
    (first_either (is_candidate before) (λ rule. has_anchor token rule) rules from a b first
    (subst (IsFirst (λ rule. has_anchor token rule) 0 rules from) (sym (found ∙ ap (find (is_from from)) is)) (first_of (λ rule. has_anchor token rule) 0 rules from))))
  where
    agrees : (rule : Rule) → (is_candidate before rule || has_anchor token rule) ≡ is_candidate after rule
    agrees rule =
        or_moves (is_free rule) (list_any (λ t. has_anchor t rule) before) (has_anchor token rule)
        ∙ ap (λ (b : Bool). is_free rule || b) (sym (list_any-append (λ t. has_anchor t rule) before (token ∷ [])))
        ∙ ap (λ (ts : List Token). is_free rule || list_any (λ t. has_anchor t rule) ts) (sym more)

-- one token more
pub taken : (tokens : List Token) (i : ℕ) (token : Token) → i < length tokens → token ≡ get_or tokens i token → take (i + 1) tokens ≡ take i tokens ++ token ∷ []
taken tokens i token lt is = ap (λ (k : ℕ). take k tokens) {x = i + 1} {y = suc i} (omega arith) ∙ take-suc tokens i token lt ∙ ap (λ (t : Token). take i tokens ++ t ∷ []) (sym is)
