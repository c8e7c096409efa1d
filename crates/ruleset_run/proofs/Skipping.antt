-- Rules that can't match, which a run passes by.
use Rattle.std.proofs.Common.{◌≡◌, ◌⊎◌, inl, inr, ℕ, ◌+◌, ◌-◌, ◌<◌, ◌≤◌, List, [], ◌∷◌, ◌++◌, length, drop, cond, true, false, Some, None, Ok, refl, sym, ap, subst, ◌∙◌, zero, suc, arith}
use Rattle.std.specs.Prelude.{Bool, IfNone, Option, slice_get, count_by, ◌==◌}
use Rattle.std.specs.List.{list_any}
use Rattle.std.proofs.lemmas.List.Concat.{flat_map-cons}
use Rattle.std.proofs.lemmas.List.Recursion.{is_count_by}
use Rattle.std.proofs.lemmas.Bool.{cases_lt, cases_order, eq-eqb, ne_eqb, cond-true, cond-false}
use Rattle.mail_base.specs.declared.token.Token.{Token}
use Rattle.mail_base.specs.declared.rule.Rule.{Rule}
use Rattle.mail_base.specs.declared.rule.Item.{Item}
use Rattle.mail_base.specs.declared.rule.Item.TheVariants.{Any, More, One, Empty, InClass, NotInClass, Exact, Late}
use Rattle.mail_base.specs.Metas.{is_late}
use Rattle.mail_base.specs.Candidates.{IsNext, is_candidate}
use Rattle.mail_base.specs.Masks.{IsNextCovered, covers, mask_of, wanted_mask}
use Rattle.rule_match.proofs.Masking.{uncovered}
use Rattle.ruleset_run.specs.inner.Looks.{CannotMatch, IsAhead, times_at}
use Rattle.ruleset_run.specs.Sites.{Site, Macros}
use Rattle.ruleset_run.specs.Cutting.{Lates, is_cut_left, item_lists, left_lists}
use Rattle.ruleset_run.specs.Runs.{Outcome, Called, late_of, Runs, unmatched, no_rule}
use Rattle.ruleset_run.proofs.Candidates.{no_candidate}

-- ---- lists

drop_suc : (rules : List Rule) (n : ℕ) (rule : Rule) → slice_get rules n ≡ Some rule → drop n rules ≡ rule ∷ drop (suc n) rules
drop_suc [] n rule is = absurd (cc is)
drop_suc (r ∷ rules) zero rule is = let e : r ≡ rule = cc is in ap (λ (x : Rule). x ∷ rules) e
drop_suc (r ∷ rules) (suc n) rule is = drop_suc rules n rule is

-- the rules from a place on are the rule there and those after it
pub drop_at : (rules : List Rule) (n : ℕ) (rule : Rule) → slice_get rules n ≡ Some rule → drop n rules ≡ rule ∷ drop (n + 1) rules
drop_at rules n rule is = drop_suc rules n rule is ∙ ap (λ (k : ℕ). rule ∷ drop k rules) {x = suc n} {y = n + 1} (omega arith)

get_below : (rules : List Rule) (n : ℕ) → n < length rules → (rule : Rule) × (slice_get rules n ≡ Some rule)
get_below [] n lt = absurd (omega (arith, lt))
get_below (rule ∷ rules) zero lt = (rule, refl)
get_below (rule ∷ rules) (suc n) lt = get_below rules n (omega (arith, lt))

-- a place where a rule stands is below the number of rules
pub below_length : (rules : List Rule) (n : ℕ) (rule : Rule) → slice_get rules n ≡ Some rule → n < length rules
below_length [] n rule is = absurd (cc is)
below_length (r ∷ rules) zero rule is = omega arith
below_length (r ∷ rules) (suc n) rule is = let h = below_length rules n rule is in omega (arith, h)

drop_all : (rules : List Rule) (n : ℕ) → length rules ≤ n → drop n rules ≡ []
drop_all [] zero le = refl
drop_all [] (suc n) le = refl
drop_all (rule ∷ rules) zero le = absurd (omega (arith, le))
drop_all (rule ∷ rules) (suc n) le = drop_all rules n (omega (arith, le))

-- a left side without a `$&x` can be cut
pub no_late_cut : (late : Lates) (items : List Item) → list_any is_late items ≡ false → is_cut_left late items ≡ true
no_late_cut late [] h = refl
no_late_cut late (Late name ∷ items) h = absurd (cc h)
no_late_cut late (Any ∷ items) h = no_late_cut late items h
no_late_cut late (More ∷ items) h = no_late_cut late items h
no_late_cut late (One ∷ items) h = no_late_cut late items h
no_late_cut late (Empty ∷ items) h = no_late_cut late items h
no_late_cut late (InClass name ∷ items) h = no_late_cut late items h
no_late_cut late (NotInClass name ∷ items) h = no_late_cut late items h
no_late_cut late (Exact token ∷ items) h = no_late_cut late items h

no_late_lists : (late : Lates) (items : List Item) → list_any is_late items ≡ false → left_lists late items ≡ []
no_late_lists late [] h = refl
no_late_lists late (Late name ∷ items) h = absurd (cc h)
no_late_lists late (Any ∷ items) h = flat_map-cons (item_lists late) Any items ∙ no_late_lists late items h
no_late_lists late (More ∷ items) h = flat_map-cons (item_lists late) More items ∙ no_late_lists late items h
no_late_lists late (One ∷ items) h = flat_map-cons (item_lists late) One items ∙ no_late_lists late items h
no_late_lists late (Empty ∷ items) h = flat_map-cons (item_lists late) Empty items ∙ no_late_lists late items h
no_late_lists late (InClass name ∷ items) h = flat_map-cons (item_lists late) (InClass name) items ∙ no_late_lists late items h
no_late_lists late (NotInClass name ∷ items) h = flat_map-cons (item_lists late) (NotInClass name) items ∙ no_late_lists late items h
no_late_lists late (Exact token ∷ items) h = flat_map-cons (item_lists late) (Exact token) items ∙ no_late_lists late items h

-- it has no lists then
pub no_lists : (late : Lates) (items : List Item) (lists : List (List Token)) → list_any is_late items ≡ false → lists ≡ [] → (is_cut_left late items ≡ true) × (lists ≡ left_lists late items)
no_lists late items lists h none = (no_late_cut late items h, none ∙ sym (no_late_lists late items h))

-- ---- rules that are passed by

module _ (site : Site) (called : Called) (rules : List Rule) (tokens : List Token) (work : ℕ) (macros : Macros) where
  -- so many rules from one on, with no successive application before
  passed : (count from times : ℕ) (outcome : Outcome) → from + count ≤ length rules → ((k : ℕ) (rule : Rule) → from ≤ k → k < from + count → slice_get rules k ≡ Some rule → CannotMatch tokens rule)
      → Runs site called (drop (from + count) rules) 0 tokens work macros outcome → (count ≡ 0 → times ≡ 0) → Runs site called (drop from rules) times tokens work macros outcome
  passed zero from times outcome within none run start =
      subst (λ (n : ℕ). Runs site called (drop from rules) n tokens work macros outcome) (sym (start refl))
      (subst (λ (n : ℕ). Runs site called (drop n rules) 0 tokens work macros outcome) {x = from + 0} {y = from} (omega arith) run)
  passed (suc count) from times outcome within none run start =
      let found = get_below rules from (omega (arith, within)) in
      subst (λ (rs : List Rule). Runs site called rs times tokens work macros outcome) (sym (drop_at rules from found.0 found.1))
      (unmatched found.0 (drop (from + 1) rules) times tokens work macros outcome (no_late_cut (late_of site macros) found.0.left (none from found.0 (omega arith) (omega arith) found.1).0)
      ((none from found.0 (omega arith) (omega arith) found.1).1 site.classes (left_lists (late_of site macros) found.0.left))
      (passed count (from + 1) 0 outcome (omega (arith, within)) (λ k rule le lt is. none k rule (omega (arith, le)) (omega (arith, lt)) is)
      (subst (λ (n : ℕ). Runs site called (drop n rules) 0 tokens work macros outcome) {x = from + suc count} {y = from + 1 + count} (omega arith) run) (λ e. refl)))

  difference : (from number : ℕ) → from ≤ number → (count : ℕ) × (number ≡ from + count)
  difference from number le = (number - from, omega (arith, le))

  pub skipped : (from number times now : ℕ) (rule : Rule) (outcome : Outcome) → IsAhead rules from tokens number rule → now ≡ times_at number from times
      → Runs site called (drop number rules) now tokens work macros outcome → Runs site called (drop from rules) times tokens work macros outcome
  skipped from number times now rule outcome n is run = elim (cases_order number from) [
    | inl e ↦
        subst (λ (k : ℕ). Runs site called (drop k rules) times tokens work macros outcome) e
        (subst (λ (k : ℕ). Runs site called (drop number rules) k tokens work macros outcome) (is ∙ cond-true (number == from) times 0 (eq-eqb number from e)) run)
    | inr (inl less) ↦ absurd (omega (arith, less, n.above))
    | inr (inr more) ↦
        let d = difference from number n.above in
        let never : now ≡ 0 = is ∙ cond-false (number == from) times 0 (ne_eqb number from (λ e. omega (arith, e, more))) in
        passed d.0 from times outcome (omega (arith, d.1, below_length rules number rule n.is)) (λ k other le lt is. n.first k other le (omega (arith, lt, d.1)) is)
        (subst (λ (k : ℕ). Runs site called (drop k rules) 0 tokens work macros outcome) d.1 (subst (λ (k : ℕ). Runs site called (drop number rules) k tokens work macros outcome) never run))
        (λ e. absurd (omega (arith, e, d.1, more)))
  ]

  pub all_passed : (from times : ℕ) → from ≤ length rules → ((k : ℕ) (rule : Rule) → from ≤ k → slice_get rules k ≡ Some rule → CannotMatch tokens rule)
      → Runs site called (drop from rules) times tokens work macros (Ok (record { tokens = tokens; work = work; macros = macros }))
  all_passed from times le none = elim (cases_order from (length rules)) [
    | inl e ↦ at_end from times (omega (arith, e))
    | inr (inl less) ↦
        let d = difference from (length rules) le in
        passed d.0 from times (Ok (record { tokens = tokens; work = work; macros = macros })) (omega (arith, d.1)) (λ k rule l lt is. none k rule l is)
        (at_end (from + d.0) 0 (omega (arith, d.1))) (λ e. absurd (omega (arith, e, d.1, less)))
    | inr (inr more) ↦ absurd (omega (arith, le, more))
  ]
    where
      at_end : (k times : ℕ) → length rules ≤ k → Runs site called (drop k rules) times tokens work macros (Ok (record { tokens = tokens; work = work; macros = macros }))
      at_end k times l = subst (λ (rs : List Rule). Runs site called rs times tokens work macros (Ok (record { tokens = tokens; work = work; macros = macros }))) (sym (drop_all rules k l)) (no_rule times tokens work macros)

-- what a candidate is before rules that can't match, by its anchor
pub ahead_by_anchor : (rules : List Rule) (from : ℕ) (tokens : List Token) (number : ℕ) (rule : Rule) → IsNext rules from tokens number rule → IsAhead rules from tokens number rule
ahead_by_anchor rules from tokens number rule next = record {
  above = next.above;
  is = next.is;
  first = λ k other le lt is. no_candidate other tokens (next.first k other le lt is);
}

-- a rule that wants a bit which the mask of the tokens lacks can't match
cannot_by : (mask : ℕ) (tokens : List Token) (rule : Rule) → mask ≡ mask_of tokens → covers mask (wanted_mask rule.left) ≡ false → CannotMatch tokens rule
cannot_by mask tokens rule is none = uncovered rule.left tokens (subst (λ (m : ℕ). covers m (wanted_mask rule.left) ≡ false) is none)

-- the first rule that is covered is before rules that can't match
pub ahead_covered : (rules : List Rule) (from mask : ℕ) (tokens : List Token) (number : ℕ) (rule : Rule) → mask ≡ mask_of tokens → IsNextCovered rules from mask number → slice_get rules number ≡ Some rule → IsAhead rules from tokens number rule
ahead_covered rules from mask tokens number rule mask_is next is = record {
  above = next.above;
  is = is;
  first = λ k other le lt there. cannot_by mask tokens other mask_is (next.first k other le lt there);
}

-- where no rule is covered, none can match
pub none_covered : (rules : List Rule) (from mask : ℕ) (tokens : List Token) → mask ≡ mask_of tokens → ((k : ℕ) (rule : Rule) → from ≤ k → slice_get rules k ≡ Some rule → covers mask (wanted_mask rule.left) ≡ false)
    → (k : ℕ) (rule : Rule) → from ≤ k → slice_get rules k ≡ Some rule → CannotMatch tokens rule
none_covered rules from mask tokens mask_is none k rule le is = cannot_by mask tokens rule mask_is (none k rule le is)

-- where a number is below that of the rules, a rule stands
pub rule_stands : (rules : List Rule) (n : ℕ) → n < length rules → slice_get rules n ≡ None → ⊥
rule_stands rules n lt none = let found = get_below rules n lt in absurd (cc (found.1, none))

-- what is so anyway is so where there is none
pub if_none : {T : Type 0} (found : Option T) (P : Type 0) → P → IfNone found P
if_none (Some x) P h = tt
if_none None P h = h

-- a candidate that isn't covered can't match
pub uncovered_here : (rules : List Rule) (mask : ℕ) (tokens : List Token) (number : ℕ) (rule : Rule) (b : Bool) → mask ≡ mask_of tokens → slice_get rules number ≡ Some rule
    → ((other : Rule) → slice_get rules number ≡ Some other → b ≡ covers mask (wanted_mask other.left)) → b ≡ false → CannotMatch tokens rule
uncovered_here rules mask tokens number rule b mask_is is covers_is none = cannot_by mask tokens rule mask_is (sym (covers_is rule is) ∙ none)

-- rules that can't match, and no candidate behind them
pub none_later : (rules : List Rule) (from at : ℕ) (tokens : List Token) → ((k : ℕ) (other : Rule) → from ≤ k → k < at → slice_get rules k ≡ Some other → CannotMatch tokens other)
    → ((k : ℕ) (other : Rule) → at ≤ k → slice_get rules k ≡ Some other → is_candidate tokens other ≡ false) → (k : ℕ) (rule : Rule) → from ≤ k → slice_get rules k ≡ Some rule → CannotMatch tokens rule
none_later rules from at tokens before behind k rule le is = elim (cases_lt k at) [
  | inl less ↦ before k rule le less is
  | inr more ↦ no_candidate rule tokens (behind k rule more is)
]

-- rules that can't match, and what is ahead behind them
pub ahead_later : (rules : List Rule) (from at : ℕ) (tokens : List Token) (number : ℕ) (rule : Rule) → from ≤ at → ((k : ℕ) (other : Rule) → from ≤ k → k < at → slice_get rules k ≡ Some other → CannotMatch tokens other)
    → IsAhead rules at tokens number rule → IsAhead rules from tokens number rule
ahead_later rules from at tokens number rule le before ahead = record {
  above = omega (arith, le, ahead.above);
  is = ahead.is;
  first = λ k other l lt is. passed_at rules from at tokens number rule before ahead k other l lt is (cases_order k at);
}
  where
    passed_at : (rules : List Rule) (from at : ℕ) (tokens : List Token) (number : ℕ) (rule : Rule) → ((k : ℕ) (other : Rule) → from ≤ k → k < at → slice_get rules k ≡ Some other → CannotMatch tokens other) → IsAhead rules at tokens number rule
        → (k : ℕ) (other : Rule) → from ≤ k → k < number → slice_get rules k ≡ Some other → (k ≡ at) ⊎ ((k < at) ⊎ (at < k)) → CannotMatch tokens other
    passed_at rules from at tokens number rule before ahead k other l lt is (inl e) = ahead.first k other (omega (arith, e)) lt is
    passed_at rules from at tokens number rule before ahead k other l lt is (inr (inl less)) = before k other l less is
    passed_at rules from at tokens number rule before ahead k other l lt is (inr (inr more)) = ahead.first k other (omega (arith, more)) lt is

-- one more that can't match
pub passed_more : (rules : List Rule) (from : ℕ) (tokens : List Token) (number : ℕ) (rule : Rule) → IsAhead rules from tokens number rule → CannotMatch tokens rule
    → (k : ℕ) (other : Rule) → from ≤ k → k < number + 1 → slice_get rules k ≡ Some other → CannotMatch tokens other
passed_more rules from tokens number rule ahead cannot k other le lt is = at (cases_order k number)
  where
    at : (k ≡ number) ⊎ ((k < number) ⊎ (number < k)) → CannotMatch tokens other
    at (inl e) = let same : rule ≡ other = cc (sym ahead.is ∙ ap (slice_get rules) (sym e) ∙ is) in subst (λ (r : Rule). CannotMatch tokens r) same cannot
    at (inr (inl less)) = ahead.first k other le less is
    at (inr (inr more)) = absurd (omega (arith, lt, more))

one_list : (late : Lates) (item : Item) (lists : List (List Token)) → length (item_lists late item ++ lists) ≡ cond (is_late item) (1 + length lists) (length lists)
one_list late (Late name) lists = omega arith
one_list late Any lists = refl
one_list late More lists = refl
one_list late One lists = refl
one_list late Empty lists = refl
one_list late (InClass name) lists = refl
one_list late (NotInClass name) lists = refl
one_list late (Exact token) lists = refl

-- a left side has as many lists as it has `$&x`
pub lists_count : (late : Lates) (items : List Item) → length (left_lists late items) ≡ count_by is_late items
lists_count late items =
    is_count_by (λ (xs : List Item). length (left_lists late xs)) is_late refl (λ item more. ap length (flat_map-cons (item_lists late) item more) ∙ one_list late item (left_lists late more)) items
