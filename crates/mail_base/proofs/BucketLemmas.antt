-- One rule more in the buckets of a ruleset.
use Rattle.std.proofs.Common.{◌≡◌, ℕ, ◌+◌, ◌<◌, ◌^◌, List, [], ◌∷◌, ◌++◌, ◌≤◌, get_or, length, map, take, Bool, true, false, refl, sym, ap, ◌∙◌, subst, arith, Some, None, zero, suc, inl, inr}
use Rattle.std.specs.Prelude.{Option, cond, filter, slice_get, ◌||◌, unwrap_or, Result, Ok, Err, OnOk, OnErr}
use Rattle.std.specs.List.{IsDistinct, list_any}
use Rattle.std.specs.Option.{option_map}
use Rattle.std.specs.Result.{is_err}
use Rattle.std.specs.Map.{lookup, lookup_key, keys_of, values_of}
use Rattle.std.proofs.lemmas.Bool.{cases_eq, cases_order, cond_both, true≢false}
use Rattle.std.proofs.lemmas.List.Elements.{filter-append}
use Rattle.std.proofs.lemmas.List.{append-nil}
use Rattle.std.proofs.lemmas.List.Sums.{fold-append}
use Rattle.std.proofs.lemmas.Option.{slice_get-get_or, slice_get_within}
use Rattle.std.proofs.lemmas.Map.Entries.{lookup_from_place}
use Rattle.indexmap.specs.IndexMap.{set_value_at}
use Rattle.mail_base.specs.declared.token.Token.{Token}
use Rattle.mail_base.specs.declared.rule.Rule.{Rule}
use Rattle.mail_base.specs.declared.rule.Numbered.{Numbered}
use Rattle.mail_base.specs.declared.rule.Slot.{Slot}
use Rattle.mail_base.specs.declared.fault.NoMemory.{NoMemory}
use Rattle.mail_base.specs.Candidates.{anchor, anchored, anchors_of, free, has_anchor, holds, is_free, is_none, numbered_from, with_anchor}
use Rattle.mail_base.specs.Masks.{IsNextCovered, covers, wanted_mask}
use Rattle.mail_base.specs.inner.Covering.{AreUncovered, IsFirstCovered}
use Rattle.mail_base.specs.Tokens.{same_token}
use Rattle.mail_base.specs.inner.TokenLaws.{same_equiv}
use Rattle.mail_base.specs.Buckets.{bucket_of, listed, at_place, in_bucket, stored, rule_in, in_order, IsIndex, IsSlotAt, IsSlotFor, IsBucket, Adds, Keeps, Grows, Puts}

-- ---- lists

get_kept : {X : Type 0} (xs ys : List X) (k : ℕ) (x : X) → slice_get xs k ≡ Some x → slice_get (xs ++ ys) k ≡ Some x
get_kept [] ys k x h = absurd (cc h)
get_kept (y ∷ xs) ys zero x h = h
get_kept (y ∷ xs) ys (suc k) x h = get_kept xs ys k x h

get_last : {X : Type 0} (xs : List X) (x : X) → slice_get (xs ++ x ∷ []) (length xs) ≡ Some x
get_last [] x = refl
get_last (y ∷ xs) x = get_last xs x

map_end : {X Y : Type 0} (f : X → Y) (xs : List X) (x : X) → map f (xs ++ x ∷ []) ≡ map f xs ++ f x ∷ []
map_end f [] x = refl
map_end f (y ∷ xs) x = ap (λ l. f y ∷ l) (map_end f xs x)

same_length : {X Y Z : Type 0} (f : X → Z) (g : Y → Z) (xs : List X) (ys : List Y) → map f xs ≡ map g ys → length xs ≡ length ys
same_length f g [] [] h = refl
same_length f g [] (y ∷ ys) h = absurd (cc h)
same_length f g (x ∷ xs) [] h = absurd (cc h)
same_length f g (x ∷ xs) (y ∷ ys) h = ap suc (same_length f g xs ys (cc h))

take_front : {X : Type 0} (xs ys : List X) → take (length xs) (xs ++ ys) ≡ xs
take_front [] ys = refl
take_front {X} (x ∷ xs) ys = ap (λ (zs : List X). x ∷ zs) (take_front xs ys)

-- ---- rules with their numbers

numbered_push : (n : ℕ) (rules : List Rule) (rule : Rule) → numbered_from n (rules ++ rule ∷ []) ≡ numbered_from n rules ++ (record { number = n + length rules; rule = rule }) ∷ []
numbered_push n [] rule = ap (λ (k : ℕ). (record { number = k; rule = rule }) ∷ []) {x = n} {y = n + 0} (omega arith)
numbered_push n (r ∷ rules) rule =
    ap (λ (l : List Numbered). (record { number = n; rule = r }) ∷ l)
    (numbered_push (n + 1) rules rule ∙ ap (λ (k : ℕ). numbered_from (n + 1) rules ++ (record { number = k; rule = rule }) ∷ []) {x = n + 1 + length rules} {y = n + suc (length rules)} (omega arith))

numbered_end : (rules : List Rule) (rule : Rule) (k : ℕ) → k ≡ length rules → numbered_from 0 (rules ++ rule ∷ []) ≡ numbered_from 0 rules ++ (record { number = k; rule = rule }) ∷ []
numbered_end rules rule k is = numbered_push 0 rules rule ∙ ap (λ (j : ℕ). numbered_from 0 rules ++ (record { number = j; rule = rule }) ∷ []) {x = 0 + length rules} {y = k} (omega (arith, is))

numbered_length : (n : ℕ) (rules : List Rule) → length (numbered_from n rules) ≡ length rules
numbered_length n [] = refl
numbered_length n (rule ∷ rules) = ap suc (numbered_length (n + 1) rules)

rules_back : (n : ℕ) (rules : List Rule) → map (λ one. one.rule) (numbered_from n rules) ≡ rules
rules_back n [] = refl
rules_back n (rule ∷ rules) = ap (λ l. rule ∷ l) (rules_back (n + 1) rules)

picked : (p : Numbered → Bool) (rules : List Rule) (rule : Rule) (k : ℕ) → k ≡ length rules
    → filter p (numbered_from 0 (rules ++ rule ∷ [])) ≡ filter p (numbered_from 0 rules) ++ cond (p (record { number = k; rule = rule })) ((record { number = k; rule = rule }) ∷ []) []
picked p rules rule k is = ap (filter p) (numbered_end rules rule k is) ∙ filter-append p (numbered_from 0 rules) ((record { number = k; rule = rule }) ∷ [])

-- ---- what the slots hold

-- the index but for the order of anchors
record Inner (rules : List Rule) (entries : List (Token × List Numbered)) (loose : List Numbered) (slots : List Slot) : Type 0 where
  each : (token : Token) → bucket_of token entries ≡ anchored token rules
  rest : loose ≡ free rules
  places : map (stored entries loose) slots ≡ map Some (numbered_from 0 rules)
  masks : map (λ slot. slot.wanted) slots ≡ map (λ rule. wanted_mask rule.left) rules
  few : length slots < 2 ^ 32

inner : (rules : List Rule) (e : List (Token × List Numbered)) (l : List Numbered) (slots : List Slot) → IsIndex rules e l slots → Inner rules e l slots
inner rules e l slots i = record { each = i.each; rest = i.rest; places = i.places; masks = i.masks; few = i.few }

ordered : (e : List (Token × List Numbered)) (l : List Numbered) (slots : List Slot) (ones : List Numbered) → map (stored e l) slots ≡ map Some ones → in_order e l slots ≡ map (λ one. one.rule) ones
ordered e l [] [] h = refl
ordered e l [] (one ∷ ones) h = absurd (cc h)
ordered e l (slot ∷ slots) [] h = absurd (cc h)
ordered e l (slot ∷ slots) (one ∷ ones) h =
    let first : stored e l slot ≡ Some one = cc h in
    let rest : map (stored e l) slots ≡ map Some ones = cc h in
    ap (λ (x : Option Numbered). rule_in x ++ in_order e l slots) first ∙ ap (λ (rs : List Rule). one.rule ∷ rs) (ordered e l slots ones rest)

in_order_is : (rules : List Rule) (e : List (Token × List Numbered)) (l : List Numbered) (slots : List Slot) → Inner rules e l slots → in_order e l slots ≡ rules
in_order_is rules e l slots i = ordered e l slots (numbered_from 0 rules) i.places ∙ rules_back 0 rules

moved : (e f : List (Token × List Numbered)) (l m : List Numbered) (slots : List Slot) (ones : List Numbered) → ((slot : Slot) (one : Numbered) → stored e l slot ≡ Some one → stored f m slot ≡ Some one)
    → map (stored e l) slots ≡ map Some ones → map (stored f m) slots ≡ map Some ones
moved e f l m [] ones stays h = h
moved e f l m (slot ∷ slots) [] stays h = absurd (cc h)
moved e f l m (slot ∷ slots) (one ∷ ones) stays h =
    let first : stored e l slot ≡ Some one = cc h in
    let rest : map (stored e l) slots ≡ map Some ones = cc h in
    ap (λ (x : Option Numbered). x ∷ map (stored f m) slots) (stays slot one first) ∙ ap (λ (xs : List (Option Numbered)). Some one ∷ xs) (moved e f l m slots ones stays rest)

-- an entry that stays keeps what stands in it
entry_kept : (e f : List (Token × List Numbered)) (place k : ℕ) (one : Numbered) (entry : Option (Token × List Numbered)) → slice_get e place ≡ entry
    → ((x : Token × List Numbered) → slice_get e place ≡ Some x → (y : List Numbered) × (slice_get f place ≡ Some (x.0, y)) × (slice_get x.1 k ≡ Some one → slice_get y k ≡ Some one))
    → at_place (slice_get e place) k ≡ Some one → at_place (slice_get f place) k ≡ Some one
entry_kept e f place k one None is stays h = absurd (cc (sym (ap (λ (x : Option (Token × List Numbered)). at_place x k) is) ∙ h))
entry_kept e f place k one (Some x) is stays h =
    let s = stays x is in
    ap (λ (x : Option (Token × List Numbered)). at_place x k) s.1 ∙ s.2 (sym (ap (λ (x : Option (Token × List Numbered)). at_place x k) is) ∙ h)

slot_kept : (e f : List (Token × List Numbered)) (l : List Numbered) → Keeps e f → (bucket : Option ℕ) (k : ℕ) (one : Numbered) → in_bucket bucket k e l ≡ Some one → in_bucket bucket k f l ≡ Some one
slot_kept e f l keeps None k one h = h
slot_kept e f l keeps (Some place) k one h = entry_kept e f place k one (slice_get e place) refl (λ x is. (x.1, keeps.places place x is, λ g. g)) h

-- ---- buckets that say the same

calm : (rules : List Rule) (e f : List (Token × List Numbered)) (l : List Numbered) (slots : List Slot) → Keeps e f → Inner rules e l slots → Inner rules f l slots
calm rules e f l slots keeps i = record {
  each = λ token. keeps.each token ∙ i.each token;
  rest = i.rest;
  places = moved e f l l slots (numbered_from 0 rules) (λ slot one h. slot_kept e f l keeps slot.bucket slot.place one h) i.places;
  masks = i.masks;
  few = i.few;
}

-- ---- one more

module _ (rules : List Rule) (e f : List (Token × List Numbered)) (l m : List Numbered) (slots : List Slot) (slot : Slot) (rule : Rule) (number : ℕ) where
  one : Numbered
  one = record { number = number; rule = rule }

  -- what is left to show, by what stays and what comes
  joined : slot.wanted ≡ wanted_mask rule.left → Inner rules e l slots → number ≡ length slots → number + 1 < 2 ^ 32
      → ((token : Token) → bucket_of token f ≡ bucket_of token e ++ cond (has_anchor token rule) (one ∷ []) [])
      → m ≡ l ++ cond (is_free rule) (one ∷ []) []
      → ((s : Slot) (x : Numbered) → stored e l s ≡ Some x → stored f m s ≡ Some x)
      → stored f m slot ≡ Some one
      → Inner (rules ++ rule ∷ []) f m (slots ++ slot ∷ [])
  unfolding one
  joined wants i is few each rest stays here =
      let count : number ≡ length rules = is ∙ same_length (stored e l) Some slots (numbered_from 0 rules) i.places ∙ numbered_length 0 rules in
      record {
        each = λ token. each token ∙ ap (λ (xs : List Numbered). xs ++ cond (has_anchor token rule) (one ∷ []) []) (i.each token) ∙ sym (picked (λ x. has_anchor token x.rule) rules rule number count);
        rest = rest ∙ ap (λ (xs : List Numbered). xs ++ cond (is_free rule) (one ∷ []) []) i.rest ∙ sym (picked (λ x. is_free x.rule) rules rule number count);
        places = map_end (stored f m) slots slot ∙ ap (λ (xs : List (Option Numbered)). xs ++ stored f m slot ∷ []) (moved e f l m slots (numbered_from 0 rules) stays i.places)
            ∙ ap (λ (x : Option Numbered). map Some (numbered_from 0 rules) ++ x ∷ []) here
            ∙ sym (map_end Some (numbered_from 0 rules) one) ∙ sym (ap (map Some) (numbered_end rules rule number count));
        masks = map_end (λ (s : Slot). s.wanted) slots slot ∙ ap (λ (xs : List ℕ). xs ++ slot.wanted ∷ []) i.masks ∙ ap (λ (w : ℕ). map (λ (r : Rule). wanted_mask r.left) rules ++ w ∷ []) wants ∙ sym (map_end (λ (r : Rule). wanted_mask r.left) rules rule);
        few = omega (arith, few, is, length_end slots slot);
      } where
        length_end : (xs : List Slot) (x : Slot) → length (xs ++ x ∷ []) ≡ length xs + 1
        length_end [] x = refl
        length_end (y ∷ xs) x = let h = length_end xs x in omega (arith, h)

  -- a rule without an anchor
  grown_free : slot.wanted ≡ wanted_mask rule.left → anchor rule.left ≡ None → slot.bucket ≡ None → slot.place ≡ length l → f ≡ e → m ≡ l ++ one ∷ []
      → Inner rules e l slots → number ≡ length slots → number + 1 < 2 ^ 32 → Inner (rules ++ rule ∷ []) f m (slots ++ slot ∷ [])
  unfolding one
  grown_free wants none bucket place same more i is few =
      joined wants i is few
      (λ token. ap (bucket_of token) same ∙ sym (append-nil (bucket_of token e)) ∙ ap (λ (a : Option Token). bucket_of token e ++ cond (holds token a) (one ∷ []) []) (sym none))
      (more ∙ ap (λ (a : Option Token). l ++ cond (is_none a) (one ∷ []) []) (sym none))
      (λ s x h. stays s.bucket s.place x h)
      (ap (λ (b : Option ℕ). in_bucket b slot.place f m) bucket ∙ ap (λ (k : ℕ). slice_get m k) place ∙ ap (λ (xs : List Numbered). slice_get xs (length l)) more ∙ get_last l one)
    where
      stays : (b : Option ℕ) (k : ℕ) (x : Numbered) → in_bucket b k e l ≡ Some x → in_bucket b k f m ≡ Some x
      stays None k x h = ap (λ (xs : List Numbered). slice_get xs k) more ∙ get_kept l (one ∷ []) k x h
      stays (Some p) k x h = ap (λ (es : List (Token × List Numbered)). at_place (slice_get es p) k) same ∙ h

  -- a rule with an anchor
  grown_anchored : slot.wanted ≡ wanted_mask rule.left → (a : Token) → anchor rule.left ≡ Some a → (place : ℕ) (key : Token) (bucket : List Numbered) → slot.bucket ≡ Some place → slice_get e place ≡ Some (key, bucket) → same_token a key ≡ true
      → slot.place ≡ length bucket → Grows place one e f → m ≡ l
      → Inner rules e l slots → number ≡ length slots → number + 1 < 2 ^ 32 → Inner (rules ++ rule ∷ []) f m (slots ++ slot ∷ [])
  unfolding one
  grown_anchored wants a anchored place key bucket at here alike end g same i is few =
      joined wants i is few each
      (same ∙ sym (append-nil l) ∙ ap (λ (b : Option Token). l ++ cond (is_none b) (one ∷ []) []) (sym anchored))
      (λ s x h. stays s.bucket s.place x h)
      (ap (λ (b : Option ℕ). in_bucket b slot.place f m) at ∙ ap (λ (x : Option (Token × List Numbered)). at_place x slot.place) g.is
      ∙ ap (λ (k : ℕ). slice_get (g.bucket ++ one ∷ []) k) (end ∙ ap (λ (x : Token × List Numbered). length x.1) entry) ∙ get_last g.bucket one)
    where
      entry : ◌≡◌ {A = Token × List Numbered} (key, bucket) (g.key, g.bucket)
      entry = cc (sym here ∙ g.was)

      link : (token : Token) → same_token g.key token ≡ has_anchor token rule
      link token =
          sym (same_equiv.congr a g.key token (ap (λ (x : Token × List Numbered). same_token a x.0) (sym entry) ∙ alike)) ∙ same_equiv.symm a token ∙ ap (holds token) (sym anchored)

      each_at : (token : Token) (b : Bool) → same_token g.key token ≡ b → bucket_of token f ≡ bucket_of token e ++ cond b (one ∷ []) []
      each_at token true q = (g.same token q).1 ∙ ap (λ (xs : List Numbered). xs ++ one ∷ []) (sym (g.same token q).0)
      each_at token false q = g.others token q ∙ sym (append-nil (bucket_of token e))

      each : (token : Token) → bucket_of token f ≡ bucket_of token e ++ cond (has_anchor token rule) (one ∷ []) []
      each token = each_at token (same_token g.key token) refl ∙ ap (λ (b : Bool). bucket_of token e ++ cond b (one ∷ []) []) (link token)

      longer : (p k : ℕ) (x : Numbered) → p ≡ place → (y : Token × List Numbered) → slice_get e p ≡ Some y → (z : List Numbered) × (slice_get f p ≡ Some (y.0, z)) × (slice_get y.1 k ≡ Some x → slice_get z k ≡ Some x)
      longer p k x q y is =
          let same_entry : y ≡ (g.key, g.bucket) = cc (sym is ∙ ap (slice_get e) q ∙ g.was) in (
            g.bucket ++ one ∷ [],
            ap (slice_get f) q ∙ g.is ∙ ap (λ (w : Token × List Numbered). Some (w.0, g.bucket ++ one ∷ [])) (sym same_entry),
            λ h. get_kept g.bucket (one ∷ []) k x (ap (λ (w : Token × List Numbered). slice_get w.1 k) (sym same_entry) ∙ h),
          )

      stays : (b : Option ℕ) (k : ℕ) (x : Numbered) → in_bucket b k e l ≡ Some x → in_bucket b k f m ≡ Some x
      stays None k x h = ap (λ (xs : List Numbered). slice_get xs k) same ∙ h
      stays (Some p) k x h = elim (cases_eq p place) [
        | inl q ↦ entry_kept e f p k x (slice_get e p) refl (longer p k x q) h
        | inr ne ↦ ap (λ (y : Option (Token × List Numbered)). at_place y k) (g.places p ne) ∙ h
      ]

  grown : IsSlotFor rule slot e l → Puts slot.bucket (record { number = number; rule = rule }) e l f m
      → Inner rules e l slots → number ≡ length slots → number + 1 < 2 ^ 32 → Inner (rules ++ rule ∷ []) f m (slots ++ slot ∷ [])
  unfolding one
  grown fits puts i is few = go (anchor rule.left) refl fits.at
    where
      go : (a : Option Token) → anchor rule.left ≡ a → IsSlotAt a slot e l → Inner (rules ++ rule ∷ []) f m (slots ++ slot ∷ [])
      go None q s =
          let p : Puts None one e l f m = subst (λ (b : Option ℕ). Puts b one e l f m) s.0 puts in
          grown_free fits.wants q s.0 s.1 p.0 p.1 i is few
      go (Some a) q (place, key, bucket, at, here, alike, end) =
          let p : Puts (Some place) one e l f m = subst (λ (b : Option ℕ). Puts b one e l f m) at puts in
          grown_anchored fits.wants a q place key bucket at here alike end p.0 p.1 i is few

-- there is a bucket for the rule
pub bucket_there : (rule : Rule) (slot : Slot) (e : List (Token × List Numbered)) (l : List Numbered) → IsSlotFor rule slot e l → IsBucket slot.bucket e
bucket_there rule slot e l fits = go (anchor rule.left) fits.at
  where
    go : (a : Option Token) → IsSlotAt a slot e l → IsBucket slot.bucket e
    go None s = subst (λ (b : Option ℕ). IsBucket b e) (sym s.0) tt
    go (Some a) (place, key, bucket, at, here, alike, end) = subst (λ (b : Option ℕ). IsBucket b e) (sym at) (slice_get_within e place (key, bucket) here)

-- ---- what the map says

lookup_agree : {X : Type 0} (p q : Token → Bool) → ((token : Token) → p token ≡ q token) → (es : List (Token × X)) → lookup p es ≡ lookup q es
lookup_agree p q h [] = refl
lookup_agree {X} p q h (x ∷ es) = ap (λ (b : Bool). cond b (Some x.1) (lookup p es)) (h x.0) ∙ ap (λ (o : Option X). cond (q x.0) (Some x.1) o) (lookup_agree p q h es)

set_here : {X : Type 0} (es : List (Token × X)) (i : ℕ) (w v : X) (key : Token) → slice_get es i ≡ Some (key, v) → slice_get (set_value_at es i w) i ≡ Some (key, w)
set_here [] i w v key h = absurd (cc h)
set_here {X} (x ∷ es) zero w v key h = let e : x ≡ (key, v) = cc h in ap (λ (y : Token × X). Some (y.0, w)) e
set_here (x ∷ es) (suc i) w v key h = set_here es i w v key h

set_keys : {X : Type 0} (es : List (Token × X)) (i : ℕ) (w : X) → keys_of (set_value_at es i w) ≡ keys_of es
set_keys [] i w = refl
set_keys (x ∷ es) zero w = refl
set_keys (x ∷ es) (suc i) w = ap (λ (ts : List Token). x.0 ∷ ts) (set_keys es i w)

set_other : {X : Type 0} (es : List (Token × X)) (i j : ℕ) (w : X) → (j ≡ i → ⊥) → slice_get (set_value_at es i w) j ≡ slice_get es j
set_other [] i j w ne = refl
set_other (x ∷ es) zero zero w ne = absurd (ne refl)
set_other (x ∷ es) zero (suc j) w ne = refl
set_other (x ∷ es) (suc i) zero w ne = refl
set_other (x ∷ es) (suc i) (suc j) w ne = set_other es i j w (λ e. ne (ap suc e))

pub set_same : {X : Type 0} (es : List (Token × X)) (i : ℕ) (w v : X) (key : Token) → slice_get es i ≡ Some (key, v) → w ≡ v → set_value_at es i w ≡ es
set_same [] i w v key h is = refl
set_same {X} (x ∷ es) zero w v key h is = let e : x ≡ (key, v) = cc h in ap (λ (y : X). (x.0, y) ∷ es) (is ∙ ap (λ (y : Token × X). y.1) (sym e))
set_same {X} (x ∷ es) (suc i) w v key h is = ap (λ (ys : List (Token × X)). x ∷ ys) (set_same es i w v key h is)

pub with_key : {X : Type 0} (es : List (Token × X)) (i : ℕ) (v : X) → slice_get (values_of es) i ≡ Some v → (key : Token) × (slice_get es i ≡ Some (key, v))
with_key [] i v h = absurd (cc h)
with_key {X} (x ∷ es) zero v h = let e : x.1 ≡ v = cc h in (x.0, ap (λ (y : X). Some (x.0, y)) e)
with_key (x ∷ es) (suc i) v h = with_key es i v h

pub grows_at : (e : List (Token × List Numbered)) (place : ℕ) (key : Token) (bucket w : List Numbered) (last : Numbered) → IsDistinct same_token (keys_of e) → slice_get e place ≡ Some (key, bucket) → w ≡ bucket ++ last ∷ []
    → ((token : Token) → lookup (same_token token) (set_value_at e place w) ≡ cond (same_token key token) (Some w) (lookup (same_token token) e))
    → Grows place last e (set_value_at e place w)
grows_at e place key bucket w last distinct was is looked = record {
  key = key;
  bucket = bucket;
  keys = set_keys e place w;
  was = was;
  is = set_here e place w bucket key was ∙ ap (λ (xs : List Numbered). Some (key, xs)) is;
  same = λ token q. (
    ap (λ (o : Option (List Numbered)). unwrap_or o []) (lookup_agree (same_token token) (same_token key) (λ x. sym (same_equiv.congr key token x q)) e ∙ lookup_from_place same_equiv e place key bucket distinct was),
    ap (λ (o : Option (List Numbered)). unwrap_or o []) (looked token ∙ ap (λ (b : Bool). cond b (Some w) (lookup (same_token token) e)) q) ∙ is,
  );
  others = λ token q. ap (λ (o : Option (List Numbered)). unwrap_or o []) (looked token ∙ ap (λ (b : Bool). cond b (Some w) (lookup (same_token token) e)) q);
  places = λ other ne. set_other e place other w ne;
}

-- the key that a search by a test found passes that test
pub key_passes : {X : Type 0} (test : Token → Bool) (es : List (Token × X)) (key : Token) → Some key ≡ lookup_key test es → test key ≡ true
key_passes test [] key h = absurd (cc h)
key_passes test (x ∷ es) key h = at (λ k. key_passes test es key k) (test x.0) refl
  where
    at : (Some key ≡ lookup_key test es → test key ≡ true) → (b : Bool) → test x.0 ≡ b → test key ≡ true
    at go true q = let e : Some key ≡ Some x.0 = h ∙ ap (λ (b : Bool). cond b (Some x.0) (lookup_key test es)) q in let k : key ≡ x.0 = cc e in ap test k ∙ q
    at go false q = go (h ∙ ap (λ (b : Bool). cond b (Some x.0) (lookup_key test es)) q)

bucket_end : (test : Token → Bool) (es : List (Token × List Numbered)) (key : Token) → unwrap_or (lookup test (es ++ (key, []) ∷ [])) [] ≡ unwrap_or (lookup test es) []
bucket_end test [] key = cond_both (test key) (Some []) None (λ (o : Option (List Numbered)). unwrap_or o [] ≡ []) (λ e. refl) (λ e. refl)
bucket_end test (x ∷ es) key = at (bucket_end test es key) (test x.0)
  where
    at : unwrap_or (lookup test (es ++ (key, []) ∷ [])) [] ≡ unwrap_or (lookup test es) [] → (b : Bool) → unwrap_or (cond b (Some x.1) (lookup test (es ++ (key, []) ∷ []))) [] ≡ unwrap_or (cond b (Some x.1) (lookup test es)) []
    at go true = refl
    at go false = go

-- the buckets as they are
pub keeps_same : (e : List (Token × List Numbered)) → Keeps e e
keeps_same e = record {
  front = ap (take (length e)) (sym (append-nil e)) ∙ take_front e [];
  each = λ token. refl;
  places = λ place entry h. h;
}

-- an empty bucket more
pub keeps_end : (e : List (Token × List Numbered)) (key : Token) → Keeps e (e ++ (key, []) ∷ [])
keeps_end e key = record {
  front = take_front e ((key, []) ∷ []);
  each = λ token. bucket_end (same_token token) e key;
  places = λ place entry h. get_kept e ((key, []) ∷ []) place entry h;
}

pub last_entry : (e : List (Token × List Numbered)) (key : Token) → slice_get (e ++ (key, []) ∷ []) (length e) ≡ Some (key, [])
last_entry e key = get_last e (key, [])

-- ---- the answers of `put`

-- a value that `put` has made longer by one, in its place, is the bucket there with one more
pub put_ok : (r : Result (Unit {0}) NoMemory) (b : Option ℕ) (place : ℕ) (last : Numbered) (e : List (Token × List Numbered)) (l v w : List Numbered) → b ≡ Some place → slice_get (values_of e) place ≡ Some v → IsDistinct same_token (keys_of e)
    → ((key : Token) → slice_get e place ≡ Some (key, v) → (token : Token) → lookup (same_token token) (set_value_at e place w) ≡ cond (same_token key token) (Some w) (lookup (same_token token) e))
    → OnOk r (w ≡ v ++ last ∷ []) → OnOk r (Puts b last e l (set_value_at e place w) l)
put_ok (Ok x) b place last e l v w is at distinct looked more =
    let k = with_key e place v at in
    subst (λ (c : Option ℕ). Puts c last e l (set_value_at e place w) l) (sym is) (grows_at e place k.0 v w last distinct k.1 more (looked k.0 k.1), refl)
put_ok (Err x) b place last e l v w is at distinct looked more = tt

-- a value that `put` left as it was, set in its place again, leaves all buckets as before
pub put_err : (r : Result (Unit {0}) NoMemory) (place : ℕ) (e : List (Token × List Numbered)) (l v w : List Numbered) → slice_get (values_of e) place ≡ Some v → OnErr r (w ≡ v)
    → OnErr r ((set_value_at e place w ≡ e) × (l ≡ l))
put_err (Ok x) place e l v w at same = tt
put_err (Err x) place e l v w at same = let k = with_key e place v at in (set_same e place w v k.0 k.1 same, refl)

-- an empty bucket that was put at the end stands at the place that was the number of them
pub added : (e f : List (Token × List Numbered)) (key : Token) (place : ℕ) → f ≡ e ++ (key, []) ∷ [] → place ≡ length e → slice_get f place ≡ Some (key, [])
added e f key place is at = ap (λ (es : List (Token × List Numbered)). slice_get es place) is ∙ ap (slice_get (e ++ (key, []) ∷ [])) at ∙ last_entry e key

-- ---- what the slots tell

slot_at : (e : List (Token × List Numbered)) (l : List Numbered) (n : ℕ) (slots : List Slot) (rules : List Rule) → map (stored e l) slots ≡ map Some (numbered_from n rules) → (k : ℕ) (slot : Slot) → slice_get slots k ≡ Some slot
    → (rule : Rule) × (stored e l slot ≡ Some (record { number = n + k; rule = rule })) × (slice_get rules k ≡ Some rule)
slot_at e l n [] rules h k slot is = absurd (cc is)
slot_at e l n (s ∷ slots) [] h k slot is = absurd (cc h)
slot_at e l n (s ∷ slots) (rule ∷ rules) h zero slot is =
    let first : stored e l s ≡ Some (record { number = n; rule = rule }) = cc h in
    let same : s ≡ slot = cc is in
    (rule, ap (stored e l) (sym same) ∙ first ∙ ap (λ (k : ℕ). Some (record { number = k; rule = rule })) {x = n} {y = n + 0} (omega arith), refl)
slot_at e l n (s ∷ slots) (rule ∷ rules) h (suc k) slot is =
    let rest : map (stored e l) slots ≡ map Some (numbered_from (n + 1) rules) = cc h in
    let found = slot_at e l (n + 1) slots rules rest k slot is in
    (found.0, found.1 ∙ ap (λ (j : ℕ). Some (record { number = j; rule = found.0 })) {x = n + 1 + k} {y = n + suc k} (omega arith), found.2)

none_there : {X Y : Type 0} (xs : List X) (ys : List Y) (k : ℕ) → length xs ≡ length ys → slice_get xs k ≡ None → slice_get ys k ≡ None
none_there [] [] k same is = refl
none_there [] (y ∷ ys) k same is = absurd (cc same)
none_there (x ∷ xs) [] k same is = absurd (cc same)
none_there (x ∷ xs) (y ∷ ys) zero same is = absurd (cc is)
none_there (x ∷ xs) (y ∷ ys) (suc k) same is = none_there xs ys k (cc same) is

-- an index has as many slots as rules
pub index_length : (rules : List Rule) (e : List (Token × List Numbered)) (l : List Numbered) (slots : List Slot) → IsIndex rules e l slots → length slots ≡ length rules
index_length rules e l slots i = same_length (stored e l) Some slots (numbered_from 0 rules) i.places ∙ numbered_length 0 rules

-- where there is no slot of a number, there is no rule of it
pub no_slot : (rules : List Rule) (e : List (Token × List Numbered)) (l : List Numbered) (slots : List Slot) (k : ℕ) → IsIndex rules e l slots → slice_get slots k ≡ None → slice_get rules k ≡ None
no_slot rules e l slots k i is = none_there slots rules k (index_length rules e l slots i) is

-- what is stored in the slot of a number is the rule of that number
pub some_slot : (rules : List Rule) (e : List (Token × List Numbered)) (l : List Numbered) (slots : List Slot) (k : ℕ) (slot : Slot) → IsIndex rules e l slots → slice_get slots k ≡ Some slot
    → (o : Option Numbered) → o ≡ stored e l slot → option_map (λ one. one.rule) o ≡ slice_get rules k
some_slot rules e l slots k slot i is o was =
    let found = slot_at e l 0 slots rules i.places k slot is in
    ap (option_map (λ one. one.rule)) (was ∙ found.1) ∙ sym found.2

-- ---- the ways out of `push`

-- what holds anyway holds after `NoMemory`
pub on_err : {P : Type 0} (r : Result (Unit {0}) NoMemory) → P → OnErr r P
on_err (Ok x) p = tt
on_err (Err x) p = p

-- what holds anyway holds after a call that found memory
pub on_ok : {P : Type 0} (r : Result (Unit {0}) NoMemory) → P → OnOk r P
on_ok (Ok x) p = p
on_ok (Err x) p = tt

-- what holds after `NoMemory` holds where the result is `NoMemory`
pub failed : {P : Type 0} (r : Result (Unit {0}) NoMemory) → is_err r ≡ true → OnErr r P → P
failed (Ok x) e h = absurd (true≢false (sym e))
failed (Err x) e h = h

-- what holds after a call that found memory holds where the result is no `NoMemory`
pub worked : {P : Type 0} (r : Result (Unit {0}) NoMemory) → is_err r ≡ false → OnOk r P → P
worked (Ok x) e h = h
worked (Err x) e h = absurd (true≢false e)

-- ---- the order of anchors

-- a key that a test found is among the keys
pub key_there : {X : Type 0} (test : Token → Bool) (es : List (Token × X)) (key : Token) → Some key ≡ lookup_key test es → list_any test (keys_of es) ≡ true
key_there test [] key h = absurd (cc h)
key_there test (x ∷ es) key h = at (λ k. key_there test es key k) (test x.0) refl
  where
    at : (Some key ≡ lookup_key test es → list_any test (keys_of es) ≡ true) → (b : Bool) → test x.0 ≡ b → (test x.0 || list_any test (keys_of es)) ≡ true
    at go true q = ap (λ (b : Bool). b || list_any test (keys_of es)) q
    at go false q = ap (λ (b : Bool). b || list_any test (keys_of es)) q ∙ go (h ∙ ap (λ (b : Bool). cond b (Some x.0) (lookup_key test es)) q)

-- where a test finds no value, no key passes it
pub no_key : {X : Type 0} (test : Token → Bool) (es : List (Token × X)) → lookup test es ≡ None → list_any test (keys_of es) ≡ false
no_key test [] h = refl
no_key {X} test (x ∷ es) h = at (λ k. no_key test es k) (test x.0) refl
  where
    at : (lookup test es ≡ None → list_any test (keys_of es) ≡ false) → (b : Bool) → test x.0 ≡ b → (test x.0 || list_any test (keys_of es)) ≡ false
    at go true q = let e : None ≡ Some x.1 = sym h ∙ ap (λ (b : Bool). cond b (Some x.1) (lookup test es)) q in absurd (cc e)
    at go false q = ap (λ (b : Bool). b || list_any test (keys_of es)) q ∙ go (sym (ap (λ (b : Bool). cond b (Some x.1) (lookup test es)) q) ∙ h)

-- an anchor that is there adds none
pub met : (token : Token) (tokens : List Token) → list_any (same_token token) tokens ≡ true → tokens ≡ with_anchor tokens (Some token)
met token tokens h = sym (ap (λ (b : Bool). cond b tokens (tokens ++ token ∷ [])) h)

-- one that isn't stands last
pub unmet : (token key : Token) (e f : List (Token × List Numbered)) → key ≡ token → f ≡ e ++ (key, []) ∷ [] → list_any (same_token token) (keys_of e) ≡ false → keys_of f ≡ with_anchor (keys_of e) (Some token)
unmet token key e f same is h =
    ap keys_of is ∙ map_end (λ (x : Token × List Numbered). x.0) e (key, []) ∙ ap (λ (t : Token). keys_of e ++ t ∷ []) same ∙ sym (ap (λ (b : Bool). cond b (keys_of e) (keys_of e ++ token ∷ [])) h)

puts_keys : (bucket : Option ℕ) (one : Numbered) (d f : List (Token × List Numbered)) (l m : List Numbered) → Puts bucket one d l f m → keys_of f ≡ keys_of d
puts_keys None _ d f l m puts = ap keys_of puts.0
puts_keys (Some place) _ d f l m puts = puts.0.keys

-- the key at a place of the buckets is the anchor of that place
pub anchor_at : (rules all : List Rule) (e : List (Token × List Numbered)) (l : List Numbered) (slots : List Slot) → IsIndex rules e l slots → rules ≡ all → (place : ℕ) → slice_get (keys_of e) place ≡ slice_get (anchors_of all) place
anchor_at rules all e l slots i same place = ap (λ (ts : List Token). slice_get ts place) (i.order ∙ ap anchors_of same)

-- ---- what `push` leaves

-- what is as before is an index of the same rules
pub same_index : (e f : List (Token × List Numbered)) (l m : List Numbered) (slots now : List Slot) → f ≡ e → m ≡ l → now ≡ slots → IsIndex (in_order e l slots) e l slots → IsIndex (in_order f m now) f m now
same_index e f l m slots now same free is i =
    subst (λ (es : List (Token × List Numbered)). IsIndex (in_order es m now) es m now) (sym same)
    (subst (λ (xs : List Numbered). IsIndex (in_order e xs now) e xs now) (sym free) (subst (λ (s : List Slot). IsIndex (in_order e l s) e l s) (sym is) i))

pub same_order : (e f : List (Token × List Numbered)) (l m : List Numbered) (slots now : List Slot) → f ≡ e → m ≡ l → now ≡ slots → in_order f m now ≡ in_order e l slots
same_order e f l m slots now same free is =
    ap (λ (es : List (Token × List Numbered)). in_order es m now) same ∙ ap (λ (xs : List Numbered). in_order e xs now) free ∙ ap (in_order e l) is

-- the buckets as they were are the front of those that are there
pub cut_back : (e d f g : List (Token × List Numbered)) (before : ℕ) → Keeps e d → f ≡ d → g ≡ take before f → before ≡ length e → g ≡ e
cut_back e d f g before keeps same is count = is ∙ ap (take before) same ∙ ap (λ (n : ℕ). take n d) count ∙ keeps.front

-- the rule was put in
pub done : (e d f : List (Token × List Numbered)) (l m : List Numbered) (slots more : List Slot) (slot : Slot) (rule : Rule) (number : ℕ) → Keeps e d → keys_of d ≡ with_anchor (keys_of e) (anchor rule.left)
    → IsIndex (in_order e l slots) e l slots → IsSlotFor rule slot d l → Adds slot (record { number = number; rule = rule }) d l slots f m more → number ≡ length slots → number + 1 < 2 ^ 32
    → IsIndex (in_order f m more) f m more × (in_order f m more ≡ in_order e l slots ++ rule ∷ [])
done e d f l m slots more slot rule number keeps order i fits adds is few =
    let same = in_order_is (in_order e l slots ++ rule ∷ []) f m (slots ++ slot ∷ []) all in (
      subst (λ (s : List Slot). IsIndex (in_order f m s) f m s) (sym adds.slots)
          (subst (λ (rules : List Rule). IsIndex rules f m (slots ++ slot ∷ [])) (sym same) (record { each = all.each; order = anchors; rest = all.rest; places = all.places; masks = all.masks; few = all.few })),
      ap (in_order f m) adds.slots ∙ same,
    )
  where
    all : Inner (in_order e l slots ++ rule ∷ []) f m (slots ++ slot ∷ [])
    all = grown (in_order e l slots) d f l m slots slot rule number fits adds.puts (calm (in_order e l slots) e d l slots keeps (inner (in_order e l slots) e l slots i)) is few

    anchors : keys_of f ≡ anchors_of (in_order e l slots ++ rule ∷ [])
    anchors =
        puts_keys slot.bucket (record { number = number; rule = rule }) d f l m adds.puts ∙ order ∙ ap (λ (ts : List Token). with_anchor ts (anchor rule.left)) i.order
        ∙ sym (fold-append (λ (ts : List Token) (r : Rule). with_anchor ts (anchor r.left)) [] (in_order e l slots) (rule ∷ []))

-- a copy, rule by rule
pub take_next : (rules copied more : List Rule) (n : ℕ) (o : Option Rule) → copied ≡ take n rules → o ≡ slice_get rules n → more ≡ copied ++ listed o → more ≡ take (n + 1) rules
take_next rules copied more n o so is joins =
    joins ∙ ap (λ (rs : List Rule). rs ++ listed o) so ∙ ap (λ (x : Option Rule). take n rules ++ listed x) is ∙ next rules n ∙ ap (λ (k : ℕ). take k rules) {x = suc n} {y = n + 1} (omega arith)
  where
    next : (rules : List Rule) (n : ℕ) → take n rules ++ listed (slice_get rules n) ≡ take (suc n) rules
    next [] zero = refl
    next [] (suc n) = refl
    next (rule ∷ rules) zero = refl
    next (rule ∷ rules) (suc n) = ap (λ (rs : List Rule). rule ∷ rs) (next rules n)

-- ---- what the left sides want

wanted_at : (slots : List Slot) (rules : List Rule) → map (λ (slot : Slot). slot.wanted) slots ≡ map (λ (rule : Rule). wanted_mask rule.left) rules → (k : ℕ) (slot : Slot) (rule : Rule) → slice_get slots k ≡ Some slot → slice_get rules k ≡ Some rule
    → slot.wanted ≡ wanted_mask rule.left
wanted_at [] rules same k slot rule is at = absurd (cc is)
wanted_at (s ∷ slots) [] same k slot rule is at = absurd (cc at)
wanted_at (s ∷ slots) (r ∷ rules) same zero slot rule is at =
    let one : s ≡ slot = cc is in
    let other : r ≡ rule = cc at in
    let first : s.wanted ≡ wanted_mask r.left = cc same in
    ap (λ (x : Slot). x.wanted) (sym one) ∙ first ∙ ap (λ (x : Rule). wanted_mask x.left) other
wanted_at (s ∷ slots) (r ∷ rules) same (suc k) slot rule is at =
    let rest : map (λ (slot : Slot). slot.wanted) slots ≡ map (λ (rule : Rule). wanted_mask rule.left) rules = cc same in
    wanted_at slots rules rest k slot rule is at

-- what the slot of a number wants is what its rule wants
pub slot_wants : (rules all : List Rule) (e : List (Token × List Numbered)) (l : List Numbered) (slots : List Slot) → IsIndex rules e l slots → rules ≡ all → (k : ℕ) (slot : Slot) (rule : Rule) → slice_get slots k ≡ Some slot → slice_get all k ≡ Some rule
    → slot.wanted ≡ wanted_mask rule.left
slot_wants rules all e l slots i same k slot rule is at = wanted_at slots rules i.masks k slot rule is (ap (λ (rs : List Rule). slice_get rs k) same ∙ at)

-- where there is a rule there is a slot
pub rule_has_slot : (rules all : List Rule) (e : List (Token × List Numbered)) (l : List Numbered) (slots : List Slot) → IsIndex rules e l slots → rules ≡ all → (k : ℕ) (rule : Rule) → slice_get all k ≡ Some rule → slice_get slots k ≡ None → ⊥
rule_has_slot rules all e l slots i same k rule at none = absurd (cc (sym (no_slot rules e l slots k i none) ∙ ap (λ (rs : List Rule). slice_get rs k) same ∙ at))

module _ (mask : ℕ) (slots : List Slot) (from place : ℕ) (d : Slot) (within : place < length slots) where
  there : slice_get slots place ≡ Some (get_or slots place d)
  there = slice_get-get_or slots place d within

  -- one slot more that isn't covered
  pub one_more : covers mask (get_or slots place d).wanted ≡ false → AreUncovered mask slots from place → AreUncovered mask slots from (place + 1)
  one_more not before k other le lt is = elim (cases_order k place) [
    | inl e ↦
        let same : Some (get_or slots place d) ≡ Some other = sym there ∙ ap (slice_get slots) (sym e) ∙ is in
        let one : get_or slots place d ≡ other = cc same in
        ap (λ (s : Slot). covers mask s.wanted) (sym one) ∙ not
    | inr (inl less) ↦ before k other le less is
    | inr (inr more) ↦ absurd (omega (arith, lt, more))
  ]

  -- the first that is
  pub first_at : from ≤ place → covers mask (get_or slots place d).wanted ≡ true → AreUncovered mask slots from place → IsFirstCovered mask slots from place
  first_at above covered before = record {
    above = above;
    slot = get_or slots place d;
    at = there;
    covered = covered;
    before = before;
  }

-- none of all
pub none_at : (mask : ℕ) (slots : List Slot) (from place : ℕ) → length slots ≤ place → AreUncovered mask slots from place → AreUncovered mask slots from (length slots)
none_at mask slots from place end before k other le lt is = before k other le (omega (arith, lt, end)) is

module _ (rules all : List Rule) (e : List (Token × List Numbered)) (l : List Numbered) (slots : List Slot) (i : IsIndex rules e l slots) (same : rules ≡ all) (mask from : ℕ) where
  slot_there : (k : ℕ) (rule : Rule) → slice_get all k ≡ Some rule → (o : Option Slot) → slice_get slots k ≡ o → (slot : Slot) × (slice_get slots k ≡ Some slot)
  slot_there k rule at None is = absurd (rule_has_slot rules all e l slots i same k rule at is)
  slot_there k rule at (Some slot) is = (slot, is)

  uncovered : (end k : ℕ) (rule : Rule) → AreUncovered mask slots from end → from ≤ k → k < end → slice_get all k ≡ Some rule → covers mask (wanted_mask rule.left) ≡ false
  uncovered end k rule none le lt at =
      let there = slot_there k rule at (slice_get slots k) refl in
      ap (covers mask) (sym (slot_wants rules all e l slots i same k there.0 rule there.1 at)) ∙ none k there.0 le lt there.1

  -- the first slot that is covered is that of the first rule
  pub covered_rule : (place : ℕ) → IsFirstCovered mask slots from place → IsNextCovered all from mask place
  covered_rule place first = record {
    above = first.above;
    within =
        let lt = slice_get_within slots place first.slot first.at in
        let long : length slots ≡ length all = index_length rules e l slots i ∙ ap length same in
        omega (arith, lt, long);
    covered = λ rule at. ap (covers mask) (sym (slot_wants rules all e l slots i same place first.slot rule first.at at)) ∙ first.covered;
    first = λ k other le lt at. uncovered place k other first.before le lt at;
  }

  -- and where no slot is, no rule is
  pub uncovered_rule : AreUncovered mask slots from (length slots) → (k : ℕ) (rule : Rule) → from ≤ k → slice_get all k ≡ Some rule → covers mask (wanted_mask rule.left) ≡ false
  uncovered_rule none k rule le at =
      let there = slot_there k rule at (slice_get slots k) refl in
      uncovered (length slots) k rule none le (slice_get_within slots k there.0 there.1) at
