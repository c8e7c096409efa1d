-- The plans at which a dialogue stands.
use Rattle.std.proofs.Common.{◌≡◌, ◌<◌, ◌≤◌, ℕ, suc, ◌+◌, ◌-◌, Bool, true, false, cond, List, [], ◌∷◌, ◌++◌, length, map, take, drop, get_or, set, refl, sym, ◌∙◌, ap, append-nil, add-one, drop-cons, take_all, length-set, length-drop, arith}
use Rattle.std.proofs.lemmas.Grind.{take_at_read, take-set_at}
use Rattle.std.proofs.lemmas.List.{drop-set-lt, map-append, drop_all, take_rest}
use borrow.Rule.Slice.PartMut.{put_mid, mid_of}
use mathlib.Core.Bool.{true≢false}
use Rattle.std.specs.Prelude.{Option, Some, None}
use Rattle.std.specs.List.{list_any}
use Rattle.mail_base.specs.declared.outcome.Result1.{Result1}
use Rattle.mailer_smtp.specs.declared.kit.Kit.{Kit}
use Rattle.mailer_smtp.specs.declared.kit.Speech.{Speech}
use Rattle.mailer_smtp.specs.declared.verdict.Verdict.{Verdict}
use Rattle.mailer_smtp.specs.declared.verdict.Wants.TheVariants.{Done, Go}
use Rattle.mailer_smtp.specs.Plans.{Plan, Over, Hears, asks, over, each, texted, answered, receivers, mailing, passed, is_sent, is_whole, is_yes, result_of, row_of, settled, unsaid_row}

-- a list from a place on begins with what is there
pub drop_here : {X : Type 0} (xs : List X) (i : ℕ) (x : X) → x ≡ get_or xs i x → i < length xs → drop i xs ≡ x ∷ drop (i + 1) xs
drop_here xs i x is within = rw add-one (drop-cons xs i x within ∙ ap (λ q. q ∷ drop (suc i) xs) (sym is))

-- the end by a reply
pub over_is : (reply : Verdict) (rows now : List Result1) (left : List (Option (List ℕ))) (whole : Bool) → whole ≡ is_whole reply → now ≡ map (settled reply) rows ++ map (row_of (result_of reply)) left → over reply rows left ≡ Over whole false now
over_is reply rows now left whole w n = ap (λ b. Over b false (map (settled reply) rows ++ map (row_of (result_of reply)) left)) (sym w) ∙ ap (λ xs. Over whole false xs) (sym n)

-- what follows a choice
pub when : {X : Type 0} (b : Bool) (x y : X) → b ≡ true → cond b x y ≡ x
when true x y h = refl
when false x y h = absurd (true≢false (sym h))

pub unless : {X : Type 0} (b : Bool) (x y : X) → b ≡ false → cond b x y ≡ y
unless true x y h = absurd (true≢false h)
unless false x y h = refl

-- after a reply to RCPT
pub rcpt_go : Speech → Kit → List Result1 → List ℕ → List (Option (List ℕ)) → Verdict → Plan
rcpt_go speech kit rows line left = λ reply. cond (is_whole reply) (receivers speech kit (rows ++ result_of reply ∷ []) left) (over reply rows (Some line ∷ left))

-- after a reply for a row
pub row_go : List Result1 → Result1 → List Result1 → Verdict → Plan
row_go got row rows = λ reply. cond (is_whole reply) (each (got ++ result_of reply ∷ []) rows) (Over false false (got ++ map (settled reply) (row ∷ rows)))

-- after the reply to DATA
pub start_go : Speech → Kit → List Result1 → Verdict → Plan
start_go speech kit rows = λ reply. cond (is_yes reply) (texted speech kit rows) (over reply rows [])

-- after the reply to MAIL
pub mail_go : Speech → Kit → Verdict → Plan
mail_go speech kit = λ reply. cond (is_yes reply) (receivers speech kit [] kit.rcpts) (over reply [] kit.rcpts)

pub rcpt_asked : (speech : Speech) (kit : Kit) (rows : List Result1) (rcpt : Option (List ℕ)) (line : List ℕ) (left : List (Option (List ℕ))) → rcpt ≡ Some line → asks line Done (rcpt_go speech kit rows line left) ≡ receivers speech kit rows (rcpt ∷ left)
unfolding rcpt_go
rcpt_asked speech kit rows rcpt line left is = ap (λ r. receivers speech kit rows (r ∷ left)) (sym is)

-- a recipient that isn't asked for
pub rcpt_unsaid : (speech : Speech) (kit : Kit) (rows now : List Result1) (rcpt : Option (List ℕ)) (left : List (Option (List ℕ))) → rcpt ≡ None → now ≡ rows ++ unsaid_row ∷ [] → receivers speech kit rows (rcpt ∷ left) ≡ receivers speech kit now left
rcpt_unsaid speech kit rows now rcpt left is now_is = ap (λ r. receivers speech kit rows (r ∷ left)) is ∙ ap (λ xs. receivers speech kit xs left) (sym now_is)

pub each_here : (got : List Result1) (rows : List Result1) (i : ℕ) (row : Result1) → row ≡ get_or rows i row → i < length rows → is_sent row ≡ true → each got (drop i rows) ≡ Hears Done (row_go got row (drop (i + 1) rows))
unfolding row_go
each_here got rows i row is within sent = ap (each got) (drop_here rows i row is within) ∙ when (is_sent row) _ (each (got ++ row ∷ []) (drop (i + 1) rows)) sent

pub each_other : (got : List Result1) (rows : List Result1) (i : ℕ) (row : Result1) → row ≡ get_or rows i row → i < length rows → is_sent row ≡ false → each got (drop i rows) ≡ each (got ++ row ∷ []) (drop (i + 1) rows)
each_other got rows i row is within other = ap (each got) (drop_here rows i row is within) ∙ unless (is_sent row) (Hears Done (λ reply. cond (is_whole reply) (each (got ++ result_of reply ∷ []) (drop (i + 1) rows)) (Over false false (got ++ map (settled reply) (row ∷ drop (i + 1) rows))))) (each (got ++ row ∷ []) (drop (i + 1) rows)) other

pub answered_some : (speech : Speech) (kit : Kit) (rows : List Result1) → list_any is_sent rows ≡ true → answered speech kit rows ≡ asks kit.start Go (start_go speech kit rows)
unfolding start_go
answered_some speech kit rows some = when (list_any is_sent rows) _ (Over true false rows) some

pub answered_none : (speech : Speech) (kit : Kit) (rows : List Result1) → list_any is_sent rows ≡ false → answered speech kit rows ≡ Over true false rows
answered_none speech kit rows none = unless (list_any is_sent rows) (asks kit.start Go (λ reply. cond (is_yes reply) (texted speech kit rows) (over reply rows []))) (Over true false rows) none

-- rows of which the first are done
pub record Settling {X : Type 0} (f : X → X) (start rows : List X) (k : ℕ) : Type 0 where
  pub done : take k rows ≡ map f (take k start)
  pub left : drop k rows ≡ drop k start
  pub size : length rows ≡ length start

same_head : {X : Type 0} (x y : X) (xs ys : List X) → x ∷ xs ≡ y ∷ ys → (x ≡ y) × (xs ≡ ys)
same_head x y xs ys e = (cc, cc)

-- one more is done
settling_by : {X : Type 0} (f : X → X) (start rows now : List X) (k : ℕ) (row : X) → Settling f start rows k → k < length rows → row ≡ get_or rows k row → length now ≡ length rows → take (k + 1) now ≡ take k rows ++ f row ∷ [] → drop (k + 1) now ≡ drop (k + 1) rows → Settling f start now (k + 1)
settling_by f start rows now k row h within is same more rest =
    let inside : k < length start = omega (arith, h.size, within) in
    let heads : row ∷ drop (k + 1) rows ≡ get_or start k row ∷ drop (k + 1) start = sym (drop_here rows k row is within) ∙ h.left ∙ rw add-one (drop-cons start k row inside) in
    let parts = same_head row (get_or start k row) (drop (k + 1) rows) (drop (k + 1) start) heads in
    record {
      done = more ∙ ap (λ xs. xs ++ f row ∷ []) h.done ∙ ap (λ x. map f (take k start) ++ f x ∷ []) parts.0 ∙ sym (ap (map f) (take_at_read start k row inside).1 ∙ map-append f (take k start) (get_or start k row ∷ []));
      left = rest ∙ parts.1;
      size = same ∙ h.size;
    }

pub settling_set : {X : Type 0} (f : X → X) (start rows now : List X) (k : ℕ) (row new : X) → Settling f start rows k → k < length rows → row ≡ get_or rows k row → now ≡ set rows k new → new ≡ f row → Settling f start now (k + 1)
settling_set f start rows now k row new h within is now_is new_is =
    settling_by f start rows now k row h within is (ap length now_is ∙ length-set rows k new)
    (ap (take (k + 1)) now_is ∙ take-set_at rows k (k + 1) new refl within ∙ ap (λ x. take k rows ++ x ∷ []) new_is)
    (ap (drop (k + 1)) now_is ∙ drop-set-lt (k + 1) rows k new (omega arith))

pub settled_all : {X : Type 0} (f : X → X) (start rows : List X) (k : ℕ) → Settling f start rows k → length start ≤ k → rows ≡ map f start
settled_all f start rows k h all = sym (take_all k rows (omega (arith, h.size, all))) ∙ h.done ∙ ap (map f) (take_all k start all)

-- the rest of a list in its place
pub put_rest : {X : Type 0} (a : ℕ) (xs ys : List X) → put_mid a (length xs - a) xs ys ≡ take a xs ++ ys
put_rest a xs ys = ap (λ zs. take a xs ++ (ys ++ zs)) (drop_all (length xs - a) (drop a xs) (omega (arith, length-drop a xs))) ∙ ap (λ zs. take a xs ++ zs) (append-nil ys)

pub mid_rest : {X : Type 0} (a : ℕ) (xs : List X) → mid_of a (length xs - a) xs ≡ drop a xs
mid_rest a xs = take_rest xs a

-- the end by a reply, at rows and users that are known by equations
pub over_at : (reply was : Verdict) (rows start now : List Result1) (left all : List (Option (List ℕ))) (whole : Bool) → was ≡ reply → rows ≡ start → left ≡ all → whole ≡ is_whole was → now ≡ map (settled was) rows ++ map (row_of (result_of was)) left → over reply start all ≡ Over whole false now
over_at reply was rows start now left all whole same from of w n = over_is reply start now all whole (w ∙ ap is_whole same) (n ∙ ap (λ v. map (settled v) rows ++ map (row_of (result_of v)) left) same ∙ ap (λ xs. map (settled reply) xs ++ map (row_of (result_of reply)) left) from ∙ ap (λ xs. map (settled reply) start ++ map (row_of (result_of reply)) xs) of)

pub passed_at : (kit : Kit) (reply was : Verdict) (now : List Result1) (left : List (Option (List ℕ))) (whole : Bool) → was ≡ reply → left ≡ kit.rcpts → whole ≡ is_whole was → now ≡ map (row_of (result_of was)) left → passed kit reply ≡ Over whole true now
passed_at kit reply was now left whole same of w n = ap (λ b. Over b true (map (row_of (result_of reply)) kit.rcpts)) (sym (w ∙ ap is_whole same)) ∙ ap (λ xs. Over whole true xs) (sym (n ∙ ap (λ v. map (row_of (result_of v)) left) same ∙ ap (λ xs. map (row_of (result_of reply)) xs) of))

-- a reply to RCPT that isn't whole
pub rcpt_lost : (speech : Speech) (kit : Kit) (rows : List Result1) (rcpt : Option (List ℕ)) (line : List ℕ) (left : List (Option (List ℕ))) (reply : Verdict) → rcpt ≡ Some line → is_whole reply ≡ false → rcpt_go speech kit rows line left reply ≡ over reply rows (rcpt ∷ left)
unfolding rcpt_go
rcpt_lost speech kit rows rcpt line left reply is lost = unless (is_whole reply) (receivers speech kit (rows ++ result_of reply ∷ []) left) (over reply rows (Some line ∷ left)) lost ∙ ap (λ r. over reply rows (r ∷ left)) (sym is)

-- and one that is
pub rcpt_heard : (speech : Speech) (kit : Kit) (rows now : List Result1) (line : List ℕ) (left : List (Option (List ℕ))) (reply : Verdict) → is_whole reply ≡ true → now ≡ rows ++ result_of reply ∷ [] → rcpt_go speech kit rows line left reply ≡ receivers speech kit now left
unfolding rcpt_go
rcpt_heard speech kit rows now line left reply heard is = when (is_whole reply) (receivers speech kit (rows ++ result_of reply ∷ []) left) (over reply rows (Some line ∷ left)) heard ∙ ap (λ xs. receivers speech kit xs left) (sym is)

-- the recipient at a place, and those behind it
pub rcpts_here : (speech : Speech) (kit : Kit) (rows : List Result1) (all : List (Option (List ℕ))) (i : ℕ) (rcpt : Option (List ℕ)) → rcpt ≡ get_or all i rcpt → i < length all → receivers speech kit rows (drop i all) ≡ receivers speech kit rows (rcpt ∷ drop (i + 1) all)
rcpts_here speech kit rows all i rcpt is within = ap (receivers speech kit rows) (drop_here all i rcpt is within)

pub rcpts_lost : (reply : Verdict) (rows now : List Result1) (all : List (Option (List ℕ))) (i : ℕ) (rcpt : Option (List ℕ)) → rcpt ≡ get_or all i rcpt → i < length all → length rows ≡ i → now ≡ rows → over reply now (rcpt ∷ drop (i + 1) all) ≡ over reply now (drop (length now) all)
rcpts_lost reply rows now all i rcpt is within size kept = ap (over reply now) (sym (drop_here all i rcpt is within) ∙ ap (λ n. drop n all) (sym (ap length kept ∙ size)))

pub rcpts_all : (speech : Speech) (kit : Kit) (rows : List Result1) (all : List (Option (List ℕ))) (i : ℕ) → length all ≤ i → receivers speech kit rows (drop i all) ≡ answered speech kit rows
rcpts_all speech kit rows all i past = ap (receivers speech kit rows) (drop_all i all past)

-- a reply for a row that isn't whole
pub each_lost : (rows now : List Result1) (i : ℕ) (row : Result1) (reply : Verdict) → row ≡ get_or rows i row → i < length rows → is_whole reply ≡ false → now ≡ map (settled reply) (mid_of i (length rows - i) rows) → row_go (take i rows) row (drop (i + 1) rows) reply ≡ Over false false (put_mid i (length rows - i) rows now)
unfolding row_go
each_lost rows now i row reply is within lost now_is =
    unless (is_whole reply) (each (take i rows ++ result_of reply ∷ []) (drop (i + 1) rows)) (Over false false (take i rows ++ map (settled reply) (row ∷ drop (i + 1) rows))) lost
    ∙ ap (Over false false) (ap (λ xs. take i rows ++ map (settled reply) xs) (sym (drop_here rows i row is within)) ∙ ap (λ xs. take i rows ++ xs) (sym (now_is ∙ ap (map (settled reply)) (mid_rest i rows))) ∙ sym (put_rest i rows now))

-- and one that is
pub each_heard : (rows next : List Result1) (i : ℕ) (row new : Result1) (reply : Verdict) → i < length rows → is_whole reply ≡ true → next ≡ set rows i new → new ≡ result_of reply → row_go (take i rows) row (drop (i + 1) rows) reply ≡ each (take (i + 1) next) (drop (i + 1) next)
unfolding row_go
each_heard rows next i row new reply within heard next_is new_is =
    let front : take i rows ++ result_of reply ∷ [] ≡ take (i + 1) next = ap (λ x. take i rows ++ x ∷ []) (sym new_is) ∙ sym (take-set_at rows i (i + 1) new refl within) ∙ ap (take (i + 1)) (sym next_is) in
    let back : drop (i + 1) rows ≡ drop (i + 1) next = sym (drop-set-lt (i + 1) rows i new (omega arith)) ∙ ap (drop (i + 1)) (sym next_is) in
    when (is_whole reply) (each (take i rows ++ result_of reply ∷ []) (drop (i + 1) rows)) (Over false false (take i rows ++ map (settled reply) (row ∷ drop (i + 1) rows))) heard
    ∙ ap (λ xs. each xs (drop (i + 1) rows)) front ∙ ap (each (take (i + 1) next)) back

pub each_same : (rows next : List Result1) (i : ℕ) (row : Result1) → row ≡ get_or rows i row → i < length rows → is_sent row ≡ false → next ≡ rows → each (take i rows) (drop i rows) ≡ each (take (i + 1) next) (drop (i + 1) next)
each_same rows next i row is within other next_is =
    let front : take i rows ++ row ∷ [] ≡ take (i + 1) next = ap (λ x. take i rows ++ x ∷ []) is ∙ sym (take_at_read rows i row within).1 ∙ ap (take (i + 1)) (sym next_is) in
    each_other (take i rows) rows i row is within other ∙ ap (λ xs. each xs (drop (i + 1) rows)) front ∙ ap (λ xs. each (take (i + 1) next) (drop (i + 1) xs)) (sym next_is)

pub each_all : (rows : List Result1) (i : ℕ) → length rows ≤ i → each (take i rows) (drop i rows) ≡ Over true false rows
each_all rows i all = ap (each (take i rows)) (drop_all i rows all) ∙ ap (Over true false) (take_all i rows all)

-- after the reply to DATA
pub started : (speech : Speech) (kit : Kit) (rows : List Result1) (reply : Verdict) → is_yes reply ≡ true → start_go speech kit rows reply ≡ texted speech kit rows
unfolding start_go
started speech kit rows reply accepts = when (is_yes reply) (texted speech kit rows) (over reply rows []) accepts

pub refused : (speech : Speech) (kit : Kit) (rows : List Result1) (reply : Verdict) → is_yes reply ≡ false → start_go speech kit rows reply ≡ over reply rows []
unfolding start_go
refused speech kit rows reply refuses = unless (is_yes reply) (texted speech kit rows) (over reply rows []) refuses

-- after the reply to MAIL
pub mailed : (speech : Speech) (kit : Kit) (reply : Verdict) → is_yes reply ≡ true → mail_go speech kit reply ≡ receivers speech kit [] kit.rcpts
unfolding mail_go
mailed speech kit reply accepts = when (is_yes reply) (receivers speech kit [] kit.rcpts) (over reply [] kit.rcpts) accepts

pub unmailed : (speech : Speech) (kit : Kit) (reply : Verdict) → is_yes reply ≡ false → mail_go speech kit reply ≡ over reply [] kit.rcpts
unfolding mail_go
unmailed speech kit reply refuses = unless (is_yes reply) (receivers speech kit [] kit.rcpts) (over reply [] kit.rcpts) refuses

pub mailing_is : (speech : Speech) (kit : Kit) (eight : Bool) (text : List ℕ) → text ≡ cond eight kit.mail_eight kit.mail → asks text Done (mail_go speech kit) ≡ mailing speech kit eight
unfolding mail_go
mailing_is speech kit eight text same = ap (λ t. asks t Done (λ reply. cond (is_yes reply) (receivers speech kit [] kit.rcpts) (over reply [] kit.rcpts))) same
