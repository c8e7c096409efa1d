-- What is picked by counts is what has a place behind the ones that were taken.
use Rattle.std.proofs.Common.{Bor, ◌≡◌, ◌≢◌, ℕ, ◌+◌, ◌<◌, List, [], ◌∷◌, ◌++◌, length, get_or, drop, map, Bool, true, false, ◌||◌, cond, Option, Some, unwrap_or, if◌then◌else◌, true≢false, refl, sym, ◌∙◌, ap, subst, arith}
use Rattle.std.specs.Prelude.{bytes_eq, codes, count_by, nat_eq, nat_lt}
use Rattle.std.specs.Cmp.Lexicographic.{bytes_decides}
use Rattle.std.proofs.lemmas.List.{drop_more}
use Rattle.std.proofs.lemmas.List.Sums.{sum_by-cons}
use Rattle.mail_base.specs.Catalogs.{value_at, with_value}
use Rattle.mail_base.specs.Configs.{main_group}
use Rattle.mail_base.specs.declared.mailer.Group.{Group}
use Rattle.mail_base.proofs.CatalogLemmas.{with_value_sets}
use Rattle.spool_store.specs.Entries.{Stored, ids}
use Rattle.spool_store.specs.declared.held.Held.{Held}
use Rattle.queue_table.specs.Claims.{or_lane}
use Rattle.mail_core.specs.Holding.{lane_at, lane_for, main_lane, named_lane, wait_by}
use Rattle.mail_core.specs.Listed.{has_job, jobs_of, with_jobs}
use Rattle.mail_core.specs.Plans.{Once, Plan}
use Rattle.mail_core.specs.Sites.{Site}
use Rattle.mail_core.specs.inner.Fixing.{Counts, count_at, counted, lane_in, own_or_main, picked, place_in, put_if}

-- ---- lanes

named : (site : Site) (group : List ℕ) (groups : List (List ℕ × Group)) → (or_lane (main_lane site) (value_at group (map (named_lane site) groups))).group ≡ own_or_main group (value_at group groups)
named site group [] = refl
named site group (p ∷ groups) = by (bytes_eq group p.0) refl (named site group groups)
  where
    by : (b : Bool) → bytes_eq group p.0 ≡ b → (or_lane (main_lane site) (value_at group (map (named_lane site) groups))).group ≡ own_or_main group (value_at group groups)
        → (or_lane (main_lane site) (cond b (Some (lane_for site p.0 p.1)) (value_at group (map (named_lane site) groups)))).group ≡ own_or_main group (cond b (Some p.1) (value_at group groups))
    by true e rest = sym ((bytes_decides group p.0).0 e)
    by false e rest = rest

waited : (site : Site) (asked : Option (List ℕ)) (group : List ℕ) (groups : List (List ℕ × Group)) → site.plan ≡ Once asked → (or_lane (main_lane site) (value_at group (map (named_lane site) groups))).wait ≡ site.config.options.min_queue_age
waited site asked group [] once = ap (λ (p : Plan). wait_by p site.config.options.min_queue_age (unwrap_or (value_at (codes "mqueue") site.config.groups) main_group).interval) once
waited site asked group (p ∷ groups) once = by (bytes_eq group p.0) (waited site asked group groups once)
  where
    by : (b : Bool) → (or_lane (main_lane site) (value_at group (map (named_lane site) groups))).wait ≡ site.config.options.min_queue_age
        → (or_lane (main_lane site) (cond b (Some (lane_for site p.0 p.1)) (value_at group (map (named_lane site) groups)))).wait ≡ site.config.options.min_queue_age
    by true rest = ap (λ (q : Plan). wait_by q site.config.options.min_queue_age p.1.interval) once
    by false rest = rest

-- the name of the lane of an entry
pub lane_named : (site : Site) (s : Stored) → (lane_at site s).group ≡ lane_in site.config.groups s.control.group
lane_named site s = named site s.control.group site.config.groups

-- in a run over the queue the least age is the wait of each lane
pub lane_waits : (site : Site) (asked : Option (List ℕ)) (s : Stored) → site.plan ≡ Once asked → (lane_at site s).wait ≡ site.config.options.min_queue_age
lane_waits site asked s once = waited site asked s.control.group site.config.groups once

-- ---- counts

abbrev pub count_in : Site → List ℕ → List Stored → ℕ
count_in site lane taken = count_by (λ other. bytes_eq (lane_at site other).group lane) taken

-- of each lane with a limit so many were taken as are counted
abbrev pub AreCounted : Site → Counts → List Stored → Type 0
AreCounted site counts taken = (lane : List ℕ) → nat_eq (jobs_of site lane) 0 ≡ false → count_at lane counts ≡ count_in site lane taken

pub none_counted : (site : Site) → AreCounted site [] []
none_counted site lane limited = refl

own_count : (lane : List ℕ) (n : ℕ) (counts : Counts) → count_at lane (with_value lane n counts) ≡ n
own_count lane n counts = ap (λ o. unwrap_or o 0) (with_value_sets lane n counts).value

other_count : (lane other : List ℕ) (n : ℕ) (counts : Counts) → other ≢ lane → count_at other (with_value lane n counts) ≡ count_at other counts
other_count lane other n counts apart = ap (λ o. unwrap_or o 0) ((with_value_sets lane n counts).others other apart)

more_by : (site : Site) (own lane : List ℕ) (counts : Counts) (n : ℕ) (same free : Bool) → bytes_eq own lane ≡ same → nat_eq (jobs_of site own) 0 ≡ free → nat_eq (jobs_of site lane) 0 ≡ false → count_at lane counts ≡ n
    → count_at lane (if free then counts else with_value own (count_at own counts + 1) counts) ≡ cond same 1 0 + n
more_by site own lane counts n true true s f limited is = absurd (true≢false (sym f ∙ ap (λ l. nat_eq (jobs_of site l) 0) ((bytes_decides own lane).0 s) ∙ limited))
more_by site own lane counts n true false s f limited is =
    let e : own ≡ lane = (bytes_decides own lane).0 s in
    let was : count_at own counts ≡ n = ap (λ l. count_at l counts) e ∙ is in
    let now : count_at own (with_value own (count_at own counts + 1) counts) ≡ count_at own counts + 1 = own_count own (count_at own counts + 1) counts in
    subst (λ l. count_at l (with_value own (count_at own counts + 1) counts) ≡ 1 + n) e (now ∙ omega (arith, was))
more_by site own lane counts n false true s f limited is = is ∙ omega arith
more_by site own lane counts n false false s f limited is =
    let apart : lane ≢ own = λ e. true≢false (sym ((bytes_decides own lane).1 (sym e)) ∙ s) in
    other_count own lane (count_at own counts + 1) counts apart ∙ is ∙ omega arith

-- an entry more is counted in its lane
more_counted : (site : Site) (s : Stored) (counts : Counts) (taken : List Stored) → AreCounted site counts taken → AreCounted site (counted (jobs_of site (lane_in site.config.groups s.control.group)) (lane_in site.config.groups s.control.group) counts) (s ∷ taken)
more_counted site s counts taken are lane limited =
    let own = lane_in site.config.groups s.control.group in
    more_by site own lane counts (count_in site lane taken) (bytes_eq own lane) (nat_eq (jobs_of site own) 0) refl refl limited (are lane limited)
    ∙ ap (λ l. cond (bytes_eq l lane) 1 0 + count_in site lane taken) (sym (lane_named site s))
    ∙ sym (sum_by-cons (λ other. cond (bytes_eq (lane_at site other).group lane) 1 0) s taken)

-- ---- what is picked

same_places : (free : Bool) (m n jobs : ℕ) → (free ≡ false → m ≡ n) → (free || nat_lt m jobs) ≡ (free || nat_lt n jobs)
same_places true m n jobs same = refl
same_places false m n jobs same = ap (λ k. nat_lt k jobs) (same refl)

-- a place by the counts is one behind those that were taken
same_place : (site : Site) (s : Stored) (counts : Counts) (taken : List Stored) → AreCounted site counts taken → place_in site.config.groups s.control.group counts ≡ has_job site taken s
same_place site s counts taken are =
    let own = lane_in site.config.groups s.control.group in
    same_places (nat_eq (jobs_of site own) 0) (count_at own counts) (count_in site own taken) (jobs_of site own) (are own)
    ∙ ap (λ l. nat_eq (jobs_of site l) 0 || nat_lt (count_in site l taken) (jobs_of site l)) (sym (lane_named site s))

-- an entry of a store with a body
abbrev pub stored_by : (ℕ → List ℕ) → Held → Stored
stored_by bodies h =
    record {
      id = h.entry.id;
      dir = h.entry.dir;
      control = h.entry.control;
      body = bodies h.entry.id;
    }

pick_step : (rest : Counts → List ℕ) (more counts : Counts) (s : Stored) (mine others : List Stored) (place job : Bool) → place ≡ job → rest more ≡ ids mine → rest counts ≡ ids others → put_if place s.id (rest (if place then more else counts)) ≡ ids (if job then s ∷ mine else others)
pick_step rest more counts s mine others true true same m o = ap (λ (t : List ℕ). s.id ∷ t) m
pick_step rest more counts s mine others true false same m o = absurd (true≢false same)
pick_step rest more counts s mine others false true same m o = absurd (true≢false (sym same))
pick_step rest more counts s mine others false false same m o = o

-- what is picked by counts is what has a place behind the ones that were taken
pub picked_are : (site : Site) (bodies : ℕ → List ℕ) (hs : List Held) (counts : Counts) (taken : List Stored) → AreCounted site counts taken → picked site.config.groups counts hs ≡ ids (with_jobs site taken (map (stored_by bodies) hs))
picked_are site bodies [] counts taken are = refl
picked_are site bodies (h ∷ hs) counts taken are =
    let s = stored_by bodies h in
    let own = lane_in site.config.groups h.entry.control.group in
    let more = counted (jobs_of site own) own counts in
    let later = map (stored_by bodies) hs in
    pick_step (λ cs. picked site.config.groups cs hs) more counts s (with_jobs site (s ∷ taken) later) (with_jobs site taken later)
    (place_in site.config.groups h.entry.control.group counts) (has_job site taken s) (same_place site s counts taken are)
    (picked_are site bodies hs more (s ∷ taken) (more_counted site s counts taken are))
    (picked_are site bodies hs counts taken are)

-- a loop's step: an entry more was looked at
pub pick_more : (groups : List (List ℕ × Group)) (xs : List (Bor Held)) (i : ℕ) (x : Bor Held) (old new all : List ℕ) (was now : Counts) → i < length xs → x ≡ get_or xs i x → old ++ picked groups was (map (λ (b : Bor Held). b.now) (drop i xs)) ≡ all
    → ((later : List Held) → new ++ picked groups now later ≡ old ++ picked groups was (x.now ∷ later)) → new ++ picked groups now (map (λ (b : Bor Held). b.now) (drop (i + 1) xs)) ≡ all
pick_more groups xs i x old new all was now lt is before step =
    let next : drop i xs ≡ x ∷ drop (i + 1) xs = drop_more xs i x lt ∙ ap (λ (y : Bor Held). y ∷ drop (i + 1) xs) (sym is) in
    step (map (λ (b : Bor Held). b.now) (drop (i + 1) xs)) ∙ ap (λ (l : List (Bor Held)). old ++ picked groups was (map (λ (b : Bor Held). b.now) l)) (sym next) ∙ before
