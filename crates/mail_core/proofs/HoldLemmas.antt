-- Who is held behind a step and behind a claim.
use Rattle.std.proofs.Common.{◌≡◌, ◌≢◌, ℕ, ◌+◌, List, [], ◌∷◌, ◌++◌, Bool, true, false, cond, not, ◌&&◌, ◌||◌, Option, Some, None, refl, sym, ◌∙◌, ap, arith, map, true≢false, ne_eqb, eq-eqb}
use Rattle.std.specs.Prelude.{All, count_by, eqb, filter, option_to_list}
use Rattle.std.proofs.lemmas.Bool.{eqb-true}
use Rattle.std.proofs.lemmas.List.{map-append}
use Rattle.std.proofs.lemmas.List.Elements.{All-cons, All-head, All-nil, All-tail}
use Rattle.std.proofs.lemmas.List.Folds.{list_any-append}
use Rattle.queue_table.specs.Claims.{is_held}
use Rattle.queue_table.specs.declared.waiting.Holder.{Holder as Held}
use Rattle.queue_table.specs.declared.waiting.Waiting.{Waiting}
use Rattle.queue_run.specs.Holders.{Holder, holder_of}
use Rattle.queue_run.specs.declared.runner.Runner.{Runner}
use Rattle.mail_core.specs.Holding.{held_as}
use Rattle.mail_core.specs.Idling.{seated}
use Rattle.mail_core.specs.Sites.{Site}
use Rattle.mail_core.specs.States.{Seat}
use Rattle.mail_core.proofs.ApartLemmas.{IsSameId}
use Rattle.mail_core.specs.inner.Carrying.{KeepsHeld}
use Rattle.mail_core.specs.Crews.{HasPlace, IsWaiting}
use Rattle.mail_core.proofs.LaneLemmas.{counts_both, counts_left, counts_one, one_if}

abbrev pub holder_at : Seat → Holder
holder_at seat = seat.holder

-- the holders of seats with one more
pub seats_more : (others : List Seat) (lane : List ℕ) (o : Option Holder) → map holder_at (others ++ seated lane o) ≡ map holder_at others ++ option_to_list o
seats_more others lane o = map-append holder_at others (seated lane o) ∙ ap (λ q. map holder_at others ++ q) (by o)
  where
    by : (o : Option Holder) → map holder_at (seated lane o) ≡ option_to_list o
    by None = refl
    by (Some h) = refl

-- the seats of other runners are of other entries
pub seats_apart : (id : ℕ) (rs : List Runner) (ss : List Seat) → map holder_of rs ≡ map holder_at ss → All (λ (r : Runner). r.id ≢ id) rs → All (λ (s : Seat). s.holder.id ≢ id) ss
seats_apart id [] [] same all = All-nil (λ (s : Seat). s.holder.id ≢ id)
seats_apart id [] (s ∷ ss) same all = cc same
seats_apart id (r ∷ rs) [] same all = cc same
seats_apart id (r ∷ rs) (s ∷ ss) same all =
    let first : holder_of r ≡ s.holder = cc same in
    let rest : map holder_of rs ≡ map holder_at ss = cc same in
    All-cons (λ (q : Seat). q.holder.id ≢ id) s ss (λ e. All-head (λ (q : Runner). q.id ≢ id) r rs all (ap (λ (h : Holder). h.id) first ∙ e))
    (seats_apart id rs ss rest (All-tail (λ (q : Runner). q.id ≢ id) r rs all))

-- those of other entries all stay
count_kept : (id : ℕ) (p : Held → Bool) (ss : List Seat) → All (λ (s : Seat). s.holder.id ≢ id) ss → count_by (λ (h : Held). not (eqb h.id id) && p h) (map held_as ss) ≡ count_by p (map held_as ss)
count_kept id p [] apart = refl
count_kept id p (s ∷ ss) apart =
    let c = counts_one (λ (h : Held). not (eqb h.id id) && p h) (held_as s) (map held_as ss) in
    let d = counts_one p (held_as s) (map held_as ss) in
    let r = count_kept id p ss (All-tail (λ (q : Seat). q.holder.id ≢ id) s ss apart) in
    let e : eqb s.holder.id id ≡ false = ne_eqb s.holder.id id (All-head (λ (q : Seat). q.holder.id ≢ id) s ss apart) in
    let f : one_if (not (eqb s.holder.id id) && p (held_as s)) ≡ one_if (p (held_as s)) = ap (λ b. one_if (not b && p (held_as s))) e in
    omega (arith, c, d, r, f)

-- a holder that stepped stands behind the others, or was let go
pub waiting_on : (site : Site) (old new : Waiting) (seat : Seat) (others : List Seat) (o : Option Holder) → IsSameId seat.holder.id o → All (λ (s : Seat). s.holder.id ≢ seat.holder.id) others
    → IsWaiting site old (seat ∷ others) → KeepsHeld seat.holder.id o old new → IsWaiting site new (others ++ seated seat.lane o)
waiting_on site old new seat others None id apart is keeps = record {
  lanes = ap (λ (w : Waiting). w.lanes) keeps ∙ is.lanes;
  other = ap (λ (w : Waiting). w.other) keeps ∙ is.other;
  holders = λ p.
      let q = λ (h : Held). not (eqb h.id seat.holder.id) && p h in
      let a : count_by p new.holders ≡ count_by q old.holders = ap (λ (w : Waiting). count_by p w.holders) keeps ∙ counts_left (λ (h : Held). not (eqb h.id seat.holder.id)) p old.holders in
      let b : count_by q (map held_as (seat ∷ others)) ≡ count_by q old.holders = is.holders q in
      let c = counts_one q (held_as seat) (map held_as others) in
      let d = count_kept seat.holder.id p others apart in
      let e : one_if (not (eqb seat.holder.id seat.holder.id) && p (held_as seat)) ≡ 0 = ap (λ b. one_if (not b && p (held_as seat))) (eq-eqb seat.holder.id seat.holder.id refl) in
      let f : count_by p (map held_as (others ++ [])) ≡ count_by p (map held_as others) + 0 = ap (count_by p) (map-append held_as others []) ∙ counts_both p (map held_as others) [] in
      omega (arith, a, b, c, d, e, f);
}
waiting_on site old new seat others (Some h) id apart is keeps = record {
  lanes = ap (λ (w : Waiting). w.lanes) keeps ∙ is.lanes;
  other = ap (λ (w : Waiting). w.other) keeps ∙ is.other;
  holders = λ p.
      let now : Seat = record { lane = seat.lane; holder = h } in
      let a : count_by p new.holders ≡ count_by p old.holders = ap (λ (w : Waiting). count_by p w.holders) keeps in
      let b = is.holders p in
      let c = counts_one p (held_as seat) (map held_as others) in
      let e : one_if (p (held_as now)) ≡ one_if (p (held_as seat)) = ap (λ n. one_if (p (record { id = n; lane = seat.lane }))) id in
      let f : count_by p (map held_as (others ++ now ∷ [])) ≡ count_by p (map held_as others) + count_by p (held_as now ∷ []) = ap (count_by p) (map-append held_as others (now ∷ [])) ∙ counts_both p (map held_as others) (held_as now ∷ []) in
      let g = counts_one p (held_as now) [] in
      let z : count_by p [] ≡ 0 = refl in
      omega (arith, a, b, c, e, f, g, z);
}

-- ---- the entries of runners are held

-- one is let go
left_held : (id other : ℕ) (hs : List Held) → other ≢ id → is_held hs other ≡ true → is_held (filter (λ (h : Held). not (eqb h.id id)) hs) other ≡ true
left_held id other [] ne held = held
left_held id other (h ∷ hs) ne held = by (eqb h.id id) (eqb h.id other) refl refl held (left_held id other hs ne)
  where
    by : (b c : Bool) → eqb h.id id ≡ b → eqb h.id other ≡ c → (c || is_held hs other) ≡ true → (is_held hs other ≡ true → is_held (filter (λ (h : Held). not (eqb h.id id)) hs) other ≡ true)
        → is_held (cond (not b) (h ∷ filter (λ (h : Held). not (eqb h.id id)) hs) (filter (λ (h : Held). not (eqb h.id id)) hs)) other ≡ true
    by true true e f held rest = absurd (ne (sym (eqb-true h.id other f) ∙ eqb-true h.id id e))
    by true false e f held rest = rest held
    by false true e f held rest = ap (λ b. b || is_held (filter (λ (h : Held). not (eqb h.id id)) hs) other) f
    by false false e f held rest = ap (λ b. b || is_held (filter (λ (h : Held). not (eqb h.id id)) hs) other) f ∙ rest held

pub places_left : (w now : Waiting) (id : ℕ) (rs : List Runner) → now ≡ record w { holders = filter (λ h. not (eqb h.id id)) w.holders; quiet = 0 } → All (λ (r : Runner). r.id ≢ id) rs → All (HasPlace w) rs → All (HasPlace now) rs
places_left w now id [] is apart held = All-nil (HasPlace now)
places_left w now id (r ∷ rs) is apart held =
    All-cons (HasPlace now) r rs
    (ap (λ (q : Waiting). is_held q.holders r.id) is ∙ left_held id r.id w.holders (All-head (λ (q : Runner). q.id ≢ id) r rs apart) (All-head (HasPlace w) r rs held))
    (places_left w now id rs is (All-tail (λ (q : Runner). q.id ≢ id) r rs apart) (All-tail (HasPlace w) r rs held))

-- the same are held
pub places_same : (w now : Waiting) (rs : List Runner) → now ≡ record w { quiet = now.quiet } → All (HasPlace w) rs → All (HasPlace now) rs
places_same w now [] is held = All-nil (HasPlace now)
places_same w now (r ∷ rs) is held =
    All-cons (HasPlace now) r rs (ap (λ (q : Waiting). is_held q.holders r.id) is ∙ All-head (HasPlace w) r rs held) (places_same w now rs is (All-tail (HasPlace w) r rs held))

-- one more is held
more_held : (id : ℕ) (hs : List Held) (h : Held) → is_held hs id ≡ true → is_held (hs ++ h ∷ []) id ≡ true
more_held id hs h held = list_any-append (λ (q : Held). eqb q.id id) hs (h ∷ []) ∙ ap (λ b. b || (eqb h.id id || false)) held

pub places_more : (w now : Waiting) (h : Held) (rs : List Runner) → now ≡ record w { holders = w.holders ++ h ∷ []; quiet = 0 } → All (HasPlace w) rs → All (HasPlace now) rs
places_more w now h [] is held = All-nil (HasPlace now)
places_more w now h (r ∷ rs) is held =
    All-cons (HasPlace now) r rs (ap (λ (q : Waiting). is_held q.holders r.id) is ∙ more_held r.id w.holders h (All-head (HasPlace w) r rs held)) (places_more w now h rs is (All-tail (HasPlace w) r rs held))

pub last_held : (w now : Waiting) (h : Held) → now ≡ record w { holders = w.holders ++ h ∷ []; quiet = 0 } → is_held now.holders h.id ≡ true
last_held w now h is =
    ap (λ (q : Waiting). is_held q.holders h.id) is ∙ list_any-append (λ (q : Held). eqb q.id h.id) w.holders (h ∷ [])
    ∙ ap (λ b. is_held w.holders h.id || (b || false)) (eq-eqb h.id h.id refl) ∙ or_true (is_held w.holders h.id)
  where
    or_true : (b : Bool) → (b || true) ≡ true
    or_true true = refl
    or_true false = refl

-- an entry that nobody holds is no runner's
pub others_differ : (w : Waiting) (id : ℕ) (rs : List Runner) → is_held w.holders id ≡ false → All (HasPlace w) rs → All (λ (r : Runner). r.id ≢ id) rs
others_differ w id [] out held = All-nil (λ (r : Runner). r.id ≢ id)
others_differ w id (r ∷ rs) out held =
    All-cons (λ (q : Runner). q.id ≢ id) r rs (λ same. true≢false (sym (All-head (HasPlace w) r rs held) ∙ ap (is_held w.holders) same ∙ out))
    (others_differ w id rs out (All-tail (HasPlace w) r rs held))
