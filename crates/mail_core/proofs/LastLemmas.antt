-- What becomes of entries and rows along the commands of a run.
use Rattle.std.proofs.Common.{◌≡◌, ⊎_elim, ℕ, zero, suc, ◌<◌, List, [], ◌∷◌, Bool, Some, if◌then◌else◌, refl, sym, ◌∙◌, ap, subst, arith, ne_eqb, Less}
use Rattle.std.specs.Prelude.{All, Contains, slice_get}
use Rattle.std.specs.List.{AllByRecursion, AllZip}
use Rattle.std.specs.List.Sorted.{IsStrictlySortedBy}
use Rattle.std.specs.Ordering.{nat_cmp}
use Rattle.std.proofs.lemmas.Bool.{eq-eqb, false≢true}
use Rattle.std.proofs.lemmas.Cmp.{ranked}
use Rattle.std.proofs.lemmas.Option.{get_or_from_slice_get, none-some, same_Some}
use Rattle.std.proofs.lemmas.List.Elements.{All-cons, All-contains, All-nil, Contains-append_left}
use Rattle.mail_base.specs.declared.control.Control.{Control}
use Rattle.mail_base.specs.declared.control.Row.{Row}
use Rattle.mail_base.specs.declared.control.State.{State}
use Rattle.mail_base.specs.declared.control.State.TheVariants.{Sent}
use Rattle.mail_base.specs.States.{is_queued}
use Rattle.spool_store.specs.Entries.{Stored, Table, ids}
use Rattle.spool_store.proofs.Standing.{contains_cases, contains_head, contains_tail}
use Rattle.queue_table.specs.Commands.{Command, after, control_at}
use Rattle.queue_table.specs.Soundness.{CanDo, EntryGoes, Goes, IsSound, IsTried, RowGoes, TableGoes, died, goes_on, has_failed, stays, was_sent, went_back}
use Rattle.queue_table.proofs.SoundLemmas.{command_sound}
use Rattle.queue_run.specs.Deeds.{Asks, Claims, Files, Frees, Polls, Starts, Talks}
use Rattle.mail_core.specs.Effects.{Does, Effect, HangsUp, Sends, Takes, Ticks, table_after}
use Rattle.mail_core.specs.Lasting.{Comes, IsSentAt, Lasts, RowCame, is_there, went_on}
use Rattle.mail_core.proofs.LeadLemmas.{AreFit}

-- ---- entries are found by their ids

above_least : (n : ℕ) (xs : List Stored) → AllByRecursion (λ y. nat_cmp n y ≡ Less) (ids xs) → All (λ (s : Stored). n < s.id) xs
above_least n [] h = All-nil (λ (s : Stored). n < s.id)
above_least n (x ∷ xs) h = All-cons (λ (s : Stored). n < s.id) x xs (ranked n x.id Less (sym h.0)) (above_least n xs h.1)

first_least : (x s : Stored) (xs : List Stored) → IsStrictlySortedBy nat_cmp (ids (x ∷ xs)) → Contains xs s → x.id < s.id
unfolding IsStrictlySortedBy
first_least x s xs up among = All-contains (λ (q : Stored). x.id < q.id) xs s (above_least x.id xs up.0) among

rest_sorted : (x : Stored) (xs : List Stored) → IsStrictlySortedBy nat_cmp (ids (x ∷ xs)) → IsStrictlySortedBy nat_cmp (ids xs)
unfolding IsStrictlySortedBy
rest_sorted x xs up = up.1

nothing_in : {X : Type 0} (x : X) → Contains [] x → ⊥
nothing_in x k = let lt = k.1 in omega (arith, lt)

pub found_by_id : (xs : List Stored) (s : Stored) → IsStrictlySortedBy nat_cmp (ids xs) → Contains xs s → control_at s.id xs ≡ Some s.control
found_by_id [] s up among = absurd (nothing_in s among)
found_by_id (x ∷ xs) s up among = ⊎_elim
    (λ (same : x ≡ s). subst (λ (q : Stored). control_at q.id (x ∷ xs) ≡ Some q.control) same (ap (λ (b : Bool). if b then Some x.control else control_at x.id xs) (eq-eqb x.id x.id refl)))
    (λ (later : Contains xs s). let lt = first_least x s xs up later in ap (λ (b : Bool). if b then Some x.control else control_at s.id xs) (ne_eqb x.id s.id (λ e. omega (arith, lt, e))) ∙ found_by_id xs s (rest_sorted x xs up) later)
    (contains_cases x s xs among)

-- ---- rows and entries come where they may

rows_came : (old mid new : List Row) → AllZip RowGoes old mid → AllZip RowCame mid new → AllZip RowCame old new
rows_came [] [] [] h k = tt
rows_came [] [] (n ∷ new) h k = absurd k
rows_came [] (m ∷ mid) new h k = absurd h
rows_came (o ∷ old) [] new h k = absurd h
rows_came (o ∷ old) (m ∷ mid) [] h k = absurd k
rows_came (o ∷ old) (m ∷ mid) (n ∷ new) h k = (
  record {
    address = k.0.address ∙ h.0.address;
    primary = k.0.primary ∙ h.0.primary;
    state = went_on o.state m.state n.state h.0.state k.0.state;
  },
  rows_came old mid new h.1 k.1,
)

rows_stay : (rows : List Row) → AllZip RowCame rows rows
rows_stay [] = tt
rows_stay (row ∷ rows) = (record { address = refl; primary = refl; state = is_there row.state }, rows_stay rows)

-- what became of an entry in one command
record IsGone (entries : List Stored) (s : Stored) : Type 0 where
  now : Stored
  among : Contains entries now
  goes : EntryGoes s now

gone_in : (old kept : List Stored) (s : Stored) → AllZip EntryGoes old kept → Contains old s → IsGone kept s
gone_in [] [] s each among = absurd (nothing_in s among)
gone_in [] (k ∷ kept) s each among = absurd each
gone_in (o ∷ old) [] s each among = absurd each
gone_in (o ∷ old) (k ∷ kept) s each among = ⊎_elim
    (λ (same : o ≡ s). record { now = k; among = contains_head k kept; goes = subst (λ q. EntryGoes q k) same each.0 })
    (λ (later : Contains old s). let g = gone_in old kept s each.1 later in record { now = g.now; among = contains_tail k g.now kept g.among; goes = g.goes })
    (contains_cases o s old among)

abbrev pub Going : Type 0
Going = (table : Table) (command : Command) → IsSound table → CanDo table command → TableGoes table (after table command)

lasts_past : (s now : Stored) (table : Table) → EntryGoes s now → Lasts table now → Lasts table s
lasts_past s now table g l = record {
  now = l.now;
  among = l.among;
  came = record {
    id = l.came.id ∙ g.id;
    dir = l.came.dir ∙ g.dir;
    body = l.came.body ∙ g.body;
    parent = l.came.parent ∙ g.parent;
    rows = rows_came s.control.rows now.control.rows l.now.control.rows g.rows l.came.rows;
  };
}

-- along fit effects each entry lasts
pub lasts_along : Going → (table : Table) (effects : List Effect) (s : Stored) → IsSound table → AreFit table effects → Contains table.entries s → Lasts (table_after table effects) s
lasts_along going table [] s sound fit among = record { now = s; among = among; came = record { id = refl; dir = refl; body = refl; parent = refl; rows = rows_stay s.control.rows } }
lasts_along going table (Does (Asks command) ∷ effects) s sound fit among =
    let t = going table command sound fit.0 in
    let g = gone_in table.entries t.kept s t.each among in
    let there : Contains (after table command).entries g.now = subst (λ (q : List Stored). Contains q g.now) (sym t.entries) (Contains-append_left t.kept t.added g.now g.among) in
    lasts_past s g.now (table_after (after table command) effects) g.goes (lasts_along going (after table command) effects g.now (command_sound table command sound fit.0) fit.1 there)
lasts_along going table (Does (Claims id rows) ∷ effects) s sound fit among = lasts_along going table effects s sound fit.1 among
lasts_along going table (Does (Frees id) ∷ effects) s sound fit among = lasts_along going table effects s sound fit.1 among
lasts_along going table (Does (Files id) ∷ effects) s sound fit among = lasts_along going table effects s sound fit.1 among
lasts_along going table (Does (Starts id places start launch) ∷ effects) s sound fit among = lasts_along going table effects s sound fit.1 among
lasts_along going table (Does (Polls id child poll) ∷ effects) s sound fit among = lasts_along going table effects s sound fit.1 among
lasts_along going table (Does (Talks id places talk) ∷ effects) s sound fit among = lasts_along going table effects s sound fit.1 among
lasts_along going table (Takes event ∷ effects) s sound fit among = lasts_along going table effects s sound fit.1 among
lasts_along going table (Ticks reading ∷ effects) s sound fit among = lasts_along going table effects s sound fit.1 among
lasts_along going table (Sends session text whole ∷ effects) s sound fit among = lasts_along going table effects s sound fit.1 among
lasts_along going table (HangsUp session ∷ effects) s sound fit among = lasts_along going table effects s sound fit.1 among

-- ---- a row that was sent stays so

sent_goes : (s x : State) → s ≡ Sent → Goes s x → x ≡ Sent
sent_goes s x e (stays _) = e
sent_goes s x e (goes_on before now) = cc e
sent_goes s x e (was_sent before) = refl
sent_goes s x e (has_failed before status note) = cc e
sent_goes s x e (went_back status note id) = cc e
sent_goes s x e (died status note) = cc e

sent_comes : (s x : State) → s ≡ Sent → Comes s x → x ≡ Sent
sent_comes s x e (is_there _) = e
sent_comes s x e (went_on _ between _ goes comes) = sent_comes between x (sent_goes s between e goes) comes

-- the row at a place that was sent
pub record IsSentRow (rows : List Row) (place : ℕ) : Type 0 where
  pub row : Row
  pub there : slice_get rows place ≡ Some row
  pub sent : row.state ≡ Sent

pub row_sent : (old new : List Row) (place : ℕ) (row : Row) → AllZip RowCame old new → slice_get old place ≡ Some row → row.state ≡ Sent → IsSentRow new place
row_sent [] [] place row each there sent = absurd (none-some row there)
row_sent [] (n ∷ new) place row each there sent = absurd each
row_sent (o ∷ old) [] place row each there sent = absurd each
row_sent (o ∷ old) (n ∷ new) zero row each there sent =
    let same : o ≡ row = same_Some o row there in
    record { row = n; there = refl; sent = sent_comes o.state n.state (ap (λ (q : Row). q.state) same ∙ sent) each.0.state }
row_sent (o ∷ old) (n ∷ new) (suc place) row each there sent = let r = row_sent old new place row each.1 there sent in record { row = r.row; there = r.there; sent = r.sent }

pub sent_along : Going → (table : Table) (effects : List Effect) (id place : ℕ) → IsSound table → AreFit table effects → IsSentAt table id place → IsSentAt (table_after table effects) id place
sent_along going table effects id place sound fit s =
    let l = lasts_along going table effects s.entry sound fit s.among in
    let r = row_sent s.entry.control.rows l.now.control.rows place s.row l.came.rows s.there s.sent in
    record { entry = l.now; among = l.among; is = l.came.id ∙ s.is; row = r.row; there = r.there; sent = r.sent }

-- it isn't tried
pub sent_untried : (table : Table) (id place : ℕ) (control : Control) → IsSound table → IsSentAt table id place → control_at id table.entries ≡ Some control → IsTried control.rows place → ⊥
sent_untried table id place control sound s there tried =
    let found = ap (λ q. control_at q table.entries) (sym s.is) ∙ found_by_id table.entries s.entry sound.ascending s.among in
    let same : s.entry.control ≡ control = cc (sym found ∙ there) in
    let at : slice_get control.rows place ≡ Some s.row = ap (λ (q : Control). slice_get q.rows place) (sym same) ∙ s.there in
    let queued = tried.queued s.row in
    let row = get_or_from_slice_get control.rows place s.row s.row at in
    false≢true (sym (ap (λ (q : Row). is_queued q.state) row ∙ ap is_queued s.sent) ∙ queued)
