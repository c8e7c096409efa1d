-- Runners behind the step of one of them.
use Rattle.std.proofs.Common.{◌≡◌, ◌≢◌, ℕ, List, [], ◌∷◌, ◌++◌, Option, Some, None, true, refl, sym, ◌∙◌, subst}
use Rattle.std.specs.Prelude.{All, IfSome}
use Rattle.std.proofs.lemmas.List.Elements.{All-append, All-cons, All-head, All-nil, All-tail, All-weaker}
use Rattle.mail_base.specs.Histories.{Gains}
use Rattle.spawn_edge.specs.Children.{is_running}
use Rattle.spawn_edge.specs.Spawned.{IsRunningAt, Spawned}
use Rattle.spawn_edge.specs.declared.event.SpawnEvent.{SpawnEvent}
use Rattle.queue_table.specs.declared.table.Table.{Table as Kept}
use Rattle.queue_run.specs.Working.{HasChild, HasOwnChild, KeepsChildren, KeepsOthersReady}
use Rattle.queue_run.specs.declared.runner.Runner.{Runner}
use Rattle.queue_run.specs.declared.runner.Running.{Running}
use Rattle.mail_core.specs.Crews.{AreBeside, HaveTwo, IsAble, IsBeside}

-- ---- options

pub some_all : {X : Type 0} (o : Option X) (P : X → Type 0) → ((x : X) → o ≡ Some x → P x) → IfSome o P
some_all None P f = tt
some_all (Some x) P f = f x refl

pub some_of : {X : Type 0} (o : Option X) (P : X → Type 0) (x : X) → o ≡ Some x → IfSome o P → P x
some_of o P x is h = subst (λ q. IfSome q P) is h

pub none_any : {X : Type 0} (o : Option X) (P : X → Type 0) → o ≡ None → IfSome o P
none_any o P is = subst (λ q. IfSome q P) (sym is) tt

-- ---- two runners

two_swap : (r other : Runner) → HaveTwo r other → HaveTwo other r
two_swap r other two =
    some_all other.running (λ (one : Running). IfSome r.running (λ (two : Running). two.child ≢ one.child))
    (λ o o_is. some_all r.running (λ (two : Running). two.child ≢ o.child)
    (λ q q_is. λ same. some_of other.running (λ (x : Running). x.child ≢ q.child) o o_is (some_of r.running (λ (one : Running). IfSome other.running (λ (x : Running). x.child ≢ one.child)) q q_is two) (sym same)))

pub beside_swap : (spawner : Spawned) (r other : Runner) → IsBeside spawner r other → IsBeside spawner other r
beside_swap spawner r other h = record {
  ids = λ same. h.ids (sym same);
  children = some_all spawner.told (λ history. HaveTwo other r) (λ history is. two_swap r other (some_of spawner.told (λ history. HaveTwo r other) history is h.children));
}

-- what is known where a spawner tells
told_on : (ta tb : Option (List SpawnEvent)) (events : List SpawnEvent) (P : Type 0) → Gains ta tb events → IfSome ta (λ history. P) → IfSome tb (λ history. P)
told_on None None events P gains p = tt
told_on None (Some k) events P gains p = absurd gains
told_on (Some h) None events P gains p = absurd gains
told_on (Some h) (Some k) events P gains p = p

module _ (a b : Spawned) (events : List SpawnEvent) (gains : Gains a.told b.told events) where
  -- two that don't step
  pub beside_on : (r other : Runner) → IsBeside a r other → IsBeside b r other
  beside_on r other h = record { ids = h.ids; children = told_on a.told b.told events (HaveTwo r other) gains h.children }

  pub all_beside_on : (rs : List Runner) → AreBeside a rs → AreBeside b rs
  all_beside_on [] h = tt
  all_beside_on (r ∷ rs) h = (All-weaker (IsBeside a r) (IsBeside b r) (beside_on r) rs h.0, all_beside_on rs h.1)

  -- the child of one that doesn't step
  other_child : (before other : Runner) → KeepsChildren a b before → IsBeside a before other → HasChild a other → HasChild b other
  other_child before other keeps beside child = some_all other.running (λ (run : Running). IsRunningAt b run.child)
      (λ run is. by a.told b.told refl refl gains run is)
    where
      by : (ta tb : Option (List SpawnEvent)) → a.told ≡ ta → b.told ≡ tb → Gains ta tb events → (run : Running) → other.running ≡ Some run → IsRunningAt b run.child
      by ta None ea eb g run is = none_any b.told (λ history. is_running run.child history ≡ true) eb
      by None (Some k) ea eb g run is = absurd g
      by (Some h) (Some k) ea eb g run is =
          let two : HaveTwo before other = some_of a.told (λ history. HaveTwo before other) h ea beside.children in
          keeps run.child
          (some_all before.running (λ (q : Running). q.child ≢ run.child)
          (λ q q_is. λ same. some_of other.running (λ (x : Running). x.child ≢ q.child) run is (some_of before.running (λ (one : Running). IfSome other.running (λ (x : Running). x.child ≢ one.child)) q q_is two) (sym same)))
          (some_of other.running (λ (x : Running). IsRunningAt a x.child) run is child)

  module _ (old new : Kept) (before : Runner) (ready : KeepsOthersReady old new before.id) (children : KeepsChildren a b before) where
    other_able : (other : Runner) → IsBeside a before other → IsAble old a other → IsAble new b other
    other_able other beside able = record { ready = ready other beside.ids able.ready; child = other_child before other children beside able.child }

    pub others_able : (rs : List Runner) → All (IsBeside a before) rs → All (IsAble old a) rs → All (IsAble new b) rs
    others_able [] beside able = All-nil (IsAble new b)
    others_able (r ∷ rs) beside able =
        All-cons (IsAble new b) r rs (other_able r (All-head (IsBeside a before) r rs beside) (All-head (IsAble old a) r rs able))
        (others_able rs (All-tail (IsBeside a before) r rs beside) (All-tail (IsAble old a) r rs able))

    -- one that stepped, beside another
    pub beside_new : (now other : Runner) → now.id ≡ before.id → HasOwnChild a before now → HasChild a other → IsBeside a before other → IsBeside b other now
    beside_new now other id own child beside = record {
      ids = λ same. beside.ids (sym same ∙ id);
      children = told_on a.told b.told events (HaveTwo other now) gains
          (some_all a.told (λ history. HaveTwo other now)
          (λ history told. some_all other.running (λ (one : Running). IfSome now.running (λ (two : Running). two.child ≢ one.child))
          (λ one is.
          some_of a.told (λ h. (c : ℕ) → is_running c h ≡ true → IfSome before.running (λ (run : Running). run.child ≢ c) → IfSome now.running (λ (run : Running). run.child ≢ c)) history told own one.child
          (some_of a.told (λ h. is_running one.child h ≡ true) history told (some_of other.running (λ (x : Running). IsRunningAt a x.child) one is child))
          (some_all before.running (λ (q : Running). q.child ≢ one.child)
          (λ q q_is. λ same. some_of other.running (λ (x : Running). x.child ≢ q.child) one is (some_of before.running (λ (y : Running). IfSome other.running (λ (x : Running). x.child ≢ y.child)) q q_is (some_of a.told (λ h. HaveTwo before other) history told beside.children)) (sym same))))));
    }

    pub all_beside_new : (now : Runner) (rs : List Runner) → now.id ≡ before.id → HasOwnChild a before now → All (IsAble old a) rs → All (IsBeside a before) rs → All (λ (r : Runner). IsBeside b r now) rs
    all_beside_new now [] id own able beside = All-nil (λ (r : Runner). IsBeside b r now)
    all_beside_new now (r ∷ rs) id own able beside =
        let child = (All-head (IsAble old a) r rs able).child in
        All-cons (λ (q : Runner). IsBeside b q now) r rs (beside_new now r id own child (All-head (IsBeside a before) r rs beside))
        (all_beside_new now rs id own (All-tail (IsAble old a) r rs able) (All-tail (IsBeside a before) r rs beside))

-- one more stands behind the others
pub beside_push : (spawner : Spawned) (rs : List Runner) (now : Runner) → AreBeside spawner rs → All (λ (r : Runner). IsBeside spawner r now) rs → AreBeside spawner (rs ++ now ∷ [])
beside_push spawner [] now h all = (All-nil (IsBeside spawner now), tt)
beside_push spawner (r ∷ rs) now h all = (
  All-append (IsBeside spawner r) rs (now ∷ []) h.0 (All-cons (IsBeside spawner r) now [] (All-head (λ (q : Runner). IsBeside spawner q now) r rs all) (All-nil (IsBeside spawner r))),
  beside_push spawner rs now h.1 (All-tail (λ (q : Runner). IsBeside spawner q now) r rs all),
)

-- one is taken out
pub beside_out : (spawner : Spawned) (front back : List Runner) (r : Runner) → AreBeside spawner (front ++ r ∷ back) → AreBeside spawner (r ∷ (front ++ back))
beside_out spawner [] back r h = h
beside_out spawner (x ∷ front) back r h =
    let rest = beside_out spawner front back r h.1 in
    let x_r = All-head (IsBeside spawner x) r back (all_behind spawner x front (r ∷ back) h.0) in (
      All-cons (IsBeside spawner r) x (front ++ back) (beside_swap spawner x r x_r) rest.0,
      (All-append (IsBeside spawner x) front back (all_before spawner x front (r ∷ back) h.0) (All-tail (IsBeside spawner x) r back (all_behind spawner x front (r ∷ back) h.0)), rest.1),
    )
  where
    all_behind : (spawner : Spawned) (x : Runner) (some more : List Runner) → All (IsBeside spawner x) (some ++ more) → All (IsBeside spawner x) more
    all_behind spawner x [] more h = h
    all_behind spawner x (y ∷ some) more h = all_behind spawner x some more (All-tail (IsBeside spawner x) y (some ++ more) h)

    all_before : (spawner : Spawned) (x : Runner) (some more : List Runner) → All (IsBeside spawner x) (some ++ more) → All (IsBeside spawner x) some
    all_before spawner x [] more h = All-nil (IsBeside spawner x)
    all_before spawner x (y ∷ some) more h = All-cons (IsBeside spawner x) y some (All-head (IsBeside spawner x) y (some ++ more) h) (all_before spawner x some more (All-tail (IsBeside spawner x) y (some ++ more) h))
