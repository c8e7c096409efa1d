-- The lanes of all groups are those of a site.
use Rattle.std.proofs.Common.{◌≡◌, ℕ, ◌+◌, ◌<◌, ◌≤◌, List, [], ◌∷◌, ◌++◌, map, length, take, get_or, Option, Some, refl, sym, ◌∙◌, ap, subst, arith, take_all}
use Rattle.std.specs.Prelude.{bytes_eq, codes, slice_get, unwrap_or}
use Rattle.std.proofs.lemmas.Bool.{cond_both}
use Rattle.std.proofs.lemmas.List.{map_more}
use Rattle.std.proofs.lemmas.Option.{slice_get-get_or}
use Rattle.mail_base.specs.Catalogs.{value_at, with_value}
use Rattle.mail_base.specs.Configs.{main_group}
use Rattle.mail_base.specs.declared.config.Config.{Config}
use Rattle.mail_base.specs.declared.mailer.Group.{Group}
use Rattle.queue_table.specs.declared.waiting.Lane.{Lane}
use Rattle.queue_table.specs.declared.waiting.Waiting.{Waiting}
use Rattle.mail_core.specs.Holding.{lane_for, wait_by, waiting_of}
use Rattle.mail_core.specs.Holding as holding
use Rattle.mail_core.specs.Plans.{Plan, Serve, Once}
use Rattle.mail_core.specs.Sites.{Site}
use Rattle.mail_core.specs.inner.Lanes.{AreSet, IsUsual, lane, least_wait, main_lane, named_lane}

module _ {V : Type 0} where
  -- a pair more at most
  one_longer : (name : List ℕ) (v : V) (es : List (List ℕ × V)) → length (with_value name v es) ≤ length es + 1
  one_longer name v [] = omega arith
  one_longer name v (e ∷ es) =
      cond_both (bytes_eq name e.0) ((e.0, v) ∷ es) (e ∷ with_value name v es) (λ (l : List (List ℕ × V)). length l ≤ length (e ∷ es) + 1) (λ is. omega arith) (λ is. omega (arith, one_longer name v es))

  -- where there is a pair more, the name was new
  new_last : (name : List ℕ) (v : V) (es : List (List ℕ × V)) → length (with_value name v es) ≡ length es + 1 → with_value name v es ≡ es ++ (name, v) ∷ []
  new_last name v [] = λ long. refl
  new_last name v (e ∷ es) =
      cond_both (bytes_eq name e.0) ((e.0, v) ∷ es) (e ∷ with_value name v es) (λ (l : List (List ℕ × V)). length l ≡ length (e ∷ es) + 1 → l ≡ (e ∷ es) ++ (name, v) ∷ [])
      (λ is long. absurd (omega (arith, long)))
      (λ is long. ap (λ (l : List (List ℕ × V)). e ∷ l) (new_last name v es (omega (arith, long))))

module _ {U V : Type 0} (f : List ℕ × U → List ℕ × V) (pairs : List (List ℕ × U)) where
  -- one more is set
  pub one_more : (done next : List (List ℕ × V)) (k : ℕ) (pair : List ℕ × U) → k < length pairs → slice_get pairs k ≡ Some pair → next ≡ with_value (f pair).0 (f pair).1 done → AreSet f pairs k done → AreSet f pairs (k + 1) next
  one_more done next k pair lt at is set =
      let bound = one_longer (f pair).0 (f pair).1 done in
      let here : get_or pairs k pair ≡ pair = cc (slice_get-get_or pairs k pair lt, at) in
      subst (AreSet f pairs (k + 1)) (sym is) (record {
        few = omega (arith, bound, set.few);
        all = λ long.
            new_last (f pair).0 (f pair).1 done (omega (arith, bound, set.few, long))
            ∙ ap (λ (l : List (List ℕ × V)). l ++ f pair ∷ []) (set.all (omega (arith, bound, set.few, long)))
            ∙ sym (map_more f pairs k pair lt ∙ ap (λ (p : List ℕ × U). map f (take k pairs) ++ f p ∷ []) here);
      })

  -- where as many are set as there are, these are all
  pub all_set : (done : List (List ℕ × V)) (k : ℕ) → length pairs ≤ k → k ≤ length pairs → length pairs ≤ length done → AreSet f pairs k done → done ≡ map f pairs
  all_set done k le ge long set = set.all (omega (arith, set.few, le, ge, long)) ∙ ap (map f) (take_all k pairs le)

-- ---- the lanes of a site

wait_same : (plan : Plan) (usual : Option ℕ) (age : ℕ) (interval : Option ℕ) → IsUsual plan usual → least_wait usual age interval ≡ wait_by plan age interval
wait_same (Serve wait) usual age interval is = ap (λ u. least_wait u age interval) is
wait_same (Once group) usual age interval is = ap (λ u. least_wait u age interval) is

module _ (site : Site) (usual : Option ℕ) (is : IsUsual site.plan usual) where
  lane_same : (name : List ℕ) (group : Group) → lane usual site.config.options.min_queue_age name group ≡ lane_for site name group
  lane_same name group = λ i. record { group = name; wait = wait_same site.plan usual site.config.options.min_queue_age group.interval is i; runners = group.runners }

  lanes_same : (groups : List (List ℕ × Group)) → map (named_lane usual site.config.options.min_queue_age) groups ≡ map (holding.named_lane site) groups
  lanes_same [] = refl
  lanes_same (g ∷ gs) = λ i. (g.0, lane_same g.0 g.1 i) ∷ lanes_same gs i

  -- the lanes of all groups and that of mqueue are those of the site
  pub waiting_same : (config : Config) (lanes : List (List ℕ × Lane)) (other : Lane) (w : Waiting) → site.config ≡ config → lanes ≡ map (named_lane usual config.options.min_queue_age) config.groups → other ≡ main_lane usual config.options.min_queue_age config.groups → w ≡ record { lanes = lanes; other = other; holders = []; quiet = 0 } → w ≡ waiting_of site []
  waiting_same config lanes other w same lanes_are other_is is =
      let all : lanes ≡ map (holding.named_lane site) site.config.groups = lanes_are ∙ ap (λ (c : Config). map (named_lane usual c.options.min_queue_age) c.groups) (sym same) ∙ lanes_same site.config.groups in
      let main : other ≡ holding.main_lane site = other_is ∙ ap (λ (c : Config). main_lane usual c.options.min_queue_age c.groups) (sym same) ∙ lane_same (codes "mqueue") (unwrap_or (value_at (codes "mqueue") site.config.groups) main_group) in
      is ∙ (λ i. record { lanes = all i; other = main i; holders = []; quiet = 0 })
