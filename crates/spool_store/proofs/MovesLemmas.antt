-- Moves join, and a call is one.
use Rattle.std.proofs.Common.{◌≡◌, inl, inr, ⊎_elim, Option, Some, None, Result, Ok, Err, refl, sym, ap, subst}
use Rattle.std.specs.Prelude.{IsOk, IfSome}
use Rattle.std.proofs.Math.Nat.{le_refl, le_trans}
use Rattle.spool_disk.specs.Disk.{FileMap}
use Rattle.spool_disk.specs.Spooled.{Spooled, Calls, Leads, Reads, Rests}
use Rattle.spool_store.specs.Moves.{Moves, Becomes, Ends}
use Rattle.spool_store.specs.inner.Finishing.{IsRun}

-- what is told stays where a call only reads
pub leads_told : (a b : Option FileMap) → Leads a b Rests Rests (Unit {0}) → b ≡ a
leads_told None None h = refl
leads_told None (Some g) h = absurd h
leads_told (Some f) None h = absurd h
leads_told (Some f) (Some g) h = ap (λ (q : FileMap). Some q) h.0

becomes_none : (c : Option FileMap) (Q P S : FileMap → Type 0) → Becomes None c Q S → Becomes None c P S
becomes_none None Q P S k = tt
becomes_none (Some i) Q P S k = absurd k

becomes_join : (a b c : Option FileMap) (P Q S : FileMap → Type 0) → Becomes a b P Q → Becomes b c Q S → Becomes a c P S
becomes_join None None c P Q S h k = becomes_none c Q P S k
becomes_join None (Some g) c P Q S h k = absurd h
becomes_join (Some f) None c P Q S h k = absurd h
becomes_join (Some f) (Some g) None P Q S h k = absurd k
becomes_join (Some f) (Some g) (Some i) P Q S h k = λ p. k (h p)

-- what the told files are after a run
pub told_after : (a b : Option FileMap) (P Q : FileMap → Type 0) → Becomes a b P Q → (f : FileMap) → a ≡ Some f → P f → (g : FileMap) × (b ≡ Some g) × Q g
told_after None b P Q h f e p = cc
told_after (Some d) None P Q h f e p = absurd h
told_after (Some d) (Some g) P Q h f e p = let same : f ≡ d = cc e in (g, refl, h (subst P same p))

-- calls that lead on, one after the other, lead to where the last does
pub moves_join : (a b c : Spooled) (P Q S R : FileMap → Type 0) → Moves a b P Q R → Moves b c Q S R → Moves a c P S R
moves_join a b c P Q S R h k = record {
  later = le_trans h.later k.later;
  now = becomes_join a.told b.told c.told P Q S h.now k.now;
  images = λ f e p t x le left.
      let m = told_after a.told b.told P Q h.now f e p in
      ⊎_elim (h.images f e p t x le) (λ r. inr r) (k.images m.0 m.1 m.2 t x (le_trans le h.later) left);
  kept = λ t x left. k.kept t x (h.kept t x left);
}

becomes_by : (a b : Option FileMap) (Image Done : FileMap → FileMap → Type 0) (well : Type 0) (P Q : FileMap → Type 0) → Leads a b Image Done well → ((f g : FileMap) → P f → Image f g → (well → Done f g) → Q g) → Becomes a b P Q
becomes_by None None Image Done well P Q h leads = tt
becomes_by None (Some g) Image Done well P Q h leads = absurd h
becomes_by (Some f) None Image Done well P Q h leads = absurd h
becomes_by (Some f) (Some g) Image Done well P Q h leads = λ p. leads f g p h.0 h.1

-- a call whose images have R, and that leads to Q
moves_by : (a b : Spooled) (Image Done : FileMap → FileMap → Type 0) (well : Type 0) (P Q R : FileMap → Type 0) → Calls a b Image Done well → ((f g : FileMap) → P f → Image f g → R g) → ((f g : FileMap) → P f → Image f g → (well → Done f g) → Q g) → Moves a b P Q R
moves_by a b Image Done well P Q R h safe leads = record {
  later = h.later;
  now = becomes_by a.told b.told Image Done well P Q h.now leads;
  images = λ f e p t x le left. ⊎_elim (λ before. inl before) (λ i. inr (safe f x p i)) (h.images f e t x le left);
  kept = h.kept;
}

-- a call that changes nothing leaves what files stand for
pub moves_read : (a b : Spooled) (P : FileMap → Type 0) → Reads a b → Moves a b P P P
moves_read a b P h = moves_by a b Rests Rests (Unit {0}) P P P h (λ f g p e. subst P (sym e) p) (λ f g p e d. subst P (sym e) p)

-- the same for a call with a result
pub moves_call : {T E : Type 0} (a b : Spooled) (Image Done : FileMap → FileMap → Type 0) (r : Result T E) (P Q R : FileMap → Type 0) → Calls a b Image Done (IsOk r) → ((f g : FileMap) → P f → Image f g → R g) → ((f g : FileMap) → P f → Done f g → Q g) → Moves a b P (Ends r Q R) R
moves_call a b Image Done (Ok x) P Q R h safe leads = moves_by a b Image Done _ P Q R h safe (λ f g p i d. leads f g p (d refl))
moves_call a b Image Done (Err e) P Q R h safe leads = moves_by a b Image Done _ P R R h safe (λ f g p i d. safe f g p i)

becomes_same : (a : Option FileMap) (P Q : FileMap → Type 0) → ((f : FileMap) → P f → Q f) → Becomes a a P Q
becomes_same None P Q to = tt
becomes_same (Some f) P Q to = λ p. to f p

-- a run that does nothing
pub moves_none : (a : Spooled) (P Q R : FileMap → Type 0) → ((f : FileMap) → P f → Q f) → Moves a a P Q R
moves_none a P Q R to = record {
  later = le_refl a.moment;
  now = becomes_same a.told P Q to;
  images = λ f e p t x le left. inl left;
  kept = λ t x left. left;
}

-- with less promised of its end
pub becomes_to : (a b : Option FileMap) (P Q S : FileMap → Type 0) → ((f : FileMap) → Q f → S f) → Becomes a b P Q → Becomes a b P S
becomes_to None None P Q S to h = tt
becomes_to None (Some g) P Q S to h = absurd h
becomes_to (Some f) None P Q S to h = absurd h
becomes_to (Some f) (Some g) P Q S to h = λ p. to g (h p)

-- with less promised
pub moves_weaker : (a b : Spooled) (P Q R S T : FileMap → Type 0) → ((f : FileMap) → Q f → S f) → ((f : FileMap) → R f → T f) → Moves a b P Q R → Moves a b P S T
moves_weaker a b P Q R S T to any h = record {
  later = h.later;
  now = becomes_to a.told b.told P Q S to h.now;
  images = λ f e p t x le left. ⊎_elim (λ before. inl before) (λ r. inr (any x r)) (h.images f e p t x le left);
  kept = h.kept;
}

-- what is so of each map that it may begin with
becomes_from : (a b : Option FileMap) (P Q S T : FileMap → Type 0) → Becomes a b S T → ((f : FileMap) → a ≡ Some f → P f → Becomes a b (λ g. g ≡ f) Q) → Becomes a b P Q
becomes_from None None P Q S T h k = tt
becomes_from None (Some g) P Q S T h k = absurd h
becomes_from (Some f) None P Q S T h k = absurd h
becomes_from (Some f) (Some g) P Q S T h k = λ p. k f refl p refl

pub moves_from : (a b : Spooled) (P Q R S T V : FileMap → Type 0) → Moves a b S T V → ((f : FileMap) → P f → Moves a b (λ g. g ≡ f) Q R) → Moves a b P Q R
moves_from a b P Q R S T V h k = record {
  later = h.later;
  now = becomes_from a.told b.told P Q S T h.now (λ f e p. (k f p).now);
  images = λ f e p t x le left. (k f p).images f e refl t x le left;
  kept = h.kept;
}

becomes_at : (a b : Option FileMap) (f : FileMap) (P Q : FileMap → Type 0) → P f → Becomes a b P Q → Becomes a b (λ g. g ≡ f) Q
becomes_at None None f P Q p h = tt
becomes_at None (Some g) f P Q p h = absurd h
becomes_at (Some d) None f P Q p h = absurd h
becomes_at (Some d) (Some g) f P Q p h = λ e. h (subst P (sym e) p)

-- what leads on from a fact does so from a map with it
pub moves_at : (a b : Spooled) (f : FileMap) (P Q R : FileMap → Type 0) → P f → Moves a b P Q R → Moves a b (λ g. g ≡ f) Q R
moves_at a b f P Q R p h = record {
  later = h.later;
  now = becomes_at a.told b.told f P Q p h.now;
  images = λ d e q t x le left. h.images d e (subst P (sym q) p) t x le left;
  kept = h.kept;
}

-- by its answer
pub ends_to : {T E : Type 0} (r : Result T E) (Q R S V : FileMap → Type 0) → ((f : FileMap) → Q f → S f) → ((f : FileMap) → R f → V f) → (f : FileMap) → Ends r Q R f → Ends r S V f
ends_to (Ok x) Q R S V to any f h = to f h
ends_to (Err e) Q R S V to any f h = any f h

-- the same where it is known that they are told
pub moves_told : (a b : Spooled) (P Q R S T V : FileMap → Type 0) → Moves a b S T V → ((f : FileMap) → a.told ≡ Some f → P f → Moves a b (λ g. g ≡ f) Q R) → Moves a b P Q R
moves_told a b P Q R S T V h k = record {
  later = h.later;
  now = becomes_from a.told b.told P Q S T h.now (λ f e p. (k f e p).now);
  images = λ f e p t x le left. (k f e p).images f e refl t x le left;
  kept = h.kept;
}

-- what holds where a map is told holds for this map
pub at_told : (o : Option FileMap) (P : FileMap → Type 0) → IfSome o P → (f : FileMap) → o ≡ Some f → P f
at_told o P h f e = subst (λ (q : Option FileMap). IfSome q P) e h

-- what the told files have come to
pub told_now : (a b : Option FileMap) (Q : FileMap → Type 0) → Becomes a b (λ f. Unit {0}) Q → IfSome b Q
told_now None None Q h = tt
told_now None (Some g) Q h = absurd h
told_now (Some f) None Q h = absurd h
told_now (Some f) (Some g) Q h = h tt

-- one call is a run
pub run_call : (a b : Spooled) (Image Done : FileMap → FileMap → Type 0) (well : Type 0) → Calls a b Image Done well → IsRun a b
run_call a b Image Done well h = moves_by a b Image Done well (λ f. ⊥) (λ f. ⊥) (λ f. ⊥) h (λ f g p i. p) (λ f g p i d. p)

-- runs, one after the other, are a run
pub run_join : (a b c : Spooled) → IsRun a b → IsRun b c → IsRun a c
run_join a b c h k = moves_join a b c _ _ _ _ h k
