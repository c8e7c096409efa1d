-- The control files that are read, and what they say.
use Rattle.std.proofs.Common.{◌≡◌, ◌⊎◌, inl, inr, ⊎_elim, ℕ, ◌<◌, List, [], ◌∷◌, ◌++◌, length, Option, Some, None, IsSome, refl, sym, ◌∙◌, ap, subst, Contains, get_or}
use Rattle.std.proofs.lemmas.List.{get_or_default}
use Rattle.std.proofs.lemmas.List.Elements.{Contains-append_left, Contains-push, Contains-push_cases}
use Rattle.mail_base.specs.declared.control.Control.{Control}
use Rattle.mail_base.specs.declared.id.Kind.TheVariants.{Qf, Sf}
use Rattle.qf_format.specs.Valid.{IsValid}
use Rattle.spool_disk.specs.Disk.{FileMap, bytes_at}
use Rattle.spool_store.specs.Queue.{at, spot_place, IsSpot, IsControl}
use Rattle.spool_store.specs.declared.named.Named.{Named}
use Rattle.spool_store.specs.declared.named.Found.{Found}
use Rattle.spool_store.specs.inner.Finds.{AddsFound, AreFound, AreNamed, AreRead, HasText, IsFound, IsMeaning, IsThere, AreAmong, dir_at, spot_named}
use Rattle.spool_store.proofs.Finding.{none_in}

-- a directory is among them
pub dir_among : (dirs : List (List ℕ)) (i : ℕ) → i < length dirs → Contains dirs (dir_at dirs i)
dir_among dirs i lt = (i, lt, get_or_default dirs i (dir_at dirs i) [] lt)

-- each of the directories has a number
pub dir_numbered : (dirs : List (List ℕ)) (dir : List ℕ) → Contains dirs dir → (i : ℕ) × (i < length dirs) × (dir_at dirs i ≡ dir)
dir_numbered dirs dir c = (c.0, c.1, get_or_default dirs c.0 [] dir c.1 ∙ c.2)

-- a control file that was read adds its meaning to what was found
pub found_more : (dirs : List (List ℕ)) (f : FileMap) (named : Named) (x : Found) (bytes : List ℕ) (old new : List Found) → IsSpot dirs (spot_named dirs named) → bytes_at f (spot_place (spot_named dirs named)) ≡ Some bytes → x.named ≡ named → IsMeaning bytes x.control → new ≡ old ++ x ∷ [] → AddsFound dirs f named old new
found_more dirs f named x bytes old new spot there is means e = rw e (record {
  kept = λ y c. Contains-append_left old (x ∷ []) y c;
  each = λ y c. ⊎_elim (λ (was : Contains old y). inl was)
      (λ (q : x ≡ y). inr (subst (IsFound dirs f) q (record { bytes = bytes; there = subst (λ (n : Named). IsControl dirs f (spot_named dirs n) bytes) (sym is) (record { spot = spot; there = there }); means = means })))
      (Contains-push_cases old x y c);
  all = λ some. (x, Contains-push old x, is);
})

-- what bytes say has a text
pub meaning_text : (bytes : List ℕ) (o : Option Control) → IsMeaning bytes o → (c : Control) → o ≡ Some c → IsValid c
meaning_text bytes None means c e = absurd (cc e)
meaning_text bytes (Some d) means c e = let same : d ≡ c = cc e in subst IsValid same means.valid

-- the control file that is read behind the others has a text
pub pushed_text : (named : Named) (x : Found) (old new : List Found) → x.named ≡ named → HasText x → new ≡ old ++ x ∷ [] → (y : Found) → Contains new y → Contains old y ⊎ ((y.named ≡ named) × HasText y)
pushed_text named x old new is text e y c = ⊎_elim
    (λ (was : Contains old y). inl was)
    (λ (q : x ≡ y). inr (subst (λ (z : Found). (z.named ≡ named) × HasText z) q (is, text)))
    (Contains-push_cases old x y (subst (λ (l : List Found). Contains l y) e c))

-- none is read at first, and then one more
pub read_nothing : (dirs : List (List ℕ)) (f : FileMap) → AreRead dirs f [] []
read_nothing dirs f = record { each = λ x c. absurd (none_in x c); all = λ x c kind. absurd (none_in x c) }

kept_all : (names : List Named) (old new : List Found) → ((x : Named) → Contains names x → (x.kind ≡ Qf) ⊎ (x.kind ≡ Sf) → (y : Found) × Contains old y × (y.named ≡ x)) → ((x : Found) → Contains old x → Contains new x) → (x : Named) → Contains names x → (x.kind ≡ Qf) ⊎ (x.kind ≡ Sf) → (y : Found) × Contains new y × (y.named ≡ x)
kept_all names old new all kept x c kind = let y = all x c kind in (y.0, kept y.0 y.1, y.2)

pub read_more : (dirs : List (List ℕ)) (f : FileMap) (n : ℕ) (names : List Named) (named : Named) (old new : List Found) → IsThere dirs f n named → AddsFound dirs f named old new → AreRead dirs f names old → AreRead dirs f (names ++ named ∷ []) new
read_more dirs f n names named old new there adds h = record {
  each = λ x c. ⊎_elim (λ (was : Contains old x). h.each x was) (λ (is : IsFound dirs f x). is) (adds.each x c);
  all = λ x c kind. ⊎_elim
      (λ (was : Contains names x). kept_all names old new h.all adds.kept x was kind)
      (λ (q : named ≡ x). let y = adds.all there.there in (y.0, y.1, y.2 ∙ q))
      (Contains-push_cases names named x c);
}

-- a file of another kind is none
pub read_skip : (dirs : List (List ℕ)) (f : FileMap) (names : List Named) (named : Named) (old : List Found) → ((named.kind ≡ Qf) ⊎ (named.kind ≡ Sf) → ⊥) → AreRead dirs f names old → AreRead dirs f (names ++ named ∷ []) old
read_skip dirs f names named old not_control h = record {
  each = h.each;
  all = λ x c kind. ⊎_elim
      (λ (was : Contains names x). h.all x was kind)
      (λ (q : named ≡ x). absurd (not_control (subst (λ (y : Named). (y.kind ≡ Qf) ⊎ (y.kind ≡ Sf)) (sym q) kind)))
      (Contains-push_cases names named x c);
}

-- a file that is there has bytes
pub some_bytes : (o : Option (List ℕ)) → IsSome o → (b : List ℕ) × (o ≡ Some b)
some_bytes None h = absurd (cc h)
some_bytes (Some b) h = (b, refl)

-- a file that has bytes is there
pub some_of : (o : Option (List ℕ)) (b : List ℕ) → o ≡ Some b → IsSome o
some_of o b e = subst (λ (q : Option (List ℕ)). IsSome q) (sym e) refl

-- all control files are read
pub read_found : (dirs : List (List ℕ)) (f : FileMap) (names : List Named) (found : List Found) → AreNamed dirs f (length dirs) names → AreRead dirs f names found → AreFound dirs f found
read_found dirs f names found named h = record {
  each = h.each;
  all = λ s bytes there.
      let i = dir_numbered dirs s.dir there.spot.among in
      let some : IsSome (bytes_at f (at (dir_at dirs i.0) s.kind s.id)) = subst (λ (d : List ℕ). IsSome (bytes_at f (at d s.kind s.id))) (sym i.2) (some_of _ bytes there.there) in
      let y = h.all (record { dir = i.0; kind = s.kind; id = s.id }) (named.all i.0 s.kind s.id i.1 there.spot.within some) there.spot.kind in
      (y.0, y.1, ap (spot_named dirs) y.2 ∙ (λ j. record { dir = i.2 j; kind = s.kind; id = s.id }));
}

-- with the file that is read
pub read_one_more : (dirs : List (List ℕ)) (f : FileMap) (names : List Named) (named : Named) (old new : List Found) → IsThere dirs f (length dirs) named → AddsFound dirs f named old new → AreRead dirs f names old → AreRead dirs f (names ++ named ∷ []) new
read_one_more dirs f names named old new there adds h = read_more dirs f (length dirs) names named old new there adds h

-- a control file that is there lies at a spot of the directories
pub spot_there : (dirs : List (List ℕ)) (f : FileMap) (x : Named) → IsThere dirs f (length dirs) x → (x.kind ≡ Qf) ⊎ (x.kind ≡ Sf) → IsSpot dirs (spot_named dirs x)
spot_there dirs f x h kind = record { among = dir_among dirs x.dir h.before; kind = kind; within = h.within }

-- what was found and the next name's is among the names with it
pub among_more : (names : List Named) (named : Named) (old new : List Found) → ((x : Found) → Contains new x → Contains old x ⊎ ((x.named ≡ named) × HasText x)) → AreAmong names old → AreAmong (names ++ named ∷ []) new
among_more names named old new adds h x c = ⊎_elim
    (λ (was : Contains old x). (Contains-append_left names (named ∷ []) x.named (h x was).0, (h x was).1))
    (λ (is : (x.named ≡ named) × HasText x). (subst (λ (y : Named). Contains (names ++ named ∷ []) y) (sym is.0) (Contains-push names named), is.1))
    (adds x c)

-- what was found among names is among them with one more
pub among_skip : (names : List Named) (named : Named) (old : List Found) → AreAmong names old → AreAmong (names ++ named ∷ []) old
among_skip names named old h x c = (Contains-append_left names (named ∷ []) x.named (h x c).0, (h x c).1)

-- nothing found is among no names
pub among_nothing : AreAmong [] []
among_nothing x c = absurd (none_in x c)

-- a name at a place of a list is in it
pub named_in : (names : List Named) (i : ℕ) (x : Named) → i < length names → x ≡ get_or names i x → Contains names x
named_in names i x lt is = (i, lt, sym is)
