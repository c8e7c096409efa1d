-- What is nobody's stays.
use Rattle.std.proofs.Common.{◌≡◌, ⊎_elim, ℕ, ◌<◌, List, arith, sym, ◌∙◌, ap, subst, Contains}
use Rattle.mail_base.specs.Limits.{IsId}
use Rattle.mail_base.specs.declared.id.Kind.{Kind}
use Rattle.mail_base.specs.declared.id.Kind.TheVariants.{Df, Qf, Tf}
use Rattle.mail_base.specs.declared.control.Control.{Control}
use Rattle.spool_disk.specs.Disk.{Place, FileMap, bytes_at}
use Rattle.spool_store.specs.Queue.{at, Spot, IsStrange, IsLive}
use Rattle.spool_store.specs.Entries.{Stored}
use Rattle.spool_store.specs.Settled.{spot_of, IsTidy, in_name}
use Rattle.spool_store.specs.Tidying.{IsTidied}
use Rattle.spool_store.specs.Changes.{IsNew}
use Rattle.spool_store.specs.inner.Parts.{IsOwn, own_body, own_draft, own_control, IsLeft}
use Rattle.spool_store.specs.Stores.{IsNobodys, of_none, of_strange, of_its_body, KeepsOthers}
use Rattle.spool_store.proofs.Carrying.{strange_control, live_read, live_plain}
use Rattle.spool_store.proofs.Places.{ids_of}
use Rattle.spool_store.proofs.Standing.{one_spot}
use Rattle.spool_store.proofs.Sweeping.{strange_keeps}

-- an entry of a write: a new one, or a live one
pub data IsMine (dirs : List (List ℕ)) (next : ℕ) (f : FileMap) (s : Stored) : Type 0 where
  mine_new : IsNew dirs next s → IsMine dirs next f s
  mine_live : (c : Control) → IsLive dirs f (spot_of Qf s) c → IsMine dirs next f s

mine_among : (dirs : List (List ℕ)) (next : ℕ) (f : FileMap) (s : Stored) → IsMine dirs next f s → Contains dirs s.dir × IsId s.id
mine_among dirs next f s (mine_new n) = (n.among, n.within)
mine_among dirs next f s (mine_live c live) = let spot = (live_read live).there.spot in (spot.among, spot.within)

-- no strange file has its id
mine_apart : (dirs : List (List ℕ)) (next : ℕ) (f : FileMap) (s : Stored) → IsTidy dirs next f → IsMine dirs next f s → (t : Spot) → IsStrange dirs f t → t.id ≡ s.id → ⊥
mine_apart dirs next f s tidy (mine_new n) t strange e =
    let there = strange_control strange in
    let lt : t.id < next = tidy.fresh t.id (in_name t.dir t.kind there.0 there.1.spot.among there.1.spot.within there.1.there) in
    omega (arith, lt, n.free, e)
mine_apart dirs next f s tidy (mine_live c live) t strange e =
    let there = strange_control strange in
    let one : t ≡ spot_of Qf s = one_spot dirs f (spot_of Qf s) t c there.0 live there.1 e in
    live_plain live (subst (IsStrange dirs f) one strange)

mine_not : (dirs : List (List ℕ)) (next : ℕ) (f : FileMap) (s : Stored) (kind : Kind) → IsTidy dirs next f → IsMine dirs next f s → (place : Place) → place ≡ at s.dir kind s.id → IsNobodys dirs f place → ⊥
mine_not dirs next f s kind tidy mine place is (of_none foreign) = let m = mine_among dirs next f s mine in foreign s.dir kind s.id m.0 m.1 is
mine_not dirs next f s kind tidy mine place is (of_strange t strange lies) =
    let m = mine_among dirs next f s mine in
    mine_apart dirs next f s tidy mine t strange (ids_of t.dir s.dir t.kind kind t.id s.id (strange_control strange).1.spot.within m.1 (sym lies ∙ is))
mine_not dirs next f s kind tidy mine place is (of_its_body t dir strange among lies) =
    let m = mine_among dirs next f s mine in
    mine_apart dirs next f s tidy mine t strange (ids_of dir s.dir Df kind t.id s.id (strange_control strange).1.spot.within m.1 (sym lies ∙ is))

-- a map in which only entries of our own differ keeps the files of others
pub left_keeps : (dirs : List (List ℕ)) (next : ℕ) (own : List Stored) (f g : FileMap) → IsTidy dirs next f → ((s : Stored) → Contains own s → IsMine dirs next f s) → IsLeft own f g → KeepsOthers dirs f g
left_keeps dirs next own f g tidy mine left = λ place nobodys. ⊎_elim (λ (e : bytes_at g place ≡ bytes_at f place). e) (λ (o : IsOwn own place). absurd (own_not place nobodys o)) (left place)
  where
    own_not : (place : Place) → IsNobodys dirs f place → IsOwn own place → ⊥
    own_not place nobodys (own_body s k is) = mine_not dirs next f s Df tidy (mine s k) place is nobodys
    own_not place nobodys (own_draft s k is) = mine_not dirs next f s Tf tidy (mine s k) place is nobodys
    own_not place nobodys (own_control s k is) = mine_not dirs next f s Qf tidy (mine s k) place is nobodys

-- what a finish leaves keeps it too
pub tidied_keeps : (dirs : List (List ℕ)) (f g : FileMap) → IsTidied dirs f g → KeepsOthers dirs f g
tidied_keeps dirs f g t place (of_none foreign) = t.others place foreign
tidied_keeps dirs f g t place (of_strange s strange is) = ap (bytes_at g) is ∙ (strange_keeps dirs f g t s strange).0 ∙ sym (ap (bytes_at f) is)
tidied_keeps dirs f g t place (of_its_body s dir strange among is) = ap (bytes_at g) is ∙ (strange_keeps dirs f g t s strange).1 dir among ∙ sym (ap (bytes_at f) is)
