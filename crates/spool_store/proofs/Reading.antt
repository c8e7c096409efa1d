-- What a control file says, and at which spot it lies.
use Rattle.std.proofs.Common.{◌≡◌, ℕ, List, sym, ◌∙◌, ap, subst}
use Rattle.mail_base.specs.Names.{name_of}
use Rattle.mail_base.specs.Limits.{IsId}
use Rattle.spool_disk.specs.Disk.{Place, FileMap}
use Rattle.mail_base.specs.declared.control.Control.{Control}
use Rattle.mail_base.proofs.FileNames.{same_kind, same_number}
use Rattle.qf_format.proofs.LawLemmas.{spelled_once}
use Rattle.qf_format.specs.Saying.{Says}
use Rattle.spool_store.specs.Queue.{Spot, spot_place, IsRead}

-- bytes say one control
pub says_one : (bytes : List ℕ) (c d : Control) → Says bytes c → Says bytes d → c ≡ d
says_one bytes c d h k = spelled_once c d h.valid k.valid (sym h.text ∙ k.text)

-- a control file says one control
pub one_control : (dirs : List (List ℕ)) (files : FileMap) (s : Spot) (c d : Control) → IsRead dirs files s c → IsRead dirs files s d → c ≡ d
one_control dirs files s c d h k =
    let e : h.bytes ≡ k.bytes = let q = sym h.there.there ∙ k.there.there in cc in
    says_one k.bytes c d (subst (λ q. Says q c) e h.says) k.says

-- spots
pub same_spot : (s t : Spot) → IsId s.id → IsId t.id → spot_place s ≡ spot_place t → s ≡ t
same_spot s t p q e =
    let d : s.dir ≡ t.dir = ap (λ (r : Place). r.0) e in
    let n : name_of s.kind s.id ≡ name_of t.kind t.id = ap (λ (r : Place). r.1) e in
    let k : s.kind ≡ t.kind = same_kind s.kind t.kind s.id t.id n in
    let i : s.id ≡ t.id = same_number s.kind t.kind s.id t.id p q n in
    λ j. record { dir = d j; kind = k j; id = i j }
