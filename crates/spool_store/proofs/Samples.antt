-- Maps that the definitions hold of.
use Rattle.std.proofs.Common.{◌≡◌, ◌≢◌, ⊎_elim, ℕ, List, [], ◌∷◌, Some, None, refl, ◌∙◌, arith}
use Rattle.std.specs.List.Sorted.{IsStrictlySortedBy}
use Rattle.std.proofs.lemmas.List.Elements.{All-nil, All-cons}
use Rattle.mail_base.specs.declared.id.Kind.TheVariants.{Df, Qf}
use Rattle.spool_disk.specs.Disk.{FileMap}
use Rattle.mail_base.specs.declared.control.Control.{Control}
use Rattle.qf_format.specs.Valid.{IsValid}
use Rattle.spool_store.specs.Queue.{Spot, IsControl}
use Rattle.spool_store.specs.Entries.{Stored}
use Rattle.spool_store.specs.Settled.{HasFiles, IsNamed, in_name, as_parent, IsSettled}
use Rattle.spool_store.specs.Changes.{control_place, body_at, control, body, other, HoldsBoth}
use Rattle.mail_base.specs.declared.control.Draft.{Draft}
use Rattle.spool_store.specs.Writes.{stored, control_file, body_file, AreWritten, IsDraftable}
use Rattle.spool_store.proofs.Places.{kinds_of}
use Rattle.spool_store.proofs.Carrying.{live_read}
use Rattle.spool_store.proofs.Standing.{contains_head}
use Rattle.spool_store.proofs.Replacing.{place_or}
use Rattle.spool_store.proofs.Lists.{here, later}
use Rattle.spool_store.proofs.Committing.{new_settled}

nothing : (dirs : List (List ℕ)) (s : Spot) (b : List ℕ) → IsControl dirs [] s b → ⊥
nothing dirs s b there = let z : None ≡ Some b = there.there in cc z

none_named : (dirs : List (List ℕ)) (id : ℕ) → IsNamed dirs [] id → ⊥
none_named dirs id (in_name dir kind bytes among within there) = let z : None ≡ Some bytes = there in cc z
none_named dirs id (as_parent s c p read e i) = nothing dirs s read.bytes read.there

-- no file
pub empty_settled : (dirs : List (List ℕ)) → IsSettled dirs (record { entries = []; next = 1 }) []
unfolding IsStrictlySortedBy
empty_settled dirs = record {
  stands = record { ascending = tt; each = All-nil (HasFiles dirs []); all = λ s c live. absurd (nothing dirs s (live_read live).bytes (live_read live).there) };
  tidy = record { whole = λ s b there plain. absurd (nothing dirs s b there); fresh = λ id named. absurd (none_named dirs id named); drafts = λ dir id among within. refl };
}

-- one entry's two files
pub one_written : (s : Stored) (f : FileMap) → AreWritten (s ∷ []) f (control_file s ∷ body_file s ∷ f)
one_written s f =
    let ne : body_at s ≢ control_place s = λ e. let z : Df ≡ Qf = kinds_of s.dir s.dir Df Qf s.id s.id e in cc z in
    record {
      at = λ p. ⊎_elim
          (λ (e : p ≡ control_place s). control s (contains_head s []) e (here (control_file s) (body_file s ∷ f) p e))
          (λ (n : p ≢ control_place s). ⊎_elim
          (λ (e : p ≡ body_at s). body s (contains_head s []) e (later (control_file s) (body_file s ∷ f) p n ∙ here (body_file s) f p e))
          (λ (m : p ≢ body_at s). other (later (control_file s) (body_file s ∷ f) p n ∙ later (body_file s) f p m))
          (place_or p (body_at s)))
          (place_or p (control_place s));
      holds = All-cons (HoldsBoth (control_file s ∷ body_file s ∷ f)) s [] (record { control = here (control_file s) (body_file s ∷ f) (control_place s) refl; body = later (control_file s) (body_file s ∷ f) (body_at s) ne ∙ here (body_file s) f (body_at s) refl }) (All-nil (HoldsBoth (control_file s ∷ body_file s ∷ f)));
    }

-- a first message in one part
pub one_settled : (dir : List ℕ) (c : Control) (b : List ℕ) → IsValid c → c.parent ≡ None → IsSettled (dir ∷ []) (record { entries = stored 1 b (record { id = None; dir = dir; control = c }) ∷ []; next = 2 }) (control_file (stored 1 b (record { id = None; dir = dir; control = c })) ∷ body_file (stored 1 b (record { id = None; dir = dir; control = c })) ∷ [])
one_settled dir c b valid alone =
    let d : Draft = record { id = None; dir = dir; control = c } in
    let its : IsDraftable (dir ∷ []) d = record { among = contains_head dir []; valid = valid } in
    new_settled (dir ∷ []) (record { entries = []; next = 1 }) [] d b [] (control_file (stored 1 b d) ∷ body_file (stored 1 b d) ∷ []) (record { each = All-nil (IsDraftable (dir ∷ [])); head = its; room = omega arith }) alone (one_written (stored 1 b d) []) (empty_settled (dir ∷ []))
