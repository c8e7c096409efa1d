-- Entries of the store's directories, whose controls have texts.
use Rattle.std.proofs.Common.{◌≡◌, ℕ, ◌<◌, List, [], ◌∷◌, ◌++◌, map, length, get_or, Some, Bool, true, false, if◌then◌else◌, refl, sym, ◌∙◌, ap, subst, arith, Contains}
use Rattle.std.specs.Prelude.{All, eqb}
use Rattle.std.proofs.lemmas.List.{get_or-map, length-map}
use Rattle.std.proofs.lemmas.List.Elements.{All-head, All-map, All-push, All-tail, All-weaker}
use Rattle.mail_base.specs.declared.control.Control.{Control}
use Rattle.mail_base.specs.declared.control.Draft.{Draft}
use Rattle.mail_base.specs.declared.control.Entry.{Entry}
use Rattle.qf_format.specs.Valid.{IsValid}
use Rattle.spool_store.specs.Changes.{IsNew}
use Rattle.spool_store.specs.Entries.{Stored}
use Rattle.spool_store.specs.Openings.{IsFitting}
use Rattle.spool_store.specs.Parts.{entry_of}
use Rattle.spool_store.specs.Stores.{recontrolled, refinished}
use Rattle.spool_store.specs.declared.held.Held.{Held}
use Rattle.spool_store.specs.declared.part.Part.{Part}
use Rattle.spool_store.specs.inner.Opening.{taken_over}

-- one more that fits
pub fits_pushed : (dirs : List (List ℕ)) (out new : List Entry) (e : Entry) → new ≡ out ++ e ∷ [] → IsFitting dirs e → All (IsFitting dirs) out → All (IsFitting dirs) new
fits_pushed dirs out new e is fit all = subst (All (IsFitting dirs)) (sym is) (All-push (IsFitting dirs) out e all fit)

-- entries that an opening found, as the store holds them
pub fits_taken : (dirs : List (List ℕ)) (es : List Entry) (held : List Held) → held ≡ map taken_over es → All (IsFitting dirs) es → All (λ (h : Held). IsFitting dirs h.entry) held
fits_taken dirs es held is fit = subst (All (λ (h : Held). IsFitting dirs h.entry)) (sym is) (All-map (λ (h : Held). IsFitting dirs h.entry) taken_over es fit)

pub fits_held : (dirs : List (List ℕ)) (items new : List Held) (h : Held) → new ≡ items ++ h ∷ [] → IsFitting dirs h.entry → All (λ (q : Held). IsFitting dirs q.entry) items → All (λ (q : Held). IsFitting dirs q.entry) new
fits_held dirs items new h is fit all = subst (All (λ (q : Held). IsFitting dirs q.entry)) (sym is) (All-push (λ (q : Held). IsFitting dirs q.entry) items h all fit)

fits_if : (dirs : List (List ℕ)) (c : Control) (h : Held) (b : Bool) → IsValid c → IsFitting dirs h.entry → IsFitting dirs (if b then record h { entry = record h.entry { control = c } } else h).entry
fits_if dirs c h true valid fit = record { dir = fit.dir; valid = valid }
fits_if dirs c h false valid fit = fit

-- an entry with another control that has a text
pub recontrolled_fits : (dirs : List (List ℕ)) (id : ℕ) (c : Control) → IsValid c → (h : Held) → IsFitting dirs h.entry → IsFitting dirs (recontrolled id c h).entry
recontrolled_fits dirs id c valid h fit = fits_if dirs c h (eqb h.entry.id id) valid fit

finished_if : (dirs : List (List ℕ)) (h : Held) (b : Bool) → IsFitting dirs h.entry → IsFitting dirs (if b then record h { finished = true } else h).entry
finished_if dirs h true fit = fit
finished_if dirs h false fit = fit

-- and one that is finished
pub refinished_fits : (dirs : List (List ℕ)) (id : ℕ) (h : Held) → IsFitting dirs h.entry → IsFitting dirs (refinished id h).entry
refinished_fits dirs id h fit = finished_if dirs h (eqb h.entry.id id) fit

-- the entry that is shown at a place
pub fits_get : (dirs : List (List ℕ)) (items shown : List Held) (place : ℕ) (d : Held) → shown ≡ items → All (λ (h : Held). IsFitting dirs h.entry) items → place < length items → IsFitting dirs (get_or shown place d).entry
fits_get dirs items shown place d same fit lt = subst (λ (q : List Held). IsFitting dirs (get_or q place d).entry) (sym same) (fit place d lt)

-- parts of new entries
pub parts_fit : (dirs : List (List ℕ)) (next : ℕ) (parts : List Part) (xs : List Stored) → map (entry_of []) parts ≡ xs → All (IsNew dirs next) xs → All (λ (p : Part). IsFitting dirs p.entry) parts
parts_fit dirs next parts xs made new k d lt =
    let mapped : get_or (map (entry_of []) parts) k (entry_of [] d) ≡ entry_of [] (get_or parts k d) = get_or-map (entry_of []) parts k d (entry_of [] d) lt in
    let long = length-map parts (entry_of []) in
    let is : IsNew dirs next (get_or (map (entry_of []) parts) k (entry_of [] d)) = subst (All (IsNew dirs next)) (sym made) new k (entry_of [] d) (omega (arith, lt, long)) in
    let its : IsNew dirs next (entry_of [] (get_or parts k d)) = subst (IsNew dirs next) mapped is in
    record { dir = its.among; valid = its.valid }

-- the same parts
pub same_fit : (dirs dirs' : List (List ℕ)) (parts same : List Part) → same ≡ parts → dirs' ≡ dirs → All (λ (p : Part). IsFitting dirs p.entry) parts → All (λ (p : Part). IsFitting dirs' p.entry) same
same_fit dirs dirs' parts same e d all = subst (λ (q : List Part). All (λ (p : Part). IsFitting dirs' p.entry) q) (sym e) (subst (λ (q : List (List ℕ)). All (λ (p : Part). IsFitting q p.entry) parts) (sym d) all)
