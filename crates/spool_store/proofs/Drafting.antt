-- Parts made of drafts.
use Rattle.std.proofs.Common.{◌≡◌, ℕ, suc, ◌+◌, ◌<◌, ◌≤◌, List, [], ◌∷◌, ◌++◌, map, length, take, get_or, Some, None, refl, sym, ◌∙◌, ap, arith}
use Rattle.std.proofs.lemmas.List.{take_more, map_push, length-take-le, length-map}
use Rattle.mail_base.specs.declared.control.Draft.{Draft}
use Rattle.mail_base.specs.declared.control.Entry.{Entry}
use Rattle.mail_base.specs.declared.control.Parent.{Parent}
use Rattle.spool_store.specs.Parts.{entry_of}
use Rattle.spool_store.specs.Parcels.{CanPrepare, IsParcel}
use Rattle.spool_store.specs.Stores.{StoreSeen}
use Rattle.spool_store.specs.Writes.{stored, heir, numbered}
use Rattle.spool_store.specs.declared.part.Part.{Part}

numbered_push : (first : ℕ) (b : List ℕ) (ds : List Draft) (d : Draft) (n : ℕ) → first + length ds ≡ n → numbered first b (ds ++ d ∷ []) ≡ numbered first b ds ++ stored n b d ∷ []
numbered_push first b [] d n e = λ i. stored ((let q : first ≡ n = omega (arith, e) in q) i) b d ∷ []
numbered_push first b (x ∷ ds) d n e = λ i. stored first b x ∷ numbered_push (first + 1) b ds d n (omega (arith, e)) i

-- one more child
pub one_heir : (first next : ℕ) (b : List ℕ) (p : Parent) (drafts : List Draft) (i : ℕ) (r : Draft) (parts more : List Part) (part : Part) → i < length drafts → next ≡ first + i → more ≡ parts ++ part ∷ []
    → map (entry_of b) parts ≡ numbered first b (map (heir p) (take i drafts)) → part.entry ≡ record { id = next; dir = (get_or drafts i r).dir; control = record (get_or drafts i r).control { parent = Some p } } → map (entry_of b) more ≡ numbered first b (map (heir p) (take (i + 1) drafts))
one_heir first next b p drafts i r parts more part lt at all so its =
    let d : Draft = get_or drafts i r in
    let n : length (map (heir p) (take i drafts)) ≡ i = length-map (take i drafts) (heir p) ∙ length-take-le i drafts (omega (arith, lt)) in
    let taken : take (i + 1) drafts ≡ take i drafts ++ d ∷ [] = take_more drafts i r lt in
    let last : entry_of b part ≡ stored next b (heir p d) = ap (λ (e : Entry). record { id = e.id; dir = e.dir; control = e.control; body = b }) its in
    ap (map (entry_of b)) all
    ∙ map_push (entry_of b) parts part
    ∙ (λ j. so j ++ last j ∷ [])
    ∙ sym (numbered_push first b (map (heir p) (take i drafts)) (heir p d) next (omega (arith, n, at)))
    ∙ ap (numbered first b) (sym (map_push (heir p) (take i drafts) d))
    ∙ ap (λ (q : List Draft). numbered first b (map (heir p) q)) (sym taken)

-- as many entries are numbered as there are drafts
pub numbered_long : (id : ℕ) (b : List ℕ) (ds : List Draft) → length (numbered id b ds) ≡ length ds
numbered_long id b [] = refl
numbered_long id b (d ∷ ds) = ap suc (numbered_long (id + 1) b ds)

-- what is made of drafts
pub parcel_is : (store : StoreSeen) (children : List Draft) (parent : Draft) (body : List ℕ) (parts : List Part) (head : Part) → CanPrepare store.dirs children parent → store.next + 1 + length children ≤ 1_000_000_000_000 → length children + 1 ≤ store.room
    → ((b : List ℕ) → map (entry_of b) parts ≡ numbered (store.next + 1) b (map (heir (record { id = store.next; revision = parent.control.revision })) children)) → head.entry ≡ record { id = store.next; dir = parent.dir; control = record parent.control { parent = None } } → IsParcel store children parent body (record { children = parts; parent = head; body = body })
parcel_is store children parent body parts head can ids room made its =
    let p : Parent = record { id = store.next; revision = parent.control.revision } in
    let long : length parts ≡ length children = sym (length-map parts (entry_of [])) ∙ ap length (made []) ∙ numbered_long (store.next + 1) [] (map (heir p) children) ∙ length-map children (heir p) in
    record {
      able = record { each = can.each; head = can.head; room = ids };
      alone = can.alone;
      body_is = refl;
      parts = made;
      head = λ b. ap (λ (e : Entry). record { id = e.id; dir = e.dir; control = e.control; body = b }) its ∙ sym (λ i. record { id = store.next; dir = parent.dir; control = record parent.control { parent = can.alone i }; body = b });
      room = omega (arith, long, room);
    }
