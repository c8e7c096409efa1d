-- A message is taken into the table, or not.
use Rattle.std.proofs.Common.{◌≡◌, ◌≢◌, ◌⊎◌, inl, inr, ℕ, ◌+◌, min, List, [], ◌∷◌, true, false, Option, Some, None, refl, sym, ◌∙◌, ap, subst, codes}
use Rattle.std.specs.Prelude.{FitsSigned, IfSome}
use Rattle.std.specs.Int.{w64}
use Rattle.std.specs.List.{list_all}
use Rattle.std.proofs.lemmas.Bool.{and_parts, false≢true}
use Rattle.std.proofs.lemmas.List.Elements.{All-nil, All-cons}
use Rattle.mail_base.specs.Histories.{Gains, Rose}
use Rattle.mail_base.specs.Texts.{IsLine}
use Rattle.mail_base.specs.declared.config.Config.{Config}
use Rattle.mail_base.specs.declared.message.Kept.{Kept as KeptMacros}
use Rattle.mail_base.specs.declared.message.Message.{Message}
use Rattle.mail_edge.specs.Seen.{ClockSeen}
use Rattle.mail_header.specs.Headers.{is_plain}
use Rattle.mail_made.specs.Messages.{IsTakenIn, Made, headed}
use Rattle.mail_made.specs.Planned.{LacksIds}
use Rattle.mail_made.proofs.FormLemmas.{IsWellFormed}
use Rattle.map_tables.specs.Answers.{Loaded}
use Rattle.queue_table.specs.Calls.{HoldsTable, IsSame, store}
use Rattle.queue_table.specs.Commands.{after}
use Rattle.queue_table.specs.Commands.Command.{Accept}
use Rattle.queue_table.specs.Directories.{terms_of}
use Rattle.queue_table.specs.declared.table.Table.{Table as Kept}
use Rattle.queue_table.specs.declared.terms.Terms.{Terms}
use Rattle.spool_disk.specs.Disk.{FileMap}
use Rattle.spool_disk.specs.Spooled.{Spooled}
use Rattle.spool_store.specs.Entries.{Table}
use Rattle.spool_store.specs.Moves.{Moves}
use Rattle.spool_store.specs.Parts.{IsEitherTable}
use Rattle.spool_store.specs.Settled.{IsSettled, StandsFor}
use Rattle.spool_store.specs.Stores.{Agrees, Holds, KeepsOthers, StoreSeen}
use Rattle.mail_made.specs.Moments.{moment_of}
use Rattle.submit_run.specs.Taken.{IsAskedAt, IsBroken, IsSpent, IsStored}
use Rattle.submit_run.specs.inner.Storing.{IsFit}

-- ---- the message

abbrev pub NotLf : ℕ → Type 0
NotLf b = b ≢ 10

pub plain_byte : (b : ℕ) → is_plain b ≡ true → NotLf b
plain_byte b plain is = false≢true (sym (ap is_plain is) ∙ plain)

-- bytes that are neither CR nor LF are one line
pub plain_line : (line : List ℕ) → list_all is_plain line ≡ true → IsLine line
plain_line [] plain = All-nil NotLf
plain_line (b ∷ line) plain =
    let parts = and_parts (is_plain b) (list_all is_plain line) plain in
    All-cons NotLf b line (plain_byte b parts.0) (plain_line line parts.1)

-- what is kept of a message that is handed over is of one line each
pub well_formed : (message : Message) → FitsSigned w64 message.class → IsFit message → IsWellFormed message
well_formed message class fit = record {
  class = class;
  protocol = subst (λ (q : KeptMacros). IsLine q.protocol) (sym fit.kept_is) (plain_line (codes "SUBMIT") refl);
  helo = subst (λ (q : KeptMacros). IsLine q.helo) (sym fit.kept_is) (plain_line (codes "localhost") refl);
  client = subst (λ (q : KeptMacros). IsLine q.client) (sym fit.kept_is) (All-nil NotLf);
  headers = fit.headers;
}

-- ---- the table with another room

agrees_same : (old new : Kept) (told : Option FileMap) → IsSame old new → IfSome told (Agrees (store old)) → IfSome told (Agrees (store new))
agrees_same old new None same h = tt
agrees_same old new (Some f) same h = subst (λ (q : StoreSeen). Agrees q f) (sym same.1) (record { each = h.each; all = h.all; strange = h.strange; tidy = h.tidy })

pub tallies_same : (old new : Kept) (told : Option FileMap) → IsSame old new → ((store old).broken ≡ false → IfSome told (Agrees (store old))) → (store new).broken ≡ false → IfSome told (Agrees (store new))
tallies_same old new told same h = λ whole. agrees_same old new told same (h (sym (ap (λ (q : StoreSeen). q.broken) same.1) ∙ whole))

pub holds_same : (old new : Kept) (table : Table) → IsSame old new → HoldsTable old table → HoldsTable new table
holds_same old new table same h = subst (λ (q : StoreSeen). Holds q table) (sym same.1) (record { entries = h.entries; next = h.next })

pub frame_same : (old mid : Kept) (a b : Spooled) → IsSame old mid → ((f : FileMap) → Moves a b (λ g. g ≡ f) (KeepsOthers (store mid).dirs f) (KeepsOthers (store mid).dirs f))
    → (f : FileMap) → Moves a b (λ g. g ≡ f) (KeepsOthers (store old).dirs f) (KeepsOthers (store old).dirs f)
frame_same old mid a b same h = subst (λ (q : List (List ℕ)). (f : FileMap) → Moves a b (λ g. g ≡ f) (KeepsOthers q f) (KeepsOthers q f)) (ap (λ (q : StoreSeen). q.dirs) same.1) h

-- a table that is whole can only fail where the count rose
rose_of : (old mid : Kept) (a b : ℕ) → IsSame old mid → (store old).broken ≡ false → ((store mid).broken ≡ true) ⊎ Rose a b → Rose a b
rose_of old mid a b same whole (inl e) = absurd (false≢true (sym whole ∙ sym (ap (λ (q : StoreSeen). q.broken) same.1) ∙ e))
rose_of old mid a b same whole (inr r) = r

-- ---- the moment

module _ (config : Config) (maps : Loaded) (table : Table) (message : Message) (c d : ClockSeen) (moment : ℕ) where
  pub asked_at : (reading : ℕ) → Gains c.told d.told (reading ∷ []) → d.readings ≡ c.readings + 1 → moment ≡ moment_of reading → IsAskedAt config maps table message c d moment
  asked_at reading told counted is = record {
    reading = reading;
    clock = record { told = told; readings = counted };
    moment_is = is;
  }

  module _ (old mid : Kept) (terms : old.terms ≡ terms_of config) (same : IsSame old mid) (holds : HoldsTable old table) (asked : IsAskedAt config maps table message c d moment) where
    -- an id is wanting
    pub spent_of : LacksIds config maps moment (store old).next message → IsSpent config maps table message c d
    spent_of lacks = record {
      moment = moment;
      asked = asked;
      lacks = subst (λ n. LacksIds config maps moment n message) holds.next lacks;
    }

    module _ (a b : Spooled) (made : Made) (taken : IsTakenIn config maps moment message (store old).next made) where
      terms_are : mid.terms ≡ terms_of config
      terms_are = same.0 ∙ terms

      dirs_are : (store mid).dirs ≡ (store old).dirs
      dirs_are = ap (λ (q : StoreSeen). q.dirs) same.1

      -- it was taken in
      pub stored_of : (new : Kept) → HoldsTable new (after table (Accept mid.terms (headed made.first message) made.cuts moment))
          → Moves a b (StandsFor (store mid).dirs table) (IsSettled (store mid).dirs (after table (Accept mid.terms (headed made.first message) made.cuts moment))) (IsEitherTable (store mid).dirs table (after table (Accept mid.terms (headed made.first message) made.cuts moment)))
          → IsStored config maps table message c d (store old).dirs a b new
      stored_of new holds_new moves = record {
        moment = moment;
        asked = asked;
        made = made;
        taken = subst (λ n. IsTakenIn config maps moment message n made) holds.next taken;
        holds = subst (λ (t : Terms). HoldsTable new (after table (Accept t (headed made.first message) made.cuts moment))) terms_are holds_new;
        moves = subst (λ (q : List (List ℕ)). Moves a b (StandsFor q table) (IsSettled q (after table (Accept (terms_of config) (headed made.first message) made.cuts moment))) (IsEitherTable q table (after table (Accept (terms_of config) (headed made.first message) made.cuts moment)))) dirs_are
            (subst (λ (t : Terms). Moves a b (StandsFor (store mid).dirs table) (IsSettled (store mid).dirs (after table (Accept t (headed made.first message) made.cuts moment))) (IsEitherTable (store mid).dirs table (after table (Accept t (headed made.first message) made.cuts moment)))) terms_are moves);
      }

      -- the spool failed
      pub broken_of : (store old).broken ≡ false → ((store mid).broken ≡ true) ⊎ Rose a.faults b.faults
          → Moves a b (StandsFor (store mid).dirs table) (IsEitherTable (store mid).dirs table (after table (Accept mid.terms (headed made.first message) made.cuts moment))) (IsEitherTable (store mid).dirs table (after table (Accept mid.terms (headed made.first message) made.cuts moment)))
          → IsBroken config maps table message c d (store old).dirs a b
      broken_of whole cause moves = record {
        moment = moment;
        asked = asked;
        made = made;
        taken = subst (λ n. IsTakenIn config maps moment message n made) holds.next taken;
        moves = subst (λ (q : List (List ℕ)). Moves a b (StandsFor q table) (IsEitherTable q table (after table (Accept (terms_of config) (headed made.first message) made.cuts moment))) (IsEitherTable q table (after table (Accept (terms_of config) (headed made.first message) made.cuts moment)))) dirs_are
            (subst (λ (t : Terms). Moves a b (StandsFor (store mid).dirs table) (IsEitherTable (store mid).dirs table (after table (Accept t (headed made.first message) made.cuts moment))) (IsEitherTable (store mid).dirs table (after table (Accept t (headed made.first message) made.cuts moment)))) terms_are moves);
        rose = rose_of old mid a.faults b.faults same whole cause;
      }
