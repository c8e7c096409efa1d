-- What a core holds for its sessions is within limits.
use Rattle.std.proofs.Common.{◌+◌, ◌≤◌, Bool, true, false, List, [], ◌∷◌, length, All, IfSome, ap, subst, sym, arith}
use Rattle.std.specs.List.{AllZip}
use Rattle.std.proofs.lemmas.List.{length-take}
use Rattle.std.proofs.lemmas.List.Elements.{All-nil, All-cons}
use Rattle.mail_base.specs.Limits.{message_limit, most_command, most_message, most_rows}
use Rattle.smtp_lines.specs.Reader.{Reader, Stream, most_kept, Stands as Reads}
use Rattle.smtp_lines.specs.declared.line.Mode.{Mode}
use Rattle.smtp_lines.specs.declared.line.Mode.TheVariants.{Commands, Message}
use Rattle.mail_header.specs.Gatherings.{IsSmall as IsSmallMessage}
use Rattle.smtp_receive.specs.Dialogue.{exchanges, lines_in}
use Rattle.smtp_receive.specs.Sessions.{IsBounded}
use Rattle.smtp_receive.proofs.EndLemmas.{holds_small}
use Rattle.smtp_receive.proofs.RowLemmas.{rows_few}
use Rattle.mail_core.specs.declared.caller.Caller.{Caller}
use Rattle.mail_core.specs.declared.serving.Core.{Core}
use Rattle.mail_core.specs.Bounds.{AreSmall, IsSmall}
use Rattle.mail_core.specs.Guests.{Guest}
use Rattle.mail_core.specs.States.{State}
use Rattle.mail_core.specs.Machine.{most_guests}
use Rattle.mail_core.specs.Sites.{Site}
use Rattle.mail_core.specs.Standing.{Keeps, Stands, Talks}
use Rattle.mail_core.proofs.CallerLemmas.{as_many}

-- a command is shorter than a line of a message may be
command_short : most_command ≤ most_message + 3
unfolding most_command most_message
command_short = omega arith

kept_few : (mode : Mode) (may_turn : Bool) → most_kept mode may_turn ≤ most_message + 3
unfolding most_kept
kept_few Commands false = command_short
kept_few Commands true = omega arith
kept_few Message may_turn = omega arith

-- what is kept of a line under way is a front of it
line_short : (r : Reader) (s : Stream) → Reads r s → length r.under.kept ≤ most_message + 3
line_short r s h =
    let long = length-take (most_kept r.under.mode r.under.may_turn) h.begun in
    let is = ap length h.holds.kept in
    let few = kept_few r.under.mode r.under.may_turn in
    omega (arith, long, is, few)

talks_bounded : (site : Site) (caller : Caller) (g : Guest) → Talks site caller g → IsBounded caller.session site.config
talks_bounded site caller g t =
    let k = t.session in record {
      rows = subst (λ rows. length rows ≤ most_rows) (sym k.rows_is) (rows_few g.config g.peer g.heard);
      bytes = subst (λ q. IfSome caller.session.message (λ m. IsSmallMessage m (message_limit q.options))) t.config
          (holds_small (message_limit g.config.options) caller.session.message (lines_in (exchanges g.config g.peer g.heard)) k.message_is);
    }

small : (site : Site) (caller : Caller) (g : Guest) → Keeps site caller g → IsSmall site.config caller
small site caller g k = record {
  session = talks_bounded site caller g k.talks;
  line = line_short caller.lines k.follows.stream k.follows.stands;
  left = k.left;
}

each_small : (site : Site) (cs : List Caller) (gs : List Guest) → AllZip (Keeps site) cs gs → All (IsSmall site.config) cs
each_small site [] [] h = All-nil (IsSmall site.config)
each_small site [] (g ∷ gs) h = absurd h
each_small site (c ∷ cs) [] h = absurd h
each_small site (c ∷ cs) (g ∷ gs) h = All-cons (IsSmall site.config) c cs (small site c g h.0) (each_small site cs gs h.1)

-- a core that stands for a state holds no more
pub stands_small : (site : Site) (core : Core) (m : State) → Stands site core m → AreSmall site.config core
stands_small site core m st = record {
  few = subst (λ n. n ≤ most_guests) (as_many site core.callers.items m.guests st.callers) st.guests.few;
  each = each_small site core.callers.items m.guests st.callers;
}
