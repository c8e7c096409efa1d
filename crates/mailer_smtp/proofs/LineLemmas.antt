-- Lines that stay open and sound along a history.
use Rattle.std.proofs.Common.{◌≡◌, ◌≤◌, ℕ, Bool, true, false, List, [], ◌∷◌, Option, Some, None, refl, sym, ◌∙◌, ap, arith}
use Rattle.std.specs.Prelude.{IfSome, ◌||◌}
use mathlib.Core.Bool.{true≢false}
use Rattle.mail_base.specs.Histories.{Gains, Rose}
use Rattle.link_edge.specs.declared.dial_event.DialEvent.{DialEvent}
use Rattle.link_edge.specs.declared.dial_event.DialEvent.TheVariants.{Dialled}
use Rattle.link_edge.specs.declared.peer.Peer.{Peer}
use Rattle.link_edge.specs.Lines.{is_open, is_sound, open_after, sound_after, open_in, sound_in}
use Rattle.link_edge.specs.Sessions.{is_among}
use Rattle.link_edge.proofs.LineSounding.{open_push, sound_push, sound_is_open, dialled_is_sound}
use Rattle.mailer_smtp.specs.Deliveries.{Counts}

-- an event that leaves the sound lines as they are
pub sound_on : (old new : Option (List DialEvent)) (line : ℕ) (event : DialEvent) → ((xs : List ℕ) → sound_after xs event ≡ xs) → Gains old new (event ∷ []) → IfSome old (λ h. is_sound line h ≡ true) → IfSome new (λ h. is_sound line h ≡ true)
sound_on None None line event same told sound = tt
sound_on None (Some new) line event same told sound = absurd told
sound_on (Some old) None line event same told sound = absurd told
sound_on (Some old) (Some new) line event same told sound = ap (is_sound line) told ∙ ap (is_among line) (sound_push old event ∙ same (sound_in old)) ∙ sound

-- and one that leaves the open lines as they are
pub open_on : (old new : Option (List DialEvent)) (line : ℕ) (event : DialEvent) → ((xs : List ℕ) → open_after xs event ≡ xs) → Gains old new (event ∷ []) → IfSome old (λ h. is_open line h ≡ true) → IfSome new (λ h. is_open line h ≡ true)
open_on None None line event same told live = tt
open_on None (Some new) line event same told live = absurd told
open_on (Some old) None line event same told live = absurd told
open_on (Some old) (Some new) line event same told live = ap (is_open line) told ∙ ap (is_among line) (open_push old event ∙ same (open_in old)) ∙ live

-- a sound line is open
pub sound_open : (told : Option (List DialEvent)) (line : ℕ) → IfSome told (λ h. is_sound line h ≡ true) → IfSome told (λ h. is_open line h ≡ true)
sound_open None line sound = tt
sound_open (Some history) line sound = sound_is_open history line sound

-- a line that was just dialled is sound
pub dialled_on : (old new : Option (List DialEvent)) (peer : Peer) (line missed : ℕ) → Gains old new (Dialled peer line missed ∷ []) → IfSome new (λ h. is_sound line h ≡ true)
dialled_on None None peer line missed told = tt
dialled_on None (Some new) peer line missed told = absurd told
dialled_on (Some old) None peer line missed told = absurd told
dialled_on (Some old) (Some new) peer line missed told = ap (is_sound line) told ∙ dialled_is_sound old peer line missed

-- counts, one after the other
pub counts_join : (a b c : ℕ) (f g : Bool) → Counts a b f → Counts b c g → Counts a c (f || g)
counts_join a b c true g h k = record {
  later = omega (arith, h.later, k.later);
  rose = λ _. let r = h.rose refl in omega (arith, r, k.later);
  calm = λ t. absurd (true≢false t);
}
counts_join a b c false g h k = record {
  later = omega (arith, h.later, k.later);
  rose = λ t. let r = k.rose t in omega (arith, r, h.later);
  calm = λ t. k.calm t ∙ h.calm refl;
}

-- no fault
pub counts_calm : (a b : ℕ) (f : Bool) → f ≡ false → b ≡ a → Counts a b f
counts_calm a b true none same = absurd (true≢false none)
counts_calm a b false none same = record { later = omega (arith, same); rose = λ t. absurd (true≢false (sym t)); calm = λ _. same }

-- a fault
pub counts_rose : (a b : ℕ) → a ≤ b → Rose a b → Counts a b true
counts_rose a b later rose = record { later = later; rose = λ _. rose; calm = λ t. absurd (true≢false t) }
