-- What a floor tells of sends and hang-ups.
use Rattle.std.proofs.Common.{◌≡◌, ℕ, List, [], ◌∷◌, Bool, true, false, Option, Some, None, ◌∙◌, ap, subst}
use Rattle.std.specs.Prelude.{IfSome}
use Rattle.mail_base.specs.Histories.{Gains}
use Rattle.mail_base.proofs.Gaining.{gains_join}
use Rattle.link_edge.specs.declared.event.FloorEvent.{FloorEvent}
use Rattle.link_edge.specs.declared.event.FloorEvent.TheVariants.{Sent, Unsent, HungUp}
use Rattle.link_edge.specs.Sessions.{is_among, is_open, is_sound, send_event}
use Rattle.link_edge.proofs.Sessioning.{open_push}
use Rattle.link_edge.proofs.Sounding.{sound_is_open}
use Rattle.mail_core.specs.Effects.{Sends, HangsUp, heard_of, speech}

abbrev pub Sound : Option (List FloorEvent) → ℕ → Type 0
Sound told session = IfSome told (λ history. is_sound session history ≡ true)

abbrev pub Open : Option (List FloorEvent) → ℕ → Type 0
Open told session = IfSome told (λ history. is_open session history ≡ true)

-- a session to which no send has failed is open
pub open_of : (a : Option (List FloorEvent)) (s : ℕ) → Sound a s → Open a s
open_of None s h = tt
open_of (Some history) s h = sound_is_open history s h

-- a session is open still after a send
pub open_sent : (a b : Option (List FloorEvent)) (s : ℕ) (text : List ℕ) (whole : Bool) → Open a s → Gains a b (send_event s text whole ∷ []) → Open b s
open_sent None None s text whole h g = tt
open_sent None (Some k) s text whole h g = absurd g
open_sent (Some history) None s text whole h g = absurd g
open_sent (Some history) (Some k) s text true h g = ap (is_open s) g ∙ ap (is_among s) (open_push history (Sent s text)) ∙ h
open_sent (Some history) (Some k) s text false h g = ap (is_open s) g ∙ ap (is_among s) (open_push history (Unsent s)) ∙ h

-- the send failed, and a hang-up came after it
pub said_badly : (a b c : Option (List FloorEvent)) (s : ℕ) (text : List ℕ) (whole : Bool) → whole ≡ false → Gains a b (send_event s text whole ∷ []) → Gains b c (HungUp s ∷ []) → Gains a c (heard_of (speech s text false))
said_badly a b c s text whole e g k = gains_join a b c (Unsent s ∷ []) (HungUp s ∷ []) (subst (λ w. Gains a b (send_event s text w ∷ [])) e g) k

-- a hang-up after what was said whole
pub parted_after : (a b c : Option (List FloorEvent)) (s : ℕ) (text : List ℕ) → Gains a b (heard_of (speech s text true)) → Gains b c (HungUp s ∷ []) → (whole : Bool) × Gains a c (heard_of (Sends s text whole ∷ HangsUp s ∷ []))
parted_after a b c s text g k = (true, gains_join a b c (Sent s text ∷ []) (HungUp s ∷ []) g k)

-- the same session and text
pub told_as : (a b : Option (List FloorEvent)) (s t : ℕ) (one other : List ℕ) (whole : Bool) → s ≡ t → one ≡ other → Gains a b (heard_of (speech s one whole)) → Gains a b (heard_of (speech t other whole))
told_as a b s t one other whole e k g = subst (λ q. Gains a b (heard_of (speech t q whole))) k (subst (λ q. Gains a b (heard_of (speech q one whole))) e g)
