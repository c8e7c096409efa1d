use Rattle.std.proofs.Common.{◌≡◌, ℕ, List, ◌∙◌, ap}
use Rattle.std.specs.Prelude.{Option, codes}
use Rattle.mailer_smtp.specs.declared.kit.Kit.{Kit}
use Rattle.mailer_smtp.specs.Texts.{greeting_line, path_line, dotted}
use Rattle.mailer_smtp.proofs.texts.kit_of.Goals as goal

kit_is : (a a' b b' d d' e e' g g' h h' i i' : List ℕ) (f f' : List (Option (List ℕ))) → a ≡ a' → b ≡ b' → d ≡ d' → e ≡ e' → f ≡ f' → g ≡ g' → h ≡ h' → i ≡ i'
    → ◌≡◌ {A = Kit} (record { hello = a; again = b; mail = d; mail_eight = e; rcpts = f; start = g; text = h; quit = i }) (record { hello = a'; again = b'; mail = d'; mail_eight = e'; rcpts = f'; start = g'; text = h'; quit = i' })
kit_is a a' b b' d d' e e' g g' h h' i i' f f' p q r s t u v w = cc

pub returns : goal.returns
returns c = kit_is _ _ _ _ _ _ _ _ _ _ _ _ _ _ _ _
    (c.in_ok-greeting.ensures ∙ ap (λ x. greeting_line x c.args.letter.now.host) c.hello_word.ensures)
    c.in_ok-greeting-2.ensures c.in_ok-path.ensures
    (c.in_ok-path-2.ensures ∙ ap (λ x. path_line (codes "MAIL FROM:<") c.args.letter.now.sender x) c.mail_end.ensures)
    c.in_ok-rcpts.ensures c.in_ok-of.ensures (c.in_ok-stuffed.ensures ∙ ap dotted c.bytes.ensures) c.in_ok-of-2.ensures
