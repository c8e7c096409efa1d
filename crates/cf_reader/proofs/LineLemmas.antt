-- Indented lines are joined to the text before them.
use Rattle.std.proofs.Common.{◌≡◌, ℕ, List, [], ◌∷◌, ◌++◌, Bool, true, cond, sym, ◌∙◌, ap}
use Rattle.std.specs.List.{flat_map, take_while}
use Rattle.std.proofs.lemmas.List.Sums.{take_while-cons}
use Rattle.std.proofs.lemmas.List.{append_assoc}
use Rattle.cf_reader.specs.LogicalLines.{is_indented}

-- an indented line goes to the text so far
pub joined_more : (joint : ℕ) (whole text pushed extended more : List ℕ) (all rest : List (List ℕ)) → true ≡ is_indented more → all ≡ more ∷ rest → pushed ≡ text ++ joint ∷ [] → extended ≡ pushed ++ more
    → text ++ flat_map (λ line. joint ∷ line) (take_while is_indented all) ≡ whole → extended ++ flat_map (λ line. joint ∷ line) (take_while is_indented rest) ≡ whole
joined_more joint whole text pushed extended more all rest indented front p q so_far =
    let spread : List (List ℕ) → List ℕ = flat_map (λ line. joint ∷ line) in
    let kept : take_while is_indented all ≡ more ∷ take_while is_indented rest =
    ap (take_while is_indented) front ∙ take_while-cons is_indented more rest ∙ ap (λ (b : Bool). cond b (more ∷ take_while is_indented rest) []) (sym indented) in
    ap (λ (t : List ℕ). t ++ spread (take_while is_indented rest)) (q ∙ ap (λ (t : List ℕ). t ++ more) p)
    ∙ append_assoc (text ++ joint ∷ []) more (spread (take_while is_indented rest))
    ∙ append_assoc text (joint ∷ []) (more ++ spread (take_while is_indented rest))
    ∙ ap (λ (ls : List (List ℕ)). text ++ spread ls) (sym kept) ∙ so_far
