-- What comes first inside the conditionals that are open around a rest.
use Rattle.std.proofs.Common.{◌≡◌, ℕ, zero, suc, List, ◌++◌, refl, ap, sym, ◌∙◌, append_assoc, Some, Bool, true, false, if◌then◌else◌}
use Rattle.cf_macros.specs.Readings.{Parts, Choose, Reading, Last, BeforeElse, BeforeEnd, put, first_part, second_part, behind_end, closing}
use Rattle.cf_macros.specs.Expansion.{Act, acts_of, silent, gives_any}
use Rattle.cf_macros.specs.inner.Insides.{is_closed, inside, inside_other}

-- something in front comes first
pub inside-put : (followed : List ℕ → List Act) (front : Parts → Parts) (first : List Act) → ((parts : Parts) → acts_of followed (front parts) ≡ first ++ acts_of followed parts) →
    (depth : ℕ) (rest : Reading) → inside followed depth (put front rest) ≡ first ++ inside followed depth rest
inside-put followed front first h zero (Last parts) = h parts
inside-put followed front first h zero (BeforeElse parts more) = rw (h parts) (append_assoc first (acts_of followed parts) _)
inside-put followed front first h zero (BeforeEnd parts more) = rw (h parts) (append_assoc first (acts_of followed parts) _)
inside-put followed front first h (suc depth) (Last parts) = rw (h parts) (append_assoc first (acts_of followed parts) _)
inside-put followed front first h (suc depth) (BeforeElse parts more) = rw (h parts) (append_assoc first (acts_of followed parts) _)
inside-put followed front first h (suc depth) (BeforeEnd parts more) = rw (h parts) (append_assoc first (acts_of followed parts) _)

-- what is put in front doesn't change whether the conditionals around are closed
pub closed-put : (front : Parts → Parts) (depth : ℕ) (rest : Reading) → is_closed depth (put front rest) ≡ is_closed depth rest
closed-put front zero rest = refl
closed-put front (suc depth) (Last parts) = refl
closed-put front (suc depth) (BeforeElse parts more) = refl
closed-put front (suc depth) (BeforeEnd parts more) = refl

-- a conditional's acts are its test's, and then those of the part that the test chose
pub inside-choose : (followed : List ℕ → List Act) (place : ℕ) (name : List ℕ) (inner after : Reading) (depth : ℕ) → behind_end inner ≡ Some after →
    inside followed depth (closing place name inner (Some after)) ≡ silent (followed name) ++ (if gives_any (followed name) then inside followed (suc depth) inner else inside_other followed (suc depth) inner)
inside-choose followed place name inner after depth e =
    inside-put followed (Choose name (first_part inner) (second_part inner)) chosen (λ parts. sym (append_assoc (silent (followed name)) _ (acts_of followed parts))) depth after
    ∙ append_assoc (silent (followed name)) _ (inside followed depth after)
    ∙ ap (λ acts. silent (followed name) ++ acts) (branch (gives_any (followed name)))
  where
    chosen : List Act
    chosen = silent (followed name) ++ (if gives_any (followed name) then acts_of followed (first_part inner) else acts_of followed (second_part inner))

    branch : (b : Bool) → (if b then acts_of followed (first_part inner) else acts_of followed (second_part inner)) ++ inside followed depth after ≡ (if b then inside followed (suc depth) inner else inside_other followed (suc depth) inner)
    branch true = rw e refl
    branch false = rw e refl
