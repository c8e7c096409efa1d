-- Lexemes that are tokens.
use Rattle.std.proofs.Common.{◌≡◌, ℕ, Bool, true, false, List, [], ◌∷◌, map, Ok, Err, Result, refl, sym, ◌∙◌, ap, subst}
use Rattle.std.specs.List.{flat_map}
use Rattle.std.proofs.lemmas.Bool.{false≢true}
use Rattle.mail_base.specs.declared.token.Token.{Token}
use Rattle.mail_base.specs.declared.token.Token.TheVariants.{Word, Quoted, Op, Sign}
use Rattle.addr_tokens.specs.declared.fault.ScanFault.{ScanFault}
use Rattle.addr_tokens.specs.declared.lexeme.Dollars.{Dollars}
use Rattle.addr_tokens.specs.declared.lexeme.Dollars.TheVariants.{Bytes, Typed, Side}
use Rattle.addr_tokens.specs.declared.lexeme.Lexeme.{Lexeme}
use Rattle.addr_tokens.specs.declared.lexeme.Lexeme.TheVariants.{Token as Plain}
use Rattle.addr_tokens.specs.Pieces.{Alphabet, Construct, Single, Letter, Braced, Piece, White, Comment, Quotation, Operator, Dollar, Run, ArePieces, is_side, is_construct_in, is_listed, lexeme_of, lexemes_of, text_in, mark_of}
use Rattle.addr_tokens.specs.Scans.{AreLexemes, AreTokens}
use Rattle.addr_tokens.specs.Reader.{Answer, token_in, tokens_among, tokens_or_fault, outcome_of}
use Rattle.addr_tokens.proofs.OutcomeLemmas.{Means, answer_means, lexemes_answered}

-- the tokens among tokens
pub token_in-map : (tokens : List Token) → flat_map token_in (map Plain tokens) ≡ tokens
token_in-map [] = refl
token_in-map (token ∷ tokens) = ap (λ x. token ∷ x) (token_in-map tokens)

-- the lexeme is a token
pub record IsToken (lexeme : Lexeme) : Type 0 where
  pub token : Token
  pub is : lexeme ≡ Plain token

construct_token : (dollars : Dollars) (operator : Bool) (construct : Construct) → is_side dollars ≡ false → is_construct_in dollars operator construct ≡ true → IsToken (lexeme_of dollars construct)
construct_token Bytes operator construct plain is = absurd (false≢true is)
construct_token Typed operator (Single b) plain is = record { token = Sign (mark_of b); is = refl }
construct_token Typed operator (Letter b letter) plain is = absurd (false≢true is)
construct_token Typed operator (Braced b name) plain is = absurd (false≢true is)
construct_token Side operator construct plain is = absurd (false≢true (sym plain))

with_token : (lexeme : Lexeme) (more : List Lexeme) → IsToken lexeme → more ≡ map Plain (flat_map token_in more) → lexeme ∷ more ≡ map Plain (flat_map token_in (lexeme ∷ more))
with_token lexeme more t rest =
    subst (λ x. x ∷ more ≡ map Plain (flat_map token_in (x ∷ more))) (sym t.is) (ap (λ x. Plain t.token ∷ x) rest)

-- outside of rules' sides pieces give tokens
plain_pieces : (alphabet : Alphabet) (pieces : List Piece) (rest : List ℕ) → is_side alphabet.dollars ≡ false → ArePieces alphabet pieces rest
    → lexemes_of alphabet.dollars pieces ≡ map Plain (flat_map token_in (lexemes_of alphabet.dollars pieces))
plain_pieces alphabet [] rest plain each = refl
plain_pieces alphabet (White b ∷ pieces) rest plain each = plain_pieces alphabet pieces rest plain each.1
plain_pieces alphabet (Comment bytes ∷ pieces) rest plain each = plain_pieces alphabet pieces rest plain each.1
plain_pieces alphabet (Quotation bytes ∷ pieces) rest plain each = ap (λ x. Plain (Quoted (text_in alphabet.dollars bytes)) ∷ x) (plain_pieces alphabet pieces rest plain each.1)
plain_pieces alphabet (Operator b ∷ pieces) rest plain each = ap (λ x. Plain (Op b) ∷ x) (plain_pieces alphabet pieces rest plain each.1)
plain_pieces alphabet (Dollar construct ∷ pieces) rest plain each =
    with_token (lexeme_of alphabet.dollars construct) (lexemes_of alphabet.dollars pieces) (construct_token alphabet.dollars (is_listed alphabet 36) construct plain each.0) (plain_pieces alphabet pieces rest plain each.1)
plain_pieces alphabet (Run bytes ∷ pieces) rest plain each = ap (λ x. Plain (Word (text_in alphabet.dollars bytes)) ∷ x) (plain_pieces alphabet pieces rest plain each.1)

-- where no side of a rule is cut, each lexeme is a plain token
pub plain_lexemes : (alphabet : Alphabet) (angles : Bool) (text : List ℕ) (lexemes : List Lexeme) → is_side alphabet.dollars ≡ false → AreLexemes alphabet angles text lexemes → lexemes ≡ map Plain (flat_map token_in lexemes)
plain_lexemes alphabet angles text lexemes plain a =
    sym a.lexemes_are ∙ plain_pieces alphabet a.pieces [] plain a.cut.each ∙ ap (λ x. map Plain (flat_map token_in x)) a.lexemes_are

-- ---- the tokens that are computed

same_ok : (answer : Result (List Token) ScanFault) (one other : List Token) → answer ≡ Ok one → answer ≡ Ok other → one ≡ other
same_ok answer one other a b = cc

no_ok : (answer : Result (List Token) ScanFault) (fault : ScanFault) (tokens : List Token) → answer ≡ Err fault → answer ≡ Ok tokens → ⊥
no_ok answer fault tokens a b = cc

tokens_by : (alphabet : Alphabet) (angles : Bool) (text : List ℕ) (answer : Answer) (tokens : List Token) → is_side alphabet.dollars ≡ false → Means alphabet angles text answer → tokens_among answer ≡ Ok tokens → AreTokens alphabet angles text tokens
tokens_by alphabet angles text (Ok lexemes) tokens plain means is =
    let all : lexemes ≡ map Plain tokens = plain_lexemes alphabet angles text lexemes plain means ∙ ap (map Plain) (same_ok (tokens_among (Ok lexemes)) (flat_map token_in lexemes) tokens refl is) in
    subst (AreLexemes alphabet angles text) all means
tokens_by alphabet angles text (Err fault) tokens plain means is = absurd (no_ok (tokens_among (Err fault)) fault tokens refl is)

-- the tokens that the cutting answers are those of the text
pub tokens_of_answer : (alphabet : Alphabet) (angles : Bool) (text : List ℕ) (tokens : List Token) → is_side alphabet.dollars ≡ false → tokens_or_fault alphabet angles text ≡ Ok tokens → AreTokens alphabet angles text tokens
tokens_of_answer alphabet angles text tokens plain is = tokens_by alphabet angles text (outcome_of alphabet angles text) tokens plain (answer_means alphabet angles text) is

-- the tokens of a text are what the cutting answers
pub tokens_answered : (alphabet : Alphabet) (angles : Bool) (text : List ℕ) (tokens : List Token) → AreTokens alphabet angles text tokens → tokens_or_fault alphabet angles text ≡ Ok tokens
tokens_answered alphabet angles text tokens a = ap tokens_among (lexemes_answered alphabet angles text (map Plain tokens) a) ∙ ap Ok (token_in-map tokens)
