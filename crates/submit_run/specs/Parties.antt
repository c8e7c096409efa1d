-- Who sends a message that is handed over, and who gets it (the manual page of Sendmail's own
-- program, -f and -t; that the sender is the first of the header From where -f isn't there, and
-- postmaster where there is none, and the macros r and s, are own).
use Rattle.std.specs.Prelude.{◌≡◌, ℕ, Bool, true, false, not, ◌&&◌, ◌==◌, List, [], ◌∷◌, filter, length, Option, Some, None, unwrap_or, if◌then◌else◌, codes, refl}
use Rattle.std.specs.List.{list_any}
use Rattle.std.specs.Str.{str_eq_ignore_ascii_case}
use Rattle.mail_base.specs.Texts.{without_angles}
use Rattle.mail_base.specs.declared.message.Kept.{Kept}
use Rattle.mail_submit.specs.Said.{bracketed}
use Rattle.mail_submit.specs.declared.words.SubmitWords.{SubmitWords}

-- the sender: that of -f, else the first address of the header From, else postmaster
abbrev pub sender_of : SubmitWords → Option (List ℕ) → List ℕ
sender_of words first_from =
    bracketed (unwrap_or words.sender (unwrap_or first_from (codes "postmaster")))

-- an address is that of a word, whatever its case; a pair of angles is no part of the word
abbrev pub is_of : List ℕ → List ℕ → Bool
is_of word address = str_eq_ignore_ascii_case address (without_angles word)

abbrev pub is_left_out : List (List ℕ) → List ℕ → Bool
is_left_out words address = list_any (λ word. is_of word address) words

-- an address that headers name gets the message, unless it has no bytes or is that of a word
abbrev pub is_kept : List (List ℕ) → List ℕ → Bool
is_kept words address = not (length address == 0) && not (is_left_out words address)

-- who gets it: with -t those that headers name, and else the words
abbrev pub recipients_of : SubmitWords → List (List ℕ) → List (List ℕ)
recipients_of words found =
    if words.from_headers then filter (is_kept words.addresses) found else words.addresses

-- what is kept of a message's session: the macros r and s, and no address of a peer
abbrev pub kept : Kept
kept = record { protocol = codes "SUBMIT"; helo = codes "localhost"; client = [] }

abbrev words_with : Bool → Option (List ℕ) → List (List ℕ) → SubmitWords
words_with from_headers sender addresses = record {
  from_headers = from_headers;
  dot = true;
  sender = sender;
  addresses = addresses;
}

abbrev ann : List ℕ
ann = codes "ann@mx"

abbrev cid : List ℕ
cid = codes "cid@mx"

-- a word with -t gets nothing; without it the words get it, and nobody else
example :
    (recipients_of (words_with true None (codes "<CID@mx>" ∷ [])) (ann ∷ cid ∷ []) ≡ ann ∷ [])
    × (recipients_of (words_with true None (ann ∷ [])) (ann ∷ []) ≡ [])
    × (recipients_of (words_with false None (cid ∷ [])) [] ≡ cid ∷ [])
    × (sender_of (words_with true (Some (codes "bob@c")) []) (Some ann) ≡ codes "<bob@c>")
    × (sender_of (words_with true (Some (codes "<>")) []) (Some ann) ≡ codes "<>")
    × (sender_of (words_with true None []) (Some ann) ≡ codes "<ann@mx>")
    × (sender_of (words_with true None []) None ≡ codes "<postmaster>")
example = (refl, refl, refl, refl, refl, refl, refl)
