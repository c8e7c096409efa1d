-- The headers of a notice are headers.
use Rattle.std.proofs.Common.{◌≡◌, ℕ, zero, suc, ◌==◌, ◌||◌, ◌≢◌, Bool, true, false, List, [], ◌∷◌, ◌++◌, map, codes, slice_index, refl, All, arith}
use Rattle.std.proofs.lemmas.Bool.{eqb-false}
use Rattle.std.proofs.lemmas.List.Elements.{All-nil, All-cons}
use Rattle.mail_base.specs.Notes.{blanked}
use Rattle.mail_base.specs.Texts.{IsHeader}
use Rattle.dsn_bounce.specs.Returned.{titled, subject, headers_of}
use Rattle.dsn_bounce.specs.declared.topic.Topic.{Topic}

blanked_by : (b : ℕ) (t : Bool) → (b == 10 || b == 13) ≡ t → blanked b ≢ 10
blanked_by b true e = rw e (eqb-false 32 10 refl)
blanked_by b false e = rw e (grind (arith, e))

no_feed : (text : List ℕ) (k : ℕ) → slice_index (map blanked text) k ≢ 10
no_feed [] k = eqb-false 0 10 refl
no_feed (b ∷ rest) zero = blanked_by b (b == 10 || b == 13) refl
no_feed (b ∷ rest) (suc k) = no_feed rest k

titled_header : (name value : List ℕ) → IsHeader (titled name value)
titled_header name value k feed = absurd (no_feed (name ++ (codes ": " ++ value)) k feed)

five : (a b c d e : List ℕ) → IsHeader a → IsHeader b → IsHeader c → IsHeader d → IsHeader e
    → All IsHeader (a ∷ b ∷ c ∷ d ∷ e ∷ [])
five a b c d e one two three four last =
    All-cons IsHeader a (b ∷ c ∷ d ∷ e ∷ []) one
    (All-cons IsHeader b (c ∷ d ∷ e ∷ []) two
    (All-cons IsHeader c (d ∷ e ∷ []) three
    (All-cons IsHeader d (e ∷ []) four
    (All-cons IsHeader e [] last (All-nil IsHeader)))))

-- each of its headers goes on in lines that begin with a blank
pub headers_are : (topic : Topic) (host receiver date : List ℕ)
    → All IsHeader (headers_of topic host receiver date)
headers_are topic host receiver date =
    let from = codes "Mail Delivery Subsystem <MAILER-DAEMON@" ++ (host ++ codes ">") in
    five (titled (codes "Date") date) (titled (codes "From") from) (titled (codes "To") receiver)
    (titled (codes "Subject") (subject topic)) (titled (codes "Auto-Submitted") (codes "auto-generated"))
    (titled_header (codes "Date") date) (titled_header (codes "From") from) (titled_header (codes "To") receiver)
    (titled_header (codes "Subject") (subject topic)) (titled_header (codes "Auto-Submitted") (codes "auto-generated"))
