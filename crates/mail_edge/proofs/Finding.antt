-- The first file of a name, found by going over the files in order.
use Rattle.std.proofs.Common.{◌≡◌, ℕ, suc, ◌+◌, ◌<◌, true, false, cond, List, ◌∷◌, length, drop, get_or, Some, sym, ◌∙◌, ap, add-one, drop-cons}
use Rattle.std.specs.Prelude.{bytes_eq}
use Rattle.mail_edge.specs.Seen.{FileMap, text_of}

-- what is left from a place on begins with the file there
from_here : (files : FileMap) (i : ℕ) (f : List ℕ × List ℕ) → i < length files → f ≡ get_or files i f → drop i files ≡ f ∷ drop (i + 1) files
from_here files i f h e = rw add-one (drop-cons files i f h ∙ ap (λ q. q ∷ drop (suc i) files) (sym e))

-- a file of that name is the first one from here on
pub found_here : (files : FileMap) (name : List ℕ) (i : ℕ) (f : List ℕ × List ℕ) → i < length files → f ≡ get_or files i f → bytes_eq name f.0 ≡ true → text_of (drop i files) name ≡ Some f.1
found_here files name i f h e t = ap (λ q. text_of q name) (from_here files i f h e) ∙ ap (λ b. cond b (Some f.1) (text_of (drop (i + 1) files) name)) t

-- a file of another name is passed by
pub passed_by : (files : FileMap) (name : List ℕ) (i : ℕ) (f : List ℕ × List ℕ) → i < length files → f ≡ get_or files i f → bytes_eq name f.0 ≡ false → text_of (drop (i + 1) files) name ≡ text_of (drop i files) name
passed_by files name i f h e t = sym (ap (λ q. text_of q name) (from_here files i f h e) ∙ ap (λ b. cond b (Some f.1) (text_of (drop (i + 1) files) name)) t)
