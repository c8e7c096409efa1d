-- How words are read one after the other, and where the reading stops.
use Rattle.std.proofs.Common.{◌≡◌, ℕ, ◌+◌, List, [], ◌∷◌, ◌++◌, length, Option, Some, None, Result, Ok, Err, refl, sym, ◌∙◌, ap, arith}
use Rattle.mail_submit.specs.declared.words.SubmitWords.{SubmitWords}
use Rattle.command_line.specs.declared.mode.Job.{Job}
use Rattle.command_line.specs.declared.saying.Awaited.{Awaited}
use Rattle.command_line.specs.declared.saying.Saying.{Saying}
use Rattle.command_line.specs.declared.saying.Wait.{Wait}
use Rattle.command_line.specs.inner.Words.{and_then, or_refused, read_options, with_new, with_word}

abbrev pub said : Option Job → Option (List ℕ) → Option Wait → SubmitWords → Option Awaited → Saying
said job file wait mail awaits = record { job = job; file = file; wait = wait; mail = mail; awaits = awaits }

abbrev pub read : Saying → Result Saying ℕ
read last = Ok last

abbrev pub refused : ℕ → Result Saying ℕ
refused place = Err place

pub same_place : (a b : ℕ) → refused a ≡ refused b → a ≡ b
same_place a b e = cc e

pub read_never : (last : Saying) (place : ℕ) → read last ≡ refused place → ⊥
read_never last place e = absurd (cc e)

pub same_read : (one other : Saying) → read one ≡ read other → one ≡ other
same_read one other e = cc e

-- ---- one word

pub turns : (s next : Saying) (start : ℕ) (word : List ℕ) (words : List (List ℕ)) → with_word s word start ≡ Ok next → read_options s start (word ∷ words) ≡ read_options next (start + 1) words
turns s next start word words e = ap (λ (step : Result Saying ℕ). and_then step (λ n. read_options n (start + 1) words)) e

pub stuck : (s : Saying) (start place : ℕ) (word : List ℕ) (words : List (List ℕ)) → with_word s word start ≡ Err place → read_options s start (word ∷ words) ≡ Err place
stuck s start place word words e = ap (λ (step : Result Saying ℕ). and_then step (λ n. read_options n (start + 1) words)) e

-- a word that nothing awaits
pub takes : (job : Option Job) (file : Option (List ℕ)) (wait : Option Wait) (mail : SubmitWords) (next : Saying) (start : ℕ) (word : List ℕ) (words : List (List ℕ)) → with_new (said job file wait mail None) word start ≡ Some next
    → read_options (said job file wait mail None) start (word ∷ words) ≡ read_options next (start + 1) words
takes job file wait mail next start word words e = turns (said job file wait mail None) next start word words (ap (λ (o : Option Saying). or_refused o start) e)

pub refuses : (job : Option Job) (file : Option (List ℕ)) (wait : Option Wait) (mail : SubmitWords) (start : ℕ) (word : List ℕ) (words : List (List ℕ)) → with_new (said job file wait mail None) word start ≡ None
    → read_options (said job file wait mail None) start (word ∷ words) ≡ Err start
refuses job file wait mail start word words e = stuck (said job file wait mail None) start start word words (ap (λ (o : Option Saying). or_refused o start) e)

-- ---- more words

abbrev pub Begins : Saying → ℕ → List (List ℕ) → Type 0
Begins s start words = (next : Saying) × (read_options s start words ≡ Ok next)

front_turn : (w : List ℕ) (front rest : List (List ℕ)) (s last : Saying) (start : ℕ)
    → ((next : Saying) → read_options next (start + 1) front ≡ Ok last → read_options next (start + 1) (front ++ rest) ≡ read_options last (start + 1 + length front) rest)
    → (step : Result Saying ℕ) → with_word s w start ≡ step → read_options s start (w ∷ front) ≡ Ok last → read_options s start (w ∷ front ++ rest) ≡ read_options last (start + length (w ∷ front)) rest
front_turn w front rest s last start rec (Ok next) goes e =
    turns s next start w (front ++ rest) goes
    ∙ rec next (sym (turns s next start w front goes) ∙ e)
    ∙ ap (λ (p : ℕ). read_options last p rest) (omega arith)
front_turn w front rest s last start rec (Err place) goes e = absurd (read_never last place (sym e ∙ stuck s start place w front goes))

-- what stands behind a front that is read is read after it
pub read_after : (front rest : List (List ℕ)) (s last : Saying) (start : ℕ) → read_options s start front ≡ Ok last → read_options s start (front ++ rest) ≡ read_options last (start + length front) rest
read_after [] rest s last start e = ap (λ (x : Saying). read_options x start rest) (same_read s last e) ∙ ap (λ (p : ℕ). read_options last p rest) (omega arith)
read_after (w ∷ front) rest s last start e = front_turn w front rest s last start (λ next. read_after front rest next last (start + 1)) (with_word s w start) refl e

begins_turn : (w : List ℕ) (front : List (List ℕ)) (s : Saying) (start : ℕ) (more : List (List ℕ)) → ((next : Saying) → Begins next (start + 1) (front ++ more) → Begins next (start + 1) front)
    → (step : Result Saying ℕ) → with_word s w start ≡ step → Begins s start (w ∷ front ++ more) → Begins s start (w ∷ front)
begins_turn w front s start more rec (Ok next) goes all =
    let front_read = rec next (all.0, sym (turns s next start w (front ++ more) goes) ∙ all.1) in (front_read.0, turns s next start w front goes ∙ front_read.1)
begins_turn w front s start more rec (Err place) goes all = absurd (read_never all.0 place (sym all.1 ∙ stuck s start place w (front ++ more) goes))

-- a front of what is read is read
pub front_begins : (front : List (List ℕ)) (s : Saying) (start : ℕ) (more : List (List ℕ)) → Begins s start (front ++ more) → Begins s start front
front_begins [] s start more all = (s, refl)
front_begins (w ∷ front) s start more all = begins_turn w front s start more (λ next. front_begins front next (start + 1) more) (with_word s w start) refl all

-- ---- where the reading stops

-- at the word behind a front that is read
pub record IsStop (s : Saying) (start : ℕ) (words : List (List ℕ)) (place : ℕ) : Type 0 where
  pub front : List (List ℕ)
  pub word : List ℕ
  pub later : List (List ℕ)
  pub whole : words ≡ front ++ word ∷ later
  pub last : Saying
  pub good : read_options s start front ≡ Ok last
  pub bad : with_word last word (start + length front) ≡ Err place

stops_on : (s next : Saying) (start : ℕ) (word : List ℕ) (words : List (List ℕ)) (place : ℕ) → with_word s word start ≡ Ok next → IsStop next (start + 1) words place → IsStop s start (word ∷ words) place
stops_on s next start word words place goes is = record {
  front = word ∷ is.front;
  word = is.word;
  later = is.later;
  whole = ap (λ (w : List (List ℕ)). word ∷ w) is.whole;
  last = is.last;
  good = turns s next start word is.front goes ∙ is.good;
  bad = ap (λ (p : ℕ). with_word is.last is.word p) (omega arith) ∙ is.bad;
}

stops_here : (s : Saying) (start : ℕ) (word : List ℕ) (words : List (List ℕ)) (place : ℕ) → with_word s word start ≡ Err place → IsStop s start (word ∷ words) place
stops_here s start word words place e = record {
  front = [];
  word = word;
  later = words;
  whole = refl;
  last = s;
  good = refl;
  bad = ap (λ (p : ℕ). with_word s word p) (omega arith) ∙ e;
}

stops_turn : (word : List ℕ) (words : List (List ℕ)) (s : Saying) (start place : ℕ) → ((next : Saying) → read_options next (start + 1) words ≡ Err place → IsStop next (start + 1) words place)
    → (step : Result Saying ℕ) → with_word s word start ≡ step → read_options s start (word ∷ words) ≡ Err place → IsStop s start (word ∷ words) place
stops_turn word words s start place rec (Ok next) goes e = stops_on s next start word words place goes (rec next (sym (turns s next start word words goes) ∙ e))
stops_turn word words s start place rec (Err at) goes e =
    stops_here s start word words place (goes ∙ ap (λ (p : ℕ). refused p) (same_place at place (sym (stuck s start at word words goes) ∙ e)))

-- words that are refused at a place stop the reading
pub stops : (words : List (List ℕ)) (s : Saying) (start place : ℕ) → read_options s start words ≡ Err place → IsStop s start words place
stops [] s start place e = absurd (read_never s place e)
stops (word ∷ words) s start place e = stops_turn word words s start place (λ next. stops words next (start + 1) place) (with_word s word start) refl e

-- the reading stops behind a front that is read, at a word that is refused
pub here : (front : List (List ℕ)) (word : List ℕ) (later : List (List ℕ)) (s last : Saying) (start place : ℕ) → read_options s start front ≡ Ok last → with_word last word (start + length front) ≡ Err place
    → read_options s start (front ++ word ∷ later) ≡ Err place
here front word later s last start place good bad = read_after front (word ∷ later) s last start good ∙ stuck last (start + length front) place word later bad

-- and a word that is taken there is read
pub goes_on : (front : List (List ℕ)) (word : List ℕ) (s last next : Saying) (start : ℕ) → read_options s start front ≡ Ok last → with_word last word (start + length front) ≡ Ok next → Begins s start (front ++ word ∷ [])
goes_on front word s last next start good goes = (next, read_after front (word ∷ []) s last start good ∙ turns last next (start + length front) word [] goes)
