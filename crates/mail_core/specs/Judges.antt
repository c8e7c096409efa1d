-- What is seen of a judge, and what calls do to it (own).
use Rattle.std.specs.Prelude.{◌≡◌, ◌≤◌, ℕ, List, Bool, true, false, Option}
use Rattle.mail_base.specs.Answering.{Answerer}
use Rattle.mail_base.specs.Histories.{Rose}
use Rattle.mail_base.specs.declared.draw.Draw.{Draw}
use Rattle.smtp_receive.specs.Judging.{IsSaid, IsSteady, Question, Said}
use Rattle.queue_run.specs.Backs.{Drawer, drawer}

-- its count of faults, whether it tells its answers, the test of one, and that of the rows which it
-- draws for a receiver of returned mail
pub record JudgeSeen : Type 1 where
  pub answerer : Answerer
  pub test : Question → Said → Type 0
  pub draws : List ℕ → List Draw → Type 0

abbrev pub judge_seen : Answerer → (Question → Said → Type 0) → (List ℕ → List Draw → Type 0)
    → JudgeSeen
judge_seen answerer test draws = record { answerer = answerer; test = test; draws = draws }

-- one that is asked of the paths of sessions alone
abbrev pub judging : Answerer → (Question → Said → Type 0) → JudgeSeen
judging answerer test = judge_seen answerer test (λ receiver rows. Unit {0})

-- one that is asked for the rows of receivers alone
abbrev pub drawing : Answerer → (List ℕ → List Draw → Type 0) → JudgeSeen
drawing answerer draws = judge_seen answerer (λ question said. Unit {0}) draws

-- what draws the rows of receivers for the steps of runners
abbrev pub drawer_of : JudgeSeen → Drawer
drawer_of j = drawer j.answerer j.draws

-- one that tells none of its answers: they are in their form, and no more is known
abbrev pub untold : JudgeSeen
untold =
    judge_seen (record { faults = 0; tells = false }) (λ question said. Unit {0})
    (λ receiver rows. Unit {0})

-- it says this of a question, if there is one
abbrev pub Says : JudgeSeen → Option Question → Said → Type 0
Says j question said = IsSaid j.answerer j.test question said

-- it was asked, and failed or not: no answer that it tells has changed, and its count rose only
-- where it failed
pub record IsAsked (before now : JudgeSeen) (failed : Bool) : Type 0 where
  pub steady : IsSteady before.answerer now.answerer before.test now.test
  pub later : before.answerer.faults ≤ now.answerer.faults
  pub rose : failed ≡ true → Rose before.answerer.faults now.answerer.faults
  pub calm : failed ≡ false → now.answerer.faults ≡ before.answerer.faults
