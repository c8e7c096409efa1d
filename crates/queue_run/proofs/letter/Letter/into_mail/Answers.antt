-- Each part is that of the letter.
use Rattle.queue_run.proofs.letter.Letter.into_mail.Goals as goal

pub returns : goal.returns
returns c = λ config control host eight i. record {
  host = host i;
  sender = c.args.self.sender;
  users = c.args.users;
  message = c.args.self.text;
  eight = eight i;
}
