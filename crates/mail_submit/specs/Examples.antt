-- A worked example: recipients come from headers, Bcc isn't sent, and the line `.` ends input.
use Rattle.std.specs.Prelude.{ℕ, List, [], ◌∷◌, None, codes}
use Rattle.mail_submit.specs.declared.submission.Submission.{Submission}

abbrev pub input : List ℕ
input = codes "To: ann@mx.example\nBcc: <cid@mx.example>\nSubject: hi\n\nhello\n.\nmore"

-- its message
abbrev pub text : List ℕ
text = codes "To: ann@mx.example\r\nBcc: <cid@mx.example>\r\nSubject: hi\r\n\r\nhello\r\n"

-- what of it is sent, and to whom
abbrev pub sent : Submission
sent = record {
  headers = codes "To: ann@mx.example" ∷ codes "Subject: hi" ∷ [];
  body = codes "hello\r\n";
  size = 42;
  block = 56;
  recipients = codes "ann@mx.example" ∷ codes "cid@mx.example" ∷ [];
  first_from = None;
}
