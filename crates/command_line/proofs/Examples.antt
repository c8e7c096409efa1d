-- Worked examples of the definitions.
use Rattle.std.specs.Prelude.{ℕ, Bool, true, false, List, Option, [], ◌∷◌, codes, None, Some, refl}
use Rattle.std.proofs.Common.{inl, inr}
use Rattle.cf_values.specs.Times.{rest_value}
use Rattle.addr_tokens.specs.Reader.{cut}
use Rattle.addr_tokens.specs.Scans.{most_tokens}
use Rattle.command_line.specs.declared.mode.Mode.{Mode}
use Rattle.command_line.specs.declared.mode.Job.TheVariants.{Test, Session, Daemon, Run, List as Listing, Submit}
use Rattle.command_line.specs.CommandLines.{Does, Joined, Tests, Hands, IsCommandLine, IsRefusedAt}
use Rattle.command_line.specs.MailWords.{Names, SendsApart}
use Rattle.command_line.proofs.CommandLemmas.{is_line, is_refused}

-- ---- command lines

test_mode : IsCommandLine (codes "-bt" ∷ codes "-Crow1.cf" ∷ []) (record { file = codes "row1.cf"; job = Test })
test_mode = record { flags = Does Tests ∷ Joined 114 (codes "ow1.cf") ∷ []; written = refl; job = record { modes = refl; mail = record { headers = refl; dot = refl; sender = refl; addresses = refl }; whom = tt }; wait = refl; file = inl refl }

default_file : IsCommandLine (codes "-bt" ∷ []) (record { file = codes "/etc/mail/sendmail.cf"; job = Test })
default_file = is_line (codes "-bt" ∷ []) _ refl

a_file_of_its_own_word : IsCommandLine (codes "-C" ∷ codes "-bt" ∷ codes "-bt" ∷ []) (record { file = codes "-bt"; job = Test })
a_file_of_its_own_word = is_line (codes "-C" ∷ codes "-bt" ∷ codes "-bt" ∷ []) _ refl

session_mode : IsCommandLine (codes "-bs" ∷ codes "-Cx" ∷ []) (record { file = codes "x"; job = Session })
session_mode = is_line (codes "-bs" ∷ codes "-Cx" ∷ []) _ refl

listing : IsCommandLine (codes "-C" ∷ codes "-bt" ∷ codes "-bp" ∷ []) (record { file = codes "-bt"; job = Listing })
listing = is_line (codes "-C" ∷ codes "-bt" ∷ codes "-bp" ∷ []) _ refl

daemon : IsCommandLine (codes "-bd" ∷ []) (record { file = codes "/etc/mail/sendmail.cf"; job = Daemon None })
daemon = is_line (codes "-bd" ∷ []) _ refl

a_daemon_with_a_time : IsCommandLine (codes "-q30m" ∷ codes "-bd" ∷ []) (record { file = codes "/etc/mail/sendmail.cf"; job = Daemon (Some 1800) })
unfolding rest_value
a_daemon_with_a_time = is_line (codes "-q30m" ∷ codes "-bd" ∷ []) _ refl

minutes : IsCommandLine (codes "-bd" ∷ codes "-Cx" ∷ codes "-q1h30" ∷ []) (record { file = codes "x"; job = Daemon (Some 5400) })
unfolding rest_value
minutes = is_line (codes "-bd" ∷ codes "-Cx" ∷ codes "-q1h30" ∷ []) _ refl

queue_run : IsCommandLine (codes "-q" ∷ []) (record { file = codes "/etc/mail/sendmail.cf"; job = Run None })
queue_run = is_line (codes "-q" ∷ []) _ refl

run_of_a_group : IsCommandLine (codes "-qGbulk" ∷ []) (record { file = codes "/etc/mail/sendmail.cf"; job = Run (Some (codes "bulk")) })
run_of_a_group = is_line (codes "-qGbulk" ∷ []) _ refl

two_listings : IsRefusedAt (codes "-bp" ∷ codes "-bp" ∷ []) 1
two_listings = is_refused (codes "-bp" ∷ codes "-bp" ∷ []) 1 refl

two_modes : IsRefusedAt (codes "-bt" ∷ codes "-bd" ∷ []) 1
two_modes = is_refused (codes "-bt" ∷ codes "-bd" ∷ []) 1 refl

a_second_mode : IsRefusedAt (codes "-bt" ∷ codes "-bt" ∷ []) 1
a_second_mode = is_refused (codes "-bt" ∷ codes "-bt" ∷ []) 1 refl

another_mode : IsRefusedAt (codes "-bs" ∷ codes "-bt" ∷ []) 1
another_mode = is_refused (codes "-bs" ∷ codes "-bt" ∷ []) 1 refl

a_run_behind_a_mode : IsRefusedAt (codes "-bd" ∷ codes "-qGbulk" ∷ []) 1
a_run_behind_a_mode = is_refused (codes "-bd" ∷ codes "-qGbulk" ∷ []) 1 refl

no_such_mode : IsRefusedAt (codes "-bt" ∷ codes "-bx" ∷ []) 1
unfolding rest_value
no_such_mode = is_refused (codes "-bt" ∷ codes "-bx" ∷ []) 1 refl

a_second_file : IsRefusedAt (codes "-Ca" ∷ codes "-C" ∷ codes "b" ∷ codes "-bt" ∷ []) 1
a_second_file = is_refused (codes "-Ca" ∷ codes "-C" ∷ codes "b" ∷ codes "-bt" ∷ []) 1 refl

a_second_time : IsRefusedAt (codes "-q30m" ∷ codes "-q1h" ∷ codes "-bd" ∷ []) 1
unfolding rest_value
a_second_time = is_refused (codes "-q30m" ∷ codes "-q1h" ∷ codes "-bd" ∷ []) 1 refl

no_time : IsRefusedAt (codes "-q30x" ∷ codes "-bd" ∷ []) 0
unfolding rest_value
no_time = is_refused (codes "-q30x" ∷ codes "-bd" ∷ []) 0 refl

no_name : IsRefusedAt (codes "-qG" ∷ []) 0
unfolding rest_value
no_name = is_refused (codes "-qG" ∷ []) 0 refl

no_words : IsRefusedAt [] 0
no_words = is_refused [] 0 refl

a_file_alone : IsRefusedAt (codes "-C" ∷ []) 1
a_file_alone = is_refused (codes "-C" ∷ []) 1 refl

no_file : IsRefusedAt (codes "-bt" ∷ codes "-C" ∷ []) 2
no_file = is_refused (codes "-bt" ∷ codes "-C" ∷ []) 2 refl

no_file_behind_a_time : IsRefusedAt (codes "-bt" ∷ codes "-q30m" ∷ codes "-C" ∷ []) 3
unfolding rest_value
no_file_behind_a_time = is_refused (codes "-bt" ∷ codes "-q30m" ∷ codes "-C" ∷ []) 3 refl

no_mode : IsRefusedAt (codes "-q30m" ∷ []) 1
unfolding rest_value
no_mode = is_refused (codes "-q30m" ∷ []) 1 refl

a_time_behind_a_mode : IsRefusedAt (codes "-bt" ∷ codes "-q30m" ∷ []) 1
unfolding rest_value
a_time_behind_a_mode = is_refused (codes "-bt" ∷ codes "-q30m" ∷ []) 1 refl

a_time_before_a_mode : IsRefusedAt (codes "-q30m" ∷ codes "-bt" ∷ []) 0
unfolding rest_value
a_time_before_a_mode = is_refused (codes "-q30m" ∷ codes "-bt" ∷ []) 0 refl

a_time_behind_a_run : IsRefusedAt (codes "-C" ∷ codes "x" ∷ codes "-q" ∷ codes "-q30m" ∷ []) 3
unfolding rest_value
a_time_behind_a_run = is_refused (codes "-C" ∷ codes "x" ∷ codes "-q" ∷ codes "-q30m" ∷ []) 3 refl

-- ---- mail that is handed over

-- the default file, and mail that these words speak of
abbrev mail : Bool → Bool → Option (List ℕ) → List (List ℕ) → Mode
mail headers dot sender addresses = record { file = codes "/etc/mail/sendmail.cf"; job = Submit (record { from_headers = headers; dot = dot; sender = sender; addresses = addresses }) }

an_address : IsCommandLine (codes "ann@mx" ∷ []) (mail false true None (codes "ann@mx" ∷ []))
unfolding rest_value cut most_tokens
an_address = is_line (codes "ann@mx" ∷ []) _ refl

mail_with_a_sender : IsCommandLine (codes "-f" ∷ codes "bob@c" ∷ codes "ann" ∷ []) (mail false true (Some (codes "bob@c")) (codes "ann" ∷ []))
unfolding cut most_tokens
mail_with_a_sender = record {
  flags = Hands (SendsApart (codes "bob@c") refl) ∷ Hands (Names (codes "ann") refl) ∷ [];
  written = refl;
  job = record { modes = refl; mail = record { headers = refl; dot = refl; sender = refl; addresses = refl }; whom = refl };
  wait = refl;
  file = inr (refl, refl);
}

addresses_in_their_order : IsCommandLine (codes "bob" ∷ codes "-i" ∷ codes "ann" ∷ codes "bob" ∷ []) (mail false false None (codes "bob" ∷ codes "ann" ∷ codes "bob" ∷ []))
unfolding rest_value cut most_tokens
addresses_in_their_order = is_line (codes "bob" ∷ codes "-i" ∷ codes "ann" ∷ codes "bob" ∷ []) _ refl

from_headers : IsCommandLine (codes "-t" ∷ []) (mail true true None [])
unfolding rest_value cut most_tokens
from_headers = is_line (codes "-t" ∷ []) _ refl

all_of_them : IsCommandLine (codes "-oi" ∷ codes "-fbob@c" ∷ codes "ann" ∷ codes "-t" ∷ []) (mail true false (Some (codes "bob@c")) (codes "ann" ∷ []))
unfolding rest_value cut most_tokens
all_of_them = is_line (codes "-oi" ∷ codes "-fbob@c" ∷ codes "ann" ∷ codes "-t" ∷ []) _ refl

a_text_of_its_own_word : IsCommandLine (codes "-f" ∷ codes "-t" ∷ codes "ann" ∷ []) (mail false true (Some (codes "-t")) (codes "ann" ∷ []))
unfolding rest_value cut most_tokens
a_text_of_its_own_word = is_line (codes "-f" ∷ codes "-t" ∷ codes "ann" ∷ []) _ refl

the_null_sender : IsCommandLine (codes "-f" ∷ codes "<>" ∷ codes "ann" ∷ []) (mail false true (Some (codes "<>")) (codes "ann" ∷ []))
unfolding rest_value cut most_tokens
the_null_sender = is_line (codes "-f" ∷ codes "<>" ∷ codes "ann" ∷ []) _ refl

an_address_behind_a_mode : IsRefusedAt (codes "-bt" ∷ codes "ann" ∷ []) 1
unfolding rest_value cut most_tokens
an_address_behind_a_mode = is_refused (codes "-bt" ∷ codes "ann" ∷ []) 1 refl

a_mode_behind_an_address : IsRefusedAt (codes "ann" ∷ codes "-bt" ∷ []) 1
unfolding rest_value cut most_tokens
a_mode_behind_an_address = is_refused (codes "ann" ∷ codes "-bt" ∷ []) 1 refl

headers_beside_a_mode : IsRefusedAt (codes "-t" ∷ codes "-bd" ∷ []) 1
unfolding rest_value cut most_tokens
headers_beside_a_mode = is_refused (codes "-t" ∷ codes "-bd" ∷ []) 1 refl

a_sender_behind_a_mode : IsRefusedAt (codes "-bs" ∷ codes "-f" ∷ codes "x" ∷ []) 1
unfolding rest_value cut most_tokens
a_sender_behind_a_mode = is_refused (codes "-bs" ∷ codes "-f" ∷ codes "x" ∷ []) 1 refl

a_mode_behind_a_sender : IsRefusedAt (codes "-f" ∷ codes "x" ∷ codes "-bs" ∷ []) 2
unfolding rest_value cut most_tokens
a_mode_behind_a_sender = is_refused (codes "-f" ∷ codes "x" ∷ codes "-bs" ∷ []) 2 refl

a_mode_behind_a_dot : IsRefusedAt (codes "-i" ∷ codes "-bp" ∷ []) 1
unfolding rest_value cut most_tokens
a_mode_behind_a_dot = is_refused (codes "-i" ∷ codes "-bp" ∷ []) 1 refl

headers_twice : IsRefusedAt (codes "-t" ∷ codes "-t" ∷ []) 1
unfolding rest_value cut most_tokens
headers_twice = is_refused (codes "-t" ∷ codes "-t" ∷ []) 1 refl

a_dot_twice : IsRefusedAt (codes "-i" ∷ codes "-oi" ∷ codes "ann" ∷ []) 1
unfolding rest_value cut most_tokens
a_dot_twice = is_refused (codes "-i" ∷ codes "-oi" ∷ codes "ann" ∷ []) 1 refl

a_second_sender : IsRefusedAt (codes "-fx" ∷ codes "-f" ∷ codes "y" ∷ codes "ann" ∷ []) 1
unfolding rest_value cut most_tokens
a_second_sender = is_refused (codes "-fx" ∷ codes "-f" ∷ codes "y" ∷ codes "ann" ∷ []) 1 refl

a_second_sender_in_one_word : IsRefusedAt (codes "-f" ∷ codes "x" ∷ codes "-fy" ∷ codes "ann" ∷ []) 2
unfolding rest_value cut most_tokens
a_second_sender_in_one_word = is_refused (codes "-f" ∷ codes "x" ∷ codes "-fy" ∷ codes "ann" ∷ []) 2 refl

a_text_is_missing : IsRefusedAt (codes "ann" ∷ codes "-f" ∷ []) 1
unfolding rest_value cut most_tokens
a_text_is_missing = is_refused (codes "ann" ∷ codes "-f" ∷ []) 1 refl

an_empty_text : IsRefusedAt (codes "-t" ∷ codes "-f" ∷ [] ∷ codes "-x" ∷ []) 1
unfolding rest_value cut most_tokens
an_empty_text = is_refused (codes "-t" ∷ codes "-f" ∷ [] ∷ codes "-x" ∷ []) 1 refl

a_text_that_is_not_cut : IsRefusedAt (codes "-t" ∷ codes "-f" ∷ codes "bob(" ∷ []) 1
unfolding rest_value cut most_tokens
a_text_that_is_not_cut = is_refused (codes "-t" ∷ codes "-f" ∷ codes "bob(" ∷ []) 1 refl

a_joined_text_that_is_not_cut : IsRefusedAt (codes "-t" ∷ codes "-fbob(" ∷ []) 1
unfolding rest_value cut most_tokens
a_joined_text_that_is_not_cut = is_refused (codes "-t" ∷ codes "-fbob(" ∷ []) 1 refl

a_text_of_two_lines : IsRefusedAt (codes "-f" ∷ codes "a\nb" ∷ codes "ann" ∷ []) 0
unfolding rest_value cut most_tokens
a_text_of_two_lines = is_refused (codes "-f" ∷ codes "a\nb" ∷ codes "ann" ∷ []) 0 refl

an_empty_address : IsRefusedAt (codes "-t" ∷ [] ∷ []) 1
unfolding rest_value cut most_tokens
an_empty_address = is_refused (codes "-t" ∷ [] ∷ []) 1 refl

an_address_of_two_lines : IsRefusedAt (codes "a\nb" ∷ []) 0
unfolding rest_value cut most_tokens
an_address_of_two_lines = is_refused (codes "a\nb" ∷ []) 0 refl

a_dash_alone : IsRefusedAt (codes "-" ∷ []) 0
unfolding rest_value cut most_tokens
a_dash_alone = is_refused (codes "-" ∷ []) 0 refl

a_dot_alone : IsRefusedAt (codes "-i" ∷ []) 1
unfolding rest_value cut most_tokens
a_dot_alone = is_refused (codes "-i" ∷ []) 1 refl

a_sender_alone : IsRefusedAt (codes "-f" ∷ codes "x" ∷ []) 2
unfolding rest_value cut most_tokens
a_sender_alone = is_refused (codes "-f" ∷ codes "x" ∷ []) 2 refl

mail_without_its_file : IsRefusedAt (codes "-t" ∷ codes "-C" ∷ []) 2
unfolding rest_value cut most_tokens
mail_without_its_file = is_refused (codes "-t" ∷ codes "-C" ∷ []) 2 refl

a_time_beside_mail : IsRefusedAt (codes "-t" ∷ codes "-q30m" ∷ []) 1
unfolding rest_value cut most_tokens
a_time_beside_mail = is_refused (codes "-t" ∷ codes "-q30m" ∷ []) 1 refl

a_time_before_mail : IsRefusedAt (codes "-q30m" ∷ codes "ann" ∷ []) 0
unfolding rest_value cut most_tokens
a_time_before_mail = is_refused (codes "-q30m" ∷ codes "ann" ∷ []) 0 refl
