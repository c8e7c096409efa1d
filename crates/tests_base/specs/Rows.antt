-- The rows that a test's drawer draws: the receiver alone, as its own user.
use Rattle.std.specs.Prelude.{ℕ, List, [], ◌∷◌, true}
use Rattle.mail_base.specs.Drawing.{null_sender}
use Rattle.mail_base.specs.declared.draw.Draw.{Draw}
use Rattle.mail_base.specs.declared.route.Resolved.TheVariants.{Goes}

abbrev pub row_of : List ℕ → Draw
row_of address = record {
  address = address;
  sender = null_sender;
  primary = true;
  resolved = Goes (record { mailer = []; host = []; user = address });
}

abbrev pub rows_of : List ℕ → List Draw
rows_of address = row_of address ∷ []
