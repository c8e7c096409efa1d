-- What contracts see of a line's form.
use Rattle.addr_test.specs.declared.form.Form as code
use Rattle.addr_test.specs.declared.form.Form.TheVariants as forms
use Rattle.addr_test.specs.Forms.{Form, Quiet, TooLong, Runs, Parse, Try, Lookup, Rules, Mailers, Value, Members, Defines, Adds, Unknown}

abbrev pub seen : code.Form → Form
seen forms.Quiet = Quiet
seen forms.TooLong = TooLong
seen (forms.Runs sets address) = Runs sets.now address.now
seen (forms.Parse address) = Parse address.now
seen (forms.Try mailer address) = Try mailer.now address.now
seen (forms.Lookup name key) = Lookup name.now key.now
seen (forms.Rules name) = Rules name.now
seen forms.Mailers = Mailers
seen (forms.Value name) = Value name.now
seen (forms.Members class) = Members class.now
seen (forms.Defines name value) = Defines name.now value.now
seen (forms.Adds class words) = Adds class.now words.now
seen forms.Unknown = Unknown
