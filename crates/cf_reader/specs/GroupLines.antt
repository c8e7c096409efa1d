-- Q lines, by what follows the letter (Sendmail Installation and Operation Guide, "Q: Define Queue
-- Group": the first byte of a field's name counts).
use Rattle.std.specs.Prelude.{◌≡◌, ℕ, max, Bool, true, false, ◌==◌, if◌then◌else◌, is_none, fold, List, [], ◌∷◌, Option, None, Some, codes, refl}
use Rattle.std.specs.List.{list_any}
use Rattle.mail_base.specs.Configs.{new_group}
use Rattle.mail_base.specs.declared.mailer.Group.{Group}
use Rattle.cf_values.specs.Times.{rest_value}
use Rattle.cf_reader.specs.declared.fault.Fault.{Fault}
use Rattle.cf_reader.specs.declared.fault.Fault.TheVariants.{DuplicateGroup, BadOption}
use Rattle.cf_reader.specs.declared.fields.Field.{Field}
use Rattle.cf_reader.specs.declared.group_line.GroupField.{GroupField}
use Rattle.cf_reader.specs.declared.group_line.GroupField.TheVariants.{Path, Recipients, Runners, Interval, Jobs}
use Rattle.cf_reader.specs.Reads.{first_fault}
use Rattle.cf_reader.specs.Fields.{letter_of, line_name, line_fields}
use Rattle.cf_reader.specs.Values.{number_in, time_in, most_number, number_of}

-- the field with this letter: P (80), r (114), R (82), I (73) or J (74); others are ignored
abbrev pub group_field : ℕ → Option GroupField
group_field letter =
    if letter == 80 then Some Path
    else if letter == 114 then Some Recipients
    else if letter == 82 then Some Runners
    else if letter == 73 then Some Interval
    else if letter == 74 then Some Jobs
    else None

-- a value isn't in its field's grammar: a number, or a time in minutes (109)
abbrev pub is_bad_value : Option GroupField → List ℕ → Bool
is_bad_value None value = false
is_bad_value (Some Path) value = false
is_bad_value (Some Interval) value = is_none (time_in 109 value)
is_bad_value (Some Recipients) value = is_none (number_in most_number value)
is_bad_value (Some Runners) value = is_none (number_in most_number value)
is_bad_value (Some Jobs) value = is_none (number_in most_number value)

-- the value of a field of a Q line is out of form
abbrev pub is_bad_field : Field → Bool
is_bad_field field = is_bad_value (group_field (letter_of field)) field.value

-- the group before any field; an empty path stands for the queue directory
abbrev pub first_group : List ℕ → Group
first_group name = new_group name []

-- a group whose field is set; 0 runners are one
abbrev pub with_group_value : Option GroupField → List ℕ → Group → Group
with_group_value None value group = group
with_group_value (Some Path) value group = record group { path = value }
with_group_value (Some Recipients) value group = record group { recipients = number_of value }
with_group_value (Some Runners) value group = record group { runners = max 1 (number_of value) }
with_group_value (Some Interval) value group = record group { interval = time_in 109 value }
with_group_value (Some Jobs) value group = record group { jobs = number_of value }

-- one field more of a group
abbrev pub with_group_field : Group → Field → Group
with_group_field group field = with_group_value (group_field (letter_of field)) field.value group

-- the first fault of a Q line, where it is told whether a Q line had its name before
abbrev pub fault_of_group : Bool → List ℕ → Option Fault
fault_of_group again text = first_fault
    ((DuplicateGroup, again) ∷ (BadOption, list_any is_bad_field (line_fields text)) ∷ [])

-- what a Q line without a fault says; of a field that stands twice the last counts
abbrev pub group_of : List ℕ → Group
group_of text = fold with_group_field (first_group (line_name text)) (line_fields text)

example :
    (group_of (codes "bulk, Path=/q/bulk, r=100, Runners=0, I=5")
    ≡ record {
      name = codes "bulk";
      path = codes "/q/bulk";
      recipients = 100;
      runners = 1;
      interval = Some 300;
      jobs = 0;
    })
    × (fault_of_group false (codes "bulk, Path=/q/bulk, r=100") ≡ None)
    × (fault_of_group true (codes "bulk, r=x") ≡ Some DuplicateGroup)
    × (fault_of_group false (codes "bulk, r=x") ≡ Some BadOption)
unfolding most_number rest_value
example = (refl, refl, refl, refl)
