-- Worked examples of the definitions.
use Rattle.std.specs.Prelude.{◌≡◌, [], ◌∷◌, Some, None, codes, true, false, refl}
use Rattle.mail_edge.specs.Seen.{FileMap, text_of}
use Rattle.mail_edge.specs.Readings.{readings_of}
use Rattle.mail_base.specs.Scripts.{is_listed, after_call}

files : FileMap
files = (codes "a", codes "first") ∷ (codes "b", codes "other") ∷ (codes "a", codes "third") ∷ []

first_of_a_name : text_of files (codes "a") ≡ Some (codes "first")
unfolding files
first_of_a_name = refl

no_such_name : text_of files (codes "c") ≡ None
unfolding files
no_such_name = refl

steps_of_a_minute : readings_of 784_111_777 60 3 ≡ 784_111_777 ∷ 784_111_837 ∷ 784_111_897 ∷ []
steps_of_a_minute = refl

second_call_is_listed : is_listed (after_call (record { failing = 1 ∷ []; calls = 0; faults = 0 }) false) ≡ true
second_call_is_listed = refl
