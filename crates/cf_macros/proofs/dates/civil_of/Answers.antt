use Rattle.std.proofs.Common.{pos, unsigned_abs, FitsSigned, w16, ap, ◌∙◌}
use Rattle.std.proofs.lemmas.Int.{to_z-of_z}
use Rattle.jiff.specs.Words.{weekday_of}
use Rattle.cf_macros.proofs.DateLemmas.{unsigned_byte, moment_nanos}
use Rattle.cf_macros.proofs.dates.civil_of.Goals as goal

pub returns : goal.returns
returns c =
    let time = c.to_datetime-time.result in
    let year_fits : FitsSigned w16 c.year.result = record { sfits = c.year.type_inv } in
    let weekday = c.to_monday_zero_offset.ensures.value ∙ ap pos c.weekday.ensures in (
      time,
      moment_nanos c.args.seconds c.in-Ok.moment.nanosecond _ c.requires c.in-Ok.ensures.value c.to_datetime-time.ensures,
      record {
        year = c.unsigned_abs.ensures.value ∙ ap unsigned_abs (to_z-of_z w16 c.year.result year_fits ∙ c.year.ensures);
        month = unsigned_byte c.month.result time.date.month c.unsigned_abs-2.result (record { sfits = c.month.type_inv }) c.month.ensures c.unsigned_abs-2.ensures.value;
        day = unsigned_byte c.day.result time.date.day c.unsigned_abs-3.result (record { sfits = c.day.type_inv }) c.day.ensures c.unsigned_abs-3.ensures.value;
        weekday = unsigned_byte c.to_monday_zero_offset.result (weekday_of time.date) c.unsigned_abs-4.result (record { sfits = c.to_monday_zero_offset.type_inv }) weekday c.unsigned_abs-4.ensures.value;
        hour = unsigned_byte c.hour.result time.time.hour c.unsigned_abs-5.result (record { sfits = c.hour.type_inv }) c.hour.ensures c.unsigned_abs-5.ensures.value;
        minute = unsigned_byte c.minute.result time.time.minute c.unsigned_abs-6.result (record { sfits = c.minute.type_inv }) c.minute.ensures c.unsigned_abs-6.ensures.value;
        second = unsigned_byte c.second.result time.time.second c.unsigned_abs-7.result (record { sfits = c.second.type_inv }) c.second.ensures c.unsigned_abs-7.ensures.value;
      },
    )
