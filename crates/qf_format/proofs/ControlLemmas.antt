-- The parts of a control text as a control.
use Rattle.std.proofs.Common.{ℕ, List, [], ◌∷◌, ◌++◌, refl, arith}
use Rattle.std.specs.List.{flat_map}
use Rattle.mail_base.specs.declared.control.Control.{Control}
use Rattle.mail_base.specs.declared.control.Row.{Row}
use Rattle.mail_base.specs.declared.message.Kept.{Kept}
use Rattle.qf_format.specs.declared.part.Place.{Place}
use Rattle.qf_format.specs.declared.part.Order.{Order}
use Rattle.qf_format.specs.declared.part.Envelope.{Envelope}
use Rattle.qf_format.specs.declared.stop.Stop.{Stop}
use Rattle.qf_format.specs.inner.Parts.{At, EachHeader, IsEnvelope, IsOrder, IsPlace, NotAt, envelope_text, order_text, place_text, control_front}
use Rattle.qf_format.specs.inner.Reading.{Front, Stops, Anything}
use Rattle.qf_format.specs.Spelling.{header_lines, kept_lines, order_lines, place_lines, row_lines, sender_lines}
use Rattle.qf_format.specs.Valid.{AreKept, AreRows, IsValid}
use Rattle.qf_format.proofs.ReadLemmas.{both, BothFormed, front_then, Retold, front_as}
use Rattle.qf_format.proofs.ListLemmas.{stop_first, stop_second, stop_as}
use Rattle.qf_format.proofs.ApartLemmas.{Apart, apart_then, apart_as}

abbrev s1 : Place → List ℕ
s1 = place_text

abbrev v1 : Place → Type 0
v1 = IsPlace

abbrev n1 : List ℕ → Type 0
n1 = Anything

abbrev s2 : Order → List ℕ
s2 = order_text

abbrev v2 : Order → Type 0
v2 = IsOrder

abbrev n2 : List ℕ → Type 0
n2 = Anything

abbrev s3 : Envelope → List ℕ
s3 = envelope_text

abbrev v3 : Envelope → Type 0
v3 = IsEnvelope

abbrev n3 : List ℕ → Type 0
n3 = Anything

abbrev s4 : Kept → List ℕ
s4 = kept_lines

abbrev v4 : Kept → Type 0
v4 = AreKept

abbrev n4 : List ℕ → Type 0
n4 = Anything

abbrev s5 : List Row → List ℕ
s5 = flat_map row_lines

abbrev v5 : List Row → Type 0
v5 = AreRows

abbrev n5 : List ℕ → Type 0
n5 = NotAt 82

abbrev s6 : List (List ℕ) → List ℕ
s6 = flat_map header_lines

abbrev v6 : List (List ℕ) → Type 0
v6 = EachHeader

abbrev n6 : List ℕ → Type 0
n6 = At 46

abbrev t1 : Place → List ℕ
t1 = s1

abbrev w1 : Place → Type 0
w1 = v1

abbrev t2 : Place × Order → List ℕ
t2 = both t1 w1 n1 s2 v2 n2

abbrev w2 : Place × Order → Type 0
w2 = BothFormed t1 w1 n1 s2 v2 n2

on2 : (y : Order) (z : List ℕ) → v2 y → n2 z → n1 (s2 y ++ z)
on2 y z h k = tt

abbrev t3 : (Place × Order) × Envelope → List ℕ
t3 = both t2 w2 n2 s3 v3 n3

abbrev w3 : (Place × Order) × Envelope → Type 0
w3 = BothFormed t2 w2 n2 s3 v3 n3

on3 : (y : Envelope) (z : List ℕ) → v3 y → n3 z → n2 (s3 y ++ z)
on3 y z h k = tt

abbrev t4 : ((Place × Order) × Envelope) × Kept → List ℕ
t4 = both t3 w3 n3 s4 v4 n4

abbrev w4 : ((Place × Order) × Envelope) × Kept → Type 0
w4 = BothFormed t3 w3 n3 s4 v4 n4

on4 : (y : Kept) (z : List ℕ) → v4 y → n4 z → n3 (s4 y ++ z)
on4 y z h k = tt

abbrev t5 : (((Place × Order) × Envelope) × Kept) × List Row → List ℕ
t5 = both t4 w4 n4 s5 v5 n5

abbrev w5 : (((Place × Order) × Envelope) × Kept) × List Row → Type 0
w5 = BothFormed t4 w4 n4 s5 v5 n5

on5 : (y : List Row) (z : List ℕ) → v5 y → n5 z → n4 (s5 y ++ z)
on5 y z h k = tt

abbrev t6 : ((((Place × Order) × Envelope) × Kept) × List Row) × List (List ℕ) → List ℕ
t6 = both t5 w5 n5 s6 v6 n6

abbrev w6 : ((((Place × Order) × Envelope) × Kept) × List Row) × List (List ℕ) → Type 0
w6 = BothFormed t5 w5 n5 s6 v6 n6

on6 : (y : List (List ℕ)) (z : List ℕ) → v6 y → n6 z → n5 (s6 y ++ z)
on6 [] z h k e = omega (arith, e, k)
on6 (x ∷ xs) z h k e = omega (arith, e)

abbrev made : ((((Place × Order) × Envelope) × Kept) × List Row) × List (List ℕ) → Control
made p = record { revision = p.0.0.0.0.0.revision; parent = p.0.0.0.0.0.parent; group = p.0.0.0.0.0.group; created = p.0.0.0.0.1.created; last_try = p.0.0.0.0.1.last_try; tries = p.0.0.0.0.1.tries; priority = p.0.0.0.0.1.priority; class = p.0.0.0.0.1.class; marks = p.0.0.0.1.marks; eight = p.0.0.0.1.eight; sender = p.0.0.0.1.sender; kept = p.0.0.1; rows = p.0.1; headers = p.1 }

abbrev parted : Control → ((((Place × Order) × Envelope) × Kept) × List Row) × List (List ℕ)
parted c = (((((record { revision = c.revision; parent = c.parent; group = c.group }, record { created = c.created; last_try = c.last_try; tries = c.tries; priority = c.priority; class = c.class }), record { marks = c.marks; eight = c.eight; sender = c.sender }), c.kept), c.rows), c.headers)

retold : Retold t6 w6 control_front IsValid made parted
unfolding control_front place_lines order_lines sender_lines place_text order_text envelope_text
retold = record {
  back = λ y. refl;
  text_to = λ x. refl;
  text_from = λ y. refl;
  form_to = λ p h. record { revision_range = h.0.0.0.0.0.revision_range; parent_form = h.0.0.0.0.0.parent_form; group_form = h.0.0.0.0.0.group_form; created_range = h.0.0.0.0.1.created_range; last_try_range = h.0.0.0.0.1.last_try_range; tries_range = h.0.0.0.0.1.tries_range; priority_range = h.0.0.0.0.1.priority_range; class_range = h.0.0.0.0.1.class_range; sender_form = h.0.0.0.1.sender_form; kept_form = h.0.0.1; rows_form = h.0.1; headers_form = h.1 };
  form_from = λ c h. (((((record { revision_range = h.revision_range; parent_form = h.parent_form; group_form = h.group_form }, record { created_range = h.created_range; last_try_range = h.last_try_range; tries_range = h.tries_range; priority_range = h.priority_range; class_range = h.class_range }), record { sender_form = h.sender_form }), h.kept_form), h.rows_form), h.headers_form);
}

so_far2 : (bytes r1 r2 : List ℕ) (x1 : Place) (x2 : Order) → Front s1 v1 n1 bytes x1 r1 → Front s2 v2 n2 r1 x2 r2 → Front t2 w2 n2 bytes (x1, x2) r2
so_far2 bytes r1 r2 x1 x2 h1 h2 = front_then t1 w1 n1 s2 v2 n2 on2 bytes x1 r1 x2 r2 h1 h2

so_far3 : (bytes r1 r2 r3 : List ℕ) (x1 : Place) (x2 : Order) (x3 : Envelope) → Front s1 v1 n1 bytes x1 r1 → Front s2 v2 n2 r1 x2 r2 → Front s3 v3 n3 r2 x3 r3 → Front t3 w3 n3 bytes ((x1, x2), x3) r3
so_far3 bytes r1 r2 r3 x1 x2 x3 h1 h2 h3 = front_then t2 w2 n2 s3 v3 n3 on3 bytes (x1, x2) r2 x3 r3 (so_far2 bytes r1 r2 x1 x2 h1 h2) h3

so_far4 : (bytes r1 r2 r3 r4 : List ℕ) (x1 : Place) (x2 : Order) (x3 : Envelope) (x4 : Kept) → Front s1 v1 n1 bytes x1 r1 → Front s2 v2 n2 r1 x2 r2 → Front s3 v3 n3 r2 x3 r3 → Front s4 v4 n4 r3 x4 r4 → Front t4 w4 n4 bytes (((x1, x2), x3), x4) r4
so_far4 bytes r1 r2 r3 r4 x1 x2 x3 x4 h1 h2 h3 h4 = front_then t3 w3 n3 s4 v4 n4 on4 bytes ((x1, x2), x3) r3 x4 r4 (so_far3 bytes r1 r2 r3 x1 x2 x3 h1 h2 h3) h4

so_far5 : (bytes r1 r2 r3 r4 r5 : List ℕ) (x1 : Place) (x2 : Order) (x3 : Envelope) (x4 : Kept) (x5 : List Row) → Front s1 v1 n1 bytes x1 r1 → Front s2 v2 n2 r1 x2 r2 → Front s3 v3 n3 r2 x3 r3 → Front s4 v4 n4 r3 x4 r4 → Front s5 v5 n5 r4 x5 r5 → Front t5 w5 n5 bytes ((((x1, x2), x3), x4), x5) r5
so_far5 bytes r1 r2 r3 r4 r5 x1 x2 x3 x4 x5 h1 h2 h3 h4 h5 = front_then t4 w4 n4 s5 v5 n5 on5 bytes (((x1, x2), x3), x4) r4 x5 r5 (so_far4 bytes r1 r2 r3 r4 x1 x2 x3 x4 h1 h2 h3 h4) h5

so_far6 : (bytes r1 r2 r3 r4 r5 r6 : List ℕ) (x1 : Place) (x2 : Order) (x3 : Envelope) (x4 : Kept) (x5 : List Row) (x6 : List (List ℕ)) → Front s1 v1 n1 bytes x1 r1 → Front s2 v2 n2 r1 x2 r2 → Front s3 v3 n3 r2 x3 r3 → Front s4 v4 n4 r3 x4 r4 → Front s5 v5 n5 r4 x5 r5 → Front s6 v6 n6 r5 x6 r6 → Front t6 w6 n6 bytes (((((x1, x2), x3), x4), x5), x6) r6
so_far6 bytes r1 r2 r3 r4 r5 r6 x1 x2 x3 x4 x5 x6 h1 h2 h3 h4 h5 h6 = front_then t5 w5 n5 s6 v6 n6 on6 bytes ((((x1, x2), x3), x4), x5) r5 x6 r6 (so_far5 bytes r1 r2 r3 r4 r5 x1 x2 x3 x4 x5 h1 h2 h3 h4 h5) h6

-- place, order, envelope, what is kept, rows and headers, each read behind the other, are all of a
-- control
pub read_all : (bytes r1 r2 r3 r4 r5 r6 : List ℕ) (x1 : Place) (x2 : Order) (x3 : Envelope) (x4 : Kept) (x5 : List Row) (x6 : List (List ℕ)) → Front s1 v1 n1 bytes x1 r1 → Front s2 v2 n2 r1 x2 r2 → Front s3 v3 n3 r2 x3 r3 → Front s4 v4 n4 r3 x4 r4 → Front s5 v5 n5 r4 x5 r5 → Front s6 v6 n6 r5 x6 r6 → Front control_front IsValid n6 bytes (made (((((x1, x2), x3), x4), x5), x6)) r6
read_all bytes r1 r2 r3 r4 r5 r6 x1 x2 x3 x4 x5 x6 h1 h2 h3 h4 h5 h6 = front_as t6 w6 control_front IsValid made parted n6 bytes (((((x1, x2), x3), x4), x5), x6) r6 retold (so_far6 bytes r1 r2 r3 r4 r5 r6 x1 x2 x3 x4 x5 x6 h1 h2 h3 h4 h5 h6)

lift6 : (bytes : List ℕ) (e : Stop) → Stops t6 w6 n6 bytes e → Stops control_front IsValid n6 bytes e
lift6 bytes e h = stop_as t6 w6 control_front IsValid made parted n6 bytes retold e h

lift5 : (bytes : List ℕ) (e : Stop) → Stops t5 w5 n5 bytes e → Stops control_front IsValid n6 bytes e
lift5 bytes e h = lift6 bytes e (stop_first t5 w5 n5 s6 v6 n6 on6 bytes e h)

lift4 : (bytes : List ℕ) (e : Stop) → Stops t4 w4 n4 bytes e → Stops control_front IsValid n6 bytes e
lift4 bytes e h = lift5 bytes e (stop_first t4 w4 n4 s5 v5 n5 on5 bytes e h)

lift3 : (bytes : List ℕ) (e : Stop) → Stops t3 w3 n3 bytes e → Stops control_front IsValid n6 bytes e
lift3 bytes e h = lift4 bytes e (stop_first t3 w3 n3 s4 v4 n4 on4 bytes e h)

lift2 : (bytes : List ℕ) (e : Stop) → Stops t2 w2 n2 bytes e → Stops control_front IsValid n6 bytes e
lift2 bytes e h = lift3 bytes e (stop_first t2 w2 n2 s3 v3 n3 on3 bytes e h)

lift1 : (bytes : List ℕ) (e : Stop) → Stops t1 w1 n1 bytes e → Stops control_front IsValid n6 bytes e
lift1 bytes e h = lift2 bytes e (stop_first t1 w1 n1 s2 v2 n2 on2 bytes e h)

-- where no place can be read, no control can
pub stop-place : (bytes : List ℕ) (e : Stop) → Stops s1 v1 n1 bytes e → Stops control_front IsValid n6 bytes e
stop-place = lift1

-- where no order can be read behind the place, no control can
pub stop-order : (bytes r1 : List ℕ) (x1 : Place) → Front s1 v1 n1 bytes x1 r1 → (e : Stop) → Stops s2 v2 n2 r1 e → Stops control_front IsValid n6 bytes e
stop-order bytes r1 x1 h1 e n = lift2 bytes e (stop_second t1 w1 n1 s2 v2 n2 on2 bytes x1 r1 h1 e n)

-- where no envelope can be read behind the order, no control can
pub stop-envelope : (bytes r1 r2 : List ℕ) (x1 : Place) (x2 : Order) → Front s1 v1 n1 bytes x1 r1 → Front s2 v2 n2 r1 x2 r2 → (e : Stop) → Stops s3 v3 n3 r2 e → Stops control_front IsValid n6 bytes e
stop-envelope bytes r1 r2 x1 x2 h1 h2 e n = lift3 bytes e (stop_second t2 w2 n2 s3 v3 n3 on3 bytes (x1, x2) r2 (so_far2 bytes r1 r2 x1 x2 h1 h2) e n)

-- where what is kept can't be read behind the envelope, no control can
pub stop-kept : (bytes r1 r2 r3 : List ℕ) (x1 : Place) (x2 : Order) (x3 : Envelope) → Front s1 v1 n1 bytes x1 r1 → Front s2 v2 n2 r1 x2 r2 → Front s3 v3 n3 r2 x3 r3 → (e : Stop) → Stops s4 v4 n4 r3 e → Stops control_front IsValid n6 bytes e
stop-kept bytes r1 r2 r3 x1 x2 x3 h1 h2 h3 e n = lift4 bytes e (stop_second t3 w3 n3 s4 v4 n4 on4 bytes ((x1, x2), x3) r3 (so_far3 bytes r1 r2 r3 x1 x2 x3 h1 h2 h3) e n)

-- where no rows can be read behind what is kept, no control can
pub stop-rows : (bytes r1 r2 r3 r4 : List ℕ) (x1 : Place) (x2 : Order) (x3 : Envelope) (x4 : Kept) → Front s1 v1 n1 bytes x1 r1 → Front s2 v2 n2 r1 x2 r2 → Front s3 v3 n3 r2 x3 r3 → Front s4 v4 n4 r3 x4 r4 → (e : Stop) → Stops s5 v5 n5 r4 e → Stops control_front IsValid n6 bytes e
stop-rows bytes r1 r2 r3 r4 x1 x2 x3 x4 h1 h2 h3 h4 e n = lift5 bytes e (stop_second t4 w4 n4 s5 v5 n5 on5 bytes (((x1, x2), x3), x4) r4 (so_far4 bytes r1 r2 r3 r4 x1 x2 x3 x4 h1 h2 h3 h4) e n)

-- where no headers can be read behind the rows, no control can
pub stop-headers : (bytes r1 r2 r3 r4 r5 : List ℕ) (x1 : Place) (x2 : Order) (x3 : Envelope) (x4 : Kept) (x5 : List Row) → Front s1 v1 n1 bytes x1 r1 → Front s2 v2 n2 r1 x2 r2 → Front s3 v3 n3 r2 x3 r3 → Front s4 v4 n4 r3 x4 r4 → Front s5 v5 n5 r4 x5 r5 → (e : Stop) → Stops s6 v6 n6 r5 e → Stops control_front IsValid n6 bytes e
stop-headers bytes r1 r2 r3 r4 r5 x1 x2 x3 x4 x5 h1 h2 h3 h4 h5 e n = lift6 bytes e (stop_second t5 w5 n5 s6 v6 n6 on6 bytes ((((x1, x2), x3), x4), x5) r5 (so_far5 bytes r1 r2 r3 r4 r5 x1 x2 x3 x4 x5 h1 h2 h3 h4 h5) e n)

-- controls are told apart by their texts, if their six parts are
pub apart_all : Apart s1 v1 n1 → Apart s2 v2 n2 → Apart s3 v3 n3 → Apart s4 v4 n4 → Apart s5 v5 n5 → Apart s6 v6 n6 → Apart control_front IsValid n6
apart_all a1 a2 a3 a4 a5 a6 = apart_as t6 w6 control_front IsValid made parted n6 retold (apart_then t5 w5 n5 s6 v6 n6 on6 (apart_then t4 w4 n4 s5 v5 n5 on5 (apart_then t3 w3 n3 s4 v4 n4 on4 (apart_then t2 w2 n2 s3 v3 n3 on3 (apart_then t1 w1 n1 s2 v2 n2 on2 a1 a2) a3) a4) a5) a6)
