-- The lines of numbers.
use Rattle.std.proofs.Common.{ℕ, List, ◌++◌, refl, ℤ}
use Rattle.std.specs.Prelude.{FitsSigned, codes}
use Rattle.std.specs.Int.{w64, w128}
use Rattle.std.specs.Fmt.{decimal, signed_decimal}
use Rattle.qf_format.specs.declared.part.Order.{Order}
use Rattle.qf_format.specs.declared.stop.Stop.{Stop}
use Rattle.qf_format.specs.inner.Parts.{IsOrder, IsSmall, order_text}
use Rattle.qf_format.specs.inner.Reading.{Front, Stops, Anything}
use Rattle.qf_format.specs.Spelling.{line}
use Rattle.qf_format.proofs.ReadLemmas.{both, BothFormed, front_then, Retold, front_as}
use Rattle.qf_format.proofs.ListLemmas.{stop_first, stop_second, stop_as}
use Rattle.qf_format.proofs.ApartLemmas.{Apart, apart_then, apart_as}

abbrev s1 : ℕ → List ℕ
s1 = λ y. line (codes "T" ++ decimal y)

abbrev v1 : ℕ → Type 0
v1 = IsSmall

abbrev n1 : List ℕ → Type 0
n1 = Anything

abbrev s2 : ℕ → List ℕ
s2 = λ y. line (codes "K" ++ decimal y)

abbrev v2 : ℕ → Type 0
v2 = IsSmall

abbrev n2 : List ℕ → Type 0
n2 = Anything

abbrev s3 : ℕ → List ℕ
s3 = λ y. line (codes "N" ++ decimal y)

abbrev v3 : ℕ → Type 0
v3 = IsSmall

abbrev n3 : List ℕ → Type 0
n3 = Anything

abbrev s4 : ℤ → List ℕ
s4 = λ y. line (codes "P" ++ signed_decimal y)

abbrev v4 : ℤ → Type 0
v4 = FitsSigned w128

abbrev n4 : List ℕ → Type 0
n4 = Anything

abbrev s5 : ℤ → List ℕ
s5 = λ y. line (codes "c" ++ signed_decimal y)

abbrev v5 : ℤ → Type 0
v5 = FitsSigned w64

abbrev n5 : List ℕ → Type 0
n5 = Anything

abbrev t1 : ℕ → List ℕ
t1 = s1

abbrev w1 : ℕ → Type 0
w1 = v1

abbrev t2 : ℕ × ℕ → List ℕ
t2 = both t1 w1 n1 s2 v2 n2

abbrev w2 : ℕ × ℕ → Type 0
w2 = BothFormed t1 w1 n1 s2 v2 n2

on2 : (y : ℕ) (z : List ℕ) → v2 y → n2 z → n1 (s2 y ++ z)
on2 y z h k = tt

abbrev t3 : (ℕ × ℕ) × ℕ → List ℕ
t3 = both t2 w2 n2 s3 v3 n3

abbrev w3 : (ℕ × ℕ) × ℕ → Type 0
w3 = BothFormed t2 w2 n2 s3 v3 n3

on3 : (y : ℕ) (z : List ℕ) → v3 y → n3 z → n2 (s3 y ++ z)
on3 y z h k = tt

abbrev t4 : ((ℕ × ℕ) × ℕ) × ℤ → List ℕ
t4 = both t3 w3 n3 s4 v4 n4

abbrev w4 : ((ℕ × ℕ) × ℕ) × ℤ → Type 0
w4 = BothFormed t3 w3 n3 s4 v4 n4

on4 : (y : ℤ) (z : List ℕ) → v4 y → n4 z → n3 (s4 y ++ z)
on4 y z h k = tt

abbrev t5 : (((ℕ × ℕ) × ℕ) × ℤ) × ℤ → List ℕ
t5 = both t4 w4 n4 s5 v5 n5

abbrev w5 : (((ℕ × ℕ) × ℕ) × ℤ) × ℤ → Type 0
w5 = BothFormed t4 w4 n4 s5 v5 n5

on5 : (y : ℤ) (z : List ℕ) → v5 y → n5 z → n4 (s5 y ++ z)
on5 y z h k = tt

abbrev made : (((ℕ × ℕ) × ℕ) × ℤ) × ℤ → Order
made p = record { created = p.0.0.0.0; last_try = p.0.0.0.1; tries = p.0.0.1; priority = p.0.1; class = p.1 }

abbrev parted : Order → (((ℕ × ℕ) × ℕ) × ℤ) × ℤ
parted c = ((((c.created, c.last_try), c.tries), c.priority), c.class)

retold : Retold t5 w5 order_text IsOrder made parted
unfolding order_text
retold = record {
  back = λ y. refl;
  text_to = λ x. refl;
  text_from = λ y. refl;
  form_to = λ p h. record { created_range = h.0.0.0.0; last_try_range = h.0.0.0.1; tries_range = h.0.0.1; priority_range = h.0.1; class_range = h.1 };
  form_from = λ c h. ((((h.created_range, h.last_try_range), h.tries_range), h.priority_range), h.class_range);
}

so_far2 : (bytes r1 r2 : List ℕ) (x1 : ℕ) (x2 : ℕ) → Front s1 v1 n1 bytes x1 r1 → Front s2 v2 n2 r1 x2 r2 → Front t2 w2 n2 bytes (x1, x2) r2
so_far2 bytes r1 r2 x1 x2 h1 h2 = front_then t1 w1 n1 s2 v2 n2 on2 bytes x1 r1 x2 r2 h1 h2

so_far3 : (bytes r1 r2 r3 : List ℕ) (x1 : ℕ) (x2 : ℕ) (x3 : ℕ) → Front s1 v1 n1 bytes x1 r1 → Front s2 v2 n2 r1 x2 r2 → Front s3 v3 n3 r2 x3 r3 → Front t3 w3 n3 bytes ((x1, x2), x3) r3
so_far3 bytes r1 r2 r3 x1 x2 x3 h1 h2 h3 = front_then t2 w2 n2 s3 v3 n3 on3 bytes (x1, x2) r2 x3 r3 (so_far2 bytes r1 r2 x1 x2 h1 h2) h3

so_far4 : (bytes r1 r2 r3 r4 : List ℕ) (x1 : ℕ) (x2 : ℕ) (x3 : ℕ) (x4 : ℤ) → Front s1 v1 n1 bytes x1 r1 → Front s2 v2 n2 r1 x2 r2 → Front s3 v3 n3 r2 x3 r3 → Front s4 v4 n4 r3 x4 r4 → Front t4 w4 n4 bytes (((x1, x2), x3), x4) r4
so_far4 bytes r1 r2 r3 r4 x1 x2 x3 x4 h1 h2 h3 h4 = front_then t3 w3 n3 s4 v4 n4 on4 bytes ((x1, x2), x3) r3 x4 r4 (so_far3 bytes r1 r2 r3 x1 x2 x3 h1 h2 h3) h4

so_far5 : (bytes r1 r2 r3 r4 r5 : List ℕ) (x1 : ℕ) (x2 : ℕ) (x3 : ℕ) (x4 : ℤ) (x5 : ℤ) → Front s1 v1 n1 bytes x1 r1 → Front s2 v2 n2 r1 x2 r2 → Front s3 v3 n3 r2 x3 r3 → Front s4 v4 n4 r3 x4 r4 → Front s5 v5 n5 r4 x5 r5 → Front t5 w5 n5 bytes ((((x1, x2), x3), x4), x5) r5
so_far5 bytes r1 r2 r3 r4 r5 x1 x2 x3 x4 x5 h1 h2 h3 h4 h5 = front_then t4 w4 n4 s5 v5 n5 on5 bytes (((x1, x2), x3), x4) r4 x5 r5 (so_far4 bytes r1 r2 r3 r4 x1 x2 x3 x4 h1 h2 h3 h4) h5

-- creation, last try, tries, priority and class, each read behind the other, are read as an order
pub read_all : (bytes r1 r2 r3 r4 r5 : List ℕ) (x1 : ℕ) (x2 : ℕ) (x3 : ℕ) (x4 : ℤ) (x5 : ℤ) → Front s1 v1 n1 bytes x1 r1 → Front s2 v2 n2 r1 x2 r2 → Front s3 v3 n3 r2 x3 r3 → Front s4 v4 n4 r3 x4 r4 → Front s5 v5 n5 r4 x5 r5 → Front order_text IsOrder n5 bytes (made ((((x1, x2), x3), x4), x5)) r5
read_all bytes r1 r2 r3 r4 r5 x1 x2 x3 x4 x5 h1 h2 h3 h4 h5 = front_as t5 w5 order_text IsOrder made parted n5 bytes ((((x1, x2), x3), x4), x5) r5 retold (so_far5 bytes r1 r2 r3 r4 r5 x1 x2 x3 x4 x5 h1 h2 h3 h4 h5)

lift5 : (bytes : List ℕ) (e : Stop) → Stops t5 w5 n5 bytes e → Stops order_text IsOrder n5 bytes e
lift5 bytes e h = stop_as t5 w5 order_text IsOrder made parted n5 bytes retold e h

lift4 : (bytes : List ℕ) (e : Stop) → Stops t4 w4 n4 bytes e → Stops order_text IsOrder n5 bytes e
lift4 bytes e h = lift5 bytes e (stop_first t4 w4 n4 s5 v5 n5 on5 bytes e h)

lift3 : (bytes : List ℕ) (e : Stop) → Stops t3 w3 n3 bytes e → Stops order_text IsOrder n5 bytes e
lift3 bytes e h = lift4 bytes e (stop_first t3 w3 n3 s4 v4 n4 on4 bytes e h)

lift2 : (bytes : List ℕ) (e : Stop) → Stops t2 w2 n2 bytes e → Stops order_text IsOrder n5 bytes e
lift2 bytes e h = lift3 bytes e (stop_first t2 w2 n2 s3 v3 n3 on3 bytes e h)

lift1 : (bytes : List ℕ) (e : Stop) → Stops t1 w1 n1 bytes e → Stops order_text IsOrder n5 bytes e
lift1 bytes e h = lift2 bytes e (stop_first t1 w1 n1 s2 v2 n2 on2 bytes e h)

-- where the creation's line can't be read, neither can an order
pub stop-created : (bytes : List ℕ) (e : Stop) → Stops s1 v1 n1 bytes e → Stops order_text IsOrder n5 bytes e
stop-created = lift1

-- where the last try's line can't be read behind the creation's, neither can an order
pub stop-last_try : (bytes r1 : List ℕ) (x1 : ℕ) → Front s1 v1 n1 bytes x1 r1 → (e : Stop) → Stops s2 v2 n2 r1 e → Stops order_text IsOrder n5 bytes e
stop-last_try bytes r1 x1 h1 e n = lift2 bytes e (stop_second t1 w1 n1 s2 v2 n2 on2 bytes x1 r1 h1 e n)

-- where the line of the tries can't be read behind the last try's, neither can an order
pub stop-tries : (bytes r1 r2 : List ℕ) (x1 : ℕ) (x2 : ℕ) → Front s1 v1 n1 bytes x1 r1 → Front s2 v2 n2 r1 x2 r2 → (e : Stop) → Stops s3 v3 n3 r2 e → Stops order_text IsOrder n5 bytes e
stop-tries bytes r1 r2 x1 x2 h1 h2 e n = lift3 bytes e (stop_second t2 w2 n2 s3 v3 n3 on3 bytes (x1, x2) r2 (so_far2 bytes r1 r2 x1 x2 h1 h2) e n)

-- where the priority's line can't be read behind that of the tries, neither can an order
pub stop-priority : (bytes r1 r2 r3 : List ℕ) (x1 : ℕ) (x2 : ℕ) (x3 : ℕ) → Front s1 v1 n1 bytes x1 r1 → Front s2 v2 n2 r1 x2 r2 → Front s3 v3 n3 r2 x3 r3 → (e : Stop) → Stops s4 v4 n4 r3 e → Stops order_text IsOrder n5 bytes e
stop-priority bytes r1 r2 r3 x1 x2 x3 h1 h2 h3 e n = lift4 bytes e (stop_second t3 w3 n3 s4 v4 n4 on4 bytes ((x1, x2), x3) r3 (so_far3 bytes r1 r2 r3 x1 x2 x3 h1 h2 h3) e n)

-- where the class's line can't be read behind the priority's, neither can an order
pub stop-class : (bytes r1 r2 r3 r4 : List ℕ) (x1 : ℕ) (x2 : ℕ) (x3 : ℕ) (x4 : ℤ) → Front s1 v1 n1 bytes x1 r1 → Front s2 v2 n2 r1 x2 r2 → Front s3 v3 n3 r2 x3 r3 → Front s4 v4 n4 r3 x4 r4 → (e : Stop) → Stops s5 v5 n5 r4 e → Stops order_text IsOrder n5 bytes e
stop-class bytes r1 r2 r3 r4 x1 x2 x3 x4 h1 h2 h3 h4 e n = lift5 bytes e (stop_second t4 w4 n4 s5 v5 n5 on5 bytes (((x1, x2), x3), x4) r4 (so_far4 bytes r1 r2 r3 r4 x1 x2 x3 x4 h1 h2 h3 h4) e n)

-- orders are told apart by their lines, as each of the five numbers is
pub apart_all : Apart s1 v1 n1 → Apart s2 v2 n2 → Apart s3 v3 n3 → Apart s4 v4 n4 → Apart s5 v5 n5 → Apart order_text IsOrder n5
apart_all a1 a2 a3 a4 a5 = apart_as t5 w5 order_text IsOrder made parted n5 retold (apart_then t4 w4 n4 s5 v5 n5 on5 (apart_then t3 w3 n3 s4 v4 n4 on4 (apart_then t2 w2 n2 s3 v3 n3 on3 (apart_then t1 w1 n1 s2 v2 n2 on2 a1 a2) a3) a4) a5)
