-- The lines of the marks, of 8BITMIME and of the sender.
use Rattle.std.proofs.Common.{ℕ, Bool, true, false, List, ◌++◌, refl, arith}
use Rattle.std.specs.Prelude.{codes}
use Rattle.mail_base.specs.Texts.{IsBracketed}
use Rattle.mail_base.specs.declared.message.Marks.{Marks}
use Rattle.qf_format.specs.declared.part.Envelope.{Envelope}
use Rattle.qf_format.specs.declared.stop.Stop.{Stop}
use Rattle.qf_format.specs.inner.Parts.{AnyBool, AnyMarks, At, IsEnvelope, NotAt, envelope_text}
use Rattle.qf_format.specs.inner.Reading.{Front, Stops, Anything}
use Rattle.qf_format.specs.Spelling.{eight_line, line, marks_line}
use Rattle.qf_format.proofs.ReadLemmas.{both, BothFormed, front_then, Retold, front_as}
use Rattle.qf_format.proofs.ListLemmas.{stop_first, stop_second, stop_as}
use Rattle.qf_format.proofs.ApartLemmas.{Apart, apart_then, apart_as}

abbrev s1 : Marks → List ℕ
s1 = marks_line

abbrev v1 : Marks → Type 0
v1 = AnyMarks

abbrev n1 : List ℕ → Type 0
n1 = NotAt 70

abbrev s2 : Bool → List ℕ
s2 = eight_line

abbrev v2 : Bool → Type 0
v2 = AnyBool

abbrev n2 : List ℕ → Type 0
n2 = At 83

abbrev s3 : List ℕ → List ℕ
s3 = λ y. line (codes "S" ++ y)

abbrev v3 : List ℕ → Type 0
v3 = IsBracketed

abbrev n3 : List ℕ → Type 0
n3 = Anything

abbrev t1 : Marks → List ℕ
t1 = s1

abbrev w1 : Marks → Type 0
w1 = v1

abbrev t2 : Marks × Bool → List ℕ
t2 = both t1 w1 n1 s2 v2 n2

abbrev w2 : Marks × Bool → Type 0
w2 = BothFormed t1 w1 n1 s2 v2 n2

on2 : (y : Bool) (z : List ℕ) → v2 y → n2 z → n1 (s2 y ++ z)
on2 true z h k e = omega (arith, e)
on2 false z h k e = omega (arith, e, k)

abbrev t3 : (Marks × Bool) × List ℕ → List ℕ
t3 = both t2 w2 n2 s3 v3 n3

abbrev w3 : (Marks × Bool) × List ℕ → Type 0
w3 = BothFormed t2 w2 n2 s3 v3 n3

on3 : (y : List ℕ) (z : List ℕ) → v3 y → n3 z → n2 (s3 y ++ z)
on3 y z h k = refl

abbrev made : (Marks × Bool) × List ℕ → Envelope
made p = record { marks = p.0.0; eight = p.0.1; sender = p.1 }

abbrev parted : Envelope → (Marks × Bool) × List ℕ
parted c = ((c.marks, c.eight), c.sender)

retold : Retold t3 w3 envelope_text IsEnvelope made parted
unfolding envelope_text
retold = record {
  back = λ y. refl;
  text_to = λ x. refl;
  text_from = λ y. refl;
  form_to = λ p h. record { sender_form = h.1 };
  form_from = λ c h. ((tt, tt), h.sender_form);
}

so_far2 : (bytes r1 r2 : List ℕ) (x1 : Marks) (x2 : Bool) → Front s1 v1 n1 bytes x1 r1 → Front s2 v2 n2 r1 x2 r2 → Front t2 w2 n2 bytes (x1, x2) r2
so_far2 bytes r1 r2 x1 x2 h1 h2 = front_then t1 w1 n1 s2 v2 n2 on2 bytes x1 r1 x2 r2 h1 h2

so_far3 : (bytes r1 r2 r3 : List ℕ) (x1 : Marks) (x2 : Bool) (x3 : List ℕ) → Front s1 v1 n1 bytes x1 r1 → Front s2 v2 n2 r1 x2 r2 → Front s3 v3 n3 r2 x3 r3 → Front t3 w3 n3 bytes ((x1, x2), x3) r3
so_far3 bytes r1 r2 r3 x1 x2 x3 h1 h2 h3 = front_then t2 w2 n2 s3 v3 n3 on3 bytes (x1, x2) r2 x3 r3 (so_far2 bytes r1 r2 x1 x2 h1 h2) h3

-- the marks, 8BITMIME and the sender, each read behind the other, are read as an envelope
pub read_all : (bytes r1 r2 r3 : List ℕ) (x1 : Marks) (x2 : Bool) (x3 : List ℕ) → Front s1 v1 n1 bytes x1 r1 → Front s2 v2 n2 r1 x2 r2 → Front s3 v3 n3 r2 x3 r3 → Front envelope_text IsEnvelope n3 bytes (made ((x1, x2), x3)) r3
read_all bytes r1 r2 r3 x1 x2 x3 h1 h2 h3 = front_as t3 w3 envelope_text IsEnvelope made parted n3 bytes ((x1, x2), x3) r3 retold (so_far3 bytes r1 r2 r3 x1 x2 x3 h1 h2 h3)

lift3 : (bytes : List ℕ) (e : Stop) → Stops t3 w3 n3 bytes e → Stops envelope_text IsEnvelope n3 bytes e
lift3 bytes e h = stop_as t3 w3 envelope_text IsEnvelope made parted n3 bytes retold e h

lift2 : (bytes : List ℕ) (e : Stop) → Stops t2 w2 n2 bytes e → Stops envelope_text IsEnvelope n3 bytes e
lift2 bytes e h = lift3 bytes e (stop_first t2 w2 n2 s3 v3 n3 on3 bytes e h)

lift1 : (bytes : List ℕ) (e : Stop) → Stops t1 w1 n1 bytes e → Stops envelope_text IsEnvelope n3 bytes e
lift1 bytes e h = lift2 bytes e (stop_first t1 w1 n1 s2 v2 n2 on2 bytes e h)

-- where the marks can't be read, neither can an envelope
pub stop-marks : (bytes : List ℕ) (e : Stop) → Stops s1 v1 n1 bytes e → Stops envelope_text IsEnvelope n3 bytes e
stop-marks = lift1

-- where 8BITMIME or its absence can't be read behind the marks, neither can an envelope
pub stop-eight : (bytes r1 : List ℕ) (x1 : Marks) → Front s1 v1 n1 bytes x1 r1 → (e : Stop) → Stops s2 v2 n2 r1 e → Stops envelope_text IsEnvelope n3 bytes e
stop-eight bytes r1 x1 h1 e n = lift2 bytes e (stop_second t1 w1 n1 s2 v2 n2 on2 bytes x1 r1 h1 e n)

-- where the sender's line can't be read behind it, neither can an envelope
pub stop-sender : (bytes r1 r2 : List ℕ) (x1 : Marks) (x2 : Bool) → Front s1 v1 n1 bytes x1 r1 → Front s2 v2 n2 r1 x2 r2 → (e : Stop) → Stops s3 v3 n3 r2 e → Stops envelope_text IsEnvelope n3 bytes e
stop-sender bytes r1 r2 x1 x2 h1 h2 e n = lift3 bytes e (stop_second t2 w2 n2 s3 v3 n3 on3 bytes (x1, x2) r2 (so_far2 bytes r1 r2 x1 x2 h1 h2) e n)

-- envelopes are told apart by their lines, as each of the three parts is
pub apart_all : Apart s1 v1 n1 → Apart s2 v2 n2 → Apart s3 v3 n3 → Apart envelope_text IsEnvelope n3
apart_all a1 a2 a3 = apart_as t3 w3 envelope_text IsEnvelope made parted n3 retold (apart_then t2 w2 n2 s3 v3 n3 on3 (apart_then t1 w1 n1 s2 v2 n2 on2 a1 a2) a3)
