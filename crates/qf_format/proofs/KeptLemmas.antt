-- The lines of the macros.
use Rattle.std.proofs.Common.{ℕ, List, ◌++◌, refl}
use Rattle.std.specs.Prelude.{codes}
use Rattle.mail_base.specs.Texts.{IsLine}
use Rattle.mail_base.specs.declared.message.Kept.{Kept}
use Rattle.qf_format.specs.declared.stop.Stop.{Stop}
use Rattle.qf_format.specs.inner.Reading.{Front, Stops, Anything}
use Rattle.qf_format.specs.Spelling.{kept_lines, line}
use Rattle.qf_format.specs.Valid.{AreKept}
use Rattle.qf_format.proofs.ReadLemmas.{both, BothFormed, front_then, Retold, front_as}
use Rattle.qf_format.proofs.ListLemmas.{stop_first, stop_second, stop_as}
use Rattle.qf_format.proofs.ApartLemmas.{Apart, apart_then, apart_as}

abbrev s1 : List ℕ → List ℕ
s1 = λ y. line (codes "$r" ++ y)

abbrev v1 : List ℕ → Type 0
v1 = IsLine

abbrev n1 : List ℕ → Type 0
n1 = Anything

abbrev s2 : List ℕ → List ℕ
s2 = λ y. line (codes "$s" ++ y)

abbrev v2 : List ℕ → Type 0
v2 = IsLine

abbrev n2 : List ℕ → Type 0
n2 = Anything

abbrev s3 : List ℕ → List ℕ
s3 = λ y. line (codes "${client_addr}" ++ y)

abbrev v3 : List ℕ → Type 0
v3 = IsLine

abbrev n3 : List ℕ → Type 0
n3 = Anything

abbrev t1 : List ℕ → List ℕ
t1 = s1

abbrev w1 : List ℕ → Type 0
w1 = v1

abbrev t2 : List ℕ × List ℕ → List ℕ
t2 = both t1 w1 n1 s2 v2 n2

abbrev w2 : List ℕ × List ℕ → Type 0
w2 = BothFormed t1 w1 n1 s2 v2 n2

on2 : (y : List ℕ) (z : List ℕ) → v2 y → n2 z → n1 (s2 y ++ z)
on2 y z h k = tt

abbrev t3 : (List ℕ × List ℕ) × List ℕ → List ℕ
t3 = both t2 w2 n2 s3 v3 n3

abbrev w3 : (List ℕ × List ℕ) × List ℕ → Type 0
w3 = BothFormed t2 w2 n2 s3 v3 n3

on3 : (y : List ℕ) (z : List ℕ) → v3 y → n3 z → n2 (s3 y ++ z)
on3 y z h k = tt

abbrev made : (List ℕ × List ℕ) × List ℕ → Kept
made p = record { protocol = p.0.0; helo = p.0.1; client = p.1 }

abbrev parted : Kept → (List ℕ × List ℕ) × List ℕ
parted c = ((c.protocol, c.helo), c.client)

retold : Retold t3 w3 kept_lines AreKept made parted
unfolding kept_lines
retold = record {
  back = λ y. refl;
  text_to = λ x. refl;
  text_from = λ y. refl;
  form_to = λ p h. record { protocol_form = h.0.0; helo_form = h.0.1; client_form = h.1 };
  form_from = λ c h. ((h.protocol_form, h.helo_form), h.client_form);
}

so_far2 : (bytes r1 r2 : List ℕ) (x1 : List ℕ) (x2 : List ℕ) → Front s1 v1 n1 bytes x1 r1 → Front s2 v2 n2 r1 x2 r2 → Front t2 w2 n2 bytes (x1, x2) r2
so_far2 bytes r1 r2 x1 x2 h1 h2 = front_then t1 w1 n1 s2 v2 n2 on2 bytes x1 r1 x2 r2 h1 h2

so_far3 : (bytes r1 r2 r3 : List ℕ) (x1 : List ℕ) (x2 : List ℕ) (x3 : List ℕ) → Front s1 v1 n1 bytes x1 r1 → Front s2 v2 n2 r1 x2 r2 → Front s3 v3 n3 r2 x3 r3 → Front t3 w3 n3 bytes ((x1, x2), x3) r3
so_far3 bytes r1 r2 r3 x1 x2 x3 h1 h2 h3 = front_then t2 w2 n2 s3 v3 n3 on3 bytes (x1, x2) r2 x3 r3 (so_far2 bytes r1 r2 x1 x2 h1 h2) h3

-- the lines of the protocol, of HELO and of the client, each read behind the other, are read as
-- what is kept
pub read_all : (bytes r1 r2 r3 : List ℕ) (x1 : List ℕ) (x2 : List ℕ) (x3 : List ℕ) → Front s1 v1 n1 bytes x1 r1 → Front s2 v2 n2 r1 x2 r2 → Front s3 v3 n3 r2 x3 r3 → Front kept_lines AreKept n3 bytes (made ((x1, x2), x3)) r3
read_all bytes r1 r2 r3 x1 x2 x3 h1 h2 h3 = front_as t3 w3 kept_lines AreKept made parted n3 bytes ((x1, x2), x3) r3 retold (so_far3 bytes r1 r2 r3 x1 x2 x3 h1 h2 h3)

lift3 : (bytes : List ℕ) (e : Stop) → Stops t3 w3 n3 bytes e → Stops kept_lines AreKept n3 bytes e
lift3 bytes e h = stop_as t3 w3 kept_lines AreKept made parted n3 bytes retold e h

lift2 : (bytes : List ℕ) (e : Stop) → Stops t2 w2 n2 bytes e → Stops kept_lines AreKept n3 bytes e
lift2 bytes e h = lift3 bytes e (stop_first t2 w2 n2 s3 v3 n3 on3 bytes e h)

lift1 : (bytes : List ℕ) (e : Stop) → Stops t1 w1 n1 bytes e → Stops kept_lines AreKept n3 bytes e
lift1 bytes e h = lift2 bytes e (stop_first t1 w1 n1 s2 v2 n2 on2 bytes e h)

-- where the protocol's line can't be read, neither can what is kept
pub stop-protocol : (bytes : List ℕ) (e : Stop) → Stops s1 v1 n1 bytes e → Stops kept_lines AreKept n3 bytes e
stop-protocol = lift1

-- where the line of HELO can't be read behind the protocol's, neither can what is kept
pub stop-helo : (bytes r1 : List ℕ) (x1 : List ℕ) → Front s1 v1 n1 bytes x1 r1 → (e : Stop) → Stops s2 v2 n2 r1 e → Stops kept_lines AreKept n3 bytes e
stop-helo bytes r1 x1 h1 e n = lift2 bytes e (stop_second t1 w1 n1 s2 v2 n2 on2 bytes x1 r1 h1 e n)

-- where the client's line can't be read behind that of HELO, neither can what is kept
pub stop-client : (bytes r1 r2 : List ℕ) (x1 : List ℕ) (x2 : List ℕ) → Front s1 v1 n1 bytes x1 r1 → Front s2 v2 n2 r1 x2 r2 → (e : Stop) → Stops s3 v3 n3 r2 e → Stops kept_lines AreKept n3 bytes e
stop-client bytes r1 r2 x1 x2 h1 h2 e n = lift3 bytes e (stop_second t2 w2 n2 s3 v3 n3 on3 bytes (x1, x2) r2 (so_far2 bytes r1 r2 x1 x2 h1 h2) e n)

-- what is kept is told apart by its lines, as each of the three is
pub apart_all : Apart s1 v1 n1 → Apart s2 v2 n2 → Apart s3 v3 n3 → Apart kept_lines AreKept n3
apart_all a1 a2 a3 = apart_as t3 w3 kept_lines AreKept made parted n3 retold (apart_then t2 w2 n2 s3 v3 n3 on3 (apart_then t1 w1 n1 s2 v2 n2 on2 a1 a2) a3)
