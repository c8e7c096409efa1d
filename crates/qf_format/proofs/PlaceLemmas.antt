-- The first lines of a control text.
use Rattle.std.proofs.Common.{ℕ, List, ◌++◌, Option, refl, arith}
use Rattle.std.specs.Prelude.{codes}
use Rattle.std.specs.Fmt.{decimal}
use Rattle.mail_base.specs.Texts.{IsLine}
use Rattle.mail_base.specs.declared.control.Parent.{Parent}
use Rattle.qf_format.specs.declared.part.Place.{Place}
use Rattle.qf_format.specs.declared.stop.Stop.{Stop}
use Rattle.qf_format.specs.inner.Parts.{IsParentOrNone, IsPlace, NotAt, place_text}
use Rattle.qf_format.specs.inner.Reading.{Front, Stops, Anything}
use Rattle.qf_format.specs.Spelling.{line, parent_line}
use Rattle.qf_format.specs.Valid.{IsRevision}
use Rattle.qf_format.proofs.ReadLemmas.{both, BothFormed, front_then, Retold, front_as}
use Rattle.qf_format.proofs.ListLemmas.{stop_first, stop_second, stop_as}
use Rattle.qf_format.proofs.ApartLemmas.{Apart, apart_then, apart_as}

abbrev s1 : ℕ → List ℕ
s1 = λ y. line (codes "V1\nv" ++ decimal y)

abbrev v1 : ℕ → Type 0
v1 = IsRevision

abbrev n1 : List ℕ → Type 0
n1 = Anything

abbrev s2 : Option Parent → List ℕ
s2 = parent_line

abbrev v2 : Option Parent → Type 0
v2 = IsParentOrNone

abbrev n2 : List ℕ → Type 0
n2 = NotAt 112

abbrev s3 : List ℕ → List ℕ
s3 = λ y. line (codes "g" ++ y)

abbrev v3 : List ℕ → Type 0
v3 = IsLine

abbrev n3 : List ℕ → Type 0
n3 = Anything

abbrev t1 : ℕ → List ℕ
t1 = s1

abbrev w1 : ℕ → Type 0
w1 = v1

abbrev t2 : ℕ × Option Parent → List ℕ
t2 = both t1 w1 n1 s2 v2 n2

abbrev w2 : ℕ × Option Parent → Type 0
w2 = BothFormed t1 w1 n1 s2 v2 n2

on2 : (y : Option Parent) (z : List ℕ) → v2 y → n2 z → n1 (s2 y ++ z)
on2 y z h k = tt

abbrev t3 : (ℕ × Option Parent) × List ℕ → List ℕ
t3 = both t2 w2 n2 s3 v3 n3

abbrev w3 : (ℕ × Option Parent) × List ℕ → Type 0
w3 = BothFormed t2 w2 n2 s3 v3 n3

on3 : (y : List ℕ) (z : List ℕ) → v3 y → n3 z → n2 (s3 y ++ z)
on3 y z h k e = omega (arith, e)

abbrev made : (ℕ × Option Parent) × List ℕ → Place
made p = record { revision = p.0.0; parent = p.0.1; group = p.1 }

abbrev parted : Place → (ℕ × Option Parent) × List ℕ
parted c = ((c.revision, c.parent), c.group)

retold : Retold t3 w3 place_text IsPlace made parted
unfolding place_text
retold = record {
  back = λ y. refl;
  text_to = λ x. refl;
  text_from = λ y. refl;
  form_to = λ p h. record { revision_range = h.0.0; parent_form = h.0.1; group_form = h.1 };
  form_from = λ c h. ((h.revision_range, h.parent_form), h.group_form);
}

so_far2 : (bytes r1 r2 : List ℕ) (x1 : ℕ) (x2 : Option Parent) → Front s1 v1 n1 bytes x1 r1 → Front s2 v2 n2 r1 x2 r2 → Front t2 w2 n2 bytes (x1, x2) r2
so_far2 bytes r1 r2 x1 x2 h1 h2 = front_then t1 w1 n1 s2 v2 n2 on2 bytes x1 r1 x2 r2 h1 h2

so_far3 : (bytes r1 r2 r3 : List ℕ) (x1 : ℕ) (x2 : Option Parent) (x3 : List ℕ) → Front s1 v1 n1 bytes x1 r1 → Front s2 v2 n2 r1 x2 r2 → Front s3 v3 n3 r2 x3 r3 → Front t3 w3 n3 bytes ((x1, x2), x3) r3
so_far3 bytes r1 r2 r3 x1 x2 x3 h1 h2 h3 = front_then t2 w2 n2 s3 v3 n3 on3 bytes (x1, x2) r2 x3 r3 (so_far2 bytes r1 r2 x1 x2 h1 h2) h3

-- the version, the revision, the parent and the group, each read behind the other, are read as a
-- place
pub read_all : (bytes r1 r2 r3 : List ℕ) (x1 : ℕ) (x2 : Option Parent) (x3 : List ℕ) → Front s1 v1 n1 bytes x1 r1 → Front s2 v2 n2 r1 x2 r2 → Front s3 v3 n3 r2 x3 r3 → Front place_text IsPlace n3 bytes (made ((x1, x2), x3)) r3
read_all bytes r1 r2 r3 x1 x2 x3 h1 h2 h3 = front_as t3 w3 place_text IsPlace made parted n3 bytes ((x1, x2), x3) r3 retold (so_far3 bytes r1 r2 r3 x1 x2 x3 h1 h2 h3)

lift3 : (bytes : List ℕ) (e : Stop) → Stops t3 w3 n3 bytes e → Stops place_text IsPlace n3 bytes e
lift3 bytes e h = stop_as t3 w3 place_text IsPlace made parted n3 bytes retold e h

lift2 : (bytes : List ℕ) (e : Stop) → Stops t2 w2 n2 bytes e → Stops place_text IsPlace n3 bytes e
lift2 bytes e h = lift3 bytes e (stop_first t2 w2 n2 s3 v3 n3 on3 bytes e h)

lift1 : (bytes : List ℕ) (e : Stop) → Stops t1 w1 n1 bytes e → Stops place_text IsPlace n3 bytes e
lift1 bytes e h = lift2 bytes e (stop_first t1 w1 n1 s2 v2 n2 on2 bytes e h)

-- where the version's and the revision's lines can't be read, neither can a place
pub stop-revision : (bytes : List ℕ) (e : Stop) → Stops s1 v1 n1 bytes e → Stops place_text IsPlace n3 bytes e
stop-revision = lift1

-- where the parent can't be read behind the revision, neither can a place
pub stop-parent : (bytes r1 : List ℕ) (x1 : ℕ) → Front s1 v1 n1 bytes x1 r1 → (e : Stop) → Stops s2 v2 n2 r1 e → Stops place_text IsPlace n3 bytes e
stop-parent bytes r1 x1 h1 e n = lift2 bytes e (stop_second t1 w1 n1 s2 v2 n2 on2 bytes x1 r1 h1 e n)

-- where the group can't be read behind the parent, neither can a place
pub stop-group : (bytes r1 r2 : List ℕ) (x1 : ℕ) (x2 : Option Parent) → Front s1 v1 n1 bytes x1 r1 → Front s2 v2 n2 r1 x2 r2 → (e : Stop) → Stops s3 v3 n3 r2 e → Stops place_text IsPlace n3 bytes e
stop-group bytes r1 r2 x1 x2 h1 h2 e n = lift3 bytes e (stop_second t2 w2 n2 s3 v3 n3 on3 bytes (x1, x2) r2 (so_far2 bytes r1 r2 x1 x2 h1 h2) e n)

-- places are told apart by their lines, as each of the three parts is
pub apart_all : Apart s1 v1 n1 → Apart s2 v2 n2 → Apart s3 v3 n3 → Apart place_text IsPlace n3
apart_all a1 a2 a3 = apart_as t3 w3 place_text IsPlace made parted n3 retold (apart_then t2 w2 n2 s3 v3 n3 on3 (apart_then t1 w1 n1 s2 v2 n2 on2 a1 a2) a3)
