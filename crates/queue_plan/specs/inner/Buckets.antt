-- How the code gathers the places of rows. It need not be believed: only private contracts cite it.
use Rattle.std.specs.Prelude.{ℕ, suc, List, [], ◌∷◌, ◌++◌, length, map, filter_map, if◌then◌else◌, slice_get, unwrap_or}
use Rattle.std.specs.Map.{lookup}
use Rattle.indexmap.specs.IndexMap.{insert_entry}
use Rattle.mail_base.specs.Catalogs.{value_at}
use Rattle.mail_base.specs.declared.config.Config.{Config}
use Rattle.mail_base.specs.declared.draw.Draw.{Draw}
use Rattle.mail_base.specs.declared.message.Cut.{Cut}
use Rattle.queue_plan.specs.declared.heading.Heading.{Heading}
use Rattle.queue_plan.specs.Parts.{cut_of, limit_of, portion_size, portions, same_heading}
use Rattle.queue_plan.specs.Rows.{firsts}

abbrev pub Buckets : Type 0
Buckets = List (Heading × List ℕ)

-- the places of a heading
abbrev pub bucket_of : Heading → Buckets → List ℕ
bucket_of heading buckets = unwrap_or (lookup (same_heading heading) buckets) []

-- one place more behind those of its heading
abbrev pub put : Heading → ℕ → Buckets → Buckets
put heading place buckets =
    insert_entry same_heading buckets heading (bucket_of heading buckets ++ place ∷ [])

-- the places of a heading among headings, of which the first has this place
abbrev pub places_from : ℕ → Heading → List Heading → List ℕ
places_from place heading [] = []
places_from place heading (other ∷ others) =
    if same_heading heading other then place ∷ places_from (suc place) heading others
    else places_from (suc place) heading others

-- the places of each heading, in the order in which they are first met
abbrev pub gathered : List Heading → Buckets
gathered headings =
    map (λ heading. (heading, places_from 0 heading headings)) (firsts same_heading headings)

-- ---- the parts of buckets

-- the part of the rows at some places
abbrev pub part_at : Heading → List Draw → List ℕ → Cut
part_at heading rows places = cut_of heading (filter_map (slice_get rows) places)

-- the parts of the rows at these places, with so many in each
abbrev pub parts_at : Heading → List Draw → ℕ → List ℕ → List Cut
parts_at heading rows size places = map (part_at heading rows) (portions size places)

-- the parts of the rows of one heading
abbrev pub parts_in : Config → List Draw → Heading × List ℕ → List Cut
parts_in config rows bucket =
    parts_at bucket.0 rows
    (portion_size (limit_of (value_at bucket.0.group config.groups)) (length bucket.1)) bucket.1
