-- Triples as a set holds them.
use Rattle.std.proofs.Common.{◌≡◌, ℕ, List, [], ◌∷◌, ◌++◌, Bool, true, false, map, refl, sym, ap}
use Rattle.std.proofs.lemmas.List.{map-append}
use Rattle.std.specs.Prelude.{bytes_eq, cond, ◌&&◌}
use Rattle.std.specs.List.{list_any}
use Rattle.mail_base.specs.declared.route.Triple.{Triple}
use Rattle.alias_expand.specs.declared.file_reads.FileKey.{FileKey}
use Rattle.alias_expand.specs.declared.triples.Key.{Key}
use Rattle.alias_expand.specs.inner.Holding.{read_of, triple_of}
use Rattle.alias_expand.specs.Triples.{is_same, is_among, is_read, with_read, with_triple}

-- a test of what is held, as a test of triples
pub any_held : (held : Key → Bool) (test : Triple → Bool) → ((key : Key) → held key ≡ test (triple_of key)) → (keys : List Key) → list_any held keys ≡ list_any test (map triple_of keys)
any_held held test same [] = refl
any_held held test same (key ∷ keys) = rw (same key, any_held held test same keys) refl

-- one more is held
pub add_held : (held : Key → Bool) (key : Key) (keys more : List Key) → ((other : Key) → held other ≡ is_same (triple_of key) (triple_of other)) → more ≡ cond (list_any held keys) keys (keys ++ key ∷ []) → map triple_of more ≡ with_triple (triple_of key) (map triple_of keys)
add_held held key keys more same is = by (list_any held keys) refl
  where
    among : list_any held keys ≡ is_among (triple_of key) (map triple_of keys)
    among = any_held held (is_same (triple_of key)) same keys

    by : (b : Bool) → list_any held keys ≡ b → map triple_of more ≡ with_triple (triple_of key) (map triple_of keys)
    by true e = rw (is, sym among, e) refl
    by false e = rw (is, sym among, e) (map-append triple_of keys (key ∷ []))

-- the same of files
pub any_file : (held : FileKey → Bool) (test : (Triple × List ℕ) → Bool) → ((key : FileKey) → held key ≡ test (read_of key)) → (keys : List FileKey) → list_any held keys ≡ list_any test (map read_of keys)
any_file held test same [] = refl
any_file held test same (key ∷ keys) = rw (same key, any_file held test same keys) refl

pub add_file : (held : FileKey → Bool) (key : FileKey) (namer : Triple) (name : List ℕ) (keys more : List FileKey) → read_of key ≡ (namer, name) → ((other : FileKey) → held other ≡ (is_same (triple_of key.namer) (triple_of other.namer) && bytes_eq key.name other.name)) → more ≡ cond (list_any held keys) keys (keys ++ key ∷ []) → map read_of more ≡ with_read namer name (map read_of keys)
add_file held key namer name keys more of same is = by (list_any held keys) refl
  where
    names : triple_of key.namer ≡ namer
    names = ap (λ (p : Triple × List ℕ). p.0) of

    called : key.name ≡ name
    called = ap (λ (p : Triple × List ℕ). p.1) of

    also : (other : FileKey) → held other ≡ (is_same namer (triple_of other.namer) && bytes_eq name other.name)
    also other = rw (sym names, sym called) (same other)

    read : list_any held keys ≡ is_read namer name (map read_of keys)
    read = any_file held (λ (file : Triple × List ℕ). is_same namer file.0 && bytes_eq name file.1) also keys

    by : (b : Bool) → list_any held keys ≡ b → map read_of more ≡ with_read namer name (map read_of keys)
    by true e = rw (is, sym read, e) refl
    by false e = rw (is, sym read, e, sym of) (map-append read_of keys (key ∷ []))

-- a file is held
pub has_file : (held : FileKey → Bool) (key : FileKey) (namer : Triple) (name : List ℕ) (keys : List FileKey) → read_of key ≡ (namer, name) → ((other : FileKey) → held other ≡ (is_same (triple_of key.namer) (triple_of other.namer) && bytes_eq key.name other.name)) → list_any held keys ≡ is_read namer name (map read_of keys)
has_file held key namer name keys of same = any_file held (λ (file : Triple × List ℕ). is_same namer file.0 && bytes_eq name file.1) also keys
  where
    names : triple_of key.namer ≡ namer
    names = ap (λ (p : Triple × List ℕ). p.0) of

    called : key.name ≡ name
    called = ap (λ (p : Triple × List ℕ). p.1) of

    also : (other : FileKey) → held other ≡ (is_same namer (triple_of other.namer) && bytes_eq name other.name)
    also other = rw (sym names, sym called) (same other)
