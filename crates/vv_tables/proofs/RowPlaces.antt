-- What stands at a place of a table is what its number finds. This serves the questions of those who go through all tables.
use Rattle.std.proofs.Common.{ℕ, ◌≡◌, ◌==◌, Bool, true, false, cond, List, [], ◌∷◌, map, length, Option, Some, None, option_map, slice_get, refl, sym, ap, ◌∙◌}
use Rattle.std.specs.Prelude.{IsSome}
use Rattle.std.specs.Option.{is_some}
use Rattle.std.proofs.lemmas.Option.{slice_get-map}
use Rattle.std.proofs.lemmas.Bool.{eqb-true}
use Rattle.vv_flat.specs.Lists.{all_rising, if_found}
use Rattle.vv_flat.specs.State.{Container, Volume, Context}
use Rattle.vv_flat.specs.Chunks.{Entry}
use Rattle.vv_flat.specs.Bindings.{context_of, endpoints_of}
use Rattle.vv_container.specs.Table.{ChargedContainer, numbers, container_of}
use Rattle.vv_vols.specs.Shelf.{ShelfState, volume_in, size_in, chunks_in}
use Rattle.vv_tables.specs.Seen.{plain_containers}
use Rattle.vv_tables.proofs.Walks.{Located, located}

abbrev number_of_row : ChargedContainer → ℕ
number_of_row r = r.container.number

abbrev container_in : ChargedContainer → Container
container_in r = r.container

pub container_placed : (rows : List ChargedContainer) (i n : ℕ) → all_rising (numbers rows) ≡ true → Some n ≡ slice_get (numbers rows) i
    → container_of rows n ≡ slice_get (plain_containers rows) i
container_placed rows i n rising e =
    let at : Located number_of_row rows i n = located number_of_row rows i n rising (e ∙ slice_get-map number_of_row rows i) in
    ap (option_map container_in) at.found ∙ sym (ap (option_map container_in) at.at) ∙ sym (slice_get-map container_in rows i)

abbrev number_of_volume : Volume Entry → ℕ
number_of_volume v = v.number

pub volume_placed : (s : ShelfState) (i n : ℕ) → all_rising (map number_of_volume s.volumes) ≡ true → Some n ≡ option_map number_of_volume (slice_get s.volumes i)
    → volume_in s n ≡ slice_get s.volumes i
volume_placed s i n rising e =
    let at : Located number_of_volume s.volumes i n = located number_of_volume s.volumes i n rising e in
    at.found ∙ sym at.at

pub volume_stands : (s : ShelfState) (i n : ℕ) → all_rising (map number_of_volume s.volumes) ≡ true → Some n ≡ option_map number_of_volume (slice_get s.volumes i)
    → IsSome (volume_in s n)
volume_stands s i n rising e =
    let at : Located number_of_volume s.volumes i n = located number_of_volume s.volumes i n rising e in
    ap is_some at.found

pub chunks_placed : (s : ShelfState) (i n : ℕ) → all_rising (map number_of_volume s.volumes) ≡ true → Some n ≡ option_map number_of_volume (slice_get s.volumes i)
    → chunks_in s n ≡ if_found (slice_get s.volumes i) (λ (v : Volume Entry). v.chunks) []
chunks_placed s i n rising e = ap (λ (o : Option (Volume Entry)). if_found o (λ (v : Volume Entry). v.chunks) []) (volume_placed s i n rising e)

pub size_chunks : (s : ShelfState) (n : ℕ) → size_in s n ≡ length (chunks_in s n)
size_chunks s n = go (volume_in s n)
  where
    go : (o : Option (Volume Entry)) → if_found o (λ (v : Volume Entry). length v.chunks) 0 ≡ length (if_found o (λ (v : Volume Entry). v.chunks) [])
    go None = refl
    go (Some v) = refl

pub context_found : (contexts : List Context) (host : ℕ) (endpoints : List ℕ) → is_some (context_of contexts host) ≡ true → endpoints ≡ endpoints_of contexts host
    → Some (record { host = host; endpoints = endpoints }) ≡ context_of contexts host
context_found [] host endpoints set e = absurd (cc)
context_found (c ∷ cs) host endpoints set e = step (c.host == host) refl set e (context_found cs host endpoints)
  where
    step : (b : Bool) → (c.host == host) ≡ b → is_some (cond b (Some c) (context_of cs host)) ≡ true → endpoints ≡ if_found (cond b (Some c) (context_of cs host)) (λ k. k.endpoints) (1 ∷ [])
        → (is_some (context_of cs host) ≡ true → endpoints ≡ endpoints_of cs host → Some (record { host = host; endpoints = endpoints }) ≡ context_of cs host)
        → Some (record { host = host; endpoints = endpoints }) ≡ cond b (Some c) (context_of cs host)
    step true test set e further =
        let same : c.host ≡ host = eqb-true c.host host test in
        ap (λ (n : ℕ). Some (record { host = n; endpoints = endpoints })) (sym same) ∙ ap (λ (list : List ℕ). Some (record { host = c.host; endpoints = list })) e
    step false test set e further = further set e
