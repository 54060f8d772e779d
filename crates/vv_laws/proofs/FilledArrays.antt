-- Well-formed tables stand for a well-formed flat array, where the pool has the bytes of a chunk at each named place.
use Rattle.std.proofs.Common.{◌≡◌, ℕ, ◌==◌, ◌&&◌, ◌||◌, not, refl, ap, sym, ◌∙◌, Bool, true, false, List, [], ◌∷◌, map, length, replicate}
use Rattle.std.specs.Prelude.{Option, Some, None, nat_le, nat_lt}
use Rattle.std.specs.List.{list_all}
use Rattle.std.proofs.lemmas.List.Folds.{list_all-map}
use Rattle.std.proofs.lemmas.Bool.{eq-eqb, eqb-true, not-true}
use Rattle.vv_flat.specs.Lists.{if_found}
use Rattle.vv_flat.specs.State.{Durable, Volume, RunningClone, RunningCopy, Piece, map_volume, map_clone, map_piece, map_copy, map_durable, all_pieces}
use Rattle.vv_flat.specs.Chunks.{ChunkValue, Entry, chunk_bytes, filled, filled_tables, is_chunk_value}
use Rattle.vv_flat.specs.Sharing.{Standing, standings, is_placed, agrees, is_own_stamp, is_shared_rightly, shares, shares_places}
use Rattle.vv_flat.specs.NamedPlaces.{is_named}
use Rattle.vv_flat.specs.WellFormed.{is_well_formed, is_well_formed_shape}
use Rattle.vv_flat.specs.FlatForm.{is_given, stamps_are_given, has_chunk_values, is_well_formed_array}
use Rattle.vv_flat.proofs.Shares.{and_left, and_right, and_both, list_all-follows, map-all_pieces, sharing_tells_bytes, shares-places}
use Rattle.vv_flat.proofs.Standings.{by_kind}
use Rattle.vv_flat.proofs.NewEntries.{all-always}
use Rattle.vv_laws.proofs.WellFormed.{well_formed_shape, well_formed_sharing}
use Rattle.vv_laws.proofs.OtherContents.{filled_shape}
use Rattle.vv_laws.proofs.WellFormedArrays.{all_alike, pass_given, full_value, unmapped_good, whole_array}

-- The stamps.

given_alike : {X Y : Type 0} (f : X → Y) (lsn : ℕ) (clones : List (RunningClone X)) (o : Option ℕ) (s : ℕ)
    → is_given lsn (map (map_clone f) clones) o s ≡ is_given lsn clones o s
given_alike {X} {Y} f lsn clones o s =
    ap (λ b. nat_le s lsn && b)
    (list_all-map (λ (c : RunningClone Y). not (s == c.number) || if_found o (λ n. n == c.number) false) (map_clone f) clones)

stamps-map : {X Y : Type 0} (f : X → Y) (stamp_of : X → ℕ) (stamp : Y → ℕ) → ((x : X) → stamp (f x) ≡ stamp_of x) → (d : Durable X)
    → stamps_are_given stamp (map_durable f d) ≡ stamps_are_given stamp_of d
unfolding stamps_are_given
stamps-map {X} {Y} f stamp_of stamp same d =
    let test : Option ℕ → Y → Bool = λ o y. is_given d.lsn (map (map_clone f) d.clones) o (stamp y) in
    let one : (o : Option ℕ) (x : X) → test o (f x) ≡ is_given d.lsn d.clones o (stamp_of x) =
    (λ o x. given_alike f d.lsn d.clones o (stamp (f x)) ∙ ap (is_given d.lsn d.clones o) (same x)) in
    let each : (o : Option ℕ) (xs : List X) → list_all (test o) (map f xs) ≡ list_all (λ x. is_given d.lsn d.clones o (stamp_of x)) xs =
    (λ o xs. list_all-map (test o) f xs ∙ all_alike (λ x. test o (f x)) (λ x. is_given d.lsn d.clones o (stamp_of x)) (one o) xs) in
    let volumes : list_all (λ (v : Volume Y). list_all (test None) v.chunks) (map (map_volume f) d.volumes)
    ≡ list_all (λ (v : Volume X). list_all (λ x. is_given d.lsn d.clones None (stamp_of x)) v.chunks) d.volumes =
    list_all-map (λ (v : Volume Y). list_all (test None) v.chunks) (map_volume f) d.volumes
    ∙ all_alike _ (λ (v : Volume X). list_all (λ x. is_given d.lsn d.clones None (stamp_of x)) v.chunks) (λ v. each None v.chunks) d.volumes in
    let clones : list_all (λ (c : RunningClone Y). list_all (test None) c.image && list_all (test (Some c.number)) c.target) (map (map_clone f) d.clones)
    ≡ list_all (λ (c : RunningClone X). list_all (λ x. is_given d.lsn d.clones None (stamp_of x)) c.image && list_all (λ x. is_given d.lsn d.clones (Some c.number) (stamp_of x)) c.target) d.clones =
    list_all-map (λ (c : RunningClone Y). list_all (test None) c.image && list_all (test (Some c.number)) c.target) (map_clone f) d.clones
    ∙ all_alike _ (λ (c : RunningClone X). list_all (λ x. is_given d.lsn d.clones None (stamp_of x)) c.image && list_all (λ x. is_given d.lsn d.clones (Some c.number) (stamp_of x)) c.target)
    (λ c. ap (λ b. b && list_all (test (Some c.number)) (map f c.target)) (each None c.image)
    ∙ ap (λ b. list_all (λ x. is_given d.lsn d.clones None (stamp_of x)) c.image && b) (each (Some c.number) c.target)) d.clones in
    let copies : list_all (λ (c : RunningCopy Y). list_all (λ (p : Piece Y). test None p.chunk) c.pieces) (map (map_copy f) d.copies)
    ≡ list_all (λ (c : RunningCopy X). list_all (λ (p : Piece X). is_given d.lsn d.clones None (stamp_of p.chunk)) c.pieces) d.copies =
    list_all-map (λ (c : RunningCopy Y). list_all (λ (p : Piece Y). test None p.chunk) c.pieces) (map_copy f) d.copies
    ∙ all_alike _ (λ (c : RunningCopy X). list_all (λ (p : Piece X). is_given d.lsn d.clones None (stamp_of p.chunk)) c.pieces)
    (λ c. list_all-map (λ (p : Piece Y). test None p.chunk) (map_piece f) c.pieces
    ∙ all_alike _ (λ (p : Piece X). is_given d.lsn d.clones None (stamp_of p.chunk)) (λ p. one None p.chunk) c.pieces) d.copies in
    ap (λ b. (b && list_all (λ (c : RunningClone Y). list_all (test None) c.image && list_all (test (Some c.number)) c.target) (map (map_clone f) d.clones))
    && list_all (λ (c : RunningCopy Y). list_all (λ (p : Piece Y). test None p.chunk) c.pieces) (map (map_copy f) d.copies)) volumes
    ∙ ap (λ b. (list_all (λ (v : Volume X). list_all (λ x. is_given d.lsn d.clones None (stamp_of x)) v.chunks) d.volumes && b)
    && list_all (λ (c : RunningCopy Y). list_all (λ (p : Piece Y). test None p.chunk) c.pieces) (map (map_copy f) d.copies)) clones
    ∙ ap (λ b. (list_all (λ (v : Volume X). list_all (λ x. is_given d.lsn d.clones None (stamp_of x)) v.chunks) d.volumes
    && list_all (λ (c : RunningClone X). list_all (λ x. is_given d.lsn d.clones None (stamp_of x)) c.image && list_all (λ x. is_given d.lsn d.clones (Some c.number) (stamp_of x)) c.target) d.clones) && b) copies

table_stamps : (tables : Durable Entry) → shares tables ≡ true → stamps_are_given (λ (e : Entry). e.stamp) tables ≡ true
unfolding stamps_are_given shares
table_stamps tables shared =
    let test : Standing → Bool = λ a. is_given tables.lsn tables.clones a.target_of a.piece.chunk.stamp in
    let k = by_kind test (λ _. true) tables
    (list_all-follows (is_shared_rightly tables) test
    (λ a e. and_both (nat_le a.piece.chunk.stamp tables.lsn) (is_own_stamp tables.clones a) (and_right _ _ (and_left _ _ (and_left _ _ e))) (and_right _ _ (and_left _ _ e)))
    (standings tables) shared)
    (all-always (λ (c : RunningClone Entry). true) (λ c. refl) tables.clones) in
    pass_given (λ (e : Entry). e.stamp) tables.lsn tables.clones tables (record { volumes = k.volumes; clones = k.clones; copies = k.copies; numbers = k.numbers })

-- The bytes.

or_first : (a b : Bool) → a ≡ true → (a || b) ≡ true
or_first true b e = refl
or_first false b e = cc

or_second : (a b : Bool) → b ≡ true → (a || b) ≡ true
or_second true b e = refl
or_second false b e = e

one_filled : (B pool : ℕ) (bytes_at : ℕ → List ℕ) (s : ℕ) (o : Option ℕ) → is_placed pool (record { place = o; stamp = s }) ≡ true
    → ((p : ℕ) → if_found o (λ q. q == p) false ≡ true → length (bytes_at p) ≡ chunk_bytes B)
    → is_chunk_value B (filled B bytes_at (record { place = o; stamp = s })) ≡ true
one_filled B pool bytes_at s None placed long =
    let zero_stamp : s ≡ 0 = eqb-true s 0 placed in
    ap (λ n. is_chunk_value B (record { stamp = n; bytes = replicate (chunk_bytes B) 0 })) zero_stamp ∙ unmapped_good B
one_filled B pool bytes_at s (Some p) placed long =
    full_value B s (bytes_at p) (long p (eq-eqb p p refl)) (not-true (s == 0) (and_left (not (s == 0)) (nat_lt p pool) placed))

all_filled : (B pool : ℕ) (bytes_at : ℕ → List ℕ) (ps : List (Piece Entry)) → list_all (λ (a : Piece Entry). is_placed pool a.chunk) ps ≡ true
    → ((p : ℕ) → is_named ps p ≡ true → length (bytes_at p) ≡ chunk_bytes B)
    → list_all (λ (a : Piece Entry). is_chunk_value B (filled B bytes_at a.chunk)) ps ≡ true
all_filled B pool bytes_at [] placed long = refl
all_filled B pool bytes_at (a ∷ ps) placed long =
    and_both (is_chunk_value B (filled B bytes_at a.chunk)) _
    (one_filled B pool bytes_at a.chunk.stamp a.chunk.place (and_left (is_placed pool a.chunk) _ placed) (λ p e. long p (or_first _ (is_named ps p) e)))
    (all_filled B pool bytes_at ps (and_right (is_placed pool a.chunk) _ placed) (λ p e. long p (or_second _ (is_named ps p) e)))

filled_values : (bytes_at : ℕ → List ℕ) (tables : Durable Entry) → shares tables ≡ true
    → ((p : ℕ) → is_named (all_pieces tables) p ≡ true → length (bytes_at p) ≡ chunk_bytes tables.geometry.chunk_blocks)
    → has_chunk_values (filled_tables bytes_at tables) ≡ true
unfolding has_chunk_values shares_places
filled_values bytes_at tables shared long =
    let B : ℕ = tables.geometry.chunk_blocks in
    let placed : list_all (λ (a : Piece Entry). is_placed tables.geometry.pool_chunks a.chunk) (all_pieces tables) ≡ true =
    list_all-follows (λ (a : Piece Entry). is_placed tables.geometry.pool_chunks a.chunk && list_all (agrees a) (all_pieces tables))
    (λ (a : Piece Entry). is_placed tables.geometry.pool_chunks a.chunk) (λ a e. and_left (is_placed tables.geometry.pool_chunks a.chunk) _ e)
    (all_pieces tables) (shares-places tables shared) in
    ap (list_all (λ (p : Piece ChunkValue). is_chunk_value B p.chunk)) (sym (map-all_pieces (filled B bytes_at) tables))
    ∙ list_all-map (λ (p : Piece ChunkValue). is_chunk_value B p.chunk) (map_piece (filled B bytes_at)) (all_pieces tables)
    ∙ all_filled B tables.geometry.pool_chunks bytes_at (all_pieces tables) placed long

pub filled_well : (bytes_at : ℕ → List ℕ) (tables : Durable Entry) → is_well_formed tables ≡ true
    → ((p : ℕ) → is_named (all_pieces tables) p ≡ true → length (bytes_at p) ≡ chunk_bytes tables.geometry.chunk_blocks)
    → is_well_formed_array (filled_tables bytes_at tables) ≡ true
filled_well bytes_at tables well long =
    let shared = well_formed_sharing tables well in
    whole_array (filled_tables bytes_at tables)
    (ap is_well_formed_shape (filled_shape bytes_at tables) ∙ well_formed_shape tables well)
    (stamps-map (filled tables.geometry.chunk_blocks bytes_at) (λ (e : Entry). e.stamp) (λ (x : ChunkValue). x.stamp) (λ e. refl) tables ∙ table_stamps tables shared)
    (sharing_tells_bytes bytes_at tables shared)
    (filled_values bytes_at tables shared long)
