-- A page of a volume as callers see it.
use Rattle.std.proofs.Common.{ℕ, ◌≡◌, ◌*◌, ◌<◌, List, map, take, drop, length, Some, get_or, sym, ap, ◌∙◌, arith}
use Rattle.std.specs.List.{position}
use Rattle.std.proofs.lemmas.List.{take-map, drop-map, get_or_read}
use Rattle.std.specs.Prelude.{unwrap_or}
use Rattle.vv_flat.proofs.Positions.{position_some}
use Rattle.vv_units.specs.declared.geometry.Geometry.{Geometry}
use Rattle.vv_map.specs.Pages.{list_of}
use Rattle.vv_entries.specs.declared.entry.Entry.{Entry as PlacedEntry}
use Rattle.vv_entries.specs.Entries.{EntriesState}
use Rattle.vv_vols.specs.declared.row.VolumeRow.{VolumeRow}
use Rattle.vv_vols.specs.declared.row.HeldRow.{HeldRow}
use Rattle.vv_vols.specs.Pages.{page_in}
use Rattle.vv_vols.specs.Rows.{is_row, seen_entry, seen_shelf, IsShelf}
use Rattle.vv_vols.proofs.ReadRow.{here_chunks}

-- one number is that of one row
pub same_row : (volumes : List VolumeRow) (n m i j : ℕ) (row other : VolumeRow) → n ≡ m → position (is_row n) volumes ≡ Some i → position (is_row m) volumes ≡ Some j → row ≡ get_or volumes i row → other ≡ get_or volumes j other → row ≡ other
same_row volumes n m i j row other same at other_at here there =
    let found = position_some (is_row n) volumes i at in
    let size = found.0 in
    let within : i < length volumes = omega (arith, found.1) in
    let place : i ≡ j = ap (λ o. unwrap_or o 0) (sym at ∙ ap (λ k. position (is_row k) volumes) same ∙ other_at) in
    get_or_read volumes i row within here other ∙ ap (λ k. get_or volumes k other) place ∙ sym there

cut_seen : (n : ℕ) (es : List PlacedEntry) → take 64 (drop n (map seen_entry es)) ≡ map seen_entry (take 64 (drop n es))
cut_seen n es = ap (take 64) (drop-map seen_entry n es) ∙ take-map seen_entry 64 (drop n es)

module _ (geometry : Geometry) (entries : EntriesState) (volumes : List VolumeRow) (held : List HeldRow) (total rooms volume_memory held_memory i n : ℕ) (row : VolumeRow)
    (at : position (is_row n) volumes ≡ Some i) (here : row ≡ get_or volumes i row) (kept : IsShelf geometry entries volumes held total rooms volume_memory held_memory) where
  pub page_seen : (k : ℕ) → page_in (seen_shelf geometry entries volumes held) n k ≡ map seen_entry (take 64 (drop (64 * k) (list_of entries.store row.map)))
  page_seen k =
      ap (λ es. take 64 (drop (64 * k) es)) (here_chunks geometry entries volumes held total rooms volume_memory held_memory i n row at here kept)
      ∙ cut_seen (64 * k) (list_of entries.store row.map)
