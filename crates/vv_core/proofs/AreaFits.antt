-- The area of well-formed tables is as long as their spelling, and fits the half of an image. This serves the area of a core.
use Rattle.std.proofs.Common.{◌≡◌, ◌+◌, ◌≤◌, true, length, sym, arith}
use Rattle.vv_data.specs.Layout.{area_bytes}
use Rattle.vv_flat.specs.State.{Durable}
use Rattle.vv_flat.specs.Chunks.{Entry}
use Rattle.vv_flat.specs.WellFormed.{is_well_formed}
use Rattle.vv_flat.proofs.Shares.{and_left, and_right}
use Rattle.vv_area.specs.Spelling.{is_spellable, area_spelling}
use Rattle.vv_area.specs.Lengths.{area_length, area_limit}
use Rattle.vv_area.proofs.AreaLengths.{fits_area, length-area}

spelled_well : (d : Durable Entry) → is_well_formed d ≡ true → (is_spellable 2 d ≡ true) × (length (area_spelling 2 d) ≤ area_limit d.geometry.map_chunks)
unfolding is_well_formed
spelled_well d well = fits_area d (and_left _ _ (and_left _ _ well)) (and_right _ _ (and_left _ _ well)) (and_right _ _ well)

pub area_spelled : (d : Durable Entry) → is_well_formed d ≡ true → area_length 2 d ≡ length (area_spelling 2 d)
area_spelled d well = sym (length-area 2 d (spelled_well d well).0)

pub area_fits : (d : Durable Entry) → is_well_formed d ≡ true → 8 + area_length 2 d ≤ area_bytes d.geometry
area_fits d well = omega (arith, (spelled_well d well).1, area_spelled d well)
