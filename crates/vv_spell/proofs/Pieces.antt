-- A piece of an area is what a window over it has written in the end. This serves the pieces of an area.
use Rattle.std.proofs.Common.{ℕ, ◌≡◌, ◌+◌, ◌-◌, ◌^◌, ◌<◌, ◌≤◌, true, List, [], ◌++◌, length, take, drop, ap, sym, ◌∙◌, arith, append-nil}
use Rattle.std.proofs.lemmas.List.{take-append-drop}
use Rattle.vv_flat.specs.State.{Durable}
use Rattle.vv_flat.specs.Chunks.{Entry}
use Rattle.vv_flat.specs.Form.{is_formed}
use Rattle.vv_flat.specs.Rules.{meets_rules}
use Rattle.vv_flat.specs.Fields.{have_forms}
use Rattle.vv_flat.specs.WellFormed.{is_well_formed}
use Rattle.vv_flat.proofs.Shares.{and_left, and_right}
use Rattle.vv_laws.proofs.ListParts.{drop-past}
use Rattle.vv_area.specs.Spelling.{is_spellable}
use Rattle.vv_area.specs.Lengths.{area_length}
use Rattle.vv_area.specs.Pieces.{bytes_within}
use Rattle.vv_area.proofs.AreaLengths.{fits_area, length-area}
use Rattle.vv_spell.specs.declared.window.Window.{Window}
use Rattle.vv_spell.specs.Window.{WindowState, seen, behind}

forms_of : (d : Durable Entry) → is_well_formed d ≡ true → have_forms d ≡ true
unfolding is_well_formed
forms_of d well = and_right _ _ well

rules_of : (d : Durable Entry) → is_well_formed d ≡ true → meets_rules d ≡ true
unfolding is_well_formed
rules_of d well = and_right _ _ (and_left _ _ well)

form_of : (d : Durable Entry) → is_well_formed d ≡ true → is_formed d ≡ true
unfolding is_well_formed
form_of d well = and_left _ _ (and_left _ _ well)

pub spellable : (d : Durable Entry) → is_well_formed d ≡ true → is_spellable 2 d ≡ true
spellable d well = (fits_area d (form_of d well) (rules_of d well) (forms_of d well)).0

pub length_fits : (d : Durable Entry) → is_well_formed d ≡ true → d.geometry.map_chunks < 2 ^ 32 → area_length 2 d < 2 ^ 64
length_fits d well few =
    let most = (fits_area d (form_of d well) (rules_of d well) (forms_of d well)).1 in
    omega (arith, few, most, length-area 2 d (spellable d well))

whole : (w : Window) (into new text : List ℕ) (at : ℕ) → take w.written new ≡ bytes_within at (length into) text → drop w.written new ≡ [] → new ≡ bytes_within at (length into) text
whole w into new text at front rest =
    sym (take-append-drop w.written new) ∙ ap (λ zs. take w.written new ++ zs) rest ∙ append-nil (take w.written new) ∙ front

pub piece_put : (w : Window) (at : ℕ) (into new text : List ℕ) → at + length into ≤ length text
    → seen w new ≡ behind (seen (record { ahead = at; written = 0 }) into) text → new ≡ bytes_within at (length into) text
unfolding behind
piece_put w at into new text le put =
    let front : take w.written new ≡ bytes_within at (length into) text = ap (λ (s : WindowState). s.written) put in
    let left : drop w.written new ≡ drop (length text - at) into = ap (λ (s : WindowState). s.free) put in
    whole w into new text at front (left ∙ drop-past (length text - at) into (omega (arith, le)))
