-- For the running clones and copies of well-formed tables, added one after another: each may be added behind those before it.
use Rattle.std.proofs.Common.{ℕ, ◌≡◌, ◌+◌, ◌<◌, ◌≤◌, ◌&&◌, Bool, true, false, List, [], ◌∷◌, ◌++◌, map, length, take, drop, get_or, count_by, Option, Some, None, refl, sym, ap, subst, ◌∙◌, arith}
use Rattle.std.specs.List.{list_all}
use Rattle.std.proofs.lemmas.Bool.{eqb-true}
use Rattle.std.proofs.lemmas.List.{length-map, length-append}
use Rattle.std.proofs.lemmas.List.Folds.{list_all-map}
use Rattle.vv_flat.specs.Lists.{if_found, all_rising}
use Rattle.vv_flat.specs.State.{Task, RunningClone, Piece, RunningCopy, Durable, indexed, all_pieces, volume_of, task_of, map_clone, map_copy, map_piece}
use Rattle.vv_flat.specs.Chunks.{Entry, shape_of_tables}
use Rattle.vv_flat.specs.Fields.{are_needs, are_pairs, have_forms}
use Rattle.vv_flat.specs.Rules.{clones_rule, copies_rule, is_clone_kept, is_copy_kept}
use Rattle.vv_flat.specs.Sharing.{shares_places}
use Rattle.vv_flat.specs.Space.{entries, is_running}
use Rattle.vv_flat.specs.WellFormed.{is_well_formed}
use Rattle.vv_flat.proofs.Kept.{kept}
use Rattle.vv_flat.proofs.MapLists.{map-after}
use Rattle.vv_flat.proofs.Shares.{and_left, and_right}
use Rattle.vv_laws.proofs.WellFormed.{shape_rules}
use Rattle.vv_tables.proofs.Limits.{limits, formed, rows_run}
use Rattle.vv_tables.proofs.RestoredCallers.{clone_shares, copy_shares}
use Rattle.vv_tables.proofs.RestoredRoom.{clone_within, copy_within}
use Rattle.vv_tables.proofs.RestoredNumbers.{clone_unused}
use Rattle.vv_restore.proofs.TakenItems.{item_split, item_passes}
use Rattle.vv_restore.proofs.VolumeRowLaws.{forms_of}

abbrev stamp : Entry → ℕ
stamp e = e.stamp

-- ---- how many there are
part_few : {A : Type 0} (front : List A) (x : A) (back all : List A) (others : ℕ) → all ≡ front ++ x ∷ back → length all + others ≤ 16 → length front < 16
part_few {A} front x back all others is few =
    let same : length all ≡ length (front ++ x ∷ back) = ap (λ (ys : List A). length ys) is in
    let parts : length (front ++ x ∷ back) ≡ length front + length (x ∷ back) = length-append front (x ∷ back) in
    let one : length (x ∷ back) ≡ length back + 1 = omega arith in
    omega (arith, same, parts, one, few)

run_few : (d : Durable Entry) → is_well_formed d ≡ true → length d.clones + length d.copies ≤ 16
run_few d well =
    let most : count_by is_running d.tasks ≤ 16 = (limits d well).running in
    let all : length d.clones + length d.copies ≡ count_by is_running d.tasks = rows_run d (formed d well) in
    omega (arith, most, all)

-- ---- running clones
abbrev has_clone_forms : RunningClone Entry → Bool
has_clone_forms c = are_needs c.needs && are_pairs c.metadata

clone_forms : (d : Durable Entry) → have_forms d ≡ true → list_all has_clone_forms d.clones ≡ true
unfolding have_forms
clone_forms d forms = and_right _ _ forms

abbrev is_kept_in : Durable ℕ → RunningClone ℕ → Bool
is_kept_in d c = if_found (task_of d c.number) (is_clone_kept c) false

clones_kept_in : (d : Durable ℕ) → clones_rule d ≡ true → list_all (is_kept_in d) d.clones ≡ true
unfolding clones_rule
clones_kept_in d e = e

-- the target of a clone that its task keeps is as long as its image
as_long : (c : RunningClone Entry) (o : Option Task) → if_found o (is_clone_kept (map_clone stamp c)) false ≡ true → length c.target ≡ length c.image
as_long c None e = absurd (cc)
as_long c (Some t) e =
    let same : length (map stamp c.target) ≡ length (map stamp c.image) = eqb-true _ _ (and_right _ _ (and_left _ _ (and_left _ _ e))) in
    sym (length-map c.target stamp) ∙ same ∙ length-map c.image stamp

-- tables so far, before the running copies
abbrev pub with_clones : Durable Entry → List (RunningClone Entry) → Durable Entry
with_clones d clones = record d { clones = clones; copies = [] }

-- what a running clone has that may be added
pub record MayAddClone (r : Durable Entry) (c : RunningClone Entry) : Type 0 where
  pub pairs : are_pairs c.metadata ≡ true
  pub room : length r.clones < 16
  pub unused : volume_of r c.number ≡ None
  pub size : length c.target ≡ length c.image
  pub few : entries r + length c.image + length c.target ≤ r.geometry.map_chunks
  pub shares : shares_places r.geometry.pool_chunks (all_pieces r ++ (indexed c.image ++ indexed c.target)) ≡ true

pub may_add_clone : (d : Durable Entry) → is_well_formed d ≡ true → (cs : List (RunningClone Entry)) → cs ≡ d.clones
    → (i : ℕ) (c : RunningClone Entry) → i < length cs → c ≡ get_or cs i c → MayAddClone (with_clones d (take i cs)) c
may_add_clone d well cs same i c lt at =
    let front : List (RunningClone Entry) = take i cs in
    let back : List (RunningClone Entry) = drop (i + 1) cs in
    let is : d.clones ≡ front ++ c ∷ back = sym same ∙ item_split cs i c lt at in
    let forms : list_all has_clone_forms (front ++ c ∷ back) ≡ true =
    subst (λ (ks : List (RunningClone Entry)). list_all has_clone_forms ks ≡ true) is (clone_forms d (forms_of d well)) in
    let shape : Durable ℕ = shape_of_tables d in
    let all_kept : list_all (λ (k : RunningClone Entry). is_kept_in shape (map_clone stamp k)) d.clones ≡ true =
    sym (list_all-map (is_kept_in shape) (map_clone stamp) d.clones) ∙ clones_kept_in shape (kept shape (shape_rules d well)).clones in
    let kept_here : is_kept_in shape (map_clone stamp c) ≡ true =
    item_passes (λ (k : RunningClone Entry). is_kept_in shape (map_clone stamp k)) front c back
    (subst (λ (ks : List (RunningClone Entry)). list_all (λ (k : RunningClone Entry). is_kept_in shape (map_clone stamp k)) ks ≡ true) is all_kept) in
    record {
      pairs = and_right (are_needs c.needs) (are_pairs c.metadata) (item_passes has_clone_forms front c back forms);
      room = part_few front c back d.clones (length d.copies) is (run_few d well);
      unused = clone_unused d well front c back is;
      size = as_long c (task_of shape c.number) kept_here;
      few = clone_within d well (with_clones d front) c back refl is refl;
      shares = clone_shares d well (with_clones d front) c back refl is refl;
    }

-- ---- running copies
abbrev is_copy_kept_in : Durable ℕ → RunningCopy ℕ → Bool
is_copy_kept_in d c = if_found (task_of d c.number) (is_copy_kept d c) false

copies_kept_in : (d : Durable ℕ) → copies_rule d ≡ true → list_all (is_copy_kept_in d) d.copies ≡ true
unfolding copies_rule
copies_kept_in d e = and_left _ _ (and_left _ _ e)

abbrev indexes_of : List (Piece Entry) → List ℕ
indexes_of ps = map (λ (a : Piece Entry). a.index) ps

-- the pieces of a copy that its task keeps stand at rising indexes
pieces_rise : (d : Durable ℕ) (c : RunningCopy Entry) (o : Option Task) → if_found o (is_copy_kept d (map_copy stamp c)) false ≡ true → all_rising (indexes_of c.pieces) ≡ true
pieces_rise d c None e = absurd (cc)
pieces_rise d c (Some t) e =
    let rising : all_rising (map (λ (a : Piece ℕ). a.index) (map (map_piece stamp) c.pieces)) ≡ true = and_right _ _ (and_left _ _ e) in
    ap (λ (ns : List ℕ). all_rising ns) (sym (map-after (map_piece stamp) (λ (a : Piece ℕ). a.index) (λ (a : Piece Entry). a.index) (λ a. refl) c.pieces)) ∙ rising

-- tables so far
abbrev pub with_copies : Durable Entry → List (RunningCopy Entry) → Durable Entry
with_copies d copies = record d { copies = copies }

-- what a running copy has that may be added
pub record MayAddCopy (r : Durable Entry) (c : RunningCopy Entry) : Type 0 where
  pub room : length r.copies < 16
  pub few : entries r + length c.pieces ≤ r.geometry.map_chunks
  pub rising : all_rising (indexes_of c.pieces) ≡ true
  pub shares : shares_places r.geometry.pool_chunks (all_pieces r ++ c.pieces) ≡ true

pub may_add_copy : (d : Durable Entry) → is_well_formed d ≡ true → (cs : List (RunningCopy Entry)) → cs ≡ d.copies
    → (i : ℕ) (c : RunningCopy Entry) → i < length cs → c ≡ get_or cs i c → MayAddCopy (with_copies d (take i cs)) c
may_add_copy d well cs same i c lt at =
    let front : List (RunningCopy Entry) = take i cs in
    let back : List (RunningCopy Entry) = drop (i + 1) cs in
    let is : d.copies ≡ front ++ c ∷ back = sym same ∙ item_split cs i c lt at in
    let few : length d.clones + length d.copies ≤ 16 = run_few d well in
    let shape : Durable ℕ = shape_of_tables d in
    let all_kept : list_all (λ (k : RunningCopy Entry). is_copy_kept_in shape (map_copy stamp k)) d.copies ≡ true =
    sym (list_all-map (is_copy_kept_in shape) (map_copy stamp) d.copies) ∙ copies_kept_in shape (kept shape (shape_rules d well)).copies in
    let kept_here : is_copy_kept_in shape (map_copy stamp c) ≡ true =
    item_passes (λ (k : RunningCopy Entry). is_copy_kept_in shape (map_copy stamp k)) front c back
    (subst (λ (ks : List (RunningCopy Entry)). list_all (λ (k : RunningCopy Entry). is_copy_kept_in shape (map_copy stamp k)) ks ≡ true) is all_kept) in
    record {
      room = part_few front c back d.copies (length d.clones) is (omega (arith, few));
      few = copy_within d well (with_copies d front) c back refl refl is;
      rising = pieces_rise shape c (task_of shape c.number) kept_here;
      shares = copy_shares d well (with_copies d front) c back refl refl is;
    }
