-- A shelf from which the lists of running clones and copies are dropped, the last row first.
use Rattle.std.proofs.Common.{◌≡◌, true, false, List, [], ◌∷◌, ◌++◌, length, refl, sym, ap, subst, ◌∙◌, arith}
use Rattle.std.specs.Prelude.{is_some, IsSome}
use Rattle.std.proofs.lemmas.List.{append-nil}
use Rattle.vv_vols.specs.Shelf.{HeldList, ShelfState, held_in}
use Rattle.vv_vols.specs.Calls.{without_held}
use Rattle.vv_vols.specs.Rows.{ShelfView, KeepsOwn}
use Rattle.vv_tables.specs.declared.rows.CloneRow.{CloneRow}
use Rattle.vv_tables.specs.declared.rows.CopyRow.{CopyRow}
use Rattle.vv_tables.specs.Kept.{AreHeld, IsCloneHeld, IsCopyHeld}
use Rattle.vv_tables.proofs.HeldEnds.{clone_left, copy_left, the_one, held_list, target_stays}

-- other held lists, and nothing else
pub record Emptied (first now : ShelfView) : Type 0 where
  pub shelf : now.shelf ≡ record first.shelf { held = now.shelf.held }
  pub rooms : now.rooms ≡ first.rooms
  pub kept : KeepsOwn first now

pub emptied_none : (v : ShelfView) → Emptied v v
emptied_none v = record { shelf = refl; rooms = refl; kept = λ n k own. own }

pub emptied_next : (first mid now : ShelfView) (held : List HeldList) → Emptied first mid → now.shelf ≡ record mid.shelf { held = held }
    → now.rooms ≡ mid.rooms → KeepsOwn mid now → Emptied first now
emptied_next first mid now held so_far is rooms kept = record {
  shelf = is ∙ ap (λ (x : ShelfState). record x { held = held }) so_far.shelf
      ∙ ap (λ (hs : List HeldList). record first.shelf { held = hs }) (sym (ap (λ (x : ShelfState). x.held) is));
  rooms = rooms ∙ so_far.rooms;
  kept = λ n k own. kept n k (so_far.kept n k own);
}

pub no_rows : {A : Type 0} (rows : List A) → length rows ≡ 0 → rows ≡ []
no_rows [] e = refl
no_rows (row ∷ rows) e = absurd (omega arith)

module _ (s : ShelfState) (all rest : List CloneRow) (row : CloneRow) (copies : List CopyRow) (is : all ≡ rest ++ row ∷ []) (held : AreHeld s all copies) where
  last_held : AreHeld s (rest ++ row ∷ []) copies
  last_held = subst (λ rows. AreHeld s rows copies) is held

  last_clone_held : IsCloneHeld s row
  last_clone_held = the_one (IsCloneHeld s) rest row [] last_held.images

  pub last_image : IsSome (held_in s row.image.number)
  last_image = ap is_some (held_list s row.image.number true last_clone_held.image).1

  pub last_target : IsSome (held_in (without_held s row.image.number) row.target.number)
  last_target = ap is_some (target_stays s rest row [] copies last_held) ∙ ap is_some (held_list s row.target.number false last_clone_held.target).1

  pub clone_gone : (s' : ShelfState) → s' ≡ without_held (without_held s row.image.number) row.target.number → AreHeld s' rest copies
  clone_gone s' equal =
      subst (λ (x : ShelfState). AreHeld x rest copies) (sym equal)
      (subst (λ rows. AreHeld (without_held (without_held s row.image.number) row.target.number) rows copies) (append-nil rest) (clone_left s rest row [] copies last_held))

module _ (s : ShelfState) (all rest : List CopyRow) (row : CopyRow) (is : all ≡ rest ++ row ∷ []) (held : AreHeld s [] all) where
  last_copies : AreHeld s [] (rest ++ row ∷ [])
  last_copies = subst (λ rows. AreHeld s [] rows) is held

  pub last_pieces : IsSome (held_in s row.pieces.number)
  last_pieces = ap is_some (held_list s row.pieces.number false (the_one (IsCopyHeld s) rest row [] last_copies.pieces)).1

  pub copy_gone : (s' : ShelfState) → s' ≡ without_held s row.pieces.number → AreHeld s' [] rest
  copy_gone s' equal =
      subst (λ (x : ShelfState). AreHeld x [] rest) (sym equal)
      (subst (λ rows. AreHeld (without_held s row.pieces.number) [] rows) (append-nil rest) (copy_left s [] rest row [] last_copies))
