-- How tables are seen where their shelf changes, the rows of running clones and copies staying or one being added.
use Rattle.std.proofs.Common.{ℕ, ◌≡◌, ◌<◌, Bool, true, false, cond, List, [], ◌∷◌, ◌++◌, map, refl, ap, ◌∙◌, arith}
use Rattle.std.specs.Prelude.{nat_lt}
use Rattle.std.specs.List.{flat_map, list_all, All}
use Rattle.std.proofs.lemmas.Bool.{ltb-true}
use Rattle.std.proofs.lemmas.List.{map-append}
use Rattle.vv_flat.specs.Lists.{put_before}
use Rattle.vv_flat.specs.State.{Volume, Task, RunningClone, RunningCopy}
use Rattle.vv_flat.specs.Chunks.{Entry}
use Rattle.vv_flat.proofs.Shares.{and_left, and_right}
use Rattle.vv_container.specs.Table.{ChargedContainer}
use Rattle.vv_bind.specs.Table.{BindState}
use Rattle.vv_vols.specs.Shelf.{ShelfState}
use Rattle.vv_tables.specs.declared.rows.CloneRow.{CloneRow}
use Rattle.vv_tables.specs.declared.rows.CopyRow.{CopyRow}
use Rattle.vv_tables.specs.Seen.{seen_clone, seen_copy, seen_durable}
use Rattle.vv_tables.specs.Kept.{clone_lists, lists_of}
use Rattle.vv_tables.proofs.HeldChanges.{IsSameHeld, clones_seen, copies_seen}
use Rattle.vv_tables.proofs.HeldKept.{pieces_of, front_part, back_part}

-- an item above all others comes last
pub put_last : {A : Type 0} (key : A → ℕ) (x : A) (xs : List A) → list_all (λ y. nat_lt (key y) (key x)) xs ≡ true
    → put_before (λ y. nat_lt (key x) (key y)) x xs ≡ xs ++ x ∷ []
put_last key x [] above = refl
put_last key x (y ∷ ys) above =
    ap (λ b. cond b (x ∷ y ∷ ys) (y ∷ put_before (λ z. nat_lt (key x) (key z)) x ys))
    (below (nat_lt (key x) (key y)) refl (and_left (nat_lt (key y) (key x)) (list_all (λ z. nat_lt (key z) (key x)) ys) above))
    ∙ ap (λ zs. y ∷ zs) (put_last key x ys (and_right (nat_lt (key y) (key x)) (list_all (λ z. nat_lt (key z) (key x)) ys) above))
  where
    below : (b : Bool) → nat_lt (key x) (key y) ≡ b → nat_lt (key y) (key x) ≡ true → nat_lt (key x) (key y) ≡ false
    below true is lt = let p : key x < key y = ltb-true (key x) (key y) is in let q : key y < key x = ltb-true (key y) (key x) lt in absurd (omega arith)
    below false is lt = is

module _ (lsn : ℕ) (s : ShelfState) (containers : List ChargedContainer) (bindings : BindState) (tasks : List Task) (clones : List CloneRow) (copies : List CopyRow) where
  -- other volumes; other fresh or reserved places
  pub volumes_seen : (volumes : List (Volume Entry)) → seen_durable lsn (record s { volumes = volumes }) containers bindings tasks clones copies
      ≡ record (seen_durable lsn s containers bindings tasks clones copies) { volumes = volumes }
  volumes_seen volumes = refl

  pub places_seen : (fresh : List ℕ) (reserved : ℕ) → seen_durable lsn (record s { fresh = fresh; reserved = reserved }) containers bindings tasks clones copies
      ≡ seen_durable lsn s containers bindings tasks clones copies
  places_seen fresh reserved = refl

  module _ (s' : ShelfState) (same : All (IsSameHeld s s') (lists_of clones copies)) where
    clones_same : map (seen_clone s') clones ≡ map (seen_clone s) clones
    clones_same = clones_seen s s' clones (front_part (IsSameHeld s s') (flat_map clone_lists clones) (pieces_of copies) same)

    copies_same : map (seen_copy s') copies ≡ map (seen_copy s) copies
    copies_same = copies_seen s s' copies (back_part (IsSameHeld s s') (flat_map clone_lists clones) (pieces_of copies) same)

    -- all lists that rows hold stay
    pub held_seen : seen_durable lsn s' containers bindings tasks clones copies
        ≡ record (seen_durable lsn s containers bindings tasks clones copies) { geometry = s'.geometry; volumes = s'.volumes }
    held_seen =
        ap (λ (cs : List (RunningClone Entry)). record (seen_durable lsn s' containers bindings tasks clones copies) { clones = cs }) clones_same
        ∙ ap (λ (cs : List (RunningCopy Entry)). record (seen_durable lsn s containers bindings tasks clones copies) { geometry = s'.geometry; volumes = s'.volumes; copies = cs }) copies_same

    -- a clone more, and a copy more
    pub clone_seen_last : (row : CloneRow) → seen_durable lsn s' containers bindings tasks (clones ++ row ∷ []) copies
        ≡ record (seen_durable lsn s containers bindings tasks clones copies) { geometry = s'.geometry; volumes = s'.volumes; clones = map (seen_clone s) clones ++ seen_clone s' row ∷ [] }
    clone_seen_last row =
        ap (λ (cs : List (RunningClone Entry)). record (seen_durable lsn s' containers bindings tasks clones copies) { clones = cs })
        (map-append (seen_clone s') clones (row ∷ []) ∙ ap (λ (cs : List (RunningClone Entry)). cs ++ seen_clone s' row ∷ []) clones_same)
        ∙ ap (λ (cs : List (RunningCopy Entry)). record (seen_durable lsn s containers bindings tasks clones copies)
        { geometry = s'.geometry; volumes = s'.volumes; clones = map (seen_clone s) clones ++ seen_clone s' row ∷ []; copies = cs }) copies_same

    pub copy_seen_last : (row : CopyRow) → seen_durable lsn s' containers bindings tasks clones (copies ++ row ∷ [])
        ≡ record (seen_durable lsn s containers bindings tasks clones copies) { geometry = s'.geometry; volumes = s'.volumes; copies = map (seen_copy s) copies ++ seen_copy s' row ∷ [] }
    copy_seen_last row =
        ap (λ (cs : List (RunningClone Entry)). record (seen_durable lsn s' containers bindings tasks clones (copies ++ row ∷ [])) { clones = cs }) clones_same
        ∙ ap (λ (cs : List (RunningCopy Entry)). record (seen_durable lsn s containers bindings tasks clones copies) { geometry = s'.geometry; volumes = s'.volumes; copies = cs })
        (map-append (seen_copy s') copies (row ∷ []) ∙ ap (λ (cs : List (RunningCopy Entry)). cs ++ seen_copy s' row ∷ []) copies_same)
