use Rattle.std.proofs.Common.{IsSome, ◌+◌, ◌≤◌, arith, replicate, refl, sym, subst, ap, ◌∙◌, ◌≡◌}
use Rattle.std.specs.Prelude.{IsTrue}
use Rattle.vv_flat.specs.Chunks.{unmapped_entry}
use Rattle.vv_vols.specs.Shelf.{ShelfState, volume_in, size_in, shelf_entries}
use Rattle.vv_vols.specs.Calls.{with_made}
use Rattle.vv_vols.specs.Conditions.{is_new_stamp}
use Rattle.vv_vols.specs.Rows.{ShelfView, volume_with}
use Rattle.vv_vols.proofs.tests.with_volume.Goals as goal

pub returns-in-Ok-clause-standing : goal.returns-in-Ok-clause-standing
returns-in-Ok-clause-standing c =
    let v = volume_with 1 c.plain.result (replicate 4 unmapped_entry) in
    let is = c.make.ensures.shelf ∙ ap (λ (w : ShelfView). with_made w.shelf v) (c.in-Ok.ensures.ok) ∙ ap (λ (w : ShelfView). with_made w.shelf v) c.in_ok-shelf.ensures in
    subst (λ (s : ShelfState). IsSome (volume_in s 1)) (sym is) refl

pub returns-in-Ok-clause-size : goal.returns-in-Ok-clause-size
returns-in-Ok-clause-size c =
    let v = volume_with 1 c.plain.result (replicate 4 unmapped_entry) in
    let is = c.make.ensures.shelf ∙ ap (λ (w : ShelfView). with_made w.shelf v) (c.in-Ok.ensures.ok) ∙ ap (λ (w : ShelfView). with_made w.shelf v) c.in_ok-shelf.ensures in
    subst (λ (s : ShelfState). size_in s 1 ≡ 4) (sym is) refl

pub returns-in-Ok-clause-stamp : goal.returns-in-Ok-clause-stamp
returns-in-Ok-clause-stamp c =
    let v = volume_with 1 c.plain.result (replicate 4 unmapped_entry) in
    let is = c.make.ensures.shelf ∙ ap (λ (w : ShelfView). with_made w.shelf v) (c.in-Ok.ensures.ok) ∙ ap (λ (w : ShelfView). with_made w.shelf v) c.in_ok-shelf.ensures in
    subst (λ (s : ShelfState). IsTrue (is_new_stamp s 1 3)) (sym is) refl

pub returns-in-Ok-clause-few : goal.returns-in-Ok-clause-few
returns-in-Ok-clause-few c =
    let v = volume_with 1 c.plain.result (replicate 4 unmapped_entry) in
    let is = c.make.ensures.shelf ∙ ap (λ (w : ShelfView). with_made w.shelf v) (c.in-Ok.ensures.ok) ∙ ap (λ (w : ShelfView). with_made w.shelf v) c.in_ok-shelf.ensures in
    let most = c.args.geometry.map_from in
    let six : 4 + 2 ≤ c.args.geometry.map_chunks = omega arith in
    subst (λ (s : ShelfState). shelf_entries s + 2 ≤ s.geometry.map_chunks) (sym is) six
