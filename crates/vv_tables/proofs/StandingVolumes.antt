-- What a change that names a volume has passed: the volume stands, and so does its container, of which the tables keep the
-- charge.
use Rattle.std.proofs.Common.{ℕ, ◌≡◌, ◌==◌, true, false, List, map, Option, Some, None, option_map, refl, sym, ap, ◌∙◌}
use Rattle.std.specs.Prelude.{IsSome, is_none, is_some}
use Rattle.std.specs.List.{list_all}
use Rattle.vv_units.specs.declared.field.Field.{Field}
use Rattle.vv_flat.specs.Lists.{if_found, all_rising}
use Rattle.vv_flat.specs.State.{Container, Volume, Durable, volume_of, container_of}
use Rattle.vv_flat.specs.Chunks.{Entry, shape_of_tables}
use Rattle.vv_flat.specs.Form.{is_formed}
use Rattle.vv_flat.specs.Rules.{names_rule}
use Rattle.vv_flat.specs.Refusals.{NotFound, missing_volume}
use Rattle.vv_flat.specs.Changes.{home_of}
use Rattle.vv_flat.specs.WellFormed.{is_well_formed}
use Rattle.vv_flat.proofs.Shares.{and_left, and_right, list_all-follows}
use Rattle.vv_flat.proofs.MapLists.{map-after}
use Rattle.vv_flat.proofs.Known.{all-found}
use Rattle.vv_flat.proofs.Kept.{kept}
use Rattle.vv_flat.proofs.Verdicts.{not_refused}
use Rattle.vv_laws.proofs.WellFormed.{shape_rules}
use Rattle.vv_container.specs.Table.{ChargedContainer, numbers}
use Rattle.vv_tables.specs.Seen.{plain_containers}
use Rattle.vv_tables.proofs.Limits.{formed}
use Rattle.vv_tables.proofs.ShapeVolumes.{shape_found, shaped}

-- a volume that isn't missed stands
pub not_missing : (d : Durable Entry) (n : ℕ) (name : Field) → missing_volume (shape_of_tables d) n name ≡ None → IsSome (volume_of d n)
not_missing d n name e = go (volume_of d n) (sym (ap is_none (shape_found d n)) ∙ not_refused (is_none (volume_of (shape_of_tables d) n)) (NotFound name) e)
  where
    go : (o : Option (Volume Entry)) → is_none (option_map shaped o) ≡ false → IsSome o
    go None e = absurd (cc)
    go (Some v) e = refl

-- its container stands
pub home_stands : (d : Durable Entry) (n : ℕ) → is_well_formed d ≡ true → IsSome (volume_of d n) → IsSome (container_of d (home_of (shape_of_tables d) n))
unfolding names_rule
home_stands d n well some = go (volume_of d n) (shape_found d n) some
  where
    homes : list_all (λ (v : Volume ℕ). is_some (container_of d v.container)) (shape_of_tables d).volumes ≡ true
    homes =
        list_all-follows _ (λ (v : Volume ℕ). is_some (container_of d v.container)) (λ v e. and_left (is_some (container_of d v.container)) _ e) (shape_of_tables d).volumes
        (and_left _ _ (and_left _ _ (and_left _ _ (kept (shape_of_tables d) (shape_rules d well)).names)))

    met : (o : Option Container) → is_some o ≡ true → IsSome o
    met None e = absurd (cc)
    met (Some k) e = refl

    go : (o : Option (Volume Entry)) → volume_of (shape_of_tables d) n ≡ option_map shaped o → IsSome o
        → IsSome (container_of d (home_of (shape_of_tables d) n))
    go None e some = absurd (cc)
    go (Some v) e some =
        let home : home_of (shape_of_tables d) n ≡ v.container = ap (λ (o : Option (Volume ℕ)). if_found o (λ (w : Volume ℕ). w.container) 0) e in
        rw home (met (container_of d v.container)
        (all-found (λ (w : Volume ℕ). is_some (container_of d w.container)) (λ (w : Volume ℕ). w.number == n) (shaped v) (shape_of_tables d).volumes homes e))

-- the rows of containers stand in rising order
pub rows_rise : (d : Durable Entry) (rows : List ChargedContainer) → d.containers ≡ plain_containers rows → is_well_formed d ≡ true → all_rising (numbers rows) ≡ true
unfolding is_formed
rows_rise d rows seen well =
    ap all_rising (sym (map-after (λ (r : ChargedContainer). r.container) (λ (k : Container). k.number) (λ (r : ChargedContainer). r.container.number) (λ r. refl) rows) ∙ sym (ap (map (λ (k : Container). k.number)) seen))
    ∙ and_right _ _ (and_left _ _ (and_left _ _ (and_left _ _ (and_left _ _ (and_left _ _ (and_left _ _ (formed d well)))))))
