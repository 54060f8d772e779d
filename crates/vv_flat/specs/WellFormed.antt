-- What tables and their shape keep, in one word each. This is this project's own.
use Rattle.std.specs.Prelude.{ℕ, ◌&&◌, Bool}
use Rattle.vv_flat.specs.State.{Durable}
use Rattle.vv_flat.specs.Chunks.{Entry}
use Rattle.vv_flat.specs.Form.{is_formed}
use Rattle.vv_flat.specs.Rules.{keeps_shape_rules, meets_rules}
use Rattle.vv_flat.specs.Fields.{have_forms}

-- Tables that have their form, meet all nine rules, and whose fields have their forms.
unfoldable pub is_well_formed : Durable Entry → Bool
is_well_formed tables = is_formed tables && meets_rules tables && have_forms tables

-- What the shape decides of that: all but the sixth rule.
unfoldable pub is_well_formed_shape : Durable ℕ → Bool
is_well_formed_shape d = keeps_shape_rules d && have_forms d
