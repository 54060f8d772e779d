-- The form and the rules that the shape decides, one by one: for the laws that accepted changes keep them.
use Rattle.std.proofs.Common.{◌≡◌, ℕ, true}
use Rattle.vv_flat.specs.State.{Durable}
use Rattle.vv_flat.specs.Form.{is_formed}
use Rattle.vv_flat.specs.Rules.{numbers_rule, names_rule, limits_rule, sizes_rule, space_rule, bindings_rule, clones_rule, copies_rule, keeps_shape_rules}
use Rattle.vv_flat.proofs.Shares.{and_left, and_right, and_both}

pub record Kept (d : Durable ℕ) : Type 0 where
  pub form : is_formed d ≡ true
  pub numbers : numbers_rule d ≡ true
  pub names : names_rule d ≡ true
  pub limits : limits_rule d ≡ true
  pub sizes : sizes_rule d ≡ true
  pub space : space_rule d ≡ true
  pub bindings : bindings_rule d ≡ true
  pub clones : clones_rule d ≡ true
  pub copies : copies_rule d ≡ true

pub kept : (d : Durable ℕ) → keeps_shape_rules d ≡ true → Kept d
unfolding keeps_shape_rules
kept d e = record {
  form = and_left _ _ (and_left _ _ (and_left _ _ (and_left _ _ (and_left _ _ (and_left _ _ (and_left _ _ (and_left _ _ e)))))));
  numbers = and_right _ _ (and_left _ _ (and_left _ _ (and_left _ _ (and_left _ _ (and_left _ _ (and_left _ _ (and_left _ _ e)))))));
  names = and_right _ _ (and_left _ _ (and_left _ _ (and_left _ _ (and_left _ _ (and_left _ _ (and_left _ _ e))))));
  limits = and_right _ _ (and_left _ _ (and_left _ _ (and_left _ _ (and_left _ _ (and_left _ _ e)))));
  sizes = and_right _ _ (and_left _ _ (and_left _ _ (and_left _ _ (and_left _ _ e))));
  space = and_right _ _ (and_left _ _ (and_left _ _ (and_left _ _ e)));
  bindings = and_right _ _ (and_left _ _ (and_left _ _ e));
  clones = and_right _ _ (and_left _ _ e);
  copies = and_right _ _ e;
}

pub keep_all : (d : Durable ℕ) → Kept d → keeps_shape_rules d ≡ true
unfolding keeps_shape_rules
keep_all d k =
    and_both _ _ (and_both _ _ (and_both _ _ (and_both _ _ (and_both _ _ (and_both _ _ (and_both _ _ (and_both _ _
    k.form k.numbers) k.names) k.limits) k.sizes) k.space) k.bindings) k.clones) k.copies
