use Rattle.std.proofs.Common.{◌≡◌, ◌≤◌, length, true, sym, ◌∙◌, subst}
use Rattle.std.specs.List.{list_all}
use Rattle.vv_flat.specs.Form.{bindings_rise}
use Rattle.vv_bind.specs.Table.{BindState, is_of_a_host}
use Rattle.vv_bind.proofs.TableLemmas.{rise_is}
use Rattle.vv_bind.proofs.table.BindTable.at.Goals as goal

pub returns-clause-rising : goal.returns-clause-rising
returns-clause-rising c =
    subst (λ (t : BindState). bindings_rise t.bindings ≡ true) c.self.view_is
    (sym (rise_is c.self.inside.bindings.items) ∙ c.self.invariant.bindings_rise)

pub returns-clause-few : goal.returns-clause-few
returns-clause-few c = subst (λ (t : BindState). length t.bindings ≤ 1024) c.self.view_is c.self.invariant.few

pub returns-clause-hosts : goal.returns-clause-hosts
returns-clause-hosts c = subst (λ (t : BindState). list_all is_of_a_host t.bindings ≡ true) c.self.view_is c.self.invariant.bound_hosts
