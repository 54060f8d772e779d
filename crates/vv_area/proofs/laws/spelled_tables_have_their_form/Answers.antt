use Rattle.vv_area.proofs.ReadForms.{has_form, has_forms}
use Rattle.vv_area.proofs.laws.spelled_tables_have_their_form.Goals as goal

pub returns-clause-form : goal.returns-clause-form
returns-clause-form c spelling d h = has_form spelling d h

pub returns-clause-fields : goal.returns-clause-fields
returns-clause-fields c spelling d h = has_forms spelling d h
