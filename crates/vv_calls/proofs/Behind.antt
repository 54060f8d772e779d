-- Items read one behind the other, as the loops over lists do.
use Rattle.std.proofs.Common.{◌≡◌, List, [], ◌∷◌, ◌++◌, length, Option, Some, None, refl, ap, sym, ◌∙◌}
use Rattle.serde_json.specs.Data.{Data, Items, no_items, item}
use Rattle.serde_json.specs.declared.value.Value.{Value}
use Rattle.serde_json.specs.View.{items_view}
use Rattle.vv_calls.specs.Steps.{◌>>=◌}
use Rattle.vv_calls.specs.Lists.{each_behind, text_and_number_in}

-- one more item was read
pub behind_goes_on : {A : Type 0} (form : List A → Data → Option A) (before : List A) (value : Data) (values : Items) (next : A) (total : Option (List A))
    → form before value ≡ Some next → each_behind form before (item value values) ≡ total → each_behind form (before ++ next ∷ []) values ≡ total
unfolding each_behind
behind_goes_on form before value values next total e so_far =
    sym (ap (λ read. read >>= λ next. each_behind form (before ++ next ∷ []) values) e) ∙ so_far

-- one was not
pub behind_fails : {A : Type 0} (form : List A → Data → Option A) (before : List A) (value : Data) (values : Items) (total : Option (List A))
    → form before value ≡ None → each_behind form before (item value values) ≡ total → None ≡ total
unfolding each_behind
behind_fails form before value values total e so_far =
    sym (ap (λ read. read >>= λ next. each_behind form (before ++ next ∷ []) values) e) ∙ so_far

-- all were read
pub behind_done : {A : Type 0} (form : List A → Data → Option A) (before : List A) (values : Items) (total : Option (List A))
    → values ≡ no_items → each_behind form before values ≡ total → Some before ≡ total
unfolding each_behind
behind_done form before values total none so_far = rw none at so_far

-- a list of another length than two
pub no_named_number : (values : List Value) → (length values ≡ 2 → ⊥) → text_and_number_in (items_view values) ≡ None
no_named_number [] other = refl
no_named_number (x ∷ []) other = refl
no_named_number (x ∷ y ∷ []) other = absurd (other refl)
no_named_number (x ∷ y ∷ z ∷ rest) other = refl
