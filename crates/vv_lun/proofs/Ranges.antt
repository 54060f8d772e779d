-- Whether one of some items passes a test, told item by item.
use Rattle.std.proofs.Common.{◌≡◌, ◌∙◌, ℕ, ◌+◌, ◌<◌, ◌||◌, Bool, true, false, List, length, take, get_or, ap, sym}
use Rattle.std.specs.Prelude.{slice_get}
use Rattle.std.specs.List.{list_any}
use Rattle.std.proofs.lemmas.Option.{slice_get-get_or}
use Rattle.std.proofs.lemmas.List.Folds.{list_any_at, list_any_more}
use Rattle.vv_flat.specs.Lists.{if_found}

module _ {A : Type 0} (test : A → Bool) (xs : List A) (i : ℕ) (d : A) (within : i < length xs) where
  test_at : (b : Bool) → b ≡ if_found (slice_get xs i) test false → b ≡ test (get_or xs i d)
  test_at b is = is ∙ ap (λ o. if_found o test false) (slice_get-get_or xs i d within)

  pub passes_here : (b : Bool) → b ≡ if_found (slice_get xs i) test false → b ≡ true → true ≡ list_any test xs
  passes_here b is here = sym (list_any_at test xs i d within (sym (test_at b is) ∙ here))

  pub fails_here : (b : Bool) → b ≡ if_found (slice_get xs i) test false → b ≡ false → list_any test (take i xs) ≡ false
      → list_any test (take (i + 1) xs) ≡ false
  fails_here b is not_here before =
      list_any_more test xs i d within ∙ ap (λ c. c || test (get_or xs i d)) before ∙ sym (test_at b is) ∙ not_here
