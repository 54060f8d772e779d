-- Lists whose items differ stay so with one more item that none is equal to. It serves the readers of lists.
use Rattle.std.proofs.Common.{◌≡◌, ℕ, ◌<◌, ◌≤◌, ◌&&◌, ◌||◌, Bool, true, false, not, List, [], ◌∷◌, ◌++◌, map, length, Option, Some, None, refl, ap, sym, ◌∙◌, eqb, ltb, arith, length-append}
use Rattle.std.specs.List.{list_any}
use Rattle.std.specs.Str.{bytes_eq}
use Rattle.std.proofs.lemmas.Bool.{and_parts, and_from}
use Rattle.std.proofs.lemmas.Bool.Decides.{nat_tests}
use Rattle.std.proofs.lemmas.Option.{cond_some}
use Rattle.serde_json.specs.Data.{Data}
use Rattle.vv_units.specs.declared.volume.Offer.{Offer}
use Rattle.vv_units.specs.declared.volume.Need.{Need}
use Rattle.vv_units.specs.declared.numbers.EndpointId.{EndpointId}
use Rattle.vv_calls.specs.Steps.{◌>>=◌}
use Rattle.vv_calls.specs.Forms.{endpoint_of}
use Rattle.vv_calls.specs.Lists.{named_number, next_offer, offer_behind, offers_have, next_need, need_behind, needs_have, next_endpoint, endpoint_behind, endpoints_have}
use Rattle.vv_calls.specs.Formed.{texts_differ, numbers_differ, AreOffers, AreNeeds, AreEndpoints}

or_none : (a b : Bool) → (a || b) ≡ false → (a ≡ false) × (b ≡ false)
or_none true b e = cc
or_none false b e = (refl, e)

or_from : (a b : Bool) → a ≡ false → b ≡ false → (a || b) ≡ false
or_from true b a-is b-is = cc
or_from false b a-is b-is = b-is

not_from : (a : Bool) → a ≡ false → not a ≡ true
not_from true is = cc
not_from false is = refl

not_none : (a : Bool) → not a ≡ true → a ≡ false
not_none true is = cc
not_none false is = refl

any_more : {X K : Type 0} (key : X → K) (test : K → Bool) (xs : List X) (x : X) → list_any test (map key xs) ≡ false → test (key x) ≡ false
    → list_any test (map key (xs ++ x ∷ [])) ≡ false
any_more key test [] x all last = or_from (test (key x)) false last refl
any_more key test (y ∷ ys) x all last =
    let parts = or_none (test (key y)) (list_any test (map key ys)) all in
    or_from (test (key y)) (list_any test (map key (ys ++ x ∷ []))) parts.0 (any_more key test ys x parts.1 last)

pub texts_more : {X : Type 0} (key : X → List ℕ) (xs : List X) (x : X) → texts_differ (map key xs) ≡ true
    → list_any (λ y. bytes_eq (key y) (key x)) xs ≡ false → texts_differ (map key (xs ++ x ∷ [])) ≡ true
texts_more key [] x differ other = refl
texts_more key (y ∷ ys) x differ other =
    let here = and_parts (not (list_any (bytes_eq (key y)) (map key ys))) (texts_differ (map key ys)) differ in
    let parts = or_none (bytes_eq (key y) (key x)) (list_any (λ z. bytes_eq (key z) (key x)) ys) other in
    and_from (not (list_any (bytes_eq (key y)) (map key (ys ++ x ∷ [])))) (texts_differ (map key (ys ++ x ∷ [])))
    (not_from (list_any (bytes_eq (key y)) (map key (ys ++ x ∷ []))) (any_more key (bytes_eq (key y)) ys x (not_none (list_any (bytes_eq (key y)) (map key ys)) here.0) parts.0))
    (texts_more key ys x here.1 parts.1)

eqb_other : (a b : ℕ) → eqb a b ≡ false → eqb b a ≡ false
eqb_other a b other = grind (arith, nat_tests)

pub numbers_more : {X : Type 0} (key : X → ℕ) (xs : List X) (x : X) → numbers_differ (map key xs) ≡ true
    → list_any (λ y. eqb (key y) (key x)) xs ≡ false → numbers_differ (map key (xs ++ x ∷ [])) ≡ true
numbers_more key [] x differ other = refl
numbers_more key (y ∷ ys) x differ other =
    let here = and_parts (not (list_any (λ n. eqb n (key y)) (map key ys))) (numbers_differ (map key ys)) differ in
    let parts = or_none (eqb (key y) (key x)) (list_any (λ z. eqb (key z) (key x)) ys) other in
    and_from (not (list_any (λ n. eqb n (key y)) (map key (ys ++ x ∷ [])))) (numbers_differ (map key (ys ++ x ∷ [])))
    (not_from (list_any (λ n. eqb n (key y)) (map key (ys ++ x ∷ []))) (any_more key (λ n. eqb n (key y)) ys x (not_none (list_any (λ n. eqb n (key y)) (map key ys)) here.0) (eqb_other (key y) (key x) parts.0)))
    (numbers_more key ys x here.1 parts.1)

-- what an item that was read has

offer_next : (before : List Offer) (pair : Option (List ℕ × ℕ)) (next : Offer) → (pair >>= next_offer before) ≡ Some next
    → (length before < 16) × (offers_have before next.name ≡ false)
offer_next before None next e = cc
offer_next before (Some pair) next e =
    let some = cond_some (ltb (length before) 16 && not (offers_have before pair.0)) (record { name = pair.0; value = pair.1 }) next e in
    let parts = and_parts (ltb (length before) 16) (not (offers_have before pair.0)) some.0 in
    let same : next.name ≡ pair.0 = ap (λ (o : Offer). o.name) (sym some.1) in
    (grind (arith, nat_tests), ap (offers_have before) same ∙ not_none (offers_have before pair.0) parts.1)

pub offers_more : (before : List Offer) (value : Data) (next : Offer) → AreOffers before → offer_behind before value ≡ Some next → AreOffers (before ++ next ∷ [])
offers_more before value next are e =
    let fits = offer_next before (named_number value) next e in
    record { few = omega (arith, length-append before (next ∷ [])); differ = texts_more (λ (o : Offer). o.name) before next are.differ fits.1 }

need_next : (before : List Need) (pair : Option (List ℕ × ℕ)) (next : Need) → (pair >>= next_need before) ≡ Some next
    → (length before < 8) × (needs_have before next.name ≡ false)
need_next before None next e = cc
need_next before (Some pair) next e =
    let some = cond_some (ltb (length before) 8 && not (needs_have before pair.0)) (record { name = pair.0; value = pair.1 }) next e in
    let parts = and_parts (ltb (length before) 8) (not (needs_have before pair.0)) some.0 in
    let same : next.name ≡ pair.0 = ap (λ (n : Need). n.name) (sym some.1) in
    (grind (arith, nat_tests), ap (needs_have before) same ∙ not_none (needs_have before pair.0) parts.1)

pub needs_more : (before : List Need) (value : Data) (next : Need) → AreNeeds before → need_behind before value ≡ Some next → AreNeeds (before ++ next ∷ [])
needs_more before value next are e =
    let fits = need_next before (named_number value) next e in
    record { few = omega (arith, length-append before (next ∷ [])); differ = texts_more (λ (n : Need). n.name) before next are.differ fits.1 }

endpoint_next : (before : List EndpointId) (found : Option EndpointId) (next : EndpointId) → (found >>= next_endpoint before) ≡ Some next
    → (length before < 8) × (endpoints_have before next ≡ false) × (found ≡ Some next)
endpoint_next before None next e = cc
endpoint_next before (Some endpoint) next e =
    let some = cond_some (ltb (length before) 8 && not (endpoints_have before endpoint)) endpoint next e in
    let parts = and_parts (ltb (length before) 8) (not (endpoints_have before endpoint)) some.0 in
    (grind (arith, nat_tests), ap (endpoints_have before) (sym some.1) ∙ not_none (endpoints_have before endpoint) parts.1, ap Some some.1)

none_more : (xs : List EndpointId) (x : EndpointId) → not (list_any (λ (e : EndpointId). eqb e.0 0) xs) ≡ true → 1 ≤ x.0
    → not (list_any (λ (e : EndpointId). eqb e.0 0) (xs ++ x ∷ [])) ≡ true
none_more [] x none some = grind (arith, nat_tests)
none_more (y ∷ ys) x none some =
    let parts = or_none (eqb y.0 0) (list_any (λ (e : EndpointId). eqb e.0 0) ys) (not_none (eqb y.0 0 || list_any (λ (e : EndpointId). eqb e.0 0) ys) none) in
    let more = none_more ys x (not_from (list_any (λ (e : EndpointId). eqb e.0 0) ys) parts.1) some in
    not_from (eqb y.0 0 || list_any (λ (e : EndpointId). eqb e.0 0) (ys ++ x ∷ []))
    (or_from (eqb y.0 0) (list_any (λ (e : EndpointId). eqb e.0 0) (ys ++ x ∷ [])) parts.0 (not_none (list_any (λ (e : EndpointId). eqb e.0 0) (ys ++ x ∷ [])) more))

pub endpoints_more : (before : List EndpointId) (value : Data) (next : EndpointId) → AreEndpoints before → endpoint_behind before value ≡ Some next → 1 ≤ next.0
    → AreEndpoints (before ++ next ∷ [])
endpoints_more before value next are e some =
    let fits = endpoint_next before (endpoint_of value) next e in
    record {
      few = omega (arith, length-append before (next ∷ []));
      differ = numbers_more (λ (e : EndpointId). e.0) before next are.differ fits.1;
      none_is_0 = none_more before next are.none_is_0 some;
    }
