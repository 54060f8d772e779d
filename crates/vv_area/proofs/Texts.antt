-- Names, keys and endpoints that are all different, said as the spelling says it.
use Rattle.std.proofs.Common.{◌≡◌, ℕ, suc, ◌≤◌, ◌&&◌, true, false, eqb, leb, not, List, [], ◌∷◌, map, length, refl, sym, ap, arith}
use Rattle.std.specs.List.{list_all, list_any}
use Rattle.std.specs.Str.{bytes_eq}
use Rattle.std.proofs.lemmas.Bool.{and_parts, and_from, or_from, not-true, not_from_false, eqb-false, ne_eqb, le-leb, leb-true}
use Rattle.vv_units.specs.Names.{is_name, is_key, is_note}
use Rattle.vv_units.specs.declared.volume.Offer.{Offer}
use Rattle.vv_units.specs.declared.volume.Need.{Need}
use Rattle.vv_units.specs.declared.numbers.EndpointId.{EndpointId}
use Rattle.vv_record.specs.Reading.{is_within}
use Rattle.vv_record.specs.Spelling.{are_offers, are_needs, are_endpoints, is_offer_behind, is_need_behind, is_endpoint_behind}
use Rattle.vv_record.specs.Forms.{same_text}
use Rattle.vv_flat.specs.Lists.{all_different}
use Rattle.vv_flat.specs.Fields.{is_number, texts_differ, are_offers as offers_have_forms, are_needs as needs_have_forms, are_pairs as pairs_have_forms, are_endpoints as endpoints_have_forms}
use Rattle.vv_area.specs.Spelling.{is_pair_behind, are_pairs, as_endpoints}
use Rattle.vv_area.proofs.Each.{Each, each_of, Differ, none_of_map, none_of, differ_behind, nothing_before}

within_from : (low high n : ℕ) → low ≤ n → n ≤ high → is_within low high n ≡ true
within_from low high n h k = and_from _ _ (le-leb low n h) (le-leb n high k)

texts_apart : {A : Type 0} (text : A → List ℕ) (xs : List A) → texts_differ (map text xs) ≡ true → Differ (λ x y. bytes_eq (text x) (text y)) xs
texts_apart text [] h = tt
texts_apart text (x ∷ xs) h =
    let both = and_parts (not (list_any (bytes_eq (text x)) (map text xs))) (texts_differ (map text xs)) h in
    (none_of_map text (bytes_eq (text x)) xs (not-true _ both.0), texts_apart text xs both.1)

pub offers_fine : (offers : List Offer) → length offers ≤ 16 → offers_have_forms offers ≡ true → are_offers offers ≡ true
offers_fine offers le h =
    let both = and_parts (list_all (λ (o : Offer). is_name o.name && is_number 64 o.value) offers) (texts_differ (map (λ (o : Offer). o.name) offers)) h in
    let one : (before : List Offer) (o : Offer) → (is_name o.name && is_number 64 o.value) ≡ true → list_any (λ b. same_text b.name o.name) before ≡ false → is_offer_behind before o ≡ true =
    λ before o p apart. let parts = and_parts (is_name o.name) (is_number 64 o.value) p in and_from _ _ (and_from _ _ parts.0 (not_from_false _ apart)) parts.1
    in
    and_from _ _ (within_from 0 16 (length offers) (omega arith) le)
    (differ_behind is_offer_behind (λ b o. same_text b.name o.name) (λ o. (is_name o.name && is_number 64 o.value) ≡ true) one [] offers
    (each_of (λ (o : Offer). is_name o.name && is_number 64 o.value) offers both.0) (nothing_before (λ b o. same_text b.name o.name) offers) (texts_apart (λ (o : Offer). o.name) offers both.1))

pub needs_fine : (needs : List Need) → length needs ≤ 8 → needs_have_forms needs ≡ true → are_needs needs ≡ true
needs_fine needs le h =
    let both = and_parts (list_all (λ (o : Need). is_name o.name && is_number 64 o.value) needs) (texts_differ (map (λ (o : Need). o.name) needs)) h in
    let one : (before : List Need) (o : Need) → (is_name o.name && is_number 64 o.value) ≡ true → list_any (λ b. same_text b.name o.name) before ≡ false → is_need_behind before o ≡ true =
    λ before o p apart. let parts = and_parts (is_name o.name) (is_number 64 o.value) p in and_from _ _ (and_from _ _ parts.0 (not_from_false _ apart)) parts.1
    in
    and_from _ _ (within_from 0 8 (length needs) (omega arith) le)
    (differ_behind is_need_behind (λ b o. same_text b.name o.name) (λ o. (is_name o.name && is_number 64 o.value) ≡ true) one [] needs
    (each_of (λ (o : Need). is_name o.name && is_number 64 o.value) needs both.0) (nothing_before (λ b o. same_text b.name o.name) needs) (texts_apart (λ (o : Need). o.name) needs both.1))

pub pairs_fine : (pairs : List (List ℕ × List ℕ)) → length pairs ≤ 64 → pairs_have_forms pairs ≡ true → are_pairs 2 pairs ≡ true
pairs_fine pairs le h =
    let both = and_parts (list_all (λ (p : List ℕ × List ℕ). is_key p.0 && is_note p.1) pairs) (texts_differ (map (λ (p : List ℕ × List ℕ). p.0) pairs)) h in
    let one : (before : List (List ℕ × List ℕ)) (p : List ℕ × List ℕ) → (is_key p.0 && is_note p.1) ≡ true → list_any (λ b. same_text b.0 p.0) before ≡ false → is_pair_behind before p ≡ true =
    λ before p good apart. let parts = and_parts (is_key p.0) (is_note p.1) good in and_from _ _ (and_from _ _ parts.0 (not_from_false _ apart)) parts.1
    in
    and_from _ _ (within_from 0 64 (length pairs) (omega arith) le)
    (differ_behind is_pair_behind (λ b p. same_text b.0 p.0) (λ p. (is_key p.0 && is_note p.1) ≡ true) one [] pairs
    (each_of (λ (p : List ℕ × List ℕ). is_key p.0 && is_note p.1) pairs both.0) (nothing_before (λ b p. same_text b.0 p.0) pairs) (texts_apart (λ (p : List ℕ × List ℕ). p.0) pairs both.1))

-- ---- endpoints

other_way : (m n : ℕ) → eqb m n ≡ false → eqb n m ≡ false
other_way m n h = ne_eqb n m (λ e. eqb-false m n h (sym e))

apart_from : (n : ℕ) (ns : List ℕ) → Each (λ m. eqb m n ≡ false) ns → Each (λ (e : EndpointId). eqb n e.0 ≡ false) (as_endpoints ns)
apart_from n [] h = tt
apart_from n (m ∷ ns) h = (other_way m n h.0, apart_from n ns h.1)

numbers_apart : (ns : List ℕ) → all_different ns ≡ true → Differ (λ (b e : EndpointId). eqb b.0 e.0) (as_endpoints ns)
numbers_apart [] h = tt
numbers_apart (n ∷ ns) h =
    let both = and_parts (not (list_any (λ m. eqb m n) ns)) (all_different ns) h in
    (apart_from n ns (none_of (λ m. eqb m n) ns (not-true _ both.0)), numbers_apart ns both.1)

length_as : (ns : List ℕ) → length (as_endpoints ns) ≡ length ns
length_as [] = refl
length_as (n ∷ ns) = ap (λ k. suc k) (length_as ns)

good_endpoints : (ns : List ℕ) → list_all (λ e. is_number 16 e && leb 1 e) ns ≡ true → Each (λ (e : EndpointId). (is_number 16 e.0 && leb 1 e.0) ≡ true) (as_endpoints ns)
good_endpoints [] h = tt
good_endpoints (n ∷ ns) h = let both = and_parts (is_number 16 n && leb 1 n) (list_all (λ e. is_number 16 e && leb 1 e) ns) h in (both.0, good_endpoints ns both.1)

not_zero : (n : ℕ) → leb 1 n ≡ true → eqb n 0 ≡ false
not_zero n h = let le = leb-true 1 n h in ne_eqb n 0 (λ e. absurd (omega arith))

pub endpoints_fine : (ns : List ℕ) → length ns ≤ 8 → endpoints_have_forms ns ≡ true → are_endpoints (as_endpoints ns) ≡ true
endpoints_fine ns le h =
    let both = and_parts (list_all (λ e. is_number 16 e && leb 1 e) ns) (all_different ns) h in
    let one : (before : List EndpointId) (e : EndpointId) → (is_number 16 e.0 && leb 1 e.0) ≡ true → list_any (λ b. eqb b.0 e.0) before ≡ false → is_endpoint_behind before e ≡ true =
    λ before e good apart. let parts = and_parts (is_number 16 e.0) (leb 1 e.0) good in and_from _ _ (not_from_false _ (or_from _ _ (not_zero e.0 parts.1) apart)) parts.0
    in
    and_from _ _ (within_from 0 8 (length (as_endpoints ns)) (omega arith) (omega (arith, length_as ns)))
    (differ_behind is_endpoint_behind (λ b e. eqb b.0 e.0) (λ e. (is_number 16 e.0 && leb 1 e.0) ≡ true) one [] (as_endpoints ns)
    (good_endpoints ns both.0) (nothing_before (λ (b e : EndpointId). eqb b.0 e.0) (as_endpoints ns)) (numbers_apart ns both.1))
