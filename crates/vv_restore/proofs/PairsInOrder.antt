-- For pairs that are set one after another in a list of pairs: where their keys are all different, each goes last.
use Rattle.std.proofs.Common.{ℕ, ◌≡◌, ◌+◌, ◌<◌, ◌&&◌, not, Bool, true, false, cond, List, [], ◌∷◌, ◌++◌, map, length, take, drop, get_or, refl, sym, ap, subst, ◌∙◌}
use Rattle.std.specs.List.{list_any, list_all}
use Rattle.std.specs.Str.{bytes_eq}
use Rattle.std.proofs.lemmas.Bool.{or_parts, not-true}
use Rattle.std.proofs.lemmas.Slice.Eq.{bytes_eq-Decides}
use Rattle.vv_units.specs.Names.{is_key, is_note}
use Rattle.vv_units.specs.Pairs.{same_key, with_pair}
use Rattle.vv_flat.specs.Fields.{texts_differ, are_pairs}
use Rattle.vv_flat.proofs.Shares.{and_left, and_right}
use Rattle.vv_restore.proofs.TakenItems.{item_split, item_next}

abbrev Pair : Type 0
Pair = List ℕ × List ℕ

abbrev keys_of : List Pair → List (List ℕ)
keys_of ps = map (λ (p : Pair). p.0) ps

keys_apart : (a b : List ℕ) → bytes_eq a b ≡ false → same_key b a ≡ false
keys_apart a b e = go (same_key b a) refl
  where
    go : (t : Bool) → same_key b a ≡ t → same_key b a ≡ false
    go false h = h
    go true h =
        let same : b ≡ a = (bytes_eq-Decides b a).0 h in
        let wrong : bytes_eq a b ≡ true = (bytes_eq-Decides a b).1 (sym same) in
        absurd (cc)

none_at : (t : List ℕ → Bool) (front : List Pair) (p : Pair) (back : List Pair) → list_any t (keys_of (front ++ p ∷ back)) ≡ false → t p.0 ≡ false
none_at t [] p back e = (or_parts (t p.0) (list_any t (keys_of back)) e).0
none_at t (q ∷ front) p back e = none_at t front p back (or_parts (t q.0) (list_any t (keys_of (front ++ p ∷ back))) e).1

pair_goes_last : (front : List Pair) (p : Pair) (back : List Pair) → texts_differ (keys_of (front ++ p ∷ back)) ≡ true → with_pair front p.0 p.1 ≡ front ++ p ∷ []
pair_goes_last [] p back differ = refl
pair_goes_last (q ∷ front) p back differ =
    let none : list_any (bytes_eq q.0) (keys_of (front ++ p ∷ back)) ≡ false =
    not-true (list_any (bytes_eq q.0) (keys_of (front ++ p ∷ back))) (and_left _ (texts_differ (keys_of (front ++ p ∷ back))) differ) in
    let rest : texts_differ (keys_of (front ++ p ∷ back)) ≡ true = and_right (not (list_any (bytes_eq q.0) (keys_of (front ++ p ∷ back)))) _ differ in
    ap (λ b. cond b ((q.0, p.1) ∷ front) (q ∷ with_pair front p.0 p.1)) (keys_apart q.0 p.0 (none_at (bytes_eq q.0) front p back none))
    ∙ ap (λ (ps : List Pair). q ∷ ps) (pair_goes_last front p back rest)

keys_differ : (ps : List Pair) → are_pairs ps ≡ true → texts_differ (keys_of ps) ≡ true
keys_differ ps e = and_right (list_all (λ (p : Pair). is_key p.0 && is_note p.1) ps) (texts_differ (keys_of ps)) e

pub next_pair : (ps : List Pair) (i : ℕ) (p : Pair) → i < length ps → p ≡ get_or ps i p → are_pairs ps ≡ true → with_pair (take i ps) p.0 p.1 ≡ take (i + 1) ps
next_pair ps i p lt at forms =
    pair_goes_last (take i ps) p (drop (i + 1) ps)
    (subst (λ (qs : List Pair). texts_differ (keys_of qs) ≡ true) (item_split ps i p lt at) (keys_differ ps forms))
    ∙ item_next ps i p lt at
