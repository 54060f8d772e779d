-- What the rules keep of contexts and of the sizes of volumes.
use Rattle.std.proofs.Common.{ℕ, ◌≡◌, ◌≤◌, ◌<◌, ◌+◌, ◌==◌, ◌&&◌, ◌^◌, Bool, true, false, cond, List, [], ◌∷◌, length, drop, get_or, Option, Some, None, is_some, refl, sym, ap, ◌∙◌, arith, add-one, drop-cons}
use Rattle.std.specs.List.{find, list_all}
use Rattle.std.specs.Prelude.{nat_le}
use Rattle.std.proofs.lemmas.Bool.{leb-true, eqb-true, ne_eqb, eq-eqb, false≢true}
use Rattle.std.proofs.lemmas.List.{get_or-map}
use Rattle.vv_units.specs.declared.numbers.EndpointId.{EndpointId}
use Rattle.vv_bind.specs.Table.{numbers}
use Rattle.vv_flat.specs.Lists.{if_found, numbers_eq}
use Rattle.vv_flat.specs.State.{Volume, Context, Durable}
use Rattle.vv_flat.specs.Chunks.{Entry, shape_of_tables}
use Rattle.vv_flat.specs.Space.{is_volume_size}
use Rattle.vv_flat.specs.Bindings.{context_of}
use Rattle.vv_flat.specs.Changes.{size_of}
use Rattle.vv_flat.specs.Rules.{limits_rule, sizes_rule, is_host, endpoint_limit}
use Rattle.vv_flat.specs.WellFormed.{is_well_formed}
use Rattle.vv_flat.proofs.Shares.{and_left, and_right}
use Rattle.vv_flat.proofs.Kept.{kept}
use Rattle.vv_laws.proofs.WellFormed.{shape_rules}

small : (cb : ℕ) (vs : List (Volume ℕ)) (n : ℕ) → list_all (λ (v : Volume ℕ). is_volume_size cb (length v.chunks)) vs ≡ true
    → length (if_found (find (λ (v : Volume ℕ). v.number == n) vs) (λ v. v.chunks) []) ≤ 2 ^ 20
small cb [] n e = omega arith
small cb (v ∷ vs) n e = go (v.number == n) (leb-true _ _ (and_right _ _ (and_left _ _ (and_left _ _ e)))) (small cb vs n (and_right _ _ e))
  where
    go : (b : Bool) → length v.chunks ≤ 1048576 → length (if_found (find (λ (w : Volume ℕ). w.number == n) vs) (λ w. w.chunks) []) ≤ 2 ^ 20
        → length (if_found (cond b (Some v) (find (λ (w : Volume ℕ). w.number == n) vs)) (λ w. w.chunks) []) ≤ 2 ^ 20
    go true here rest = omega arith
    go false here rest = rest

shape_sizes : (d : Durable ℕ) (n : ℕ) → sizes_rule d ≡ true → size_of d n ≤ 2 ^ 20
unfolding sizes_rule
shape_sizes d n e = small d.geometry.chunk_blocks d.volumes n (and_left _ _ e)

-- no volume has more chunks than a volume may have
pub size_few : (d : Durable Entry) (n : ℕ) → is_well_formed d ≡ true → size_of (shape_of_tables d) n ≤ 2 ^ 20
size_few d n well = shape_sizes (shape_of_tables d) n (kept (shape_of_tables d) (shape_rules d well)).sizes

other_hosts : (cs : List Context) (host : ℕ) → list_all (λ (c : Context). is_host c.host && nat_le (length c.endpoints) endpoint_limit) cs ≡ true
    → is_host host ≡ false → context_of cs host ≡ None
other_hosts [] host e h = refl
other_hosts (c ∷ cs) host e h = go (c.host == host) refl (and_left _ _ (and_left _ _ e)) (other_hosts cs host (and_right _ _ e) h)
  where
    go : (b : Bool) → (c.host == host) ≡ b → is_host c.host ≡ true → context_of cs host ≡ None → cond b (Some c) (context_of cs host) ≡ None
    go true t one rest =
        let same : c.host ≡ host = eqb-true c.host host t in
        absurd (false≢true (sym h ∙ ap is_host (sym same) ∙ one))
    go false t one rest = rest

shape_hosts : (d : Durable ℕ) (host : ℕ) → limits_rule d ≡ true → is_host host ≡ false → context_of d.contexts host ≡ None
unfolding limits_rule
shape_hosts d host e h = other_hosts d.contexts host (and_right _ _ (and_left _ _ e)) h

-- a number that is no host's has no context
pub no_context : (d : Durable Entry) (host : ℕ) → is_well_formed d ≡ true → is_host host ≡ false → context_of d.contexts host ≡ None
no_context d host well h = shape_hosts (shape_of_tables d) host (kept (shape_of_tables d) (shape_rules d well)).limits h

-- ---- the endpoints that were set
pub set_before : (o : Option Context) (xs : List ℕ) → is_some o ≡ true
    → numbers_eq (if_found o (λ k. k.endpoints) (1 ∷ [])) xs ≡ if_found o (λ k. numbers_eq k.endpoints xs) false
set_before None xs e = absurd (cc)
set_before (Some k) xs e = refl

pub never_set : (o : Option Context) (xs : List ℕ) → is_some o ≡ false → false ≡ if_found o (λ k. numbers_eq k.endpoints xs) false
never_set None xs e = refl
never_set (Some k) xs e = absurd (cc)

-- ---- lists of numbers, compared place by place
at_place : (xs : List ℕ) (i : ℕ) → i < length xs → drop i xs ≡ get_or xs i 0 ∷ drop (i + 1) xs
at_place xs i h = rw (add-one, drop-cons xs i 0) refl

both_at : (xs ys : List ℕ) (i : ℕ) → i < length xs → i < length ys
    → numbers_eq (drop i xs) (drop i ys) ≡ ((get_or xs i 0 == get_or ys i 0) && numbers_eq (drop (i + 1) xs) (drop (i + 1) ys))
both_at xs ys i h k =
    ap (λ l. numbers_eq l (drop i ys)) (at_place xs i h)
    ∙ ap (λ l. numbers_eq (get_or xs i 0 ∷ drop (i + 1) xs) l) (at_place ys i k)

-- two lists that are compared from a place on: equal numbers leave it to those behind, others end it
pub goes_on : (xs ys : List ℕ) (i : ℕ) → i < length xs → i < length ys → get_or xs i 0 ≡ get_or ys i 0
    → numbers_eq (drop i xs) (drop i ys) ≡ numbers_eq (drop (i + 1) xs) (drop (i + 1) ys)
goes_on xs ys i h k e =
    both_at xs ys i h k ∙ ap (λ b. b && numbers_eq (drop (i + 1) xs) (drop (i + 1) ys)) (eq-eqb (get_or xs i 0) (get_or ys i 0) e)

pub stops : (xs ys : List ℕ) (i : ℕ) → i < length xs → i < length ys → (get_or xs i 0 ≡ get_or ys i 0 → ⊥)
    → numbers_eq (drop i xs) (drop i ys) ≡ false
stops xs ys i h k e =
    both_at xs ys i h k ∙ ap (λ b. b && numbers_eq (drop (i + 1) xs) (drop (i + 1) ys)) (ne_eqb (get_or xs i 0) (get_or ys i 0) e)

pub number_at : (es : List EndpointId) (i : ℕ) (e : EndpointId) → i < length es → get_or (numbers es) i 0 ≡ (get_or es i e).0
number_at es i e h = get_or-map (λ (x : EndpointId). x.0) es i e 0 h
