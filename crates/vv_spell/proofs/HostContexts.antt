-- The contexts of tables are those of the hosts from 1 to 64, host after host. This serves the contexts.
use Rattle.std.proofs.Common.{ℕ, ◌≡◌, ◌+◌, ◌<◌, ◌≤◌, ◌&&◌, Bool, true, false, cond, List, [], ◌∷◌, ◌++◌, map, length, refl, ap, sym, ◌∙◌, arith, append-nil, inl, inr}
use Rattle.std.specs.Prelude.{sum_by, Option, Some, None, nat_lt, nat_le}
use Rattle.std.specs.List.{flat_map, list_all}
use Rattle.std.proofs.lemmas.List.Sums.{sum_by-cons, sum_by-append}
use Rattle.std.proofs.lemmas.Bool.{cases_lt, ltb-true, lt-ltb, le-ltb, leb-true, eq-eqb, ne_eqb}
use Rattle.vv_units.specs.declared.numbers.EndpointId.{EndpointId}
use Rattle.vv_flat.specs.Lists.{all_above, all_rising, if_found}
use Rattle.vv_flat.specs.State.{Context, Durable}
use Rattle.vv_flat.specs.Chunks.{Entry, shape_of_tables}
use Rattle.vv_flat.specs.Bindings.{context_of}
use Rattle.vv_flat.specs.WellFormed.{is_well_formed}
use Rattle.vv_flat.specs.Form.{is_formed}
use Rattle.vv_flat.specs.Rules.{limits_rule, is_host, endpoint_limit}
use Rattle.vv_flat.proofs.Kept.{kept}
use Rattle.vv_laws.proofs.WellFormed.{shape_rules}
use Rattle.vv_tables.proofs.Limits.{formed}
use Rattle.vv_flat.proofs.Shares.{and_left, and_right}
use Rattle.vv_bind.specs.Table.{numbers}
use Rattle.vv_area.specs.Spelling.{as_endpoints, context_spelling}
use Rattle.vv_area.specs.Lengths.{context_length}
use Rattle.vv_area.proofs.AreaLengths.{length-context}
use Rattle.vv_spell.specs.Hosts.{contexts_below, found_in}

pub as_they_are : (es : List EndpointId) → as_endpoints (numbers es) ≡ es
as_they_are [] = refl
as_they_are (e ∷ es) = ap (λ zs. e ∷ zs) (as_they_are es)

pub length-found : (o : Option Context) → length (flat_map context_spelling (found_in o)) ≡ if_found o context_length 0
length-found None = refl
length-found (Some c) = ap length (append-nil (context_spelling c)) ∙ length-context c

pub few_found : (o : Option Context) → length (found_in o) ≤ 1
few_found None = omega arith
few_found (Some c) = omega arith

abbrev host_of : Context → ℕ
host_of c = c.host

-- where all hosts are above a number
none_below : (cs : List Context) (n m : ℕ) → all_above n (map host_of cs) ≡ true → m ≤ n + 1 → contexts_below m cs ≡ []
none_below [] n m above le = refl
none_below (c ∷ cs) n m above le =
    let here : n < c.host = ltb-true n c.host (and_left _ _ above) in
    let not : nat_lt c.host m ≡ false = le-ltb c.host m (omega (arith, here, le)) in
    ap (λ b. cond b (c ∷ contexts_below m cs) (contexts_below m cs)) not ∙ none_below cs c.host m (and_right _ _ above) (omega (arith, here, le))

none_found : (cs : List Context) (n h : ℕ) → all_above n (map host_of cs) ≡ true → h ≤ n → context_of cs h ≡ None
none_found [] n h above le = refl
none_found (c ∷ cs) n h above le =
    let here : n < c.host = ltb-true n c.host (and_left _ _ above) in
    ap (λ b. cond b (Some c) (context_of cs h)) (ne_eqb c.host h (λ e. absurd (omega (arith, here, le, e)))) ∙ none_found cs c.host h (and_right _ _ above) (omega (arith, here, le))

rising_tail : (cs : List Context) (n : ℕ) → all_above n (map host_of cs) ≡ true → all_rising (map host_of cs) ≡ true
rising_tail [] n above = refl
rising_tail (c ∷ cs) n above = and_right _ _ above

step : (c : Context) (cs : List Context) (h : ℕ) (p q : Bool) → nat_lt c.host (h + 1) ≡ p → nat_lt c.host h ≡ q → (o : Option Context) → context_of (c ∷ cs) h ≡ o
    → (xs ys : List Context) → contexts_below (h + 1) cs ≡ xs → contexts_below h cs ≡ ys
    → cond p (c ∷ xs) xs ≡ cond q (c ∷ ys) ys ++ found_in o
    → contexts_below (h + 1) (c ∷ cs) ≡ contexts_below h (c ∷ cs) ++ found_in (context_of (c ∷ cs) h)
step c cs h p q e f o found xs ys more less goes =
    ap (λ b. cond b (c ∷ contexts_below (h + 1) cs) (contexts_below (h + 1) cs)) e ∙ ap (λ zs. cond p (c ∷ zs) zs) more ∙ goes
    ∙ sym (ap (λ b. cond b (c ∷ contexts_below h cs) (contexts_below h cs) ++ found_in (context_of (c ∷ cs) h)) f
    ∙ ap (λ zs. cond q (c ∷ zs) zs ++ found_in (context_of (c ∷ cs) h)) less ∙ ap (λ z. cond q (c ∷ ys) ys ++ found_in z) found)

-- one host more
pub below_more : (cs : List Context) (h : ℕ) → all_rising (map host_of cs) ≡ true → contexts_below (h + 1) cs ≡ contexts_below h cs ++ found_in (context_of cs h)
below_more [] h rising = refl
below_more (c ∷ cs) h rising = elim (cases_lt c.host h) [
  | inl lower ↦
      let p : nat_lt c.host (h + 1) ≡ true = lt-ltb c.host (h + 1) (omega (arith, lower)) in
      let q : nat_lt c.host h ≡ true = lt-ltb c.host h lower in
      let found : context_of (c ∷ cs) h ≡ context_of cs h = ap (λ b. cond b (Some c) (context_of cs h)) (ne_eqb c.host h (λ e. absurd (omega (arith, lower, e)))) in
      step c cs h true true p q (context_of cs h) found (contexts_below (h + 1) cs) (contexts_below h cs) refl refl (ap (λ zs. c ∷ zs) (below_more cs h (rising_tail cs c.host rising)))
  | inr least ↦
      let q : nat_lt c.host h ≡ false = le-ltb c.host h least in
      let none : contexts_below h cs ≡ [] = none_below cs c.host h rising (omega (arith, least)) in
      elim (cases_lt h c.host) [
        | inl higher ↦
            let p : nat_lt c.host (h + 1) ≡ false = le-ltb c.host (h + 1) (omega (arith, higher)) in
            let found : context_of (c ∷ cs) h ≡ None = ap (λ b. cond b (Some c) (context_of cs h)) (ne_eqb c.host h (λ e. absurd (omega (arith, higher, e)))) ∙ none_found cs c.host h rising least in
            step c cs h false false p q None found [] [] (none_below cs c.host (h + 1) rising (omega (arith, higher))) none refl
        | inr most ↦
            let same : c.host ≡ h = omega (arith, least, most) in
            let p : nat_lt c.host (h + 1) ≡ true = lt-ltb c.host (h + 1) (omega (arith, same)) in
            let found : context_of (c ∷ cs) h ≡ Some c = ap (λ b. cond b (Some c) (context_of cs h)) (eq-eqb c.host h same) in
            step c cs h true false p q (Some c) found [] [] (none_below cs c.host (h + 1) rising (omega (arith, same))) none refl
      ]
]

first_below : (cs : List Context) → list_all (λ (c : Context). is_host c.host && nat_le (length c.endpoints) endpoint_limit) cs ≡ true → contexts_below 1 cs ≡ []
first_below [] all = refl
first_below (c ∷ cs) all =
    let one : 1 ≤ c.host = leb-true 1 c.host (and_left _ _ (and_left _ _ (and_left _ _ all))) in
    ap (λ b. cond b (c ∷ contexts_below 1 cs) (contexts_below 1 cs)) (le-ltb c.host 1 one) ∙ first_below cs (and_right _ _ all)

last_below : (cs : List Context) → list_all (λ (c : Context). is_host c.host && nat_le (length c.endpoints) endpoint_limit) cs ≡ true → contexts_below 65 cs ≡ cs
last_below [] all = refl
last_below (c ∷ cs) all =
    let few : c.host ≤ 64 = leb-true c.host 64 (and_right _ _ (and_left _ _ (and_left _ _ all))) in
    ap (λ b. cond b (c ∷ contexts_below 65 cs) (contexts_below 65 cs)) (lt-ltb c.host 65 (omega (arith, few))) ∙ ap (λ zs. c ∷ zs) (last_below cs (and_right _ _ all))

-- what well-formed tables keep of contexts
rising_of : (d : Durable Entry) → is_formed d ≡ true → all_rising (map host_of d.contexts) ≡ true
unfolding is_formed
rising_of d e = and_right _ _ (and_left _ _ (and_left _ _ (and_left _ _ (and_left _ _ e))))

hosts_of : (d : Durable ℕ) → limits_rule d ≡ true → list_all (λ (c : Context). is_host c.host && nat_le (length c.endpoints) endpoint_limit) d.contexts ≡ true
unfolding limits_rule
hosts_of d e = and_right _ _ (and_left _ _ e)

pub contexts_rise : (d : Durable Entry) → is_well_formed d ≡ true → all_rising (map host_of d.contexts) ≡ true
contexts_rise d well = rising_of d (formed d well)

pub none_first : (d : Durable Entry) → is_well_formed d ≡ true → contexts_below 1 d.contexts ≡ []
none_first d well = first_below d.contexts (hosts_of (shape_of_tables d) (kept (shape_of_tables d) (shape_rules d well)).limits)

pub all_last : (d : Durable Entry) → is_well_formed d ≡ true → contexts_below 65 d.contexts ≡ d.contexts
all_last d well = last_below d.contexts (hosts_of (shape_of_tables d) (kept (shape_of_tables d) (shape_rules d well)).limits)

-- how many bytes they are spelled in, one host more
sum_found : (o : Option Context) → sum_by context_length (found_in o) ≡ if_found o context_length 0
sum_found None = refl
sum_found (Some c) = omega (arith, sum_by-cons context_length c [])

pub sum_below : (cs : List Context) (h : ℕ) → all_rising (map host_of cs) ≡ true
    → sum_by context_length (contexts_below (h + 1) cs) ≡ sum_by context_length (contexts_below h cs) + if_found (context_of cs h) context_length 0
sum_below cs h rising =
    ap (λ (xs : List Context). sum_by context_length xs) (below_more cs h rising) ∙ sum_by-append context_length (contexts_below h cs) (found_in (context_of cs h))
    ∙ ap (λ n. sum_by context_length (contexts_below h cs) + n) (sum_found (context_of cs h))

pub sum_below_within : (cs : List Context) (h : ℕ) → sum_by context_length (contexts_below h cs) ≤ sum_by context_length cs
sum_below_within [] h = omega arith
sum_below_within (c ∷ cs) h = go (nat_lt c.host h) (sum_below_within cs h)
  where
    go : (b : Bool) → sum_by context_length (contexts_below h cs) ≤ sum_by context_length cs → sum_by context_length (cond b (c ∷ contexts_below h cs) (contexts_below h cs)) ≤ sum_by context_length (c ∷ cs)
    go true le = omega (arith, le, sum_by-cons context_length c (contexts_below h cs), sum_by-cons context_length c cs)
    go false le = omega (arith, le, sum_by-cons context_length c cs)
