-- How many entries name a place: of a list, of a page that changes, and of all pages.
use Rattle.std.proofs.Common.{ℕ, zero, suc, ◌≡◌, ◌+◌, ◌*◌, ◌^◌, ◌<◌, ◌≤◌, cond, sum_by, List, [], ◌∷◌, ◌++◌, length, get_or, set, take, replicate, refl, ap, ◌∙◌, ⊎_elim, arith}
use Rattle.std.proofs.lemmas.Bool.{cases_lt}
use Rattle.std.proofs.lemmas.List.{get_or_past}
use Rattle.std.proofs.lemmas.List.Sums.{sum_by-cons, sum_by-append, sum_by-set, sum_by_more, count_by-le-length, get_or-le-sum_by, sum_by-take-le}
use Rattle.vv_map.specs.Pages.{StoreState, page_at}
use Rattle.vv_entries.specs.declared.entry.Entry.{Entry}
use Rattle.vv_entries.specs.Entries.{names, named, named_in, unmapped, IsTidy}

-- 1 where an entry names a place
abbrev pub name_bit : ℕ → Entry → ℕ
name_bit p e = cond (names p e) 1 0

pub named-nil : (p : ℕ) → named p [] ≡ 0
unfolding named
named-nil p = refl

pub named-cons : (p : ℕ) (e : Entry) (es : List Entry) → named p (e ∷ es) ≡ name_bit p e + named p es
unfolding named
named-cons p e es = sum_by-cons (name_bit p) e es

pub named-append : (p : ℕ) (es fs : List Entry) → named p (es ++ fs) ≡ named p es + named p fs
unfolding named
named-append p es fs = sum_by-append (name_bit p) es fs

pub named-set : (p : ℕ) (es : List Entry) (j : ℕ) (e d : Entry) → j < length es → named p (set es j e) + name_bit p (get_or es j d) ≡ named p es + name_bit p e
unfolding named
named-set p es j e d h = sum_by-set (name_bit p) es j e d h

pub named_more : (p : ℕ) (es : List Entry) (i : ℕ) (d : Entry) → i < length es → named p (take (i + 1) es) ≡ named p (take i es) + name_bit p (get_or es i d)
unfolding named
named_more p es i d h = sum_by_more (name_bit p) es i d h

pub named-le : (p : ℕ) (es : List Entry) → named p es ≤ length es
unfolding named
named-le p es = count_by-le-length (names p) es

-- unmapped entries name no place
pub named-unmapped : (p n : ℕ) → named p (replicate n unmapped) ≡ 0
named-unmapped p zero = named-nil p
named-unmapped p (suc n) = let rest = named-unmapped p n in omega (arith, named-cons p unmapped (replicate n unmapped))

pub named_filled : (p n : ℕ) (es : List Entry) → named p (es ++ replicate n unmapped) ≡ named p es
named_filled p n es = omega (arith, named-append p es (replicate n unmapped), named-unmapped p n)

-- ---- all pages
pub named_in-set : (store : StoreState Entry) (counts : List ℕ) (n : ℕ) (page : List Entry) (p : ℕ) → n < length store.pages
    → (let now : StoreState Entry = record { pages = set store.pages n page; counts = counts } in named_in now p + named p (page_at store n) ≡ named_in store p + named p page)
unfolding named_in
named_in-set store counts n page p h = sum_by-set (named p) store.pages n page [] h

sums_same : (f : List Entry → ℕ) (xs ys : List (List Entry)) → length xs ≡ length ys → ((n : ℕ) → f (get_or xs n []) ≡ f (get_or ys n [])) → sum_by f xs ≡ sum_by f ys
sums_same f [] [] size same = refl
sums_same f [] (y ∷ ys) size same = absurd (omega arith)
sums_same f (x ∷ xs) [] size same = absurd (omega arith)
sums_same f (x ∷ xs) (y ∷ ys) size same =
    let first : f x ≡ f y = same 0 in
    let rest = sums_same f xs ys (omega arith) (λ n. same (suc n)) in
    omega (arith, sum_by-cons f x xs, sum_by-cons f y ys)

-- where each page names a place as often as before, so do all
pub named_in-same : (old new : StoreState Entry) (p : ℕ) → length new.pages ≡ length old.pages → ((n : ℕ) → named p (page_at new n) ≡ named p (page_at old n)) → named_in new p ≡ named_in old p
unfolding named_in
named_in-same old new p size same = sums_same (named p) new.pages old.pages size same

-- an entry of a page that names a place is one of all
pub named-le-named_in : (store : StoreState Entry) (n p : ℕ) → named p (page_at store n) ≤ named_in store p
unfolding named_in
named-le-named_in store n p = ⊎_elim
    (λ lt. get_or-le-sum_by (named p) store.pages n [] lt)
    (λ ge. let none : named p (page_at store n) ≡ 0 = ap (named p) (get_or_past store.pages n [] ge) ∙ named-nil p in omega arith)
    (cases_lt n (length store.pages))

sum_few : (f : List Entry → ℕ) (m : ℕ) (xs : List (List Entry)) → ((n : ℕ) → f (get_or xs n []) ≤ m) → sum_by f xs ≤ m * length xs
sum_few f m [] few = omega arith
sum_few f m (x ∷ xs) few =
    let first : f x ≤ m = few 0 in
    let rest = sum_few f m xs (λ n. few (suc n)) in
    omega (arith, sum_by-cons f x xs)

-- a count fits
pub named_in-few : (store : StoreState Entry) (p : ℕ) → IsTidy store → named_in store p ≤ 2 ^ 26
unfolding named_in
named_in-few store p tidy =
    let all = sum_few (named p) 64 store.pages (λ n. let small = tidy.small n in let le = named-le p (page_at store n) in omega arith) in
    omega (arith, tidy.few)

-- ---- a front of a list, and one entry of it
pub named-take-le : (p : ℕ) (es : List Entry) (i : ℕ) → named p (take i es) ≤ named p es
unfolding named
named-take-le p es i = sum_by-take-le (name_bit p) es i

pub named-entry-le : (p : ℕ) (es : List Entry) (i : ℕ) (d : Entry) → i < length es → name_bit p (get_or es i d) ≤ named p es
unfolding named
named-entry-le p es i d h = get_or-le-sum_by (name_bit p) es i d h

pub named_in-pages : (old new : StoreState Entry) (p : ℕ) → new.pages ≡ old.pages → named_in new p ≡ named_in old p
named_in-pages old new p same = named_in-same old new p (ap length same) (λ n. ap (λ pages. named p (get_or pages n [])) same)

-- where all pages are empty, no place is named
pub named_in-none : (store : StoreState Entry) (p : ℕ) → ((n : ℕ) → page_at store n ≡ []) → named_in store p ≡ 0
unfolding named_in
named_in-none store p blank =
    let all = sum_few (named p) 0 store.pages (λ n. let none = ap (named p) (blank n) in omega (arith, named-nil p)) in omega arith

-- where a place is named at all, some page names it
some_part : (f : List Entry → ℕ) (xs : List (List Entry)) → 1 ≤ sum_by f xs → (n : ℕ) × (1 ≤ f (get_or xs n []))
some_part f [] h = absurd (omega arith)
some_part f (x ∷ xs) h = ⊎_elim
    (λ some. (0, some))
    (λ none. let rest = some_part f xs (omega (arith, sum_by-cons f x xs)) in (suc rest.0, rest.1))
    (cases_lt 0 (f x))

pub named_some : (store : StoreState Entry) (p : ℕ) → 1 ≤ named_in store p → (n : ℕ) × (1 ≤ named p (page_at store n))
unfolding named_in
named_some store p h = some_part (named p) store.pages h
