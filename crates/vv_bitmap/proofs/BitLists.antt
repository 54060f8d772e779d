-- Bits of a list by its pages, and how they are put into a slice one after another.
use Rattle.std.proofs.Common.{ℕ, zero, suc, ◌≡◌, ◌+◌, ◌-◌, ◌*◌, ◌<◌, ◌≤◌, ◌==◌, Bool, true, false, not, List, [], ◌∷◌, ◌++◌, map, length, get_or, set, take, drop, replicate, count_by, cond, min, slice_index, Option, Some, None, refl, sym, ap, ◌∙◌, arith, get_or-take, length-take}
use Rattle.std.proofs.lemmas.Bool.{eq-eqb}
use Rattle.std.proofs.lemmas.List.{append_assoc, take-map, drop-map, take_more, take_more_set, take_all, get_or-drop, length-map, length-drop, drop-drop, take-take, drop-take, take-replicate, drop-replicate}
use Rattle.std.proofs.lemmas.List.Sums.{sum_by-cons, sum_by-append, sum_by_more, count_by-le-length}
use Rattle.vv_entries.specs.declared.entry.Entry.{Entry as PlacedEntry}
use Rattle.vv_flat.specs.Lists.{mapped_from, if_found}
use Rattle.vv_flat.specs.State.{Volume}
use Rattle.vv_flat.specs.Chunks.{Entry}
use Rattle.vv_flat.specs.Bits.{is_unshared, unshared_bits, unshared_count, allocated_bits}
use Rattle.vv_vols.specs.Shelf.{ShelfState, volume_in, size_in, chunks_in}
use Rattle.vv_vols.specs.Rows.{seen_entry}
use Rattle.vv_vols.specs.Pages.{page_in}
use Rattle.vv_bitmap.specs.Stamps.{stamps_in, stamps_of, page_bits}

-- ---- stamps
stamps_seen : (es : List PlacedEntry) → map (λ (e : Entry). e.stamp) (map seen_entry es) ≡ stamps_of es
stamps_seen [] = refl
stamps_seen (e ∷ es) = ap (λ ss. e.stamp ∷ ss) (stamps_seen es)

stamps_cut : (s : ShelfState) (n k : ℕ) → map (λ (e : Entry). e.stamp) (page_in s n k) ≡ take 64 (drop (64 * k) (stamps_in s n))
stamps_cut s n k =
    let stamp : Entry → ℕ = λ e. e.stamp in
    sym (ap (take 64) (drop-map stamp (64 * k) (chunks_in s n)) ∙ take-map stamp 64 (drop (64 * k) (chunks_in s n)))

-- the stamps of a page that was read
pub page_stamps : (s : ShelfState) (n k : ℕ) (es : List PlacedEntry) → map seen_entry es ≡ page_in s n k → stamps_of es ≡ take 64 (drop (64 * k) (stamps_in s n))
page_stamps s n k es is = sym (stamps_seen es) ∙ ap (map (λ (e : Entry). e.stamp)) is ∙ stamps_cut s n k

-- equal pages have equal stamps
pub pages_stamps : (s : ShelfState) (n m k : ℕ) → page_in s n k ≡ page_in s m k → take 64 (drop (64 * k) (stamps_in s n)) ≡ take 64 (drop (64 * k) (stamps_in s m))
pages_stamps s n m k is = sym (stamps_cut s n k) ∙ ap (map (λ (e : Entry). e.stamp)) is ∙ stamps_cut s m k

-- ---- bits put one after another
pub bit_put : (out old bits : List Bool) (at i : ℕ) (b : Bool) → at + i < length out → i < length bits → get_or bits i b ≡ b → take (at + i) out ≡ take at old ++ take i bits
    → take (at + (i + 1)) (set out (at + i) b) ≡ take at old ++ take (i + 1) bits
bit_put out old bits at i b within inside value is =
    let next : at + (i + 1) ≡ at + i + 1 = omega arith in
    ap (λ n. take n (set out (at + i) b)) next ∙ take_more_set out (at + i) b within ∙ ap (λ ys. ys ++ b ∷ []) is ∙ append_assoc (take at old) (take i bits) (b ∷ [])
    ∙ ap (λ ys. take at old ++ ys) (sym (take_more bits i b inside ∙ ap (λ x. take i bits ++ x ∷ []) value))

-- one bit
get_or-stamps : (page : List PlacedEntry) (i : ℕ) (d : PlacedEntry) → get_or (stamps_of page) i d.stamp ≡ (get_or page i d).stamp
get_or-stamps [] i d = refl
get_or-stamps (e ∷ es) zero d = refl
get_or-stamps (e ∷ es) (suc i) d = get_or-stamps es i d

get_or-unshared : (base stamps : List ℕ) (first j : ℕ) (d : Bool) → j < length stamps → get_or (mapped_from (is_unshared base) first stamps) j d ≡ is_unshared base (first + j) (get_or stamps j 0)
get_or-unshared base [] first j d lt = absurd (omega arith)
get_or-unshared base (s ∷ ss) first zero d lt = let same : first ≡ first + 0 = omega arith in ap (λ i. is_unshared base i s) same
get_or-unshared base (s ∷ ss) first (suc j) d lt =
    let same : first + 1 + j ≡ first + suc j = omega arith in
    get_or-unshared base ss (first + 1) j d (omega arith) ∙ ap (λ i. is_unshared base i (get_or ss j 0)) same

length-unshared : (base stamps : List ℕ) (first : ℕ) → length (mapped_from (is_unshared base) first stamps) ≡ length stamps
length-unshared base [] first = refl
length-unshared base (s ∷ ss) first = ap suc (length-unshared base ss (first + 1))

-- the bit of a place of a page
pub bit_read : (page : List PlacedEntry) (base : List ℕ) (from i : ℕ) (b : Bool) (d : PlacedEntry) → d.stamp ≡ 0 → from + i < length page → b ≡ not ((get_or page (from + i) d).stamp == slice_index base (from + i))
    → get_or (drop from (unshared_bits (stamps_of page) base)) i b ≡ b
bit_read page base from i b d none lt value =
    let stamps = stamps_of page in
    let size : length stamps ≡ length page = length-map page (λ (e : PlacedEntry). e.stamp) in
    let same : 0 + (from + i) ≡ from + i = omega arith in
    let stamp : get_or stamps (from + i) 0 ≡ (get_or page (from + i) d).stamp = ap (get_or stamps (from + i)) (sym none) ∙ get_or-stamps page (from + i) d in
    get_or-drop from (unshared_bits stamps base) i b ∙ get_or-unshared base stamps 0 (from + i) b (omega arith)
    ∙ ap (λ n. not (get_or stamps (from + i) 0 == slice_index base n)) same
    ∙ ap (λ n. not (n == slice_index base (from + i))) stamp ∙ sym value

pub length-page_bits : (page : List PlacedEntry) (base : List ℕ) (from : ℕ) → length (drop from (unshared_bits (stamps_of page) base)) ≡ length page - from
length-page_bits page base from =
    length-drop from (unshared_bits (stamps_of page) base) ∙ ap (λ n. n - from) (length-unshared base (stamps_of page) 0 ∙ length-map page (λ (e : PlacedEntry). e.stamp))

-- ---- bits by pages
drop-mapped : (f : ℕ → ℕ → Bool) (n first : ℕ) (xs : List ℕ) → drop n (mapped_from f first xs) ≡ mapped_from f (first + n) (drop n xs)
drop-mapped f zero first xs = let same : first ≡ first + 0 = omega arith in ap (λ i. mapped_from f i xs) same
drop-mapped f (suc n) first [] = refl
drop-mapped f (suc n) first (x ∷ xs) = let same : first + 1 + n ≡ first + suc n = omega arith in drop-mapped f n (first + 1) xs ∙ ap (λ i. mapped_from f i (drop n xs)) same

take-mapped : (f : ℕ → ℕ → Bool) (n first : ℕ) (xs : List ℕ) → take n (mapped_from f first xs) ≡ mapped_from f first (take n xs)
take-mapped f zero first xs = refl
take-mapped f (suc n) first [] = refl
take-mapped f (suc n) first (x ∷ xs) = ap (λ bs. f first x ∷ bs) (take-mapped f n (first + 1) xs)

mapped-same : (f g : ℕ → ℕ → Bool) (i j : ℕ) (xs : List ℕ) → ((k : ℕ) → k < length xs → (s : ℕ) → f (i + k) s ≡ g (j + k) s) → mapped_from f i xs ≡ mapped_from g j xs
mapped-same f g i j [] same = refl
mapped-same f g i j (x ∷ xs) same =
    let here : i + 0 ≡ i = omega arith in
    let there : j + 0 ≡ j = omega arith in
    ap (λ b. b ∷ mapped_from f (i + 1) xs) (ap (λ n. f n x) (sym here) ∙ same 0 (omega arith) x ∙ ap (λ n. g n x) there)
    ∙ ap (λ bs. g j x ∷ bs) (mapped-same f g (i + 1) (j + 1) xs (λ k lt s.
    let a : i + 1 + k ≡ i + suc k = omega arith in
    let b : j + suc k ≡ j + 1 + k = omega arith in
    ap (λ n. f n s) a ∙ same (suc k) (omega arith) s ∙ ap (λ n. g n s) b))

-- the bits of a page are those of its stamps against the base's page
pub page_bits_are : (stamps base : List ℕ) (k : ℕ) → take 64 (drop (64 * k) (unshared_bits stamps base)) ≡ page_bits stamps base k
page_bits_are stamps base k =
    let page = take 64 (drop (64 * k) stamps) in
    let size = length-take 64 (drop (64 * k) stamps) in
    ap (take 64) (drop-mapped (is_unshared base) (64 * k) 0 stamps) ∙ take-mapped (is_unshared base) 64 (0 + 64 * k) (drop (64 * k) stamps)
    ∙ mapped-same (is_unshared base) (is_unshared (take 64 (drop (64 * k) base))) (0 + 64 * k) 0 page (λ j lt s.
    let a : 0 + 64 * k + j ≡ 64 * k + j = omega arith in
    let b : j ≡ 0 + j = omega arith in
    ap (λ n. not (s == slice_index base n)) a
    ∙ ap (λ n. not (s == n)) (sym (get_or-take 64 (drop (64 * k) base) j 0 (omega arith) ∙ get_or-drop (64 * k) base j 0))
    ∙ ap (λ n. not (s == slice_index (take 64 (drop (64 * k) base)) n)) b)

-- so many bits inside a page
pub part_cut : (bits : List Bool) (k from count : ℕ) → from + count ≤ 64 → take count (drop (64 * k + from) bits) ≡ take count (drop from (take 64 (drop (64 * k) bits)))
part_cut bits k from count le =
    let whole : from + (64 - from) ≡ 64 = omega arith in
    ap (take count) (sym (drop-drop from (64 * k) bits)) ∙ sym (take-take count (64 - from) (drop from (drop (64 * k) bits)) (omega arith))
    ∙ ap (take count) (sym (drop-take from (64 - from) (drop (64 * k) bits)) ∙ ap (λ n. drop from (take n (drop (64 * k) bits))) whole)

-- no chunk is unshared against an equal list
none_unshared : (base stamps : List ℕ) (first : ℕ) → ((j : ℕ) → j < length stamps → slice_index base (first + j) ≡ get_or stamps j 0) → mapped_from (is_unshared base) first stamps ≡ replicate (length stamps) false
none_unshared base [] first same = refl
none_unshared base (s ∷ ss) first same =
    let here : first ≡ first + 0 = omega arith in
    let is : s ≡ slice_index base first = sym (ap (slice_index base) here ∙ same 0 (omega arith)) in
    ap (λ b. not b ∷ mapped_from (is_unshared base) (first + 1) ss) (eq-eqb s (slice_index base first) is)
    ∙ ap (λ bs. false ∷ bs) (none_unshared base ss (first + 1) (λ j lt. let next : first + 1 + j ≡ first + suc j = omega arith in ap (slice_index base) next ∙ same (suc j) (omega arith)))

pub shared_clear : (stamps base : List ℕ) (k : ℕ) → take 64 (drop (64 * k) stamps) ≡ take 64 (drop (64 * k) base) → page_bits stamps base k ≡ replicate (length (take 64 (drop (64 * k) stamps))) false
shared_clear stamps base k same =
    ap (λ b. unshared_bits (take 64 (drop (64 * k) stamps)) b) (sym same)
    ∙ none_unshared (take 64 (drop (64 * k) stamps)) (take 64 (drop (64 * k) stamps)) 0 (λ j lt. let here : 0 + j ≡ j = omega arith in ap (slice_index (take 64 (drop (64 * k) stamps))) here)

pub clear_part : (n from count : ℕ) → from + count ≤ n → take count (drop from (replicate n false)) ≡ replicate count false
clear_part n from count le = ap (take count) (drop-replicate from n false) ∙ take-replicate count (n - from) false (omega arith)

-- ---- a whole bitmap
take_parts : {A : Type 0} (a b : ℕ) (xs : List A) → take (a + b) xs ≡ take a xs ++ take b (drop a xs)
take_parts {A} zero b xs = let same : 0 + b ≡ b = omega arith in ap (λ n. take n xs) same
take_parts {A} (suc a) b [] =
    let same : suc a + b ≡ suc (a + b) = omega arith in
    let empty : List A = [] in
    ap (λ n. take n empty) same ∙ sym (take_all b empty (omega arith))
take_parts {A} (suc a) b (x ∷ xs) = let same : suc a + b ≡ suc (a + b) = omega arith in ap (λ n. take n (x ∷ xs)) same ∙ ap (λ ys. x ∷ ys) (take_parts a b xs)

pub part_joined : (out old bits : List Bool) (done count first : ℕ) → take done old ≡ take done (drop first bits) → take (done + count) out ≡ take done old ++ take count (drop (first + done) bits)
    → take (done + count) out ≡ take (done + count) (drop first bits)
part_joined out old bits done count first before now =
    now ∙ ap (λ bs. bs ++ take count (drop (first + done) bits)) before ∙ ap (λ bs. take done (drop first bits) ++ take count bs) (sym (drop-drop done first bits))
    ∙ sym (take_parts done count (drop first bits))

-- against nothing, the allocated chunks are unshared
pub against_nothing : (stamps : List ℕ) (first : ℕ) → mapped_from (is_unshared []) first stamps ≡ allocated_bits stamps
against_nothing [] first = refl
against_nothing (s ∷ ss) first = ap (λ bs. not (s == 0) ∷ bs) (against_nothing ss (first + 1))

-- ---- how many
pub counted_page : (bits : List Bool) (k : ℕ) → count_by (λ b. b) (take (64 * (k + 1)) bits) ≡ count_by (λ b. b) (take (64 * k) bits) + count_by (λ b. b) (take 64 (drop (64 * k) bits))
counted_page bits k =
    let next : 64 * (k + 1) ≡ 64 * k + 64 = omega arith in
    ap (λ n. count_by (λ b. b) (take n bits)) next ∙ ap (count_by (λ b. b)) (take_parts (64 * k) 64 bits)
    ∙ sum_by-append (λ b. cond b 1 0) (take (64 * k) bits) (take 64 (drop (64 * k) bits))

pub none_counted : (n : ℕ) → count_by (λ b. b) (replicate n false) ≡ 0
none_counted zero = refl
none_counted (suc n) = let more = sum_by-cons (λ b. cond b 1 0) false (replicate n false) in let rest = none_counted n in more ∙ ap (λ k. 0 + k) rest

-- ---- parts of pages
pub told_part : (stamps base page other : List ℕ) (k from count : ℕ) → from + count ≤ 64 → page ≡ take 64 (drop (64 * k) stamps) → other ≡ take 64 (drop (64 * k) base)
    → take count (drop from (unshared_bits page other)) ≡ take count (drop (64 * k + from) (unshared_bits stamps base))
told_part stamps base page other k from count le is other_is =
    ap (λ x. take count (drop from (unshared_bits x other))) is
    ∙ ap (λ x. take count (drop from (unshared_bits (take 64 (drop (64 * k) stamps)) x))) other_is
    ∙ sym (part_cut (unshared_bits stamps base) k from count le ∙ ap (λ bs. take count (drop from bs)) (page_bits_are stamps base k))

pub shared_part : (stamps base : List ℕ) (k from count : ℕ) → from + count ≤ 64 → 64 * k + from + count ≤ length stamps → take 64 (drop (64 * k) stamps) ≡ take 64 (drop (64 * k) base)
    → replicate count false ≡ take count (drop (64 * k + from) (unshared_bits stamps base))
shared_part stamps base k from count le within same =
    let size = length-take 64 (drop (64 * k) stamps) in
    let rest = length-drop (64 * k) stamps in
    sym (part_cut (unshared_bits stamps base) k from count le
    ∙ ap (λ bs. take count (drop from bs)) (page_bits_are stamps base k ∙ shared_clear stamps base k same)
    ∙ clear_part (length (take 64 (drop (64 * k) stamps))) from count (omega arith))

-- ---- sizes
found_size : (o : Option (Volume Entry)) → length (if_found o (λ (v : Volume Entry). v.chunks) []) ≡ if_found o (λ (v : Volume Entry). length v.chunks) 0
found_size None = refl
found_size (Some v) = refl

pub chunks_size : (s : ShelfState) (n : ℕ) → length (chunks_in s n) ≡ size_in s n
chunks_size s n = found_size (volume_in s n)

pub stamps_size : (s : ShelfState) (n : ℕ) → length (stamps_in s n) ≡ size_in s n
stamps_size s n = length-map (chunks_in s n) (λ (e : Entry). e.stamp) ∙ chunks_size s n

pub page_size : (s : ShelfState) (n k : ℕ) (es : List PlacedEntry) → map seen_entry es ≡ page_in s n k → length es ≡ min 64 (size_in s n - 64 * k)
page_size s n k es is =
    let same = sym (length-map es seen_entry) ∙ ap length is in
    let cut = length-take 64 (drop (64 * k) (chunks_in s n)) in
    let rest = length-drop (64 * k) (chunks_in s n) in
    let size = chunks_size s n in
    omega arith

-- ---- counts
abbrev pub bit_of : Bool → ℕ
bit_of b = cond b 1 0

pub counted_next : (stamps base : List ℕ) (k : ℕ) → count_by (λ b. b) (take (64 * (k + 1)) (unshared_bits stamps base)) ≡ count_by (λ b. b) (take (64 * k) (unshared_bits stamps base)) + count_by (λ b. b) (page_bits stamps base k)
counted_next stamps base k =
    counted_page (unshared_bits stamps base) k ∙ ap (λ bs. count_by (λ b. b) (take (64 * k) (unshared_bits stamps base)) + count_by (λ b. b) bs) (page_bits_are stamps base k)

pub counted_few : (stamps base : List ℕ) (n : ℕ) → count_by (λ b. b) (take n (unshared_bits stamps base)) ≤ length stamps
counted_few stamps base n =
    let most = count_by-le-length (λ b. b) (take n (unshared_bits stamps base)) in
    let cut = length-take n (unshared_bits stamps base) in
    let size = length-unshared base stamps 0 in
    omega arith

pub counted_all : (stamps base : List ℕ) (n : ℕ) → length stamps ≤ n → count_by (λ b. b) (take n (unshared_bits stamps base)) ≡ unshared_count stamps base
counted_all stamps base n le = ap (count_by (λ b. b)) (take_all n (unshared_bits stamps base) (let size = length-unshared base stamps 0 in omega arith))

-- one chunk more of a page
pub counted_chunk : (page : List PlacedEntry) (base : List ℕ) (i count : ℕ) (b : Bool) (d : PlacedEntry) → d.stamp ≡ 0 → i < length page → b ≡ not ((get_or page i d).stamp == slice_index base i)
    → count ≡ count_by (λ x. x) (take i (unshared_bits (stamps_of page) base)) → count + bit_of b ≡ count_by (λ x. x) (take (i + 1) (unshared_bits (stamps_of page) base))
counted_chunk page base i count b d none lt value before =
    let size = length-unshared base (stamps_of page) 0 in
    let same = length-map page (λ (e : PlacedEntry). e.stamp) in
    let place : 0 + i ≡ i = omega arith in
    let bit : get_or (drop 0 (unshared_bits (stamps_of page) base)) i b ≡ b = bit_read page base 0 i b d none (omega arith) (value ∙ ap (λ n. not ((get_or page n d).stamp == slice_index base n)) (sym place)) in
    let more = sum_by_more bit_of (unshared_bits (stamps_of page) base) i b (omega arith) in
    let last = ap bit_of bit in
    omega arith

pub length-stamps : (page : List PlacedEntry) → length (stamps_of page) ≡ length page
length-stamps page = length-map page (λ (e : PlacedEntry). e.stamp)

-- what a chunk adds
pub set_adds : (b : Bool) (count count' all : ℕ) → b ≡ true → count' ≡ count + 1 → count + bit_of b ≡ all → count' ≡ all
set_adds b count count' all is more now = let bit = ap bit_of is in omega arith

pub clear_adds : (b : Bool) (count count' all : ℕ) → b ≡ false → count' ≡ count → count + bit_of b ≡ all → count' ≡ all
clear_adds b count count' all is stays now = let bit = ap bit_of is in omega arith
