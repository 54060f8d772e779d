-- A held list that tasks fill has its pages for itself, whatever a call on it does.
use Rattle.std.proofs.Common.{ℕ, ◌≡◌, ◌≤◌, List, [], refl, sym, ap, ◌∙◌, ⊎_elim, arith}
use Rattle.std.specs.Prelude.{slice_index}
use Rattle.std.proofs.lemmas.Bool.{cases_lt}
use Rattle.vv_map.specs.Rooms.{MapState}
use Rattle.vv_map.specs.Pages.{StoreState, count_at, IsMapOf}
use Rattle.vv_entries.specs.declared.entry.Entry.{Entry as PlacedEntry}
use Rattle.vv_entries.specs.Changes.{times, Exchanges, TakesUnused}
use Rattle.vv_entries.proofs.Times.{times-nil, times_in, times_apart, times_stands}
use Rattle.vv_vols.specs.Rows.{AreOwn}

-- pages that one list has for itself, by how often it names them
abbrev pub OwnNumbers : StoreState PlacedEntry → List ℕ → Type 0
OwnNumbers store ns = (k : ℕ) → (times k ns ≤ count_at store k) × (1 ≤ times k ns → count_at store k ≡ 1)

pub own_none : (store : StoreState PlacedEntry) → OwnNumbers store []
own_none store k = let none = times-nil k in (omega arith, λ some. absurd (omega arith))

pub own_numbers : (store : StoreState PlacedEntry) (m : MapState) → IsMapOf store m → AreOwn store m → OwnNumbers store m.numbers
own_numbers store m of own k =
    let most = times_apart k m.numbers of.apart in
    let is = λ (some : 1 ≤ times k m.numbers).
    let s = times_stands k m.numbers some in
    let one : count_at store k ≡ 1 = ap (count_at store) (sym s.2) ∙ own s.0 s.1 in one in
    (⊎_elim (λ some. let one = is some in omega arith) (λ none. omega arith) (cases_lt 0 (times k m.numbers)), is)

pub own_all : (old new : StoreState PlacedEntry) (before : List ℕ) (m' : MapState) → Exchanges old new before m'.numbers → TakesUnused old before m'.numbers
    → IsMapOf new m' → OwnNumbers old before → AreOwn new m'
own_all old new before m' ex taken of own j lt =
    let k = slice_index m'.numbers j in
    let some = times_in k m'.numbers j lt refl in
    let most = times_apart k m'.numbers of.apart in
    let counts = ex.counts k in
    let o = own k in
    let few = o.0 in
    ⊎_elim
    (λ was.
    let t = taken k was in
    let one = o.1 (omega arith) in omega arith)
    (λ unused. omega arith)
    (cases_lt 0 (count_at old k))
