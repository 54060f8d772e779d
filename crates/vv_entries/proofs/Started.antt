-- An empty store.
use Rattle.std.proofs.Common.{ℕ, ◌≡◌, ◌≤◌, ◌^◌, List, [], length, get_or, replicate, sym, ap, ◌∙◌, ⊎_elim, arith}
use Rattle.std.proofs.lemmas.Bool.{cases_lt}
use Rattle.std.proofs.lemmas.List.{get_or-replicate, get_or_past, length-replicate}
use Rattle.vv_pool.specs.declared.place_use.PlaceUse.TheVariants.{Counted}
use Rattle.vv_pool.specs.Uses.{count_in}
use Rattle.vv_entries.specs.declared.entry.Entry.{Entry}
use Rattle.vv_entries.specs.Entries.{empty_entries, IsCounted}
use Rattle.vv_entries.proofs.Named.{named_in-none}

get_or-all : {A : Type 0} (n k : ℕ) (x : A) → get_or (replicate n x) k x ≡ x
get_or-all n k x = ⊎_elim
    (λ lt. get_or-replicate n k x x lt)
    (λ ge. get_or_past (replicate n x) k x (omega (arith, length-replicate n x)))
    (cases_lt k n)

pub counted-empty : (chunks pages : ℕ) → pages ≤ 2 ^ 20 → IsCounted (empty_entries chunks pages).store (empty_entries chunks pages).pool
counted-empty chunks pages few =
    let blank = λ (n : ℕ). get_or-all {A = List Entry} pages n [] in
    record {
      tidy = record {
        small = λ n. let none = ap length (blank n) in omega arith;
        blank = λ n h. blank n;
        same = length-replicate pages 0 ∙ sym (length-replicate {A = List Entry} pages []);
        few = omega (arith, length-replicate {A = List Entry} pages []);
      };
      counted = λ p. ap count_in (get_or-all chunks p (Counted 0)) ∙ sym (named_in-none (empty_entries chunks pages).store p blank);
    }
