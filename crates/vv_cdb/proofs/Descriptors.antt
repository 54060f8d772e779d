-- One descriptor more: for the loop that reads a list of them.
use Rattle.std.proofs.Common.{◌≡◌, ◌∙◌, ℕ, zero, suc, ◌+◌, ◌*◌, List, [], ◌∷◌, ◌++◌, drop, refl, ap, sym, arith}
use Rattle.std.proofs.lemmas.List.{drop-drop}
use Rattle.vv_cdb.specs.Numbers.{number_at}
use Rattle.vv_cdb.specs.UnmapLists.{descriptors}

-- where the descriptors behind the first one stand
behind_first : (n : ℕ) (bytes : List ℕ) → drop (16 * n) (drop 16 bytes) ≡ drop (16 * suc n) bytes
behind_first n bytes =
    let same : 16 + 16 * n ≡ 16 * suc n = omega arith in
    drop-drop (16 * n) 16 bytes ∙ ap (λ m. drop m bytes) same

pub one_descriptor_more : (n : ℕ) (bytes : List ℕ) (lba blocks : ℕ)
    → lba ≡ number_at 0 8 (drop (16 * n) bytes) → blocks ≡ number_at 8 4 (drop (16 * n) bytes)
    → descriptors n bytes ++ (lba, blocks) ∷ [] ≡ descriptors (suc n) bytes
one_descriptor_more zero bytes lba blocks l b = rw (l, b) refl
one_descriptor_more (suc n) bytes lba blocks l b =
    ap (λ rest. (number_at 0 8 bytes, number_at 8 4 bytes) ∷ rest)
    (one_descriptor_more n (drop 16 bytes) lba blocks
    (l ∙ ap (λ rest. number_at 0 8 rest) (sym (behind_first n bytes)))
    (b ∙ ap (λ rest. number_at 8 4 rest) (sym (behind_first n bytes))))
