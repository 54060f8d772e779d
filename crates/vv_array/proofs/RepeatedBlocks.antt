-- One block that is written many times: one more comes behind the others. It serves `repeated_block`.
use Rattle.std.proofs.Common.{◌≡◌, ◌++◌, ◌+◌, ℕ, zero, suc, List, sym, ap, ◌∙◌, append_assoc, append-nil, arith}
use Rattle.vv_flat.specs.Chunks.{same_blocks}

pub same_more : (n : ℕ) (block : List ℕ) → same_blocks block (n + 1) ≡ same_blocks block n ++ block
same_more zero block = append-nil block
same_more (suc n) block =
    let next : suc n + 1 ≡ suc (n + 1) = omega arith in
    rw next (ap (λ (rest : List ℕ). block ++ rest) (same_more n block) ∙ sym (append_assoc block (same_blocks block n) block))
