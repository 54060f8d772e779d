-- Bytes that stand several times. It serves the loop that appends them.
use Rattle.std.proofs.Common.{◌≡◌, ℕ, zero, suc, ◌+◌, ◌*◌, List, ◌++◌, length, replicate, sym, ap, ◌∙◌, append_assoc, append-nil, arith, length-append}
use Rattle.std.specs.List.{concat}

-- once more, at the end
pub repeated_more : (n : ℕ) (bytes : List ℕ) → concat (replicate (n + 1) bytes) ≡ concat (replicate n bytes) ++ bytes
repeated_more zero bytes = append-nil bytes
repeated_more (suc n) bytes =
    let next : suc n + 1 ≡ suc (n + 1) = omega arith in
    rw next (ap (λ tail. bytes ++ tail) (repeated_more n bytes) ∙ sym (append_assoc bytes (concat (replicate n bytes)) bytes))

pub length-repeated : (n : ℕ) (bytes : List ℕ) → length (concat (replicate n bytes)) ≡ n * length bytes
length-repeated zero bytes = omega arith
length-repeated (suc n) bytes =
    omega (arith, length-append bytes (concat (replicate n bytes)), length-repeated n bytes)
