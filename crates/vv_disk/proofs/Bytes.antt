-- What stands where after a write, and in an image that differs within a range. For all crates above disks too.
use Rattle.std.proofs.Common.{◌≡◌, ◌⊎◌, inl, inr, ℕ, zero, suc, ◌+◌, ◌-◌, ◌<◌, ◌≤◌, List, [], ◌∷◌, ◌++◌, length, get_or, take, drop, refl, ap, ◌∙◌, sym, arith}
use Rattle.std.proofs.lemmas.List.{take-take, drop-drop, drop-take, take_at, drop_at, get_or-take, get_or-drop, length-take}
use borrow.Rule.Slice.PartMut.{put_mid}
use Rattle.vv_disk.specs.Images.{bytes_at, overwritten, DiffersWithin}

-- inside the disk: what stood before, these bytes, and what stood behind
pub overwritten_is : (disk : List ℕ) (at : ℕ) (bytes : List ℕ) → at + length bytes ≤ length disk → overwritten disk at bytes ≡ take at disk ++ (bytes ++ drop (length bytes) (drop at disk))
overwritten_is [] zero [] le = refl
overwritten_is [] zero (b ∷ bytes) le = absurd (omega arith)
overwritten_is [] (suc at) bytes le = absurd (omega arith)
overwritten_is (x ∷ disk) zero [] le = refl
overwritten_is (x ∷ disk) zero (b ∷ bytes) le = ap (λ (l : List ℕ). b ∷ l) (overwritten_is disk zero bytes (omega arith))
overwritten_is (x ∷ disk) (suc at) bytes le = ap (λ (l : List ℕ). x ∷ l) (overwritten_is disk at bytes (omega arith))

-- a write to a part of a slice
pub put_over : (disk : List ℕ) (at n : ℕ) (new bytes : List ℕ) → new ≡ bytes → n ≡ length bytes → at + length bytes ≤ length disk → put_mid at n disk new ≡ overwritten disk at bytes
put_over disk at n new bytes same counts le =
    ap (λ (l : List ℕ). put_mid at n disk l) same
    ∙ ap (λ (k : ℕ). put_mid at k disk bytes) counts
    ∙ sym (overwritten_is disk at bytes le)

-- the bytes that were written stand there
pub bytes_at-overwritten : (disk : List ℕ) (at : ℕ) (bytes : List ℕ) → at + length bytes ≤ length disk → bytes_at at (length bytes) (overwritten disk at bytes) ≡ bytes
bytes_at-overwritten disk at bytes le =
    let behind = drop (length bytes) (drop at disk) in
    ap (λ (l : List ℕ). bytes_at at (length bytes) l) (overwritten_is disk at bytes le)
    ∙ ap (λ (l : List ℕ). take (length bytes) l) (drop_at (take at disk) (bytes ++ behind) at (length-take at disk ∙ omega arith))
    ∙ take_at bytes behind (length bytes) refl

-- one range inside another one
pub within_wider : (at n low m : ℕ) (old new : List ℕ) → low ≤ at → at + n ≤ low + m → DiffersWithin at n old new → DiffersWithin low m old new
within_wider at n low m old new from to is = record {
  size = is.size;
  before = sym (take-take low at new from) ∙ ap (λ (l : List ℕ). take low l) is.before ∙ take-take low at old from;
  behind = further new ∙ ap (λ (l : List ℕ). drop (low + m - (at + n)) l) is.behind ∙ sym (further old);
}
  where
    further : (l : List ℕ) → drop m (drop low l) ≡ drop (low + m - (at + n)) (drop n (drop at l))
    further l =
        let sum : low + m ≡ at + n + (low + m - (at + n)) = omega arith in
        drop-drop m low l ∙ ap (λ (k : ℕ). drop k l) sum ∙ sym (drop-drop (low + m - (at + n)) (at + n) l) ∙ ap (λ (r : List ℕ). drop (low + m - (at + n)) r) (sym (drop-drop n at l))

-- two steps inside one range
pub within_twice : (at n : ℕ) (old mid new : List ℕ) → DiffersWithin at n old mid → DiffersWithin at n mid new → DiffersWithin at n old new
within_twice at n old mid new first second = record {
  size = second.size ∙ first.size;
  before = second.before ∙ first.before;
  behind = second.behind ∙ first.behind;
}

-- the bytes before the range are the same
pub bytes_before : (at n i m : ℕ) (old new : List ℕ) → i + m ≤ at → DiffersWithin at n old new → bytes_at i m new ≡ bytes_at i m old
bytes_before at n i m old new le is = front new ∙ ap (λ (l : List ℕ). drop i (take (i + m) l)) is.before ∙ sym (front old)
  where
    front : (l : List ℕ) → bytes_at i m l ≡ drop i (take (i + m) (take at l))
    front l = sym (drop-take i m l) ∙ ap (λ (k : List ℕ). drop i k) (sym (take-take (i + m) at l le))

-- and those behind it
pub bytes_behind : (at n i m : ℕ) (old new : List ℕ) → at + n ≤ i → DiffersWithin at n old new → bytes_at i m new ≡ bytes_at i m old
bytes_behind at n i m old new le is = ap (λ (l : List ℕ). take m l) (back new ∙ ap (λ (l : List ℕ). drop (i - (at + n)) l) is.behind ∙ sym (back old))
  where
    back : (l : List ℕ) → drop i l ≡ drop (i - (at + n)) (drop n (drop at l))
    back l =
        let sum : i ≡ at + n + (i - (at + n)) = omega arith in
        ap (λ (k : ℕ). drop k l) sum ∙ sym (drop-drop (i - (at + n)) (at + n) l) ∙ ap (λ (r : List ℕ). drop (i - (at + n)) r) (sym (drop-drop n at l))

-- bytes that don't meet the range are the same
pub bytes_apart : (at n i m : ℕ) (old new : List ℕ) → (i + m ≤ at) ⊎ (at + n ≤ i) → DiffersWithin at n old new → bytes_at i m new ≡ bytes_at i m old
bytes_apart at n i m old new (inl le) is = bytes_before at n i m old new le is
bytes_apart at n i m old new (inr le) is = bytes_behind at n i m old new le is

-- one byte that doesn't stand in the range is the same
pub byte_before : (at n k : ℕ) (old new : List ℕ) → k < at → DiffersWithin at n old new → get_or new k 0 ≡ get_or old k 0
byte_before at n k old new lt is = sym (get_or-take at new k 0 lt) ∙ ap (λ (l : List ℕ). get_or l k 0) is.before ∙ get_or-take at old k 0 lt

pub byte_behind : (at n k : ℕ) (old new : List ℕ) → at + n ≤ k → DiffersWithin at n old new → get_or new k 0 ≡ get_or old k 0
byte_behind at n k old new le is = from new ∙ ap (λ (l : List ℕ). get_or l (k - (at + n)) 0) is.behind ∙ sym (from old)
  where
    from : (l : List ℕ) → get_or l k 0 ≡ get_or (drop n (drop at l)) (k - (at + n)) 0
    from l =
        let sum : k ≡ at + (n + (k - (at + n))) = omega arith in
        ap (λ (i : ℕ). get_or l i 0) sum ∙ sym (get_or-drop at l (n + (k - (at + n))) 0) ∙ sym (get_or-drop n (drop at l) (k - (at + n)) 0)
