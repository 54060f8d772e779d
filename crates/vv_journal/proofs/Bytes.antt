-- Bytes that are written, and the numbers that they are.
use Rattle.std.proofs.Common.{◌≡◌, ◌⊎◌, inl, ℕ, zero, suc, ◌+◌, ◌^◌, ◌<◌, ◌≤◌, List, [], ◌∷◌, length, get_or, replicate, take, drop, Option, None, Some, IfSome, option_map, refl, sym, ap, ◌∙◌, subst, arith}
use Rattle.std.specs.Int.{bytes_high_first}
use Rattle.std.proofs.lemmas.List.{length-take, take-take, drop-take, drop-drop}
use Rattle.vv_fields.specs.Fields.{be_bytes, be_number}
use Rattle.vv_fields.proofs.ByteLemmas.{number_again}
use Rattle.vv_disk.specs.Images.{bytes_at, overwritten}
use Rattle.vv_disk.specs.ImageLaws.{length-overwritten, overwritten_within}
use Rattle.vv_disk.proofs.Bytes.{bytes_at-overwritten, bytes_apart}
use Rattle.vv_journal.specs.Half.{payload_at, payload_limit}
use Rattle.vv_journal.specs.Header.{magic, number_at}
use Rattle.vv_journal.proofs.Parts.{payload_from}

pub number_of_four : (bytes : List ℕ) (n : ℕ) → bytes ≡ bytes_high_first 4 n → n < 2 ^ 32 → be_number (get_or bytes 0 0 ∷ get_or bytes 1 0 ∷ get_or bytes 2 0 ∷ get_or bytes 3 0 ∷ []) ≡ n
unfolding be_bytes
number_of_four bytes n is lt = ap (λ (l : List ℕ). be_number (get_or l 0 0 ∷ get_or l 1 0 ∷ get_or l 2 0 ∷ get_or l 3 0 ∷ [])) is ∙ number_again 4 n lt

pub number_of_zeros : be_number (0 ∷ 0 ∷ 0 ∷ 0 ∷ []) ≡ 0
unfolding be_number
number_of_zeros = refl

pub number_of_words : be_number (86 ∷ 86 ∷ 65 ∷ 82 ∷ 82 ∷ 65 ∷ 89 ∷ 49 ∷ []) ≡ magic
unfolding be_number
number_of_words = refl

pub number_of_version : be_number (0 ∷ 0 ∷ 0 ∷ 2 ∷ []) ≡ 2
unfolding be_number
number_of_version = refl

pub number_of_eight : (bytes : List ℕ) (n : ℕ) → bytes ≡ bytes_high_first 8 n → n < 2 ^ 64 → be_number bytes ≡ n
unfolding be_bytes
number_of_eight bytes n is lt = ap be_number is ∙ number_again 8 n lt

pub zero_of_zeros : (n i : ℕ) → get_or {A = ℕ} (replicate n 0) i 0 ≡ 0
zero_of_zeros zero i = refl
zero_of_zeros (suc n) zero = refl
zero_of_zeros (suc n) (suc i) = zero_of_zeros n i

-- one byte that was written
pub byte_written : (disk : List ℕ) (at byte : ℕ) → at < length disk → get_or (overwritten disk at (byte ∷ [])) at 0 ≡ byte
byte_written [] at byte lt = absurd (omega (arith, lt))
byte_written (x ∷ disk) zero byte lt = refl
byte_written (x ∷ disk) (suc at) byte lt = byte_written disk at byte (omega (arith, lt))

-- a part of what was written
pub part_written : (disk : List ℕ) (at i m : ℕ) (bytes : List ℕ) → at + length bytes ≤ length disk → i + m ≤ length bytes → bytes_at (at + i) m (overwritten disk at bytes) ≡ bytes_at i m bytes
part_written disk at i m bytes fits part =
    let now = overwritten disk at bytes in
    let within : bytes_at (at + i) m now ≡ bytes_at i m (bytes_at at (length bytes) now) =
    ap (λ (l : List ℕ). take m l) (sym (drop-drop i at now))
    ∙ sym (drop-take i m (drop at now))
    ∙ ap (λ (l : List ℕ). drop i l) (sym (take-take (i + m) (length bytes) (drop at now) part))
    ∙ drop-take i m (take (length bytes) (drop at now)) in
    within ∙ ap (λ (l : List ℕ). bytes_at i m l) (bytes_at-overwritten disk at bytes fits)

-- bytes apart from what was written
pub apart_written : (disk : List ℕ) (at i m : ℕ) (bytes : List ℕ) → (i + m ≤ at) ⊎ (at + length bytes ≤ i) → bytes_at i m (overwritten disk at bytes) ≡ bytes_at i m disk
apart_written disk at i m bytes apart = bytes_apart at (length bytes) i m disk (overwritten disk at bytes) apart (overwritten_within disk at bytes)

-- a slot whose head and payload were put over zeros
module _ (zeros head payload : List ℕ) (size : length zeros ≡ 4096) (eight : length head ≡ 8) (le : length payload ≤ payload_limit) where
  headed : length (overwritten zeros 0 head) ≡ 4096
  headed = length-overwritten zeros 0 head ∙ size

  pub slot_low : (n : ℕ) → be_number (take 4 head) ≡ n → number_at 4 0 (overwritten (overwritten zeros 0 head) 8 payload) ≡ n
  slot_low n is =
      ap be_number (apart_written (overwritten zeros 0 head) 8 0 4 payload (inl (omega arith))
      ∙ part_written zeros 0 0 4 head (omega (arith, size, eight)) (omega (arith, eight))) ∙ is

  pub slot_high : be_number (take 4 (drop 4 head)) ≡ 0 → number_at 4 4 (overwritten (overwritten zeros 0 head) 8 payload) ≡ 0
  slot_high is =
      ap be_number (apart_written (overwritten zeros 0 head) 8 4 4 payload (inl (omega arith))
      ∙ part_written zeros 0 4 4 head (omega (arith, size, eight)) (omega (arith, eight))) ∙ is

  pub slot_payload : bytes_at 8 (length payload) (overwritten (overwritten zeros 0 head) 8 payload) ≡ payload
  slot_payload = bytes_at-overwritten (overwritten zeros 0 head) 8 payload (omega (arith, headed, le))

-- a part of a front
part_of_front : (i m k : ℕ) (bytes : List ℕ) → i + m ≤ k → bytes_at i m (take k bytes) ≡ bytes_at i m bytes
part_of_front i m k bytes le =
    sym (drop-take i m (take k bytes)) ∙ ap (λ (l : List ℕ). drop i l) (take-take (i + m) k bytes le) ∙ drop-take i m bytes

-- a slot's front, up to the end of its payload, that was written
module _ (slot payload : List ℕ) (size : length slot ≡ 4096) (le : length payload ≤ payload_limit)
    (low : number_at 4 0 slot ≡ length payload) (high : number_at 4 4 slot ≡ 0) (has : bytes_at 8 (length payload) slot ≡ payload) where
  pub front_size : length (take (8 + length payload) slot) ≡ 8 + length payload
  front_size = simp (length-take) (omega (arith, size, le))

  pub slot_written : (disk : List ℕ) (at : ℕ) → at + 4096 ≤ length disk → payload_at at (overwritten disk at (take (8 + length payload) slot)) ≡ Some payload
  slot_written disk at fits =
      let front = take (8 + length payload) slot in
      let now = overwritten disk at front in
      let room : at + length front ≤ length disk = omega (arith, fits, front_size, le) in
      let is_low : number_at 4 at now ≡ length payload =
      ap be_number (ap (λ (k : ℕ). bytes_at k 4 now) (let e : at ≡ at + 0 = omega arith in e)
      ∙ part_written disk at 0 4 front room (omega (arith, front_size))
      ∙ part_of_front 0 4 (8 + length payload) slot (omega arith)) ∙ low in
      let is_high : number_at 4 (at + 4) now ≡ 0 =
      ap be_number (part_written disk at 4 4 front room (omega (arith, front_size))
      ∙ part_of_front 4 4 (8 + length payload) slot (omega arith)) ∙ high in
      let is_payload : bytes_at (at + 8) (length payload) now ≡ payload =
      part_written disk at 8 (length payload) front room (omega (arith, front_size))
      ∙ part_of_front 8 (length payload) (8 + length payload) slot (omega arith) ∙ has in
      payload_from at (length payload) now payload is_low le is_high is_payload

  -- the same of contents that may be told
  pub slot_told : (told later : Option (List ℕ)) (disk at : ℕ) → ((c : List ℕ) → told ≡ Some c → length c ≡ disk)
      → later ≡ option_map (λ c. overwritten c at (take (8 + length payload) slot)) told → at + 4096 ≤ disk → IfSome later (λ c. payload_at at c ≡ Some payload)
  slot_told None later disk at sized is fits = subst (λ t. IfSome t (λ c. payload_at at c ≡ Some payload)) (sym is) tt
  slot_told (Some c) later disk at sized is fits =
      subst (λ t. IfSome t (λ c. payload_at at c ≡ Some payload)) (sym is) (slot_written c at (omega (arith, fits, sized c refl)))
