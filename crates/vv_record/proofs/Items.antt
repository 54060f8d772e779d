-- Items read one after the other, as a loop does.
use Rattle.std.proofs.Common.{◌≡◌, ℕ, suc, ◌-◌, ◌+◌, ◌≤◌, ◌<◌, List, [], ◌∷◌, ◌++◌, refl, sym, ◌∙◌, arith}
use Rattle.vv_fields.specs.Fields.{ReaderState}
use Rattle.vv_record.specs.declared.record.RecordFault.{RecordFault}
use Rattle.vv_record.specs.declared.record.RecordFault.TheVariants as fault
use Rattle.vv_record.specs.Reading.{Reading, Read, Fault, items, Fails}

-- one more item was read
pub goes_on : {A : Type 0} (item : List A → ReaderState → Reading A) (before : List A) (count i : ℕ) (reader behind : ReaderState) (next : A) (total : Reading (List A))
    → i < count → item before reader ≡ Read next behind → items item (count - i) before reader ≡ total → items item (count - (i + 1)) (before ++ next ∷ []) behind ≡ total
unfolding items
goes_on item before count i reader behind next total lt e so_far =
    let k : count - i ≡ suc (count - (i + 1)) = omega arith in
    let one : items item (count - i) before reader ≡ items item (count - (i + 1)) (before ++ next ∷ []) behind = rw (k, e) refl in
    sym one ∙ so_far

-- one was not read
pub fails : {A : Type 0} (item : List A → ReaderState → Reading A) (before : List A) (count i : ℕ) (reader : ReaderState) (e : RecordFault) (total : Reading (List A))
    → i < count → Fails e (item before reader) → items item (count - i) before reader ≡ total → Fails e total
unfolding items
fails item before count i reader (fault.Bad at) total lt e so_far =
    let k : count - i ≡ suc (count - (i + 1)) = omega arith in
    let one : items item (count - i) before reader ≡ Fault at = rw (k, e) refl in
    sym so_far ∙ one
fails item before count i reader fault.NoMemory total lt e so_far = tt

-- all were read
pub is_done : {A : Type 0} (item : List A → ReaderState → Reading A) (before : List A) (count i : ℕ) (reader : ReaderState) (total : Reading (List A))
    → count ≤ i → items item (count - i) before reader ≡ total → total ≡ Read before reader
unfolding items
is_done item before count i reader total le so_far =
    let k : count - i ≡ 0 = omega arith in
    let one : items item (count - i) before reader ≡ Read before reader = rw k refl in
    sym so_far ∙ one
