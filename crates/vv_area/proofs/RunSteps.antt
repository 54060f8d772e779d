-- What running tasks hold, read one after the other as a loop does.
use Rattle.std.proofs.Common.{◌≡◌, ℕ, suc, ◌+◌, ◌<◌, ◌≤◌, List, ◌∷◌, length, get_or, drop, drop-cons, add-one, sym, ap, ◌∙◌}
use Rattle.std.proofs.lemmas.List.{drop_all}
use Rattle.vv_fields.specs.Fields.{ReaderState}
use Rattle.vv_record.specs.declared.record.RecordFault.{RecordFault}
use Rattle.vv_record.specs.declared.record.RecordFault.TheVariants as fault
use Rattle.vv_record.specs.Reading.{Reading, Read, then_read, Fails}
use Rattle.vv_flat.specs.State.{Task}
use Rattle.vv_area.specs.Forms.{Runs, next_run, runs}

rest_from : (tasks : List Task) (i : ℕ) (t : Task) → i < length tasks → t ≡ get_or tasks i t → drop i tasks ≡ t ∷ drop (i + 1) tasks
rest_from tasks i t lt is = rw (add-one, drop-cons tasks i t) (ap (λ u. u ∷ drop (suc i) tasks) (sym is))

runs_more : (spelling : ℕ) (tasks : List Task) (i : ℕ) (t : Task) (before : Runs) (reader : ReaderState) → i < length tasks → t ≡ get_or tasks i t
    → runs spelling (drop i tasks) before reader ≡ then_read (next_run spelling t before reader) (runs spelling (drop (i + 1) tasks))
unfolding runs
runs_more spelling tasks i t before reader lt is = ap (λ ts. runs spelling ts before reader) (rest_from tasks i t lt is)

-- one more task was looked at
pub goes_on : (spelling : ℕ) (tasks : List Task) (i : ℕ) (t : Task) (before after : Runs) (reader behind : ReaderState) (total : Reading Runs) → i < length tasks → t ≡ get_or tasks i t
    → next_run spelling t before reader ≡ Read after behind → runs spelling (drop i tasks) before reader ≡ total → runs spelling (drop (i + 1) tasks) after behind ≡ total
goes_on spelling tasks i t before after reader behind total lt is e so_far =
    sym (ap (λ reading. then_read reading (runs spelling (drop (i + 1) tasks))) e) ∙ sym (runs_more spelling tasks i t before reader lt is) ∙ so_far

-- what one holds was not read
pub fails : (spelling : ℕ) (tasks : List Task) (i : ℕ) (t : Task) (before : Runs) (reader : ReaderState) (e : RecordFault) (total : Reading Runs) → i < length tasks → t ≡ get_or tasks i t
    → Fails e (next_run spelling t before reader) → runs spelling (drop i tasks) before reader ≡ total → Fails e total
fails spelling tasks i t before reader (fault.Bad at) total lt is e so_far =
    sym so_far ∙ runs_more spelling tasks i t before reader lt is ∙ ap (λ reading. then_read reading (runs spelling (drop (i + 1) tasks))) e
fails spelling tasks i t before reader fault.NoMemory total lt is e so_far = tt

-- all were looked at
pub is_done : (spelling : ℕ) (tasks : List Task) (i : ℕ) (before : Runs) (reader : ReaderState) (total : Reading Runs) → length tasks ≤ i
    → runs spelling (drop i tasks) before reader ≡ total → total ≡ Read before reader
unfolding runs
is_done spelling tasks i before reader total le so_far =
    sym so_far ∙ ap (λ ts. runs spelling ts before reader) (drop_all i tasks le)
