-- What a record says once an entry more stands in it.
use Rattle.std.proofs.Common.{◌≡◌, ℕ, ◌+◌, ◌<◌, ◌≤◌, List, [], ◌∷◌, ◌++◌, length, get_or, take, drop, All, refl, ap, ◌∙◌, sym, subst, arith}
use Rattle.std.specs.List.{AllByRecursion}
use Rattle.std.proofs.lemmas.List.{drop-append-le, take-append-le, drop_at, take_all, length-drop, map-append, length-map, get_or-map, take-map}
use Rattle.std.proofs.lemmas.List.Elements.{All-push, All-weaker, All-get_or, recursion_from_All}
use Rattle.std.proofs.lemmas.List.Sums.{fold_more}
use Rattle.vv_disk.specs.declared.record.Entry.{Entry}
use Rattle.vv_disk.specs.declared.record.Entry.TheVariants.{Write, Sync}
use Rattle.vv_disk.specs.MemDisk.{Done, Wrote, Synced, DiskState, step, after, Fits}
use Rattle.vv_disk.specs.Record.{done_by, done_of, IsAmong, redone}

part_kept : (bytes more : List ℕ) (from len : ℕ) → from + len ≤ length bytes → take len (drop from (bytes ++ more)) ≡ take len (drop from bytes)
part_kept bytes more from len le =
    ap (λ (l : List ℕ). take len l) (drop-append-le from bytes more (omega arith))
    ∙ take-append-le len (drop from bytes) more (omega (arith, length-drop from bytes))

entry_kept : (bytes more : List ℕ) (entry : Entry) → IsAmong (length bytes) entry → done_by (bytes ++ more) entry ≡ done_by bytes entry
entry_kept bytes more (Write at from len) le = ap (λ (l : List ℕ). Wrote at l) (part_kept bytes more from len le)
entry_kept bytes more Sync le = refl

all_kept : (entries : List Entry) (bytes more : List ℕ) → AllByRecursion (IsAmong (length bytes)) entries → done_of entries (bytes ++ more) ≡ done_of entries bytes
all_kept [] bytes more among = refl
all_kept (entry ∷ entries) bytes more among =
    let first = entry_kept bytes more entry among.0 in
    let rest = all_kept entries bytes more among.1 in
    cc

-- more bytes leave the entries that stand
pub done_kept : (entries : List Entry) (bytes more : List ℕ) → All (IsAmong (length bytes)) entries → done_of entries (bytes ++ more) ≡ done_of entries bytes
done_kept entries bytes more among = all_kept entries bytes more (recursion_from_All (IsAmong (length bytes)) entries among)

last_part : (bytes more : List ℕ) → take (length more) (drop (length bytes) (bytes ++ more)) ≡ more
last_part bytes more =
    ap (λ (l : List ℕ). take (length more) l) (drop_at bytes more (length bytes) refl) ∙ take_all (length more) more (omega arith)

-- an entry for a write of these bytes, put behind the others
pub done_push : (entries : List Entry) (bytes more : List ℕ) (at from len : ℕ) → from ≡ length bytes → len ≡ length more → All (IsAmong (length bytes)) entries → done_of (entries ++ Write at from len ∷ []) (bytes ++ more) ≡ done_of entries bytes ++ Wrote at more ∷ []
done_push entries bytes more at from len is_from is_len among =
    map-append (done_by (bytes ++ more)) entries (Write at from len ∷ [])
    ∙ ap (λ (l : List Done). l ++ done_by (bytes ++ more) (Write at from len) ∷ []) (done_kept entries bytes more among)
    ∙ ap (λ (l : List ℕ). done_of entries bytes ++ Wrote at l ∷ []) (rw (is_from, is_len) (last_part bytes more))

weaker : (m n : ℕ) → m ≤ n → (entry : Entry) → IsAmong m entry → IsAmong n entry
weaker m n le (Write at from len) is = omega (arith, is)
weaker m n le Sync is = tt

pub among_push : (entries : List Entry) (size more : ℕ) (at from len : ℕ) → from ≡ size → len ≡ more → All (IsAmong size) entries → All (IsAmong (size + more)) (entries ++ Write at from len ∷ [])
among_push entries size more at from len is_from is_len among =
    All-push (IsAmong (size + more)) entries (Write at from len) (All-weaker (IsAmong size) (IsAmong (size + more)) (weaker size (size + more) (omega arith)) entries among) (omega arith)

step_redoes : (state : DiskState) (next : Done) → (step state next).content ≡ redone state.content next
step_redoes state (Wrote at bytes) = refl
step_redoes state Synced = refl

done_at : (entries : List Entry) (bytes : List ℕ) (i : ℕ) (d : Entry) → i < length entries → get_or (done_of entries bytes) i Synced ≡ done_by bytes (get_or entries i d)
done_at entries bytes i d lt = get_or-map (done_by bytes) entries i d Synced lt

-- one entry more is done again
pub replay_more : (first disk : List ℕ) (entries : List Entry) (bytes : List ℕ) (i : ℕ) (d : Entry) → i < length entries
    → disk ≡ (after first (take i (done_of entries bytes))).content → redone disk (done_by bytes (get_or entries i d)) ≡ (after first (take (i + 1) (done_of entries bytes))).content
replay_more first disk entries bytes i d lt so_far =
    let entry = done_by bytes (get_or entries i d) in
    let more : after first (take (i + 1) (done_of entries bytes)) ≡ step (after first (take i (done_of entries bytes))) entry =
    fold_more step (record { synced = first; content = first; pending = [] }) (done_of entries bytes) i Synced (omega (arith, length-map entries (done_by bytes)))
    ∙ ap (λ (e : Done). step (after first (take i (done_of entries bytes))) e) (done_at entries bytes i d lt) in
    ap (λ (l : List ℕ). redone l entry) so_far
    ∙ sym (step_redoes (after first (take i (done_of entries bytes))) entry)
    ∙ ap (λ (s : DiskState). s.content) (sym more)

pub fits_at : (size now : ℕ) (entries : List Entry) (bytes : List ℕ) (i : ℕ) (d : Entry) → i < length entries → now ≡ size → All (Fits size) (done_of entries bytes) → Fits now (done_by bytes (get_or entries i d))
fits_at size now entries bytes i d lt same all =
    let there : Fits size (get_or (done_of entries bytes) i Synced) = All-get_or (Fits size) (done_of entries bytes) i Synced (omega (arith, length-map entries (done_by bytes))) all in
    subst (λ (n : ℕ). Fits n (done_by bytes (get_or entries i d))) (sym same) (subst (Fits size) (done_at entries bytes i d lt) there)

-- the first entries of a record, seen as its writes and syncs
pub done_of-take : (count : ℕ) (entries all : List Entry) (bytes same : List ℕ) (room : ℕ) (seen : List Done × ℕ) → entries ≡ all → bytes ≡ same → ◌≡◌ {A = List Done × ℕ} (done_of all same, room) seen → done_of (take count entries) bytes ≡ take count seen.0
done_of-take count entries all bytes same room seen is_entries is_bytes view =
    rw (is_entries, is_bytes) (sym (take-map (done_by same) count all) ∙ ap (λ (v : List Done × ℕ). take count v.0) view)
