-- How what a disk in memory keeps hangs together after a write, and what a crash makes of it.
use Rattle.std.proofs.Common.{◌≡◌, ℕ, ◌+◌, ◌*◌, ◌<◌, ◌≤◌, List, [], ◌∷◌, ◌++◌, length, get_or, take, replicate, ap, ◌∙◌, sym, arith}
use Rattle.std.specs.List.{sum_by}
use Rattle.std.proofs.lemmas.List.{take-append-le, length_push}
use Rattle.std.proofs.lemmas.List.Elements.{All-push}
use Rattle.std.proofs.lemmas.List.Sums.{fold_push, fold_more, sum_by_from}
use Rattle.vv_disk.specs.declared.span.Span.{Span}
use Rattle.vv_disk.specs.Images.{overwritten}
use Rattle.vv_disk.specs.ImageLaws.{length-overwritten}
use Rattle.vv_disk.specs.MemDisk.{Done, Wrote, Synced, DiskState, step, after, cost_of, Fits, FitsSpan, IsKept, filled}

-- each write and sync takes 64 of the room at least
pub cost_floor : (done : List Done) → 64 * length done ≤ sum_by cost_of done
cost_floor [] = omega arith
cost_floor (Wrote at bytes ∷ done) = omega (arith, cost_floor done, sum_by_from cost_of (0 + cost_of (Wrote at bytes)) done)
cost_floor (Synced ∷ done) = omega (arith, cost_floor done, sum_by_from cost_of (0 + cost_of Synced) done)

pub after_push : (first : List ℕ) (done : List Done) (next : Done) → after first (done ++ next ∷ []) ≡ step (after first done) next
after_push first done next = fold_push step (record { synced = first; content = first; pending = [] }) done next

pub kept_write : (first content : List ℕ) (pending : List Span) (synced : ℕ) (done : List Done) (at : ℕ) (bytes : List ℕ) → at + length bytes ≤ length first → IsKept first content pending synced done
    → IsKept first (overwritten content at bytes) (pending ++ record { at = at; len = length bytes } ∷ []) synced (done ++ Wrote at bytes ∷ [])
kept_write first content pending synced done at bytes le is =
    let span : Span = record { at = at; len = length bytes } in
    let next = after_push first done (Wrote at bytes) in record {
      size = length-overwritten content at bytes ∙ is.size;
      now = ap (λ (l : List ℕ). overwritten l at bytes) is.now ∙ ap (λ (s : DiskState). s.content) (sym next);
      ranges = ap (λ (l : List Span). l ++ span ∷ []) is.ranges ∙ ap (λ (s : DiskState). s.pending) (sym next);
      base = ap (λ (l : List Done). (after first l).content) (take-append-le synced done (Wrote at bytes ∷ []) is.within) ∙ is.base ∙ ap (λ (s : DiskState). s.synced) (sym next);
      within = omega (arith, is.within, length_push done (Wrote at bytes));
      fits = All-push (Fits (length first)) done (Wrote at bytes) is.fits le;
      fits_ranges = All-push (FitsSpan (length first)) pending span is.fits_ranges le;
      few = omega (arith, is.few, length_push done (Wrote at bytes), length_push pending span);
    }

-- one range more is filled
pub filled_more : (byte : ℕ) (old disk : List ℕ) (spans : List Span) (i : ℕ) (d : Span) → i < length spans → disk ≡ filled byte old (take i spans)
    → overwritten disk (get_or spans i d).at (replicate (get_or spans i d).len byte) ≡ filled byte old (take (i + 1) spans)
filled_more byte old disk spans i d lt so_far =
    let span = get_or spans i d in
    ap (λ (l : List ℕ). overwritten l span.at (replicate span.len byte)) so_far
    ∙ sym (fold_more (λ (l : List ℕ) (s : Span). overwritten l s.at (replicate s.len byte)) old spans i d lt)
