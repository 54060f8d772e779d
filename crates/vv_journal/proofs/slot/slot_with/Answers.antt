use Rattle.std.proofs.Common.{List, ℕ, length, replicate, ap, ◌∙◌}
use Rattle.std.proofs.lemmas.List.{length-replicate}
use Rattle.vv_disk.specs.Images.{bytes_at, overwritten}
use Rattle.vv_journal.specs.Header.{number_at}
use Rattle.vv_journal.proofs.Bytes.{slot_low, slot_high, slot_payload}
use Rattle.vv_journal.proofs.slot.slot_with.Goals as goal

pub returns-clause-len : goal.returns-clause-len
returns-clause-len c =
    ap (λ (l : List ℕ). number_at 4 0 l) (c.put_part-2.ensures ∙ ap (λ (l : List ℕ). overwritten l 8 c.args.payload.now) c.put_part.ensures)
    ∙ slot_low (replicate 4096 0) c.slot_head.result c.args.payload.now (length-replicate {A = ℕ} 4096 0) c.slot_head.ensures.size c.requires (length c.args.payload.now) c.slot_head.ensures.len

pub returns-clause-zeros : goal.returns-clause-zeros
returns-clause-zeros c =
    ap (λ (l : List ℕ). number_at 4 4 l) (c.put_part-2.ensures ∙ ap (λ (l : List ℕ). overwritten l 8 c.args.payload.now) c.put_part.ensures)
    ∙ slot_high (replicate 4096 0) c.slot_head.result c.args.payload.now (length-replicate {A = ℕ} 4096 0) c.slot_head.ensures.size c.requires c.slot_head.ensures.zeros

pub returns-clause-payload : goal.returns-clause-payload
returns-clause-payload c =
    ap (λ (l : List ℕ). bytes_at 8 (length c.args.payload.now) l) (c.put_part-2.ensures ∙ ap (λ (l : List ℕ). overwritten l 8 c.args.payload.now) c.put_part.ensures)
    ∙ slot_payload (replicate 4096 0) c.slot_head.result c.args.payload.now (length-replicate {A = ℕ} 4096 0) c.slot_head.ensures.size c.requires
