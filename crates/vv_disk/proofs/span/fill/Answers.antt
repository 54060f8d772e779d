use Rattle.std.proofs.Common.{◌≡◌, ℕ, ◌+◌, ◌-◌, length, take, drop, replicate, ◌∙◌, ap, arith}
use Rattle.std.proofs.lemmas.List.{length-replicate, length-take, length-drop}
use Rattle.vv_disk.proofs.Bytes.{put_over}
use Rattle.vv_disk.proofs.span.fill.Goals as goal

pub returns : goal.returns
returns c =
    let size : length (take (c.args.span.at + c.args.span.len - c.args.span.at) (drop c.args.span.at c.args.disk.now)) ≡ c.args.span.len =
    simp (length-take, length-drop) (omega arith) in
    put_over _ _ _ _ (replicate c.args.span.len c.args.byte)
    (c.fill.ensures.after (λ y is. is) ∙ ap (λ (n : ℕ). replicate n c.args.byte) size)
    (rw length-replicate (omega arith))
    (rw length-replicate c.requires)
