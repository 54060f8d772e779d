use Rattle.std.proofs.Common.{length, ◌∙◌, ap}
use Rattle.std.proofs.lemmas.List.Elements.{All-take, All-same}
use Rattle.vv_disk.specs.MemDisk.{Fits, after}
use Rattle.vv_disk.proofs.Records.{done_of-take}
use Rattle.vv_disk.proofs.record.Record.replay.Goals as goal

pub replay-requires-clause-fits : goal.replay-requires-clause-fits
replay-requires-clause-fits c =
    let first = done_of-take c.args.count _ _ _ _ c.self.inside.room c.args.self.now c.deref.ensures.value c.deref-2.ensures.value c.self.view_is in
    All-same (Fits (length c.args.disk.now)) _ _ first (All-take (Fits (length c.args.disk.now)) c.args.count c.args.self.now.0 c.requires.fits)

pub returns : goal.returns
returns c =
    let first = done_of-take c.args.count _ _ _ _ c.self.inside.room c.args.self.now c.deref.ensures.value c.deref-2.ensures.value c.self.view_is in
    c.replay.ensures ∙ ap (λ ds. (after c.args.disk.now ds).content) first
