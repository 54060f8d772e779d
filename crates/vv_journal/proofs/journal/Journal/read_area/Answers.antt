use Rattle.std.proofs.Common.{◌≡◌, ℕ, ◌+◌, ◌≤◌, List, length, IfSome, ◌∙◌, ap}
use Rattle.vv_disk.specs.Images.{bytes_at}
use Rattle.vv_data.specs.Layout.{half_at}
use Rattle.vv_data.proofs.Places.{part_of}
use Rattle.vv_journal.specs.Half.{tables_at}
use Rattle.vv_journal.proofs.Opened.{on_ok_then, told_next}
use Rattle.vv_journal.proofs.journal.Journal.read_area.Goals as goal

pub returns-clause-bytes : goal.returns-clause-bytes
returns-clause-bytes g c =
    let told = g.D.Disk.content c.args.disk.now in
    let len = length c.args.into.now in
    let start = half_at c.args.self.now.geometry c.args.self.now.half + 8 in
    let P : List ℕ → Type 0 = λ d. c.get.new.into ≡ bytes_at (c.tables_start.result + c.args.at) len d in
    let Q : List ℕ → Type 0 = λ d. (n : ℕ) → c.args.at + len ≤ n → c.get.new.into ≡ bytes_at c.args.at len (tables_at c.args.self.now.geometry c.args.self.now.half n d) in
    on_ok_then c.get.result (IfSome told P) (IfSome told Q)
    (told_next told P Q (λ d is n le. is ∙ ap (λ (k : ℕ). bytes_at (k + c.args.at) len d) c.tables_start.ensures.start ∙ part_of start c.args.at len n d le))
    c.get.ensures.bytes
