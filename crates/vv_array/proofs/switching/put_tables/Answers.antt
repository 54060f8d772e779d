use Rattle.std.proofs.Common.{◌≡◌, ◌+◌, ℕ, refl, ap, ◌∙◌, subst, arith}
use Rattle.std.proofs.lemmas.List.{length-take-le}
use Rattle.vv_disk.specs.Images.{ToldWithin}
use Rattle.vv_data.specs.Layout.{chunks_at}
use Rattle.vv_units.specs.declared.geometry.Geometry.{Geometry}
use Rattle.vv_journal.specs.Switches.{SwitchingState}
use Rattle.vv_journal.proofs.Crash.{told_twice}
use Rattle.vv_array.proofs.KeptUp.{keeps_still, keeps_joined, switch_on, told_same}
use Rattle.vv_array.proofs.switching.put_tables.Goals as goal

pub loop-at-init : goal.loop-at-init
loop-at-init g c =
    let disk = g.D.Disk in
    record {
      within = omega arith;
      counted = ap (λ (n : ℕ). record c.args.switching.now { done = n }) c.requires.none;
      size = refl;
      honesty = (λ h. h, λ h. h);
      told = told_same 0 (chunks_at c.args.switching.now.geometry) (disk.content c.args.disk.now);
      writes = refl;
      reads = refl;
      tables = λ has. has;
      keeps = λ honest journal m switch up.
          keeps_still disk.content disk.is_image disk.moment disk.left_since c.args.disk.now journal c.args.core.now.array m (λ image left. g.met.D.Disk.only_now c.args.disk.now image left) up;
    }

pub loop-at-preserved : goal.loop-at-preserved
loop-at-preserved g c =
    let disk = g.D.Disk in
    let before = c.loop-at.invariant in
    let same : c.loop-at.switching.geometry ≡ c.args.switching.now.geometry = ap (λ (s : SwitchingState). s.geometry) before.counted in
    record {
      within = omega (arith, c.piece_len-count.ensures.within);
      counted =
          c.in_ok-put_piece.ensures.counted
          ∙ ap (λ (n : ℕ). record c.loop-at.switching { done = n }) (ap (λ (n : ℕ). c.loop-at.at + n) (length-take-le c.piece_len-count.result c.loop-at.buffer (omega (arith, c.piece_len-count.ensures.fits))))
          ∙ ap (λ (s : SwitchingState). record s { done = c.loop-at.at + c.piece_len-count.result }) before.counted;
      size = c.put_piece.ensures.len ∙ before.size;
      honesty = (λ h. before.honesty.0 (c.put_piece.ensures.honesty.0 h), λ h. c.put_piece.ensures.honesty.1 (before.honesty.1 h));
      told = told_twice 0 (chunks_at c.args.switching.now.geometry) (disk.content c.args.disk.now) (disk.content c.loop-at.disk) (disk.content c.put_piece.new.disk) before.told
          (subst (λ (geometry : Geometry). ToldWithin 0 (chunks_at geometry) (disk.content c.loop-at.disk) (disk.content c.put_piece.new.disk)) same c.put_piece.ensures.told);
      writes = c.in_ok-put_piece.ensures.cause.kept ∙ before.writes;
      reads = c.put_piece.ensures.read_faults ∙ before.reads;
      tables = λ has. c.in_ok-put_piece.ensures.tables (before.tables has);
      keeps = λ honest journal m switch up.
          let one = before.keeps honest journal m switch up in
          keeps_joined disk.content disk.is_image disk.moment disk.left_since c.args.disk.now c.loop-at.disk c.put_piece.new.disk journal journal c.args.core.now.array m one
          (c.put_piece.ensures.keeps (before.honesty.1 honest) journal m (switch_on journal c.args.switching.now c.loop-at.switching c.loop-at.at switch before.counted) one.up);
    }

pub returns-in_err-put_piece-clause-keeps : goal.returns-in_err-put_piece-clause-keeps
returns-in_err-put_piece-clause-keeps g c = λ honest journal m switch up.
    let disk = g.D.Disk in
    let before = c.loop-at.invariant in
    let one = before.keeps honest journal m switch up in
    keeps_joined disk.content disk.is_image disk.moment disk.left_since c.args.disk.now c.loop-at.disk c.put_piece.new.disk journal journal c.args.core.now.array m one
    (c.put_piece.ensures.keeps (before.honesty.1 honest) journal m (switch_on journal c.args.switching.now c.loop-at.switching c.loop-at.at switch before.counted) one.up)
