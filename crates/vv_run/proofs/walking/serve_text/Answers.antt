use Rattle.std.proofs.Common.{◌≡◌, ◌∙◌, ap, refl, subst, arith}
use Rattle.vv_profile.specs.Known.{all_known}
use Rattle.vv_calls.specs.Lines.{line_limit}
use Rattle.vv_io.specs.Lines.{given_for}
use Rattle.vv_meaning.specs.Steps.{State}
use Rattle.vv_array.specs.Standing.{StandsFor}
use Rattle.vv_array.proofs.StateImages.{stands_each}
use Rattle.vv_run.specs.declared.tally.Tally.{Tally}
use Rattle.vv_run.specs.Tallies.{none_counted, Counts}
use Rattle.vv_run.proofs.LoadingLemmas.{none_left, Served, served_none, served_more, served_whole}
use Rattle.vv_run.proofs.walking.serve_text.Goals as goal

pub loop-rest-init : goal.loop-rest-init
loop-rest-init g c =
    let disk = g.D.Disk in
    let tally = c.new-tally.result in
    let none : tally ≡ none_counted = c.new-tally.ensures.none in
    let accepted : tally.accepted ≡ 0 = ap (λ (t : Tally). t.accepted) none in
    let refused : tally.refused ≡ 0 = ap (λ (t : Tally). t.refused) none in
    let entry : State → Type 0 = λ start. disk.is_honest c.args.disk.now × StandsFor c.args.array.now (disk.content c.args.disk.now) (disk.is_image c.args.disk.now) start in
    let stands : State → Type 0 = StandsFor c.args.array.now (disk.content c.args.disk.now) (disk.is_image c.args.disk.now) in
    let P : Tally → Type 0 = λ before. Served disk.moment disk.left_since disk.read_faults disk.write_faults (all_known c.args.capabilities.now) c.args.text.now c.args.text.now (Counts before tally)
    entry stands c.args.disk.now c.args.disk.now in
    record {
      served = subst P none (served_none disk.moment disk.left_since disk.read_faults disk.write_faults (all_known c.args.capabilities.now) c.args.text.now tally entry stands c.args.disk.now
          (λ start at_entry. (
            at_entry.1,
            λ image left.
                stands_each c.args.array.now (disk.content c.args.disk.now) (disk.is_image c.args.disk.now) start at_entry.1 image (g.met.D.Disk.only_now c.args.disk.now image left),
          )));
      small = omega (arith, accepted, refused);
      fits = c.new-tally.ensures.fits;
      sizes = c.requires.disk;
      len = refl;
      honesty = (λ is. is, λ is. is);
      reads = omega arith;
      writes = omega arith;
    }

pub loop-rest-preserved : goal.loop-rest-preserved
loop-rest-preserved g c =
    let disk = g.D.Disk in
    let so_far = c.loop-rest.invariant in
    let served = c.serve_counted.ensures in
    record {
      served = served_more disk.moment disk.left_since disk.read_faults disk.write_faults (all_known c.args.capabilities.now) c.args.text.now c.loop-rest.rest.now c.first_line.result.1.now
          (given_for line_limit c.first_line.result.0.now) none_counted c.loop-rest.tally c.serve_counted.new.tally
          (λ start. disk.is_honest c.args.disk.now × StandsFor c.args.array.now (disk.content c.args.disk.now) (disk.is_image c.args.disk.now) start)
          (StandsFor c.loop-rest.array (disk.content c.loop-rest.disk) (disk.is_image c.loop-rest.disk))
          (StandsFor c.serve_counted.new.array (disk.content c.serve_counted.new.disk) (disk.is_image c.serve_counted.new.disk))
          c.args.disk.now c.loop-rest.disk c.serve_counted.new.disk so_far.served (c.first_line.ensures.lines line_limit)
          (λ start at_entry state stands. served.served (so_far.honesty.1 at_entry.0) state stands) served.reads served.writes;
      small = omega (arith, so_far.small, served.one, c.first_line.ensures.shorter);
      fits = served.fits;
      sizes = served.sizes;
      len = served.len ∙ so_far.len;
      honesty = (λ is. so_far.honesty.0 (served.honesty.0 is), λ is. served.honesty.1 (so_far.honesty.1 is));
      reads = omega (arith, so_far.reads, served.reads);
      writes = omega (arith, so_far.writes, served.writes);
    }

pub returns-clause-served : goal.returns-clause-served
returns-clause-served g c = λ honest start stands.
    let disk = g.D.Disk in
    served_whole disk.moment disk.left_since disk.read_faults disk.write_faults (all_known c.args.capabilities.now) c.args.text.now c.loop-rest.rest.now (Counts none_counted c.loop-rest.tally)
    (λ begun. disk.is_honest c.args.disk.now × StandsFor c.args.array.now (disk.content c.args.disk.now) (disk.is_image c.args.disk.now) begun)
    (StandsFor c.loop-rest.array (disk.content c.loop-rest.disk) (disk.is_image c.loop-rest.disk)) c.args.disk.now c.loop-rest.disk c.loop-rest.invariant.served
    (none_left c.loop-rest.rest.now c.is_empty.result c.is_empty.ensures c.loop-rest-test.false) start (honest, stands)
