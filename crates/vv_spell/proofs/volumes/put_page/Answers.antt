use Rattle.std.proofs.Common.{rules}
use Rattle.std.specs.Prelude.{None}
use Rattle.vv_entries.specs.declared.entry.Entry.{Entry}
use Rattle.vv_vols.specs.Rows.{seen_entry}
use Rattle.vv_area.specs.Spelling.{entry_spelling}
use Rattle.vv_spell.specs.Window.{seen}
use Rattle.vv_spell.proofs.WindowLemmas.{put_none, put_got}
use Rattle.vv_spell.proofs.volumes.put_page.Goals as goal

pub loop-entry-init : goal.loop-entry-init
loop-entry-init c = put_none (seen c.args.window.now c.args.into.now)

pub loop-entry-preserved : goal.loop-entry-preserved
loop-entry-preserved c = put_got (seen c.args.window.now c.args.into.now) (seen c.loop-entry.window c.loop-entry.into) (seen c.put_entry.new.window c.put_entry.new.into)
    (λ (e : Entry). entry_spelling (seen_entry e)) c.args.page.now c.loop-entry.entry-index (record { place = None; stamp = 0 }) (search rules) c.loop-entry.invariant c.put_entry.ensures
