use Rattle.std.proofs.Common.{rules}
use Rattle.vv_record.specs.Spelling.{offer_spelling}
use Rattle.vv_spell.specs.Window.{seen}
use Rattle.vv_spell.proofs.WindowLemmas.{put_none, put_next}
use Rattle.vv_spell.proofs.fields.put_each_offer.Goals as goal

pub loop-offer-init : goal.loop-offer-init
loop-offer-init c = put_none (seen c.args.window.now c.args.into.now)

pub loop-offer-preserved : goal.loop-offer-preserved
loop-offer-preserved c = put_next (seen c.args.window.now c.args.into.now) (seen c.loop-offer.window c.loop-offer.into) (seen c.put_offer.new.window c.put_offer.new.into)
    offer_spelling c.args.offers.now c.loop-offer.offer-index c.offer-item.result (search rules) c.loop-offer.invariant c.offer-item.is c.put_offer.ensures
