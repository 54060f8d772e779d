use Rattle.std.proofs.Common.{sym, ◌∙◌}
use Rattle.vv_run.proofs.WordLemmas.{two_words, four_words, five_words, six_words, seven_words, more_words}
use Rattle.vv_run.proofs.words.request_of.Goals as goal

pub returns-in-len2 : goal.returns-in-len2
returns-in-len2 c =
    c.run_asked.ensures ∙ two_words c.args.words.now c.verb-item.result c.deref.result.now c.in-len2.len_at_least c.in-len2.len_below c.verb-item.is c.deref.ensures

pub returns-in-len5 : goal.returns-in-len5
returns-in-len5 c =
    c.new_asked.ensures
    ∙ five_words c.args.words.now c.verb-item-then-words-lt6.result c.chunks-item.result c.blocks-item.result c.map-item.result
    c.deref-in-len5.result.now c.deref-in-len5-2.result.now c.deref-in-len5-3.result.now c.deref-in-len5-4.result.now c.in-len5.len_at_least c.in-len5.len_below
    c.verb-item-then-words-lt6.is c.chunks-item.is c.blocks-item.is c.map-item.is c.deref-in-len5.ensures c.deref-in-len5-2.ensures c.deref-in-len5-3.ensures c.deref-in-len5-4.ensures

pub returns-in-len7 : goal.returns-in-len7
returns-in-len7 c =
    c.load_asked.ensures
    ∙ seven_words c.args.words.now c.verb-item-then-words-lt8.result c.chunks-item-then-words-lt8.result c.blocks-item-then-words-lt8.result c.map-item-then-words-lt8.result
    c.seed-item-then-words-lt8.result c.lines-item-then-words-lt8.result
    c.deref-in-len7.result.now c.deref-in-len7-2.result.now c.deref-in-len7-3.result.now c.deref-in-len7-4.result.now c.deref-in-len7-5.result.now c.deref-in-len7-6.result.now
    c.in-len7.len_at_least c.in-len7.len_below
    c.verb-item-then-words-lt8.is c.chunks-item-then-words-lt8.is c.blocks-item-then-words-lt8.is c.map-item-then-words-lt8.is c.seed-item-then-words-lt8.is c.lines-item-then-words-lt8.is
    c.deref-in-len7.ensures c.deref-in-len7-2.ensures c.deref-in-len7-3.ensures c.deref-in-len7-4.ensures c.deref-in-len7-5.ensures c.deref-in-len7-6.ensures

pub returns-in_default-2 : goal.returns-in_default-2
returns-in_default-2 c = sym (four_words c.args.words.now c.in_default.len_at_least c.in_default.len_below)

pub returns-in_default-3 : goal.returns-in_default-3
returns-in_default-3 c = sym (six_words c.args.words.now c.in_default.len_at_least c.in_default.len_below)

pub returns-in_default-4 : goal.returns-in_default-4
returns-in_default-4 c = sym (more_words c.args.words.now c.in_default.len_at_least)
