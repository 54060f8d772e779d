use Rattle.std.proofs.Common.{◌∙◌, sym, ap, ◌==◌}
use Rattle.std.specs.List.{list_any}
use Rattle.vv_rules.proofs.Searches.{search_of}
use Rattle.vv_rules.proofs.numbers.Numbers.has.Goals as goal

pub returns : goal.returns
returns c =
    c.is_ok.ensures.value
    ∙ sym (ap (list_any (λ n. n == c.args.number)) (sym c.self.view_is ∙ sym c.deref.ensures.value)
    ∙ search_of c.self.inside.sorted.items c.deref.result.now c.args.number c.binary_search.result c.deref.ensures.value c.self.invariant c.binary_search.ensures.position)
