use Rattle.std.proofs.Common.{ap, ◌∙◌, sym, option_map}
use Rattle.vv_pool.specs.Pool.{lowest_free}
use Rattle.vv_pool.proofs.PoolLemmas.{lowest_by_bits, lowest_none_by_bits}
use Rattle.vv_pool.proofs.pool.Pool.lowest.Goals as goal

pub returns-in_err-at : goal.returns-in_err-at
returns-in_err-at c =
    let inside = c.self.inside in
    ap (option_map (λ place. place.0)) c.from_residual.ensures
    ∙ sym (lowest_none_by_bits inside.places.items inside.vacant c.self.invariant.tells c.args.from c.in_err-at.ensures.none)
    ∙ ap (λ pool. lowest_free pool c.args.from) c.self.view_is

pub returns : goal.returns
returns c =
    let inside = c.self.inside in
    sym (lowest_by_bits inside.places.items inside.vacant c.self.invariant.tells c.args.from c.in_ok-at.at c.in_ok-at.ensures.some)
    ∙ ap (λ pool. lowest_free pool c.args.from) c.self.view_is
