use Rattle.std.proofs.Common.{◌≡◌, ◌∙◌, ◌<◌, length, ap, cond, arith}
use Rattle.vv_pool.specs.Pool.{free_bit}
use Rattle.vv_pool.proofs.PoolLemmas.{put_fits, byte_is}
use Rattle.vv_pool.proofs.pool.Pool.put.Goals as goal

pub overflow_add-self : goal.overflow_add-self
overflow_add-self c =
    let inside = c.self.inside in
    let before = c.index.result.now in
    let byte : c.from.result ≡ free_bit before = c.from.ensures ∙ byte_is c.is_free-was_free.result ∙ ap (λ b. cond b 1 0) c.is_free-was_free.ensures in
    let size = ap (λ pool. length pool.places) c.self.view_is in
    let within : c.args.place < length inside.places.items = omega (arith, c.requires.within, size) in
    let fits = put_fits inside.places.items inside.vacant inside.used inside.reserved c.args.place before c.self.invariant within c.index.ensures in
    omega (arith, fits)
