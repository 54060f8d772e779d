use Rattle.std.proofs.Common.{ℕ, ◌≡◌, ◌+◌, ◌<◌, ◌≤◌, ◌==◌, List, length, take, Option, ap, ◌∙◌, sym, arith, get_or}
use Rattle.std.proofs.lemmas.List.{take_all}
use Rattle.std.proofs.lemmas.List.Sums.{sum_by_more, sum_by_more_le}
use Rattle.std.proofs.lemmas.Option.{slice_get_within, get_or_from_slice_get}
use Rattle.std.specs.List.{find}
use Rattle.vv_flat.specs.Lists.{if_found}
use Rattle.vv_flat.specs.State.{Volume}
use Rattle.vv_flat.specs.Chunks.{Entry}
use Rattle.vv_tables.specs.Counts.{volume_pairs}
use Rattle.vv_tables.proofs.Walks.{Located, located, none_located}
use Rattle.vv_tables.proofs.counts.pairs_of_volumes.Goals as goal

abbrev pairs : Volume Entry → ℕ
pairs v = length v.metadata

abbrev number : Volume Entry → ℕ
number v = v.number

record Next (vs : List (Volume Entry)) (at sum one : ℕ) : Type 0 where
  within : at < length vs
  least : sum + one ≤ volume_pairs vs
  next : sum + one ≡ volume_pairs (take (at + 1) vs)

-- one volume more
next : (vs : List (Volume Entry)) (at n sum one : ℕ) → Located number vs at n → sum ≡ volume_pairs (take at vs)
    → one ≡ if_found (find (λ (v : Volume Entry). v.number == n) vs) pairs 0 → Next vs at sum one
next vs at n sum one l so_far is =
    let within : at < length vs = slice_get_within vs at l.item l.at in
    let here : get_or vs at l.item ≡ l.item = get_or_from_slice_get vs at l.item l.item l.at in
    let is_one : one ≡ length (get_or vs at l.item).metadata =
    is ∙ ap (λ (o : Option (Volume Entry)). if_found o pairs 0) l.found ∙ ap pairs (sym here) in
    let more : volume_pairs (take (at + 1) vs) ≡ volume_pairs (take at vs) + length (get_or vs at l.item).metadata = sum_by_more pairs vs at l.item within in
    let least : volume_pairs (take at vs) + length (get_or vs at l.item).metadata ≤ volume_pairs vs = sum_by_more_le pairs vs at l.item within in
    record { within = within; least = omega (arith, so_far, is_one, least); next = omega (arith, so_far, is_one, more) }

pub overflow_add-pairs : goal.overflow_add-pairs
overflow_add-pairs c =
    let vs = c.args.shelf.now.shelf.volumes in
    let l = located number vs c.loop-i.i c.in-Some.id.0 c.in-Some.ensures.rising c.in-Some.ensures.number in
    omega (arith, c.requires.fits, (next vs c.loop-i.i c.in-Some.id.0 c.loop-i.pairs c.pairs_in-pairs.result l c.loop-i.invariant.counted c.pairs_in-pairs.ensures).least)

pub returns-in-None : goal.returns-in-None
returns-in-None c =
    let vs = c.args.shelf.now.shelf.volumes in
    c.loop-i.invariant.counted ∙ ap volume_pairs (take_all c.loop-i.i vs (none_located number vs c.loop-i.i c.in-None.ensures.number))

pub loop-i-preserved : goal.loop-i-preserved
loop-i-preserved c =
    let vs = c.args.shelf.now.shelf.volumes in
    let l = located number vs c.loop-i.i c.in-Some.id.0 c.in-Some.ensures.rising c.in-Some.ensures.number in
    let n = next vs c.loop-i.i c.in-Some.id.0 c.loop-i.pairs c.pairs_in-pairs.result l c.loop-i.invariant.counted c.pairs_in-pairs.ensures in
    record { within = omega (arith, n.within); counted = n.next }
