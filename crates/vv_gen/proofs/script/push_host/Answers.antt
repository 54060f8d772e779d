use Rattle.std.proofs.Common.{◌≡◌, ℕ, List, ◌++◌, ap, ◌∙◌, append_assoc}
use Rattle.std.specs.Prelude.{decimal, codes}
use Rattle.vv_gen.proofs.script.push_host.Goals as goal

two_behind : (old mid new front back : List ℕ) → new ≡ mid ++ back → mid ≡ old ++ front → new ≡ old ++ (front ++ back)
two_behind old mid new front back last first = last ∙ ap (λ (t : List ℕ). t ++ back) first ∙ append_assoc old front back

pub returns : goal.returns
returns c =
    two_behind c.args.text.now.items _ _ (codes "{\"call\":\"bindVirtualVolume\",\"host\":") (decimal c.args.host)
    c.in_ok-push_decimal.ensures c.in_ok-extend_from_slice.ensures.items
