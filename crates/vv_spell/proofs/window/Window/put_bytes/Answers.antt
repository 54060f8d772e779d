use Rattle.std.proofs.Common.{rules, ◌≡◌, ◌+◌, ℕ, List, ◌++◌, length, take, drop, ap, ◌∙◌}
use Rattle.std.specs.Prelude.{min}
use Rattle.vv_spell.proofs.WindowLemmas.{copied_so}
use Rattle.vv_spell.proofs.window.Window.put_bytes.Goals as goal

pub returns : goal.returns
returns c =
    let n : ℕ = min c.args.self.now.written (length c.args.into.now) in
    let e : c.min-written.result ≡ n = search rules in
    let front : c.split_at_mut-free.result.0.now ≡ take n c.args.into.now = search (rules, e) in
    let free : c.split_at_mut-free.result.1.now ≡ drop n c.args.into.now = search (rules, e) in
    let rest : c.pass_front-rest.result.now ≡ drop c.args.self.now.ahead c.args.text.now = c.pass_front-rest.ensures.rest in
    let count : c.min-written.result + c.copy_front.result ≡ n + min (length (drop n c.args.into.now)) (length (drop c.args.self.now.ahead c.args.text.now)) =
    ap (λ m. m + c.copy_front.result) e ∙ ap (λ m. n + m) c.copy_front.ensures.count
    ∙ ap (λ (xs : List ℕ). n + min (length xs) (length c.pass_front-rest.result.now)) free
    ∙ ap (λ (xs : List ℕ). n + min (length (drop n c.args.into.now)) (length xs)) rest in
    let copied : c.copy_front.new.free ≡ take (length (drop n c.args.into.now)) (drop c.args.self.now.ahead c.args.text.now) ++ drop (length (drop c.args.self.now.ahead c.args.text.now)) (drop n c.args.into.now) =
    c.copy_front.ensures.bytes
    ∙ ap (λ (xs : List ℕ). take (length xs) c.pass_front-rest.result.now ++ drop (length c.pass_front-rest.result.now) xs) free
    ∙ ap (λ (xs : List ℕ). take (length (drop n c.args.into.now)) xs ++ drop (length xs) (drop n c.args.into.now)) rest in
    let content : c.split_at_mut-free.result.0.now ++ c.copy_front.new.free ≡ take n c.args.into.now ++ (take (length (drop n c.args.into.now)) (drop c.args.self.now.ahead c.args.text.now) ++ drop (length (drop c.args.self.now.ahead c.args.text.now)) (drop n c.args.into.now)) =
    ap (λ (xs : List ℕ). xs ++ c.copy_front.new.free) front ∙ ap (λ (xs : List ℕ). take n c.args.into.now ++ xs) copied in
    copied_so c.args.self.now.ahead c.args.self.now.written c.pass_front-rest.new.ahead (c.min-written.result + c.copy_front.result) c.args.into.now c.args.text.now
    (c.split_at_mut-free.result.0.now ++ c.copy_front.new.free) c.pass_front-rest.ensures.ahead count content
