use Rattle.std.proofs.Common.{ℕ, ◌≡◌, ◌+◌, ◌-◌, ◌++◌, List, [], ◌∷◌, length, replicate, vec_capacity, ap, sym, subst, ◌∙◌, arith}
use Rattle.std.proofs.lemmas.List.{append_assoc, replicate_more, length_push}
use Rattle.vv_map.specs.Pages.{StoreState, IsStore}
use Rattle.vv_map.proofs.StoreLemmas.{kept-extend}
use Rattle.vv_map.proofs.page_store.PageStore.extend.Goals as goal

-- one more at the end of a list of equal ones
one_more : {X : Type 0} (xs : List X) (k n : ℕ) (x : X) → k + 1 ≡ n → (xs ++ replicate k x) ++ x ∷ [] ≡ xs ++ replicate n x
one_more xs k n x e = append_assoc xs (replicate k x) (x ∷ []) ∙ ap (λ ys. xs ++ ys) (replicate_more k x ∙ ap (λ m. replicate m x) e)

pub loop-number-preserved : goal.loop-number-preserved
loop-number-preserved g c =
    let inside = c.loop-number.self-inside in
    let inv = c.loop-number.invariant in
    let number = c.loop-number.number in
    let old = length c.args.self.now.pages in
    let pages_now : c.push_reserved.new.self.items ≡ inside.pages.items ++ [] ∷ [] = c.push_reserved.ensures.items ∙ ap (λ (page : List g.row.E.Denot). inside.pages.items ++ page ∷ []) c.unused.ensures in
    let counts_now : c.push_reserved-in-loop-number.new.self.items ≡ inside.counts.items ++ 0 ∷ [] = c.push_reserved-in-loop-number.ensures.items in
    let unused_now : c.push_reserved-in-loop-number-2.new.self.items ≡ inside.unused.items ++ length inside.pages.items ∷ [] = c.push_reserved-in-loop-number-2.ensures.items ∙ ap (λ n. inside.unused.items ++ n ∷ []) (sym inv.size) in
    let old_is : c.len-old.result ≡ old = c.len-old.ensures ∙ (let pages = ap (λ (s : StoreState g.row.E.Denot). length s.pages) c.self.view_is in omega (arith, pages, c.self.inside.pages.ok.0)) in
    let more : number - old + 1 ≡ number + 1 - old = omega (arith, c.loop-number.auto.number, old_is) in
    record {
      kept = subst (λ m. IsStore c.push_reserved.new.self.items c.push_reserved-in-loop-number.new.self.items c.push_reserved-in-loop-number-2.new.self.items m) (sym c.push_reserved-in-loop-number-2.ensures.capacity)
          (subst (λ (us : List ℕ). IsStore c.push_reserved.new.self.items c.push_reserved-in-loop-number.new.self.items us (vec_capacity inside.unused)) (sym unused_now)
          (subst (λ (cs : List ℕ). IsStore c.push_reserved.new.self.items cs (inside.unused.items ++ length inside.pages.items ∷ []) (vec_capacity inside.unused)) (sym counts_now)
          (subst (λ (ps : List (List g.row.E.Denot)). IsStore ps (inside.counts.items ++ 0 ∷ []) (inside.unused.items ++ length inside.pages.items ∷ []) (vec_capacity inside.unused)) (sym pages_now)
          (kept-extend inside.pages.items inside.counts.items inside.unused.items (vec_capacity inside.unused) inv.kept (omega (arith, inv.size, inv.unused_room, c.loop-number-test.true)) (omega (arith, inv.size, c.if-all.false, c.loop-number-test.true))))));
      pages = pages_now ∙ ap (λ (ps : List (List g.row.E.Denot)). ps ++ [] ∷ []) inv.pages ∙ one_more c.args.self.now.pages (number - old) (number + 1 - old) [] more;
      counts = counts_now ∙ ap (λ cs. cs ++ 0 ∷ []) inv.counts ∙ one_more c.args.self.now.counts (number - old) (number + 1 - old) 0 more;
      size = ap length pages_now ∙ length_push inside.pages.items [] ∙ ap (λ n. n + 1) inv.size;
      pages_room = omega (arith, inv.pages_room, c.push_reserved.ensures.capacity);
      counts_room = omega (arith, inv.counts_room, c.push_reserved-in-loop-number.ensures.capacity);
      unused_room = omega (arith, inv.unused_room, c.push_reserved-in-loop-number-2.ensures.capacity);
    }
