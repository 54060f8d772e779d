-- Tables that are put together again: an item above all others comes last, and the entries of the shelf and those of the tables
-- share places with new ones alike.
use Rattle.std.proofs.Common.{ℕ, ◌≡◌, ◌+◌, ◌<◌, ◌==◌, ◌&&◌, ◌||◌, not, Bool, true, false, cond, List, [], ◌∷◌, ◌++◌, count_by, Option, Some, None, refl, sym, ap, ◌∙◌, arith}
use Rattle.std.specs.Prelude.{nat_lt, is_some, if◌then◌else◌}
use Rattle.std.specs.List.{find, list_all}
use Rattle.std.proofs.lemmas.Bool.{ne_eqb, ltb-true}
use Rattle.std.proofs.lemmas.Bool.Decides.{nat_tests}
use Rattle.std.proofs.lemmas.List.Sums.{sum_by-append}
use Rattle.vv_flat.specs.Lists.{put_before, first_changed}
use Rattle.vv_flat.specs.State.{Volume, Context, Address, Binding, Piece, Task, all_pieces}
use Rattle.vv_flat.specs.Chunks.{Entry}
use Rattle.vv_flat.specs.Bindings.{is_address, is_below, binding_at, with_context}
use Rattle.vv_flat.specs.Sharing.{shares_places}
use Rattle.vv_flat.proofs.Shares.{and_left, and_right, list_all-follows}
use Rattle.vv_container.specs.Table.{ChargedContainer}
use Rattle.vv_bind.specs.Table.{BindState, with_one_more}
use Rattle.vv_vols.specs.Shelf.{ShelfState, shelf_pieces}
use Rattle.vv_vols.specs.Calls.{with_made}
use Rattle.vv_tables.specs.declared.rows.CloneRow.{CloneRow}
use Rattle.vv_tables.specs.declared.rows.CopyRow.{CopyRow}
use Rattle.vv_tables.specs.Seen.{seen_durable}
use Rattle.vv_tables.specs.Kept.{AreHeld}
use Rattle.vv_tables.proofs.SeenChanges.{put_last}
use Rattle.vv_tables.proofs.ShelfCounts.{SameCounts, same_sharing, same_counts}

-- ---- an item above all others
pub none_has : {A : Type 0} (key : A → ℕ) (n : ℕ) (xs : List A) → list_all (λ y. nat_lt (key y) n) xs ≡ true → find (λ y. key y == n) xs ≡ None
none_has key n [] above = refl
none_has key n (y ∷ ys) above =
    let lt : key y < n = ltb-true (key y) n (and_left (nat_lt (key y) n) (list_all (λ z. nat_lt (key z) n) ys) above) in
    ap (λ b. cond b (Some y) (find (λ z. key z == n) ys)) (ne_eqb (key y) n (λ e. omega (arith, lt, e)))
    ∙ none_has key n ys (and_right (nat_lt (key y) n) (list_all (λ z. nat_lt (key z) n) ys) above)

-- .. by any order
put_behind : {A : Type 0} (x : A) (before : A → Bool) (xs : List A) → list_all (λ y. not (before y)) xs ≡ true → put_before before x xs ≡ xs ++ x ∷ []
put_behind x before [] all = refl
put_behind x before (y ∷ ys) all =
    ap (λ b. cond b (x ∷ y ∷ ys) (y ∷ put_before before x ys)) (isnt (before y) (and_left (not (before y)) (list_all (λ z. not (before z)) ys) all))
    ∙ ap (λ zs. y ∷ zs) (put_behind x before ys (and_right (not (before y)) (list_all (λ z. not (before z)) ys) all))
  where
    isnt : (b : Bool) → not b ≡ true → b ≡ false
    isnt true e = absurd (cc)
    isnt false e = refl

-- ---- contexts and bindings
pub context_last : (contexts : List Context) (host : ℕ) (endpoints : List ℕ) → list_all (λ (c : Context). nat_lt c.host host) contexts ≡ true
    → with_context contexts host endpoints ≡ contexts ++ record { host = host; endpoints = endpoints } ∷ []
context_last contexts host endpoints above =
    let new : Context = record { host = host; endpoints = endpoints } in
    ap (λ (o : Option Context). if is_some o then first_changed (λ (c : Context). c.host == host) (λ (c : Context). record c { endpoints = endpoints }) contexts
    else put_before (λ (c : Context). nat_lt host c.host) new contexts) (none_has (λ (c : Context). c.host) host contexts above)
    ∙ put_last (λ (c : Context). c.host) new contexts above

below_turn : (a b : Address) → is_below a b ≡ true → not (is_below b a) ≡ true
below_turn a b e = go a.host a.endpoint a.secondary b.host b.endpoint b.secondary e
  where
    go : (h e s h' e' s' : ℕ) → (nat_lt h h' || ((h == h') && (nat_lt e e' || ((e == e') && nat_lt s s')))) ≡ true
        → not (nat_lt h' h || ((h' == h) && (nat_lt e' e || ((e' == e) && nat_lt s' s)))) ≡ true
    go h e s h' e' s' lt = grind (arith, nat_tests)

below_apart : (a b : Address) → is_below a b ≡ true → is_address a b ≡ false
below_apart a b e = go a.host a.endpoint a.secondary b.host b.endpoint b.secondary e
  where
    go : (h e s h' e' s' : ℕ) → (nat_lt h h' || ((h == h') && (nat_lt e e' || ((e == e') && nat_lt s s')))) ≡ true
        → ((h == h') && (e == e') && (s == s')) ≡ false
    go h e s h' e' s' lt = grind (arith, nat_tests)

pub binding_free : (bindings : List Binding) (a : Address) → list_all (λ (b : Binding). is_below b.address a) bindings ≡ true → binding_at bindings a ≡ None
binding_free [] a above = refl
binding_free (b ∷ bs) a above =
    ap (λ t. cond t (Some b) (binding_at bs a)) (below_apart b.address a (and_left (is_below b.address a) (list_all (λ (c : Binding). is_below c.address a) bs) above))
    ∙ binding_free bs a (and_right (is_below b.address a) (list_all (λ (c : Binding). is_below c.address a) bs) above)

none_below : (bindings : List Binding) (a : Address) → list_all (λ (b : Binding). is_below b.address a) bindings ≡ true → list_all (λ (b : Binding). not (is_below a b.address)) bindings ≡ true
none_below bindings a above = list_all-follows (λ (b : Binding). is_below b.address a) (λ (b : Binding). not (is_below a b.address)) (λ b e. below_turn b.address a e) bindings above

pub binding_last : (bindings : List Binding) (new : Binding) → list_all (λ (b : Binding). is_below b.address new.address) bindings ≡ true
    → with_one_more bindings new ≡ bindings ++ new ∷ []
binding_last bindings new above = put_behind new (λ (b : Binding). is_below new.address b.address) bindings (none_below bindings new.address above)

-- ---- entries
more_counts : {A : Type 0} (xs ys zs : List A) → SameCounts xs ys → SameCounts (xs ++ zs) (ys ++ zs)
more_counts xs ys zs same p =
    sum_by-append (λ x. cond (p x) 1 0) xs zs ∙ ap (λ n. n + count_by p zs) (same p) ∙ sym (sum_by-append (λ x. cond (p x) 1 0) ys zs)

module _ (lsn : ℕ) (s : ShelfState) (containers : List ChargedContainer) (bindings : BindState) (tasks : List Task) (clones : List CloneRow) (copies : List CopyRow) where
  pub shares_with : AreHeld s clones copies → (new : List (Piece Entry))
      → shares_places s.geometry.pool_chunks (all_pieces (seen_durable lsn s containers bindings tasks clones copies) ++ new) ≡ true
      → shares_places s.geometry.pool_chunks (shelf_pieces s ++ new) ≡ true
  shares_with held new shares =
      same_sharing s.geometry.pool_chunks (shelf_pieces s ++ new) (all_pieces (seen_durable lsn s containers bindings tasks clones copies) ++ new)
      (more_counts (shelf_pieces s) (all_pieces (seen_durable lsn s containers bindings tasks clones copies)) new (same_counts lsn s containers bindings tasks clones copies held)) ∙ shares

  pub volume_last : (v : Volume Entry) → list_all (λ (w : Volume Entry). nat_lt w.number v.number) s.volumes ≡ true
      → seen_durable lsn (with_made s v) containers bindings tasks clones copies
      ≡ record (seen_durable lsn s containers bindings tasks clones copies) { volumes = s.volumes ++ v ∷ [] }
  volume_last v above =
      ap (λ (vs : List (Volume Entry)). record (seen_durable lsn s containers bindings tasks clones copies) { volumes = vs }) (put_last (λ (w : Volume Entry). w.number) v s.volumes above)
