-- What the judge calls nothing changes nothing.
use Rattle.std.proofs.Common.{◌≡◌, ℕ, ◌+◌, ◌-◌, ◌==◌, ◌||◌, not, refl, ap, sym, ◌∙◌, Bool, true, false, cond, List, [], ◌∷◌, ◌++◌, map, length, replicate, arith}
use Rattle.std.specs.Prelude.{Option, Some, None, ◌&&◌, is_none, is_some}
use Rattle.std.specs.List.{find, filter, list_any}
use Rattle.std.specs.Str.{bytes_eq}
use Rattle.std.proofs.lemmas.List.{append-nil, length-map}
use Rattle.std.proofs.lemmas.Bool.{eqb-true}
use Rattle.std.proofs.lemmas.Slice.Eq.{bytes_eq-Decides}
use Rattle.vv_units.specs.Pairs.{same_key, note_of, with_pair, without_pair, after_set}
use Rattle.vv_flat.specs.Lists.{if_found, first_changed, first_removed, put_at, mapped_from, any_from}
use Rattle.vv_flat.specs.State.{Durable, Volume, Task, Context, map_durable, volume_of, task_of}
use Rattle.vv_flat.specs.Chunks.{unmapped_in, unmaps_any, is_in_ranges, touched_indexes}
use Rattle.vv_flat.specs.Space.{is_running}
use Rattle.vv_flat.specs.Bindings.{context_of, is_set_to, with_context, is_of_host}
use Rattle.vv_flat.specs.Tasks.{job_turned, turned}
use Rattle.vv_flat.specs.Profiles.{Misfit}
use Rattle.vv_flat.specs.Refusals.{Refusal, Refuse, Nothing, Accept}
use Rattle.vv_flat.specs.Changes.{Change, MakeContainer, MakeVolume, DeleteVolume, GrowVolume, SetMetadata, Snapshot, FastClone, Revert, Write, Unmap, SetEndpoints, Bind, Unbind, UnbindAll, StartClone, StartCopy, Turn, Cancel, stamps_of, metadata_of, has_note, with_volume, effect, judge}
use Rattle.vv_flat.proofs.MapDurable.{map-volume_of}

-- the answer is nothing only where the test of nothing passes
nothing_where : (state : Option Refusal) (n : Bool) (room : Option Refusal)
    → if_found state Refuse (cond n Nothing (if_found room Refuse Accept)) ≡ Nothing → n ≡ true
nothing_where None true room e = refl
nothing_where None false None e = cc
nothing_where None false (Some r) e = cc
nothing_where (Some r) n room e = cc

-- f of the first item that passes, where f leaves that one as it is
module _ {A : Type 0} (p : A → Bool) (g : A → A) where
  same_step : (x : A) (xs : List A) (b : Bool) → p x ≡ b → (b ≡ true → g x ≡ x)
      → (b ≡ false → first_changed p g xs ≡ xs) → cond b (g x ∷ xs) (x ∷ first_changed p g xs) ≡ x ∷ xs
  same_step x xs true e here there = ap (λ y. y ∷ xs) (here refl)
  same_step x xs false e here there = ap (λ ys. x ∷ ys) (there refl)

  pub first_changed-same : (xs : List A) → ((x : A) → find p xs ≡ Some x → g x ≡ x) → first_changed p g xs ≡ xs
  first_changed-same [] h = refl
  first_changed-same (x ∷ xs) h =
      same_step x xs (p x) refl (λ e. h x (rw e))
      (λ e. first_changed-same xs (λ y found. h y (rw e found)))

removed_step : {A : Type 0} (p : A → Bool) (x : A) (xs : List A) (b : Bool) → is_none (cond b (Some x) (find p xs)) ≡ true
    → (is_none (find p xs) ≡ true → first_removed p xs ≡ xs) → cond b xs (x ∷ first_removed p xs) ≡ x ∷ xs
removed_step p x xs true e there = cc
removed_step p x xs false e there = ap (λ ys. x ∷ ys) (there e)

-- without the first item that passes, where none does
pub first_removed-same : {A : Type 0} (p : A → Bool) (xs : List A) → is_none (find p xs) ≡ true → first_removed p xs ≡ xs
first_removed-same p [] e = refl
first_removed-same p (x ∷ xs) e = removed_step p x xs (p x) e (first_removed-same p xs)

filter_step : {A : Type 0} (p : A → Bool) (x : A) (xs : List A) (b : Bool) → not (b || list_any p xs) ≡ true
    → (not (list_any p xs) ≡ true → filter (λ y. not (p y)) xs ≡ xs)
    → cond (not b) (x ∷ filter (λ y. not (p y)) xs) (filter (λ y. not (p y)) xs) ≡ x ∷ xs
filter_step p x xs true e there = cc
filter_step p x xs false e there = ap (λ ys. x ∷ ys) (there e)

-- without all items that pass, where none does
pub filter-same : {A : Type 0} (p : A → Bool) (xs : List A) → not (list_any p xs) ≡ true → filter (λ y. not (p y)) xs ≡ xs
filter-same p [] e = refl
filter-same p (x ∷ xs) e = filter_step p x xs (p x) e (filter-same p xs)

unmap_step : {X : Type 0} (s : X → ℕ) (u x : X) (xs ys : List X) (a b : Bool) → not (a || b) ≡ true
    → (not b ≡ true → ys ≡ xs) → ◌≡◌ {A = List X} (cond a u x ∷ ys) (x ∷ xs)
unmap_step s u x xs ys true b e there = cc
unmap_step s u x xs ys false b e there = ap (λ zs. x ∷ zs) (there e)

unmap_from : {X : Type 0} (s : X → ℕ) (u : X) (ranges : List (ℕ × ℕ)) (i : ℕ) (xs : List X)
    → not (any_from (λ j t. is_in_ranges ranges j && not (t == 0)) i (map s xs)) ≡ true
    → mapped_from (λ j x. cond (is_in_ranges ranges j && not (s x == 0)) u x) i xs ≡ xs
unmap_from s u ranges i [] e = refl
unmap_from s u ranges i (x ∷ xs) e =
    unmap_step s u x xs _ (is_in_ranges ranges i && not (s x == 0)) _ e (unmap_from s u ranges (i + 1) xs)

-- the metadata with the note that a key has, or without a key that it hasn't
set_step : (p : List ℕ × List ℕ) (pairs : List (List ℕ × List ℕ)) (key text : List ℕ) (b : Bool)
    → if_found (cond b (Some p.1) (note_of pairs key)) (λ old. bytes_eq old text) false ≡ true
    → (if_found (note_of pairs key) (λ old. bytes_eq old text) false ≡ true → with_pair pairs key text ≡ pairs)
    → cond b ((p.0, text) ∷ pairs) (p ∷ with_pair pairs key text) ≡ p ∷ pairs
set_step p pairs key text true same there =
    let old : p.1 ≡ text = (bytes_eq-Decides p.1 text).0 same in ap (λ t. (p.0, t) ∷ pairs) (sym old)
set_step p pairs key text false same there = ap (λ ps. p ∷ ps) (there same)

set_note_same : (pairs : List (List ℕ × List ℕ)) (key text : List ℕ)
    → if_found (note_of pairs key) (λ old. bytes_eq old text) false ≡ true → with_pair pairs key text ≡ pairs
set_note_same [] key text same = cc
set_note_same (p ∷ pairs) key text same = set_step p pairs key text (same_key key p.0) same (set_note_same pairs key text)

unset_step : (p : List ℕ × List ℕ) (pairs : List (List ℕ × List ℕ)) (key : List ℕ) (b : Bool)
    → is_none (cond b (Some p.1) (note_of pairs key)) ≡ true
    → (is_none (note_of pairs key) ≡ true → without_pair pairs key ≡ pairs)
    → cond b pairs (p ∷ without_pair pairs key) ≡ p ∷ pairs
unset_step p pairs key true none there = cc
unset_step p pairs key false none there = ap (λ ps. p ∷ ps) (there none)

no_note_same : (pairs : List (List ℕ × List ℕ)) (key : List ℕ) → is_none (note_of pairs key) ≡ true → without_pair pairs key ≡ pairs
no_note_same [] key none = refl
no_note_same (p ∷ pairs) key none = unset_step p pairs key (same_key key p.0) none (no_note_same pairs key)

pub after_set-same : (pairs : List (List ℕ × List ℕ)) (key : List ℕ) (text : Option (List ℕ))
    → has_note pairs key text ≡ true → after_set pairs key text ≡ pairs
after_set-same pairs key None e = no_note_same pairs key e
after_set-same pairs key (Some text) e = set_note_same pairs key text e

-- setting the context that stands
context_same : (contexts : List Context) (host : ℕ) (endpoints : List ℕ) (o : Option Context)
    → find (λ (c : Context). c.host == host) contexts ≡ o → if_found o (λ c. bytes_eq c.endpoints endpoints) false ≡ true
    → (is_some o ≡ true) × (first_changed (λ (c : Context). c.host == host) (λ c. record c { endpoints = endpoints }) contexts ≡ contexts)
context_same contexts host endpoints None e same = cc
context_same contexts host endpoints (Some c) e same = (
  refl,
  first_changed-same (λ (b : Context). b.host == host) (λ b. record b { endpoints = endpoints }) contexts
      (λ b found. let is_c : ◌≡◌ {A = Context} c b = cc in
      let old : c.endpoints ≡ endpoints = (bytes_eq-Decides c.endpoints endpoints).0 same in
      let new : b.endpoints ≡ endpoints = rw is_c at old in ap (λ es. record b { endpoints = es }) (sym new)),
)

pub with_context-same : (contexts : List Context) (host : ℕ) (endpoints : List ℕ)
    → is_set_to contexts host endpoints ≡ true → with_context contexts host endpoints ≡ contexts
with_context-same contexts host endpoints e =
    let both : (is_some (context_of contexts host) ≡ true) × (first_changed (λ (c : Context). c.host == host) (λ c. record c { endpoints = endpoints }) contexts ≡ contexts) =
    context_same contexts host endpoints (context_of contexts host) refl e in
    rw both.0 both.1

module _ {X : Type 0} (s : X → ℕ) (u : X) where
  -- what the judge sees of a volume that stands
  pub stamps_found : (d : Durable X) (n : ℕ) (v : Volume X) → volume_of d n ≡ Some v → stamps_of (map_durable s d) n ≡ map s v.chunks
  stamps_found d n v e =
      sym (map-volume_of s d n (λ xs. xs) (λ w. map s w.chunks) (λ w. w.chunks) [] [] (λ w. refl) refl)
      ∙ ap (λ o. if_found o (λ w. map s w.chunks) []) e

  metadata_found : (d : Durable X) (n : ℕ) (v : Volume X) → volume_of d n ≡ Some v → metadata_of (map_durable s d) n ≡ v.metadata
  metadata_found d n v e =
      sym (map-volume_of s d n (λ m. m) (λ w. w.metadata) (λ w. w.metadata) [] [] (λ w. refl) refl)
      ∙ ap (λ o. if_found o (λ w. w.metadata) []) e

  pub with_volume-same : (d : Durable X) (n : ℕ) (g : Volume X → Volume X) → ((v : Volume X) → volume_of d n ≡ Some v → g v ≡ v)
      → with_volume d n g ≡ d
  with_volume-same d n g h = ap (λ vs. record d { volumes = vs }) (first_changed-same (λ v. v.number == n) g d.volumes h)

  grown_same : (chunks : ℕ) (xs : List X) (stamps : List ℕ) → stamps ≡ map s xs → (chunks == length stamps) ≡ true
      → xs ++ replicate (chunks - length xs) u ≡ xs
  grown_same chunks xs stamps e same =
      let long : length stamps ≡ length xs = ap length e ∙ length-map xs s in
      let none : chunks - length xs ≡ 0 = omega (arith, eqb-true chunks (length stamps) same, long) in
      rw none (append-nil xs)

  written_same : (B first blocks : ℕ) (values xs : List X) → (blocks == 0) ≡ true → put_at (touched_indexes B first blocks) values xs ≡ xs
  written_same B first blocks values xs e = rw e

  turned_same : (values : List X) (d : Durable X) (o : Option Task) → not (if_found o is_running false) ≡ true
      → if_found o (λ t. cond (is_running t) (job_turned s values d t t.job) d) d ≡ d
  turned_same values d None e = refl
  turned_same values d (Some t) e = stopped (is_running t) e
    where
      stopped : (b : Bool) → not b ≡ true → cond b (job_turned s values d t t.job) d ≡ d
      stopped true e = cc
      stopped false e = refl

  pub nothing_changes : (misfit : Option Misfit) (values : List X) (d : Durable X) (c : Change)
      → judge misfit (map_durable s d) c ≡ Nothing → effect s values u d c ≡ d
  unfolding judge effect turned
  nothing_changes misfit values d (MakeContainer quota offers) e = let f : false ≡ true = nothing_where None _ _ e in cc
  nothing_changes misfit values d (MakeVolume k vtype chunks needs) e = let f : false ≡ true = nothing_where _ _ _ e in cc
  nothing_changes misfit values d (DeleteVolume n) e = let f : false ≡ true = nothing_where _ _ _ e in cc
  nothing_changes misfit values d (GrowVolume n chunks) e =
      let same : (chunks == length (stamps_of (map_durable s d) n)) ≡ true = nothing_where _ _ _ e in
      with_volume-same d n (λ v. record v { chunks = v.chunks ++ replicate (chunks - length v.chunks) u })
      (λ v found. ap (λ xs. record v { chunks = xs })
      (grown_same chunks v.chunks (stamps_of (map_durable s d) n) (stamps_found d n v found) same))
  nothing_changes misfit values d (SetMetadata n key text) e =
      let same : has_note (metadata_of (map_durable s d) n) key text ≡ true = nothing_where _ _ _ e in
      with_volume-same d n (λ v. record v { metadata = after_set v.metadata key text })
      (λ v found. ap (λ m. record v { metadata = m })
      (after_set-same v.metadata key text (rw (metadata_found d n v found) at same)))
  nothing_changes misfit values d (Snapshot n) e = let f : false ≡ true = nothing_where _ _ _ e in cc
  nothing_changes misfit values d (FastClone n) e = let f : false ≡ true = nothing_where _ _ _ e in cc
  nothing_changes misfit values d (Revert n snapshot) e = let f : false ≡ true = nothing_where _ _ _ e in cc
  nothing_changes misfit values d (Write n first blocks) e =
      let same : (blocks == 0) ≡ true = nothing_where _ _ _ e in
      with_volume-same d n (λ v. record v { chunks = put_at (touched_indexes d.geometry.chunk_blocks first blocks) values v.chunks })
      (λ v found. ap (λ xs. record v { chunks = xs }) (written_same d.geometry.chunk_blocks first blocks values v.chunks same))
  nothing_changes misfit values d (Unmap n ranges) e =
      let same : not (unmaps_any ranges (stamps_of (map_durable s d) n)) ≡ true = nothing_where _ _ _ e in
      with_volume-same d n (λ v. record v { chunks = unmapped_in s u ranges v.chunks })
      (λ v found. ap (λ xs. record v { chunks = xs })
      (unmap_from s u ranges 0 v.chunks (rw (stamps_found d n v found) at same)))
  nothing_changes misfit values d (SetEndpoints host endpoints) e =
      ap (λ cs. record d { contexts = cs }) (with_context-same d.contexts host endpoints (nothing_where _ _ _ e))
  nothing_changes misfit values d (Bind host n) e = let f : false ≡ true = nothing_where _ _ _ e in cc
  nothing_changes misfit values d (Unbind host endpoint secondary) e = let f : false ≡ true = nothing_where _ _ _ e in cc
  nothing_changes misfit values d (UnbindAll host) e =
      ap (λ bs. record d { bindings = bs }) (filter-same (is_of_host host) d.bindings (nothing_where None _ _ e))
  nothing_changes misfit values d (StartClone n) e = let f : false ≡ true = nothing_where _ _ _ e in cc
  nothing_changes misfit values d (StartCopy source base target) e = let f : false ≡ true = nothing_where _ _ _ e in cc
  nothing_changes misfit values d (Turn n) e = turned_same values d (task_of d n) (nothing_where _ _ _ e)
  nothing_changes misfit values d (Cancel n) e = let f : false ≡ true = nothing_where _ _ _ e in cc
