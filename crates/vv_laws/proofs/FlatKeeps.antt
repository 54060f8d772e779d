-- What an accepted change keeps of a flat array: stamps were given by the log, and tell the bytes of chunks.
use Rattle.std.proofs.Common.{◌≡◌, ◌≤◌, ◌<◌, ℕ, ◌+◌, ◌==◌, ◌&&◌, ◌||◌, not, refl, ap, sym, ◌∙◌, Bool, true, false, List, [], ◌∷◌, arith}
use Rattle.std.specs.Prelude.{Option, Some, None, nat_lt, nat_le}
use Rattle.std.specs.List.{list_all}
use Rattle.std.specs.Str.{bytes_eq}
use Rattle.std.proofs.lemmas.Bool.{not-true, ltb-true, leb-true, le-leb, eqb-true, eq-eqb, ne_eqb}
use Rattle.std.proofs.lemmas.Slice.Eq.{bytes_eq-Decides}
use Rattle.vv_flat.specs.Lists.{if_found, all_rising}
use Rattle.vv_flat.specs.State.{Durable, Volume, RunningClone, RunningCopy, Piece, indexed, all_pieces}
use Rattle.vv_flat.specs.Chunks.{ChunkValue}
use Rattle.vv_flat.specs.Sharing.{is_told_by_stamp}
use Rattle.vv_flat.specs.Rules.{is_logged}
use Rattle.vv_flat.specs.FlatForm.{is_given}
use Rattle.vv_flat.specs.Changes.{Change, effect, changed_indexes, new_stamp}
use Rattle.vv_flat.proofs.Shares.{and_left, and_right, and_both, list_all-follows, list_all-both}
use Rattle.vv_flat.proofs.NewEntries.{all-always, all-swap, eq_turn, above_each, above_rises}
use Rattle.vv_laws.proofs.Standing.{AllPass, new_home, pieces_at, stays_right}
use Rattle.vv_laws.proofs.NewStamps.{New, Clones, misses, weaker, pieces_pass, pass_pieces, new_of}

-- what holds of all values at some indexes
pub each_at : {X : Type 0} (t : Piece X → Bool) (g : ℕ → Bool) (h : X → Bool)
    → ((i : ℕ) (v : X) → g i ≡ true → h v ≡ true → t (record { index = i; chunk = v }) ≡ true) → (is : List ℕ) (vs : List X)
    → list_all g is ≡ true → list_all h vs ≡ true → list_all t (pieces_at is vs) ≡ true
each_at t g h e [] vs a b = refl
each_at t g h e (i ∷ is) [] a b = refl
each_at t g h e (i ∷ is) (v ∷ vs) a b =
    and_both (t (record { index = i; chunk = v })) _ (e i v (and_left (g i) (list_all g is) a) (and_left (h v) (list_all h vs) b))
    (each_at t g h e is vs (and_right (g i) (list_all g is) a) (and_right (h v) (list_all h vs) b))

or_this : (a b : Bool) → a ≡ true → (a || b) ≡ true
or_this true b e = refl
or_this false b e = cc

or_that : (a b : Bool) → b ≡ true → (a || b) ≡ true
or_that true b e = refl
or_that false b e = e

all_trivial : {X : Type 0} (q : ℕ → Bool) (d : Durable X) → list_all (λ (c : RunningClone X). q c.number) d.clones ≡ true → AllPass X (λ o p. true) q d
all_trivial {X} q d e = record {
  volumes = all-always _ (λ (v : Volume X). all-always (λ (p : Piece X). true) (λ p. refl) (indexed v.chunks)) d.volumes;
  clones = all-always _ (λ (c : RunningClone X). and_both _ _ (all-always (λ (p : Piece X). true) (λ p. refl) (indexed c.image)) (all-always (λ (p : Piece X). true) (λ p. refl) (indexed c.target))) d.clones;
  copies = all-always _ (λ (c : RunningCopy X). all-always (λ (p : Piece X). true) (λ p. refl) c.pieces) d.copies;
  numbers = e;
}

module _ {X : Type 0} (stamp_of : X → ℕ) (u : X) (zero_stamp : stamp_of u ≡ 0) (d : Durable X) (clones : Clones X stamp_of d)
    (old : AllPass X (λ o p. is_given d.lsn d.clones o (stamp_of p.chunk)) (λ _. true) d) (values : List X) (change : Change)
    (stamped : list_all (λ v. stamp_of v == new_stamp d change) values ≡ true) where
  abbrev after : Durable X
  after = effect stamp_of values u d change

  abbrev indexes : List ℕ
  indexes = changed_indexes stamp_of d change

  abbrev news : List (Piece X)
  news = pieces_at indexes values

  pub new : New X stamp_of d after.clones (new_stamp d change) (new_home change) indexes
  new = new_of stamp_of u d clones old values change

  -- the clones that run afterwards ran before, or have the next log number
  numbers_after : (q : ℕ → Bool) → list_all (λ (c : RunningClone X). q c.number) d.clones ≡ true → q (d.lsn + 1) ≡ true
      → list_all (λ (c : RunningClone X). q c.number) after.clones ≡ true
  numbers_after q e next =
      (stays_right stamp_of u d values change (λ o p. true) q (record {
        free = (λ o i. refl);
        stands = all_trivial q d e;
        ends = (λ n gone p h. refl);
        next = next;
        rise = clones.rise;
      }) (all-always (λ (p : Piece X). true) (λ p. refl) news)).numbers

  abbrev given : Option ℕ → ℕ → Bool
  given o s = is_given (d.lsn + 1) after.clones o s

  free_given : (o : Option ℕ) → given o 0 ≡ true
  free_given o =
      and_both (nat_le 0 (d.lsn + 1)) _ (le-leb 0 (d.lsn + 1) (omega arith))
      (list_all-follows (λ (c : RunningClone X). not (0 == c.number)) (λ (c : RunningClone X). not (0 == c.number) || if_found o (λ n. n == c.number) false)
      (λ c e. or_this (not (0 == c.number)) _ e) after.clones
      (numbers_after (λ m. not (0 == m))
      (list_all-follows (λ (c : RunningClone X). is_logged d.lsn c.number) (λ (c : RunningClone X). not (0 == c.number))
      (λ c e. let least : 1 ≤ c.number = leb-true 1 c.number (and_left (nat_le 1 c.number) (nat_le c.number d.lsn) e) in
      ap not (ne_eqb 0 c.number (λ f. omega arith))) d.clones clones.logged)
      (ap not (ne_eqb 0 (d.lsn + 1) (λ f. omega arith)))))

  old_given : (o : Option ℕ) (s : ℕ) → is_given d.lsn d.clones o s ≡ true → given o s ≡ true
  old_given o s e =
      let le : s ≤ d.lsn = leb-true s d.lsn (and_left (nat_le s d.lsn) _ e) in
      and_both (nat_le s (d.lsn + 1)) _ (le-leb s (d.lsn + 1) (omega arith))
      (numbers_after (λ m. not (s == m) || if_found o (λ n. n == m) false) (and_right (nat_le s d.lsn) _ e)
      (or_this (not (s == d.lsn + 1)) _ (ap not (ne_eqb s (d.lsn + 1) (λ f. omega arith)))))

  -- a chunk of a target whose clone is no more may stand elsewhere
  ended_given : (n s : ℕ) → list_all (λ (c : RunningClone X). not (c.number == n)) after.clones ≡ true → given (Some n) s ≡ true → given None s ≡ true
  ended_given n s gone e =
      and_both (nat_le s (d.lsn + 1)) _ (and_left (nat_le s (d.lsn + 1)) _ e)
      (list_all-both (λ (c : RunningClone X). not (c.number == n)) (λ (c : RunningClone X). not (s == c.number) || (n == c.number))
      (λ (c : RunningClone X). not (s == c.number) || false)
      (λ c f g. ap (λ b. not (s == c.number) || b) (sym (eq_turn n c.number ∙ not-true (c.number == n) f)) ∙ g)
      after.clones gone (and_right (nat_le s (d.lsn + 1)) _ e))

  new_given : list_all (λ (p : Piece X). given (new_home change) (stamp_of p.chunk)) news ≡ true
  new_given =
      each_at (λ (p : Piece X). given (new_home change) (stamp_of p.chunk))
      (λ _. given (new_home change) (new_stamp d change)) (λ v. stamp_of v == new_stamp d change)
      (λ i v e f. ap (given (new_home change)) (eqb-true (stamp_of v) (new_stamp d change) f) ∙ e) indexes values
      (list_all-both (λ _. not (new_stamp d change == 0) && nat_le (new_stamp d change) (d.lsn + 1))
      (λ _. list_all (λ (c : RunningClone X). not (new_stamp d change == c.number) || if_found (new_home change) (λ n. n == c.number) false) after.clones)
      (λ _. given (new_home change) (new_stamp d change))
      (λ i e f. and_both (nat_le (new_stamp d change) (d.lsn + 1)) _ (and_right (not (new_stamp d change == 0)) _ e) f) indexes new.given new.owned)
      stamped

  -- All stamps were given afterwards too.
  pub stamps_after : AllPass X (λ o p. given o (stamp_of p.chunk)) (λ _. true) after
  stamps_after =
      stays_right stamp_of u d values change (λ o p. given o (stamp_of p.chunk)) (λ _. true) (record {
        free = (λ o i. ap (given o) zero_stamp ∙ free_given o);
        stands = weaker (λ o p. is_given d.lsn d.clones o (stamp_of p.chunk)) (λ o p. given o (stamp_of p.chunk)) (λ _. true) d
            (λ o p e. old_given o (stamp_of p.chunk) e) old;
        ends = (λ n gone p e. ended_given n (stamp_of p.chunk) gone e);
        next = refl;
        rise = clones.rise;
      }) new_given

-- Stamps that tell bytes.

told_apart : (a b : Piece ChunkValue) → ((a.index == b.index) && (a.chunk.stamp == b.chunk.stamp)) ≡ false → is_told_by_stamp a b ≡ true
told_apart a b e = ap (λ c. not c || (a.chunk.stamp == 0) || bytes_eq a.chunk.bytes b.chunk.bytes) e

told_self : (a : Piece ChunkValue) → is_told_by_stamp a a ≡ true
told_self a = or_that _ _ ((bytes_eq-Decides a.chunk.bytes a.chunk.bytes).1 refl)

told_turn : (a b : Piece ChunkValue) → is_told_by_stamp a b ≡ true → is_told_by_stamp b a ≡ true
told_turn a b e = go ((a.index == b.index) && (a.chunk.stamp == b.chunk.stamp)) refl e
  where
    turned : ((a.index == b.index) && (a.chunk.stamp == b.chunk.stamp)) ≡ ((b.index == a.index) && (b.chunk.stamp == a.chunk.stamp))
    turned = ap (λ c. c && (a.chunk.stamp == b.chunk.stamp)) (eq_turn a.index b.index) ∙ ap (λ c. (b.index == a.index) && c) (eq_turn a.chunk.stamp b.chunk.stamp)

    of_zero : (z : Bool) → (a.chunk.stamp == 0) ≡ z → a.chunk.stamp ≡ b.chunk.stamp → (z || bytes_eq a.chunk.bytes b.chunk.bytes) ≡ true
        → ((b.chunk.stamp == 0) || bytes_eq b.chunk.bytes a.chunk.bytes) ≡ true
    of_zero true is same f = or_this _ _ (ap (λ s. s == 0) (sym same) ∙ is)
    of_zero false is same f =
        let equal : a.chunk.bytes ≡ b.chunk.bytes = (bytes_eq-Decides a.chunk.bytes b.chunk.bytes).0 f in
        or_that _ _ ((bytes_eq-Decides b.chunk.bytes a.chunk.bytes).1 (sym equal))

    go : (c : Bool) → ((a.index == b.index) && (a.chunk.stamp == b.chunk.stamp)) ≡ c
        → (not c || (a.chunk.stamp == 0) || bytes_eq a.chunk.bytes b.chunk.bytes) ≡ true → is_told_by_stamp b a ≡ true
    go false is f = told_apart b a (sym turned ∙ is)
    go true is f =
        let same : a.chunk.stamp ≡ b.chunk.stamp = eqb-true a.chunk.stamp b.chunk.stamp (and_right (a.index == b.index) _ is) in
        ap (λ c. not c || (b.chunk.stamp == 0) || bytes_eq b.chunk.bytes a.chunk.bytes) (sym turned ∙ is)
        ∙ of_zero (a.chunk.stamp == 0) refl same f

-- an unmapped chunk tells no bytes
told_unmapped : (u : ChunkValue) → u.stamp ≡ 0 → (i : ℕ) (a : Piece ChunkValue) → is_told_by_stamp (record { index = i; chunk = u }) a ≡ true
told_unmapped u zero i a =
    or_this _ (bytes_eq u.bytes a.chunk.bytes)
    (or_that (not ((i == a.index) && (u.stamp == a.chunk.stamp))) (u.stamp == 0) (eq-eqb u.stamp 0 zero))

-- two new ones are at different indexes
each_told : (is : List ℕ) (vs : List ChunkValue) → all_rising is ≡ true
    → list_all (λ a. list_all (is_told_by_stamp a) (pieces_at is vs)) (pieces_at is vs) ≡ true
each_told [] vs rises = refl
each_told (i ∷ is) [] rises = refl
each_told (i ∷ is) (v ∷ vs) rises =
    let a : Piece ChunkValue = record { index = i; chunk = v } in
    let rest : List (Piece ChunkValue) = pieces_at is vs in
    let later : list_all (is_told_by_stamp a) rest ≡ true =
    each_at (is_told_by_stamp a) (nat_lt i) (λ _. true)
    (λ j w e f. let lt : i < j = ltb-true i j e in
    told_apart a (record { index = j; chunk = w }) (ap (λ b. b && (v.stamp == w.stamp)) (ne_eqb i j (λ g. omega arith)))) is vs
    (above_each i i (omega arith) is rises) (all-always (λ (w : ChunkValue). true) (λ w. refl) vs) in
    and_both (is_told_by_stamp a a && list_all (is_told_by_stamp a) rest) _ (and_both (is_told_by_stamp a a) _ (told_self a) later)
    (list_all-both (is_told_by_stamp a) (λ b. list_all (is_told_by_stamp b) rest) (λ b. is_told_by_stamp b a && list_all (is_told_by_stamp b) rest)
    (λ b e f. and_both (is_told_by_stamp b a) (list_all (is_told_by_stamp b) rest) (told_turn a b e) f) rest later
    (each_told is vs (above_rises i is rises)))

module _ (u : ChunkValue) (zero_stamp : u.stamp ≡ 0) (d : Durable ChunkValue) (clones : Clones ChunkValue (λ x. x.stamp) d)
    (old : AllPass ChunkValue (λ o p. is_given d.lsn d.clones o p.chunk.stamp) (λ _. true) d) (values : List ChunkValue) (change : Change)
    (stamped : list_all (λ (v : ChunkValue). v.stamp == new_stamp d change) values ≡ true)
    (told : list_all (λ (a : Piece ChunkValue). list_all (is_told_by_stamp a) (all_pieces d)) (all_pieces d) ≡ true) where
  abbrev end : Durable ChunkValue
  end = effect (λ x. x.stamp) values u d change

  abbrev fresh : List (Piece ChunkValue)
  fresh = pieces_at (changed_indexes (λ (x : ChunkValue). x.stamp) d change) values

  arrived : New ChunkValue (λ x. x.stamp) d end.clones (new_stamp d change) (new_home change) (changed_indexes (λ (x : ChunkValue). x.stamp) d change)
  arrived = new (λ (x : ChunkValue). x.stamp) u zero_stamp d clones old values change stamped

  old_meet_new : list_all (λ (a : Piece ChunkValue). list_all (is_told_by_stamp a) fresh) (all_pieces d) ≡ true
  old_meet_new =
      list_all-follows (misses (λ (x : ChunkValue). x.stamp) (changed_indexes (λ (x : ChunkValue). x.stamp) d change) (new_stamp d change))
      (λ a. list_all (is_told_by_stamp a) fresh)
      (λ a e. each_at (is_told_by_stamp a) (λ i. not ((a.index == i) && (a.chunk.stamp == new_stamp d change))) (λ (v : ChunkValue). v.stamp == new_stamp d change)
      (λ i v f g. told_apart a (record { index = i; chunk = v })
      (ap (λ s. (a.index == i) && (a.chunk.stamp == s)) (eqb-true v.stamp (new_stamp d change) g) ∙ not-true _ f))
      (changed_indexes (λ (x : ChunkValue). x.stamp) d change) values e stamped)
      (all_pieces d) arrived.misses_old

  new_meet_old : list_all (λ (b : Piece ChunkValue). list_all (is_told_by_stamp b) (all_pieces d)) fresh ≡ true
  new_meet_old =
      list_all-follows (λ (b : Piece ChunkValue). list_all (λ a. is_told_by_stamp a b) (all_pieces d)) (λ (b : Piece ChunkValue). list_all (is_told_by_stamp b) (all_pieces d))
      (λ b e. list_all-follows (λ a. is_told_by_stamp a b) (is_told_by_stamp b) (λ a f. told_turn a b f) (all_pieces d) e) fresh
      (all-swap is_told_by_stamp (all_pieces d) fresh old_meet_new)

  -- what is told by all old chunks and all new ones is told by all that stand afterwards
  meets_all : (a : Piece ChunkValue) → list_all (is_told_by_stamp a) (all_pieces d) ≡ true → list_all (is_told_by_stamp a) fresh ≡ true
      → list_all (is_told_by_stamp a) (all_pieces end) ≡ true
  meets_all a e f =
      pieces_pass (is_told_by_stamp a) (λ _. true) end
      (stays_right (λ (x : ChunkValue). x.stamp) u d values change (λ o p. is_told_by_stamp a p) (λ _. true) (record {
        free = (λ o i. told_turn (record { index = i; chunk = u }) a (told_unmapped u zero_stamp i a));
        stands = pass_pieces (is_told_by_stamp a) d e;
        ends = (λ n gone p h. h);
        next = refl;
        rise = clones.rise;
      }) f)

  -- So stamps tell bytes afterwards.
  pub told_after : list_all (λ (a : Piece ChunkValue). list_all (is_told_by_stamp a) (all_pieces end)) (all_pieces end) ≡ true
  told_after =
      let test : Piece ChunkValue → Bool = λ a. list_all (is_told_by_stamp a) (all_pieces end) in
      pieces_pass test (λ _. true) end
      (stays_right (λ (x : ChunkValue). x.stamp) u d values change (λ o a. test a) (λ _. true) (record {
        free = (λ o i. all-always (is_told_by_stamp (record { index = i; chunk = u })) (told_unmapped u zero_stamp i) (all_pieces end));
        stands = pass_pieces test d
            (list_all-both (λ a. list_all (is_told_by_stamp a) (all_pieces d)) (λ a. list_all (is_told_by_stamp a) fresh) test (λ a e f. meets_all a e f)
            (all_pieces d) told old_meet_new);
        ends = (λ n gone p h. h);
        next = refl;
        rise = clones.rise;
      })
      (list_all-both (λ a. list_all (is_told_by_stamp a) (all_pieces d)) (λ a. list_all (is_told_by_stamp a) fresh) test (λ a e f. meets_all a e f)
      fresh new_meet_old (each_told (changed_indexes (λ (x : ChunkValue). x.stamp) d change) values arrived.rises)))
