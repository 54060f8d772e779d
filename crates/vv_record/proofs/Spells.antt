-- Forms that read exactly what is spelled so.
use Rattle.std.proofs.Common.{◌≡◌, ℕ, zero, suc, ◌^◌, ◌<◌, ◌&&◌, Bool, true, List, [], ◌∷◌, ◌++◌, length, refl, sym, ap, subst, ◌∙◌, append_assoc, arith}
use Rattle.std.specs.List.{flat_map}
use Rattle.std.proofs.lemmas.List.{append-nil}
use Rattle.std.proofs.lemmas.Bool.{and_parts, and_from, ltb-true, lt-ltb}
use Rattle.vv_fields.specs.Fields.{ReaderState, be_bytes}
use Rattle.vv_record.specs.Reading.{Form, Read, ◌>>=◌, done, number, bytes, allowed, is_within, number_within, items}
use Rattle.vv_record.specs.Spelling.{fits, text_spelling, list_spelling, each_behind}
use Rattle.vv_record.proofs.Passing.{between}
use Rattle.vv_record.proofs.Stands.{Stands, Stands-then, Stands-front, Stands-nothing, Stands-here, IsReader, IsReader-behind, moved, bytes_again, bytes_takes, number_again_at, number_takes, then_read_is, allowed_is, allowed_again}

-- What passes the test is read from its text, and what is read passes it and its text stands there.
pub record Spells {A : Type 0} (form : Form A) (text : A → List ℕ) (is : A → Bool) : Type 0 where
  pub again : (x : A) (reader behind : ReaderState) → is x ≡ true → Stands reader (text x) behind → form reader ≡ Read x behind
  pub takes : (x : A) (reader behind : ReaderState) → IsReader reader → form reader ≡ Read x behind → Stands reader (text x) behind × (is x ≡ true)

-- ---- numbers

pub number_spells : (n : ℕ) → Spells (number n) (be_bytes n) (fits n)
number_spells n = record {
  again = λ x reader behind h p. number_again_at n x reader behind (ltb-true x (256 ^ n) h) p;
  takes = λ x reader behind h e. let t = number_takes n x reader behind h.are_bytes e in (t.0, lt-ltb x (256 ^ n) t.1);
}

-- a field whose value is allowed
pub allowed_spells : {A : Type 0} (is_allowed : A → Bool) {form : Form A} {text : A → List ℕ} {is : A → Bool} → ((x : A) → is_allowed x ≡ true → is x ≡ true)
    → Spells form text is → Spells (allowed is_allowed form) text is_allowed
allowed_spells is_allowed {form = form} enough s = record {
  again = λ x reader behind h p. allowed_again is_allowed form x reader behind h (s.again x reader behind (enough x h) p);
  takes = λ x reader behind h e. let a = allowed_is is_allowed form x reader behind e in ((s.takes x reader behind h a.0).0, a.1);
}

pub number_within_spells : (n low high : ℕ) → high < 256 ^ n → Spells (number_within n low high) (be_bytes n) (is_within low high)
unfolding number_within
number_within_spells n low high lt =
    allowed_spells (is_within low high) (λ x h. lt-ltb x (256 ^ n) (omega (arith, (between low high x h).to))) (number_spells n)

-- ---- fields one behind the other

-- what was read first, and the rest
pub record Took {A B : Type 0} (text : A → List ℕ) (is : A → Bool) (next : A → Form B) (reader : ReaderState) (value : B) (behind : ReaderState) : Type 0 where
  pub first : A
  pub middle : ReaderState
  pub stands : Stands reader (text first) middle
  pub passes : is first ≡ true
  pub is_reader : IsReader middle
  pub rest : next first middle ≡ Read value behind

pub took : {A B : Type 0} {form : Form A} {text : A → List ℕ} {is : A → Bool} → Spells form text is → (next : A → Form B)
    → (value : B) (reader behind : ReaderState) → IsReader reader → (form >>= next) reader ≡ Read value behind → Took text is next reader value behind
took {text = text} s next value reader behind h e =
    let t = then_read_is _ next value behind e in
    let r = s.takes t.0 reader t.1 h t.2 in
    record { first = t.0; middle = t.1; stands = r.0; passes = r.1; is_reader = IsReader-behind h r.0; rest = t.3 }

pub done_is : {D : Type 0} (x value : D) (middle behind : ReaderState) → done x middle ≡ Read value behind → (x ≡ value) × (middle ≡ behind)
done_is x value middle behind e = (cc, cc)

pub takes_1 : {A D : Type 0} {a : Form A} {text_a : A → List ℕ} {is_a : A → Bool} → Spells a text_a is_a
    → (make : A → D) (value : D) (reader behind : ReaderState) → IsReader reader → (a >>= λ x. done (make x)) reader ≡ Read value behind
    → (x : A) × (make x ≡ value) × Stands reader (text_a x) behind × (is_a x ≡ true)
takes_1 {text_a = text_a} s make value reader behind h e =
    let t = took s (λ x. done (make x)) value reader behind h e in
    let d = done_is (make t.first) value t.middle behind t.rest in
    (t.first, d.0, subst (λ (r : ReaderState). Stands reader (text_a t.first) r) d.1 t.stands, t.passes)

pub again_1 : {A D : Type 0} {a : Form A} {text_a : A → List ℕ} {is_a : A → Bool} → Spells a text_a is_a
    → (make : A → D) (x : A) (reader behind : ReaderState) → is_a x ≡ true → Stands reader (text_a x) behind → (a >>= λ x. done (make x)) reader ≡ Read (make x) behind
again_1 s make x reader behind h p = rw (s.again x reader behind h p) refl

pub takes_2 : {A B D : Type 0} {a : Form A} {text_a : A → List ℕ} {is_a : A → Bool} → Spells a text_a is_a
    → {b : Form B} {text_b : B → List ℕ} {is_b : B → Bool} → Spells b text_b is_b
    → (make : A → B → D) (value : D) (reader behind : ReaderState) → IsReader reader → (a >>= λ x. b >>= λ y. done (make x y)) reader ≡ Read value behind
    → (x : A) × (y : B) × (make x y ≡ value) × Stands reader (text_a x ++ text_b y) behind × (is_a x ≡ true) × (is_b y ≡ true)
takes_2 s_a {b = b} s_b make value reader behind h e =
    let t = took s_a (λ x. b >>= λ y. done (make x y)) value reader behind h e in
    let u = takes_1 s_b (make t.first) value t.middle behind t.is_reader t.rest in
    (t.first, u.0, u.1, Stands-then t.stands u.2, t.passes, u.3)

pub again_2 : {A B D : Type 0} {a : Form A} {text_a : A → List ℕ} {is_a : A → Bool} → Spells a text_a is_a
    → {b : Form B} {text_b : B → List ℕ} {is_b : B → Bool} → Spells b text_b is_b
    → (make : A → B → D) (x : A) (y : B) (reader behind : ReaderState) → is_a x ≡ true → is_b y ≡ true → Stands reader (text_a x ++ text_b y) behind
    → (a >>= λ x. b >>= λ y. done (make x y)) reader ≡ Read (make x y) behind
again_2 {text_a = text_a} s_a {text_b = text_b} s_b make x y reader behind h k p =
    let q = Stands-front reader (text_a x) (text_b y) behind p in
    rw (s_a.again x reader _ h q.0, s_b.again y _ behind k q.1) refl

pub takes_3 : {A B C D : Type 0} {a : Form A} {text_a : A → List ℕ} {is_a : A → Bool} → Spells a text_a is_a
    → {b : Form B} {text_b : B → List ℕ} {is_b : B → Bool} → Spells b text_b is_b
    → {c : Form C} {text_c : C → List ℕ} {is_c : C → Bool} → Spells c text_c is_c
    → (make : A → B → C → D) (value : D) (reader behind : ReaderState) → IsReader reader → (a >>= λ x. b >>= λ y. c >>= λ z. done (make x y z)) reader ≡ Read value behind
    → (x : A) × (y : B) × (z : C) × (make x y z ≡ value) × Stands reader (text_a x ++ text_b y ++ text_c z) behind × (is_a x ≡ true) × (is_b y ≡ true) × (is_c z ≡ true)
takes_3 {text_a = text_a} s_a {b = b} {text_b = text_b} s_b {c = c} {text_c = text_c} s_c make value reader behind h e =
    let t = took s_a (λ x. b >>= λ y. c >>= λ z. done (make x y z)) value reader behind h e in
    let v = took s_b (λ y. c >>= λ z. done (make t.first y z)) value t.middle behind t.is_reader t.rest in
    let u = takes_1 s_c (make t.first v.first) value v.middle behind v.is_reader v.rest in
    let front : Stands reader (text_a t.first ++ text_b v.first) v.middle = Stands-then {a = text_a t.first} {middle = t.middle} {b = text_b v.first} {behind = v.middle} t.stands v.stands in
    (t.first, v.first, u.0, u.1, Stands-then {a = text_a t.first ++ text_b v.first} {middle = v.middle} {b = text_c u.0} front u.2, t.passes, v.passes, u.3)

pub again_3 : {A B C D : Type 0} {a : Form A} {text_a : A → List ℕ} {is_a : A → Bool} → Spells a text_a is_a
    → {b : Form B} {text_b : B → List ℕ} {is_b : B → Bool} → Spells b text_b is_b
    → {c : Form C} {text_c : C → List ℕ} {is_c : C → Bool} → Spells c text_c is_c
    → (make : A → B → C → D) (x : A) (y : B) (z : C) (reader behind : ReaderState) → is_a x ≡ true → is_b y ≡ true → is_c z ≡ true → Stands reader (text_a x ++ text_b y ++ text_c z) behind
    → (a >>= λ x. b >>= λ y. c >>= λ z. done (make x y z)) reader ≡ Read (make x y z) behind
again_3 {text_a = text_a} s_a {text_b = text_b} s_b {text_c = text_c} s_c make x y z reader behind h k l p =
    let q = Stands-front reader (text_a x ++ text_b y) (text_c z) behind p in
    let o = Stands-front reader (text_a x) (text_b y) _ q.0 in
    rw (s_a.again x reader _ h o.0, s_b.again y _ _ k o.1, s_c.again z _ behind l q.1) refl

pub takes_4 : {A B C E D : Type 0} {a : Form A} {text_a : A → List ℕ} {is_a : A → Bool} → Spells a text_a is_a
    → {b : Form B} {text_b : B → List ℕ} {is_b : B → Bool} → Spells b text_b is_b
    → {c : Form C} {text_c : C → List ℕ} {is_c : C → Bool} → Spells c text_c is_c
    → {d : Form E} {text_d : E → List ℕ} {is_d : E → Bool} → Spells d text_d is_d
    → (make : A → B → C → E → D) (value : D) (reader behind : ReaderState) → IsReader reader → (a >>= λ x. b >>= λ y. c >>= λ z. d >>= λ w. done (make x y z w)) reader ≡ Read value behind
    → (x : A) × (y : B) × (z : C) × (w : E) × (make x y z w ≡ value) × Stands reader (text_a x ++ text_b y ++ text_c z ++ text_d w) behind
    × (is_a x ≡ true) × (is_b y ≡ true) × (is_c z ≡ true) × (is_d w ≡ true)
takes_4 {text_a = text_a} s_a {b = b} {text_b = text_b} s_b {c = c} {text_c = text_c} s_c {d = d} {text_d = text_d} s_d make value reader behind h e =
    let t = took s_a (λ x. b >>= λ y. c >>= λ z. d >>= λ w. done (make x y z w)) value reader behind h e in
    let v = took s_b (λ y. c >>= λ z. d >>= λ w. done (make t.first y z w)) value t.middle behind t.is_reader t.rest in
    let q = took s_c (λ z. d >>= λ w. done (make t.first v.first z w)) value v.middle behind v.is_reader v.rest in
    let u = takes_1 s_d (make t.first v.first q.first) value q.middle behind q.is_reader q.rest in
    let front : Stands reader (text_a t.first ++ text_b v.first) v.middle = Stands-then {a = text_a t.first} {middle = t.middle} {b = text_b v.first} {behind = v.middle} t.stands v.stands in
    let more : Stands reader (text_a t.first ++ text_b v.first ++ text_c q.first) q.middle = Stands-then {a = text_a t.first ++ text_b v.first} {middle = v.middle} {b = text_c q.first} {behind = q.middle} front q.stands in
    (t.first, v.first, q.first, u.0, u.1, Stands-then {a = text_a t.first ++ text_b v.first ++ text_c q.first} {middle = q.middle} {b = text_d u.0} more u.2, t.passes, v.passes, q.passes, u.3)

pub again_4 : {A B C E D : Type 0} {a : Form A} {text_a : A → List ℕ} {is_a : A → Bool} → Spells a text_a is_a
    → {b : Form B} {text_b : B → List ℕ} {is_b : B → Bool} → Spells b text_b is_b
    → {c : Form C} {text_c : C → List ℕ} {is_c : C → Bool} → Spells c text_c is_c
    → {d : Form E} {text_d : E → List ℕ} {is_d : E → Bool} → Spells d text_d is_d
    → (make : A → B → C → E → D) (x : A) (y : B) (z : C) (w : E) (reader behind : ReaderState) → is_a x ≡ true → is_b y ≡ true → is_c z ≡ true → is_d w ≡ true
    → Stands reader (text_a x ++ text_b y ++ text_c z ++ text_d w) behind
    → (a >>= λ x. b >>= λ y. c >>= λ z. d >>= λ w. done (make x y z w)) reader ≡ Read (make x y z w) behind
again_4 {text_a = text_a} s_a {text_b = text_b} s_b {text_c = text_c} s_c {text_d = text_d} s_d make x y z w reader behind h k l m p =
    let q = Stands-front reader (text_a x ++ text_b y ++ text_c z) (text_d w) behind p in
    let o = Stands-front reader (text_a x ++ text_b y) (text_c z) _ q.0 in
    let n = Stands-front reader (text_a x) (text_b y) _ o.0 in
    rw (s_a.again x reader _ h n.0, s_b.again y _ _ k n.1, s_c.again z _ _ l o.1, s_d.again w _ behind m q.1) refl

-- ---- structs of one field and of two

pub wrapped_spells : {A D : Type 0} {a : Form A} {text : A → List ℕ} {is : A → Bool} → Spells a text is
    → (make : A → D) (get : D → A) → ((value : D) → make (get value) ≡ value) → ((x : A) → get (make x) ≡ x)
    → Spells (a >>= λ x. done (make x)) (λ value. text (get value)) (λ value. is (get value))
wrapped_spells {text = text} {is = is} s make get back front = record {
  again = λ value reader behind h p. again_1 s make (get value) reader behind h p ∙ ap (λ v. Read v behind) (back value);
  takes = λ value reader behind h e.
      let t = takes_1 s make value reader behind h e in
      let same : t.0 ≡ get value = sym (front t.0) ∙ ap get t.1 in
      (subst (λ x. Stands reader (text x) behind) same t.2, subst (λ x. is x ≡ true) same t.3);
}

pub paired_spells : {A B D : Type 0} {a : Form A} {text_a : A → List ℕ} {is_a : A → Bool} → Spells a text_a is_a
    → {b : Form B} {text_b : B → List ℕ} {is_b : B → Bool} → Spells b text_b is_b
    → (make : A → B → D) (first : D → A) (second : D → B) → ((value : D) → make (first value) (second value) ≡ value) → ((x : A) (y : B) → first (make x y) ≡ x) → ((x : A) (y : B) → second (make x y) ≡ y)
    → Spells (a >>= λ x. b >>= λ y. done (make x y)) (λ value. text_a (first value) ++ text_b (second value)) (λ value. is_a (first value) && is_b (second value))
paired_spells s_a s_b make first second back front_1 front_2 = record {
  again = λ value reader behind h p.
      let both = and_parts _ _ h in
      again_2 s_a s_b make (first value) (second value) reader behind both.0 both.1 p ∙ ap (λ v. Read v behind) (back value);
  takes = λ value reader behind h e.
      let t = takes_2 s_a s_b make value reader behind h e in
      let same_1 : t.0 ≡ first value = sym (front_1 t.0 t.1) ∙ ap first t.2 in
      let same_2 : t.1 ≡ second value = sym (front_2 t.0 t.1) ∙ ap second t.2 in
      (rw (← same_1, ← same_2) t.3, rw (← same_1, ← same_2) (and_from _ _ t.4 t.5));
}

-- ---- texts behind their length

-- so many bytes are read as a text that passes
pub record ReadsTexts (body : ℕ → Form (List ℕ)) (is : List ℕ → Bool) : Type 0 where
  pub again : (text : List ℕ) (reader behind : ReaderState) → is text ≡ true → Stands reader text behind → body (length text) reader ≡ Read text behind
  pub takes : (n : ℕ) (text : List ℕ) (reader behind : ReaderState) → body n reader ≡ Read text behind → Stands reader text behind × (length text ≡ n) × (is text ≡ true)

pub allowed_texts : (is : List ℕ → Bool) → ReadsTexts (λ n. allowed is (bytes n)) is
allowed_texts is = record {
  again = λ text reader behind h p. allowed_again is (bytes (length text)) text reader behind h (bytes_again (length text) text reader behind refl p);
  takes = λ n text reader behind e.
      let a = allowed_is is (bytes n) text reader behind e in
      let t = bytes_takes n text reader behind a.0 in
      (t.0, t.1, a.1);
}

pub text_spells : (low high : ℕ) (body : ℕ → Form (List ℕ)) (is : List ℕ → Bool) → high < 256 ^ 1 → ((text : List ℕ) → is text ≡ true → is_within low high (length text) ≡ true) → ReadsTexts body is
    → Spells (number_within 1 low high >>= body) text_spelling is
text_spells low high body is lt within reads = record {
  again = λ text reader behind h p.
      let q = Stands-front reader (be_bytes 1 (length text)) text behind p in
      let middle = moved (length (be_bytes 1 (length text))) reader in
      rw ((number_within_spells 1 low high lt).again (length text) reader middle (within text h) q.0, reads.again text middle behind h q.1) refl;
  takes = λ text reader behind h e.
      let t = took (number_within_spells 1 low high lt) body text reader behind h e in
      let u = reads.takes t.first text t.middle behind t.rest in
      (Stands-then (subst (λ n. Stands reader (be_bytes 1 n) t.middle) (sym u.1) t.stands) u.0, u.2);
}

-- ---- lists behind their count

pub items_again : {A : Type 0} (item : List A → Form A) (text : A → List ℕ) (is : List A → A → Bool) → ((before : List A) → Spells (item before) text (is before))
    → (xs before : List A) (reader behind : ReaderState) → each_behind is before xs ≡ true → Stands reader (flat_map text xs) behind → items item (length xs) before reader ≡ Read (before ++ xs) behind
unfolding items
items_again item text is s [] before reader behind h p = rw (Stands-nothing reader behind p, append-nil before) refl
items_again item text is s (x ∷ xs) before reader behind h p =
    let both = and_parts _ _ h in
    let q = Stands-front reader (text x) (flat_map text xs) behind p in
    let middle = moved (length (text x)) reader in
    rw ((s before).again x reader middle both.0 q.0) (items_again item text is s xs (before ++ x ∷ []) middle behind both.1 q.1 ∙ ap (λ ys. Read ys behind) (append_assoc before (x ∷ []) xs))

pub items_take : {A : Type 0} (item : List A → Form A) (text : A → List ℕ) (is : List A → A → Bool) → ((before : List A) → Spells (item before) text (is before))
    → (n : ℕ) (before ys : List A) (reader behind : ReaderState) → IsReader reader → items item n before reader ≡ Read ys behind
    → (xs : List A) × (before ++ xs ≡ ys) × (length xs ≡ n) × Stands reader (flat_map text xs) behind × (each_behind is before xs ≡ true)
unfolding items
items_take item text is s zero before ys reader behind h e =
    let d = done_is before ys reader behind e in
    ([], append-nil before ∙ d.0, refl, subst (λ r. Stands reader [] r) d.1 (Stands-here reader h), refl)
items_take item text is s (suc n) before ys reader behind h e =
    let t = took (s before) (λ x. items item n (before ++ x ∷ [])) ys reader behind h e in
    let u = items_take item text is s n (before ++ t.first ∷ []) ys t.middle behind t.is_reader t.rest in
    (t.first ∷ u.0, sym (append_assoc before (t.first ∷ []) u.0) ∙ u.1, ap suc u.2, Stands-then t.stands u.3, and_from _ _ t.passes u.4)

pub list_spells : {A : Type 0} (n low high : ℕ) (item : List A → Form A) (text : A → List ℕ) (is : List A → A → Bool) (are : List A → Bool) → high < 256 ^ n
    → ((xs : List A) → are xs ≡ (is_within low high (length xs) && each_behind is [] xs)) → ((before : List A) → Spells (item before) text (is before))
    → Spells (number_within n low high >>= λ count. items item count []) (list_spelling n text) are
list_spells n low high item text is are lt same s = record {
  again = λ xs reader behind h p.
      let both = and_parts _ _ (sym (same xs) ∙ h) in
      let q = Stands-front reader (be_bytes n (length xs)) (flat_map text xs) behind p in
      let middle = moved (length (be_bytes n (length xs))) reader in
      rw ((number_within_spells n low high lt).again (length xs) reader middle both.0 q.0) (items_again item text is s xs [] middle behind both.1 q.1);
  takes = λ ys reader behind h e.
      let t = took (number_within_spells n low high lt) (λ count. items item count []) ys reader behind h e in
      let u = items_take item text is s t.first [] ys t.middle behind t.is_reader t.rest in
      let all : u.0 ≡ ys = u.1 in
      let count : t.first ≡ length u.0 = sym u.2 in
      let front : Stands reader (be_bytes n (length u.0)) t.middle = subst (λ k. Stands reader (be_bytes n k) t.middle) count t.stands in
      let whole = Stands-then front u.3 in
      let passes : are u.0 ≡ true = same u.0 ∙ and_from _ _ (subst (λ k. is_within low high k ≡ true) count t.passes) u.4 in
      (subst (λ xs. Stands reader (list_spelling n text xs) behind) all whole, subst (λ xs. are xs ≡ true) all passes);
}
