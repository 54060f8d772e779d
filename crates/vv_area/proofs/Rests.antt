-- Forms of several fields, one behind the other, that read exactly what is spelled so. What fits is a value that has the
-- fields which were read before.
use Rattle.std.proofs.Common.{◌≡◌, ℕ, ◌&&◌, Bool, true, List, [], ◌++◌, length, refl, sym, subst, ◌∙◌}
use Rattle.std.proofs.lemmas.Bool.{and_parts, and_from}
use Rattle.vv_fields.specs.Fields.{ReaderState}
use Rattle.vv_record.specs.Reading.{Form, Read, ◌>>=◌, done}
use Rattle.vv_record.proofs.Stands.{Stands, Stands-then, Stands-front, Stands-nothing, Stands-here, IsReader, moved}
use Rattle.vv_record.proofs.Spells.{Spells, took, done_is}

pub record SpellsRest {D : Type 0} (form : Form D) (text : D → List ℕ) (is : D → Bool) (fits : D → Type 0) : Type 0 where
  pub again : (v : D) (reader behind : ReaderState) → fits v → is v ≡ true → Stands reader (text v) behind → form reader ≡ Read v behind
  pub takes : (v : D) (reader behind : ReaderState) → IsReader reader → form reader ≡ Read v behind → fits v × Stands reader (text v) behind × (is v ≡ true)

-- one field more
pub then_rest : {A D : Type 0} {a : Form A} {text_a : A → List ℕ} {is_a : A → Bool} → Spells a text_a is_a → (get : D → A) (next : A → Form D) (text_b : D → List ℕ) (is_b : D → Bool) (fits : D → Type 0)
    → ((x : A) → SpellsRest (next x) text_b is_b (λ v. fits v × (get v ≡ x))) → SpellsRest (a >>= next) (λ v. text_a (get v) ++ text_b v) (λ v. is_a (get v) && is_b v) fits
then_rest {text_a = text_a} {is_a = is_a} s get next text_b is_b fits rest = record {
  again = λ v reader behind f h p.
      let both = and_parts _ _ h in
      let q = Stands-front reader (text_a (get v)) (text_b v) behind p in
      let middle = moved (length (text_a (get v))) reader in
      rw (s.again (get v) reader middle both.0 q.0) ((rest (get v)).again v middle behind (f, refl) both.1 q.1);
  takes = λ v reader behind h e.
      let t = took s next v reader behind h e in
      let u = (rest t.first).takes v t.middle behind t.is_reader t.rest in
      let same : t.first ≡ get v = sym u.0.1 in
      (u.0.0, Stands-then (subst (λ x. Stands reader (text_a x) t.middle) same t.stands) u.1, and_from _ _ (subst (λ x. is_a x ≡ true) same t.passes) u.2);
}

-- nothing more
pub done_rest : {D : Type 0} (x : D) (fits : D → Type 0) → ((v : D) → fits v → x ≡ v) → fits x → SpellsRest (done x) (λ v. []) (λ v. true) fits
done_rest x fits only f = record {
  again = λ v reader behind g h p.
      let same = only v g in
      let place = Stands-nothing reader behind p in
      rw (same, place) refl;
  takes = λ v reader behind h e.
      let d = done_is x v reader behind e in
      (subst fits d.0 f, subst (λ r. Stands reader [] r) d.1 (Stands-here reader h), refl);
}

-- the same said otherwise
pub same_rest : {D : Type 0} {form : Form D} {text text' : D → List ℕ} {is is' : D → Bool} {fits : D → Type 0} → ((v : D) → fits v → text v ≡ text' v) → ((v : D) → fits v → is v ≡ is' v)
    → SpellsRest form text is fits → SpellsRest form text' is' fits
same_rest {text = text} {text' = text'} same_text same_test s = record {
  again = λ v reader behind f h p. s.again v reader behind f (same_test v f ∙ h) (subst (λ x. Stands reader x behind) (sym (same_text v f)) p);
  takes = λ v reader behind h e.
      let t = s.takes v reader behind h e in
      (t.0, subst (λ x. Stands reader x behind) (same_text v t.0) t.1, sym (same_test v t.0) ∙ t.2);
}

-- all fields of a value
pub whole_spells : {D : Type 0} {form : Form D} {text : D → List ℕ} {is is' : D → Bool} → ((v : D) → is v ≡ is' v) → SpellsRest form text is (λ v. Unit {0}) → Spells form text is'
whole_spells same s = record {
  again = λ x reader behind h p. s.again x reader behind tt (same x ∙ h) p;
  takes = λ x reader behind h e. let t = s.takes x reader behind h e in (t.1, sym (same x) ∙ t.2);
}
