-- How many blocks a bound volume has: from 1 to 2^31.
use Rattle.std.proofs.Common.{ℕ, ◌≡◌, ◌*◌, ◌≤◌, ◌^◌, ◌==◌, true, [], length, Option, Some, None, is_some, refl, arith}
use Rattle.std.proofs.lemmas.Bool.{leb-true}
use Rattle.std.proofs.lemmas.Bool.Decides.{nat_tests}
use Rattle.std.proofs.lemmas.Nat.{mul-le}
use Rattle.vv_units.specs.Sizes.{is_chunk_size}
use Rattle.vv_flat.specs.Lists.{if_found}
use Rattle.vv_flat.specs.State.{Address, Binding, Volume, Durable, volume_of}
use Rattle.vv_flat.specs.Chunks.{shape_of_tables}
use Rattle.vv_flat.specs.Space.{is_volume_size}
use Rattle.vv_flat.specs.Bindings.{is_address, binding_at}
use Rattle.vv_flat.specs.Changes.{size_of}
use Rattle.vv_flat.specs.Rules.{names_rule, sizes_rule}
use Rattle.vv_flat.specs.WellFormed.{is_well_formed}
use Rattle.vv_flat.proofs.Shares.{and_left, and_right}
use Rattle.vv_flat.proofs.Known.{all-found}
use Rattle.vv_flat.proofs.Kept.{Kept, kept}
use Rattle.vv_laws.proofs.WellFormed.{shape_rules}
use Rattle.vv_tables.specs.Seen.{TablesView}
use Rattle.vv_plan.specs.SeenArrays.{IsBoundIn}

pub record UnitSize (size : ℕ) : Type 0 where
  pub some : 1 ≤ size
  pub few : size ≤ 1048576

named_stands : (d : Durable ℕ) → names_rule d ≡ true → (a : Address) (b : Binding) → binding_at d.bindings a ≡ Some b → is_some (volume_of d b.volume) ≡ true
unfolding names_rule
named_stands d rule a b at =
    all-found (λ (b : Binding). is_some (volume_of d b.volume)) (λ (b : Binding). is_address b.address a) b d.bindings (and_right _ _ (and_left _ _ rule)) at

sized : (d : Durable ℕ) → sizes_rule d ≡ true → (n : ℕ) (v : Volume ℕ) → volume_of d n ≡ Some v → is_volume_size d.geometry.chunk_blocks (length v.chunks) ≡ true
unfolding sizes_rule
sized d rule n v found =
    all-found (λ (v : Volume ℕ). is_volume_size d.geometry.chunk_blocks (length v.chunks)) (λ (v : Volume ℕ). v.number == n) v d.volumes (and_left _ _ rule) found

size_found : (d : Durable ℕ) → sizes_rule d ≡ true → (n : ℕ) (o : Option (Volume ℕ)) → volume_of d n ≡ o → is_some o ≡ true → UnitSize (length (if_found o (λ (v : Volume ℕ). v.chunks) []))
size_found d rule n None e some = absurd (cc)
size_found d rule n (Some v) e some =
    let fits : is_volume_size d.geometry.chunk_blocks (length v.chunks) ≡ true = sized d rule n v e in
    record { some = leb-true 1 (length v.chunks) (and_left _ _ (and_left _ _ fits)); few = leb-true (length v.chunks) 1048576 (and_right _ _ (and_left _ _ fits)) }

bound_found : (d : Durable ℕ) → Kept d → (a : Address) (b : Binding) → binding_at d.bindings a ≡ Some b → UnitSize (size_of d b.volume)
bound_found d rules a b at = size_found d rules.sizes b.volume (volume_of d b.volume) refl (named_stands d rules.names a b at)

pub bound_size : (t : TablesView) (b : Binding) → is_well_formed t.durable ≡ true → IsBoundIn t b → UnitSize (size_of (shape_of_tables t.durable) b.volume)
bound_size t b well bound =
    bound_found (shape_of_tables t.durable) (kept (shape_of_tables t.durable) (shape_rules t.durable well)) bound.0 b bound.1

few_blocks : (B : ℕ) → is_chunk_size B ≡ true → B ≤ 2048
few_blocks B e = grind (arith, nat_tests)

some_blocks : (B : ℕ) → is_chunk_size B ≡ true → 1 ≤ B
some_blocks B e = grind (arith, nat_tests)

pub product_some : (size B : ℕ) → UnitSize size → is_chunk_size B ≡ true → 1 ≤ size * B
product_some size B s e = mul-le 1 1 size B s.some (some_blocks B e)

pub product_few : (size B : ℕ) → UnitSize size → is_chunk_size B ≡ true → size * B ≤ 2 ^ 31
product_few size B s e = mul-le size B 1048576 2048 s.few (few_blocks B e)
