-- The kinds of capability as the flat array's definitions see them, and what a capability's test keeps. A test takes
-- what is offered and then what is asked for.
use Rattle.std.specs.Prelude.{ℕ, Bool, ◌≡◌, ◌<◌, ◌^◌}
use Rattle.vv_flat.specs.Profiles.{CapabilityKind, admits}
use Rattle.vv_flat.specs.Profiles as flat
use Rattle.vv_profile.specs.declared.kind.Kind.{Kind}
use Rattle.vv_profile.specs.declared.kind.Kind.TheVariants.{AtLeast, AtMost, Equal, OneOf}

abbrev pub kind_of : Kind → CapabilityKind
kind_of AtLeast = flat.AtLeast
kind_of AtMost = flat.AtMost
kind_of Equal = flat.Equal
kind_of OneOf = flat.OneOf

-- the test may be called on every two numbers
abbrev pub TakesAll : (ℕ → ℕ → Type 0) → Type 0
TakesAll may_be_called = (offered asked : ℕ) → offered < 2 ^ 64 → asked < 2 ^ 64 → may_be_called offered asked

-- each answer of the test is the one that the kind says
abbrev pub AnswersAs : Kind → (ℕ → ℕ → Bool → Type 0) → Type 0
AnswersAs kind may_answer =
    (offered asked : ℕ) (answer : Bool) → offered < 2 ^ 64 → asked < 2 ^ 64
    → may_answer offered asked answer → answer ≡ admits (kind_of kind) offered asked
