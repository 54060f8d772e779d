-- The addresses at which a unit attention waits, in memory (`Volatile` of the flat array says what they are). That they
-- are at most 1024 is this project's own choice.
use Rattle.std.specs.Prelude.{ℕ, ◌≤◌, ◌||◌, Bool, IsTrue, List, length, nat_lt}
use Rattle.vv_flat.specs.State.{Address}
use Rattle.vv_flat.specs.Bindings.{is_below}
use Rattle.vv_flat.specs.Volatile.{has_attention}
use Rattle.vv_flat.specs.Lists.{all_rise}

-- the most addresses
abbrev pub attention_limit : ℕ
attention_limit = 1024

-- whether one may be set at an address: one waits there already, or fewer than the most addresses have one
abbrev pub may_wait : List Address → Address → Bool
may_wait attentions address = has_attention attentions address || nat_lt (length attentions) attention_limit

-- whether each address is below the next one, so that none is there twice
abbrev pub addresses_rise : List Address → Bool
addresses_rise attentions = all_rise is_below attentions

-- few addresses, in order, and room for all
pub record IsKept (addresses : List Address) (room : ℕ) : Type 0 where
  pub few : length addresses ≤ attention_limit
  pub rise : IsTrue (addresses_rise addresses)
  pub fits : attention_limit ≤ room
