-- The array that tables and attentions are seen as, with these queues.
use Rattle.std.specs.Prelude.{ℕ, ◌≡◌, List, Some}
use Rattle.vv_flat.specs.State.{Address, Binding, QueuedCommand, Volatile, Array}
use Rattle.vv_flat.specs.Chunks.{shape_of_tables}
use Rattle.vv_flat.specs.Bindings.{binding_at}
use Rattle.vv_tables.specs.Seen.{TablesView}

abbrev pub seen_volatile : List (List QueuedCommand) → List Address → Volatile
seen_volatile queues attentions = record { queues = queues; attentions = attentions }

abbrev pub seen_array : TablesView → List (List QueuedCommand) → List Address → Array ℕ
seen_array t queues attentions = record { durable = shape_of_tables t.durable; volatile = seen_volatile queues attentions }

-- a binding of the tables, at some address
abbrev pub IsBoundIn : TablesView → Binding → Type 0
IsBoundIn t b = (at : Address) × (binding_at t.durable.bindings at ≡ Some b)
