-- Tables are asked what the flat array is asked for which they stand, whatever bytes the pool has.
use Rattle.std.proofs.Common.{◌≡◌, ℕ, List, ap}
use Rattle.vv_flat.specs.State.{Volatile, Durable, Array}
use Rattle.vv_flat.specs.Chunks.{Entry, filled_tables, shape_of_tables}
use Rattle.vv_flat.specs.Profiles.{Capability}
use Rattle.vv_laws.proofs.OtherContents.{filled_shape}
use Rattle.vv_calls.specs.declared.call.Call.{Call}
use Rattle.vv_meaning.specs.Calls.{asked}
use Rattle.vv_meaning.specs.Meaning.{array_shape, blocks_at, reply, reply_over}

abbrev shaped : Volatile → Durable ℕ → Array ℕ
shaped volatile d = record { durable = d; volatile = volatile }

pub tables_asked : (bytes_at : ℕ → List ℕ) (tables : Durable Entry) (volatile : Volatile) (c : Call)
    → asked (array_shape (record { durable = filled_tables bytes_at tables; volatile = volatile })) c
    ≡ asked (record { durable = shape_of_tables tables; volatile = volatile }) c
tables_asked bytes_at tables volatile c = ap (λ d. asked (shaped volatile d) c) (filled_shape bytes_at tables)

pub tables_reply : (capabilities : List Capability) (bytes_at : ℕ → List ℕ) (tables : Durable Entry) (volatile : Volatile) (c : Call)
    → reply capabilities (record { durable = filled_tables bytes_at tables; volatile = volatile }) c
    ≡ reply_over (blocks_at (filled_tables bytes_at tables)) capabilities (record { durable = shape_of_tables tables; volatile = volatile }) c
unfolding reply
tables_reply capabilities bytes_at tables volatile c =
    ap (λ d. reply_over (blocks_at (filled_tables bytes_at tables)) capabilities (shaped volatile d) c) (filled_shape bytes_at tables)
