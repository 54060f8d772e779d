-- Bytes of a small flat array, call by call, and which calls move blocks or are journaled.
use Rattle.std.specs.Prelude.{◌≡◌, ℕ, true, false, List, [], ◌∷◌, ◌++◌, map, Some, None, refl, codes, replicate}
use Rattle.std.specs.Fmt.{digits as decimal_digits}
use Rattle.vv_units.specs.declared.volume.VvolType.TheVariants.{Data}
use Rattle.vv_units.specs.declared.volume.VolumeKind.TheVariants.{Plain}
use Rattle.vv_flat.specs.State.{Array, empty_durable, empty_volatile}
use Rattle.vv_flat.specs.Chunks.{ChunkValue, unmapped_value, written_values, copied_values}
use Rattle.vv_flat.specs.Space.{used, reserved, free, entries, charge}
use Rattle.vv_flat.specs.Bindings.{with_binding, without_binding}
use Rattle.vv_flat.specs.Tasks.{turned, turned_indexes, cancelled, with_clone, with_copy}
use Rattle.vv_flat.specs.Profiles.{first_misfit}
use Rattle.vv_flat.specs.Changes.{judge, misfit_in, apply_shape, apply, effect, changed_indexes, attentions_after}
use Rattle.vv_flat.specs.Flat.{new_values, flat_after}
use Rattle.vv_calls.specs.declared.call.Call.{Call}
use Rattle.vv_calls.specs.declared.call.Call.TheVariants as call
use Rattle.vv_cdb.specs.Cdbs.{decoded}
use Rattle.vv_cdb.specs.UnmapLists.{ranges_in}
use Rattle.vv_lun.specs.Decided.{decided}
use Rattle.vv_lun.specs.Answers.{standard_data, digits}
use Rattle.vv_reply.specs.declared.reply.Reply.{Reply}
use Rattle.vv_meaning.specs.Told.{good, done}
use Rattle.vv_meaning.specs.Commands.{unit_at}
use Rattle.vv_meaning.specs.Meaning.{reply, next}
use Rattle.vv_meaning.specs.Steps.{is_journaled, moves_blocks, report_text}
use Rattle.vv_meaning.proofs.Days.{fine_64, command, serve, submit, transfer, read, write, write_same, turn, unbind, ended_by, unmap}

-- A volume of two chunks that is bound for host 1, and to which nothing was written.
small : Array ChunkValue
unfolding fine_64
small = record {
  durable = record (empty_durable fine_64) {
    lsn = 2;
    volumes = record {
      number = 1;
      container = 0;
      vtype = Data;
      kind = Plain;
      reverted = 0;
      needs = [];
      metadata = [];
      chunks = unmapped_value 8 ∷ unmapped_value 8 ∷ [];
    } ∷ [];
    bindings = record { address = record { host = 1; endpoint = 1; secondary = 1 }; volume = 1; count = 1 } ∷ [];
  };
  volatile = empty_volatile;
}

-- The array after some calls, and the replies.
after : Array ChunkValue → List Call → Array ChunkValue
unfolding next judge misfit_in first_misfit apply_shape apply effect changed_indexes attentions_after used reserved free entries charge with_binding without_binding turned turned_indexes cancelled with_clone with_copy decoded ranges_in decided standard_data digits unit_at new_values flat_after written_values copied_values
after a [] = a
after a (c ∷ cs) = after (next [] a c) cs

replies : Array ChunkValue → List Call → List Reply
unfolding reply next judge misfit_in first_misfit apply_shape apply effect changed_indexes attentions_after used reserved free entries charge with_binding without_binding turned turned_indexes cancelled with_clone with_copy decoded ranges_in decided standard_data digits unit_at new_values flat_after written_values copied_values
replies a [] = []
replies a (c ∷ cs) = reply [] a c ∷ replies (next [] a c) cs

abbrev block : ℕ → List ℕ
block byte = replicate 512 byte

-- COMPARE AND WRITE of one block at this address
abbrev compare_and_write : ℕ → ℕ → ℕ → Call
compare_and_write lba old new =
    command 1 1 ((0x89 ∷ replicate 8 0 ++ lba ∷ replicate 3 0) ++ 1 ∷ 0 ∷ 0 ∷ []) (block old ++ block new)

-- What is written is read, over the border of two chunks; a comparison looks at the blocks that stand, and writes the
-- second half of its data; WRITE SAME writes its block again and again.
bytes_of_a_day : replies small
    (command 1 1 (transfer 0x2a 7 2) (block 0x5a ++ block 0x5b) ∷ read 6 4 ∷ compare_and_write 8 0x5a 0x77
    ∷ compare_and_write 8 0x5b 0x77 ∷ read 7 2 ∷ compare_and_write 8 0x5b 0x78 ∷ read 8 1 ∷ write_same 9 2 ∷ read 8 4 ∷ [])
    ≡ good [] ∷ good (block 0 ++ block 0x5a ++ block 0x5b ++ block 0) ∷ ended_by 14 0x1d 0 ∷ good []
    ∷ good (block 0x5a ++ block 0x77) ∷ ended_by 14 0x1d 0 ∷ good (block 0x77) ∷ good []
    ∷ good (block 0x77 ++ block 0x11 ++ block 0x11 ++ block 0) ∷ []
unfolding replies small
bytes_of_a_day = refl

-- a read that is queued
abbrev queued_read : Call
queued_read = submit (transfer 0x28 0 1) []

-- Blocks are moved by reads and writes of blocks that aren't refused, also where they are served.
moving : map (moves_blocks [] (after small (queued_read ∷ [])))
    (read 0 1 ∷ write 0 1 ∷ write_same 0 1 ∷ compare_and_write 0 1 2 ∷ serve ∷ [])
    ≡ true ∷ true ∷ true ∷ true ∷ true ∷ []
unfolding moves_blocks after small judge misfit_in used reserved free charge decoded ranges_in decided unit_at
moving = refl

still : map (moves_blocks [] small)
    (read 0 0 ∷ write 0 0 ∷ read 16 1 ∷ write 16 1 ∷ unmap 1 0 16 ∷ serve ∷ queued_read ∷ command 1 1 (replicate 6 0) []
    ∷ turn 1 ∷ call.QueryPool ∷ call.Restart ∷ unbind 1 ∷ [])
    ≡ replicate 12 false
unfolding moves_blocks small judge misfit_in used reserved free charge decoded ranges_in decided unit_at
still = refl

-- No log number is left: a write that is refused moves none.
spent : Array ChunkValue
unfolding small
spent = let d = small.durable in record small { durable = record d { lsn = 4611686018427387903 } }

refused : map (moves_blocks [] spent) (write 0 1 ∷ write_same 0 1 ∷ compare_and_write 0 1 2 ∷ []) ≡ replicate 3 false
unfolding moves_blocks spent small judge misfit_in used reserved free charge decoded ranges_in decided unit_at
refused = refl

-- Journaled are the calls that change something durable.
journaled : map (is_journaled [] (after small (write 0 1 ∷ [])))
    (write 0 1 ∷ unmap 1 0 8 ∷ unbind 1 ∷ write 0 0 ∷ unmap 1 0 7 ∷ unmap 1 8 8 ∷ read 0 1 ∷ compare_and_write 0 0 1 ∷ serve
    ∷ queued_read ∷ unbind 2 ∷ call.QueryPool ∷ call.Restart ∷ [])
    ≡ true ∷ true ∷ true ∷ replicate 10 false
unfolding is_journaled after small judge misfit_in first_misfit apply_shape apply effect changed_indexes attentions_after used reserved free entries charge with_binding without_binding turned turned_indexes cancelled with_clone with_copy decoded ranges_in decided standard_data digits unit_at new_values flat_after written_values copied_values
journaled = refl

-- The recovered number has a line of its own, ahead of the reply's.
two_lines : report_text (record { recovered = Some 5; answer = done }) ≡ codes "{\"recovered\":5}\n{\"ok\":true}\n"
unfolding decimal_digits
two_lines = refl

one_line : report_text (record { recovered = None; answer = done }) ≡ codes "{\"ok\":true}\n"
one_line = refl
