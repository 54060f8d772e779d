use Rattle.std.proofs.Common.{◌≢◌, ℕ, Some, sym, ◌∙◌, ap, rules}
use Rattle.vv_units.specs.declared.damage.Part.TheVariants.{Header as in_header}
use Rattle.vv_journal.specs.declared.opening.OpenFault.{OpenFault}
use Rattle.vv_journal.specs.Header.{magic}
use Rattle.vv_journal.specs.Openings.{damaged}
use Rattle.vv_journal.proofs.Opened.{wrong_words, wrong_version, wrong_blocks, wrong_pool, wrong_map}
use Rattle.vv_journal.proofs.opening.fields_of.Goals as goal

pub returns-then-words-ne-MAGIC-clause-fault : goal.returns-then-words-ne-MAGIC-clause-fault
returns-then-words-ne-MAGIC-clause-fault c =
    let other : c.number_of_8-words.result ≢ magic = search rules in
    wrong_words c.args.bytes.now c.number_of_8-words.result c.number_of_8-words.ensures other ∙ ap (λ (f : OpenFault). Some f) (sym c.damaged.ensures)

pub returns-then-not-is_known_version-clause-fault : goal.returns-then-not-is_known_version-clause-fault
returns-then-not-is_known_version-clause-fault c =
    wrong_version c.args.bytes.now c.number_of_4-version.result (sym c.number_of_8-words.ensures ∙ c.if-words-ne-MAGIC.false) c.number_of_4-version.ensures (sym c.is_known_version.ensures ∙ c.if-not-is_known_version.true)
    ∙ ap (λ (k : ℕ). Some (damaged in_header 16 k)) (sym c.from.ensures)
    ∙ ap (λ (f : OpenFault). Some f) (sym c.damaged-then-not-is_known_version.ensures)

pub returns-then-not-is_chunk_size-clause-fault : goal.returns-then-not-is_chunk_size-clause-fault
returns-then-not-is_chunk_size-clause-fault c =
    wrong_blocks c.args.bytes.now c.number_of_4-version.result c.number_of_4-chunk_blocks.result (sym c.number_of_8-words.ensures ∙ c.if-words-ne-MAGIC.false) c.number_of_4-version.ensures (sym c.is_known_version.ensures ∙ c.if-not-is_known_version.false) c.number_of_4-chunk_blocks.ensures (sym c.is_chunk_size.ensures ∙ c.if-not-is_chunk_size.true)
    ∙ ap (λ (k : ℕ). Some (damaged in_header 20 k)) (sym c.from-then-not-is_chunk_size.ensures)
    ∙ ap (λ (f : OpenFault). Some f) (sym c.damaged-then-not-is_chunk_size.ensures)

pub returns-then-not-is_pool_size-clause-fault : goal.returns-then-not-is_pool_size-clause-fault
returns-then-not-is_pool_size-clause-fault c =
    wrong_pool c.args.bytes.now c.number_of_4-version.result c.number_of_4-chunk_blocks.result c.number_of_4-pool_chunks.result (sym c.number_of_8-words.ensures ∙ c.if-words-ne-MAGIC.false) c.number_of_4-version.ensures (sym c.is_known_version.ensures ∙ c.if-not-is_known_version.false) c.number_of_4-chunk_blocks.ensures (sym c.is_chunk_size.ensures ∙ c.if-not-is_chunk_size.false) c.number_of_4-pool_chunks.ensures (sym c.is_pool_size.ensures ∙ c.if-not-is_pool_size.true)
    ∙ ap (λ (k : ℕ). Some (damaged in_header 24 k)) (sym c.from-then-not-is_pool_size.ensures)
    ∙ ap (λ (f : OpenFault). Some f) (sym c.damaged-then-not-is_pool_size.ensures)

pub returns-then-not-is_map_size-clause-fault : goal.returns-then-not-is_map_size-clause-fault
returns-then-not-is_map_size-clause-fault c =
    wrong_map c.args.bytes.now c.number_of_4-version.result c.number_of_4-chunk_blocks.result c.number_of_4-pool_chunks.result c.number_of_4-map_chunks.result (sym c.number_of_8-words.ensures ∙ c.if-words-ne-MAGIC.false) c.number_of_4-version.ensures (sym c.is_known_version.ensures ∙ c.if-not-is_known_version.false) c.number_of_4-chunk_blocks.ensures (sym c.is_chunk_size.ensures ∙ c.if-not-is_chunk_size.false) c.number_of_4-pool_chunks.ensures (sym c.is_pool_size.ensures ∙ c.if-not-is_pool_size.false) c.number_of_4-map_chunks.ensures (sym c.is_map_size.ensures ∙ c.if-not-is_map_size.true)
    ∙ ap (λ (k : ℕ). Some (damaged in_header 28 k)) (sym c.from-then-not-is_map_size.ensures)
    ∙ ap (λ (f : OpenFault). Some f) (sym c.damaged-then-not-is_map_size.ensures)
