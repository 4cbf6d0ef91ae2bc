-- A store that begins with the rows of a load.
use Rattle.std.proofs.Common.{◌≡◌, List, [], ◌∷◌, ◌≤◌, length, length-append, refl, sym, ◌∙◌, ap, subst, arith}
use Rattle.std.specs.Prelude.{None}
use Rattle.std.specs.List.{AllByRecursion}
use Rattle.std.proofs.lemmas.List.{length-map}
use Rattle.atomic_table.specs.declared.shared.Seat.{Seat}
use Rattle.graph_model.specs.declared.limits.TheConstants.{MAX_WEIGHT}
use Rattle.graph_model.specs.declared.row.Row.{Row}
use Rattle.graph_model.specs.declared.write.Write.{Write}
use Rattle.txn_manager.specs.declared.config.Config.{Config}
use Rattle.loaded_cells.specs.VersionSegment.Resting.{RestingRows}
use Rattle.loaded_cells.specs.VersionSegment.Rows.{VersionedRows}
use Rattle.leaf_index.specs.Index.{Index}
use Rattle.loaded_cells.specs.StoreRelation.Loads.{load_commit, loaded_journal}
use Rattle.loaded_cells.specs.RuleModel.EndSteps.{loaded_known}
use Rattle.loaded_cells.specs.RuleModel.Sight.{HasIndex, Known, Sight, cells_of}
use Rattle.store_words.specs.Steps.{word_count}
use Rattle.loaded_cells.specs.Laid.{AreLaid}
use Rattle.loaded_cells.specs.Numbered.{AreRestOf, blocks_of, cell_of, loaded_head, loaded_sight, loaded_words, rest_rows}
use Rattle.loaded_cells.specs.Ranges.{loaded_segments}
use Rattle.loaded_cells.specs.declared.fill.LoadedRange.{LoadedRange}
use Rattle.loaded_cells.proofs.BeginLemmas.{loaded_count, may_spell}
use Rattle.loaded_cells.proofs.WordLemmas.{blocks_length, head_length}
use Rattle.loaded_cells.proofs.NumberedLemmas.{rest_at}
use Rattle.store_rule.specs.Making.{KnowsParts}
use Rattle.store_rule.specs.declared.make.Parts.{Parts}
use Rattle.store_rule.proofs.MakeLemmas.{first_cell, first_index, first_journal, get_inside}

-- a view of a store that begins with these cells knows them
pub load_parts : (z : Config) (seat : Seat (Unit {0}) Sight) (parts : Parts) (load : List Write) (index : Index)
    (ss : List VersionedRows) → seat.me ≡ (loaded_sight z load 0 index ss, []) → parts.index ≡ index
    → parts.journal.items ≡ load_commit load ∷ [] → AreRestOf ss parts.resting.items → length ss ≡ cells_of z
    → KnowsParts z seat.me.0 parts
load_parts z seat parts load index ss me index_is journal are counted =
    let k : Known = loaded_known load 0 index (cell_of ss) in
    let count : length parts.resting.items ≡ cells_of z =
    sym (length-map parts.resting.items (λ (r : RestingRows). r.rows)) ∙ ap length are ∙ length-map ss rest_rows ∙ counted in
    record {
      cells = record {
        count = count;
        each = λ n resting e.
            let inside = get_inside parts.resting.items resting n e in
            let rests = rest_at ss parts.resting.items n resting are e in
            record {
              cell = cell_of ss n;
              has = first_cell z k seat me n (omega (arith, inside, count));
              packed = rests.1;
              rests = rests.0;
            };
      };
      index = subst (λ (x : Index). HasIndex seat.me.0 (record { index = x; sweeper = None })) (sym index_is)
          (first_index z k seat me);
      journal = (
        loaded_journal load 0,
        first_journal z k seat me,
        record { commits = journal; next = refl; room = omega arith },
      );
    }

-- how many words they make
pub words_count : (z : Config) (rows : List Row) (index : Index) (ranges : List LoadedRange)
    → AreLaid z.leaves rows index ranges → AllByRecursion (λ r. r.weight ≤ MAX_WEIGHT) rows
    → length (loaded_words z (loaded_segments ranges)) ≡ word_count z
words_count z rows index ranges laid small =
    let ss = loaded_segments ranges in
    let both = length-append (loaded_head z.passes) (blocks_of ss) in
    let head = head_length z.passes in
    let back = blocks_length ss (may_spell z.leaves rows index ranges laid small) in
    let counted = loaded_count z.leaves rows index ranges laid in
    omega (arith, both, head, back, counted)
