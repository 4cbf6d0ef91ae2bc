-- A store may begin with the rows of a load.
use Rattle.std.proofs.Common.{◌≡◌, ℕ, suc, ◌*◌, ◌≤◌, List, [], ◌∷◌, length, map, sym, ◌∙◌, ap, subst, arith}
use Rattle.std.specs.Prelude.{Some}
use Rattle.std.specs.List.{AllByRecursion}
use Rattle.std.proofs.lemmas.Bool.Decides.{nat_tests}
use Rattle.std.proofs.lemmas.List.{length-map, take_all}
use Rattle.graph_model.specs.declared.limits.TheConstants.{MAX_WEIGHT}
use Rattle.graph_model.specs.declared.row.Key.{Key}
use Rattle.graph_model.specs.declared.row.Row.{Row}
use Rattle.store_model.specs.Stamped.{StampedVersions}
use Rattle.rule_model.specs.VersionSegment.Rows.{IsSegment, VersionedRows, settled_rows}
use Rattle.gap_segment.proofs.FencedLemmas.{all_append}
use Rattle.rule_model.specs.LeafArray.Segments.{rows_of}
use Rattle.leaf_index.specs.Index.{Index}
use Rattle.rule_model.specs.LeafStore.Leaves.{Leaves, versions_of, weight}
use Rattle.rule_model.specs.LeafStore.Table.{IsKept, part_of, segments_at, segments_or_none}
use Rattle.rule_model.proofs.LeafStore.StoreLemmas.{cells_in}
use Rattle.rule_model.specs.CellsModel.Indexed.{AreNumbered}
use Rattle.rule_model.specs.CellsModel.Words.{HasSmallValues}
use Rattle.rule_model.proofs.CellsModel.NumberedLemmas.{numbered_is_indexed}
use Rattle.rule_model.specs.EndSteps.{IsLoaded}
use Rattle.rule_model.specs.Places.{lines}
use Rattle.rule_model.proofs.LoadedLemmas.{loaded_table}
use Rattle.loaded_cells.specs.Laid.{AreLaid}
use Rattle.loaded_cells.specs.Numbered.{LoadBegins, cell_of, loaded_words}
use Rattle.loaded_cells.specs.Ranges.{cells_in_memory, eight_or_idle, leaf_segments, loaded_segments}
use Rattle.loaded_cells.specs.declared.fill.LoadedRange.{LoadedRange}
use Rattle.loaded_cells.proofs.NumberedLemmas.{EachRow, Table, are_numbered, contents_of, count_loaded, numbered_segments, same_segments, sound_at}
use Rattle.loaded_cells.proofs.WordLemmas.{MaySpell, all_first, are_loaded_words, idle_may}

abbrev HasSmallRow : Key × StampedVersions → Type 0
HasSmallRow row = HasSmallValues row.1

settled_small : (rows : List Row) → AllByRecursion (λ r. r.weight ≤ MAX_WEIGHT) rows
    → AllByRecursion HasSmallRow (settled_rows rows)
settled_small [] small = tt
settled_small (r ∷ rows) small = ((tt, small.0), settled_small rows small.1)

-- a list of segments that are sound, with small rows
both : (ss : List VersionedRows) → AllByRecursion IsSegment ss → EachRow HasSmallRow ss → AllByRecursion MaySpell ss
both [] sound small = tt
both (s ∷ ss) sound small = ((sound.0, small.0), both ss sound.1 small.1)

-- what holds by the number of a leaf
may_each : (ss : List VersionedRows) → AllByRecursion MaySpell ss → AllByRecursion MaySpell (eight_or_idle ss)
may_each [] may = (idle_may, (idle_may, (idle_may, (idle_may, (idle_may, (idle_may, (idle_may, (idle_may, tt))))))))
may_each (s ∷ ss) may = may

may_all : (table : Table) → ((l : ℕ) → AllByRecursion MaySpell (segments_at table l))
    → AllByRecursion MaySpell (numbered_segments table)
may_all [] may = tt
may_all (m ∷ ms) may =
    all_append MaySpell (eight_or_idle (segments_or_none (Some m))) (numbered_segments ms)
    (may_each (segments_or_none (Some m)) (may 0)) (may_all ms (λ l. may (suc l)))

module _ (leaves : ℕ) (rows : List Row) (index : Index) (ranges : List LoadedRange)
    (laid : AreLaid leaves rows index ranges) where
  -- the cells are those of the leaves in memory
  pub loaded_are : numbered_segments laid.table ≡ loaded_segments ranges
  loaded_are = same_segments laid.table ranges laid.same

  pub loaded_count : length (loaded_segments ranges) ≡ 8 * leaves
  loaded_count =
      let wide = laid.kept.count in
      let limit = laid.filled.limit_is in
      let same = ap length laid.same in
      let memory = length-map laid.table cells_in_memory in
      let own = length-map ranges leaf_segments in
      let all = count_loaded ranges in
      omega (arith, wide, limit, same, memory, own, all)

  module _ (small : AllByRecursion (λ r. r.weight ≤ MAX_WEIGHT) rows) where
    small_rows : AllByRecursion HasSmallRow (rows_of (cells_in (map (part_of laid.table) index.entries)))
    small_rows =
        let all : rows_of (cells_in (map (part_of laid.table) index.entries)) ≡ settled_rows rows =
        laid.filling.rows_are ∙ ap settled_rows (take_all (length rows) rows (omega arith)) in
        subst (AllByRecursion HasSmallRow) (sym all) (settled_small rows small)

    pub may_spell : AllByRecursion MaySpell (loaded_segments ranges)
    may_spell = subst (AllByRecursion MaySpell) loaded_are (may_all laid.table (λ l.
        let at = sound_at leaves index laid.table laid.kept laid.only HasSmallRow small_rows l in
        both (segments_at laid.table l) at.0 at.1))

pub load_begins : LoadBegins
load_begins z heap load rows room index ranges sized are laid =
    let ss = loaded_segments ranges in
    let some_passes : 1 ≤ z.passes = grind (arith, nat_tests) in
    let some_txns : 1 ≤ z.txns_per_pass = grind (arith, nat_tests) in
    let kept : IsKept index laid.table = laid.kept in
    let may = may_spell z.leaves rows index ranges laid are.small in
    let count = loaded_count z.leaves rows index ranges laid in
    let numbered : AreNumbered index laid.table (contents_of ss) =
    subst (λ x. AreNumbered index laid.table (contents_of x)) (loaded_are z.leaves rows index ranges laid)
    (are_numbered z.leaves index laid.table kept laid.only) in
    let shows = numbered_is_indexed heap index laid.table (contents_of ss) kept numbered in
    let is : IsLoaded z heap load index (cell_of ss) = record {
      some = are.some;
      allowed = are.allowed;
      within = are.within;
      indexed = shows.indexed;
      leaves = laid.filled.limit_is;
      settled = λ q. ap (λ (s : Leaves). versions_of s q) shows.same ∙ laid.filled.versions q ∙ are.settled q;
      weighed =
          let same = ap weight shows.same in
          let most = laid.filled.weight in
          let few = are.few in
          omega (arith, same, most, few);
      first = λ k inside. all_first ss k may;
    } in
    loaded_table z (lines z.passes) heap (loaded_words z ss) load room index (cell_of ss) some_passes some_txns
    (are_loaded_words z ss may (omega (arith, count))) is
