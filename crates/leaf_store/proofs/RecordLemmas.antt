-- The records of all rows, counted leaf by leaf.
use Rattle.std.proofs.Common.{◌≡◌, ℕ, ◌+◌, ◌-◌, List, [], ◌∷◌, ◌++◌, map, refl, sym, ◌∙◌, ap, subst, arith, append_assoc}
use Rattle.std.specs.Prelude.{true, false, min, ◌^◌}
use Rattle.std.proofs.lemmas.Grind.{flat_map-append}
use Rattle.std.proofs.lemmas.List.{append-nil}
use Rattle.graph_model.specs.declared.row.Key.{Key}
use Rattle.graph_model.specs.Rows.{is_below, first_key, end_key}
use Rattle.graph_model.proofs.KeyLemmas.{below_self}
use Rattle.leaf_table.specs.VersionSegment.Rows.{all_records}
use Rattle.leaf_table.specs.LeafArray.Segments.{rows_of, records_of}
use Rattle.leaf_table.proofs.LeafArray.PairLemmas.{rows-append}
use Rattle.leaf_table.proofs.LeafArray.SegmentLemmas.{records-append}
use Rattle.leaf_index.specs.Index.{Index, Entry, BeginBelow, end_of}
use Rattle.leaf_index.specs.Calls.{IsLeafRange}
use Rattle.leaf_index.specs.declared.route.LeafRange.{LeafRange}
use Rattle.leaf_store.specs.Leaves.{record_count}
use Rattle.leaf_store.specs.Table.{IsKept, leaves_of, part_of, segments_at}
use Rattle.leaf_store.proofs.CellLemmas.{clash}
use Rattle.leaf_store.proofs.StoreLemmas.{cells_in}
use Rattle.leaf_store.proofs.TableLemmas.{Table, parts_append}
use Rattle.leaf_store.proofs.WalkLemmas.{floor_here}

-- the records of these leaves
abbrev pub records_in : Table → List Entry → ℕ
records_in table es = records_of (cells_in (map (part_of table) es))

-- with one leaf more
one_more : (table : Table) (es : List Entry) (e : Entry) → records_in table (es ++ e ∷ []) ≡ records_in table es + records_of (segments_at table e.leaf)
one_more table es e =
    let front = cells_in (map (part_of table) es) in
    let ss = segments_at table e.leaf in
    ap (λ ps. records_of (cells_in ps)) (parts_append table es (e ∷ []))
    ∙ ap records_of (flat_map-append (λ p. p.segments) (map (part_of table) es) (part_of table e ∷ []) ∙ ap (λ cs. front ++ cs) (append-nil ss))
    ∙ ap all_records (rows-append front ss) ∙ records-append (rows_of front) (rows_of ss)

-- the leaves before the key are counted, up to the last number
pub record AreCounted (index : Index) (table : Table) (key : Key) (records : ℕ) : Type 0 where
  pub done : List Entry
  pub rest : List Entry
  pub is : index.entries ≡ done ++ rest
  pub at : key ≡ end_of rest
  pub count : records ≡ min (records_in table done) (2 ^ 64 - 1)

pub none_counted : (index : Index) (table : Table) → end_of index.entries ≡ first_key → AreCounted index table first_key 0
none_counted index table first = record { done = []; rest = index.entries; is = refl; at = sym first; count = omega arith }

-- the next leaf is counted
pub one_counted : (index : Index) (table : Table) (key : Key) (records here : ℕ) (range : LeafRange) → IsKept index table → AreCounted index table key records → is_below key end_key ≡ true → IsLeafRange key index.entries range
    → here ≡ min (records_of (segments_at table range.leaf)) (2 ^ 64 - 1) → (all : ℕ) → all ≡ min (records + here) (2 ^ 64 - 1) → AreCounted index table range.high all
one_counted index table key records here range kept so below at counts all sum = go so.rest so.is so.at
  where
    go : (rest : List Entry) → index.entries ≡ so.done ++ rest → key ≡ end_of rest → AreCounted index table range.high all
    go [] is begins = clash (is_below key end_key) below (ap (λ k. is_below k end_key) begins ∙ below_self end_key)
    go (e ∷ es) is begins =
        let same = floor_here index.entries so.done e es key at.entry is begins kept.index_is.rising at.floor in
        let one = one_more table so.done e in
        let leaf : range.leaf ≡ e.leaf = at.range_is.leaf ∙ ap (λ (x : Entry). x.leaf) same.entry in
        let more = ap (λ n. records_of (segments_at table n)) leaf in
        let before = so.count in
        record {
          done = so.done ++ e ∷ [];
          rest = es;
          is = is ∙ sym (append_assoc so.done (e ∷ []) es);
          at = at.range_is.high ∙ ap end_of same.back;
          count = omega (arith, one, more, before, counts, sum);
        }

-- behind the last leaf all are
pub all_counted : (index : Index) (table : Table) (key : Key) (records : ℕ) → IsKept index table → AreCounted index table key records → is_below key end_key ≡ false → records ≡ min (record_count (leaves_of index table)) (2 ^ 64 - 1)
all_counted index table key records kept so ended = go so.rest so.is so.at
  where
    begins_below : (done : List Entry) (e : Entry) (es : List Entry) → BeginBelow end_key (done ++ e ∷ es) → is_below e.low end_key ≡ true
    begins_below [] e es below = below.0
    begins_below (d ∷ done) e es below = begins_below done e es below.1

    go : (rest : List Entry) → index.entries ≡ so.done ++ rest → key ≡ end_of rest → records ≡ min (record_count (leaves_of index table)) (2 ^ 64 - 1)
    go [] is begins = so.count ∙ ap (λ es. min (records_in table es) (2 ^ 64 - 1)) (sym (is ∙ append-nil so.done))
    go (e ∷ es) is begins =
        clash (is_below key end_key) (ap (λ k. is_below k end_key) begins ∙ begins_below so.done e es (subst (BeginBelow end_key) is kept.begin)) ended
