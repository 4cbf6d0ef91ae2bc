-- A write looks at writers in few rows: where these may be written, it looks at none but writers that are seen.
use Rattle.std.proofs.Common.{◌≡◌, refl, ◌∙◌, ap, cond}
use Rattle.std.specs.Prelude.{Bool, true, false, ◌&&◌, ◌||◌, ◌++◌}
use Rattle.graph_model.specs.declared.journal.TxnName.{TxnName}
use Rattle.graph_model.specs.declared.row.Key.{Key}
use Rattle.graph_model.specs.declared.write.Kind.{Kind}
use Rattle.graph_model.specs.declared.write.Write.{Write}
use Rattle.graph_model.specs.declared.write.Write.TheVariants.{AddVertex, DropVertex, AddEdge, SetEdge, DropEdge}
use Rattle.graph_model.specs.Effects.{same_key}
use Rattle.graph_model.specs.Rows.{arc_key, vertex_key}
use Rattle.graph_model.specs.Transactions.{has_name}
use Rattle.graph_model.proofs.TestLemmas.{self_eq}
use Rattle.store_model.specs.declared.versions.Versions.{Versions}
use Rattle.store_model.specs.Check.{MayWrite, droppers, looked, newest}
use Rattle.store_model.specs.Versions.{no_versions}
use Rattle.store_model.proofs.SeenLemmas.{looked_by_row}
use Rattle.rule_model.specs.RowSteps.{looks_in}

-- of two tests one holds
first_holds : (a b : Bool) → a ≡ true → (a || b) ≡ true
first_holds true b e = refl
first_holds false b e = cc

second_holds : (a b : Bool) → b ≡ true → (a || b) ≡ true
second_holds true b e = refl
second_holds false b e = e

key_self : (k : Key) → same_key k k ≡ true
key_self k = λ i. self_eq k.src i && self_eq k.second i

-- it looks in the row that it writes first
in_first : (k : Key) (b : Bool) → (same_key k k || b) ≡ true
in_first k b = first_holds (same_key k k) b (key_self k)

module _ (contents : Key → Versions) where
  -- the rows at which the write looks; all others are as if they had no versions
  abbrev looked_rows : Write → Key → Versions
  looked_rows w k = cond (looks_in w k) (contents k) no_versions

  row_there : (w : Write) (k : Key) → looks_in w k ≡ true → looked_rows w k ≡ contents k
  row_there w k e = ap (λ t. cond t (contents k) no_versions) e

  -- the write looks at the same writers in them
  looked_same : (w : Write) → looked w (looked_rows w) ≡ looked w contents
  looked_same (AddVertex v) =
      ap newest (row_there (AddVertex v) (vertex_key v) (in_first (vertex_key v) false))
  looked_same (DropVertex v) =
      ap (λ vs. newest vs ++ vs.touches)
      (row_there (DropVertex v) (vertex_key v) (in_first (vertex_key v) false))
  looked_same (AddEdge u v weight) =
      let w : Write = AddEdge u v weight in
      let row : looked_rows w (arc_key u v) ≡ contents (arc_key u v)
      = row_there w (arc_key u v) (in_first (arc_key u v) _) in
      let source : looked_rows w (vertex_key u) ≡ contents (vertex_key u)
      = row_there w (vertex_key u) (second_holds (same_key (vertex_key u) (arc_key u v)) _
      (in_first (vertex_key u) _)) in
      let target : looked_rows w (vertex_key v) ≡ contents (vertex_key v)
      = row_there w (vertex_key v) (second_holds (same_key (vertex_key v) (arc_key u v)) _
      (second_holds (same_key (vertex_key v) (vertex_key u)) _ (key_self (vertex_key v)))) in
      λ i. newest (row i) ++ (droppers (source i) ++ droppers (target i))
  looked_same (SetEdge u v weight) =
      ap newest (row_there (SetEdge u v weight) (arc_key u v) (in_first (arc_key u v) false))
  looked_same (DropEdge u v) =
      ap newest (row_there (DropEdge u v) (arc_key u v) (in_first (arc_key u v) false))

  module _ (kind : Kind) (seen : TxnName → Bool) (w : Write)
      (may : (k : Key) → looks_in w k ≡ true → MayWrite kind seen w k (contents k)) where
    each_may : (k : Key) → MayWrite kind seen w k (looked_rows w k)
    each_may k = by_test (looks_in w k) refl
      where
        by_test : (t : Bool) → looks_in w k ≡ t → MayWrite kind seen w k (cond t (contents k) no_versions)
        by_test true e = may k e
        by_test false e = record { free = λ _. tt; ends = λ _. tt; touches = λ _ _. tt }

-- LOOKED SEEN
pub looked_seen : (kind : Kind) (seen : TxnName → Bool) (w : Write) (contents : Key → Versions)
    → ((k : Key) → looks_in w k ≡ true → MayWrite kind seen w k (contents k))
    → (n : TxnName) → has_name (looked w contents) n ≡ true → seen n ≡ true
looked_seen kind seen w contents may n h =
    looked_by_row kind seen w (looked_rows contents w) (each_may contents kind seen w may) n
    (ap (λ ns. has_name ns n) (looked_same contents w) ∙ h)
