-- Segments that stay a leaf, whatever happens to their rows.
use Rattle.std.proofs.Common.{◌≡◌, ℕ, zero, suc, ◌<◌, List, [], ◌∷◌, length, get_or, set, length-set, refl, sym, ◌∙◌, subst, arith, OnOk, OnErr}
use Rattle.std.specs.declared.result.Result.{Result}
use Rattle.std.specs.declared.result.Result.TheVariants.{Ok, Err}
use Rattle.graph_model.specs.declared.row.Key.{Key}
use Rattle.version_segment.specs.Rows.{VersionedRows}
use Rattle.leaf_array.specs.Segments.{low_or, AreChained, AreSame, KeepsFences}
use Rattle.leaf_array.specs.Leaves.{IsLeaf}
use Rattle.leaf_array.proofs.CountLemmas.{same-length, same-low}

set_low : (ss : List VersionedRows) (i : ℕ) (d t : VersionedRows) → i < length ss → KeepsFences (get_or ss i d) t → (other : Key) → low_or (set ss i t) other ≡ low_or ss other
set_low [] i d t lt same other = absurd (omega arith)
set_low (x ∷ xs) zero d t lt same other = same.low
set_low (x ∷ xs) (suc i) d t lt same other = refl

still_chained : (ss : List VersionedRows) (i : ℕ) (d t : VersionedRows) → AreChained ss → i < length ss → KeepsFences (get_or ss i d) t → AreChained (set ss i t)
still_chained [] i d t chained lt same = absurd (omega arith)
still_chained (x ∷ xs) zero d t chained lt same = (subst (λ h. low_or xs h ≡ h) (sym same.high) chained.0, chained.1)
still_chained (x ∷ xs) (suc i) d t chained lt same = (set_low xs i d t (omega arith) same x.high ∙ chained.0, still_chained xs i d t chained.1 (omega arith) same)

-- a segment that keeps its fence keys keeps its leaf
pub leaf-stays : (ss : List VersionedRows) (i : ℕ) (d t : VersionedRows) → IsLeaf ss → i < 8 → KeepsFences (get_or ss i d) t → IsLeaf (set ss i t)
leaf-stays ss i d t leaf lt same = record {
  segments = length-set ss i t ∙ leaf.segments;
  chained = still_chained ss i d t leaf.chained (omega (arith, leaf.segments)) same;
}

same_chained : (ss ts : List VersionedRows) → AreSame ss ts → AreChained ss → AreChained ts
same_chained [] [] same h = h
same_chained (s ∷ ss) (t ∷ ts) same h = (same-low ss ts same.1 t.high ∙ subst (λ k. low_or ss k ≡ k) (sym same.0.high) h.0, same_chained ss ts same.1 h.1)
same_chained [] (t ∷ ts) same h = absurd same
same_chained (s ∷ ss) [] same h = absurd same

-- so do segments in which only the room for records has changed
pub same-leaf : (ss ts : List VersionedRows) → AreSame ss ts → IsLeaf ss → IsLeaf ts
same-leaf ss ts same leaf = record { segments = same-length ss ts same ∙ leaf.segments; chained = same_chained ss ts same leaf.chained }

-- and after a call that leaves a leaf, or for which there was no memory
pub leaf-after : {X E : Type 0} (P : Type 0) (ss ts : List VersionedRows) (r : Result X E) → OnOk r P → (P → IsLeaf ts) → OnErr r (AreSame ss ts) → IsLeaf ss → IsLeaf ts
leaf-after P ss ts (Ok x) ok is err leaf = is ok
leaf-after P ss ts (Err e) ok is err leaf = same-leaf ss ts err leaf
