-- What is read of segments one after the other.
use Rattle.std.proofs.Common.{◌≡◌, ℕ, ◌+◌, ◌<◌, ◌≤◌, List, [], ◌∷◌, ◌++◌, length, take, map, set, get_or, sym, ◌∙◌, ap, subst, arith}
use Rattle.std.specs.List.{AllByRecursion}
use Rattle.std.proofs.Math.ListN.{length-set}
use Rattle.std.proofs.lemmas.List.{map_more, take_all, take_more, take_more_set}
use Rattle.gap_segment.proofs.FencedLemmas.{all_append}
use Rattle.leaf_array.specs.VersionSegment.Rows.{VersionedRows, IsSegment}

-- the first segments have been read, and are sound
pub record IsRead {X : Type 0} (f : VersionedRows → X) (i : ℕ) (xs : List X) (ss : List VersionedRows) : Type 0 where
  pub wide : length xs ≡ length ss
  pub same : take i xs ≡ map f (take i ss)
  pub sound : AllByRecursion IsSegment (take i ss)

pub read_more : {X : Type 0} (f : VersionedRows → X) (i : ℕ) (xs : List X) (ss : List VersionedRows) (s : VersionedRows) (x : X) → IsRead f i xs ss → i < length ss → s ≡ get_or ss i s → x ≡ f s → IsSegment s → IsRead f (i + 1) (set xs i x) ss
read_more f i xs ss s x so lt at is sound = record {
  wide = length-set xs i x ∙ so.wide;
  same = take_more_set xs i x (omega (arith, so.wide, lt)) ∙ (λ j. so.same j ++ (is ∙ ap f at) j ∷ []) ∙ sym (map_more f ss i s lt);
  sound = subst (AllByRecursion IsSegment) (sym (take_more ss i s lt)) (all_append IsSegment (take i ss) (get_or ss i s ∷ []) so.sound (subst IsSegment at sound, tt));
}

pub read_all : {X : Type 0} (f : VersionedRows → X) (i : ℕ) (xs : List X) (ss : List VersionedRows) → IsRead f i xs ss → length ss ≤ i → xs ≡ map f ss
read_all f i xs ss so le = sym (take_all i xs (omega (arith, so.wide, le))) ∙ so.same ∙ ap (map f) (take_all i ss le)

pub all_sound : {X : Type 0} (f : VersionedRows → X) (i : ℕ) (xs : List X) (ss : List VersionedRows) → IsRead f i xs ss → length ss ≤ i → AllByRecursion IsSegment ss
all_sound f i xs ss so le = subst (AllByRecursion IsSegment) (take_all i ss le) so.sound
