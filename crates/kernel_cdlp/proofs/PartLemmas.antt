-- Parts lie behind each other, and a round leaves them where they are.
use Rattle.std.proofs.Common.{◌≡◌, ℕ, zero, suc, ◌+◌, ◌-◌, ◌<◌, ◌≤◌, ⊎_elim, List, [], ◌∷◌, ◌++◌, length, take, slice_get, Some, refl, sym, ap, ◌∙◌, subst, arith}
use Rattle.std.specs.Prelude.{slice_index}
use Rattle.std.proofs.lemmas.Bool.{cases_lt}
use Rattle.std.proofs.lemmas.List.{length_push, length-append, get_or_append_left, get_or-append_right}
use Rattle.std.proofs.lemmas.Option.{slice_get_within}
use Rattle.graph_image.specs.Images.{Places, arcs_at}
use Rattle.graph_image.proofs.Lists.{get_push_cases, get_within}
use Rattle.kernel_cdlp.specs.declared.part.Part.{Part}
use Rattle.kernel_cdlp.specs.Rounds.{IsNextLabel, IsRound}
use Rattle.kernel_cdlp.specs.Parts.{places_in, IsPart, IsRelabelled, Meets, AreParts, AreRelabelled}

-- one more part behind the others
pub parts_more : (image : Places) (n : ℕ) (parts : List Part) (part : Part) → AreParts image n parts → IsPart image part → part.first ≡ n → AreParts image (n + places_in part) (parts ++ part ∷ [])
parts_more image n parts part are is first =
    let long = length_push parts part in
    record {
      each = λ i x at. ⊎_elim (λ old. are.each i x old) (λ new. subst (IsPart image) new.1 is) (get_push_cases parts part i x at);
      start = record {
        next = λ x at. ⊎_elim (λ old. are.start.next x old) (λ new. let same = ap (λ (y : Part). y.first) new.1 in let end = are.start.end new.0 in omega arith) (get_push_cases parts part 0 x at);
        end = λ same. absurd (omega arith);
      };
      step = λ i x at. ⊎_elim
          (λ old.
          let meets = are.step i x old in
          let below = slice_get_within parts i x old in
          record {
            next = λ y there. ⊎_elim (λ older. meets.next y older) (λ new. let same = ap (λ (z : Part). z.first) new.1 in let end = meets.end new.0 in omega arith) (get_push_cases parts part (i + 1) y there);
            end = λ same. absurd (omega arith);
          })
          (λ new. record {
            next = λ y there. absurd (let below = slice_get_within (parts ++ part ∷ []) (i + 1) y there in let last = new.0 in omega arith);
            end = λ same. (let f = ap (λ (z : Part). z.first) new.1 in let c = ap places_in new.1 in omega arith);
          })
          (get_push_cases parts part i x at);
    }

-- parts that hold the same places lie behind each other as before
module _ (image : Places) (labels : List ℕ) (n : ℕ) (old new : List Part) (count : length new ≡ length old)
    (each : (i : ℕ) (a b : Part) → slice_get old i ≡ Some a → slice_get new i ≡ Some b → IsRelabelled image labels a b) where
  before : (i : ℕ) (b : Part) → slice_get new i ≡ Some b → (a : Part) × (slice_get old i ≡ Some a) × IsRelabelled image labels a b
  before i b at = let there = get_within old i (let below = slice_get_within new i b at in omega arith) in (there.0, there.1, each i there.0 b there.1 at)

  meets_after : (i p q : ℕ) → p ≡ q → Meets n old i p → Meets n new i q
  meets_after i p q same meets = record {
    next = λ b at. (let a = before i b at in let f = a.2.first in let g = meets.next a.0 a.1 in omega arith);
    end = λ last. sym same ∙ meets.end (last ∙ count);
  }

  pub parts_after : AreParts image n old → AreParts image n new
  parts_after are = record {
    each = λ i b at. (before i b at).2.part;
    start = meets_after 0 0 0 refl are.start;
    step = λ i b at. (let a = before i b at in let f = a.2.first in let c = a.2.count in meets_after (i + 1) (a.0.first + places_in a.0) (b.first + places_in b) (omega arith) (are.step i a.0 a.1));
  }

  pub labels_in_parts : AreRelabelled image labels new
  labels_in_parts i b at = (before i b at).2.each

-- what stands before the rest of a list
pub front_of : {X : Type 0} (n : ℕ) (xs ys : List X) → n ≡ length xs → take n (xs ++ ys) ≡ xs
front_of zero [] ys count = refl
front_of zero (x ∷ xs) ys count = absurd (omega arith)
front_of (suc n) [] ys count = absurd (omega arith)
front_of (suc n) (x ∷ xs) ys count = ap (λ l. x ∷ l) (front_of n xs ys (omega arith))

-- ---- the labels of the parts behind each other

-- these are the labels of the first i parts
pub record AreJoined (image : Places) (old : List ℕ) (parts : List Part) (i : ℕ) (labels : List ℕ) : Type 0 where
  pub meets : Meets (length image.vertices) parts i (length labels)
  pub each : (p : ℕ) → p < length labels → IsNextLabel image old p (slice_index labels p)

-- those of one more
pub joined_more : (image : Places) (old : List ℕ) (parts : List Part) (i : ℕ) (labels : List ℕ) (part : Part) → AreParts image (length image.vertices) parts → AreRelabelled image old parts
    → AreJoined image old parts i labels → slice_get parts i ≡ Some part → AreJoined image old parts (i + 1) (labels ++ part.labels.items)
joined_more image old parts i labels part are next joined at =
    let long = length-append labels part.labels.items in
    let first : part.first ≡ length labels = joined.meets.next part at in
    record {
      meets = subst (Meets (length image.vertices) parts (i + 1)) (ap (λ f. f + places_in part) first ∙ sym long) (are.step i part at);
      each = λ p below. ⊎_elim
          (λ low. subst (IsNextLabel image old p) (sym (get_or_append_left labels part.labels.items 0 p low)) (joined.each p low))
          (λ high.
          let k = p - length labels in
          let place : part.first + k ≡ p = omega arith in
          subst (IsNextLabel image old p) (sym (get_or-append_right labels part.labels.items (length labels) p 0 refl high))
          (subst (λ q. IsNextLabel image old q (slice_index part.labels.items k)) place (next i part at k (omega arith))))
          (cases_lt p (length labels));
    }

-- those of all
pub joined_all : (image : Places) (old : List ℕ) (parts : List Part) (i : ℕ) (labels : List ℕ) → AreJoined image old parts i labels → i ≡ length parts → IsRound image old labels
joined_all image old parts i labels joined last =
    let count = joined.meets.end last in
    record { count = count; each = λ p below. joined.each p (omega arith) }

-- ---- the label of a place after that of another

-- the places of the part before place k have their labels after the round
pub record IsRelabelling (image : Places) (labels : List ℕ) (old new : Part) (k : ℕ) : Type 0 where
  pub part : IsPart image new
  pub first : new.first ≡ old.first
  pub count : places_in new ≡ places_in old
  pub each : (j : ℕ) → j < k → IsNextLabel image labels (new.first + j) (slice_index new.labels.items j)

-- ---- how far a part goes

-- the first so many places from there on meet at most so many labels each
pub record IsMeasured (image : Places) (first count arcs room : ℕ) : Type 0 where
  pub within : first + count ≤ length image.vertices
  pub fits : (k : ℕ) → k < count → length (arcs_at image.out (first + k)) + length (arcs_at image.into (first + k)) ≤ room
  pub some : count ≡ 0 → arcs ≡ 0
