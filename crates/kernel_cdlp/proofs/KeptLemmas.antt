-- Labels that no change reached stay as they are.
use Rattle.std.proofs.Common.{◌≡◌, ℕ, ◌+◌, ◌<◌, ◌≤◌, ⊎_elim, List, [], ◌∷◌, ◌++◌, Bool, false, true, length, replicate, get_or, slice_get, slice_set, Some, refl, sym, ap, ◌∙◌, subst, arith, get_or-set_other, get_or-set_same, length-set}
use Rattle.std.specs.Prelude.{slice_index}
use Rattle.std.proofs.lemmas.List.{get_or-replicate}
use Rattle.std.proofs.lemmas.Option.{slice_get_within, slice_get-get_or, get_or_from_slice_get}
use Rattle.graph_image.specs.declared.edge.Arc.{Arc}
use Rattle.graph_image.specs.Images.{Places, arcs_at}
use Rattle.graph_image.proofs.Lists.{map_same, below_cases}
use Rattle.kernel_cdlp.specs.Frequency.{IsMostFrequentOr}
use Rattle.kernel_cdlp.specs.Rounds.{labels_met, IsRound, AreBelow, HaveNotChanged, IsKept, AreMarked}

-- ---- at first

-- where all is marked, an arc has a changed end, so there is none
none_quiet : (n : ℕ) (changed : List Bool) → length changed ≡ n → changed ≡ replicate n true → (arcs : List Arc) → HaveNotChanged changed arcs → arcs ≡ []
none_quiet n changed count all [] quiet = λ i. []
none_quiet n changed count all (a ∷ arcs) quiet =
    let at = quiet 0 a refl in
    let below = slice_get_within changed a.other false at in
    let same : true ≡ false = sym (ap (λ xs. get_or xs a.other true) all ∙ get_or-replicate n a.other true true (omega arith)) ∙ get_or_from_slice_get changed a.other false true at in
    absurd (let both : true ≡ false = same in cc)

pub kept_first : (image : Places) (labels : List ℕ) (changed : List Bool) → AreBelow (length image.vertices) labels → length changed ≡ length image.vertices → changed ≡ replicate (length image.vertices) true → IsKept image labels changed
kept_first image labels changed below count all = record {
  count = count;
  each = λ p within quiet.
      let out = none_quiet (length image.vertices) changed count all (arcs_at image.out p) quiet.0 in
      let into = none_quiet (length image.vertices) changed count all (arcs_at image.into p) quiet.1 in
      let nothing : labels_met labels (arcs_at image.out p) ++ labels_met labels (arcs_at image.into p) ≡ [] = (λ i. labels_met labels (out i) ++ labels_met labels (into i)) in
      record {
        most = λ linked. subst (λ xs. IsMostFrequentOr (slice_index labels p) xs (slice_index labels p)) (sym nothing) refl;
        below = below.each p within;
      };
}

-- ---- after a round

-- the value that stands most often is so whatever the default, where it is the default if there is no value
other_default : (default : ℕ) (xs : List ℕ) (x : ℕ) → IsMostFrequentOr default xs x → IsMostFrequentOr x xs x
other_default default [] x is = refl
other_default default (y ∷ ys) x is = is

-- labels that have not changed are met as before
same_met : (old new : List ℕ) (changed : List Bool) → AreMarked old new changed → (arcs : List Arc) → HaveNotChanged changed arcs → labels_met old arcs ≡ labels_met new arcs
same_met old new changed marked arcs quiet = map_same (λ (a : Arc). slice_index old a.other) (λ (a : Arc). slice_index new a.other) arcs (λ i a at. sym (marked.each a.other (quiet i a at)))

pub kept_later : (image : Places) (old new : List ℕ) (changed : List Bool) → IsRound image old new → AreMarked old new changed → IsKept image new changed
kept_later image old new changed round marked = record {
  count = marked.count ∙ round.count;
  each = λ p within quiet.
      let next = round.each p within in
      let met : labels_met old (arcs_at image.out p) ++ labels_met old (arcs_at image.into p) ≡ labels_met new (arcs_at image.out p) ++ labels_met new (arcs_at image.into p) =
      (λ i. same_met old new changed marked (arcs_at image.out p) quiet.0 i ++ same_met old new changed marked (arcs_at image.into p) quiet.1 i) in
      record {
        most = λ linked. subst (λ xs. IsMostFrequentOr (slice_index new p) xs (slice_index new p)) met (other_default (slice_index old p) (labels_met old (arcs_at image.out p) ++ labels_met old (arcs_at image.into p)) (slice_index new p) (next.most linked));
        below = next.below;
      };
}

-- ---- the marks

-- the first i places are marked
pub record IsMarking (before after : List ℕ) (i : ℕ) (changed : List Bool) : Type 0 where
  pub count : length changed ≡ length after
  pub each : (p : ℕ) → p < i → slice_get changed p ≡ Some false → slice_index after p ≡ slice_index before p

pub marking_none : (before after : List ℕ) (changed : List Bool) → length changed ≡ length after → IsMarking before after 0 changed
marking_none before after changed count = record { count = count; each = λ p below at. absurd (omega arith) }

pub marking_more : (before after : List ℕ) (i : ℕ) (changed : List Bool) → IsMarking before after i changed → i < length after → (mark : Bool) → (mark ≡ false → slice_index after i ≡ slice_index before i) → IsMarking before after (i + 1) (slice_set changed i mark)
marking_more before after i changed marking within mark tells = record {
  count = length-set changed i mark ∙ marking.count;
  each = λ p below at. ⊎_elim
      (λ less.
      let inside : p < length changed = (let count = marking.count in omega arith) in
      let read = get_or_from_slice_get (slice_set changed i mark) p false true at in
      let was : get_or changed p true ≡ false = sym (get_or-set_other changed i p mark true (λ same. absurd (omega arith))) ∙ read in
      marking.each p less (slice_get-get_or changed p true inside ∙ ap Some was))
      (λ same.
      let inside : i < length changed = (let count = marking.count in omega arith) in
      let read = get_or_from_slice_get (slice_set changed i mark) p false true at in
      let now : mark ≡ false = sym (ap (λ q. get_or (slice_set changed i mark) q true) same ∙ get_or-set_same changed i mark true inside) ∙ read in
      ap (slice_index after) same ∙ tells now ∙ ap (slice_index before) (sym same))
      (below_cases p i below);
}

pub marked_all : (before after : List ℕ) (i : ℕ) (changed : List Bool) → IsMarking before after i changed → length after ≤ i → AreMarked before after changed
marked_all before after i changed marking whole = record {
  count = marking.count;
  each = λ p at. (let within = slice_get_within changed p false at in let count = marking.count in marking.each p (omega arith) at);
}
