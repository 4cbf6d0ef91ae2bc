-- Distances that show by themselves that they are the least ones are those of a search.
use Rattle.std.proofs.Common.{◌≡◌, ℕ, zero, suc, ◌+◌, ◌<◌, ⊎_elim, List, length, Option, slice_get, Some, sym, ap, ◌∙◌, subst, arith}
use Rattle.std.specs.Prelude.{slice_index}
use Rattle.std.proofs.lemmas.Option.{same_Some, slice_get_within}
use Rattle.graph_model.specs.Graph.{Graph}
use Rattle.graph_image.specs.declared.edge.Arc.{Arc}
use Rattle.graph_image.specs.Images.{Places, arcs_at, IsImageOf}
use Rattle.graph_image.specs.Paths.{HasPathBy}
use Rattle.graph_image.proofs.Lists.{below_cases}
use Rattle.kernel_sssp.specs.declared.distances.TheConstants.{UNREACHED}
use Rattle.kernel_sssp.specs.Distances.{LinkOut, IsSearched, IsRelaxed}
use Rattle.kernel_sssp.specs.Certain.{IsAllowed, AreAllowed, AreCertain}
use Rattle.kernel_sssp.proofs.WeightLemmas.{all_found}

-- one arc more is allowed
pub allowed_more : (ds : List ℕ) (arcs : List Arc) (n distance : ℕ) (a : Arc) → AreAllowed ds arcs n distance → slice_get arcs n ≡ Some a → IsAllowed (slice_index ds a.other) a.weight distance → AreAllowed ds arcs (n + 1) distance
allowed_more ds arcs n distance a before at is k b below at_k = ⊎_elim
    (λ less. before k b less at_k)
    (λ same.
    let here : slice_get arcs n ≡ Some b = ap (slice_get arcs) (sym same) ∙ at_k in
    let both : ◌≡◌ {A = Option Arc} (Some a) (Some b) = sym at ∙ here in
    let arc : a ≡ b = same_Some a b both in
    subst (λ (x : Arc). IsAllowed (slice_index ds x.other) x.weight distance) arc is)
    (below_cases k n below)

module _ (image : Places) (g : Graph) (is : IsImageOf image g) (root : ℕ) (ds : List ℕ) (are : AreCertain image root ds) where
  -- an arc into a place leads out of its other end
  link_into : (q k : ℕ) (a : Arc) → q < length image.vertices → slice_get (arcs_at image.into q) k ≡ Some a → LinkOut image a.other q a.weight
  link_into q k a within at =
      let leads = (is.into q within).sound k a at in
      let p_in = slice_get_within image.vertices a.other leads.from leads.from_at in
      let there = (is.out a.other p_in).complete q a.weight leads in
      (p_in, there.0, there.1)

  -- an arc out of a place leads into its other end, where it was looked at
  relaxed : (p k : ℕ) (a : Arc) → p < length image.vertices → slice_get (arcs_at image.out p) k ≡ Some a → IsRelaxed ds p a
  relaxed p k a within at =
      let leads = (is.out p within).sound k a at in
      let q_in = slice_get_within image.vertices a.other leads.to leads.to_at in
      let back = (is.into a.other q_in).complete p a.weight leads in
      let there : Arc = record { other = p; weight = a.weight } in
      (are.each a.other q_in).allowed back.0 there (slice_get_within (arcs_at image.into a.other) back.0 there back.1) back.1

  -- from each reached place arcs lead back to the root, along which distances fall
  walks : (m q : ℕ) → slice_index ds q < m → q < length image.vertices → (slice_index ds q ≡ UNREACHED → ⊥) → (k : ℕ) × HasPathBy (LinkOut image) root k q (slice_index ds q)
  walks zero q less within reaches = absurd (omega (arith, less))
  walks (suc m) q less within reaches = ⊎_elim
      (λ same. (zero, (sym same, ap (slice_index ds) same ∙ are.start)))
      (λ others. ⊎_elim
      (λ none. absurd (reaches none))
      (λ met.
      let a = met.1 in
      let link = link_into q met.0 a within met.2 in
      let heavy = met.3.0 in
      let low = met.3.1 in
      let sum = met.3.2 in
      let before = walks m a.other (omega (arith, less, heavy, sum)) link.0 (λ none. absurd (omega (arith, low, none))) in
      (suc before.0, (a.other, slice_index ds a.other, a.weight, before.1, link, sym sum)))
      others)
      (are.each q within).met

  pub certain_searched : IsSearched (LinkOut image) root (length image.vertices) ds
  certain_searched = record {
    count = are.count;
    sound = λ p within reaches. walks (slice_index ds p + 1) p (omega arith) within reaches;
    least = λ k p weight path. (all_found image root ds are.start relaxed k p weight path).1;
    found = λ k p weight path. (all_found image root ds are.start relaxed k p weight path).0;
  }
