-- Numbers of edges.
use Rattle.std.proofs.Common.{◌≡◌, ℕ, ◌+◌, ◌<◌, ◌≤◌, true, List, [], ◌∷◌, ◌++◌, length, get_or, map, refl, take, sym, subst, ap, ◌∙◌, arith, All}
use Rattle.std.proofs.lemmas.List.{map_more, take_more, length-map, length-take}
use Rattle.std.proofs.lemmas.List.Elements.{All-cons, All-nil, All-push}
use Rattle.std.specs.List.{AllZip}
use Rattle.std.specs.Prelude.{IfOk, Ok}
use Rattle.std.specs.declared.result.Result.{Result}
use Rattle.graph_model.specs.declared.write.Kind.{Kind}
use Rattle.graphalytics_io.specs.declared.edges.Edge.{Edge}
use Rattle.id_places.specs.Places.{is_among, pair_in, AreNumbers, IsNumberOf}

module _ (kind : Kind) (ids : List ℕ) where
  abbrev IsSource : Edge → Type 0
  IsSource edge = is_among ids edge.u ≡ true

  abbrev IsTarget : Edge → Type 0
  IsTarget edge = is_among ids edge.v ≡ true

  -- no edges have no numbers
  pub no_numbers : (numbers : List ℕ) → numbers ≡ [] → AreNumbers kind ids [] numbers
  no_numbers numbers none = record { sources = All-nil IsSource; targets = All-nil IsTarget; each = none }

  -- one edge more, with its number
  pub one_number : (edges : List Edge) (i : ℕ) (d : Edge) (number : ℕ) (numbers more : List ℕ) → i < length edges → AreNumbers kind ids (take i edges) numbers
      → number ≡ pair_in kind ids (get_or edges i d) → is_among ids (get_or edges i d).u ≡ true → is_among ids (get_or edges i d).v ≡ true → more ≡ numbers ++ number ∷ []
      → AreNumbers kind ids (take (i + 1) edges) more
  one_number edges i d number numbers more inside so_far is source target pushed = record {
    sources = subst (All IsSource) (sym (take_more edges i d inside)) (All-push IsSource (take i edges) (get_or edges i d) so_far.sources source);
    targets = subst (All IsTarget) (sym (take_more edges i d inside)) (All-push IsTarget (take i edges) (get_or edges i d) so_far.targets target);
    each = pushed ∙ (λ j. so_far.each j ++ is j ∷ []) ∙ sym (map_more (pair_in kind ids) edges i d inside);
  }

  -- the edges that have numbers are as many as these
  pub numbers_end : (edges : List Edge) (i n : ℕ) (numbers : List ℕ) → i ≤ length edges → n ≡ length numbers → AreNumbers kind ids (take i edges) numbers → AreNumbers kind ids (take n edges) numbers
  numbers_end edges i n numbers inside long so_far =
      let same : i ≡ n = omega (arith, long, ap length so_far.each, length-map (take i edges) (pair_in kind ids), length-take i edges) in
      subst (λ k. AreNumbers kind ids (take k edges) numbers) same so_far

  -- edges of which each is told its number
  pub numbers_of_all : (E : Type 0) (edges : List Edge) (numbers : List ℕ) → AllZip (λ edge (told : Result ℕ E). IfOk told (IsNumberOf kind ids edge)) edges (map Ok numbers)
      → AreNumbers kind ids edges numbers
  numbers_of_all E [] [] each = no_numbers [] refl
  numbers_of_all E [] (n ∷ ns) each = absurd each
  numbers_of_all E (e ∷ es) [] each = absurd each
  numbers_of_all E (e ∷ es) (n ∷ ns) each =
      let rest = numbers_of_all E es ns each.1 in
      record {
        sources = All-cons IsSource e es each.0.source rest.sources;
        targets = All-cons IsTarget e es each.0.target rest.targets;
        each = ap (λ x. x ∷ ns) each.0.here ∙ ap (λ l. pair_in kind ids e ∷ l) rest.each;
      }
