-- A prefix of a legal journal is legal.
use Rattle.std.proofs.Common.{◌≡◌, ℕ, zero, suc, ◌<◌, ◌≤◌, List, [], ◌∷◌, ◌++◌, length, ap, subst, arith, length-append}
use Rattle.std.specs.Prelude.{slice_get, Some}
use Rattle.std.proofs.lemmas.List.{take-append-le}
use Rattle.graph_model.specs.declared.write.Kind.{Kind}
use Rattle.graph_model.specs.declared.journal.Commit.{Commit}
use Rattle.graph_model.specs.Graph.{empty_graph, apply_all, HasBothEnds}
use Rattle.graph_model.specs.Refused.{AllAllowed}
use Rattle.graph_model.specs.History.{graph_at, writes_of}
use Rattle.graph_model.specs.Legal.{IsLegal}

-- what stands in a list stands there in a longer one
pub get_front : {X : Type 0} (xs ys : List X) (i : ℕ) (x : X) → slice_get xs i ≡ Some x → slice_get (xs ++ ys) i ≡ Some x
get_front [] ys i x e = cc
get_front (y ∷ xs) ys zero x e = e
get_front (y ∷ xs) ys (suc i) x e = get_front xs ys i x e

-- its place is below the length
pub below_length : {X : Type 0} (xs : List X) (i : ℕ) (x : X) → slice_get xs i ≡ Some x → i < length xs
below_length [] i x e = cc
below_length (y ∷ xs) zero x e = omega arith
below_length (y ∷ xs) (suc i) x e = omega (arith, below_length xs i x e)

-- what is appended leaves the graph of the commits before it
pub graph_at-append : (kind : Kind) (front rest : List Commit) (stamp : ℕ) → stamp ≤ length front → graph_at kind (front ++ rest) stamp ≡ graph_at kind front stamp
graph_at-append kind front rest stamp within = ap (λ js. apply_all kind empty_graph (writes_of js)) (take-append-le stamp front rest within)

-- a prefix of a legal journal is legal
pub legal_prefix : (kind : Kind) (front rest : List Commit) → IsLegal kind (front ++ rest) → IsLegal kind front
legal_prefix kind front rest legal = record {
  each = λ i c at.
      let whole = legal.each i c (get_front front rest i c at) in
      let inside : c.start ≤ length front = omega (arith, whole.started, below_length front i c at) in
      record {
        stamped = whole.stamped;
        started = whole.started;
        wrote = whole.wrote;
        allowed = subst (λ g. AllAllowed kind g c.writes) (graph_at-append kind front rest c.start inside) whole.allowed;
        within = whole.within;
      };
  names = λ i j c d at_i at_j. legal.names i j c d (get_front front rest i c at_i) (get_front front rest j d at_j);
  apart = λ i j c d lt at_i at_j. legal.apart i j c d lt (get_front front rest i c at_i) (get_front front rest j d at_j);
  ends = λ stamp within. subst HasBothEnds (graph_at-append kind front rest stamp within) (legal.ends stamp (omega (arith, within, length-append front rest)));
}
