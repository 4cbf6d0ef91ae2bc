-- Community labels by synchronous rounds (LDBC Graphalytics, CDLP).
use Rattle.std.specs.Prelude.{ℕ, zero, suc, Bool, ◌==◌, ◌++◌, nat_le, List, [], ◌∷◌, map, count_by, min}
use Rattle.std.specs.List.{filter, list_all}
use Rattle.graph_model.specs.declared.write.Kind.{Kind}
use Rattle.graph_model.specs.declared.write.Kind.TheVariants.{Directed, Undirected}
use Rattle.graph_model.specs.Graph.{Graph, has_arc, vertices_of}

-- the vertices to which an arc leads from v
abbrev pub targets : Graph → ℕ → List ℕ
targets g v = filter (λ u. has_arc g v u) (vertices_of g)

-- the vertices from which an arc leads to v
abbrev pub sources : Graph → ℕ → List ℕ
sources g v = filter (λ u. has_arc g u v) (vertices_of g)

-- whose labels v meets in a round: with directions, once for each arc out and once for each arc in
abbrev pub neighbours : Kind → Graph → ℕ → List ℕ
neighbours Directed g v = targets g v ++ sources g v
neighbours Undirected g v = targets g v

-- how often x stands among the values
abbrev pub times : List ℕ → ℕ → ℕ
times xs x = count_by (λ y. y == x) xs

-- no value stands more often than x
abbrev pub is_most_frequent : List ℕ → ℕ → Bool
is_most_frequent xs x = list_all (λ y. nat_le (times xs y) (times xs x)) xs

-- the least of x and the values
abbrev pub least_of : ℕ → List ℕ → ℕ
least_of x [] = x
least_of x (y ∷ ys) = least_of (min x y) ys

-- the least of the values, or the default where there is none
abbrev pub least_or : ℕ → List ℕ → ℕ
least_or default [] = default
least_or default (x ∷ xs) = least_of x xs

-- the least of the values that stand most often, or the default where there is no value
abbrev pub most_frequent : ℕ → List ℕ → ℕ
most_frequent default xs = least_or default (filter (is_most_frequent xs) xs)

-- the label of v after so many rounds
abbrev pub label : Kind → Graph → ℕ → ℕ → ℕ
label kind g zero v = v
label kind g (suc round) v =
    most_frequent (label kind g round v) (map (label kind g round) (neighbours kind g v))
