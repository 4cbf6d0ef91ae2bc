-- What `make` writes and says.
use Rattle.std.specs.Prelude.{ℕ, List, [], ◌∷◌, ◌++◌, length, codes}
use Rattle.run_model.specs.Texts.{field}
use Rattle.desk_io.specs.Outputs.{NamedText}
use Rattle.graph_maker.specs.Draws.{pairs_of}
use Rattle.graph_maker.specs.Texts.{vertex_text, edge_text}
use Rattle.command_words.specs.Words.{MakeRequest}

-- the two files of the graph, in the order in which they are written
abbrev pub graph_outputs : MakeRequest → List NamedText
graph_outputs request =
    record { name = request.out; text = vertex_text request.vertices }
    ∷ record { name = request.edges_out; text = edge_text request.seed request.vertices request.edges } ∷ []

-- so many vertices and edges were made
abbrev pub made_line : ℕ → ℕ → List ℕ
made_line vertices edges = codes "made vertices" ++ field vertices ++ codes " edges" ++ field edges ++ 10 ∷ []

-- what is said: how many vertices the graph has, and how many of the edges asked for were kept
abbrev pub made_text : MakeRequest → List ℕ
made_text request =
    made_line request.vertices (length (pairs_of request.seed request.vertices request.edges))
