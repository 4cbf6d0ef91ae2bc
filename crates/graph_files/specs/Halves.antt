-- Texts that are cut behind a line feed.
use Rattle.std.specs.Prelude.{◌≡◌, ℕ, List, [], ◌∷◌, ◌++◌, Option, IfSome}
use Rattle.graphalytics_io.specs.declared.edges.Edge.{Edge}
use Rattle.graphalytics_io.specs.FieldLines.{field_lines}
use Rattle.graph_files.specs.declared.weights.Weights.{Weights}
use Rattle.graph_files.specs.EdgeFiles.{edge_of}
use Rattle.graph_files.specs.Kept.{every_id, AreListed}

-- the text is cut in two behind a line feed
pub record IsCut (text front behind : List ℕ) : Type 0 where
  pub last : List ℕ
  pub ends : front ≡ last ++ 10 ∷ []
  pub whole : text ≡ front ++ behind

-- what is read of a text, if anything is, are the edges of its lines, each by itself
abbrev pub IsReadAs : Weights → List ℕ → Option (List Edge) → Type 0
IsReadAs weights text found = IfSome found (AreListed (edge_of every_id weights) (field_lines text))
