-- What the words of `run` ask for: which sources are read, under which names the reports are written, and what the
-- graph is.
use Rattle.std.specs.Prelude.{ℕ, Bool, cond, List, [], ◌∷◌, ◌++◌, map, Option, None, Some, option_to_list, slice_get, unwrap_or}
use Rattle.graph_model.specs.declared.limits.TheConstants.{MAX_LOAD_ROWS}
use Rattle.graph_model.specs.declared.write.Kind.{Kind}
use Rattle.graph_model.specs.declared.write.Kind.TheVariants.{Directed, Undirected}
use Rattle.graph_files.specs.declared.weights.Weights.{Weights}
use Rattle.graph_files.specs.declared.weights.Weights.TheVariants.{Ones, Units}
use Rattle.graph_files.specs.EdgeFiles.{Rules}
use Rattle.command_words.specs.Words.{RunRequest, run, IsTaken, report_name}

-- some words are taken as this request
abbrev pub IsAsked : RunRequest → Type 0
IsAsked request = (words : List (List ℕ)) × IsTaken words (run request)

-- ---- names

-- the sources behind the graph files: the scripts, and the schedule if there is one
abbrev pub scripts_and_schedule : RunRequest → List (List ℕ)
scripts_and_schedule request = request.scripts ++ option_to_list request.schedule

-- the sources, in the order in which they are read
abbrev pub source_names : RunRequest → List (List ℕ)
source_names request = request.vertices ∷ request.edges ∷ scripts_and_schedule request

abbrev pub report_names : RunRequest → List (List ℕ)
report_names request = map report_name request.scripts

-- the name at a place of a list that has the place
abbrev pub name_at : List (List ℕ) → ℕ → List ℕ
name_at names place = unwrap_or (slice_get names place) []

-- ---- the graph

-- whether edges have directions
abbrev pub kind_of : RunRequest → Kind
kind_of request = cond request.is_directed Directed Undirected

-- the weights of the edge file, where so many digits behind the point are asked for
abbrev pub weights_in : Option ℕ → Bool → Weights
weights_in None cut = Ones
weights_in (Some digits) cut = Units digits cut

-- what the weights are: cutting asks for nothing where there are none
abbrev pub weights_of : RunRequest → Weights
weights_of request = weights_in request.weights request.is_cut

-- what the edge file is read by, where the vertex file stands for these ids
abbrev pub rules_of : RunRequest → List ℕ → Rules
rules_of request ids =
    record { ids = ids; kind = kind_of request; weights = weights_of request; limit = MAX_LOAD_ROWS }
