-- What is written under which name, and the summary that is said.
use Rattle.std.specs.Prelude.{ℕ, List, [], ◌∷◌, ◌++◌, length, map, codes}
use Rattle.std.specs.List.{flat_map}
use Rattle.graph_model.specs.TableText.{table_text}
use Rattle.graph_model.specs.declared.write.Kind.{Kind}
use Rattle.graph_model.specs.Graph.{vertices_of}
use Rattle.graph_model.specs.History.{graph_at}
use Rattle.run_model.specs.declared.answer.Answer.{Answer}
use Rattle.run_model.specs.Answering.{edges_in}
use Rattle.run_model.specs.Inputs.{Outputs, File}
use Rattle.run_model.specs.Texts.{field, journal_text, report_text}
use Rattle.desk_io.specs.Outputs.{NamedText}
use Rattle.txn_manager.specs.declared.config.Totals.{Totals}

abbrev pub file_output : File → NamedText
file_output f = record { name = f.name; text = table_text f.table }

-- each report under the name of its script's report
abbrev pub report_outputs : List (List ℕ) → List (List Answer) → List NamedText
report_outputs [] reports = []
report_outputs (name ∷ names) [] = []
report_outputs (name ∷ names) (answers ∷ reports) =
    record { name = name; text = report_text answers } ∷ report_outputs names reports

-- the journal, the reports and the kernel files, in the order in which they are written
abbrev pub sinks_of : List ℕ → List (List ℕ) → Outputs → List NamedText
sinks_of journal reports o =
    record { name = journal; text = journal_text o.journal }
    ∷ report_outputs reports o.reports
    ++ flat_map (λ files. map file_output files) o.files

-- what a store holds after this many commits
abbrev pub summary_line : ℕ → Totals → List ℕ
summary_line commits totals =
    codes "commits" ++ field commits ++ codes " vertices" ++ field totals.vertices
    ++ codes " edges" ++ field totals.edges ++ codes " undo" ++ field totals.undo
    ++ codes " retired" ++ field totals.retired ++ 10 ∷ []

-- how many commits the journal has, and what a store holds that has the vertices and the edges of its graph alone
abbrev pub summary_text : Kind → Outputs → List ℕ
summary_text kind o =
    let g = graph_at kind o.journal (length o.journal) in
    summary_line (length o.journal)
    (record { vertices = length (vertices_of g); edges = edges_in kind g; undo = 0; retired = 0 })
