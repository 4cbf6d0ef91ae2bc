-- Laws of journal files.
use Rattle.std.specs.Prelude.{◌≡◌, ◌≢◌, ℕ, List, ◌∷◌, ◌++◌}
use Rattle.std.specs.List.{flat_map}
use Rattle.graph_model.specs.declared.write.Kind.{Kind}
use Rattle.graph_model.specs.declared.journal.Commit.{Commit}
use Rattle.journal_file.specs.Format.{header, entry, AreEntries}
use Rattle.journal_file.specs.Keeping.{StandsFor}

-- a file stands for its commits, whatever comes behind a gate that isn't open
abbrev pub FilesStandForTheirCommits : Type 0
FilesStandForTheirCommits =
    (kind : Kind) (commits : List Commit) (gate : ℕ) (rest : List ℕ) → AreEntries 1 commits → gate ≢ 1
    → StandsFor kind commits (header kind ++ flat_map entry commits ++ gate ∷ rest)
