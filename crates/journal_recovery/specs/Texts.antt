-- What is said of a journal file that is read.
use Rattle.std.specs.Prelude.{◌≡◌, ℕ, List, [], ◌∷◌, ◌++◌, length, codes, Some, IsTrue}
use Rattle.run_model.specs.Texts.{field, journal_text}
use Rattle.journal_disk.specs.Disk.{DiskState}
use Rattle.journal_file.specs.Reading.{Opened, opened}
use Rattle.journal_file.specs.Keeping.{file_under}
use Rattle.plain_graph.specs.declared.counts.GraphCounts.{GraphCounts}
use Rattle.plain_graph.specs.Counting.{counts_of}
use Rattle.journal_recovery.specs.declared.texts.RecoveredTexts.{RecoveredTexts}

-- how many commits there are, and how large their graph is
abbrev pub recovered_line : ℕ → GraphCounts → List ℕ
recovered_line commits counts =
    codes "commits" ++ field commits ++ codes " vertices" ++ field counts.vertices
    ++ codes " edges" ++ field counts.edges ++ 10 ∷ []

-- the text of these commits, and what is said of the graph of them all
pub record Tells (o : Opened) (texts : RecoveredTexts) : Type 0 where
  pub journal : texts.journal ≡ journal_text o.commits
  pub summary : texts.summary ≡ recovered_line (length o.commits) (counts_of o.kind o.commits)

-- a disk that tells has a file of this name that stands for commits, and the texts are of these
abbrev pub AreTextsOf : DiskState → List ℕ → RecoveredTexts → Type 0
AreTextsOf state name texts =
    IsTrue state.tells → (o : Opened) × (opened (file_under state name) ≡ Some o) × Tells o texts
