-- The words of scripts, and the fields of their lines.
use Rattle.std.specs.Prelude.{◌≡◌, ℕ, Bool, true, false, List, [], ◌∷◌, Option, Some, codes}
use Rattle.std.specs.List.{find, count_by}
use Rattle.std.specs.Str.{bytes_eq}
use Rattle.script_lang.specs.declared.word.Word.{Word}
use Rattle.script_lang.specs.declared.word.Word.TheVariants as words
use Rattle.script_lang.specs.declared.word.FieldKind.{FieldKind}
use Rattle.script_lang.specs.declared.word.FieldKind.TheVariants.{Vertex, Target, Weight, OptionalWeight, Rounds, Width, File}
use Rattle.script_lang.specs.declared.word.TheConstants.{WORDS}

-- each word as a script has it
abbrev pub word_text : Word → List ℕ
word_text words.Begin = codes "begin"
word_text words.Commit = codes "commit"
word_text words.Abort = codes "abort"
word_text words.Vertex = codes "vertex"
word_text words.Unvertex = codes "unvertex"
word_text words.Edge = codes "edge"
word_text words.Set = codes "set"
word_text words.Drop = codes "drop"
word_text words.Weight = codes "weight"
word_text words.Neighbours = codes "neighbours"
word_text words.Count = codes "count"
word_text words.Bfs = codes "bfs"
word_text words.Wcc = codes "wcc"
word_text words.Cdlp = codes "cdlp"
word_text words.Sssp = codes "sssp"
word_text words.FastBfs = codes "fastbfs"
word_text words.FastSssp = codes "fastsssp"

-- the fields behind each word, from left to right
abbrev pub kinds_of : Word → List FieldKind
kinds_of words.Begin = []
kinds_of words.Commit = []
kinds_of words.Abort = []
kinds_of words.Vertex = Vertex ∷ []
kinds_of words.Unvertex = Vertex ∷ []
kinds_of words.Edge = Vertex ∷ Target ∷ OptionalWeight ∷ []
kinds_of words.Set = Vertex ∷ Target ∷ Weight ∷ []
kinds_of words.Drop = Vertex ∷ Target ∷ []
kinds_of words.Weight = Vertex ∷ Target ∷ []
kinds_of words.Neighbours = Vertex ∷ []
kinds_of words.Count = []
kinds_of words.Bfs = Vertex ∷ File ∷ []
kinds_of words.Wcc = File ∷ []
kinds_of words.Cdlp = Rounds ∷ File ∷ []
kinds_of words.Sssp = Vertex ∷ File ∷ []
kinds_of words.FastBfs = Vertex ∷ File ∷ []
kinds_of words.FastSssp = Vertex ∷ Width ∷ File ∷ []

-- whether a line has to have such a field
abbrev pub is_needed : FieldKind → Bool
is_needed Vertex = true
is_needed Target = true
is_needed Weight = true
is_needed OptionalWeight = false
is_needed Rounds = true
is_needed Width = true
is_needed File = true

-- how many fields there have to be
abbrev pub needed : List FieldKind → ℕ
needed kinds = count_by is_needed kinds

-- the word that a field is, if it is one
abbrev pub word_of : List ℕ → Option Word
word_of field = find (λ word. bytes_eq (word_text word) field) WORDS

-- the word opens a transaction
abbrev pub is_begin : Word → Bool
is_begin word = bytes_eq (word_text word) (codes "begin")

-- each word is read from its own text
abbrev pub WordsAreRead : Type 0
WordsAreRead = (word : Word) → word_of (word_text word) ≡ Some word
