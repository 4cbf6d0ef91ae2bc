use Rattle.std.proofs.Common.{refl}
use Rattle.script_lang.specs.declared.word.Word.TheVariants.{Begin, Commit, Abort, Vertex, Unvertex, Edge, Set, Drop, Weight, Neighbours, Count, Bfs, Wcc, Cdlp, Sssp, FastBfs, FastSssp}
use Rattle.script_lang.specs.Words.{WordsAreRead}
use Rattle.script_lang.proofs.word.words_are_read.Goals as goal

each_word : WordsAreRead
each_word Begin = refl
each_word Commit = refl
each_word Abort = refl
each_word Vertex = refl
each_word Unvertex = refl
each_word Edge = refl
each_word Set = refl
each_word Drop = refl
each_word Weight = refl
each_word Neighbours = refl
each_word Count = refl
each_word Bfs = refl
each_word Wcc = refl
each_word Cdlp = refl
each_word Sssp = refl
each_word FastBfs = refl
each_word FastSssp = refl

pub returns : goal.returns
returns c = each_word
