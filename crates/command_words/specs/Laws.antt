-- A law of the words that are taken.
use Rattle.std.specs.Prelude.{◌≡◌, List}
use Rattle.clap.specs.Words.{Text}
use Rattle.command_words.specs.Words.{IsTaken, Request}

-- words are taken as one request at most
abbrev pub WordsAskForOneRequest : Type 0
WordsAskForOneRequest = (words : List Text) (a b : Request) → IsTaken words a → IsTaken words b → a ≡ b
