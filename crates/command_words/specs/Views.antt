-- What the code's types stand for.
use Rattle.std.specs.Prelude.{◌≡◌, ⊤, true, List, [], ◌++◌, map, option_map, option_to_list}
use Rattle.clap.specs.Words.{App, Row, Shape, Text, found_of, kind_of, rows_of, subcommand_of, subcommand_rows_of, takes}
use Rattle.clap.specs.declared.error.Error.{Error}
use Rattle.clap.specs.declared.error.kind.ErrorKind.TheVariants.{OutOfMemory}
use Rattle.clap.specs.declared.parser.matches.ArgMatches.{ArgMatches}
use Rattle.command_words.specs.declared.command.ProgramWords.{ProgramWords}
use Rattle.command_words.specs.declared.command.ProgramWords.TheVariants.{Run, Make, Recover}
use Rattle.command_words.specs.declared.command.RunWords.{RunWords}
use Rattle.command_words.specs.declared.command.MakeWords.{MakeWords}
use Rattle.command_words.specs.declared.command.RecoverWords.{RecoverWords}
use Rattle.command_words.specs.declared.names.TakenName.{TakenName}
use Rattle.command_words.specs.declared.names.TakenName.TheVariants.{Given, ReportOf}
use Rattle.command_words.specs.declared.refusal.WordsRefusal.{WordsRefusal}
use Rattle.command_words.specs.declared.refusal.WordsRefusal.TheVariants.{BadWords, NoMemory}
use Rattle.command_words.specs.App.{teseo_app}
use Rattle.command_words.specs.Words.{RunRequest, MakeRequest, RecoverRequest, Request, run, make, recover, IsTaken, report_name}

-- a command with no subcommand
abbrev pub leaf_app : Shape → App
leaf_app shape = record { top = shape; subs = [] }

abbrev pub run_request : RunWords → RunRequest
run_request words = record {
  vertices = words.vertices.now;
  edges = words.edges.now;
  journal = words.journal.now;
  is_directed = words.is_directed;
  weights = words.weights;
  is_cut = words.is_cut;
  schedule = option_map (λ name. name.now) words.schedule;
  leaves = words.leaves;
  threads = words.threads;
  is_serial = words.is_serial;
  keep = option_map (λ name. name.now) words.keep;
  scripts = map (λ name. name.now) words.scripts.items;
}

abbrev pub make_request : MakeWords → MakeRequest
make_request words = record {
  seed = words.seed;
  vertices = words.vertices;
  edges = words.edges;
  out = words.out.now;
  edges_out = words.edges_out.now;
}

abbrev pub recover_request : RecoverWords → RecoverRequest
recover_request words = record { keep = words.keep.now; journal = words.journal.now }

abbrev pub request_of : ProgramWords → Request
request_of (Run words) = run (run_request words)
request_of (Make words) = make (make_request words)
request_of (Recover words) = recover (recover_request words)

-- the names that are taken behind the schedule: the journal file, the scripts and their reports
abbrev pub names_behind_schedule : RunRequest → List Text
names_behind_schedule request =
    (option_to_list request.keep ++ request.scripts) ++ map report_name request.scripts

-- what clap found for the arguments of a command
abbrev pub rows_in : ArgMatches → List Row
rows_in matches = rows_of (found_of matches)

-- clap's error is want of memory, or a fault of the words
abbrev pub RefusesAs : Error → WordsRefusal → Type 0
RefusesAs error NoMemory = kind_of error ≡ OutOfMemory
RefusesAs error BadWords = kind_of error ≡ OutOfMemory → ⊥

-- a refusal says that P can't be, but for want of memory
abbrev pub Refuses : Type 0 → WordsRefusal → Type 0
Refuses P BadWords = P → ⊥
Refuses P NoMemory = ⊤

-- words are refused as bad only where they are taken as no request
abbrev pub RefusesWords : List Text → WordsRefusal → Type 0
RefusesWords words = Refuses ((request : Request) × IsTaken words request)

-- clap takes the words, and found for the subcommand what its definition says
pub record IsFound (words : List Text) (matches : ArgMatches) : Type 0 where
  pub by_clap : takes teseo_app words ≡ true
  pub subcommand : subcommand_rows_of matches ≡ subcommand_of teseo_app words

-- the bytes of a name
abbrev pub taken_name : TakenName → Text
taken_name (Given name) = name.now
taken_name (ReportOf script) = report_name script.now
