-- What a schedule's text stands for: its job numbers, or its first fault.
use Rattle.std.specs.Prelude.{◌≡◌, ℕ, List, [], ◌∷◌, Result, Ok, Err}
use Rattle.graphalytics_io.specs.declared.lines.FieldLine.{FieldLine}
use Rattle.graphalytics_io.specs.declared.number.NumberFault.{NumberFault}
use Rattle.graphalytics_io.specs.declared.number.NumberFault.TheVariants as numbers
use Rattle.graphalytics_io.specs.FieldLines.{field_lines}
use Rattle.graphalytics_io.specs.Numbers.{number_within}
use Rattle.script_lang.specs.declared.refusal.ScheduleWhat.{ScheduleWhat}
use Rattle.script_lang.specs.declared.refusal.ScheduleWhat.TheVariants.{ExtraField, NotANumber, NoSuchJob}
use Rattle.script_lang.specs.declared.refusal.ScheduleRefusal.{ScheduleRefusal}
use Rattle.script_lang.specs.declared.refusal.ScheduleRefusal.TheVariants.{Fault, NoMemory}
use Rattle.script_lang.specs.Results.{in_front}

-- the job of a field that was read as a number up to that of the last job
abbrev pub job_of : Result ℕ NumberFault → Result ℕ ScheduleWhat
job_of (Ok number) = Ok number
job_of (Err numbers.NotANumber) = Err NotANumber
job_of (Err numbers.TooLarge) = Err NoSuchJob

-- the job of a line, or its fault; no line is without fields
abbrev pub read_entry : ℕ → List (List ℕ) → Result ℕ ScheduleWhat
read_entry jobs [] = Err NotANumber
read_entry jobs (field ∷ []) = job_of (number_within jobs field)
read_entry jobs (field ∷ extra ∷ fields) = Err ExtraField

-- a line's job, and then the others; or the line's fault
abbrev pub then_entries : ℕ → Result ℕ ScheduleWhat → Result (List ℕ) ScheduleRefusal → Result (List ℕ) ScheduleRefusal
then_entries number (Ok job) entries = in_front job entries
then_entries number (Err what) entries = Err (Fault number what)

-- the jobs of lines, or the fault of the first line that has one
abbrev pub read_entries : ℕ → List FieldLine → Result (List ℕ) ScheduleRefusal
read_entries jobs [] = Ok []
read_entries jobs (line ∷ lines) = then_entries line.number (read_entry jobs line.fields) (read_entries jobs lines)

-- what a schedule's text stands for where there are so many jobs beside the service
abbrev pub schedule_of : ℕ → List ℕ → Result (List ℕ) ScheduleRefusal
schedule_of jobs text = read_entries jobs (field_lines text)

-- a refusal is the first fault, unless memory ran out
abbrev pub IsRefusedSchedule : Result (List ℕ) ScheduleRefusal → ScheduleRefusal → Type 0
IsRefusedSchedule expected (Fault line what) = expected ≡ Err (Fault line what)
IsRefusedSchedule expected NoMemory = Unit {0}
