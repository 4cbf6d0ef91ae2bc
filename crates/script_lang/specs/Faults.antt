-- The faults of scripts, in the order of the checks of a line.
use Rattle.std.specs.Prelude.{ℕ, List, codes, cond, nat_le, Option, Some, None}
use Rattle.script_lang.specs.declared.refusal.ScriptWhat.{ScriptWhat}
use Rattle.script_lang.specs.declared.refusal.ScriptWhat.TheVariants.{NotACommand, MissingField, ExtraField, NotBegun, BegunTwice, NotANumber, IdTooLarge, WeightTooLarge, RoundsTooLarge, WidthOutOfRange, BadName, NameTwice, TooManyBegins, NotEnded}
use Rattle.script_lang.specs.declared.refusal.ScheduleWhat.{ScheduleWhat}
use Rattle.script_lang.specs.declared.refusal.ScheduleWhat.TheVariants as schedules

-- what is said of each fault
abbrev pub what_text : ScriptWhat → List ℕ
what_text NotACommand = codes "not a command"
what_text MissingField = codes "missing field"
what_text ExtraField = codes "extra field"
what_text NotBegun = codes "not begun"
what_text BegunTwice = codes "begun twice"
what_text NotANumber = codes "not a number"
what_text IdTooLarge = codes "id too large"
what_text WeightTooLarge = codes "weight too large"
what_text RoundsTooLarge = codes "rounds too large"
what_text WidthOutOfRange = codes "width out of range"
what_text BadName = codes "bad name"
what_text NameTwice = codes "name twice"
what_text TooManyBegins = codes "too many begins"
what_text NotEnded = codes "not ended"

-- and of each fault of a schedule
abbrev pub schedule_what_text : ScheduleWhat → List ℕ
schedule_what_text schedules.ExtraField = codes "extra field"
schedule_what_text schedules.NotANumber = codes "not a number"
schedule_what_text schedules.NoSuchJob = codes "no such job"

-- the number of the check that a fault fails
abbrev pub order : ScriptWhat → ℕ
order NotACommand = 0
order MissingField = 1
order ExtraField = 2
order NotBegun = 3
order BegunTwice = 4
order NotANumber = 5
order IdTooLarge = 6
order WeightTooLarge = 7
order RoundsTooLarge = 8
order WidthOutOfRange = 9
order BadName = 10
order NameTwice = 11
order TooManyBegins = 12
order NotEnded = 13

-- the fault whose check comes first
abbrev pub earlier : Option ScriptWhat → Option ScriptWhat → Option ScriptWhat
earlier None other = other
earlier (Some what) None = Some what
earlier (Some what) (Some other) = cond (nat_le (order what) (order other)) (Some what) (Some other)
