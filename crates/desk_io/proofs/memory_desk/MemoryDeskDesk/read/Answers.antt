use Rattle.std.proofs.Common.{◌≡◌, ap, inr, refl}
use Rattle.desk_io.proofs.memory_desk.MemoryDeskDesk.read.Goals as goal

pub returns-in-None-clause-never : goal.returns-in-None-clause-never
returns-in-None-clause-never c = λ nothing there.
    let same : c.next_fails.new.self.files ≡ c.args.self.now.files = ap (λ desk. desk.files) c.next_fails.ensures.rest in
    rw (← same, ← c.in-None.ensures.value) at there

pub returns-in-None-clause-cause : goal.returns-in-None-clause-cause
returns-in-None-clause-cause c = λ failed.
    let same : c.next_fails.new.self.files ≡ c.args.self.now.files = ap (λ desk. desk.files) c.next_fails.ensures.rest in
    inr (rw (← same, ← c.in-None.ensures.value) refl)
