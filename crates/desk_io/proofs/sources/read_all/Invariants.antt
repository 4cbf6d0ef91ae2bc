use Rattle.std.proofs.Common.{◌≡◌, take, map}
use Rattle.desk_io.specs.Sources.{AreRead}
use Rattle.desk_io.proofs.sources.read_all.Given as goal

-- the sources of the first names are read, and the desk is as it was
abbrev pub invariant-sources : goal.invariant-sources
invariant-sources g l = AreRead l.limit (g.D.Desk.files l.initial.desk) (take l.place (map (λ name. name.now) l.names)) l.sources × (g.D.Desk.files l.desk ≡ g.D.Desk.files l.initial.desk)
