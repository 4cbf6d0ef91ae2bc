use Rattle.std.proofs.Common.{◌<◌, length, refl, rules, arith, ap, ◌∙◌, [], ◌∷◌, ◌++◌}
use Rattle.std.specs.Prelude.{◌||◌}
use Rattle.reader_parts.proofs.ListLemmas.{first_out}
use Rattle.reader_parts.proofs.JoinLemmas.{joining_on, joining_starts}
use Rattle.reader_parts.proofs.join.join_all.Goals as goal

pub parts-init : goal.parts-init
parts-init c =
    let no_pass = ap length c.requires.idle.0 in
    let room_idle = c.requires.idle.1 in
    let no_list = ap length c.requires.lists.0 in
    let room_lists = c.requires.lists.1 in
    record {
      joining = joining_starts c.args.store.now c.args.pass.now c.args.parts.items c.args.idle.now.items
          c.args.lists.now.items c.requires.lent c.requires.read c.requires.idle.0 c.requires.lists.0;
      room_idle = omega (arith, no_pass, room_idle);
      capacity = refl;
      room_lists = omega (arith, no_list, room_lists);
    }

pub parts-preserved : goal.parts-preserved
parts-preserved c =
    let some : 0 < length c.parts.parts.items = search rules in
    let part = c.remove-reader.ensures in
    record {
      joining = joining_on c.args.store.now c.args.pass.now c.parts.pass c.join_reader.new.from c.join_reader.result
          c.args.parts.items c.parts.parts.items c.remove-reader.new.self.items c.remove-reader.result
          c.parts.idle.items c.push_reserved.new.self.items c.parts.lists.items
          c.push_reserved-in-parts.new.self.items c.parts.ran_out (c.parts.ran_out || c.remove-reader.result.ran_out)
          c.parts.invariant.joining
          (first_out c.parts.parts.items c.remove-reader.new.self.items c.remove-reader.result some part.value
          part.items) c.join_reader.ensures.from c.join_reader.ensures.pass c.join_reader.ensures.own
          c.push_reserved.ensures.items
          (c.push_reserved-in-parts.ensures.items ∙ ap (λ rows. c.parts.lists.items ++ rows ∷ []) c.from_vec.ensures)
          refl;
      room_idle = search rules;
      capacity = search rules;
      room_lists = search rules;
    }
