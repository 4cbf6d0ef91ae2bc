use Rattle.std.proofs.Common.{◌<◌, length, refl, rules, arith, ap}
use Rattle.reader_parts.proofs.ListLemmas.{first_out}
use Rattle.reader_parts.proofs.SplitLemmas.{all_split, splitting_on, splitting_starts}
use Rattle.reader_parts.proofs.split.split_all.Goals as goal

pub parts-init : goal.parts-init
parts-init c =
    let none = ap length c.requires.room.0 in
    let room = c.requires.room.1 in
    record {
      splitting = splitting_starts c.args.store.now c.args.pass.now c.args.idle.now.items c.of_vertex-from.result
          c.args.ends.items c.args.parts.now.items c.requires.opened c.requires.idle c.requires.count c.requires.ends
          c.of_vertex-from.ensures c.requires.room.0;
      room = omega (arith, none, room);
      capacity = refl;
    }

pub parts-preserved : goal.parts-preserved
parts-preserved c =
    let inv = c.parts.invariant in
    let count = inv.splitting.count in
    let some : 0 < length c.parts.idle.items = search rules in
    let to = c.remove-to.ensures in
    let until = c.remove-until.ensures in
    record {
      splitting = splitting_on c.args.store.now c.args.pass.now c.parts.pass c.split_one.new.pass c.remove-to.result
          c.args.idle.now.items c.parts.idle.items c.remove-to.new.self.items c.parts.from c.remove-until.result
          c.parts.ends.items c.remove-until.new.self.items c.parts.parts.items c.push_reserved.new.self.items
          c.split_one.result inv.splitting
          (first_out c.parts.idle.items c.remove-to.new.self.items c.remove-to.result some to.value to.items)
          (first_out c.parts.ends.items c.remove-until.new.self.items c.remove-until.result (omega (arith, some, count))
          until.value until.items) c.split_one.ensures.lends c.split_one.ensures.unread c.split_one.ensures.own
          c.split_one.ensures.from c.split_one.ensures.until c.push_reserved.ensures.items;
      room = search rules;
      capacity = search rules;
    }

pub returns-clause-count : goal.returns-clause-count
returns-clause-count c =
    all_split c.args.store.now c.args.pass.now c.parts.pass c.args.idle.now.items c.parts.idle.items c.parts.from
    c.parts.ends.items c.parts.parts.items c.parts.invariant.splitting (search rules)
