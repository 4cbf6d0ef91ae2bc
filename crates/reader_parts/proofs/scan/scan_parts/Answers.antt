use Rattle.std.proofs.Common.{◌≡◌, length, arith, ap, ◌∙◌}
use Rattle.reader_parts.proofs.SplitLemmas.{all_may_be_read, all_read, as_many, lent_to_all, read_accounts, read_of_it}
use Rattle.reader_parts.proofs.scan.scan_parts.Goals as goal

pub read_all-requires-clause-unread : goal.read_all-requires-clause-unread
read_all-requires-clause-unread g c κs within =
    all_may_be_read c.args.store.now c.survey.new.pass c.split_all.new.parts.items c.split_all.ensures.unread

pub join_all-requires-clause-lent : goal.join_all-requires-clause-lent
join_all-requires-clause-lent g c =
    lent_to_all c.args.store.now c.survey.new.pass c.split_all.new.pass c.split_all.new.parts.items
    c.read_all.new.parts.items c.split_all.ensures.lent
    (as_many c.args.store.now c.split_all.new.parts.items c.read_all.new.parts.items c.read_all.ensures.read)

pub join_all-requires-clause-read : goal.join_all-requires-clause-read
join_all-requires-clause-read g c =
    read_of_it c.args.store.now c.survey.new.pass c.split_all.new.pass c.read_all.new.parts.items
    c.split_all.ensures.lent.kept
    (all_read c.args.store.now c.survey.new.pass c.split_all.new.parts.items c.read_all.new.parts.items
    c.split_all.ensures.unread c.read_all.ensures.read)

pub join_all-requires-clause-idle : goal.join_all-requires-clause-idle
join_all-requires-clause-idle g c =
    let many = as_many c.args.store.now c.split_all.new.parts.items c.read_all.new.parts.items c.read_all.ensures.read in
    let count = c.split_all.ensures.count in
    let same = c.split_all.ensures.idle.1 in
    let held = c.args.idle.now.ok in
    let small = c.args.idle.now.small in
    (c.split_all.ensures.idle.0, omega (arith, many, count, same, held, small))

pub join_all-requires-clause-lists : goal.join_all-requires-clause-lists
join_all-requires-clause-lists g c =
    let many = as_many c.args.store.now c.split_all.new.parts.items c.read_all.new.parts.items c.read_all.ensures.read in
    let count = c.split_all.ensures.count in
    let room = c.in_ok-lists.ensures.capacity in
    let held = c.args.idle.now.ok in
    let long = c.len-2.ensures in
    (c.in_ok-lists.ensures.items, omega (arith, many, count, room, held, long))

pub returns-then-join_all-clause-own : goal.returns-then-join_all-clause-own
returns-then-join_all-clause-own g c =
    c.join_all.ensures.own
    ∙ read_accounts c.args.store.now c.split_all.new.parts.items c.read_all.new.parts.items c.read_all.ensures.read
    ∙ c.split_all.ensures.own

pub returns-clause-own : goal.returns-clause-own
returns-clause-own g c =
    c.join_all.ensures.own
    ∙ read_accounts c.args.store.now c.split_all.new.parts.items c.read_all.new.parts.items c.read_all.ensures.read
    ∙ c.split_all.ensures.own

pub returns-clause-count : goal.returns-clause-count
returns-clause-count g c =
    ap length c.from_vec.ensures ∙ c.join_all.ensures.count
    ∙ as_many c.args.store.now c.split_all.new.parts.items c.read_all.new.parts.items c.read_all.ensures.read
    ∙ c.split_all.ensures.count
