use Rattle.std.proofs.Common.{◌&&◌, ◌+◌, ◌<◌, ◌≤◌, [], ◌∷◌, length, nat_lt, sym, ◌∙◌, ap, subst, arith, length-append}
use Rattle.std.proofs.lemmas.List.{get_or_read}
use Rattle.leaf_index.specs.Idle.{StandApart, leaves_of, stamped}
use Rattle.leaf_index.proofs.CountLemmas.{at_most_one}
use Rattle.leaf_index.proofs.ChainLemmas.{count_fewer, ends_with, length_leaves}
use Rattle.leaf_index.proofs.ReleaseLemmas.{all_sorted, freed_count, freed_so, length_stamped, next_waiting, none_freed, sorts_first, sorts_freed, sorts_kept, take_whole}
use Rattle.leaf_index.proofs.release.release.Goals as goal
use Rattle.leaf_index.proofs.release.release.Goals.{then-is_due, else-is_due}

pub retired-init : goal.retired-init
retired-init c =
    let links = c.args.links.now.items in
    let news = c.turned-waiting.new.links.items in
    record {
      sorts = sorts_first (length links) c.args.until c.args.upto c.args.stamps.now.items (leaves_of links c.args.free) (leaves_of links c.args.retired) (leaves_of news c.args.free) (leaves_of news c.empty-kept.result) (leaves_of news c.turned-waiting.result)
          (c.turned-waiting.ensures.others c.args.free (λ q. omega (arith, c.requires.once q, at_most_one q (length links)))) (c.empty-kept.ensures.leaves news) c.turned-waiting.ensures.leaves c.requires.once;
      waiting_count = omega (arith, c.turned-waiting.ensures.count);
      counted = ap length (sym (none_freed c.args.until c.args.upto));
      small = omega arith;
      same_length = c.turned-waiting.ensures.same_length;
    }

pub without_last-waiting-requires-clause-exists : goal.without_last-waiting-requires-clause-exists
without_last-waiting-requires-clause-exists c =
    let k = c.retired.invariant in
    let links = c.retired.links.items in
    let ends = ends_with links c.retired.waiting.last c.retired.waiting.count (omega (arith, k.waiting_count, c.retired-test.true)) in
    let next = next_waiting (length c.args.links.now.items) c.retired.waiting.last (leaves_of links c.retired.freed) (leaves_of links c.retired.kept) (leaves_of links c.retired.waiting) ends.0 k.sorts.once ends.1 in
    omega (arith, next.exists, k.same_length)

pub overflow_cast-leaf : goal.overflow_cast-leaf
overflow_cast-leaf c =
    let k = c.retired.invariant in
    let links = c.retired.links.items in
    let next = next_waiting (length c.args.links.now.items) c.retired.waiting.last (leaves_of links c.retired.freed) (leaves_of links c.retired.kept) (leaves_of links c.retired.waiting) (leaves_of links c.without_last-waiting.result) k.sorts.once c.without_last-waiting.ensures.leaves in
    omega (arith, next.exists, c.requires.few)

pub index-requires : goal.index-requires
index-requires c =
    let k = c.retired.invariant in
    let links = c.retired.links.items in
    let next = next_waiting (length c.args.links.now.items) c.retired.waiting.last (leaves_of links c.retired.freed) (leaves_of links c.retired.kept) (leaves_of links c.retired.waiting) (leaves_of links c.without_last-waiting.result) k.sorts.once c.without_last-waiting.ensures.leaves in
    let within : c.retired.waiting.last < length c.args.stamps.now.items = omega (arith, next.exists, c.requires.stamps_length) in
    omega (arith, within)

pub with_last-freed-requires : goal.with_last-freed-requires
with_last-freed-requires c =
    let k = c.retired.invariant in
    let links = c.retired.links.items in
    let n = length c.args.links.now.items in
    let leaf = c.retired.waiting.last in
    let next = next_waiting n leaf (leaves_of links c.retired.freed) (leaves_of links c.retired.kept) (leaves_of links c.retired.waiting) (leaves_of links c.without_last-waiting.result) k.sorts.once c.without_last-waiting.ensures.leaves in
    let fewer = count_fewer links c.retired.freed n leaf (λ q. omega (arith, k.sorts.once q)) next.lacks_free next.exists in
    record { few = omega (arith, k.same_length, c.requires.few); fewer = omega (arith, k.same_length, fewer); exists = omega (arith, k.same_length, next.exists); lacks = next.lacks_free }

pub with_last-kept-requires : goal.with_last-kept-requires
with_last-kept-requires c =
    let k = c.retired.invariant in
    let links = c.retired.links.items in
    let n = length c.args.links.now.items in
    let leaf = c.retired.waiting.last in
    let next = next_waiting n leaf (leaves_of links c.retired.freed) (leaves_of links c.retired.kept) (leaves_of links c.retired.waiting) (leaves_of links c.without_last-waiting.result) k.sorts.once c.without_last-waiting.ensures.leaves in
    let fewer = count_fewer links c.retired.kept n leaf (λ q. omega (arith, k.sorts.once q)) next.lacks_kept next.exists in
    record { few = omega (arith, k.same_length, c.requires.few); fewer = omega (arith, k.same_length, fewer); exists = omega (arith, k.same_length, next.exists); lacks = next.lacks_kept }

pub retired-preserved : goal.retired-preserved
retired-preserved c =
    let k = c.retired.invariant in
    let links = c.retired.links.items in
    let n = length c.args.links.now.items in
    let leaf = c.retired.waiting.last in
    let place = c.retired.place in
    let stamps = c.args.stamps.now.items in
    let old_free = leaves_of c.args.links.now.items c.args.free in
    let olds = stamped stamps (leaves_of c.args.links.now.items c.args.retired) in
    let free = leaves_of links c.retired.freed in
    let kept = leaves_of links c.retired.kept in
    let waiting = leaves_of links c.retired.waiting in
    let rest = leaves_of links c.without_last-waiting.result in
    let ends = c.without_last-waiting.ensures.leaves in
    let next = next_waiting n leaf free kept waiting rest k.sorts.once ends in
    let test = c.is_due.ensures ∙ ap (λ s. nat_lt place c.args.upto && nat_lt s c.args.until) (get_or_read stamps leaf c.index.result.now (omega (arith, next.exists, c.requires.stamps_length)) c.index.ensures 0) in
    let before = freed_count n c.args.until c.args.upto place stamps old_free olds free kept waiting k.sorts in
    elim c.if-is_due.branch [
      | then-is_due w ↦
          let news = w.with_last-freed.new.links.items in
          let puts = w.with_last-freed.ensures in
          let sorts = sorts_freed n c.args.until c.args.upto place leaf stamps old_free olds free kept waiting rest (leaves_of news w.with_last-freed.result) (leaves_of news c.retired.kept) (leaves_of news c.without_last-waiting.result) k.sorts ends
          (sym w.if-is_due.true ∙ test) puts.last (puts.others c.retired.kept next.lacks_kept) (puts.others c.without_last-waiting.result next.lacks_rest) in
          let after = freed_count n c.args.until c.args.upto (place + 1) stamps old_free olds _ _ _ sorts in
          let one = ap length puts.last ∙ length-append free (leaf ∷ []) in
          record {
            sorts = rw (w.links-is, w.freed-is, w.kept-is) sorts;
            waiting_count = omega (arith, k.waiting_count, c.without_last-waiting.ensures.count);
            counted = omega (arith, w.count-is, k.counted, before, after, one);
            small = omega (arith, w.count-is, k.small);
            same_length = rw w.links-is (puts.same_length ∙ k.same_length);
          }
      | else-is_due w ↦
          let news = w.with_last-kept.new.links.items in
          let puts = w.with_last-kept.ensures in
          let sorts = sorts_kept n c.args.until c.args.upto place leaf stamps old_free olds free kept waiting rest (leaves_of news c.retired.freed) (leaves_of news w.with_last-kept.result) (leaves_of news c.without_last-waiting.result) k.sorts ends
          (sym w.if-is_due.false ∙ test) (puts.others c.retired.freed next.lacks_free) puts.last (puts.others c.without_last-waiting.result next.lacks_rest) in
          let after = freed_count n c.args.until c.args.upto (place + 1) stamps old_free olds _ _ _ sorts in
          let same = ap length (puts.others c.retired.freed next.lacks_free) in
          record {
            sorts = rw (w.links-is, w.freed-is, w.kept-is) sorts;
            waiting_count = omega (arith, k.waiting_count, c.without_last-waiting.ensures.count);
            counted = omega (arith, w.count-is, k.counted, before, after, same);
            small = omega (arith, w.count-is, k.small);
            same_length = rw w.links-is (puts.same_length ∙ k.same_length);
          }
    ]

pub returns : goal.returns
returns c =
    let k = c.retired.invariant in
    let links = c.args.links.now.items in
    let stamps = c.args.stamps.now.items in
    let old_free = leaves_of links c.args.free in
    let olds = stamped stamps (leaves_of links c.args.retired) in
    let news = c.retired.links.items in
    let le : length olds ≤ c.retired.place = omega (arith, length_stamped stamps (leaves_of links c.args.retired), length_leaves links c.args.retired, c.retired-test.false) in
    let all = all_sorted (length links) c.args.until c.args.upto c.retired.place stamps old_free olds (leaves_of news c.retired.freed) (leaves_of news c.retired.kept) (leaves_of news c.retired.waiting) k.sorts le in
    record {
      linked = record {
        stamps_length = c.requires.stamps_length ∙ sym k.same_length;
        few = omega (arith, c.requires.few, k.same_length);
        once = subst (λ m. StandApart m (leaves_of news c.retired.freed) (leaves_of news c.retired.kept)) (sym k.same_length) all.apart;
      };
      freed = λ i. record { leaves = k.same_length i; free = all.free_is i; retired = all.kept_is i };
      count = k.counted ∙ ap (λ rs. length (freed_so c.args.until c.args.upto rs)) (take_whole c.retired.place olds le);
    }
