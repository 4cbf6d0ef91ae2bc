use Rattle.std.proofs.Common.{◌^◌, ◌<◌, ◌∙◌, length, sym, ap, subst, arith}
use Rattle.kernel_sssp.specs.Distances.{LinkOut, IsSearched}
use Rattle.kernel_sssp.specs.declared.search.BucketStage.{BucketStage}
use Rattle.kernel_sssp.specs.Search.{IsStart}
use Rattle.kernel_sssp.proofs.SearchLemmas.{started, advanced, advanced_bucket, search_done}
use Rattle.kernel_sssp.proofs.kernel.search_alone.Goals as goal

pub buckets-init : goal.buckets-init
buckets-init c =
    let few : length c.args.image.now.vertices < 2 ^ 32 = omega (arith, c.len.ensures.len, c.len.ensures.few) in
    let start = subst (λ n. IsStart n c.args.root c.args.width c.in_ok-search.search) c.len.ensures.len c.in_ok-search.ensures in
    (started c.args.image.now c.args.root c.args.width c.in_ok-search.search few c.requires.root c.requires.width start, ap (λ (t : BucketStage). t.root) start.stage_is)

pub returns-then-not-advance : goal.returns-then-not-advance
returns-then-not-advance c =
    let s = c.settle.new.self in
    let done = c.in_ok-settle.ensures in
    let none = c.advance.ensures.none c.if-not-advance.true in
    subst (IsSearched (LinkOut c.args.image.now) c.args.root (length c.args.image.now.vertices)) (sym none.1)
    (subst (λ r. IsSearched (LinkOut c.args.image.now) r (length c.args.image.now.vertices) s.distances.items) (done.root_is ∙ c.buckets.invariant.1)
    (search_done c.args.image.now s.stage s.distances.items s.visits.items s.later done.search done.all none.0))

pub buckets-smaller : goal.buckets-smaller
buckets-smaller c =
    let done = c.in_ok-settle.ensures in
    let more = c.advance.ensures.more c.if-not-advance.false in
    let rise = advanced_bucket c.args.image.now c.settle.new.self c.advance.new.self done.search more in
    let same = done.bucket_is in
    let small = more.bucket_small in
    omega arith

pub buckets-preserved : goal.buckets-preserved
buckets-preserved c =
    let done = c.in_ok-settle.ensures in
    let more = c.advance.ensures.more c.if-not-advance.false in
    (advanced c.args.image.now c.settle.new.self c.advance.new.self done.search done.all more, ap (λ (t : BucketStage). t.root) more.stage_is ∙ done.root_is ∙ c.buckets.invariant.1)
