use Rattle.std.proofs.Common.{rules, ◌≡◌, length, ap, sym, ◌∙◌, subst, arith}
use Rattle.graph_model.specs.declared.write.Kind.TheVariants.{Undirected}
use Rattle.graph_image.specs.Edges.{AreListedOut, IsGrouped, IsListed, IsMirrored}
use Rattle.graph_image.specs.declared.edge.Side.TheVariants.{Into}
use Rattle.graph_image.proofs.PartedLemmas.{all_rise, laid_listed, laid_few, laid_edges, mirrored_image, symmetric_mirrored, turned_image}
use Rattle.graph_image.proofs.parted.with_arcs_in.Goals as goal
use Rattle.graph_image.proofs.parted.with_arcs_in.Goals.{then-eq-via-then-eq, then-eq-via-else-eq+in_ok-is_mirrored+then-branch}

pub is_mirrored-requires-clause-listed : goal.is_mirrored-requires-clause-listed
is_mirrored-requires-clause-listed c =
    let r = c.requires.laid in
    let count : length c.args.vertices.items ≡ c.len-count.result = omega (arith, c.len-count.ensures, c.args.vertices.ok) in
    subst (λ n. IsListed n c.args.out) count (laid_listed r.0 r.1 r.2 c.args.vertices.items c.args.out r.3)

pub is_mirrored-requires-clause-few : goal.is_mirrored-requires-clause-few
is_mirrored-requires-clause-few c =
    let r = c.requires.laid in
    let count : length c.args.vertices.items ≡ c.len-count.result = omega (arith, c.len-count.ensures, c.args.vertices.ok) in
    let few = laid_few r.0 r.1 r.2 c.args.vertices.items c.args.out r.3 in
    (let low = few.0 in omega (arith, low, count), few.1)

pub image_of-requires-clause-ids : goal.image_of-requires-clause-ids
image_of-requires-clause-ids c = let r = c.requires.laid in all_rise r.0 r.1 r.2 c.args.vertices.items r.3.vertices

pub image_of-requires-clause-few : goal.image_of-requires-clause-few
image_of-requires-clause-few c = let r = c.requires.laid in (laid_few r.0 r.1 r.2 c.args.vertices.items c.args.out r.3).0

pub image_of-requires-clause-out : goal.image_of-requires-clause-out
image_of-requires-clause-out c = let r = c.requires.laid in laid_listed r.0 r.1 r.2 c.args.vertices.items c.args.out r.3

pub returns-then-eq : goal.returns-then-eq
returns-then-eq c = λ rows g storable ended laid are symmetric.
    let vertices = c.args.vertices.items in
    let count : length vertices ≡ c.len-count.result = omega (arith, c.len-count.ensures, c.args.vertices.ok) in
    let mirrored : IsMirrored (length vertices) c.args.out = elim c.then-eq.branch [
      | then-eq-via-then-eq w ↦ (let undirected : c.args.kind ≡ Undirected = search (rules, w.if-eq.true, c.eq.ensures) in
          symmetric_mirrored rows storable ended vertices c.args.out laid g are (symmetric undirected))
      | then-eq-via-else-eq+in_ok-is_mirrored+then-branch w ↦ (let told : IsMirrored c.len-count.result c.args.out = search (rules, w.in_ok-is_mirrored.ensures, w.if-branch) in
          subst (λ n. IsMirrored n c.args.out) (sym count) told)
    ] in
    mirrored_image rows storable ended vertices c.args.out laid mirrored c.image_of.result c.image_of.ensures g are

pub turned-requires-clause-listed : goal.turned-requires-clause-listed
turned-requires-clause-listed c =
    let r = c.requires.laid in
    let count : length c.args.vertices.items ≡ c.len-count.result = omega (arith, c.len-count.ensures, c.args.vertices.ok) in
    subst (λ n. IsListed n c.args.out) count (laid_listed r.0 r.1 r.2 c.args.vertices.items c.args.out r.3)

pub turned-requires-clause-few : goal.turned-requires-clause-few
turned-requires-clause-few c =
    let r = c.requires.laid in
    let count : length c.args.vertices.items ≡ c.len-count.result = omega (arith, c.len-count.ensures, c.args.vertices.ok) in
    let few = (laid_few r.0 r.1 r.2 c.args.vertices.items c.args.out r.3).0 in
    omega (arith, few, count)

pub turned-requires-clause-edges : goal.turned-requires-clause-edges
turned-requires-clause-edges c =
    let r = c.requires.laid in
    let count : length c.args.vertices.items ≡ c.len-count.result = omega (arith, c.len-count.ensures, c.args.vertices.ok) in
    let there = laid_edges r.0 r.1 r.2 c.args.vertices.items c.args.out r.3 in
    (there.0, subst (λ n. AreListedOut n there.0 c.args.out) count there.1)

pub image_of-requires-2-clause-ids : goal.image_of-requires-2-clause-ids
image_of-requires-2-clause-ids c = let r = c.requires.laid in all_rise r.0 r.1 r.2 c.args.vertices.items r.3.vertices

pub image_of-requires-2-clause-few : goal.image_of-requires-2-clause-few
image_of-requires-2-clause-few c = let r = c.requires.laid in (laid_few r.0 r.1 r.2 c.args.vertices.items c.args.out r.3).0

pub image_of-requires-2-clause-out : goal.image_of-requires-2-clause-out
image_of-requires-2-clause-out c = let r = c.requires.laid in laid_listed r.0 r.1 r.2 c.args.vertices.items c.args.out r.3

pub returns : goal.returns
returns c = λ rows g storable ended laid are symmetric.
    let count : length c.args.vertices.items ≡ c.len-count.result = omega (arith, c.len-count.ensures, c.args.vertices.ok) in
    let grouped = subst (λ n. (es : _) → AreListedOut n es c.args.out → IsGrouped Into n es c.in_ok-into.into) (sym count) c.in_ok-into.ensures.grouped in
    turned_image rows storable ended c.args.vertices.items c.args.out laid c.in_ok-into.into grouped c.image_of-2.result c.image_of-2.ensures g are
