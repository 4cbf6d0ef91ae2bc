use Rattle.std.proofs.Common.{rules, ◌≡◌, length, sym, subst}
use Rattle.graph_image.specs.Images.{AreWithin, arcs_at}
use Rattle.desk.specs.Rings.{IsEndOf}
use Rattle.desk.proofs.RingLemmas.{GoesBack, closes, has_some, is_inside, read_at, steps}
use Rattle.desk.proofs.rings.way_back.Goals as goal

pub returns-then-payer-root : goal.returns-then-payer-root
returns-then-payer-root c =
    let end : IsEndOf (arcs_at c.args.image.now.into c.payers.place) c.in-Some.payer =
    subst (λ arcs. IsEndOf arcs c.in-Some.payer) c.into.ensures.arcs c.in-Some.ensures in
    let same : c.in-Some.payer ≡ c.args.root = search rules in
    λ g is. closes c.args.image.now g is c.payers.ring.items c.args.root c.payers.place c.in-Some.payer
    c.payers.invariant.0 end same (c.payers.invariant.3 g is)

pub payers-preserved : goal.payers-preserved
payers-preserved c =
    let end : IsEndOf (arcs_at c.args.image.now.into c.payers.place) c.in-Some.payer =
    subst (λ arcs. IsEndOf arcs c.in-Some.payer) c.into.ensures.arcs c.in-Some.ensures in
    let within = subst (AreWithin (length c.args.image.now.vertices)) c.into.ensures.arcs c.into.ensures.within in
    let inside = is_inside c.args.image.now c.payers.place c.in-Some.payer end within in
    let grown = c.in_ok-push-2.ensures.items in
    let read = read_at c.vertices-ids.result.now c.args.image.now.vertices c.in-Some.payer c.vertices-ids.ensures.ids
    inside in (
      inside,
      c.payers.invariant.1,
      has_some c.payers.ring.items c.push-in-payers.new.self.items _ grown,
      λ g is.
          subst (λ ring. GoesBack g c.args.image.now.vertices ring c.args.root c.in-Some.payer) (sym grown)
          (steps c.args.image.now g is c.payers.ring.items c.args.root c.payers.place c.in-Some.payer _
          c.payers.invariant.0 end read (c.payers.invariant.3 g is) c.payers.invariant.2),
    )
