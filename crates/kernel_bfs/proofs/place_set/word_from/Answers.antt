use Rattle.std.proofs.Common.{◌+◌, sym, subst, arith}
use Rattle.std.specs.Int.Bits.{bit_or}
use Rattle.kernel_bfs.proofs.PlaceSetLemmas.{IsWordTo, word_none, word_more, word_same, word_all, mask_is}
use Rattle.kernel_bfs.proofs.place_set.word_from.Goals as goal
use Rattle.kernel_bfs.proofs.place_set.word_from.Goals.{then-is_there, else-is_there}

pub bits-init : goal.bits-init
bits-init c = word_none c.args.level c.args.distances.now c.args.first

pub bits-preserved : goal.bits-preserved
bits-preserved c = elim c.if-is_there.branch [
  | then-is_there w ↦ subst (IsWordTo c.args.level c.args.distances.now c.args.first (c.bits.k + 1)) (sym w.word-is)
      (subst (λ m. IsWordTo c.args.level c.args.distances.now c.args.first (c.bits.k + 1) (bit_or c.bits.word m)) (sym (mask_is c.bits.k (omega (arith, c.bits-test.true))))
      (word_more c.args.level c.args.distances.now c.args.first c.bits.k c.bits.word c.bits.invariant w.if-is_there.true))
  | else-is_there w ↦ subst (IsWordTo c.args.level c.args.distances.now c.args.first (c.bits.k + 1)) (sym w.word-is)
      (word_same c.args.level c.args.distances.now c.args.first c.bits.k c.bits.word c.bits.invariant w.if-is_there.false)
]

pub returns : goal.returns
returns c = word_all c.args.level c.args.distances.now c.args.first c.bits.k c.bits.word c.bits.invariant (λ k below inside. omega (arith, c.bits-test.false))
