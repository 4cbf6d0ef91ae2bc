-- Words of cells lie apart.
use Rattle.std.proofs.Common.{inl, inr, ℕ, arith}
use mathlib.Core.Logic.{dite}
use native.Mathlib.Decide.{dec_le}
use Rattle.latch_table.specs.Places.{AreLaidOut}

pub places_apart : (common wanted : ℕ) → AreLaidOut common wanted
places_apart common wanted = record {
  first = λ c lt. inl (omega arith);
  zero = λ w lt. inl (omega arith);
  common_apart = λ c w in_common lt. inl (omega arith);
  wanted_apart = λ v w in_v in_w other. dite (dec_le v w) (λ le. inl (omega arith)) (λ no. inr (omega arith));
  each_once = λ c d in_c in_d same. omega arith;
  common_inside = λ c lt. omega arith;
  wanted_inside = λ w lt. omega arith;
}
