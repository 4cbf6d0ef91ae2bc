-- For how many rows a write that lacks places needs room.
use Rattle.std.proofs.Common.{◌≡◌, ◌⊎◌, inl, inr, ℕ, zero, suc, ◌<◌, ◌≤◌, length, refl, subst, arith}
use Rattle.std.specs.Prelude.{◌&&◌, not, Option, Some, None, Result, Ok, Err, IfOk}
use Rattle.std.proofs.lemmas.List.Sums.{count_by-le-length}
use Rattle.graph_model.specs.declared.row.Key.{Key}
use Rattle.graph_model.specs.declared.refusal.Refusal.{Refusal}
use Rattle.graph_model.specs.declared.write.Kind.{Kind}
use Rattle.graph_model.specs.declared.write.Write.{Write}
use Rattle.pass_prunes.specs.RowWritesDeclared.written.WrittenRows.{WrittenRows}
use Rattle.pass_prunes.specs.RowWrites.Held.{HeldRows}
use Rattle.pass_prunes.specs.RowWrites.Written.{rows_of, with_back, written_keys}
use Rattle.pass_prunes.specs.PassCells.Room.{key_of, need_of}
use Rattle.pass_writes.specs.declared.making.Written.{Written}
use Rattle.pass_writes.specs.declared.making.Written.TheVariants.{Done, NeedRoom}
use Rattle.pass_writes.specs.Making.{IsForInsert, IsShortOf, NeedsRoom}

few : (back : Option Key) (row : Key) → length (with_back back row) ≤ 2
few None row = omega arith
few (Some back) row = omega arith

one_or_two : (n : ℕ) → 0 < n → n ≤ 2 → (n ≡ 1) ⊎ (n ≡ 2)
one_or_two zero some most = absurd (omega (arith, some))
one_or_two (suc zero) some most = inl refl
one_or_two (suc (suc zero)) some most = inr refl
one_or_two (suc (suc (suc n))) some most = absurd (omega (arith, most))

pub short_needs : (kind : Kind) (w : Write) (c : HeldRows) (written : Written)
    → IsShortOf c (written_keys (rows_of kind w)) written × IsForInsert w written → NeedsRoom kind w written
short_needs kind w c Done short = tt
short_needs kind w c (NeedRoom need) both =
    let short = both.0 in
    let keys = written_keys (rows_of kind w) in
    let most = count_by-le-length (λ q. not (c.has_row q) && c.shares (key_of need) q) keys in
    let two = few (rows_of kind w).back (rows_of kind w).row in
    let is = short.need_is in
    let lack = short.short in
    (short.among, one_or_two (need_of need) (omega (arith, lack)) (omega (arith, is, most, two)), both.1)

pub short_room : (kind : Kind) (w : Write) (c : HeldRows) (rows : WrittenRows) → rows ≡ rows_of kind w
    → (result : Result Written Refusal)
    → IfOk result (λ written. IsShortOf c (written_keys rows) written × IsForInsert w written)
    → IfOk result (λ written. NeedsRoom kind w written)
short_room kind w c rows is (Ok written) short =
    short_needs kind w c written (subst (λ r. IsShortOf c (written_keys r) written) is short.0, short.1)
short_room kind w c rows is (Err refusal) short = tt
