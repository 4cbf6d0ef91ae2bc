-- That threads may share a handle is known in one way alone, so it may be kept beside the handle.
use Rattle.std.proofs.Props.{props}
use Rattle.std.specs.Coded.{Unit-prop}
use mathlib.Core.Logic.{∥∥₁_elim}
use base.Fml.{Fml, ftrue, ffalse, feq, flt, fsep, fand, for, fwand, fex, fall, fupd, fhide, fat, froom, fleft, fdies, flft, fdead, fobs, fauth, fres, fown, fbor, fobor, flent, fshr_bor, finv, fnamed, ftok, fkid, fme, fsent}
use base.Shift.{Keyless}
use denote.Param.Send.{IsSync, SyncAt}
use denote.RattleType.{RattleType}

-- what no thread alone holds
keyless_prop : (P : Fml) → IsProp (Keyless P)
keyless_prop ftrue = Unit-prop
keyless_prop ffalse = Unit-prop
keyless_prop (feq d x y) = Unit-prop
keyless_prop (flt m n) = Unit-prop
keyless_prop (fat q τ b o v) = Unit-prop
keyless_prop (froom τ b o) = Unit-prop
keyless_prop (fleft q ω τs b o) = Unit-prop
keyless_prop (fdies τ b) = Unit-prop
keyless_prop (flft κ q) = Unit-prop
keyless_prop (fdead κ) = Unit-prop
keyless_prop (fobs γ x) = Unit-prop
keyless_prop (fauth γ x) = Unit-prop
keyless_prop (fres γ x) = Unit-prop
keyless_prop (fown R γ x) = Unit-prop
keyless_prop (fsep P Q) = hlevel (props, keyless_prop P, keyless_prop Q)
keyless_prop (fand P Q) = hlevel (props, keyless_prop P, keyless_prop Q)
keyless_prop (for P Q) = hlevel (props, keyless_prop P, keyless_prop Q)
keyless_prop (fwand P Q) = hlevel (props, keyless_prop P, keyless_prop Q)
keyless_prop (fupd P) = keyless_prop P
keyless_prop (fhide P) = keyless_prop P
keyless_prop (fbor κ P) = keyless_prop P
keyless_prop (fobor κ q P) = keyless_prop P
keyless_prop (flent κ P) = keyless_prop P
keyless_prop (finv P) = keyless_prop P
keyless_prop (fnamed nm P) = keyless_prop P
keyless_prop (fex X F) = λ p q i x. keyless_prop (F x) (p x) (q x) i
keyless_prop (fall X F) = λ p q i x. keyless_prop (F x) (p x) (q x) i
keyless_prop (fshr_bor κ Φ) = λ p q i x. keyless_prop (Φ x) (p x) (q x) i
keyless_prop (ftok E) = λ p q. absurd p
keyless_prop (fkid h a) = λ p q. absurd p
keyless_prop (fme h) = λ p q. absurd p
keyless_prop (fsent E) = Unit-prop

-- what each value of a type shows to every thread
abbrev pub IsShown : RattleType → Type 0
IsShown R = (x : R.Denot) → SyncAt R x

shown_prop : (R : RattleType) → IsProp (IsShown R)
shown_prop R p q i x b o κ = keyless_prop (R.shr_at x b o κ) (p x b o κ) (q x b o κ) i

-- SHARED, as it was kept
pub is_shared : (R : RattleType) → ∥ IsShown R ∥₁ → IsSync R
is_shared R kept = record { shared = ∥∥₁_elim kept (shown_prop R) (λ s. s) }

pub keep_shared : (R : RattleType) → IsSync R → ∥ IsShown R ∥₁
keep_shared R s = ∣ s.shared ∣₁
