-- The order of keys by its test.
use Rattle.std.proofs.Common.{◌≡◌, refl, sym, ◌∙◌, ap}
use Rattle.std.specs.Prelude.{Bool, true, false, ◌==◌, ◌&&◌, not}
use Rattle.std.specs.Ordering.{is_lt, ordering_reverse}
use Rattle.std.specs.declared.cmp.Ordering.{Ordering}
use Rattle.std.specs.declared.cmp.Ordering.TheVariants.{Less, Equal, Greater}
use Rattle.std.specs.Cmp.{tied_itself}
use Rattle.graph_model.specs.declared.row.Key.{Key}
use Rattle.graph_model.specs.Rows.{key_cmp, is_below, is_between}
use Rattle.graph_model.proofs.TestLemmas.{self_eq}
use Rattle.graph_model.proofs.OrderLemmas.{keys_total, keys_exact}

pub less_of : (r : Ordering) → is_lt r ≡ true → r ≡ Less
less_of Less e = refl
less_of Equal e = cc
less_of Greater e = cc

-- a chain of keys
pub below_chain : (a b c : Key) → is_below a b ≡ true → is_below b c ≡ true → is_below a c ≡ true
below_chain a b c ab bc = ap is_lt (keys_total.trans a b c (less_of _ ab) (less_of _ bc))

-- no two keys are below one another
pub below_flip : (a b : Key) → is_below a b ≡ true → is_below b a ≡ false
below_flip a b ab = ap is_lt (keys_total.antisymm b a ∙ ap ordering_reverse (less_of _ ab))

-- no key is below itself
pub below_self : (a : Key) → is_below a a ≡ false
below_self a = ap is_lt (tied_itself keys_total a)

-- of two keys of which neither is below the other the one is the other
pub tied_keys : (a b : Key) → is_below a b ≡ false → is_below b a ≡ false → a ≡ b
tied_keys a b ab ba =
    let flip : key_cmp b a ≡ ordering_reverse (key_cmp a b) = keys_total.antisymm b a in
    elim (key_cmp a b) as (λ r. key_cmp a b ≡ r → is_lt r ≡ false → is_lt (ordering_reverse r) ≡ false → a ≡ b) [
      | Less ↦ λ e f g. cc
      | Equal ↦ λ e f g. keys_exact a b e
      | Greater ↦ λ e f g. cc
    ] refl ab (sym (ap is_lt flip) ∙ ba)

-- no test is both passed and failed
clash : {X : Type 0} (t : Bool) → t ≡ true → t ≡ false → X
clash true e f = cc
clash false e f = cc

-- a key that isn't below another one, and isn't that one, is above it
pub above_of_not : (a b : Key) → is_below a b ≡ false → (a ≡ b → ⊥) → is_below b a ≡ true
above_of_not a b e other =
    elim (is_below b a) as (λ t. is_below b a ≡ t → t ≡ true) [ true ↦ λ h. refl | false ↦ λ h. absurd (other (tied_keys a b e h)) ] refl

-- what is below a key that isn't above another one isn't above it either
pub not_below_chain : (a b c : Key) → is_below a c ≡ false → is_below a b ≡ true → is_below b c ≡ false
not_below_chain a b c ac ab =
    elim (is_below b c) as (λ t. is_below b c ≡ t → t ≡ false) [ true ↦ λ h. sym (below_chain a b c ab h) ∙ ac | false ↦ λ h. refl ] refl

-- below a key, so below one that isn't below it
pub below_up : (k b c : Key) → is_below k b ≡ true → is_below c b ≡ false → is_below k c ≡ true
below_up k b c kb cb =
    elim (is_below k c) as (λ t. is_below k c ≡ t → t ≡ true) [
      | true ↦ λ h. refl
      | false ↦ λ h. clash (is_below c b) (below_chain c k b (above_of_not k c h (λ e. clash (is_below c b) (ap (λ x. is_below x b) (sym e) ∙ kb) cb)) kb) cb
    ] refl

-- a chain of keys none of which is below the one before it
pub upto_chain : (a b c : Key) → is_below b a ≡ false → is_below c b ≡ false → is_below c a ≡ false
upto_chain a b c ba cb =
    elim (is_below c a) as (λ t. is_below c a ≡ t → t ≡ false) [ true ↦ λ h. clash (is_below c b) (below_up c a b h ba) cb | false ↦ λ h. refl ] refl

-- a key within fences is not below the low one, and is below the high one
pub between_parts : (low high k : Key) → is_between low high k ≡ true → (is_below k low ≡ false) × (is_below k high ≡ true)
between_parts low high k e =
    elim (is_below k low) as (λ t. (not t && is_below k high) ≡ true → (t ≡ false) × (is_below k high ≡ true)) [ true ↦ λ h. cc | false ↦ λ h. (refl, h) ] e

-- and the other way round
pub between_of : (low high k : Key) → is_below k low ≡ false → is_below k high ≡ true → is_between low high k ≡ true
between_of low high k a b = λ i. not (a i) && b i

-- equal keys pass the test
pub same_key_test : (a b : Key) → a ≡ b → ((a.src == b.src) && (a.second == b.second)) ≡ true
same_key_test a b e = ap (λ (k : Key). (a.src == k.src) && (a.second == k.second)) (sym e) ∙ (λ i. self_eq a.src i && self_eq a.second i)
