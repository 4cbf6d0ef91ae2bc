-- Faults of lines and of their fields.
use Rattle.std.proofs.Common.{◌≡◌, ℕ, Bool, true, false, cond, nat_le, List, [], ◌∷◌, Option, Some, None, refl, sym, ap, ap₂, ◌∙◌, arith}
use Rattle.std.proofs.lemmas.Bool.Decides.{nat_tests}
use Rattle.script_lang.specs.declared.refusal.ScriptWhat.{ScriptWhat}
use Rattle.script_lang.specs.declared.word.FieldKind.{FieldKind}
use Rattle.script_lang.specs.Faults.{order, earlier}
use Rattle.script_lang.specs.FieldFaults.{field_fault, fields_fault}
use Rattle.script_lang.specs.Values.{Values, with_value, with_values}

-- of three faults the earliest counts, however they are compared
pub earlier_assoc : (a b c : Option ScriptWhat) → earlier (earlier a b) c ≡ earlier a (earlier b c)
earlier_assoc None b c = refl
earlier_assoc (Some a) None c = refl
earlier_assoc (Some a) (Some b) None = earlier_none (nat_le (order a) (order b))
  where
    earlier_none : (v : Bool) → earlier (cond v (Some a) (Some b)) None ≡ cond v (Some a) (Some b)
    earlier_none true = refl
    earlier_none false = refl
earlier_assoc (Some a) (Some b) (Some c) = three (nat_le (order a) (order b)) refl (nat_le (order b) (order c)) refl
  where
    three : (v : Bool) → nat_le (order a) (order b) ≡ v → (w : Bool) → nat_le (order b) (order c) ≡ w → earlier (cond v (Some a) (Some b)) (Some c) ≡ earlier (Some a) (cond w (Some b) (Some c))
    three true ab true bc = let ac : nat_le (order a) (order c) ≡ true = grind (arith, nat_tests, ab, bc) in rw (ac, ab) refl
    three true ab false bc = refl
    three false ab true bc = rw (bc, ab) refl
    three false ab false bc = let ac : nat_le (order a) (order c) ≡ false = grind (arith, nat_tests, ab, bc) in rw (bc, ac) refl

-- where neither has a fault
pub neither : (a b : Option ScriptWhat) → earlier a b ≡ None → (a ≡ None) × (b ≡ None)
neither None b none = (refl, none)
neither (Some a) None none = absurd (cc)
neither (Some a) (Some b) none = chosen (nat_le (order a) (order b)) none
  where
    chosen : (v : Bool) → cond v (Some a) (Some b) ≡ None → (Some a ≡ None) × (Some b ≡ None)
    chosen true wrong = absurd (cc)
    chosen false wrong = absurd (cc)

module _ (taken : List (List ℕ)) where
  -- where no fields are left, there are no more faults and no more values
  no_more_faults : (kinds : List FieldKind) → fields_fault taken kinds [] ≡ None
  no_more_faults [] = refl
  no_more_faults (kind ∷ kinds) = refl

  no_more_values : (values : Values) (kinds : List FieldKind) → with_values values kinds [] ≡ values
  no_more_values values [] = refl
  no_more_values values (kind ∷ kinds) = refl

  module _ (fault all : Option ScriptWhat) (values now : Values) (kind : FieldKind) (kinds more : List FieldKind) (left rest : List (List ℕ)) (last : Values)
      (split : kinds ≡ kind ∷ more) (faults : earlier fault (fields_fault taken kinds left) ≡ all) (so_far : fault ≡ None → with_values values kinds left ≡ last) where
    -- one more field
    pub field_read : (field : List ℕ) → left ≡ field ∷ rest → (next : Option ScriptWhat) → next ≡ field_fault taken kind field → (next ≡ None → now ≡ with_value values kind field)
        → (earlier (earlier fault next) (fields_fault taken more rest) ≡ all) × (earlier fault next ≡ None → with_values now more rest ≡ last)
    field_read field begins next is value = (
      earlier_assoc fault next (fields_fault taken more rest) ∙ ap (λ found. earlier fault (earlier found (fields_fault taken more rest))) is
          ∙ ap (earlier fault) (sym (ap₂ (fields_fault taken) split begins)) ∙ faults,
      λ none.
          let both = neither fault next none in
          ap (λ v. with_values v more rest) (value both.1) ∙ sym (ap₂ (with_values values) split begins) ∙ so_far both.0,
    )

    -- no field is left for the kind
    pub field_missing : left ≡ [] → rest ≡ [] → (earlier fault (fields_fault taken more rest) ≡ all) × (fault ≡ None → with_values values more rest ≡ last)
    field_missing ends after = (
      ap (earlier fault) (ap (fields_fault taken more) after ∙ no_more_faults more ∙ sym (ap (fields_fault taken kinds) ends ∙ no_more_faults kinds)) ∙ faults,
      λ none. ap (with_values values more) after ∙ no_more_values values more ∙ sym (ap (with_values values kinds) ends ∙ no_more_values values kinds) ∙ so_far none,
    )
