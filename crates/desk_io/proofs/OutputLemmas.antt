-- Outputs written one after another: an earlier one stays whole, since its name is another
use Rattle.std.proofs.Common.{◌≡◌, ℕ, ◌+◌, List, [], ◌∷◌, ◌++◌, take, sym, ◌∙◌, ap, subst, arith, inl, inr}
use Rattle.std.specs.Prelude.{◌≢◌, Contains, AllPairs, slice_get, Some, IfSome, IsSome}
use Rattle.std.proofs.lemmas.List.{map-append, take-map}
use Rattle.std.proofs.lemmas.List.Elements.{Contains-append_left, Contains-append_right}
use Rattle.desk_io.specs.Files.{Files, Rose, NoWriteFails, IsWritten, ChangesOnly, SinkFails}
use Rattle.desk_io.specs.Outputs.{NamedText, names_of, AreWritten, KeepsOthers, WritesAll, HasFront, FailsAtPlace}
use Rattle.desk_io.proofs.PlaceLemmas.{map_at, none_before, take_next}

-- a text stays whole while another name changes
still_written : (mid new : Files) (name other text : List ℕ) → ChangesOnly name mid new → other ≢ name → IsWritten mid other text → IsWritten new other text
still_written mid new name other text change apart is = record {
  whole = subst (λ t. IfSome t (λ told. told ≡ text)) (sym (change.written other apart)) is.whole;
  told = λ tells. subst (λ t. IsSome t) (sym (change.written other apart)) (is.told (sym change.tells ∙ tells));
}

-- texts stay whole while a name that none of them has changes
all_still_written : (mid new : Files) (name : List ℕ) (outputs : List NamedText) → ChangesOnly name mid new → (Contains (names_of outputs) name → ⊥) → AreWritten mid outputs → AreWritten new outputs
all_still_written mid new name [] change apart are = tt
all_still_written mid new name (o ∷ outputs) change apart are = (
  still_written mid new name o.name o.text change (λ same. apart (0, omega arith, same)) are.0,
  all_still_written mid new name outputs change (λ there. apart (Contains-append_right (o.name ∷ []) (names_of outputs) name there)) are.1,
)

-- one whole text more
written_push : (files : Files) (outputs : List NamedText) (o : NamedText) → AreWritten files outputs → IsWritten files o.name o.text → AreWritten files (outputs ++ o ∷ [])
written_push files [] o are is = (is, tt)
written_push files (x ∷ outputs) o are is = (are.0, written_push files outputs o are.1 is)

-- a change of one name more
others_push : (outputs : List NamedText) (o : NamedText) (old mid new : Files) → KeepsOthers (names_of outputs) old mid → ChangesOnly o.name mid new → KeepsOthers (names_of (outputs ++ o ∷ [])) old new
others_push outputs o old mid new before change =
    let names = map-append (λ (x : NamedText). x.name) outputs (o ∷ []) in
    let not_before : (other : List ℕ) → (Contains (names_of (outputs ++ o ∷ [])) other → ⊥) → Contains (names_of outputs) other → ⊥ = λ other out there.
    out (subst (λ ns. Contains ns other) (sym names) (Contains-append_left (names_of outputs) (o.name ∷ []) other there)) in
    let not_here : (other : List ℕ) → (Contains (names_of (outputs ++ o ∷ [])) other → ⊥) → other ≢ o.name = λ other out same.
    out (subst (λ ns. Contains ns other) (sym names) (Contains-append_right (names_of outputs) (o.name ∷ []) other (0, omega arith, sym same))) in
    record {
      holds = λ other out. change.holds other (not_here other out) ∙ before.holds other (not_before other out);
      written = λ other out. change.written other (not_here other out) ∙ before.written other (not_before other out);
      said = change.said ∙ before.said;
      tells = change.tells ∙ before.tells;
      read_faults = change.read_faults ∙ before.read_faults;
      failed_read = change.failed_read ∙ before.failed_read;
    }

module _ (outputs : List NamedText) (place : ℕ) (o : NamedText) (at : slice_get outputs place ≡ Some o) (apart : AllPairs (λ a b. a ≢ b) (names_of outputs))
    (old mid new : Files) (before : WritesAll (take place outputs) old mid) (change : ChangesOnly o.name mid new) where
  -- no earlier output has the name
  new_name : Contains (names_of (take place outputs)) o.name → ⊥
  new_name there =
      none_before (names_of outputs) place o.name (map_at (λ (x : NamedText). x.name) outputs place o at) apart
      (subst (λ ns. Contains ns o.name) (sym (take-map (λ (x : NamedText). x.name) place outputs)) there)

  earlier_whole : AreWritten new (take place outputs)
  earlier_whole = all_still_written mid new o.name (take place outputs) change new_name before.whole

  -- one output more is whole
  pub writes_more : IsWritten new o.name o.text → NoWriteFails mid new → WritesAll (take (place + 1) outputs) old new
  writes_more is faults =
      subst (λ os. WritesAll os old new) (sym (take_next outputs place o at)) (record {
        whole = written_push new (take place outputs) o earlier_whole is;
        others = others_push (take place outputs) o old mid new before.others change;
        write_faults = faults.write_faults ∙ before.write_faults;
        failed_write = faults.failed_write ∙ before.failed_write;
      })

  front_of : SinkFails o.name o.text mid new → HasFront o old new
  front_of fails =
      elim fails.front as (λ _. HasFront o old new) [
        | inl rest ↦ inl (record {
          holds = ap (λ (f : Files). f.holds o.name) rest ∙ before.others.holds o.name new_name;
          written = ap (λ (f : Files). f.written o.name) rest ∙ before.others.written o.name new_name;
        })
        | inr part ↦ inr part
      ]

  -- the first output that fails stops the writing
  pub fails_here : SinkFails o.name o.text mid new → FailsAtPlace outputs place old new
  fails_here fails = (
    o,
    at,
    record {
      rose = subst (λ count. Rose count new.write_faults) before.write_faults fails.rose;
      named = fails.named;
      whole = earlier_whole;
      front = front_of fails;
      others = others_push (take place outputs) o old mid new before.others change;
    },
  )
