-- Sources read one after another
use Rattle.std.proofs.Common.{◌≡◌, ℕ, ◌+◌, ◌<◌, List, [], ◌∷◌, ◌++◌, length, get_or, map, take, sym, subst}
use Rattle.std.specs.Prelude.{Some, slice_get}
use Rattle.std.specs.Borrow.{Bor}
use Rattle.std.proofs.lemmas.List.Elements.{AllZip-push}
use Rattle.std.proofs.lemmas.Option.{slice_get-get_or}
use Rattle.desk_io.specs.Files.{Files}
use Rattle.desk_io.specs.Refusals.{IsRefused}
use Rattle.desk_io.specs.Sources.{IsRead, AreRead, IsReadStop, stop_at}
use Rattle.desk_io.specs.declared.source.SourceRefusal.{SourceRefusal}
use Rattle.desk_io.specs.declared.source.SourceRefusal.TheVariants.{ReadFault, TooLong, NoMemory}
use Rattle.desk_io.proofs.PlaceLemmas.{map_at, take_next}

-- a name at its place, among names that are lent
pub name_at : (names : List (Bor (List ℕ))) (place : ℕ) (none : Bor (List ℕ)) → place < length names → slice_get (map (λ name. name.now) names) place ≡ Some (get_or names place none).now
name_at names place none within = map_at (λ (name : Bor (List ℕ)). name.now) names place (get_or names place none) (slice_get-get_or names place none within)

module _ (limit : ℕ) (names sources : List (List ℕ)) (place : ℕ) (name : List ℕ) (at : slice_get names place ≡ Some name) (old : Files) (before : AreRead limit old (take place names) sources) where
  -- one more source is read
  pub reads_more : (source : List ℕ) → IsRead limit old name source → AreRead limit old (take (place + 1) names) (sources ++ source ∷ [])
  reads_more source here =
      subst (λ read. AreRead limit old read (sources ++ source ∷ [])) (sym (take_next names place name at))
      (AllZip-push (IsRead limit old) (take place names) sources name source before here)

  -- the first source that is refused stops the reading
  pub stops_at : (new : Files) (refusal : SourceRefusal) → IsRefused name limit old new refusal → IsReadStop limit names old new (stop_at place refusal)
  stops_at new ReadFault refused = (name, record { name_there = at; before = sources; read = before }, refused)
  stops_at new TooLong refused = (name, record { name_there = at; before = sources; read = before }, refused.0, refused.1)
  stops_at new NoMemory refused = refused
