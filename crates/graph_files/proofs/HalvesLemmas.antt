-- Texts that are cut behind a line feed: the lines of both parts are those of the whole.
use Rattle.std.proofs.Common.{◌≡◌, ℕ, ◌+◌, Bool, true, false, cond, List, [], ◌∷◌, ◌++◌, Result, refl, sym, ap, subst, ◌∙◌}
use Rattle.std.specs.Prelude.{Option, Some, Ok, IfOk}
use Rattle.std.specs.List.{onto_first}
use Rattle.std.proofs.lemmas.List.{append-nil}
use Rattle.graphalytics_io.specs.declared.edges.Edge.{Edge}
use Rattle.graphalytics_io.specs.declared.lines.FieldLine.{FieldLine}
use Rattle.graphalytics_io.specs.Fields.{is_line_feed, fields_of, lines_of, without_return}
use Rattle.graphalytics_io.specs.FieldLines.{is_passed_over, numbered, field_lines}
use Rattle.graph_files.specs.declared.refusal.What.{What}
use Rattle.graph_files.specs.declared.faultless.Front.{Front}
use Rattle.items.specs.declared.memory.NoMemory.{NoMemory}
use Rattle.graph_files.specs.declared.weights.Weights.{Weights}
use Rattle.graph_files.specs.EdgeFiles.{edge_of}
use Rattle.graph_files.specs.Kept.{AreListed, IsFront, every_id}
use Rattle.graph_files.specs.Halves.{IsCut, IsReadAs}

-- a text that isn't empty has a line
some_line : (byte : ℕ) (text : List ℕ) → lines_of (byte ∷ text) ≡ [] → ⊥
some_line byte text none = cases (is_line_feed byte) (lines_of text) none
  where
    cases : (t : Bool) (lines : List (List ℕ)) → cond t ([] ∷ lines) (onto_first byte lines) ≡ [] → ⊥
    cases true lines e = cc
    cases false [] e = cc
    cases false (line ∷ lines) e = cc

ends_some : (last : List ℕ) → lines_of (last ++ 10 ∷ []) ≡ [] → ⊥
ends_some [] none = some_line 10 [] none
ends_some (byte ∷ last) none = some_line byte (last ++ 10 ∷ []) none

-- a byte in front is put onto the first line
onto_append : (byte : ℕ) (lines more : List (List ℕ)) → (lines ≡ [] → ⊥) → onto_first byte (lines ++ more) ≡ onto_first byte lines ++ more
onto_append byte [] more some = absurd (some refl)
onto_append byte (line ∷ lines) more some = refl

-- the lines behind a line feed stand behind those that end with it
lines_cut : (last behind : List ℕ) → lines_of ((last ++ 10 ∷ []) ++ behind) ≡ lines_of (last ++ 10 ∷ []) ++ lines_of behind
lines_cut [] behind = refl
lines_cut (byte ∷ last) behind = step (is_line_feed byte) (lines_cut last behind)
  where
    step : (t : Bool) → lines_of ((last ++ 10 ∷ []) ++ behind) ≡ lines_of (last ++ 10 ∷ []) ++ lines_of behind
        → cond t ([] ∷ lines_of ((last ++ 10 ∷ []) ++ behind)) (onto_first byte (lines_of ((last ++ 10 ∷ []) ++ behind)))
        ≡ cond t ([] ∷ lines_of (last ++ 10 ∷ [])) (onto_first byte (lines_of (last ++ 10 ∷ []))) ++ lines_of behind
    step true more = ap (λ lines. [] ∷ lines) more
    step false more = ap (onto_first byte) more ∙ onto_append byte (lines_of (last ++ 10 ∷ [])) (lines_of behind) (ends_some last)

module _ {X : Type 0} (item : List (List ℕ) → Result X What) where
  -- what lines have doesn't depend on their numbers
  renumbered : (n m : ℕ) (lines : List (List ℕ)) (xs : List X) → AreListed item (numbered n lines) xs → AreListed item (numbered m lines) xs
  renumbered n m [] xs listed = listed
  renumbered n m (line ∷ lines) xs listed = step (is_passed_over (without_return line)) xs (renumbered (n + 1) (m + 1) lines) listed
    where
      step : (t : Bool) (xs : List X) → ((xs : List X) → AreListed item (numbered (n + 1) lines) xs → AreListed item (numbered (m + 1) lines) xs)
          → AreListed item (cond t (numbered (n + 1) lines) (record { number = n + 1; fields = fields_of (without_return line) } ∷ numbered (n + 1) lines)) xs
          → AreListed item (cond t (numbered (m + 1) lines) (record { number = m + 1; fields = fields_of (without_return line) } ∷ numbered (m + 1) lines)) xs
      step true xs more listed = more xs listed
      step false [] more listed = absurd listed
      step false (x ∷ xs) more listed = (listed.0, more xs listed.1)

  -- lines have what those of their front have, and behind it what the others have
  listed_both : (n m : ℕ) (lines others : List (List ℕ)) (xs ys : List X) → AreListed item (numbered n lines) xs → AreListed item (numbered 0 others) ys → AreListed item (numbered m (lines ++ others)) (xs ++ ys)
  listed_both n m [] others [] ys first second = renumbered 0 m others ys second
  listed_both n m [] others (x ∷ xs) ys first second = absurd first
  listed_both n m (line ∷ lines) others xs ys first second =
      step (is_passed_over (without_return line)) xs (λ xs listed. listed_both (n + 1) (m + 1) lines others xs ys listed second) first
    where
      step : (t : Bool) (xs : List X) → ((xs : List X) → AreListed item (numbered (n + 1) lines) xs → AreListed item (numbered (m + 1) (lines ++ others)) (xs ++ ys))
          → AreListed item (cond t (numbered (n + 1) lines) (record { number = n + 1; fields = fields_of (without_return line) } ∷ numbered (n + 1) lines)) xs
          → AreListed item (cond t (numbered (m + 1) (lines ++ others)) (record { number = m + 1; fields = fields_of (without_return line) } ∷ numbered (m + 1) (lines ++ others))) (xs ++ ys)
      step true xs more listed = more xs listed
      step false [] more listed = absurd listed
      step false (x ∷ xs) more listed = (listed.0, more xs listed.1)

  -- what both parts of a text have is what the text has
  pub listed_cut : (text front behind : List ℕ) (xs ys : List X) → IsCut text front behind → AreListed item (field_lines front) xs → AreListed item (field_lines behind) ys → AreListed item (field_lines text) (xs ++ ys)
  listed_cut text front behind xs ys cut first second =
      let same : lines_of text ≡ lines_of front ++ lines_of behind
      = ap lines_of (cut.whole ∙ ap (λ f. f ++ behind) cut.ends) ∙ lines_cut cut.last behind ∙ ap (λ f. lines_of f ++ lines_of behind) (sym cut.ends) in
      subst (λ lines. AreListed item (numbered 0 lines) (xs ++ ys)) (sym same) (listed_both 0 0 (lines_of front) (lines_of behind) xs ys first second)

module _ (item : List (List ℕ) → Result Edge What) (all : List FieldLine) where
  -- lines of which all are read are a whole front
  pub whole_front : (edges : List Edge) → AreListed item all edges → IsFront item all (record { edges = edges; is_whole = true })
  whole_front edges listed = record { lines = all; rest = []; parts = sym (append-nil all); listed = listed; whole = λ _. refl }

  -- and so the other way round
  pub front_whole : (front : Front) → front.is_whole ≡ true → IsFront item all front → AreListed item all front.edges
  front_whole front whole is =
      let lines : all ≡ is.lines = is.parts ∙ ap (λ rest. is.lines ++ rest) (is.whole whole) ∙ append-nil is.lines in
      subst (λ ls. AreListed item ls front.edges) (sym lines) is.listed

module _ (weights : Weights) (text : List ℕ) where
  -- edges that were read are those of the lines
  pub some_read : (found : Option (List Edge)) (edges : List Edge) → IsReadAs weights text found → found ≡ Some edges → AreListed (edge_of every_id weights) (field_lines text) edges
  some_read found edges told is = subst (IsReadAs weights text) is told

  -- also those that a call gave
  pub read_is : (result : Result (Option (List Edge)) NoMemory) (found : Option (List Edge)) (edges : List Edge) → IfOk result (IsReadAs weights text) → result ≡ Ok found → found ≡ Some edges
      → AreListed (edge_of every_id weights) (field_lines text) edges
  read_is result found edges told given is = some_read found edges (subst (λ r. IfOk r (IsReadAs weights text)) given told) is
