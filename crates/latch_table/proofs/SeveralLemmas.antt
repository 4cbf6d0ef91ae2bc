-- Several cells that are put back and released.
use Rattle.std.proofs.Common.{◌≡◌, ℕ, ◌<◌, List, [], ◌∷◌, ◌++◌, map, refl, sym, ◌∙◌, ap, subst}
use Rattle.latch_table.specs.declared.sight.CellWord.{CellWord}
use Rattle.latch_table.specs.declared.cells.Held.{Held}
use Rattle.latch_table.specs.declared.cells.Laid.{Laid}
use Rattle.latch_table.specs.Latched.{cell_word, word_after}
use Rattle.latch_table.specs.Several.{taken_of, laid_of, words_of, laid_word, held_word, stored_after, AreHeldFit, AreLaid}

-- words that are stored one behind the other, and one more
stored-snoc : (ws : List CellWord) (w : CellWord) (stored : List CellWord)
    → stored_after (ws ++ w ∷ []) stored ≡ w ∷ stored_after ws stored
stored-snoc [] w stored = refl
stored-snoc (x ∷ ws) w stored = stored-snoc ws w (x ∷ stored)

words-snoc : (ls : List Laid) (l : Laid) → map laid_word (ls ++ l ∷ []) ≡ map laid_word ls ++ laid_word l ∷ []
words-snoc [] l = refl
words-snoc (x ∷ ls) l = ap (λ ws. laid_word x ∷ ws) (words-snoc ls l)

-- what is laid for a cell has its word
pub same_word : (S : Type 0) (l : Laid) (h : Held S) → l.cell ≡ h.cell → l.found ≡ h.found
    → l.changed ≡ h.changed → laid_word l ≡ held_word h
same_word S l h cell found changed = λ i. cell_word (cell i) (word_after (found i) (changed i))

module _ {S : Type 0} where
  -- the cell that was taken last stands first
  pub taken-snoc : (vacant : S) (hs : List (Held S)) (h : Held S)
      → taken_of vacant (hs ++ h ∷ []) ≡ (h.cell, vacant) ∷ taken_of vacant hs
  taken-snoc vacant [] h = refl
  taken-snoc vacant (x ∷ hs) h = ap (λ l. l ++ (x.cell, vacant) ∷ []) (taken-snoc vacant hs h)

  pub laid-snoc : (hs : List (Held S)) (h : Held S) → laid_of (hs ++ h ∷ []) ≡ (h.cell, h.value) ∷ laid_of hs
  laid-snoc [] h = refl
  laid-snoc (x ∷ hs) h = ap (λ l. l ++ (x.cell, x.value) ∷ []) (laid-snoc hs h)

  pub held-words-snoc : (hs : List (Held S)) (h : Held S) → words_of (hs ++ h ∷ []) ≡ held_word h ∷ words_of hs
  held-words-snoc [] h = refl
  held-words-snoc (x ∷ hs) h = ap (λ l. l ++ held_word x ∷ []) (held-words-snoc hs h)

  -- all but the last fit, and the last
  pub fit-snoc : (fits : ℕ → S → Type 0) (words : ℕ) (hs : List (Held S)) (h : Held S)
      → AreHeldFit fits words (hs ++ h ∷ [])
      → AreHeldFit fits words hs × (fits h.cell h.value × h.cell < words)
  fit-snoc fits words [] h all = (tt, all.0)
  fit-snoc fits words (x ∷ hs) h all = let r = fit-snoc fits words hs h all.1 in ((all.0, r.0), r.1)

  -- one more was laid
  pub more_laid : (fits : ℕ → S → Type 0) (words : ℕ) (ls : List Laid) (xs : List (ℕ × S)) (l : Laid)
      (value : S) (c : ℕ)
      → AreLaid fits words ls xs → l.cell ≡ c → fits c value → c < words
      → AreLaid fits words (ls ++ l ∷ []) (xs ++ (c, value) ∷ [])
  more_laid fits words [] [] l value c all same fit lt = (
    (
      value,
      (λ i. (sym same i, value)),
      subst (λ m. fits m value) (sym same) fit,
      subst (λ m. m < words) (sym same) lt,
    ),
    tt,
  )
  more_laid fits words [] (x ∷ xs) l value c all same fit lt = absurd all
  more_laid fits words (y ∷ ls) [] l value c all same fit lt = absurd all
  more_laid fits words (y ∷ ls) (x ∷ xs) l value c all same fit lt =
      (all.0, more_laid fits words ls xs l value c all.1 same fit lt)

  pub none_laid : (fits : ℕ → S → Type 0) (words : ℕ) (xs : List (ℕ × S)) → AreLaid fits words [] xs → xs ≡ []
  none_laid fits words [] all = refl
  none_laid fits words (x ∷ xs) all = absurd all

  -- the words of one more that was put back
  pub more_words : (ls : List Laid) (l : Laid) (h : Held S) (hs : List (Held S)) (all : List CellWord)
      → laid_word l ≡ held_word h
      → all ≡ map laid_word ls ++ words_of (hs ++ h ∷ []) → all ≡ map laid_word (ls ++ l ∷ []) ++ words_of hs
  more_words ls l h hs all same is =
      is ∙ ap (λ ws. map laid_word ls ++ ws) (held-words-snoc hs h)
      ∙ ap (λ w. map laid_word ls ++ w ∷ words_of hs) (sym same)
      ∙ joined (map laid_word ls) (laid_word l) (words_of hs)
      ∙ ap (λ ws. ws ++ words_of hs) (sym (words-snoc ls l))
    where
      joined : (a : List CellWord) (w : CellWord) (b : List CellWord) → a ++ w ∷ b ≡ (a ++ w ∷ []) ++ b
      joined [] w b = refl
      joined (x ∷ a) w b = ap (λ l. x ∷ l) (joined a w b)

  -- cells that are released in the order of their slots have their words in the order in which they were taken
  pub stored_words : (hs : List (Held S)) (stored : List CellWord)
      → stored_after (words_of hs) stored ≡ map held_word hs ++ stored
  stored_words [] stored = refl
  stored_words (h ∷ hs) stored = stored-snoc (words_of hs) (held_word h) stored
      ∙ ap (λ l. held_word h ∷ l) (stored_words hs stored)

  -- so are cells that were all put back and then released
  pub given_back : (ls : List Laid) (hs : List (Held S)) (now stored new : List CellWord)
      → map laid_word ls ≡ words_of hs → now ≡ stored
      → new ≡ stored_after (map laid_word ls) now → new ≡ map held_word hs ++ stored
  given_back ls hs now stored new put same released = released ∙ (λ i. stored_after (put i) (same i))
      ∙ stored_words hs stored
