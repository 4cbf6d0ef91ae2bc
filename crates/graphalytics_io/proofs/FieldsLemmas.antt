-- Texts that are cut into lines, and lines into fields.
use Rattle.std.proofs.Common.{◌≡◌, ℕ, ◌+◌, ◌<◌, ◌≤◌, Bool, true, false, not, cond, List, [], ◌∷◌, length, take, drop, refl, sym, ap, ap₂, ◌∙◌, arith, suc, ◌^◌, ◌==◌, ◌&&◌, ◌||◌, All, length-drop, Some, None}
use Rattle.std.proofs.lemmas.List.Elements.{All-nil, All-cons}
use Rattle.std.specs.List.{list_all, onto_first, slice_split, filter, position, position_or_len, before_first, after_first}
use Rattle.std.proofs.lemmas.Bool.Decides.{nat_tests}
use borrow.Author.Tests.{eqb-true}
use Rattle.graphalytics_io.specs.Fields.{is_line_feed, is_blank, is_some_part, lines_of, fields_of, without_return}
use Rattle.graphalytics_io.specs.declared.lines.FieldLine.{FieldLine}
use Rattle.graphalytics_io.specs.FieldLines.{numbered, line_before, is_comment, is_passed_over}

-- the place that `position` gives is how many elements precede the first that passes
pub position_at : {X : Type 0} (p : X → Bool) (xs : List X) (i : ℕ) → Some i ≡ position p xs
    → (position_or_len p xs ≡ i) × (i < length xs)
position_at p xs i at = grind (arith, nat_tests, at)

-- no more elements than there are precede the first that passes
pub position_bound : {X : Type 0} (p : X → Bool) (xs : List X) → position_or_len p xs ≤ length xs
position_bound p [] = omega arith
position_bound p (x ∷ xs) = bound_step (p x) (position_bound p xs)
  where
    bound_step : (v : Bool) → position_or_len p xs ≤ length xs
        → cond (not v) (1 + position_or_len p xs) 0 ≤ length (x ∷ xs)
    bound_step true more = omega arith
    bound_step false more = omega arith

-- where `position` gives none, all elements precede it
pub position_none : {X : Type 0} (p : X → Bool) (xs : List X) → None ≡ position p xs → position_or_len p xs ≡ length xs
position_none p xs at = grind (arith, nat_tests, at, position_bound p xs)

-- the first line of a text ends at its first line feed
pub cut_line : (text : List ℕ) → 0 < length text
    → lines_of text ≡ before_first is_line_feed text ∷ lines_of (after_first is_line_feed text)
cut_line [] some = absurd (omega arith)
cut_line (byte ∷ []) some = single (is_line_feed byte)
  where
    single : (v : Bool) → cond v ([] ∷ []) ((byte ∷ []) ∷ [])
        ≡ take (cond (not v) 1 0) (byte ∷ []) ∷ lines_of (drop (cond (not v) 1 0 + 1) (byte ∷ []))
    single true = refl
    single false = refl
cut_line (byte ∷ next ∷ text) some = more_step (is_line_feed byte) (cut_line (next ∷ text) (omega arith))
  where
    more_step : (v : Bool)
        → lines_of (next ∷ text)
        ≡ before_first is_line_feed (next ∷ text) ∷ lines_of (after_first is_line_feed (next ∷ text))
        → cond v ([] ∷ lines_of (next ∷ text)) (onto_first byte (lines_of (next ∷ text)))
        ≡ take (cond (not v) (1 + position_or_len is_line_feed (next ∷ text)) 0) (byte ∷ next ∷ text)
        ∷ lines_of (drop (cond (not v) (1 + position_or_len is_line_feed (next ∷ text)) 0 + 1) (byte ∷ next ∷ text))
    more_step true more = refl
    more_step false more =
        let n = position_or_len is_line_feed (next ∷ text) in
        let front : 1 + n ≡ suc n = omega arith in
        let back : 1 + n + 1 ≡ suc (n + 1) = omega arith in
        rw (more, back, front) refl

module _ (p : ℕ → Bool) where
  -- what is left where a list was split before its first element that passes: that element is a cut
  abbrev rest_parts : List ℕ → List (List ℕ)
  rest_parts [] = []
  rest_parts (x ∷ xs) = slice_split p xs

  -- the first part is what precedes the first element that passes
  first_part : (xs : List ℕ)
      → slice_split p xs ≡ take (position_or_len p xs) xs ∷ rest_parts (drop (position_or_len p xs) xs)
  first_part [] = refl
  first_part (x ∷ xs) = part_step (p x) (first_part xs)
    where
      part_step : (v : Bool)
          → slice_split p xs ≡ take (position_or_len p xs) xs ∷ rest_parts (drop (position_or_len p xs) xs)
          → cond v ([] ∷ slice_split p xs) (onto_first x (slice_split p xs))
          ≡ take (cond (not v) (1 + position_or_len p xs) 0) (x ∷ xs)
          ∷ rest_parts (drop (cond (not v) (1 + position_or_len p xs) 0) (x ∷ xs))
      part_step true more = refl
      part_step false more =
          let next : 1 + position_or_len p xs ≡ suc (position_or_len p xs) = omega arith in
          rw (more, next) refl

  -- the parts behind it that aren't empty are those of what it leaves
  rest_fields : (xs : List ℕ)
      → filter is_some_part (rest_parts (drop (position_or_len p xs) xs))
      ≡ filter is_some_part (slice_split p (drop (position_or_len p xs) xs))
  rest_fields [] = refl
  rest_fields (x ∷ xs) = field_step (p x) refl (rest_fields xs)
    where
      field_step : (v : Bool) → p x ≡ v
          → filter is_some_part (rest_parts (drop (position_or_len p xs) xs))
          ≡ filter is_some_part (slice_split p (drop (position_or_len p xs) xs))
          → filter is_some_part (rest_parts (drop (cond (not v) (1 + position_or_len p xs) 0) (x ∷ xs)))
          ≡ filter is_some_part (slice_split p (drop (cond (not v) (1 + position_or_len p xs) 0) (x ∷ xs)))
      field_step true cut more = rw cut refl
      field_step false other more =
          let next : 1 + position_or_len p xs ≡ suc (position_or_len p xs) = omega arith in
          rw next more

-- blanks at the front of a line stand before its fields
pub skip_blanks : (line : List ℕ)
    → fields_of (drop (position_or_len (λ byte. not (is_blank byte)) line) line) ≡ fields_of line
skip_blanks [] = refl
skip_blanks (byte ∷ line) = blank_step (is_blank byte) refl (skip_blanks line)
  where
    blank_step : (v : Bool) → is_blank byte ≡ v
        → fields_of (drop (position_or_len (λ b. not (is_blank b)) line) line) ≡ fields_of line
        → fields_of (drop (cond (not (not v)) (1 + position_or_len (λ b. not (is_blank b)) line) 0) (byte ∷ line))
        ≡ fields_of (byte ∷ line)
    blank_step true cut more =
        let next : 1 + position_or_len (λ b. not (is_blank b)) line
        ≡ suc (position_or_len (λ b. not (is_blank b)) line) = omega arith in
        rw (next, cut) more
    blank_step false other more = refl

-- what precedes the first blank of a line is its first field, unless it is empty
abbrev pub field_before : List ℕ → List (List ℕ) → List (List ℕ)
field_before [] fields = fields
field_before (byte ∷ field) fields = (byte ∷ field) ∷ fields

pub first_field : (line : List ℕ)
    → fields_of line
    ≡ field_before (take (position_or_len is_blank line) line) (fields_of (drop (position_or_len is_blank line) line))
first_field line =
    let n = position_or_len is_blank line in
    ap (filter is_some_part) (first_part is_blank line)
    ∙ joined (take n line) (rest_parts is_blank (drop n line)) _ (rest_fields is_blank line)
  where
    joined : (field : List ℕ) (parts rest : List (List ℕ)) → filter is_some_part parts ≡ rest
        → filter is_some_part (field ∷ parts) ≡ field_before field rest
    joined [] parts rest same = same
    joined (byte ∷ field) parts rest same = ap (λ more. (byte ∷ field) ∷ more) same

-- a line from its first byte that is no blank
abbrev pub without_blanks : List ℕ → List ℕ
without_blanks line = drop (position_or_len (λ byte. not (is_blank byte)) line) line

-- where its first field is empty, it is empty
no_field : (line : List ℕ) → length (take (position_or_len is_blank (without_blanks line)) (without_blanks line)) ≡ 0
    → without_blanks line ≡ []
no_field [] none = refl
no_field (byte ∷ line) none = none_step (is_blank byte) refl (no_field line) none
  where
    none_step : (v : Bool) → is_blank byte ≡ v
        → (length (take (position_or_len is_blank (without_blanks line)) (without_blanks line)) ≡ 0
        → without_blanks line ≡ [])
        → (let rest = drop (cond (not (not v)) (1 + position_or_len (λ b. not (is_blank b)) line) 0) (byte ∷ line) in
        length (take (position_or_len is_blank rest) rest) ≡ 0)
        → drop (cond (not (not v)) (1 + position_or_len (λ b. not (is_blank b)) line) 0) (byte ∷ line) ≡ []
    none_step true blank more none =
        let next : 1 + position_or_len (λ b. not (is_blank b)) line
        ≡ suc (position_or_len (λ b. not (is_blank b)) line) = omega arith in
        rw next (more (rw next at none))
    none_step false other more none =
        let next : 1 + position_or_len is_blank line ≡ suc (position_or_len is_blank line) = omega arith in
        let wrong : length (take (cond (not false) (1 + position_or_len is_blank line) 0) (byte ∷ line)) ≡ 0 =
        rw other at none in
        absurd (cc (rw next at wrong))

module _ (line behind field rest : List ℕ) (fields : List (List ℕ)) (all : fields_of line ≡ fields)
    (start : behind ≡ without_blanks line) (front : field ≡ take (position_or_len is_blank behind) behind)
    (back : rest ≡ drop (position_or_len is_blank behind) behind) where
  parted : fields ≡ field_before field (fields_of rest)
  parted = sym all ∙ sym (skip_blanks line) ∙ ap fields_of (sym start) ∙ first_field behind
      ∙ ap₂ field_before (sym front) (ap fields_of (sym back))

  -- the first field of a line, and those behind it
  pub has_field : (length field == 0) ≡ false → fields ≡ field ∷ fields_of rest
  has_field some = parted ∙ begins field some
    where
      begins : (word : List ℕ) → (length word == 0) ≡ false → field_before word (fields_of rest) ≡ word ∷ fields_of rest
      begins [] wrong = cc
      begins (byte ∷ word) some = refl

  -- a line without a first field has none
  pub has_no_field : (length field == 0) ≡ true → (fields ≡ []) × (fields_of rest ≡ [])
  has_no_field none =
      let empty : behind ≡ [] = start ∙ no_field line (rw (← start, ← front) (eqb-true (length field) 0 none)) in
      let gone : rest ≡ [] = back ∙ ap (λ b. drop (position_or_len is_blank b) b) empty in
      (sym all ∙ sym (skip_blanks line) ∙ ap fields_of (sym start ∙ empty), ap fields_of gone)

-- a line has no more fields than bytes
pub few_fields : (line : List ℕ) → length (fields_of line) ≤ length line
few_fields [] = omega arith
few_fields (byte ∷ line) = fields_step (is_blank byte) (slice_split is_blank line) (few_fields line)
  where
    fields_step : (v : Bool) (parts : List (List ℕ)) → length (filter is_some_part parts) ≤ length line
        → length (filter is_some_part (cond v ([] ∷ parts) (onto_first byte parts))) ≤ suc (length line)
    fields_step true parts more = omega arith
    fields_step false [] more = omega arith
    fields_step false ([] ∷ parts) more = omega arith
    fields_step false ((head ∷ part) ∷ parts) more = omega arith

-- the lines of a text are its first line, unless it says nothing, and those of the rest
pub next_line : (text : List ℕ) (number : ℕ) → 0 < length text
    → numbered number (lines_of text)
    ≡ line_before (number + 1) (without_return (before_first is_line_feed text))
    (numbered (number + 1) (lines_of (after_first is_line_feed text)))
next_line text number some = ap (numbered number) (cut_line text some)

-- the rest of a text behind its first line is shorter
pub rest_fits : (text : List ℕ) (number : ℕ) → 0 < length text → number + length text < 2 ^ 64
    → number + 1 + length (after_first is_line_feed text) < 2 ^ 64
rest_fits text number some fits = omega (arith, length-drop (position_or_len is_line_feed text + 1) text)

module _ (text line rest short : List ℕ) (number : ℕ) (all : List FieldLine) (some : 0 < length text)
    (front : line ≡ before_first is_line_feed text) (back : rest ≡ after_first is_line_feed text)
    (kept : short ≡ without_return line) (same : numbered number (lines_of text) ≡ all) where
  parted_lines : all ≡ line_before (number + 1) short (numbered (number + 1) (lines_of rest))
  parted_lines = sym same ∙ next_line text number some
      ∙ ap₂ (λ own more. line_before (number + 1) own (numbered (number + 1) (lines_of more)))
      (ap without_return (sym front) ∙ sym kept) (sym back)

  -- the first line of a text, where it says something
  pub line_found : (fields : List (List ℕ)) → is_passed_over short ≡ false → fields ≡ fields_of short
      → all ≡ record { number = number + 1; fields = fields } ∷ numbered (number + 1) (lines_of rest)
  line_found fields says own = parted_lines ∙ rw (says, own) refl

  -- where it says nothing, the lines are those of the rest
  pub line_skipped : is_passed_over short ≡ true → numbered (number + 1) (lines_of rest) ≡ all
  line_skipped silent = sym (parted_lines ∙ rw silent refl)

-- a line that isn't blank throughout has a field
some_field : (line : List ℕ) → list_all is_blank line ≡ false → 0 < length (fields_of line)
some_field [] says = absurd (cc)
some_field (byte ∷ line) says = field_step (is_blank byte) (slice_split is_blank line) (some_field line) says
  where
    field_step : (v : Bool) (parts : List (List ℕ))
        → (list_all is_blank line ≡ false → 0 < length (filter is_some_part parts))
        → (v && list_all is_blank line) ≡ false
        → 0 < length (filter is_some_part (cond v ([] ∷ parts) (onto_first byte parts)))
    field_step true parts more says = more says
    field_step false [] more says = omega arith
    field_step false (part ∷ parts) more says = omega arith

-- the lines of a text that say something have fields
pub numbered_fields : (number : ℕ) (lines : List (List ℕ))
    → All (λ line. 0 < length line.fields) (numbered number lines)
numbered_fields number [] = All-nil (λ (line : FieldLine). 0 < length line.fields)
numbered_fields number (line ∷ lines) =
    let short = without_return line in
    one_more short (is_comment short) (list_all is_blank short) refl (numbered (number + 1) lines)
    (numbered_fields (number + 1) lines)
  where
    one_more : (short : List ℕ) (comment blank : Bool) → list_all is_blank short ≡ blank → (more : List FieldLine)
        → All (λ line. 0 < length line.fields) more
        → All (λ line. 0 < length line.fields)
        (cond (comment || blank) more (record { number = number + 1; fields = fields_of short } ∷ more))
    one_more short true blank says more each = each
    one_more short false true says more each = each
    one_more short false false says more each =
        All-cons (λ (line : FieldLine). 0 < length line.fields) _ more (some_field short says) each
