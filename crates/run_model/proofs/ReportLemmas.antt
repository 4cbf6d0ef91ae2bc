-- A report's text tells its answers: where each line ends, which answer it is, and its numbers.
use Rattle.std.proofs.Common.{◌≡◌, ℕ, List, [], ◌∷◌, ◌++◌, refl, sym, ◌∙◌, ap, arith, append_assoc}
use Rattle.std.specs.Prelude.{Bool, true, false, ◌==◌, ◌&&◌, not, cond, codes, decimal, slice_index, length, Some, None}
use Rattle.std.specs.List.{AllByRecursion, list_all, flat_map}
use Rattle.std.specs.Str.Parse.{AllDigits}
use Rattle.std.proofs.lemmas.Str.Parse.{digit_from_value}
use Rattle.std.proofs.lemmas.Fmt.{decimal_is_IsNumeral_wide}
use Rattle.std.proofs.lemmas.List.{append-nil}
use Rattle.std.proofs.lemmas.List.Folds.{list_all-append}
use Rattle.std.proofs.lemmas.Bool.{and_parts}
use Rattle.std.proofs.lemmas.Bool.Decides.{nat_tests}
use Rattle.graph_model.specs.declared.journal.TxnName.{TxnName}
use Rattle.graph_model.specs.declared.refusal.Cause.TheVariants.{Later, Holder}
use Rattle.run_model.specs.declared.answer.Answer.{Answer}
use Rattle.run_model.specs.declared.answer.Answer.TheVariants as answers
use Rattle.run_model.specs.Texts.{field, name_text, answer_text, report_text}
use Rattle.run_model.specs.Laws.{IsShort, HasShortName, IsShortAnswer}
use Rattle.run_model.proofs.NumeralLemmas.{numbers_on, number_here, number_last, numbers_behind}

-- ---- where a line ends

-- no byte is a line feed
abbrev is_line : List ℕ → Bool
is_line cs = list_all (λ c. not (c == 10)) cs

line_on : (xs ys : List ℕ) → is_line xs ≡ true → is_line ys ≡ true → is_line (xs ++ ys) ≡ true
line_on xs ys p q = list_all-append (λ c. not (c == 10)) xs ys ∙ (λ i. p i && q i)

digits_line : (ds : List ℕ) → AllDigits 10 ds → is_line ds ≡ true
digits_line [] all = refl
digits_line (d ∷ ds) all =
    let range = digit_from_value d all.0 in
    let other : not (d == 10) ≡ true = grind (arith, nat_tests, range) in
    (λ i. other i && digits_line ds all.1 i)

decimal_line : (n : ℕ) → IsShort n → is_line (decimal n) ≡ true
decimal_line n short = digits_line (decimal n) (decimal_is_IsNumeral_wide n short).0.1

field_line : (n : ℕ) → IsShort n → is_line (field n) ≡ true
field_line n short = decimal_line n short

fields_line : (ns : List ℕ) → AllByRecursion IsShort ns → is_line (flat_map field ns) ≡ true
fields_line [] all = refl
fields_line (n ∷ ns) all = line_on (field n) (flat_map field ns) (field_line n all.0) (fields_line ns all.1)

name_line : (by : TxnName) → HasShortName by → is_line (name_text by) ≡ true
name_line by short =
    line_on (decimal by.job ++ 46 ∷ []) (decimal by.number) (line_on (decimal by.job) (46 ∷ []) (decimal_line by.job short.0) refl) (decimal_line by.number short.1)

-- an answer is one line
answer_line : (a : Answer) → IsShortAnswer a → is_line (answer_text a) ≡ true
answer_line (answers.Begun by start) short =
    line_on (codes "begin " ++ name_text by ++ codes " start") (field start)
    (line_on (codes "begin " ++ name_text by) (codes " start") (line_on (codes "begin ") (name_text by) refl (name_line by short.0)) refl) (field_line start short.1)
answer_line answers.Done short = refl
answer_line answers.Exists short = refl
answer_line answers.SelfLoop short = refl
answer_line (answers.NoVertex v) short = line_on (codes "no vertex") (field v) refl (field_line v short)
answer_line answers.NoEdge short = refl
answer_line answers.HasEdges short = refl
answer_line (answers.Conflict (Later stamp)) short = line_on (codes "conflict later") (field stamp) refl (field_line stamp short)
answer_line (answers.Conflict (Holder by)) short = line_on (codes "conflict open ") (name_text by) refl (name_line by short)
answer_line answers.Full short = refl
answer_line (answers.Weight weight) short = line_on (codes "weight") (field weight) refl (field_line weight short)
answer_line answers.Nothing short = refl
answer_line (answers.Neighbours targets) short =
    line_on (codes "neighbours" ++ field (length targets)) (flat_map field targets)
    (line_on (codes "neighbours") (field (length targets)) refl (field_line (length targets) short.0)) (fields_line targets short.1)
answer_line (answers.Counted vertices edges) short =
    line_on (codes "vertices" ++ field vertices ++ codes " edges") (field edges)
    (line_on (codes "vertices" ++ field vertices) (codes " edges") (line_on (codes "vertices") (field vertices) refl (field_line vertices short.0)) refl) (field_line edges short.1)
answer_line (answers.Table entries) short = line_on (codes "table") (field entries) refl (field_line entries short)
answer_line (answers.Committed (Some stamp)) short = line_on (codes "commit") (field stamp) refl (field_line stamp short)
answer_line (answers.Committed None) short = refl
answer_line answers.Aborted short = refl
answer_line answers.Skipped short = refl

no_feed : {X : Type 0} (cs : List ℕ) → is_line (10 ∷ cs) ≡ true → X
no_feed cs e = let no : false ≡ true = e in cc

-- two texts that begin with a line begin with the same one
line_end : (xs ys more rest : List ℕ) → is_line xs ≡ true → is_line ys ≡ true → xs ++ (10 ∷ more) ≡ ys ++ (10 ∷ rest) → (xs ≡ ys) × (more ≡ rest)
line_end [] [] more rest p q e = (refl, cc)
line_end [] (y ∷ ys) more rest p q e = let same : y ≡ 10 = cc in no_feed ys (ap (λ c. is_line (c ∷ ys)) (sym same) ∙ q)
line_end (x ∷ xs) [] more rest p q e = let same : x ≡ 10 = cc in no_feed xs (ap (λ c. is_line (c ∷ xs)) (sym same) ∙ p)
line_end (x ∷ xs) (y ∷ ys) more rest p q e =
    let head : x ≡ y = cc in
    let tail : xs ++ (10 ∷ more) ≡ ys ++ (10 ∷ rest) = cc in
    let parts = line_end xs ys more rest (and_parts _ _ p).1 (and_parts _ _ q).1 tail in
    (λ i. head i ∷ parts.0 i, parts.1)

-- ---- which answer a line is, by some of its bytes and by its numbers

abbrev begun : List ℕ → Answer
begun (j ∷ n ∷ s ∷ more) = answers.Begun (record { job = j; number = n }) s
begun _ = answers.Done

abbrev holder : List ℕ → Answer
holder (j ∷ n ∷ more) = answers.Conflict (Holder (record { job = j; number = n }))
holder _ = answers.Done

abbrev neighbours : List ℕ → Answer
neighbours (n ∷ ns) = answers.Neighbours ns
neighbours [] = answers.Done

abbrev counted : List ℕ → Answer
counted (v ∷ e ∷ more) = answers.Counted v e
counted _ = answers.Done

abbrev committed : List ℕ → Answer
committed (s ∷ more) = answers.Committed (Some s)
committed [] = answers.Committed None

abbrev first : (ℕ → Answer) → List ℕ → Answer
first f (n ∷ more) = f n
first f [] = answers.Done

-- lines in `n`, `s` and `c`
abbrev in_n : ℕ → ℕ → ℕ → List ℕ → Answer
in_n second third fourth ns =
    cond (second == 101) (neighbours ns) (cond (third == 110) answers.Nothing (cond (fourth == 118) (first answers.NoVertex ns) answers.NoEdge))

abbrev in_s : ℕ → Answer
in_s second = cond (second == 101) answers.SelfLoop answers.Skipped

abbrev in_c : ℕ → ℕ → List ℕ → Answer
in_c third tenth ns = cond (third == 109) (committed ns) (cond (tenth == 108) (first (λ n. answers.Conflict (Later n)) ns) (holder ns))

abbrev by_bytes : List ℕ → ℕ → List ℕ → Answer
by_bytes text letter ns =
    cond (letter == 98) (begun ns) (cond (letter == 111) answers.Done (cond (letter == 101) answers.Exists (cond (letter == 115) (in_s (slice_index text 1))
    (cond (letter == 110) (in_n (slice_index text 1) (slice_index text 2) (slice_index text 3) ns) (cond (letter == 104) answers.HasEdges
    (cond (letter == 99) (in_c (slice_index text 2) (slice_index text 9) ns) (cond (letter == 102) answers.Full (cond (letter == 119) (first answers.Weight ns)
    (cond (letter == 118) (counted ns) (cond (letter == 116) (first answers.Table ns) answers.Aborted))))))))))

abbrev answer_in : List ℕ → Answer
answer_in text = by_bytes text (slice_index text 0) (numbers_on None text)

-- the numbers of a name, in front of more
name_here : (by : TxnName) (rest : List ℕ) → HasShortName by → numbers_on None (name_text by ++ rest) ≡ by.job ∷ numbers_on (Some by.number) rest
name_here by rest short =
    ap (numbers_on None) (append_assoc (decimal by.job ++ 46 ∷ []) (decimal by.number) rest ∙ append_assoc (decimal by.job) (46 ∷ []) (decimal by.number ++ rest))
    ∙ number_here by.job (46 ∷ (decimal by.number ++ rest)) short.0 ∙ ap (λ xs. by.job ∷ xs) (number_here by.number rest short.1)

name_last : (by : TxnName) → HasShortName by → numbers_on None (name_text by) ≡ by.job ∷ by.number ∷ []
name_last by short = ap (numbers_on None) (sym (append-nil (name_text by))) ∙ name_here by [] short

-- an answer's line is read as that answer
answer_told : (a : Answer) → IsShortAnswer a → answer_in (answer_text a) ≡ a
answer_told (answers.Begun by start) short =
    ap begun (ap (numbers_on None) (append_assoc (name_text by) (codes " start") (field start)) ∙ name_here by (codes " start" ++ field start) short.0
    ∙ ap (λ ns. by.job ∷ by.number ∷ ns) (number_last start short.1))
answer_told answers.Done short = refl
answer_told answers.Exists short = refl
answer_told answers.SelfLoop short = refl
answer_told (answers.NoVertex v) short = ap (first answers.NoVertex) (number_last v short)
answer_told answers.NoEdge short = refl
answer_told answers.HasEdges short = refl
answer_told (answers.Conflict (Later stamp)) short = ap (first (λ n. answers.Conflict (Later n))) (number_last stamp short)
answer_told (answers.Conflict (Holder by)) short = ap holder (name_last by short)
answer_told answers.Full short = refl
answer_told (answers.Weight weight) short = ap (first answers.Weight) (number_last weight short)
answer_told answers.Nothing short = refl
answer_told (answers.Neighbours targets) short =
    ap neighbours (number_here (length targets) (flat_map field targets) short.0 ∙ numbers_behind (length targets) targets short.1)
answer_told (answers.Counted vertices edges) short =
    ap counted (ap (numbers_on None) (append_assoc (field vertices) (codes " edges") (field edges)) ∙ number_here vertices (codes " edges" ++ field edges) short.0
    ∙ ap (λ ns. vertices ∷ ns) (number_last edges short.1))
answer_told (answers.Table entries) short = ap (first answers.Table) (number_last entries short)
answer_told (answers.Committed (Some stamp)) short = ap committed (number_last stamp short)
answer_told (answers.Committed None) short = refl
answer_told answers.Aborted short = refl
answer_told answers.Skipped short = refl

-- ---- the report

on_line : (a : Answer) (rest : List Answer) → report_text (a ∷ rest) ≡ answer_text a ++ (10 ∷ report_text rest)
on_line a rest = append_assoc (answer_text a) (10 ∷ []) (report_text rest)

no_report : {X : Type 0} (xs more : List ℕ) → [] ≡ xs ++ (10 ∷ more) → X
no_report [] more e = cc
no_report (x ∷ xs) more e = cc

-- reports with one text are equal
pub one_report : (a b : List Answer) → AllByRecursion IsShortAnswer a → AllByRecursion IsShortAnswer b → report_text a ≡ report_text b → a ≡ b
one_report [] [] p q e = refl
one_report [] (y ∷ b) p q e = no_report (answer_text y) (report_text b) (e ∙ on_line y b)
one_report (x ∷ a) [] p q e = no_report (answer_text x) (report_text a) (sym e ∙ on_line x a)
one_report (x ∷ a) (y ∷ b) p q e =
    let parts = line_end (answer_text x) (answer_text y) (report_text a) (report_text b) (answer_line x p.0) (answer_line y q.0) (sym (on_line x a) ∙ e ∙ on_line y b) in
    let head : x ≡ y = sym (answer_told x p.0) ∙ ap answer_in parts.0 ∙ answer_told y q.0 in
    let tail = one_report a b p.1 q.1 parts.1 in
    λ i. head i ∷ tail i
