-- What a pass has made behind one line more: in all, and transaction by transaction.
use Rattle.std.proofs.Common.{◌≡◌, ℕ, zero, suc, ◌+◌, ◌<◌, List, [], ◌∷◌, ◌++◌, length, refl, sym, ◌∙◌, ap, arith, cond, inl, inr, length-append, append_assoc}
use Rattle.std.specs.Prelude.{Bool, true, false, ◌==◌, Option, Some, None, slice_get}
use Rattle.std.specs.List.{flat_map, filter_map, cons_option}
use Rattle.std.proofs.lemmas.Bool.{ne_eqb, cases_eq}
use Rattle.std.proofs.lemmas.Bool.Decides.{nat_tests}
use Rattle.std.proofs.lemmas.Grind.{flat_map-append}
use Rattle.std.proofs.lemmas.List.{append-nil}
use Rattle.std.proofs.lemmas.List.Elements.{filter_map-append}
use Rattle.graph_model.specs.declared.write.Write.{Write}
use Rattle.graph_model.specs.AccountSteps.{last_with}
use Rattle.graph_model.proofs.TestLemmas.{self_eq}
use Rattle.run_model.specs.declared.command.Command.{Command}
use Rattle.run_model.specs.declared.answer.Answer.{Answer}
use Rattle.run_model.specs.declared.command.Command.TheVariants as commands
use Rattle.run_model.specs.Commands.{next_txn, write_of}
use Rattle.run_model.specs.AnsweredLines.{AnsweredLine, effect, made_by, of_txn, own_writes}
use Rattle.run_model.specs.UnderWay.{AreNumbered}
use Rattle.run_model.proofs.LineLemmas.{none_later}
use Rattle.side_runs.specs.ByAccount.{made_behind}

-- the line that is answered
abbrev pub line_of : ℕ → Command → Answer → AnsweredLine
line_of txn c a = record { txn = txn; command = c; answer = a }

-- the last of the lists has one write more
pub last_more : (earlier : List (List Write)) (ws : List Write) (w : Write) → last_with (earlier ++ ws ∷ []) w ≡ earlier ++ (ws ++ w ∷ []) ∷ []
last_more [] ws w = refl
last_more (v ∷ []) ws w = refl
last_more (v ∷ u ∷ vs) ws w = ap (λ xs. v ∷ xs) (last_more (u ∷ vs) ws w)

last_count : (lists : List (List Write)) (w : Write) → length (last_with lists w) ≡ length lists
last_count [] w = refl
last_count (v ∷ []) w = refl
last_count (v ∷ u ∷ vs) w = ap suc (last_count (u ∷ vs) w)

abbrev pub flat : List (List Write) → List Write
flat lists = flat_map (λ ws. ws) lists

flat_last : (earlier : List (List Write)) (ws : List Write) → flat (earlier ++ ws ∷ []) ≡ flat earlier ++ ws
flat_last earlier ws = flat_map-append (λ ws. ws) earlier (ws ∷ []) ∙ ap (λ xs. flat earlier ++ xs) (append-nil ws)

-- a line that asks for no write has made none
pub none_made : (c : Command) (r : Command) → c ≡ r → write_of r ≡ None → (txn : ℕ) (a : Answer) → filter_map made_by (line_of txn c a ∷ []) ≡ []
none_made c r is none txn a = ap (λ w. cons_option (cond (effect a).writes w None) []) (ap write_of is ∙ none) ∙ either (effect a).writes
  where
    either : (b : Bool) → let none : Option Write = None in cons_option (cond b none none) [] ≡ []
    either true = refl
    either false = refl

-- what a pass has made behind a line, by what it was answered: the writes of the lines, one list for each
-- transaction, the open one's last
module _ (made : List (List Write)) (own : List Write) (txn : ℕ) (c : Command) (a : Answer) (opened : (effect a).writes ≡ true → (earlier : List (List Write)) × (made ≡ earlier ++ own ∷ [])) where
  unchanged : (r : Command) → c ≡ r → write_of r ≡ None → flat made ≡ flat made ++ filter_map made_by (line_of txn c a ∷ [])
  unchanged r is none = sym (ap (λ xs. flat made ++ xs) (none_made c r is none txn a) ∙ append-nil (flat made))

  pub made_more : (r : Command) → c ≡ r → flat (made_behind made r a) ≡ flat made ++ filter_map made_by (line_of txn c a ∷ [])
  made_more commands.Begin is = flat_last made [] ∙ ap (λ xs. flat made ++ xs) (sym (none_made c commands.Begin is refl txn a))
  made_more commands.Commit is = unchanged commands.Commit is refl
  made_more commands.Abort is = unchanged commands.Abort is refl
  made_more (commands.Write w) is = by_write (effect a).writes refl ∙ ap (λ x. flat made ++ cons_option (cond (effect a).writes x None) []) (sym (ap write_of is))
    where
      by_write : (b : Bool) → (effect a).writes ≡ b → flat (cond (effect a).writes (last_with made w) made) ≡ flat made ++ cons_option (cond (effect a).writes (Some w) None) []
      by_write true e =
          let o = opened e in
          ap (λ b. flat (cond b (last_with made w) made)) e
          ∙ ap (λ xs. flat (last_with xs w)) o.1 ∙ ap flat (last_more o.0 own w) ∙ flat_last o.0 (own ++ w ∷ []) ∙ sym (append_assoc (flat o.0) own (w ∷ []))
          ∙ ap (λ xs. xs ++ w ∷ []) (sym (ap flat o.1 ∙ flat_last o.0 own))
          ∙ ap (λ b. flat made ++ cons_option (cond b (Some w) None) []) (sym e)
      by_write false e = ap (λ b. flat (cond b (last_with made w) made)) e ∙ sym (append-nil (flat made)) ∙ ap (λ b. flat made ++ cons_option (cond b (Some w) None) []) (sym e)
  made_more (commands.Read query) is = unchanged (commands.Read query) is refl
  made_more (commands.Run kernel file) is = unchanged (commands.Run kernel file) is refl

pub made_count : (made : List (List Write)) (begun : ℕ) (r : Command) (a : Answer) → length made ≡ begun → length (made_behind made r a) ≡ next_txn begun r
made_count made begun commands.Begin a is = omega (arith, length-append made ([] ∷ []), is)
made_count made begun commands.Commit a is = is
made_count made begun commands.Abort a is = is
made_count made begun (commands.Write w) a is = by_write (effect a).writes ∙ is
  where
    by_write : (b : Bool) → length (cond b (last_with made w) made) ≡ length made
    by_write true = last_count made w
    by_write false = refl
made_count made begun (commands.Read query) a is = is
made_count made begun (commands.Run kernel file) a is = is

-- the lines of a transaction, with one line more
of_more : (u : ℕ) (ls : List AnsweredLine) (l : AnsweredLine) → of_txn u (ls ++ l ∷ []) ≡ of_txn u ls ++ cond (l.txn == u) (l ∷ []) []
of_more u [] l = refl
of_more u (k ∷ ls) l = elim (k.txn == u) as (λ b. cond b (k ∷ of_txn u (ls ++ l ∷ [])) (of_txn u (ls ++ l ∷ [])) ≡ cond b (k ∷ of_txn u ls) (of_txn u ls) ++ cond (l.txn == u) (l ∷ []) []) [
  | true ↦ ap (λ xs. k ∷ xs) (of_more u ls l)
  | false ↦ of_more u ls l
]

-- its writes, with one line more: those of the line, if it is of the transaction
own_more : (u : ℕ) (ls : List AnsweredLine) (l : AnsweredLine) → own_writes u (ls ++ l ∷ []) ≡ own_writes u ls ++ cond (l.txn == u) (filter_map made_by (l ∷ [])) []
own_more u ls l =
    ap (filter_map made_by) (of_more u ls l) ∙ filter_map-append made_by (of_txn u ls) (cond (l.txn == u) (l ∷ []) [])
    ∙ ap (λ xs. own_writes u ls ++ xs) (by_test (l.txn == u))
  where
    by_test : (b : Bool) → filter_map made_by (cond b (l ∷ []) []) ≡ cond b (filter_map made_by (l ∷ [])) []
    by_test true = refl
    by_test false = refl

-- a line that makes no write leaves those of each transaction
own_same : (u : ℕ) (ls : List AnsweredLine) (l : AnsweredLine) → filter_map made_by (l ∷ []) ≡ [] → own_writes u (ls ++ l ∷ []) ≡ own_writes u ls
own_same u ls l none = own_more u ls l ∙ ap (λ xs. own_writes u ls ++ xs) (ap (λ xs. cond (l.txn == u) xs []) none ∙ either (l.txn == u)) ∙ append-nil (own_writes u ls)
  where
    either : (b : Bool) → let none : List Write = [] in cond b none none ≡ none
    either true = refl
    either false = refl

-- the last of the lists has one write more, and each other is as it was
last_get : (lists : List (List Write)) (w : Write) (n : ℕ) (ws : List Write) → slice_get lists n ≡ Some ws → slice_get (last_with lists w) n ≡ Some (ws ++ cond (length lists == suc n) (w ∷ []) [])
last_get [] w n ws e = cc
last_get (v ∷ []) w zero ws e = let same : v ≡ ws = some_same e in ap (λ xs. Some (xs ++ w ∷ [])) same ∙ ap (λ b. Some (ws ++ cond b (w ∷ []) [])) (sym (self_eq 1))
  where
    some_same : {x y : List Write} → ◌≡◌ {A = Option (List Write)} (Some x) (Some y) → x ≡ y
    some_same e = cc
last_get (v ∷ []) w (suc n) ws e = cc
last_get (v ∷ u ∷ vs) w zero ws e =
    let other : (length (v ∷ u ∷ vs) == 1) ≡ false = ne_eqb (length (v ∷ u ∷ vs)) 1 (λ f. absurd (omega (arith, f))) in
    e ∙ ap Some (sym (append-nil ws)) ∙ ap (λ b. Some (ws ++ cond b (w ∷ []) [])) (sym other)
last_get (v ∷ u ∷ vs) w (suc n) ws e = last_get (u ∷ vs) w n ws e ∙ ap (λ b. Some (ws ++ cond b (w ∷ []) [])) (sucs (length (u ∷ vs)) (suc n))
  where
    sucs : (a b : ℕ) → (a == b) ≡ (suc a == suc b)
    sucs a b = grind (arith, nat_tests)

get_front : {X : Type 0} (xs ys : List X) (n : ℕ) (x : X) → slice_get xs n ≡ Some x → slice_get (xs ++ ys) n ≡ Some x
get_front [] ys n x e = cc
get_front (y ∷ xs) ys zero x e = e
get_front (y ∷ xs) ys (suc n) x e = get_front xs ys n x e

get_behind : {X : Type 0} (xs : List X) (x : X) (n : ℕ) → n ≡ length xs → slice_get (xs ++ x ∷ []) n ≡ Some x
get_behind [] x zero e = refl
get_behind [] x (suc n) e = absurd (omega (arith, e))
get_behind (y ∷ xs) x zero e = absurd (omega (arith, e))
get_behind (y ∷ xs) x (suc n) e = get_behind xs x n (omega (arith, e))

-- each transaction's list has what its lines wrote
abbrev pub MadeByTxn : List (List Write) → ℕ → List AnsweredLine → Type 0
MadeByTxn made begun lines = (n : ℕ) → n < begun → slice_get made n ≡ Some (own_writes (suc n) lines)

module _ (made : List (List Write)) (begun : ℕ) (lines : List AnsweredLine) (counted : length made ≡ begun) (numbered : AreNumbered 0 lines begun) (by_txn : MadeByTxn made begun lines) (c : Command) (a : Answer) where
  kept : (r : Command) → c ≡ r → write_of r ≡ None → MadeByTxn made begun (lines ++ line_of begun c a ∷ [])
  kept r is none n lt = by_txn n lt ∙ ap Some (sym (own_same (suc n) lines (line_of begun c a) (none_made c r is none begun a)))

  pub txn_more : (r : Command) → c ≡ r → MadeByTxn (made_behind made r a) (next_txn begun r) (lines ++ line_of (next_txn begun r) c a ∷ [])
  txn_more commands.Begin is n lt =
      let same : own_writes (suc n) (lines ++ line_of (begun + 1) c a ∷ []) ≡ own_writes (suc n) lines = own_same (suc n) lines (line_of (begun + 1) c a) (none_made c commands.Begin is refl (begun + 1) a) in
      elim (cases_eq n begun) as (λ _. slice_get (made ++ [] ∷ []) n ≡ Some (own_writes (suc n) (lines ++ line_of (begun + 1) c a ∷ []))) [
        | inl e ↦ get_behind made [] n (e ∙ sym counted) ∙ ap Some (sym (same ∙ ap (filter_map made_by) (none_later 0 lines begun (suc n) numbered (omega (arith, e)))))
        | inr other ↦ get_front made ([] ∷ []) n (own_writes (suc n) lines) (by_txn n (less n begun lt other)) ∙ ap Some (sym same)
      ]
    where
      less : (n m : ℕ) → n < m + 1 → (n ≡ m → ⊥) → n < m
      less n m lt other = omega (arith, lt, other)
  txn_more commands.Commit is n lt = kept commands.Commit is refl n lt
  txn_more commands.Abort is n lt = kept commands.Abort is refl n lt
  txn_more (commands.Write w) is n lt = by_write (effect a).writes refl
    where
      written : filter_map made_by (line_of begun c a ∷ []) ≡ cons_option (cond (effect a).writes (Some w) None) []
      written = ap (λ x. cons_option (cond (effect a).writes x None) []) (ap write_of is)

      by_write : (b : Bool) → (effect a).writes ≡ b → slice_get (cond (effect a).writes (last_with made w) made) n ≡ Some (own_writes (suc n) (lines ++ line_of begun c a ∷ []))
      by_write true e =
          ap (λ b. slice_get (cond b (last_with made w) made) n) e
          ∙ last_get made w n (own_writes (suc n) lines) (by_txn n lt)
          ∙ (λ i. Some (own_writes (suc n) lines ++ cond (counted i == suc n) (sym (written ∙ ap (λ b. cons_option (cond b (Some w) None) []) e) i) []))
          ∙ ap Some (sym (own_more (suc n) lines (line_of begun c a)))
      by_write false e =
          ap (λ b. slice_get (cond b (last_with made w) made) n) e
          ∙ by_txn n lt
          ∙ ap Some (sym (own_same (suc n) lines (line_of begun c a) (written ∙ ap (λ b. cons_option (cond b (Some w) None) []) e)))
  txn_more (commands.Read query) is n lt = kept (commands.Read query) is refl n lt
  txn_more (commands.Run kernel file) is n lt = kept (commands.Run kernel file) is refl n lt
