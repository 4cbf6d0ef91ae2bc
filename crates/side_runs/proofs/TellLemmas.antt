-- What the lines so far tell of the account of their pass, and that one line more keeps it.
use Rattle.std.proofs.Common.{◌≡◌, ℕ, ◌+◌, ◌≤◌, List, [], ◌∷◌, ◌++◌, length, refl, sym, ◌∙◌, ap, subst, arith, length-append}
use Rattle.std.specs.Prelude.{Bool, true, false, ◌||◌, Option, Some, None, is_some}
use Rattle.std.specs.List.{filter_map, cons_option, list_any}
use Rattle.std.proofs.lemmas.Bool.{true≢false}
use Rattle.std.proofs.lemmas.List.{append-nil}
use Rattle.std.proofs.lemmas.List.Elements.{filter_map-append}
use Rattle.std.proofs.lemmas.Option.{none-some}
use Rattle.graph_model.specs.declared.write.Kind.{Kind}
use Rattle.graph_model.specs.declared.write.Write.{Write}
use Rattle.graph_model.specs.declared.journal.Commit.{Commit}
use Rattle.graph_model.specs.Account.{Account, Sighting}
use Rattle.graph_model.specs.AccountSteps.{ReadsBy, begun_at, with_write, last_with}
use Rattle.graph_model.proofs.PlaceLemmas.{some_eq}
use Rattle.run_model.specs.declared.command.Command.{Command}
use Rattle.run_model.specs.declared.answer.Answer.{Answer}
use Rattle.run_model.specs.declared.answer.Answer.TheVariants as answers
use Rattle.run_model.specs.declared.command.Command.TheVariants as commands
use Rattle.run_model.specs.Commands.{next_txn, write_of, IsScript}
use Rattle.run_model.specs.AnsweredLines.{AnsweredLine, effect, made_by, of_txn, own_writes, is_stopped, start_of, newest_shown}
use Rattle.run_model.specs.Run.{load_stamp, txn_name}
use Rattle.run_model.specs.UnderWay.{AreNumbered}
use Rattle.run_model.proofs.LineLemmas.{numbered_more, none_later, own_more, stopped_more, start_more, start_first, shown_more}
use Rattle.side_runs.specs.ByAccount.{made_behind}
use Rattle.side_runs.proofs.MadeLemmas.{line_of, none_made, made_more, made_count, MadeByTxn, txn_more, last_more, flat}

-- what a pass has made is what its lines wrote
pub record Lists (begun : ℕ) (made : List (List Write)) (before : List AnsweredLine) : Type 0 where
  pub numbered : AreNumbered 0 before begun
  pub counted : length made ≡ begun
  pub by_txn : MadeByTxn made begun before
  pub wrote : flat made ≡ filter_map made_by before

-- the open transaction is the one that the lines tell of
pub record ToldBy (before : List AnsweredLine) (now : Account) (start : ℕ) : Type 0 where
  pub begins : start_of now.begun before ≡ start
  pub own_is : now.own ≡ own_writes now.begun before
  pub going : is_stopped now.begun before ≡ false
  pub last : (earlier : List (List Write)) × (now.made ≡ earlier ++ now.own ∷ [])

-- where the script is
pub record IsAt (load : List Write) (before : List AnsweredLine) (skipping : Bool) (now : Account) (left : List Command) : Type 0 where
  pub started : (start : ℕ) → now.start ≡ Some start → (load_stamp load ≤ start) × (start ≤ length now.seen)
  pub told : (start : ℕ) → now.start ≡ Some start → ToldBy before now start
  pub stopped : skipping ≡ true → is_stopped now.begun before ≡ true
  pub closed : skipping ≡ true → now.start ≡ None
  pub script : IsScript (Some (skipping || is_some now.start)) left

-- the lines so far, and the account behind them
pub record Tells (kind : Kind) (load : List Write) (job : ℕ) (before : List AnsweredLine) (skipping : Bool) (now : Account) (left : List Command)
    : Type 0 where
  pub job_is : now.job ≡ job
  pub kind_is : now.kind ≡ kind
  pub lists : Lists now.begun now.made before
  pub shown : newest_shown before ≤ length now.seen
  pub loaded : load_stamp load ≤ length now.seen
  pub place : IsAt load before skipping now left

or_false : (t : Bool) → (t || false) ≡ t
or_false true = refl
or_false false = refl

module _ (kind : Kind) (load : List Write) (job : ℕ) (before : List AnsweredLine) (skipping : Bool) (now : Account) where
  -- where more is seen, the lines tell what they told
  seen_more : (left : List Command) → Tells kind load job before skipping now left → (seen rest : List Commit) → seen ≡ now.seen ++ rest → Tells kind load job before skipping (record now { seen = seen }) left
  seen_more left t seen rest e =
      let longer : length seen ≡ length now.seen + length rest = ap length e ∙ length-append now.seen rest in
      record {
        job_is = t.job_is;
        kind_is = t.kind_is;
        lists = t.lists;
        shown = omega (arith, t.shown, longer);
        loaded = omega (arith, t.loaded, longer);
        place = record {
          started = λ start f. (let s = t.place.started start f in (s.0, omega (arith, s.1, longer)));
          told = λ start f. (let o = t.place.told start f in record { begins = o.begins; own_is = o.own_is; going = o.going; last = o.last });
          stopped = t.place.stopped;
          closed = t.place.closed;
          script = t.place.script;
        };
      }

  pub tells_wait : (left : List Command) (new : Account) → Tells kind load job before skipping now left → ReadsBy now new → Tells kind load job before skipping new left
  tells_wait left new t g = subst (λ a. Tells kind load job before skipping a left) (sym g.others) (seen_more left t new.seen g.seen.0 g.seen.1)

  module _ (c : Command) (rest : List Command) (t : Tells kind load job before skipping now (c ∷ rest)) (seen more : List Commit) (e : seen ≡ now.seen ++ more) where
    abbrev line : Answer → AnsweredLine
    line a = line_of (next_txn now.begun c) c a

    longer : length seen ≡ length now.seen + length more
    longer = ap length e ∙ length-append now.seen more

    lists_more : (a : Answer) → ((effect a).writes ≡ true → (earlier : List (List Write)) × (now.made ≡ earlier ++ now.own ∷ []))
        → Lists (next_txn now.begun c) (made_behind now.made c a) (before ++ line a ∷ [])
    lists_more a opened = record {
      numbered = numbered_more 0 before now.begun c a t.lists.numbered;
      counted = made_count now.made now.begun c a t.lists.counted;
      by_txn = txn_more now.made now.begun before t.lists.counted t.lists.numbered t.lists.by_txn c a c refl;
      wrote = made_more now.made now.own (next_txn now.begun c) c a opened c refl
          ∙ ap (λ xs. xs ++ filter_map made_by (line a ∷ [])) t.lists.wrote ∙ sym (filter_map-append made_by before (line a ∷ []));
    }

    lists_to : (a : Answer) (begun : ℕ) (made : List (List Write)) → next_txn now.begun c ≡ begun → made_behind now.made c a ≡ made
        → ((effect a).writes ≡ true → (earlier : List (List Write)) × (now.made ≡ earlier ++ now.own ∷ [])) → Lists begun made (before ++ line a ∷ [])
    lists_to a begun made f g opened =
        subst (λ n. Lists n made (before ++ line a ∷ [])) f (subst (λ m. Lists (next_txn now.begun c) m (before ++ line a ∷ [])) g (lists_more a opened))

    -- the line, once it is known where the script is behind it
    with_line : (a : Answer) (new : Account) (skips : Bool) → new.job ≡ now.job → new.kind ≡ now.kind → new.seen ≡ seen → Lists new.begun new.made (before ++ line a ∷ [])
        → (effect a).stamp ≤ length seen → IsAt load (before ++ line a ∷ []) skips new rest → Tells kind load job (before ++ line a ∷ []) skips new rest
    unfolding longer
    with_line a new skips job_is kind_is seen_is lists stamp place =
        let same : length new.seen ≡ length seen = ap length seen_is in
        record {
          job_is = job_is ∙ t.job_is;
          kind_is = kind_is ∙ t.kind_is;
          lists = lists;
          shown = shown_more before (line a) (length new.seen) (omega (arith, t.shown, longer, same)) (omega (arith, stamp, same));
          loaded = omega (arith, t.loaded, longer, same);
          place = place;
        }

    -- no transaction is open behind the line
    at_none : (a : Answer) (new : Account) (skips : Bool) → new.start ≡ None → (skips ≡ true → is_stopped new.begun (before ++ line a ∷ []) ≡ true) → IsScript (Some skips) rest
        → IsAt load (before ++ line a ∷ []) skips new rest
    at_none a new skips none stop script = record {
      started = λ start f. absurd (none-some start (sym none ∙ f));
      told = λ start f. absurd (none-some start (sym none ∙ f));
      stopped = stop;
      closed = λ f. none;
      script = subst (λ b. IsScript (Some b) rest) (sym (ap (λ x. skips || is_some x) none ∙ or_false skips)) script;
    }

    -- one is
    at_open : (a : Answer) (new : Account) (start : ℕ) → new.start ≡ Some start → load_stamp load ≤ start → start ≤ length new.seen → ToldBy (before ++ line a ∷ []) new start → IsScript (Some true) rest
        → IsAt load (before ++ line a ∷ []) false new rest
    at_open a new start one loaded within told script = record {
      started = λ s f. (let same : start ≡ s = some_eq start s (sym one ∙ f) in (omega (arith, loaded, same), omega (arith, within, same)));
      told = λ s f. subst (λ n. ToldBy (before ++ line a ∷ []) new n) (some_eq start s (sym one ∙ f)) told;
      stopped = λ f. absurd (true≢false (sym f));
      closed = λ f. absurd (true≢false (sym f));
      script = subst (λ b. IsScript (Some b) rest) (sym (ap is_some one)) script;
    }

    -- ---- the kinds of lines

    abbrev over : Option ℕ → List Write → List Sighting → Bool → List ℕ → Account
    over start own sighted filled stamps = record now { seen = seen; start = start; own = own; sighted = sighted; filled = filled; stamps = stamps }

    -- the transaction is over behind the line, or it was
    pub tells_over : (a : Answer) (skips : Bool) (start : Option ℕ) (own : List Write) (sighted : List Sighting) (filled : Bool) (stamps : List ℕ) → start ≡ None
        → next_txn now.begun c ≡ now.begun → made_behind now.made c a ≡ now.made
        → (effect a).writes ≡ false → (effect a).stamp ≤ length seen
        → (skips ≡ true → (is_stopped now.begun before || ((effect a).stops || false)) ≡ true) → IsScript (Some skips) rest
        → Tells kind load job (before ++ line a ∷ []) skips (over start own sighted filled stamps) rest
    tells_over a skips start own sighted filled stamps none same made no_write stamp stop script =
        with_line a (over start own sighted filled stamps) skips refl refl refl (lists_to a now.begun now.made same made (λ f. absurd (true≢false (sym f ∙ no_write)))) stamp
        (at_none a (over start own sighted filled stamps) skips none (λ f. stopped_more now.begun before (line a) same ∙ stop f) script)

    -- a transaction begins
    pub tells_begun : (start : ℕ) → c ≡ commands.Begin → length now.seen ≤ start → start ≤ length seen → IsScript (Some true) rest
        → Tells kind load job (before ++ line (answers.Begun (txn_name job (now.begun + 1)) start) ∷ []) false (record (begun_at now start) { seen = seen }) rest
    tells_begun start is from until script =
        let a : Answer = answers.Begun (txn_name job (now.begun + 1)) start in
        let new : Account = record (begun_at now start) { seen = seen } in
        let one : next_txn now.begun c ≡ now.begun + 1 = ap (next_txn now.begun) is in
        let none : of_txn (now.begun + 1) before ≡ [] = none_later 0 before now.begun (now.begun + 1) t.lists.numbered (omega arith) in
        let nothing : filter_map made_by (line a ∷ []) ≡ [] = none_made c commands.Begin is refl (next_txn now.begun c) a in
        with_line a new false refl refl refl (lists_to a (now.begun + 1) (now.made ++ [] ∷ []) one (ap (λ r. made_behind now.made r a) is) (λ f. absurd (true≢false (sym f)))) until
        (at_open a new start refl (omega (arith, t.loaded, from)) until
        (record {
          begins = start_first (now.begun + 1) before (line a) one start none refl;
          own_is = sym (own_more (now.begun + 1) before (line a) one ∙ (λ i. filter_map made_by (none i) ++ nothing i));
          going = stopped_more (now.begun + 1) before (line a) one ∙ ap (λ ls. list_any (λ x. (effect x.answer).stops) ls || false) none;
          last = (now.made, refl);
        }) script)

    -- the transaction goes on
    module _ (same : next_txn now.begun c ≡ now.begun) (start : ℕ) (opened : now.start ≡ Some start) (script : IsScript (Some true) rest) where
      told : ToldBy before now start
      told = t.place.told start opened

      within : start ≤ length seen
      unfolding longer
      within = let s = t.place.started start opened in omega (arith, s.1, longer)

      behind_load : load_stamp load ≤ start
      behind_load = (t.place.started start opened).0

      pub tells_plain : (a : Answer) → made_behind now.made c a ≡ now.made → filter_map made_by (line a ∷ []) ≡ [] → (effect a).start ≡ None → (effect a).writes ≡ false → (effect a).stops ≡ false → (effect a).stamp ≡ 0
          → Tells kind load job (before ++ line a ∷ []) false (record now { seen = seen }) rest
      unfolding told within behind_load
      tells_plain a made nothing no_start no_write no_stop stamp =
          let new : Account = record now { seen = seen } in
          with_line a new false refl refl refl (lists_to a now.begun now.made same made (λ f. absurd (true≢false (sym f ∙ no_write)))) (omega (arith, stamp))
          (at_open a new start opened behind_load within
          (record {
            begins = start_more now.begun before (line a) same no_start ∙ told.begins;
            own_is = told.own_is ∙ sym (own_more now.begun before (line a) same ∙ ap (λ xs. own_writes now.begun before ++ xs) nothing ∙ append-nil _);
            going = stopped_more now.begun before (line a) same ∙ (λ i. told.going i || (no_stop i || false));
            last = told.last;
          }) script)

      pub tells_written : (w : Write) → c ≡ commands.Write w → Tells kind load job (before ++ line answers.Done ∷ []) false (record (with_write now w) { seen = seen }) rest
      unfolding told within behind_load
      tells_written w is =
          let new : Account = record (with_write now w) { seen = seen } in
          let a : Answer = answers.Done in
          let wrote : filter_map made_by (line a ∷ []) ≡ w ∷ [] = ap (λ r. cons_option (write_of r) []) is in
          with_line a new false refl refl refl (lists_to a now.begun (last_with now.made w) same (ap (λ r. made_behind now.made r a) is) (λ f. told.last)) (omega arith)
          (at_open a new start opened behind_load within
          (record {
            begins = start_more now.begun before (line a) same refl ∙ told.begins;
            own_is = (λ i. told.own_is i ++ sym wrote i) ∙ sym (own_more now.begun before (line a) same);
            going = stopped_more now.begun before (line a) same ∙ ap (λ b. b || false) told.going;
            last = (told.last.0, ap (λ xs. last_with xs w) told.last.1 ∙ last_more told.last.0 now.own w);
          }) script)
