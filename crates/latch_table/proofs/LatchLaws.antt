-- Each step on a version word keeps the rule of the latch table.
use Rattle.std.proofs.Common.{◌≡◌, ◌≢◌, ⊎_elim, ℕ, ◌+◌, ◌%◌, ◌<◌, eqb, List, [], ◌∷◌, length, set, refl, sym, ◌∙◌, ap, subst, arith, Some, length-set, get_or-set_other, get_or-set_same, eq-eqb, ne_eqb}
use Rattle.std.specs.Prelude.{Bool, true, false, ◌==◌, ◌||◌, slice_index}
use mathlib.Core.Option.{some, none}
use mathlib.Core.Logic.{dite}
use native.Mathlib.Decide.{ℕ_discrete}
use lib.ListN.{get_elem?}
use lib.Seq.{set-get_or}
use prog.Atomic.{either}
use Rattle.atomic_table.specs.Table.{State, Me, step, keeps, takes, gives, stepped, rest, put_back, Allows}
use Rattle.atomic_table.proofs.Lists.{set_here, set_else}
use Rattle.seat_views.specs.Keeping.{kept_at, put}
use Rattle.seat_views.proofs.NumberLemmas.{at_set, one_kept, put_here, put_else, same_number, other_number}
use Rattle.seat_views.proofs.KeepLemmas.{kept_news, kept_same}
use Rattle.latch_table.specs.declared.sight.LatchSight.{LatchSight}
use Rattle.latch_table.specs.Latched.{IsEven, is_held, without_cell, number_of, cells_of, looked, took, gave, out_of, IsLatched, Took, IsPassSeat}
use Rattle.latch_table.proofs.HeldLemmas.{held_without, gone}

apart : false ≡ true → ⊥
apart e = cc

module _ {S K : Type 0} (fits : K → ℕ → S → Type 0) (passes : ℕ) (k : K) where
  module _ (s : State S (LatchSight K)) (r : IsLatched fits passes k s) (id : ℕ) (v : LatchSight K)
      (at : get_elem? s.views id ≡ some v) where
    known_now : (new : LatchSight K) → new.key ≡ v.key → (j : ℕ) (w : LatchSight K) (x : K)
        → get_elem? (set s.views id new) j ≡ some w → w.key ≡ Some x → x ≡ k
    known_now new same j w x e has =
        ⊎_elim
        (λ (t : (j ≡ id) × (new ≡ w)). r.known id v x at (sym same ∙ ap (λ (u : LatchSight K). u.key) t.1
        ∙ has))
        (λ (t : (j ≢ id) × (get_elem? s.views j ≡ some w)). r.known j w x t.1 has)
        (at_set s.views id j new w e)

    -- a look changes nothing but what the seat has found
    looks_at : (c : ℕ) (new : LatchSight K) → new.key ≡ v.key → new.passes ≡ v.passes
        → IsLatched fits passes k record {
          words = set s.words c (slice_index s.words c);
          homes = s.homes;
          views = set s.views id new;
        }
    looks_at c new key same = subst (λ (ws : List ℕ). IsLatched fits passes k record {
      words = ws;
      homes = s.homes;
      views = set s.views id new;
    }) (sym (set-get_or s.words c 0)) record {
      wide = r.wide;
      known = known_now new key;
      home = r.home;
      holds = r.holds;
      keeper = r.keeper;
      kept = kept_same (λ (u : LatchSight K). u.passes) s.views r.holds r.keeper r.kept id v at new same;
      held = r.held;
      odd = r.odd;
      alone = r.alone;
    }

    -- ---- one word and one slot change

    module _ (c word : ℕ) (slot : mathlib.Core.Option.Option S) where
      word_here : c < length s.homes → (d : ℕ) → d ≡ c → slice_index (set s.words c word) d ≡ word
      word_here inside d same = ap (slice_index (set s.words c word)) same
          ∙ get_or-set_same s.words c word 0 (subst (λ m. c < m) (sym r.wide) inside)

      word_else : (d : ℕ) → d ≢ c → slice_index (set s.words c word) d ≡ slice_index s.words d
      word_else d other = get_or-set_other s.words c d word 0 other

      wide_now : length (set s.words c word) ≡ length (set s.homes c slot)
      wide_now = length-set s.words c word ∙ r.wide ∙ sym (length-set s.homes c slot)

      home_else : (d : ℕ) → d ≢ c → d < length (set s.homes c slot)
          → IsEven (slice_index (set s.words c word) d)
          → (x : S) × (get_elem? (set s.homes c slot) d ≡ some (some x)) × fits k d x
      home_else d other inside even =
          let a = r.home d (subst (λ m. d < m) (length-set s.homes c slot) inside)
          (sym (ap (λ m. m % 2) (word_else d other)) ∙ even) in
          (a.0, set_else s.homes c d slot other ∙ a.1, a.2)

    module _ (has : kept_at v.passes (number_of v) ≡ Some (cells_of v)) where
      is_cells : r.holds (number_of v) ≡ cells_of v
      is_cells = (r.kept id v (number_of v) (cells_of v) at has).1

      -- the cells that all hold, when this seat's pass holds these
      abbrev holds_now : List ℕ → ℕ → List ℕ
      holds_now cells = put r.holds (number_of v) cells

      mine_now : (cells : List ℕ) (d p : ℕ) → p ≡ number_of v → is_held d (holds_now cells p) ≡ is_held d cells
      mine_now cells d p same = ap (λ q. is_held d (holds_now cells q)) same
          ∙ ap (is_held d) (put_here r.holds (number_of v) cells)

      others_now : (cells : List ℕ) (d p : ℕ) → p ≢ number_of v
          → is_held d (holds_now cells p) ≡ is_held d (r.holds p)
      others_now cells d p other = ap (is_held d) (put_else r.holds (number_of v) cells p other)

      -- a cell that this pass holds as before is held as before
      held_still : (cells : List ℕ) (d : ℕ) → is_held d cells ≡ is_held d (cells_of v) → (p : ℕ)
          → is_held d (holds_now cells p) ≡ is_held d (r.holds p)
      held_still cells d same p =
          dite (ℕ_discrete p (number_of v))
          (λ e. mine_now cells d p e ∙ same ∙ ap (is_held d) (sym is_cells ∙ ap r.holds (sym e)))
          (λ other. others_now cells d p other)

      takes_held : (c old n : ℕ) → c < length s.homes → number_of v < passes → slice_index s.words c ≡ old
          → IsEven old
          → IsLatched fits passes k record {
            words = set s.words c (old + 1);
            homes = set s.homes c none;
            views = set s.views id (took v c n);
          }
      takes_held c old n inside small hit even = record {
        wide = wide_now c (old + 1) none;
        known = known_now (took v c n) refl;
        home = λ d in_d even_d. dite (ℕ_discrete d c)
            (λ same. let e : (old + 1) % 2 ≡ 0 = sym
            (ap (λ m. m % 2) (word_here c (old + 1) none inside d same)) ∙ even_d in absurd (omega arith))
            (λ other. home_else c (old + 1) none d other in_d even_d);
        holds = holds_now now;
        keeper = r.keeper;
        kept = kept_news (λ (u : LatchSight K). u.passes) s.views r.holds r.keeper r.kept id v at (took v c n)
            ((number_of v, now) ∷ []) refl (one_kept v.passes (number_of v) (cells_of v) now has);
        held = λ d in_d odd_d. dite (ℕ_discrete d c)
            (λ same. (
              number_of v,
              small,
              mine_now now d (number_of v) refl
                  ∙ ap (λ t. t || is_held d (cells_of v)) (ap (λ e. e == c) same ∙ same_number c),
            ))
            (λ other.
            let a = r.held d (subst (λ m. d < m) (length-set s.homes c none) in_d)
            (sym (ap (λ m. m % 2) (word_else c (old + 1) none d other)) ∙ odd_d) in
            (a.0, a.1, still d other a.0 ∙ a.2));
        odd = λ d p h. dite (ℕ_discrete d c)
            (λ same. ap (λ m. m % 2) (word_here c (old + 1) none inside d same) ∙ (let e = even in omega arith))
            (λ other. ap (λ m. m % 2) (word_else c (old + 1) none d other)
            ∙ r.odd d p (sym (still d other p) ∙ h));
        alone = λ d p q hp hq. dite (ℕ_discrete d c)
            (λ same. mine d same p hp ∙ sym (mine d same q hq))
            (λ other. r.alone d p q (sym (still d other p) ∙ hp) (sym (still d other q) ∙ hq));
      }
        where
          now : List ℕ
          now = c ∷ cells_of v

          still : (d : ℕ) → d ≢ c → (p : ℕ) → is_held d (holds_now now p) ≡ is_held d (r.holds p)
          still d other = held_still now d (ap (λ t. t || is_held d (cells_of v)) (other_number d c other))

          -- whoever holds the cell now is this seat's pass
          mine : (d : ℕ) → d ≡ c → (p : ℕ) → is_held d (holds_now now p) ≡ true → p ≡ number_of v
          mine d same p h = dite (ℕ_discrete p (number_of v)) (λ e. e) (λ ne.
              let o = r.odd c p (ap (λ e. is_held e (r.holds p)) (sym same) ∙ sym (others_now now d p ne)
              ∙ h) in
              let f : old % 2 ≡ 1 = ap (λ m. m % 2) (sym hit) ∙ o in absurd (omega arith))

      gives_held : (c word : ℕ) (value : S) → c < length s.homes → IsEven word → fits k c value
          → is_held c (cells_of v) ≡ true
          → IsLatched fits passes k record {
            words = set s.words c word;
            homes = set s.homes c (some value);
            views = set s.views id (gave v c word);
          }
      gives_held c word value inside even fit holding = record {
        wide = wide_now c word (some value);
        known = known_now (gave v c word) refl;
        home = λ d in_d even_d. dite (ℕ_discrete d c)
            (λ same. (
              value,
              ap (get_elem? (set s.homes c (some value))) same
                  ∙ set_here s.homes c (some value) inside,
              subst (λ m. fits k m value) (sym same) fit,
            ))
            (λ other. home_else c word (some value) d other in_d even_d);
        holds = holds_now now;
        keeper = r.keeper;
        kept = kept_news (λ (u : LatchSight K). u.passes) s.views r.holds r.keeper r.kept id v at
            (gave v c word) ((number_of v, now) ∷ []) refl
            (one_kept v.passes (number_of v) (cells_of v) now has);
        held = λ d in_d odd_d. dite (ℕ_discrete d c)
            (λ same. let e : word % 2 ≡ 1 = sym (ap (λ m. m % 2) (word_here c word (some value) inside d same))
            ∙ odd_d in absurd (omega arith))
            (λ other.
            let a = r.held d (subst (λ m. d < m) (length-set s.homes c (some value)) in_d)
            (sym (ap (λ m. m % 2) (word_else c word (some value) d other)) ∙ odd_d) in
            (a.0, a.1, still d other a.0 ∙ a.2));
        odd = λ d p h. dite (ℕ_discrete d c)
            (λ same. absurd (nobody d same p h))
            (λ other. ap (λ m. m % 2) (word_else c word (some value) d other)
            ∙ r.odd d p (sym (still d other p) ∙ h));
        alone = λ d p q hp hq. dite (ℕ_discrete d c)
            (λ same. absurd (nobody d same p hp))
            (λ other. r.alone d p q (sym (still d other p) ∙ hp) (sym (still d other q) ∙ hq));
      }
        where
          now : List ℕ
          now = without_cell c (cells_of v)

          still : (d : ℕ) → d ≢ c → (p : ℕ) → is_held d (holds_now now p) ≡ is_held d (r.holds p)
          still d other = held_still now d (held_without d c (cells_of v) other)

          nobody : (d : ℕ) → d ≡ c → (p : ℕ) → is_held d (holds_now now p) ≡ true → ⊥
          nobody d same p h = dite (ℕ_discrete p (number_of v))
              (λ e. apart (sym (mine_now now d p e ∙ ap (λ x. is_held x now) same ∙ gone c (cells_of v)) ∙ h))
              (λ ne. ne (r.alone c p (number_of v) (ap (λ e. is_held e (r.holds p)) (sym same)
              ∙ sym (others_now now d p ne) ∙ h) (ap (is_held c) is_cells ∙ holding)))

  -- ---- kinds of step

  module _ (slots id : ℕ) (me : Me S (LatchSight K)) where
    -- a load
    pub looks : (c : ℕ) → Allows (IsLatched fits passes k) slots id me c (λ n. n)
        (λ n m. m ≡ (looked me.0 c n, me.1))
    looks c s r deep at lt = (
      looked me.0 c (slice_index s.words c),
      keeps,
      tt,
      looks_at s r id me.0 at c (looked me.0 c (slice_index s.words c)) refl refl,
      refl,
    )

    -- a compare-exchange of an even word by the odd one above it
    pub takes_cell : (c old : ℕ) → c < slots → IsEven old → IsPassSeat passes k me
        → Allows (IsLatched fits passes k) slots id me c (λ n. either (eqb n old) (old + 1) n)
        (Took fits (step slots c old (old + 1) none) me)
    takes_cell c old inside even seat s r deep at lt =
        let n : ℕ = slice_index s.words c in
        let in_homes : c < length s.homes = subst (λ m. c < m) (sym deep) inside in
        dite (ℕ_discrete n old)
        (λ hit.
        let h = r.home c in_homes (ap (λ m. m % 2) hit ∙ even) in
        let free : is_held c (cells_of me.0) ≡ false = not_held c (is_held c (cells_of me.0)) (λ e.
        let o = r.odd c (number_of me.0) (ap (is_held c) (is_cells s r id me.0 at seat.some) ∙ e) in
        let f : old % 2 ≡ 1 = ap (λ m. m % 2) (sym hit) ∙ o in absurd (omega arith)) in (
          took me.0 c n,
          takes c h.0,
          h.1,
          subst (λ b. IsLatched fits passes k (stepped s c (either b (old + 1) n) id me.1 (took me.0 c n)
              (takes c h.0))) (sym (eq-eqb n old hit))
              (takes_held s r id me.0 at seat.some c old n in_homes seat.small hit even),
          record {
            hit = λ _. (
              h.0,
              refl,
              (λ x is. subst (λ y. fits y c h.0) (sym (r.known id me.0 x at is)) h.2),
              free,
            );
            miss = λ ne. absurd (ne hit);
          },
        ))
        (λ miss. (
          looked me.0 c n,
          keeps,
          tt,
          subst (λ b. IsLatched fits passes k (stepped s c (either b (old + 1) n) id me.1
              (looked me.0 c n) keeps)) (sym (ne_eqb n old miss))
              (looks_at s r id me.0 at c (looked me.0 c n) refl refl),
          record { hit = λ hit. absurd (miss hit); miss = λ _. refl },
        ))
      where
        not_held : (c : ℕ) (b : Bool) → (b ≡ true → ⊥) → b ≡ false
        not_held c true never = absurd (never refl)
        not_held c false never = refl

    -- a store of an even word, once the value is back in the slot that comes first
    pub gives_cell : (c word : ℕ) (value : S) → c < slots → IsEven word → IsPassSeat passes k me
        → me.1 ≡ (c, value) ∷ rest me.1 → fits k c value
        → Allows (IsLatched fits passes k) slots id me c (λ _. word) (λ _ m. m ≡ (gave me.0 c word, rest me.1))
    gives_cell c word value inside even seat lies fit s r deep at lt =
        let in_homes : c < length s.homes = subst (λ m. c < m) (sym deep) inside in
        let homes : put_back s.homes me.1 ≡ set s.homes c (some value) = ap (put_back s.homes) lies in
        let holding : is_held c (cells_of me.0) ≡ true = seat.same c ∙ ap (λ l. is_held c (cells_out l)) lies
        ∙ ap (λ t. t || is_held c (cells_out (rest me.1))) (same_number c) in (
          gave me.0 c word,
          gives,
          tt,
          subst (λ hs. IsLatched fits passes k record {
            words = set s.words c word;
            homes = hs;
            views = set s.views id (gave me.0 c word);
          }) (sym homes)
              (gives_held s r id me.0 at seat.some c word value in_homes even fit holding),
          refl,
        )
      where
        cells_out : List (ℕ × S) → List ℕ
        cells_out l = out_of l
